use Rattle.std.proofs.Common.{ap, subst, sym, ◌∙◌, ◌++◌, drop, set, length, [], ◌∷◌}
use Rattle.file_tree.specs.Short.{name_in, AreFilled}
use Rattle.file_tree.proofs.Short.{written, name_in-filled, AreFilled-filled}
use Rattle.file_tree.proofs.short_name.ShortName.new.Goals as goal

pub invariant_of-result : goal.invariant_of-result
invariant_of-result c =
    let is = ap (λ xs. set (xs ++ drop (length c.args.name.now) (0 ∷ 0 ∷ 0 ∷ 0 ∷ 0 ∷ 0 ∷ 0 ∷ 0 ∷ 0 ∷ 0 ∷ 0 ∷ 0 ∷ 0 ∷ 0 ∷ 0 ∷ 0 ∷ [])) 15 (length c.args.name.now)) c.copy_from_slice.ensures.after ∙ written c.args.name.now c.if-name-gt-LONGEST.false in
    subst AreFilled (sym is) (AreFilled-filled c.args.name.now c.if-name-gt-LONGEST.false)

pub returns : goal.returns
returns c =
    let is = ap (λ xs. set (xs ++ drop (length c.args.name.now) (0 ∷ 0 ∷ 0 ∷ 0 ∷ 0 ∷ 0 ∷ 0 ∷ 0 ∷ 0 ∷ 0 ∷ 0 ∷ 0 ∷ 0 ∷ 0 ∷ 0 ∷ 0 ∷ [])) 15 (length c.args.name.now)) c.copy_from_slice.ensures.after ∙ written c.args.name.now c.if-name-gt-LONGEST.false in
    (c.if-name-gt-LONGEST.false, ap name_in is ∙ name_in-filled c.args.name.now c.if-name-gt-LONGEST.false)
