-- What was kept of a reply lies behind what was kept of the others.
use Rattle.std.proofs.Common.{[], ◌∷◌, ◌++◌, map, ap, subst, sym, ◌∙◌}
use Rattle.std.proofs.lemmas.List.{map-append}
use Rattle.std.proofs.lemmas.List.Elements.{All-push}
use Rattle.extent_bytes.proofs.Outcomes.{err_of}
use Rattle.op_meaning.specs.declared.replies.Line.{Line}
use Rattle.op_meaning.specs.Listing.{reply_at, AreThere, IsThere}
use Rattle.op_meaning.proofs.LinesStay.{all-behind, replies-behind}
use Rattle.op_meaning.proofs.replies.Replies.push.Goals as goal

pub returns-in_err-line-clause-err : goal.returns-in_err-line-clause-err
returns-in_err-line-clause-err c =
    let k = c.kept in
    let s = c.self.inside in
    err_of c.from_residual.result (replies-behind s.copied.items k.new.copied.items s.lists.items k.new.lists.items s.lines.items k.ensures.copied k.ensures.lists c.self.invariant ∙ c.self.view_is)

pub returns-in_err-push-clause-err : goal.returns-in_err-push-clause-err
returns-in_err-push-clause-err c =
    let k = c.kept in
    let s = c.self.inside in
    err_of c.from_residual-in_err-push.result (ap (map (reply_at k.new.copied.items k.new.lists.items)) c.in_err-push.ensures.items
    ∙ replies-behind s.copied.items k.new.copied.items s.lists.items k.new.lists.items s.lines.items k.ensures.copied k.ensures.lists c.self.invariant ∙ c.self.view_is)

pub invariant_of-self-2 : goal.invariant_of-self-2
invariant_of-self-2 c =
    let k = c.kept in
    let s = c.self.inside in
    subst (AreThere k.new.copied.items k.new.lists.items) (sym c.in_ok-push.ensures.items)
    (All-push (λ (line : Line). IsThere k.new.copied.items k.new.lists.items line.spot) s.lines.items c.in_ok-line.line (all-behind s.copied.items k.new.copied.items s.lists.items k.new.lists.items s.lines.items k.ensures.copied k.ensures.lists c.self.invariant) c.in_ok-line.ensures.there)

pub returns-clause-ok : goal.returns-clause-ok
returns-clause-ok c =
    let k = c.kept in
    let s = c.self.inside in
    let at = reply_at k.new.copied.items k.new.lists.items in
    let others = replies-behind s.copied.items k.new.copied.items s.lists.items k.new.lists.items s.lines.items k.ensures.copied k.ensures.lists c.self.invariant ∙ c.self.view_is in
    ap (map at) c.in_ok-push.ensures.items ∙ map-append at s.lines.items (c.in_ok-line.line ∷ [])
    ∙ (λ i. others i ++ c.in_ok-line.ensures.value i ∷ [])
