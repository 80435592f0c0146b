use Rattle.std.proofs.Common.{ℕ, ◌≤◌, ◌-◌, leb, cond, List, ◌++◌, take, drop, ap, ◌∙◌, sym, refl, arith}
use Rattle.std.proofs.lemmas.List.{take-take}
use Rattle.std.specs.List.{flat_map}
use Rattle.text_forms.specs.Strings.{quoted_byte}
use Rattle.std.proofs.lemmas.Simd.{zip2_of_maps, zip2_splat, splat_is_map, length-chunk}
use Rattle.trace_text.proofs.Lanes.{chunk_fits, quoted_front, stored, within}
use Rattle.trace_text.proofs.quoted.put_lanes.Goals as goal
use lib.Lanes.{chunk}

pub returns-clause-few : goal.returns-clause-few
returns-clause-few c =
    let v = chunk c.args.at 16 c.args.bytes.now in
    let long = length-chunk c.args.at 16 c.args.bytes.now c.requires.bytes in
    within v _ 16 _ (omega arith) long c.first_set.ensures _
    (zip2_of_maps _ _ _ v
    (zip2_of_maps _ _ _ v (zip2_of_maps (λ a b. cond (leb a b) 255 0) _ _ v (splat_is_map v 16 95 long) (zip2_splat {Y = ℕ} _ v 16 32 long)) (zip2_splat {Y = ℕ} _ v 16 34 long))
    (zip2_splat {Y = ℕ} _ v 16 92 long))

pub returns-clause-copied : goal.returns-clause-copied
returns-clause-copied c =
    let v = chunk c.args.at 16 c.args.bytes.now in
    let long = length-chunk c.args.at 16 c.args.bytes.now c.requires.bytes in
    let few = returns-clause-few c in
    λ n le.
    let front : n ≤ 16 = omega (arith, le, few) in
    stored c.args.room.now v c.args.used (272 - c.args.used) n (omega (arith, c.requires.room, c.told-room)) long (omega (arith, c.requires.room)) front
    ∙ ap (λ (l : List ℕ). take c.args.used c.args.room.now ++ l)
    (sym (quoted_front v _ 16 _ (omega arith) long c.first_set.ensures _
    (zip2_of_maps _ _ _ v
    (zip2_of_maps _ _ _ v (zip2_of_maps (λ a b. cond (leb a b) 255 0) _ _ v (splat_is_map v 16 95 long) (zip2_splat {Y = ℕ} _ v 16 32 long)) (zip2_splat {Y = ℕ} _ v 16 34 long))
    (zip2_splat {Y = ℕ} _ v 16 92 long))
    (chunk_fits c.args.bytes.now c.args.at 16 c.type_inv.bytes) refl n le))
    ∙ ap (λ (l : List ℕ). take c.args.used c.args.room.now ++ flat_map quoted_byte l) (take-take n 16 (drop c.args.at c.args.bytes.now) front)
