use Rattle.std.proofs.Common.{◌≡◌, ℕ, leb, cond, take, ap, ◌∙◌, sym, refl, arith}
use Rattle.std.specs.List.{count_by}
use Rattle.std.proofs.Math.Seq.{take-length}
use Rattle.std.proofs.lemmas.Simd.{zip2_of_maps, zip2_splat, splat_is_map, length-chunk}
use Rattle.text_forms.specs.Strings.{is_hidden}
use Rattle.trace_text.proofs.Lanes.{chunk_fits, ones_are}
use Rattle.trace_text.proofs.plain.hidden_in_lanes.Goals as goal
use lib.Lanes.{chunk}

pub returns : goal.returns
returns c =
    let bytes = c.args.bytes.now in
    let v = chunk 0 64 bytes in
    let long = length-chunk 0 64 bytes (omega (arith, c.requires)) in
    let whole : v ≡ bytes = ap (λ (n : ℕ). take n bytes) (sym c.requires) ∙ take-length bytes in
    ones_are is_hidden v _ 64 (omega arith) long (chunk_fits bytes 0 64 c.type_inv.bytes) _
    (zip2_of_maps _ _ _ v
    (zip2_of_maps _ _ _ v
    (zip2_of_maps _ _ _ v (zip2_of_maps (λ a b. cond (leb a b) 255 0) _ _ v (splat_is_map v 64 95 long) (zip2_splat {Y = ℕ} _ v 64 32 long)) (zip2_splat {Y = ℕ} _ v 64 9 long))
    (zip2_splat {Y = ℕ} _ v 64 10 long))
    (zip2_splat {Y = ℕ} _ v 64 13 long))
    refl
    ∙ ap (count_by is_hidden) whole
