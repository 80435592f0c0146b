-- The first bytes of shared ones in several pages are those of their front.
use Rattle.std.proofs.Common.{◌≡◌, take, ap, subst, sym, ◌∙◌}
use Rattle.std.proofs.lemmas.List.{take_min, take-take}
use Rattle.extent_bytes.specs.Reading.{IsKept, kept_bytes}
use Rattle.extent_bytes.proofs.reading.ReadBytes.front.Goals.{in-Part, in-Plain, in-Shared}
use Rattle.extent_bytes.proofs.reading.ReadBytes.front.Goals as goal

pub returns : goal.returns
returns c =
    let bytes = c.match-self.bytes.now in
    let count = c.args.count in
    let first : take c.min-end.result bytes ≡ take count bytes = ap (λ n. take n bytes) c.min-end.ensures ∙ take_min count bytes in
    elim c.match-self.branch [
      | in-Plain w ↦ first ∙ ap (λ b. take count b.now) w.bytes-is ∙ ap (take count) w.deref-bytes.ensures.value
          ∙ ap (λ k. take count (kept_bytes k)) (sym w.in-Plain.is) ∙ ap (take count) c.self.view_is
      | in-Part w ↦ first ∙ ap (λ b. take count b.now) w.bytes-is ∙ ap (take count) w.as_slice-bytes.ensures.bytes
          ∙ ap (λ k. take count (kept_bytes k)) (sym w.in-Part.is) ∙ ap (take count) c.self.view_is
      | in-Shared w ↦ (let kept = subst IsKept w.in-Shared.is c.self.invariant in
          first ∙ ap (λ b. take count b.now) w.bytes-is ∙ ap (take count) w.deref-bytes-in-Shared.ensures.value
          ∙ ap (λ b. take count b.front.items) w.deref.ensures ∙ ap (take count) kept.1
          ∙ take-take count 64 w.in-Shared.shared.value.list c.requires
          ∙ ap (λ k. take count (kept_bytes k)) (sym w.in-Shared.is) ∙ ap (take count) c.self.view_is)
    ]
