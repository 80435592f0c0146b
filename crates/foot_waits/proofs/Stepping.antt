-- One access set more.
use Rattle.std.specs.Prelude.{◌≡◌, ℕ, suc, ◌+◌, List, map}
use Rattle.std.proofs.Common.{sym, ap, ◌∙◌, subst, arith, inl, inr}
use Rattle.std.proofs.lemmas.Bool.{cases_lt}
use Rattle.use_line.specs.declared.line.Span.{Span}
use Rattle.use_line.specs.Known.{Keeps, Uses}
use Rattle.world_parts.specs.Items.{Footprint}
use Rattle.foot_waits.specs.Names.{KeepsNumbers}
use Rattle.foot_waits.specs.Groups.{Grouped, IsAdded}
use Rattle.foot_waits.specs.Rule.{descriptor_uses}
use Rattle.foot_waits.specs.Spots.{AllFit, Numbers, span_for}
use Rattle.foot_waits.specs.Told.{IsAt}
use Rattle.foot_waits.specs.declared.waits.Waits.{Waits}
use Rattle.foot_waits.proofs.Grouping.{keeps_added}
use Rattle.foot_waits.proofs.Renaming.{all_fit_kept, at_kept}

pub at_next : (w : Waits) (t : Numbers) → KeepsNumbers w.names t → (foot : ℕ → Footprint) (f : Footprint) (spans : List Span) (after : Uses) (groups : List Grouped)
    → foot w.place ≡ f → IsAt w foot w.place → spans ≡ map (span_for t) f → AllFit t f
    → ((all : ℕ → List Span) → all w.place ≡ spans → Keeps w.line all w.place → Keeps after all (suc w.place)) → IsAdded w.descriptors groups (descriptor_uses f) w.place
    → IsAt (record w { names = t; line = after; descriptors = groups; place = w.place + 1 }) foot (suc w.place)
at_next w t kept foot f spans after groups is at are fit added grouped =
    let all = λ (i : ℕ). map (span_for t) (foot i) in
    let before = at_kept w.names t kept foot w.line w.place at.keeps at.fit in
    record {
      place = omega arith;
      keeps = added all (ap (map (span_for t)) is ∙ sym are) before;
      groups = keeps_added foot w.place w.descriptors groups (descriptor_uses f) grouped (ap descriptor_uses is) at.groups;
      fit = λ i lt. elim (cases_lt i w.place) [
        | inl less ↦ all_fit_kept w.names t kept (foot i) (at.fit i less)
        | inr le ↦ let e : w.place ≡ i = omega (arith, lt, le) in subst (λ n. AllFit t (foot n)) e (subst (λ g. AllFit t g) (sym is) fit)
      ];
    }
