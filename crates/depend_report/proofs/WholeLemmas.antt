-- The first places of a trace, and one more.
use Rattle.std.proofs.Common.{◌≡◌, ℕ, ◌+◌, List, [], ◌∷◌, ◌++◌, length, get_or, inl, inr, refl, sym, ap, subst, ◌∙◌, arith, length-append}
use Rattle.std.proofs.Math.Seq.{get_or-append_seam}
use Rattle.std.proofs.lemmas.Bool.{cases_lt}
use Rattle.std.proofs.lemmas.List.{get_or_append_left}
use Rattle.recording.specs.declared.recording.Recording.{Recording}
use Rattle.depend_log.specs.Places.{IsPlaceWaits}
use Rattle.depend_log.specs.declared.wait.PlaceWaits.{PlaceWaits}
use Rattle.depend_report.specs.Told.{Told, told}
use Rattle.depend_report.specs.Whole.{AreFirst}
use Rattle.depend_report.proofs.ToldLemmas.{spans_long}

pub none_first : (t : Recording) → AreFirst t [] 0
none_first t = record { many = refl; each = λ k d lt. absurd (omega (arith, lt)) }

pub first_more : (t : Recording) (ps : List PlaceWaits) (p : PlaceWaits) (n : ℕ) → AreFirst t ps n → IsPlaceWaits t n p → AreFirst t (ps ++ p ∷ []) (n + 1)
first_more t ps p n first is = record {
  many = length-append ps (p ∷ []) ∙ ap (λ m. m + 1) first.many;
  each = λ k d lt. elim (cases_lt k n) [
    | inl less ↦ subst (IsPlaceWaits t k) (sym (get_or_append_left ps (p ∷ []) d k (omega (arith, less, first.many)))) (first.each k d less)
    | inr past ↦
        let at : k ≡ length ps = omega (arith, lt, past, first.many) in
        let here : get_or (ps ++ p ∷ []) k d ≡ p = rw at (get_or-append_seam ps p [] d) in
        let same : n ≡ k = omega (arith, lt, past) in
        subst (IsPlaceWaits t k) (sym here) (subst (λ m. IsPlaceWaits t m p) same is)
  ];
}

-- each place has a path
pub paths_told : (t : Recording) (ps : List PlaceWaits) (d : Told) (n : ℕ) → d ≡ told t ps → AreFirst t ps n → length d.spans ≡ n
paths_told t ps d n is first = ap (λ (e : Told). length e.spans) is ∙ spans_long ps ∙ first.many
