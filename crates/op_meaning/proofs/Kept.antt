-- Each place of a recording replies, and the replies of the sequential run stand at their places.
use Rattle.std.proofs.Common.{◌≡◌, ℕ, zero, suc, ◌<◌, ◌≤◌, [], ◌∷◌, ◌++◌, length, length-append, Some, ⊎_elim, inl, inr, refl, sym, ap, ◌∙◌, arith}
use Rattle.std.specs.Prelude.{Option, slice_get}
use Rattle.std.proofs.lemmas.Bool.{cases_eq}
use Rattle.std.specs.Option.{option_map}
use Rattle.std.proofs.lemmas.Option.{slice_get_cases}
use Rattle.recording.specs.declared.recording.Recording.{Recording}
use Rattle.recording.specs.Steps.{Step, steps, step_at, places}
use Rattle.sqe_codec.specs.Answers.{each}
use Rattle.world_parts.specs.World.{World}
use Rattle.op_meaning.specs.declared.reply.Reply.{Reply}
use Rattle.op_meaning.specs.Step.{turn, step_reply, run_world, run_replies, sequential_reply}
use Rattle.trace_format.proofs.Spots.{slice_get-append_left, slice_get-append_right}

mapped : {A B : Type 0} (f : A → B) (o : Option A) (x : A) → o ≡ Some x → option_map f o ≡ Some (f x)
mapped f o x e = ap (option_map f) e

-- A place of the trace has a reply in every world.
has_reply : (t : Recording) (k : ℕ) (s : World) → k < places t → (reply : Reply) × (step_reply t k s ≡ Some reply)
has_reply t k s lt =
    let x : (step : Step) × (slice_get (steps t) k ≡ Some step) = ⊎_elim (λ is. (is.0, is.2)) (λ past. absurd (omega (arith, past.0))) (slice_get_cases (steps t) k).1 in
    (_, mapped _ (turn t k s) _ (mapped _ (step_at t k) x.0 x.1))

-- Of the sequential run each place's reply is kept at the place.
pub record KeptSoFar (t : Recording) (n : ℕ) : Type 0 where
  pub many : length (run_replies t n) ≡ n
  pub kept : (k : ℕ) → k < n → slice_get (run_replies t n) k ≡ sequential_reply t k

pub kept_so_far : (t : Recording) (n : ℕ) → n ≤ places t → KeptSoFar t n
kept_so_far t zero le = record { many = refl; kept = λ k lt. absurd (omega arith) }
kept_so_far t (suc n) le =
    let before = kept_so_far t n (omega arith) in
    let found = has_reply t n (run_world t n) (omega arith) in
    let many = before.many in
    let more : run_replies t (suc n) ≡ run_replies t n ++ found.0 ∷ [] = ap (λ (o : Option Reply). run_replies t n ++ each (λ (reply : Reply). reply ∷ []) o) found.1 in
    record {
      many = ap length more ∙ omega (arith, length-append (run_replies t n) (found.0 ∷ []), many);
      kept = λ k lt. ap (λ rs. slice_get rs k) more ∙ (elim (cases_eq k n) [
        | inl e ↦ slice_get-append_right (run_replies t n) (found.0 ∷ []) k 0 (omega (arith, e, many)) ∙ sym found.1 ∙ ap (sequential_reply t) (sym e)
        | inr ne ↦ slice_get-append_left (run_replies t n) (found.0 ∷ []) k (omega (arith, ne, lt, many)) ∙ before.kept k (omega (arith, ne, lt))
      ]);
    }
