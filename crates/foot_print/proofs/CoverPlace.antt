-- From operations to places: where each operation is decided by its row, each place is decided by its access set.
use Rattle.std.specs.Prelude.{◌≡◌, ℕ, true, false, cond, leb, [], ◌∷◌, ◌++◌, Option, Some, None, refl, if◌then◌else◌}
use Rattle.std.specs.Option.{option_map}
use mathlib.Core.Path.{sym, ap, ◌∙◌}
use Rattle.recording.specs.declared.recording.Recording.{Recording}
use Rattle.entry_checks.specs.Operation.{Operation}
use Rattle.chain_plan.specs.Chain.{role}
use Rattle.world_parts.specs.World.{World, Broken}
use Rattle.op_meaning.specs.Site.{sited}
use Rattle.op_meaning.specs.Meaning.{meaning}
use Rattle.op_meaning.specs.Step.{Turn, registered, called, runs, turn_under, turn, reply_of, changes_in, step_reply, step_changes, run_reply, changes_of, breaks, failed, queue_at}
use Rattle.sqe_codec.specs.Answers.{each}
use Rattle.world_parts.specs.Items.{chain_flag, one, writes, Agree}
use Rattle.foot_print.specs.Footprint.{use_of, row_in, order_uses, turn_uses, footprint}
use Rattle.op_meaning.proofs.Turns.{of_flag}
use Rattle.foot_print.proofs.Agreement.{agree_left, agree_right, agree_head, agree_tail}
use Rattle.foot_print.proofs.Registering.{registering_same}

-- The ring and the operation of a turn that does one: it runs an entry, or does what a call of the program did.
abbrev pub done_by : Option Turn → Option (ℕ × Operation)
done_by (Some (runs r e o)) = Some (r, o)
done_by (Some (called r o)) = Some (r, o)
done_by _ = None

-- An operation is decided by its row.
pub record Decided (t : Recording) (k r : ℕ) (s u : World) (o : Operation) : Type 0 where
  pub same_meaning : meaning (sited t k r) u o ≡ meaning (sited t k r) s o
  pub same_row : row_in (sited t k r) u o ≡ row_in (sited t k r) s o

module _ (t : Recording) (k : ℕ) where
  -- In a chain of one place the flag decides nothing.
  under_alone : (a b : Option Broken) → leb 2 (role t k).length ≡ false → turn_under t k a ≡ turn_under t k b
  under_alone a b h =
      sym (of_flag t k a) ∙ ap (λ l. turn_under t k (if l then a else None)) h
      ∙ sym (ap (λ l. turn_under t k (if l then b else None)) h) ∙ of_flag t k b

  pub turn_same : (s u : World) → Agree (order_uses (queue_at t k) (role t k)) s u → turn t k u ≡ turn t k s
  turn_same s u a =
      elim (leb 2 (role t k).length) as (λ b. leb 2 (role t k).length ≡ b → Agree (use_of (role t k).barrier (one (Rattle.world_parts.specs.Items.ring_order (queue_at t k))) ∷ cond b (writes (one (chain_flag (role t k).chain)) ∷ []) []) s u → turn t k u ≡ turn t k s) [
        | true ↦ λ e g. ap (turn_under t k) (sym (agree_head s u (chain_flag (role t k).chain) true [] (agree_tail s u _ _ g)))
        | false ↦ λ e g. under_alone _ _ e
      ] refl a

  module _ (s u : World) (decided : (r : ℕ) (o : Operation) → done_by (turn t k s) ≡ Some (r, o) → Agree (row_in (sited t k r) s o) s u → Decided t k r s u o) where
    each_uses : (x : Option Turn) → turn t k s ≡ x → Agree (each (turn_uses t k s) x) s u → each (turn_uses t k u) x ≡ each (turn_uses t k s) x
    each_uses (Some (runs r e o)) h a = (decided r o (ap done_by h) a).same_row
    each_uses (Some (called r o)) h a = (decided r o (ap done_by h) a).same_row
    each_uses _ h a = refl

    each_reply : (x : Option Turn) → turn t k s ≡ x → Agree (each (turn_uses t k s) x) s u → option_map (reply_of t k u) x ≡ option_map (reply_of t k s) x
    each_reply (Some (runs r e o)) h a = ap (λ y. Some (run_reply e o y)) (decided r o (ap done_by h) a).same_meaning
    each_reply _ h a = refl

    each_changes : (x : Option Turn) → turn t k s ≡ x → Agree (each (turn_uses t k s) x) s u → each (changes_in t k u) x ≡ each (changes_in t k s) x
    each_changes (Some (runs r e o)) h a = ap (λ x. changes_of x ++ breaks (role t k) e (failed o x)) (decided r o (ap done_by h) a).same_meaning
    each_changes (Some (called r o)) h a = ap changes_of (decided r o (ap done_by h) a).same_meaning
    each_changes (Some (registered r slots)) h a = registering_same s u r slots a
    each_changes _ h a = refl

    module _ (agree : Agree (footprint t k s) s u) where
      order : Agree (order_uses (queue_at t k) (role t k)) s u
      order = agree_left s u _ _ agree

      uses : Agree (each (turn_uses t k s) (turn t k s)) s u
      uses = agree_right s u (order_uses (queue_at t k) (role t k)) _ agree

      pub footprint_same : footprint t k u ≡ footprint t k s
      footprint_same = (λ i. order_uses (queue_at t k) (role t k) ++ each (turn_uses t k u) (turn_same s u order i)) ∙ (λ i. order_uses (queue_at t k) (role t k) ++ each_uses (turn t k s) refl uses i)

      pub step_reply_same : step_reply t k u ≡ step_reply t k s
      step_reply_same = (λ i. option_map (reply_of t k u) (turn_same s u order i)) ∙ each_reply (turn t k s) refl uses

      pub step_changes_same : step_changes t k u ≡ step_changes t k s
      step_changes_same = (λ i. each (changes_in t k u) (turn_same s u order i)) ∙ each_changes (turn t k s) refl uses
