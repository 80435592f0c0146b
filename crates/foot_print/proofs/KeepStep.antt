-- From operations to places: a place that runs an operation which keeps worlds leaves a world, and the numbers of other places unused.
use Rattle.std.specs.Prelude.{◌≡◌, ℕ, Bool, true, false, cond, List, [], ◌∷◌, ◌++◌, Some, Result, Ok, Err, refl}
use mathlib.Core.Path.{sym, subst}
use native.Mathlib.Omega.{arith}
use Rattle.sqe_codec.specs.declared.errno.Errno.{Errno}
use Rattle.trace_format.specs.declared.entry.Entry.{Entry}
use Rattle.chain_plan.specs.declared.role.Role.{Role}
use Rattle.recording.specs.declared.recording.Recording.{Recording}
use Rattle.sqe_codec.specs.Answers.{each}
use Rattle.entry_checks.specs.Operation.{Operation}
use Rattle.chain_plan.specs.Chain.{role}
use Rattle.world_parts.specs.World.{World, IsWorld, Broken, Change, break_chain, apply, apply_all}
use Rattle.op_meaning.specs.Site.{sited}
use Rattle.op_meaning.specs.Meaning.{Effect, meaning, made_node, made_description}
use Rattle.op_meaning.specs.Step.{runs, turn, step_world, changes_in, changes_of, breaks, failed}
use Rattle.foot_print.specs.Laws.{Awaits}
use Rattle.world_parts.proofs.KeepWorld.{breaking_world, all_unmade}
use Rattle.foot_print.proofs.KeepNames.{Leaves, Keeps}

pub leaves_append : (t : Recording) (k : ℕ) (s : World) (cs ds : List Change) → Leaves t k s cs → ((z : World) → IsWorld z → Leaves t k z ds) → Leaves t k s (cs ++ ds)
leaves_append t k s [] ds w g = g s w.0
leaves_append t k s (c ∷ cs) ds w g = (let rest = leaves_append t k (apply c s) cs ds (w.0, w.1.1) g in (rest.0, (w.1.0, rest.1)))

breaks_leave : (t : Recording) (k : ℕ) (z : World) (c : Role) (e : Entry) (fails : Bool) → IsWorld z → Leaves t k z (breaks c e fails)
breaks_leave t k z c e fails w = when _ _
  where
    when : (b : Bool) (f : Broken) → Leaves t k z (cond b (break_chain c.chain f ∷ []) [])
    when true f = (breaking_world z c.chain f w, (tt, tt))
    when false f = (w, tt)

-- What a step leaves.
abbrev pub StepLeaves : Recording → ℕ → World → Type 0
StepLeaves t k s = IsWorld (step_world t k s) × ((j : ℕ) → ¬ (j ≡ k) → Awaits t j s → Awaits t j (step_world t k s))

pub leaves_step : (t : Recording) (k : ℕ) (s : World) (cs : List Change) → Leaves t k s cs → IsWorld (apply_all cs s) × ((j : ℕ) → ¬ (j ≡ k) → Awaits t j s → Awaits t j (apply_all cs s))
leaves_step t k s cs w = (
  w.0,
  λ j n a.
      let u = all_unmade s cs (made_node t k) (made_description t k) (made_node t j) (made_description t j) w.1 (λ e. n (omega arith)) (λ e. n (omega arith)) a.no_node a.no_description in
      record { is_world = w.0; no_node = u.0; no_description = u.1 },
)

-- What an operation that keeps worlds leaves, also where it is refused.
pub operation_leaves : (t : Recording) (k : ℕ) (s : World) (r : ℕ) (o : Operation) → IsWorld s → Keeps t k r s o → Leaves t k s (changes_of (meaning (sited t k r) s o))
operation_leaves t k s r o w keeps = by (meaning (sited t k r) s o) refl
  where
    by : (m : Result Effect Errno) → meaning (sited t k r) s o ≡ m → Leaves t k s (changes_of m)
    by (Err x) q = (w, tt)
    by (Ok x) q = keeps x q

pub operation_steps : (t : Recording) (k : ℕ) (s : World) (r : ℕ) (e : Entry) (o : Operation) → turn t k s ≡ Some (runs r e o) → IsWorld s → Keeps t k r s o → StepLeaves t k s
operation_steps t k s r e o h w keeps =
    subst (λ x. IsWorld (apply_all (each (changes_in t k s) x) s) × ((j : ℕ) → ¬ (j ≡ k) → Awaits t j s → Awaits t j (apply_all (each (changes_in t k s) x) s))) (sym h)
    (leaves_step t k s (changes_of (meaning (sited t k r) s o) ++ breaks (role t k) e (failed o (meaning (sited t k r) s o)))
    (leaves_append t k s (changes_of (meaning (sited t k r) s o)) _ (operation_leaves t k s r o w keeps) (λ z v. breaks_leave t k z (role t k) e (failed o (meaning (sited t k r) s o)) v)))
