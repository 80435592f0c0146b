-- May-access sets are by rows, and so are access sets.
use Rattle.std.specs.Prelude.{◌≡◌, ℕ, true, false, cond, leb, ◌++◌, Option, Some, None, refl}
use Rattle.std.specs.Option.{option_map}
use Rattle.std.proofs.Common.{subst}
use Rattle.std.proofs.lemmas.List.{append-nil}
use mathlib.Core.Path.{sym}
use Rattle.interleaving.specs.Rows.{foot_by_rows}
use Rattle.recording.specs.declared.recording.Recording.{Recording}
use Rattle.trace_format.specs.declared.entry.Entry.{Entry}
use Rattle.chain_plan.specs.declared.role.Role.{Role}
use Rattle.chain_plan.specs.Chain.{role}
use Rattle.sqe_codec.specs.Answers.{each}
use Rattle.entry_checks.specs.Operation.{Operation}
use Rattle.world_parts.specs.World.{World, Broken, broken}
use Rattle.op_meaning.specs.Step.{Turn, canceled, posts, runs, running_turn}
use Rattle.foot_print.specs.Footprint.{footprint, turn_uses}
use Rattle.op_meaning.proofs.Turns.{by_flag, under_flag}
use Rattle.foot_print.specs.Reach.{task, is_canceled, order_of}
use Rattle.foot_print.specs.Replayed.{replayed, rows}

-- Under any flag a place is canceled, or does what it would do if its chain weren't broken.
abbrev pub uses_as : Recording → ℕ → World → Option Turn → Option Turn → Type 0
uses_as t k s x y = order_of t k ++ each (turn_uses t k s) x ≡ cond (is_canceled x) (order_of t k) (order_of t k ++ each (turn_uses t k s) y)

module _ (t : Recording) (k : ℕ) (s : World) where
  running_as : (r : ℕ) (e : Entry) (c : Role) (b : Option Broken) (o : Operation) → uses_as t k s (Some (running_turn r e c b o)) (Some (runs r e o))
  running_as r e c None o = refl
  running_as r e c (Some f) o =
      elim (leb 2 c.length) as (λ l. uses_as t k s (Some (cond l (canceled (posts f)) (runs r e o))) (Some (runs r e o))) [ true ↦ append-nil (order_of t k) | false ↦ refl ]

  flag_as : (c : Role) (b : Option Broken) (y : Option Turn) → uses_as t k s (option_map (under_flag c b) y) y
  flag_as c b (Some (runs r e o)) = running_as r e c b o
  flag_as c b (Some (canceled p)) = append-nil (order_of t k)
  flag_as c b _ = refl

  pub footprint_is_by_rows : footprint t k s ≡ foot_by_rows (replayed t) (rows t) k s
  footprint_is_by_rows =
      let flag = broken s (role t k).chain in
      subst (λ x. uses_as t k s x (task t k)) (sym (by_flag t k flag)) (flag_as (role t k) flag (task t k))
