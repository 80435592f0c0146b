-- The items by which a place waits, by what it does if its chain isn't broken.
use Rattle.op_meaning.specs.Meaning.{shape}
use Rattle.foot_print.proofs.Agreement.{in_right}
use Rattle.world_parts.proofs.Collision.{either_left}
use Rattle.std.specs.Prelude.{◌≡◌, ◌⊎◌, ℕ, List, suc, ◌+◌, Bool, true, false, not, ◌&&◌, ◌||◌, leb, [], ◌∷◌, ◌++◌, take, cond, Option, Some, None, Result, Ok, Err, IfOk, IfSome, is_some, refl, if◌then◌else◌}
use Rattle.std.specs.List.{position_from}
use Rattle.std.proofs.Common.{add-one, arith, inl, inr, subst}
use Rattle.std.proofs.lemmas.List.{append-nil}
use mathlib.Core.Path.{ap, ◌∙◌, sym, transport}
use Rattle.std.specs.Option.{option_map}
use Rattle.sqe_codec.specs.Answers.{each}
use Rattle.sqe_codec.specs.declared.errno.Errno.{Errno}
use Rattle.trace_format.specs.declared.entry.Entry.{Entry}
use Rattle.recording.specs.declared.recording.Recording.{Recording}
use Rattle.entry_checks.specs.Operation.{Operation}
use Rattle.chain_plan.specs.declared.role.Role.{Role}
use Rattle.chain_plan.specs.Chain.{role}
use Rattle.world_parts.specs.Items.{Item, Footprint, one, chain_flag}
use Rattle.world_parts.specs.World.{World, Broken, broken}
use Rattle.foot_print.specs.Footprint.{look_reads, order_uses, row_in, turn_uses}
use Rattle.op_meaning.specs.Site.{in_ring, sited}
use Rattle.op_meaning.specs.Shape.{Shape, look}
use Rattle.op_meaning.specs.Step.{Turn, filled, registered, called, refused, canceled, runs, posts, running_turn, turn_under, ring_at}
use Rattle.recording.specs.Rings.{queue_of}
use Rattle.trace_records.specs.declared.record.FullSlot.{FullSlot}
use Rattle.op_meaning.proofs.Turns.{by_flag, under_flag}
use Rattle.foot_print.specs.Reach.{is_canceled, look_of, order_of, seen, task, running_row}
use Rattle.foot_print.specs.Foreseen.{meets_written, may_run, unresolved_given, decided_given, operation_given, reach_given, member_given, member_runs}
use Rattle.foot_print.specs.Outlook.{takes_lowest, turn_takes_lowest, IsFirstWritten, WaitsBy, items_awaited, IsOutlook, Awaits, AwaitsAsOperation, MemberAwaits}
use Rattle.foot_print.specs.declared.reaching.Awaited.TheVariants.{Items, Reach}
use Rattle.foot_print.specs.declared.reaching.Outlook.{Outlook}
use Rattle.foot_print.proofs.Given.{called_given, filled_given, member_is_given, refused_given, registered_given}

-- the first of some items that is written
module _ (w : Item → Bool) where
  first_from : (m n : ℕ) (f : Footprint) → position_from (λ u. w u.item) m f ≡ Some n → (j : ℕ) × (n ≡ m + j) × IsFirstWritten w f (take (suc j) f)
  first_from m n [] e = absurd (cc)
  first_from m n (u ∷ f) e =
      elim (w u.item) as (λ b. w u.item ≡ b → cond b (Some m) (position_from (λ v. w v.item) (m + 1) f) ≡ Some n → (j : ℕ) × (n ≡ m + j) × IsFirstWritten w (u ∷ f) (take (suc j) (u ∷ f))) [
        | true ↦ λ is e. let same : m ≡ n = cc in (0, omega arith, record { known = []; first = u; rest = f; all = refl; unwritten = refl; written = is; here = refl })
        | false ↦ λ is e.
            let later = first_from (m + 1) n f e in
            let i = later.2 in (
              suc later.0,
              omega (arith, later.1),
              record {
                known = u ∷ i.known;
                first = i.first;
                rest = i.rest;
                all = ap (λ g. u ∷ g) i.all;
                unwritten = ap (λ b. b || meets_written w i.known) is ∙ i.unwritten;
                written = i.written;
                here = ap (λ g. u ∷ g) i.here;
              },
            )
      ] refl e

  pub first_written : (n : ℕ) (f : Footprint) → position_from (λ u. w u.item) 0 f ≡ Some n → IsFirstWritten w f (take (n + 1) f)
  first_written n f e = grind (arith, first_from, add-one)

  none_from : (m : ℕ) (f : Footprint) → position_from (λ u. w u.item) m f ≡ None → meets_written w f ≡ false
  none_from m [] e = refl
  none_from m (u ∷ f) e = grind (arith, none_from (m + 1) f)

  pub none_written : (f : Footprint) → position_from (λ u. w u.item) 0 f ≡ None → meets_written w f ≡ false
  none_written f e = none_from 0 f e

  some_from : (m n : ℕ) (f : Footprint) → position_from (λ u. w u.item) m f ≡ Some n → meets_written w f ≡ true
  some_from m n f e = grind (arith, first_from, in_right, either_left)

-- what a place that may run an operation awaits, and its may-access set
module _ (order : Footprint) (t : Recording) (k r : ℕ) (s : World) (w : Item → Bool) (p : Operation) (x : Shape) (shaped : x ≡ shape p) (d : Footprint) (looked : d ≡ look_reads (in_ring t r) s (look x)) where
  told_by : d ≡ seen (in_ring t r) s p
  told_by = looked ∙ ap (λ y. look_reads (in_ring t r) s (look y)) shaped

  pub undecided_reach : (n : ℕ) (f : Footprint) → position_from (λ u. w u.item) 0 d ≡ Some n → f ≡ unresolved_given (sited t k r) s order w x → f ≡ operation_given (sited t k r) s order w p
  undecided_reach n f first e =
      let met : meets_written w (seen (in_ring t r) s p) ≡ true = sym (ap (meets_written w) told_by) ∙ some_from w 0 n d first in
      rw met (e ∙ ap (unresolved_given (sited t k r) s order w) shaped)

  pub undecided_awaits : (n : ℕ) (f g : Footprint) (takes : Bool) → position_from (λ u. w u.item) 0 d ≡ Some n → g ≡ take (n + 1) d → takes ≡ takes_lowest p
      → AwaitsAsOperation (sited t k r) s order w p true (record { reach = f; waits_by = Items g; takes_lowest = takes })
  undecided_awaits n f g takes first cut e =
      record { by = inl (subst (λ x. IsFirstWritten w x g) told_by (subst (λ x. IsFirstWritten w d x) (sym cut) (first_written w n d first))); told = refl; lowest = e }

  module _ (none : position_from (λ u. w u.item) 0 d ≡ None) where
    decided : meets_written w (seen (in_ring t r) s p) ≡ false
    decided = sym (ap (meets_written w) told_by) ∙ none_written w d none

    pub decided_reach : {E : Type 0} (o : Result Outlook E) → IfOk o (λ o. o.reach ≡ decided_given (sited t k r) s order w p) → IfOk o (λ o. o.reach ≡ operation_given (sited t k r) s order w p)
    decided_reach (Ok o) e = rw decided e
    decided_reach (Err e) _ = tt

    pub decided_awaits : {E : Type 0} (o : Result Outlook E) → IfOk o (λ o. items_awaited o.waits_by o.reach ≡ Some (order ++ row_in (sited t k r) s p)) → IfOk o (λ o. o.takes_lowest ≡ takes_lowest p) → IfOk o (λ o. AwaitsAsOperation (sited t k r) s order w p true o)
    decided_awaits (Ok o) e l =
        record {
          by = subst (λ a. IfSome a (λ f. IsFirstWritten w (seen (in_ring t r) s p) f ⊎ ((meets_written w (seen (in_ring t r) s p) ≡ false) × (f ≡ order ++ row_in (sited t k r) s p)))) (sym e) (inr (decided, refl));
          told = ap is_some e;
          lowest = l;
        }
    decided_awaits (Err e) _ l = tt

module _ (t : Recording) (k : ℕ) (s : World) (w : Item → Bool) (o : Outlook) where
  -- the items that are awaited, by the place's task and its turn
  abbrev awaits_at : Footprint → Bool → Option Turn → Option Turn → Type 0
  awaits_at order waits x y = Awaits w (look_of t k s x).deciding (order ++ each (turn_uses t k s) x) (if waits then true else (if is_canceled y then false else true)) (turn_takes_lowest x) o

  -- a fill, a call, and a place that is refused, run whatever earlier places do
  always_runs : (deciding row : Footprint) (waits takes : Bool) → Awaits w deciding row true takes o → Awaits w deciding row (if waits then true else true) takes o
  always_runs deciding row true takes a = a
  always_runs deciding row false takes a = a

  settled : (row : Footprint) (waits : Bool) → Awaits w [] row true false o → Awaits w [] row (if waits then true else true) false o
  settled row waits a = always_runs [] row waits false a

  running_at : (order : Footprint) (waits : Bool) (r : ℕ) (e : Entry) (c : Role) (b : Option Broken) (p : Operation)
      → AwaitsAsOperation (sited t k r) s order w p (member_runs c b waits) o → awaits_at order waits (Some (runs r e p)) (Some (running_turn r e c b p))
  running_at order true r e c b p a = a
  running_at order false r e c None p a =
      elim (leb 2 c.length) as (λ l. AwaitsAsOperation (sited t k r) s order w p (not (l && false)) o → awaits_at order false (Some (runs r e p)) (Some (runs r e p))) [ true ↦ λ a. a | false ↦ λ a. a ] a
  running_at order false r e c (Some f) p a =
      elim (leb 2 c.length) as (λ l. AwaitsAsOperation (sited t k r) s order w p (not (l && true)) o → awaits_at order false (Some (runs r e p)) (Some (if l then canceled (posts f) else runs r e p))) [ true ↦ λ a. a | false ↦ λ a. a ] a

  told : (a : Option Footprint) → IfSome a (λ f. IsFirstWritten w (look_of t k s (task t k)).deciding f ⊎ ((meets_written w (look_of t k s (task t k)).deciding ≡ false) × (f ≡ running_row t k s))) → is_some a ≡ may_run t k s w → IfSome a (λ f. WaitsBy t k s w f)
  told a h e = grind arith

  at_task : (y : Turn) → Some y ≡ task t k → o.reach ≡ reach_given t k s w → awaits_at (order_of t k) (w (one (chain_flag (role t k).chain))) (Some y) (Some (under_flag (role t k) (broken s (role t k).chain) y)) → IsOutlook t k s w o
  at_task y is reach awaits =
      let flag = broken s (role t k).chain in
      let a : awaits_at (order_of t k) (w (one (chain_flag (role t k).chain))) (task t k) (turn_under t k flag)
      = transport (λ i. awaits_at (order_of t k) (w (one (chain_flag (role t k).chain))) (is i) ((ap (option_map (under_flag (role t k) flag)) is ∙ sym (by_flag t k flag)) i)) awaits in
      record { reach = reach; by = told (items_awaited o.waits_by o.reach) a.by a.told; told = a.told; lowest = a.lowest }

  pub filled_outlook : (r b at : ℕ) (new : List ℕ) → Some (filled r b at new) ≡ task t k → o ≡ record { reach = order_of t k ++ turn_uses t k s (filled r b at new); waits_by = Reach; takes_lowest = false } → IsOutlook t k s w o
  filled_outlook r b at new is e =
      let row = order_of t k ++ turn_uses t k s (filled r b at new) in
      at_task (filled r b at new) is (ap (λ o. o.reach) e ∙ filled_given t k s w r b at new is) (settled row _ (subst (Awaits w [] row true false) (sym e) (record { by = inr (refl, refl); told = refl; lowest = refl })))

  pub registered_outlook : (r : ℕ) (slots : List FullSlot) → Some (registered r slots) ≡ task t k → o ≡ record { reach = order_of t k ++ turn_uses t k s (registered r slots); waits_by = Reach; takes_lowest = false } → IsOutlook t k s w o
  registered_outlook r slots is e =
      let row = order_of t k ++ turn_uses t k s (registered r slots) in
      at_task (registered r slots) is (ap (λ o. o.reach) e ∙ registered_given t k s w r slots is) (settled row _ (subst (Awaits w [] row true false) (sym e) (record { by = inr (refl, refl); told = refl; lowest = refl })))

  pub called_outlook : (r : ℕ) (p : Operation) → Some (called r p) ≡ task t k → o.reach ≡ operation_given (sited t k r) s (order_of t k) w p → AwaitsAsOperation (sited t k r) s (order_of t k) w p true o → IsOutlook t k s w o
  called_outlook r p is reach awaits =
      at_task (called r p) is (reach ∙ called_given t k s w r p is) (always_runs (seen (in_ring t r) s p) (order_of t k ++ row_in (sited t k r) s p) _ (takes_lowest p) awaits)

  pub refused_outlook : (x : Errno) (p : Bool) → Some (refused x p) ≡ task t k → o ≡ record { reach = order_of t k; waits_by = Reach; takes_lowest = false } → IsOutlook t k s w o
  refused_outlook x p is e =
      at_task (refused x p) is (ap (λ o. o.reach) e ∙ refused_given t k s w x p is)
      (settled (order_of t k ++ []) _ (subst (Awaits w [] (order_of t k ++ []) true false) (sym e) (record { by = inr (refl, sym (append-nil (order_of t k))); told = refl; lowest = refl })))

  pub member_outlook : (r : ℕ) (x : Entry) (p : Operation) → Some (runs r x p) ≡ task t k → o.reach ≡ member_given (sited t k r) s (order_of t k) w (role t k) p → MemberAwaits (sited t k r) s (order_of t k) w (role t k) p o → IsOutlook t k s w o
  member_outlook r x p is reach awaits =
      at_task (runs r x p) is (reach ∙ member_is_given t k s w r x p is) (running_at (order_of t k) _ r x (role t k) (broken s (role t k).chain) p awaits)

-- the same, where that can be refused memory, by the ring and the role of the place
pub members_outlook : {E : Type 0} (t : Recording) (k : ℕ) (s : World) (w : Item → Bool) (r : ℕ) (c : Role) (x : Entry) (p : Operation) → r ≡ ring_at t k → c ≡ role t k → Some (runs r x p) ≡ task t k → (o : Result Outlook E)
    → IfOk o (λ o. o.reach ≡ member_given (sited t k r) s (order_uses (queue_of t r) c) w c p) → IfOk o (MemberAwaits (sited t k r) s (order_uses (queue_of t r) c) w c p) → IfOk o (IsOutlook t k s w)
members_outlook t k s w r c x p here own is (Ok o) reach awaits =
    member_outlook t k s w o r x p is (reach ∙ (λ i. member_given (sited t k r) s (order_uses (queue_of t (here i)) (own i)) w (own i) p)) (transport (λ i. MemberAwaits (sited t k r) s (order_uses (queue_of t (here i)) (own i)) w (own i) p o) awaits)
members_outlook t k s w r c x p here own is (Err e) _ _ = tt

pub calls_outlook : {E : Type 0} (t : Recording) (k : ℕ) (s : World) (w : Item → Bool) (r : ℕ) (c : Role) (p : Operation) → r ≡ ring_at t k → c ≡ role t k → Some (called r p) ≡ task t k → (o : Result Outlook E)
    → IfOk o (λ o. o.reach ≡ operation_given (sited t k r) s (order_uses (queue_of t r) c) w p) → IfOk o (AwaitsAsOperation (sited t k r) s (order_uses (queue_of t r) c) w p true) → IfOk o (IsOutlook t k s w)
calls_outlook t k s w r c p here own is (Ok o) reach awaits =
    called_outlook t k s w o r p is (reach ∙ (λ i. operation_given (sited t k r) s (order_uses (queue_of t (here i)) (own i)) w p)) (transport (λ i. AwaitsAsOperation (sited t k r) s (order_uses (queue_of t (here i)) (own i)) w p true o) awaits)
calls_outlook t k s w r c p here own is (Err e) _ _ = tt
