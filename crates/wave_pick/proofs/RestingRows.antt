-- What a place keeps that rests on some whose may-access sets write for all: whether it may run, whether a descriptor is written, and its rows.
use Rattle.std.proofs.Common.{◌≡◌, ℕ, suc, ◌<◌, ◌≤◌, true, false, if◌then◌else◌, List, [], ◌∷◌, ◌++◌, inl, inr, refl, sym, ap, subst, ◌∙◌, arith}
use Rattle.std.specs.Prelude.{T, ◌&&◌, leb, Option, Some, None}
use Rattle.std.proofs.lemmas.Bool.{cases_Bool, cond-true, cond-false}
use Rattle.interleaving.proofs.Members.{has-here}
use Rattle.interleaving.specs.Machine.{has}
use Rattle.op_meaning.specs.Site.{in_ring}
use Rattle.recording.specs.declared.recording.Recording.{Recording}
use Rattle.recording.specs.Steps.{places}
use Rattle.recording.specs.Accepted.{IsAccepted}
use Rattle.chain_plan.specs.Chain.{role}
use Rattle.entry_checks.specs.Operation.{Operation, openat}
use Rattle.world_parts.specs.World.{World}
use Rattle.world_parts.specs.Items.{Atom, Item, chain_flag, one, all_descriptors, member_of, Use, Footprint, has_atom, collide}
use Rattle.world_parts.proofs.Collision.{true_of, same_atom-eq, first_writes-collide, writes-has}
use Rattle.world_parts.proofs.Sharing.{holds_true}
use Rattle.op_meaning.specs.Step.{Turn, turn}
use Rattle.foot_print.specs.Outlook.{takes_lowest, turn_takes_lowest}
use Rattle.foot_print.specs.Reach.{written_by, room_taken, task, is_canceled, is_taken_to_run, extras_of, order_of}
use Rattle.foot_print.specs.Replayed.{replayed}
use Rattle.foot_print.proofs.Agreement.{in_left}
use Rattle.foot_print.proofs.Holding.{drop_false}
use Rattle.foot_print.proofs.Unmet.{canceled_linked}
use Rattle.foot_print.proofs.Writing.{is_false, not_false, atom_of_writes, written_thin}
use Rattle.wave_pick.specs.Lawful.{lawful}
use Rattle.wave_pick.specs.Waiting.{WritesRow, ChainIsSettled, descriptors_wait, ReachRowsStay}
use Rattle.wave_pick.specs.Holds.{Waits, world_after, footprint_after, reaches_after, reach_after}
use Rattle.wave_pick.specs.Resting.{AllStay, OneHolds, OneWrites, WriteForAll, WritesForAll}
use Rattle.wave_pick.proofs.Lists.{not_both}
use Rattle.wave_pick.proofs.Orders.{writes_chain}
use Rattle.wave_pick.proofs.Resting.{all_before, same_reach}
use Rattle.wave_pick.proofs.Staying.{waited, keeps_round}
use Rattle.wave_pick.proofs.Waiting.{until, turn_stays, look_next}
use Rattle.wave_pick.proofs.Wide.{extras_same, wide_stays, unresolved_in_world}
use Rattle.wave_pick.proofs.Witness.{row_witness_holds, written_before}

-- Where no may-access set before it writes its chain's flag, a place may run unless it is canceled.
settled_runs : (t : Recording) (window r k : ℕ) → ChainIsSettled t window r k → is_taken_to_run t k (world_after t window r) (reaches_after t window r k) ≡ (if is_canceled (turn t k (world_after t window r)) then false else true)
settled_runs t window r k e = cond-false _ _ _ e

-- A place whose may-access set writes the flag of a later one's chain holds that one back, where it is of a chain of two or more.
module _ (t : Recording) (window r i k : ℕ) where
  abbrev flag : Atom
  flag = chain_flag (role t k).chain

  flag_collides : written_by (reach_after t window r i ∷ []) (one flag) ≡ true → leb 2 (role t k).length ≡ true → collide (footprint_after t window r k) (reach_after t window r i) ≡ true
  flag_collides h two =
      let c = atom_of_writes (one flag) (reach_after t window r i) (drop_false _ (holds_true _ h)) in
      let there = subst (λ (a : Atom). T (has_atom (reach_after t window r i) a)) (sym (same_atom-eq flag c.0 c.2)) (writes-has (reach_after t window r i) c.0 c.1) in
      true_of _ (first_writes-collide (footprint_after t window r k) (reach_after t window r i) flag (in_left (λ (u : Use). u.written && member_of u.item flag) (order_of t k) _ (writes_chain t k two)) there)

-- One of some places blocks one whose row another of them writes: that one, or the one that writes the flag of its chain.
module _ (t : Recording) (window r i k : ℕ) (is : List ℕ) (is_one : has is i ≡ true) where
  pub holds_by_row : is_taken_to_run t k (world_after t window r) (reaches_after t window r k) ≡ true → WriteForAll t window r is k → WritesRow t window r i k → OneHolds t window r is k
  holds_by_row run h w = elim (cases_Bool (is_canceled (turn t k (world_after t window r)))) [
    | inl off ↦ elim h.chain [
      | inl settled ↦ not_both run (settled_runs t window r k settled ∙ cond-true _ _ _ off)
      | inr c ↦ (
        c.place,
        (
          c.is_one,
          record {
            is_before = c.is_before;
            waits = c.waits;
            collides = flag_collides t window r c.place k c.writes (canceled_linked t k (world_after t window r) [] off);
          },
        ),
      )
    ]
    | inr on ↦ (i, (is_one, (row_witness_holds t window r i k w).1 on))
  ]

-- What one place writes for all is written by one of a list of one.
pub write_alone : (t : Recording) (window r i k : ℕ) → i < k → Waits t window r i → WritesForAll t window r i k → WriteForAll t window r (i ∷ []) k
write_alone t window r i k lt now h = record {
  chain = elim h.chain [ inl settled ↦ inl settled | inr w ↦ inr (one_writes _ w) ];
  descriptors = elim h.descriptors [ inl e ↦ inl e | inr d ↦ inr (elim d [ inl e ↦ inl e | inr w ↦ inr (one_writes _ w) ]) ];
}
  where
    one_writes : (x : Item) → written_by (reach_after t window r i ∷ []) x ≡ true → OneWrites t window r (i ∷ []) k x
    one_writes x w = record { place = i; is_one = has-here i []; is_before = lt; waits = now; writes = w }

-- Where a turn doesn't take the lowest free descriptor, what it may make and its room are told by neither world nor may-access sets.
same_extras : (t : Recording) (k : ℕ) (s u : World) (earlier later : List Footprint) (x : Option Turn) → turn_takes_lowest x ≡ false → extras_of t k u later x ≡ extras_of t k s earlier x
same_extras t k s u earlier later x e = extras_same t k s u earlier later x (λ r y o is. room r o (ap turn_takes_lowest (sym is) ∙ e)) (λ r o is. room r o (ap turn_takes_lowest (sym is) ∙ e))
  where
    room : (r : ℕ) (o : Operation) → takes_lowest o ≡ false → room_taken (in_ring t r) u later o ≡ room_taken (in_ring t r) s earlier o
    room r (openat p g None) h = absurd (cc h)
    room r (openat p g (Some n)) h = refl
    room r _ h = refl

module _ (t : Recording) (spelled : IsAccepted t) (window : ℕ) where
  -- Where no may-access set before a place writes a descriptor, none does while it waits.
  unwritten_stays : (r q k : ℕ) → r ≤ q → Waits t window q k → descriptors_wait t window r k ≡ false → descriptors_wait t window q k ≡ false
  unwritten_stays r q k le waits e =
      until t spelled window k (λ n. descriptors_wait t window n k ≡ false) r (λ n _ later h.
      keeps_round (replayed t) (lawful t spelled) (places t) window n k later (λ rs. written_by rs all_descriptors ≡ false)
      (λ rs less m d. is_false _ (λ w. not_false _ d (written_thin t all_descriptors less rs m w))) h) q le waits e

  module _ (r k : ℕ) (is : List ℕ) (h : WriteForAll t window r is k) where
    module _ (p : ℕ) (le : r ≤ p) (stays : AllStay t window r p is) (waits : Waits t window p k) where
      writes_still : (x : Item) → OneWrites t window r is k x → OneWrites t window p is k x
      writes_still x w = record {
        place = w.place;
        is_one = w.is_one;
        is_before = w.is_before;
        waits = (stays w.place w.is_one).waits;
        writes = ap (λ f. written_by (f ∷ []) x) (same_reach t window r p w.place le (stays w.place w.is_one)) ∙ w.writes;
      }

      before_writes : (x : Item) → OneWrites t window r is k x → written_by (reaches_after t window p k) x ≡ true
      before_writes x w = let now = writes_still x w in written_before t window p now.place k now.is_before now.waits x now.writes

      pub write_for_all_still : WriteForAll t window p is k
      write_for_all_still = record {
        chain = elim h.chain [
          | inl settled ↦ inl ((turn_stays t spelled window r p k le waits settled).1)
          | inr w ↦ inr (writes_still (one (chain_flag (role t k).chain)) w)
        ];
        descriptors = elim h.descriptors [
          | inl e ↦ inl e
          | inr d ↦ inr (elim d [ inl e ↦ inl (unwritten_stays r p k le waits e) | inr w ↦ inr (writes_still all_descriptors w) ])
        ];
      }

      pub runs_still : is_taken_to_run t k (world_after t window r) (reaches_after t window r k) ≡ true → is_taken_to_run t k (world_after t window p) (reaches_after t window p k) ≡ true
      runs_still run = elim h.chain [
        | inl settled ↦
            let kept = turn_stays t spelled window r p k le waits settled in
            settled_runs t window p k kept.1 ∙ ap (λ (x : Option Turn). if is_canceled x then false else true) kept.0 ∙ sym (settled_runs t window r k settled) ∙ run
        | inr w ↦ cond-true _ _ _ (before_writes (one (chain_flag (role t k).chain)) w)
      ]

      descriptors_now : OneWrites t window r is k all_descriptors → descriptors_wait t window p k ≡ true
      descriptors_now w = before_writes all_descriptors w

    -- So the wide row of the later one stays from one round to the next, and so does its row as accepted where it is decided.
    module _ (p : ℕ) (le : r ≤ p) (stays : AllStay t window r (suc p) is) (waits : Waits t window (suc p) k)
        (run : is_taken_to_run t k (world_after t window p) (reaches_after t window p k) ≡ true) where
      abbrev s : World
      s = world_after t window p

      abbrev u : World
      u = world_after t window (suc p)

      extras_next : turn_takes_lowest (task t k) ≡ false → extras_of t k u (reaches_after t window (suc p) k) (task t k) ≡ extras_of t k s (reaches_after t window p k) (task t k)
      extras_next e = same_extras t k s u (reaches_after t window p k) (reaches_after t window (suc p) k) (task t k) e

      next : r ≤ suc p
      next = omega (arith, le)

      before : AllStay t window r p is
      before = all_before t spelled window r p is stays

      waited_before : Waits t window p k
      waited_before = waited (replayed t) (lawful t spelled) (places t) window p k waits

      pub rows_next : ReachRowsStay t window p k
      rows_next = elim h.descriptors [
        | inl e ↦ record {
          wide = λ j. order_of t k ++ (unresolved_in_world t k s u (task t k) j ++ extras_next e j);
          accepted = λ d j. order_of t k ++ ((look_next t spelled window p k waits (record { may_run = run; unmet = d }) j).items ++ extras_next e j);
        }
        | inr d ↦ wide_stays t spelled window p k waits run (elim d [
          | inl e ↦ unwritten_stays r (suc p) k next waits e ∙ sym (unwritten_stays r p k le waited_before e)
          | inr w ↦ descriptors_now (suc p) next stays waits w ∙ sym (descriptors_now p le before waited_before w)
        ])
      ]
