-- The wide row of a waiting place, and its row as accepted, stay from round to round.
use Rattle.std.specs.Prelude.{◌≡◌, ℕ, suc, Bool, true, false, T, List, [], ◌∷◌, ◌++◌, Option, Some, None, refl, if◌then◌else◌}
use Rattle.std.proofs.lemmas.Bool.{cases_Bool}
use Rattle.std.proofs.Common.{inl, inr, sym, ap, ◌∙◌}
use Rattle.interleaving.specs.System.{AgreeOn, NoneWrites}
use Rattle.op_meaning.specs.Site.{in_ring}
use Rattle.recording.specs.declared.recording.Recording.{Recording}
use Rattle.trace_format.specs.declared.entry.Entry.{Entry}
use Rattle.recording.specs.Steps.{places}
use Rattle.recording.specs.Accepted.{IsAccepted}
use Rattle.entry_checks.specs.Operation.{Operation, openat}
use Rattle.world_parts.specs.World.{World}
use Rattle.world_parts.specs.Items.{Atom, descriptor_at, value, all_descriptors, member_of, Use, writes, Footprint, has_atom}
use Rattle.world_parts.proofs.Collision.{true_of}
use Rattle.world_parts.proofs.Sharing.{holds_true}
use Rattle.foot_print.specs.Footprint.{room_uses}
use Rattle.op_meaning.specs.Step.{Turn, called, runs}
use Rattle.foot_print.specs.Reach.{written_by, is_met, is_taken_to_run, makes, room_taken, task, look_of, extras_of, unresolved_of, order_of, running_row, accepted_row, wide_row}
use Rattle.foot_print.specs.Replayed.{replayed}
use Rattle.foot_print.proofs.Agreement.{in_right}
use Rattle.foot_print.proofs.Cover.{all_covered}
use Rattle.foot_print.proofs.Lawful.{row_laws}
use Rattle.foot_print.proofs.RowsSeen.{room_same}
use Rattle.foot_print.proofs.Writing.{unwritten}
use Rattle.wave_pick.specs.Lawful.{lawful}
use Rattle.wave_pick.specs.Waiting.{look_after, descriptors_wait, ReachRowsStay}
use Rattle.wave_pick.specs.Holds.{Waits, world_after, reaches_after, reach_after}
use Rattle.wave_pick.proofs.Orders.{accepted_reach, wide_reach}
use Rattle.wave_pick.proofs.Staying.{keeps_value}
use Rattle.wave_pick.proofs.Waiting.{value_stays, row_in_reach, look_next}

module _ (t : Recording) (k : ℕ) where
  -- What a turn may make and its room are the same where the room is of what it runs or what a call did.
  pub extras_same : (s u : World) (earlier later : List Footprint) (x : Option Turn)
      → ((r : ℕ) (e : Entry) (o : Operation) → x ≡ Some (runs r e o) → room_taken (in_ring t r) u later o ≡ room_taken (in_ring t r) s earlier o)
      → ((r : ℕ) (o : Operation) → x ≡ Some (called r o) → room_taken (in_ring t r) u later o ≡ room_taken (in_ring t r) s earlier o)
      → extras_of t k u later x ≡ extras_of t k s earlier x
  extras_same s u earlier later (Some (runs r e o)) room by_call = ap (λ f. makes t k o ++ f) (room r e o refl)
  extras_same s u earlier later (Some (called r o)) room by_call = ap (λ f. makes t k o ++ f) (by_call r o refl)
  extras_same s u earlier later _ room by_call = refl

  -- The room is told by whether a may-access set before the place writes a descriptor, and by the descriptors.
  extras_by_writing : (s : World) (earlier others : List Footprint) → written_by earlier all_descriptors ≡ written_by others all_descriptors → (x : Option Turn) → extras_of t k s earlier x ≡ extras_of t k s others x
  extras_by_writing s earlier others same x = extras_same s s others earlier x (λ r e o _. room r o) (λ r o _. room r o)
    where
      room : (r : ℕ) (o : Operation) → room_taken (in_ring t r) s earlier o ≡ room_taken (in_ring t r) s others o
      room r (openat p g None) = ap (λ b. if b then writes all_descriptors ∷ [] else room_uses (in_ring t r) s None) same
      room r (openat p g (Some n)) = refl
      room r _ = refl

  extras_in_world : (s u : World) (earlier : List Footprint) (x : Option Turn) → ((a : Atom) → NoneWrites (replayed t) earlier a → has_atom (extras_of t k s earlier x) a ≡ true → value s a ≡ value u a)
      → extras_of t k u earlier x ≡ extras_of t k s earlier x
  extras_in_world s u earlier x same = extras_same s u earlier earlier x
      (λ r e o is. room r o (λ a none h. same a none (ap (λ y. has_atom (extras_of t k s earlier y) a) is ∙ h)))
      (λ r o is. room r o (λ a none h. same a none (ap (λ y. has_atom (extras_of t k s earlier y) a) is ∙ h)))
    where
      descriptors_there : (r : ℕ) (b : Bool) (n : ℕ) → T (has_atom (if b then writes all_descriptors ∷ [] else room_uses (in_ring t r) s None) (descriptor_at n))
      descriptors_there r true n = tt
      descriptors_there r false n = tt

      room : (r : ℕ) (o : Operation) → ((a : Atom) → NoneWrites (replayed t) earlier a → has_atom (makes t k o ++ room_taken (in_ring t r) s earlier o) a ≡ true
          → value s a ≡ value u a) → room_taken (in_ring t r) u earlier o ≡ room_taken (in_ring t r) s earlier o
      room r (openat p g None) h = room_same t r s u earlier (openat p g None)
          (λ e n. h (descriptor_at n) (unwritten t earlier all_descriptors (descriptor_at n) e tt)
          (true_of _ (in_right (λ (v : Use). member_of v.item (descriptor_at n)) (makes t k (openat p g None)) (room_taken (in_ring t r) s earlier (openat p g None))
          (descriptors_there r (written_by earlier all_descriptors) n))))
      room r (openat p g (Some n)) h = refl
      room r _ h = refl

  pub unresolved_in_world : (s u : World) (x : Option Turn) → unresolved_of t k u x ≡ unresolved_of t k s x
  unresolved_in_world s u (Some (runs r e o)) = refl
  unresolved_in_world s u (Some (called r o)) = refl
  unresolved_in_world s u _ = refl

  extras_behind : (s : World) (earlier : List Footprint) (middle : Footprint) (a : Atom) → has_atom (extras_of t k s earlier (task t k)) a ≡ true → has_atom (order_of t k ++ (middle ++ extras_of t k s earlier (task t k))) a ≡ true
  extras_behind s earlier middle a h = true_of _ (in_right (λ (v : Use). member_of v.item a) (order_of t k) _ (in_right (λ (v : Use). member_of v.item a) middle _ (holds_true _ h)))

module _ (t : Recording) (spelled : IsAccepted t) (window r k : ℕ) (waits : Waits t window (suc r) k) (may_run : is_taken_to_run t k (world_after t window r) (reaches_after t window r k) ≡ true) where
  abbrev s : World
  s = world_after t window r

  abbrev u : World
  u = world_after t window (suc r)

  abbrev earlier : List Footprint
  earlier = reaches_after t window r k

  abbrev later : List Footprint
  later = reaches_after t window (suc r) k

  abbrev deciding : Footprint
  deciding = (look_after t window r k).deciding

  -- The extras where the may-access set has them.
  extras_stay : ((a : Atom) → has_atom (extras_of t k s earlier (task t k)) a ≡ true → has_atom (reach_after t window r k) a ≡ true) → extras_of t k u earlier (task t k) ≡ extras_of t k s earlier (task t k)
  extras_stay within = extras_in_world t k s u earlier (task t k) (λ a none h. sym (keeps_value (replayed t) (lawful t spelled) (places t) window r k waits a none (within a h)))

  extras_as_accepted : is_met deciding earlier ≡ false → is_met (running_row t k s) earlier ≡ true
      → extras_of t k u earlier (task t k) ≡ extras_of t k s earlier (task t k)
  extras_as_accepted d e = extras_stay (λ a h. ap (λ f. has_atom f a) (accepted_reach t k s earlier may_run d e)
      ∙ extras_behind t k s earlier (look_of t k s (task t k)).items a h)

  row_agrees : is_met deciding earlier ≡ false → is_met (running_row t k s) earlier ≡ false → AgreeOn (replayed t) (running_row t k s) s u
  row_agrees d e = value_stays t spelled window r k waits (running_row t k s) e (row_in_reach t spelled window r k waits (record { may_run = may_run; unmet = d }))

  wide_in_world : wide_row t k u earlier ≡ wide_row t k s earlier
  wide_in_world = elim (cases_Bool (is_met deciding earlier)) [
    | inl d ↦ by_extras (extras_stay (λ a h. ap (λ f. has_atom f a) (wide_reach t k s earlier may_run d)
        ∙ extras_behind t k s earlier (unresolved_of t k s (task t k)) a h))
    | inr d ↦ elim (cases_Bool (is_met (running_row t k s) earlier)) [
      | inl e ↦ by_extras (extras_as_accepted d e)
      | inr e ↦ (row_laws t all_covered).wide_told k s u earlier (row_agrees d e)
    ]
  ]
    where
      by_extras : extras_of t k u earlier (task t k) ≡ extras_of t k s earlier (task t k) → wide_row t k u earlier ≡ wide_row t k s earlier
      by_extras e = λ i. order_of t k ++ (unresolved_in_world t k s u (task t k) i ++ e i)

  accepted_in_world : is_met deciding earlier ≡ false → accepted_row t k u earlier ≡ accepted_row t k s earlier
  accepted_in_world d =
      let same = look_next t spelled window r k waits (record { may_run = may_run; unmet = d }) in
      elim (cases_Bool (is_met (running_row t k s) earlier)) [
        | inl e ↦ λ i. order_of t k ++ ((same i).items ++ extras_as_accepted d e i)
        | inr e ↦ (row_laws t all_covered).accepted_told k s u earlier same (row_agrees d e)
      ]

  pub wide_stays : descriptors_wait t window (suc r) k ≡ descriptors_wait t window r k → ReachRowsStay t window r k
  wide_stays same = record {
    wide = (λ i. order_of t k ++ (unresolved_of t k u (task t k) ++ extras_by_writing t k u later earlier same (task t k) i)) ∙ wide_in_world;
    accepted = λ d. (λ i. order_of t k ++ ((look_of t k u (task t k)).items ++ extras_by_writing t k u later earlier same (task t k) i)) ∙ accepted_in_world d;
  }
