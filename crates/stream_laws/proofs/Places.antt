-- A place is alike in a recording and in one that it stands for.
use Rattle.std.proofs.Common.{◌≡◌, ℕ, ◌<◌, ◌≤◌, Bool, true, false, List, [], ◌∷◌, ◌++◌, map, Option, Some, None, refl, sym, ap, subst, ◌∙◌}
use Rattle.std.specs.Prelude.{leb, Result, Ok, Err, IfSome, if◌then◌else◌}
use Rattle.std.specs.Option.{option_map}
use Rattle.sqe_codec.specs.declared.errno.Errno.{Errno}
use Rattle.sqe_codec.specs.Answers.{each}
use Rattle.trace_format.specs.declared.entry.Entry.{Entry}
use Rattle.trace_format.specs.declared.version.Version.{Version}
use Rattle.trace_records.specs.declared.record.Content.{Content}
use Rattle.trace_records.specs.declared.record.Content.TheVariants as contents
use Rattle.trace_records.specs.declared.record.FileAt.{FileAt}
use Rattle.trace_records.specs.declared.record.FileAt.TheVariants as files
use Rattle.trace_records.specs.declared.record.FullSlot.{FullSlot}
use Rattle.trace_records.specs.declared.record.Holder.{Holder}
use Rattle.trace_records.specs.declared.record.Holder.TheVariants.{Slot, Descriptor, Description}
use Rattle.recording.specs.declared.recording.Recording.{Recording}
use Rattle.recording.specs.Steps.{Step, Action, submit, fill, register, set as set_file, seek as seek_file, is_on_ring, places, step_at}
use Rattle.recording.specs.Accepted.{IsAccepted}
use Rattle.entry_checks.specs.Operation.{Operation, hold_nothing, hold_path, hold_copy, hold_other, seek, at_descriptor}
use Rattle.entry_checks.specs.Check.{check}
use Rattle.chain_plan.specs.declared.role.Role.{Role}
use Rattle.chain_plan.specs.Chain.{chain_of, role}
use Rattle.world_parts.specs.World.{World, Broken, broken, write_buffer, set_slot, apply_all}
use Rattle.op_meaning.specs.Site.{sited}
use Rattle.op_meaning.specs.Meaning.{meaning}
use Rattle.op_meaning.specs.Step.{Turn, filled, registered, called, refused, canceled, runs, entry_turn, turn, turn_under, reply_of, run_reply, changes_in, changes_of, breaks, failed, held_by, filled_slot, file_in, set_operation, step_world}
use Rattle.op_meaning.proofs.Answering.{apply_all-append}
use Rattle.stream_laws.specs.Standing.{StandsFor, Follows}
use Rattle.stream_laws.specs.Laws.{PlacesAreAlike}
use Rattle.stream_laws.proofs.Roles.{role_same}
use Rattle.stream_laws.proofs.Sites.{meaning_same}
use Rattle.stream_laws.proofs.Writes.{AllIn, HasRing, changes_in_ring}
use Rattle.stream_laws.proofs.Following.{IsRingOf, all_changed, breaks_alike}

-- What a step does, by the version, its role and the flag of its chain.
abbrev acted : Version → Role → Option Broken → ℕ → Action → Turn
acted ver c b r (fill buffer at new) = filled r buffer at new
acted ver c b r (register slots) = registered r slots
acted ver c b r (set_file file content) = called r (set_operation file content)
acted ver c b r (seek_file file position) = called r (seek (file_in file) position)
acted ver c b r (submit e) = entry_turn r e c b (check ver e)

abbrev turned : Version → Role → Option Broken → Step → Turn
turned ver c b x = acted ver c b x.ring x.action

turn_is : (t : Recording) (k : ℕ) (b : Option Broken) → turn_under t k b ≡ option_map (turned t.version (role t k) b) (step_at t k)
turn_is t k b = at (step_at t k)
  where
    of : ℕ → Action → Turn
    of r (fill buffer p new) = filled r buffer p new
    of r (register slots) = registered r slots
    of r (set_file file content) = called r (set_operation file content)
    of r (seek_file file position) = called r (seek (file_in file) position)
    of r (submit e) = entry_turn r e (role t k) b (check t.version e)

    act : (r : ℕ) (x : Action) → of r x ≡ acted t.version (role t k) b r x
    act r (fill buffer p new) = refl
    act r (register slots) = refl
    act r (set_file file content) = refl
    act r (seek_file file position) = refl
    act r (submit e) = refl

    at : (x : Option Step) → option_map (λ (y : Step). of y.ring y.action) x ≡ option_map (turned t.version (role t k) b) x
    at None = refl
    at (Some y) = ap Some (act y.ring y.action)

-- The number of its chain makes no difference.
entry_same : (r : ℕ) (e : Entry) (c : Role) (n : ℕ) (b : Option Broken) (x : Result Operation Errno) → entry_turn r e c b x ≡ entry_turn r e (record c { chain = n }) b x
entry_same r e c n b (Err y) = refl
entry_same r e c n None (Ok o) = refl
entry_same r e c n (Some f) (Ok o) = refl

acted_same : (ver : Version) (c : Role) (n : ℕ) (b : Option Broken) (r : ℕ) (x : Action) → acted ver c b r x ≡ acted ver (record c { chain = n }) b r x
acted_same ver c n b r (fill buffer at new) = refl
acted_same ver c n b r (register slots) = refl
acted_same ver c n b r (set_file file content) = refl
acted_same ver c n b r (seek_file file position) = refl
acted_same ver c n b r (submit e) = entry_same r e c n b (check ver e)

-- What is done on a ring is done on one that is there.
abbrev IsWithin : Recording → Turn → Type 0
IsWithin t (filled r b at new) = IsRingOf t r
IsWithin t (registered r slots) = Unit {0}
IsWithin t (called r o) = HasRing (IsRingOf t) r o
IsWithin t (refused e posted) = Unit {0}
IsWithin t (canceled posted) = Unit {0}
IsWithin t (runs r e o) = IsRingOf t r

module _ (t : Recording) where
  either_within : (b : Bool) (x y : Turn) → IsWithin t x → IsWithin t y → IsWithin t (if b then x else y)
  either_within true x y g h = g
  either_within false x y g h = h

  entry_within : (r : ℕ) (e : Entry) (c : Role) (b : Option Broken) (x : Result Operation Errno) → IsRingOf t r → IsWithin t (entry_turn r e c b x)
  entry_within r e c b (Err y) lt = tt
  entry_within r e c None (Ok o) lt = either_within c.doomed _ _ tt lt
  entry_within r e c (Some f) (Ok o) lt = either_within c.doomed _ _ tt (either_within (leb 2 c.length) _ _ tt lt)

  set_within : (r : ℕ) (file : FileAt) (content : Content) → HasRing (IsRingOf t) r (set_operation file content)
  set_within r file contents.Nothing = tt
  set_within r file (contents.Path flags position path) = tt
  set_within r file (contents.Copy source) = tt
  set_within r file contents.Taken = tt

  seek_within : (r : ℕ) (file : FileAt) (position : ℕ) → (is_on_ring (seek_file file position) ≡ true → IsRingOf t r) → HasRing (IsRingOf t) r (seek (file_in file) position)
  seek_within r (files.Slot q n) position there = there refl
  seek_within r (files.Descriptor n) position there = tt

  acted_within : (ver : Version) (c : Role) (b : Option Broken) (r : ℕ) (x : Action) → (is_on_ring x ≡ true → IsRingOf t r) → IsWithin t (acted ver c b r x)
  acted_within ver c b r (fill buffer at new) there = there refl
  acted_within ver c b r (register slots) there = tt
  acted_within ver c b r (set_file file content) there = set_within r file content
  acted_within ver c b r (seek_file file position) there = seek_within r file position there
  acted_within ver c b r (submit e) there = entry_within r e c b (check ver e) (there refl)

turn_within : (t : Recording) (k : ℕ) (s : World) → IsAccepted t → IfSome (turn t k s) (IsWithin t)
turn_within t k s accepted = subst (λ o. IfSome o (IsWithin t)) (sym (turn_is t k (broken s (role t k).chain))) (by (step_at t k) refl)
  where
    by : (o : Option Step) → step_at t k ≡ o → IfSome (option_map (turned t.version (role t k) (broken s (role t k).chain)) o) (IsWithin t)
    by None e = tt
    by (Some x) e = acted_within t t.version (role t k) (broken s (role t k).chain) x.ring x.action (accepted.rings k x e)

-- A ring that is there is there for each operation.
has_ring : (t : Recording) (r : ℕ) (o : Operation) → IsRingOf t r → HasRing (IsRingOf t) r o
has_ring t r (hold_nothing f) there = tt
has_ring t r (hold_path f p g at) there = tt
has_ring t r (hold_copy f q source) there = tt
has_ring t r (hold_other f) there = tt
has_ring t r (seek (at_descriptor n) at) there = tt
has_ring t r o there = there

-- The slots of a new ring get the same.
module _ (s w : World) (same : (h : Holder) → held_by s h ≡ held_by w h) (r : ℕ) where
  slots_same : (xs : List FullSlot) → map (filled_slot r s) xs ≡ map (filled_slot r w) xs
  slots_same [] = refl
  slots_same (x ∷ xs) = λ i. set_slot r x.number (same x.holds i) ∷ slots_same xs i

slots_in : (t : Recording) (s : World) (r : ℕ) (xs : List FullSlot) → AllIn (IsRingOf t) (map (filled_slot r s) xs)
slots_in t s r [] = tt
slots_in t s r (x ∷ xs) = (tt, slots_in t s r xs)

module _ {v u : Recording} {first : ℕ} (stands : StandsFor v u first) (k : ℕ) (from : first ≤ k) (lt : k < places v) (s w : World) (follows : Follows v u first s w) where
  turn_same : turn v k s ≡ turn u k w
  turn_same =
      turn_is v k (broken s (chain_of v k))
      ∙ (λ i. option_map (λ (x : Step). acted_same v.version (role v k) (chain_of u k) (broken s (chain_of v k)) x.ring x.action i) (step_at v k))
      ∙ (λ i. option_map (turned (stands.version i) (role_same stands k from lt i) (follows.chains.same k from lt i)) (stands.steps k from lt i))
      ∙ sym (turn_is u k (broken w (chain_of u k)))

  abbrev between : World
  between = record s { buffers = w.buffers; broken = w.broken }

  world_same : between ≡ w
  world_same = λ i. record { nodes = follows.nodes i; descriptions = follows.descriptions i; slots = follows.slots i; descriptors = follows.descriptors i; buffers = w.buffers; broken = w.broken }

  means_alike : (r : ℕ) (o : Operation) → HasRing (IsRingOf v) r o → meaning (sited v k r) s o ≡ meaning (sited u k r) w o
  means_alike r o has = meaning_same stands r k s w.buffers w.broken (λ there b. follows.buffers.same r b there) o has ∙ ap (λ z. meaning (sited u k r) z o) world_same

  held_alike : (h : Holder) → held_by s h ≡ held_by w h
  held_alike h = at h ∙ ap (λ z. held_by z h) world_same
    where
      at : (h : Holder) → held_by s h ≡ held_by between h
      at (Slot r n) = refl
      at (Descriptor n) = refl
      at (Description n) = refl

  reply_alike : (x : Option Turn) → IfSome x (IsWithin v) → option_map (reply_of v k s) x ≡ option_map (reply_of u k w) x
  reply_alike None h = refl
  reply_alike (Some (filled r b at new)) h = refl
  reply_alike (Some (registered r slots)) h = refl
  reply_alike (Some (called r o)) h = refl
  reply_alike (Some (refused e posted)) h = refl
  reply_alike (Some (canceled posted)) h = refl
  reply_alike (Some (runs r e o)) h = ap (λ m. Some (run_reply e o m)) (means_alike r o (has_ring v r o h))

  called_follows : (r : ℕ) (o : Operation) → HasRing (IsRingOf v) r o → Follows v u first (apply_all (changes_in v k s (called r o)) s) (apply_all (changes_in u k w (called r o)) w)
  called_follows r o has =
      let cs = changes_of (meaning (sited v k r) s o) in
      subst (λ y. Follows v u first (apply_all cs s) (apply_all (changes_of y) w)) (means_alike r o has) (all_changed cs s w (changes_in_ring (IsRingOf v) r v k s o has) follows)

  run_follows : (r : ℕ) (e : Entry) (o : Operation) → HasRing (IsRingOf v) r o → Follows v u first (apply_all (changes_in v k s (runs r e o)) s) (apply_all (changes_in u k w (runs r e o)) w)
  run_follows r e o has =
      let x = meaning (sited v k r) s o in
      let cs = changes_of x in
      let mine = breaks (role v k) e (failed o x) in
      let others = breaks (role u k) e (failed o x) in
      let changed = all_changed cs s w (changes_in_ring (IsRingOf v) r v k s o has) follows in
      let done = breaks_alike stands k from lt e (failed o x) (apply_all cs s) (apply_all cs w) changed in
      subst (λ y. Follows v u first (apply_all (cs ++ mine) s) (apply_all (changes_of y ++ breaks (role u k) e (failed o y)) w)) (means_alike r o has)
      (subst (λ z. Follows v u first z (apply_all (cs ++ others) w)) (sym (apply_all-append cs mine s))
      (subst (λ z. Follows v u first (apply_all mine (apply_all cs s)) z) (sym (apply_all-append cs others w)) done))

  world_alike : (x : Option Turn) → IfSome x (IsWithin v) → Follows v u first (apply_all (each (changes_in v k s) x) s) (apply_all (each (changes_in u k w) x) w)
  world_alike None h = follows
  world_alike (Some (filled r b at new)) h = all_changed (write_buffer r b at new ∷ []) s w (h, tt) follows
  world_alike (Some (registered r slots)) h =
      subst (λ cs. Follows v u first (apply_all (map (filled_slot r s) slots) s) (apply_all cs w)) (slots_same s w held_alike r slots)
      (all_changed (map (filled_slot r s) slots) s w (slots_in v s r slots) follows)
  world_alike (Some (called r o)) h = called_follows r o h
  world_alike (Some (refused e posted)) h = follows
  world_alike (Some (canceled posted)) h = follows
  world_alike (Some (runs r e o)) h = run_follows r e o (has_ring v r o h)

pub places_are_alike : PlacesAreAlike
places_are_alike v u first k s w stands accepted from lt follows =
    let within = turn_within v k s accepted in
    let same = turn_same stands k from lt s w follows in
    record {
      reply = reply_alike stands k from lt s w follows (turn v k s) within ∙ ap (option_map (reply_of u k w)) same;
      world = subst (λ x. Follows v u first (step_world v k s) (apply_all (each (changes_in u k w) x) w)) same (world_alike stands k from lt s w follows (turn v k s) within);
    }
