-- The turn of a place, by the step that its trace has there.
use Rattle.std.proofs.Common.{◌≡◌, ℕ, Option, Some, None, Result, Ok, Err, Bool, true, false, refl, sym, ap, ◌∙◌}
use Rattle.std.specs.Borrow.{Bor}
use Rattle.std.specs.Prelude.{List, leb, if◌then◌else◌}
use Rattle.std.specs.Option.{option_map}
use Rattle.sqe_codec.specs.Answers.{each}
use Rattle.sqe_codec.specs.declared.errno.Errno.{Errno}
use Rattle.recording.specs.declared.steps.Step as borrowed
use Rattle.recording.specs.declared.steps.Action.TheVariants as actions
use Rattle.trace_format.specs.declared.entry.Entry.{Entry}
use Rattle.trace_records.specs.declared.record.Content.{Content}
use Rattle.trace_records.specs.declared.record.Content.TheVariants as contents
use Rattle.trace_records.specs.declared.record.FileAt.{FileAt}
use Rattle.trace_records.specs.declared.record.FullSlot.{FullSlot}
use Rattle.recording.specs.declared.recording.Recording.{Recording}
use Rattle.recording.specs.Steps.{Step, Action, submit, fill, register, set, seek as seek_file, step_at, step_meant, action_meant}
use Rattle.chain_plan.specs.declared.role.Role.{Role}
use Rattle.chain_plan.specs.Chain.{role}
use Rattle.entry_checks.specs.Check.{check}
use Rattle.entry_checks.specs.Operation.{Operation, seek, asked}
use Rattle.world_parts.specs.World.{World, Broken, apply_all}
use Rattle.op_meaning.specs.Step.{Turn, filled, registered, called, runs, file_in, set_operation, doomed_turn, running_turn, entry_turn, turn, turn_under, reply_of, changes_in, step_reply, step_world}

-- of an entry
pub submitted : (t : Recording) (k : ℕ) (b : Option Broken) (x : borrowed.Step) (e : Entry) (c : Role) → step_at t k ≡ Some (step_meant x) → x.action ≡ actions.Submit e → c ≡ role t k
    → Some (entry_turn x.ring e c b (check t.version e)) ≡ turn_under t k b
submitted t k b x e c at is own =
    let here : step_at t k ≡ Some (record { ring = x.ring; from_record = x.record_number; action = submit e }) = at ∙ ap (λ a. Some (record { ring = x.ring; from_record = x.record_number; action = action_meant a })) is in
    rw here (ap (λ d. Some (entry_turn x.ring e d b (check t.version e))) own)

-- where a buffer is filled
pub fills : (t : Recording) (k : ℕ) (b : Option Broken) (x : borrowed.Step) (buffer at : ℕ) (bytes : Bor (List ℕ)) → step_at t k ≡ Some (step_meant x) → x.action ≡ actions.Fill buffer at bytes
    → Some (filled x.ring buffer at bytes.now) ≡ turn_under t k b
fills t k b x buffer at bytes there is =
    let here : step_at t k ≡ Some (record { ring = x.ring; from_record = x.record_number; action = fill buffer at bytes.now }) = there ∙ ap (λ a. Some (record { ring = x.ring; from_record = x.record_number; action = action_meant a })) is in
    rw here refl

-- where the slots of a new ring are filled
pub registers : (t : Recording) (k : ℕ) (b : Option Broken) (x : borrowed.Step) (slots : Bor (List FullSlot)) → step_at t k ≡ Some (step_meant x) → x.action ≡ actions.Register slots
    → Some (registered x.ring slots.now) ≡ turn_under t k b
registers t k b x slots there is =
    let here : step_at t k ≡ Some (record { ring = x.ring; from_record = x.record_number; action = register slots.now }) = there ∙ ap (λ a. Some (record { ring = x.ring; from_record = x.record_number; action = action_meant a })) is in
    rw here refl

-- where a record sets what a slot or a descriptor holds, or gives the position of that
pub sets : (t : Recording) (k : ℕ) (b : Option Broken) (x : borrowed.Step) (file : FileAt) (content : Bor Content) → step_at t k ≡ Some (step_meant x) → x.action ≡ actions.Set file content
    → Some (called x.ring (set_operation file content.now)) ≡ turn_under t k b
sets t k b x file content there is =
    let here : step_at t k ≡ Some (record { ring = x.ring; from_record = x.record_number; action = set file content.now }) = there ∙ ap (λ a. Some (record { ring = x.ring; from_record = x.record_number; action = action_meant a })) is in
    rw here refl

pub seeks : (t : Recording) (k : ℕ) (b : Option Broken) (x : borrowed.Step) (file : FileAt) (position : ℕ) → step_at t k ≡ Some (step_meant x) → x.action ≡ actions.Seek file position
    → Some (called x.ring (seek (file_in file) position)) ≡ turn_under t k b
seeks t k b x file position there is =
    let here : step_at t k ≡ Some (record { ring = x.ring; from_record = x.record_number; action = seek_file file position }) = there ∙ ap (λ a. Some (record { ring = x.ring; from_record = x.record_number; action = action_meant a })) is in
    rw here refl

-- a set moves no bytes
pub sets_ask_none : (file : FileAt) (content : Content) → asked (set_operation file content) ≡ None
sets_ask_none file contents.Nothing = refl
sets_ask_none file (contents.Path flags position path) = refl
sets_ask_none file (contents.Copy source) = refl
sets_ask_none file contents.Taken = refl

-- what a place does that isn't canceled, and the same in a chain that broke
abbrev pub under_flag : Role → Option Broken → Turn → Turn
under_flag c b (runs r e o) = running_turn r e c b o
under_flag c b y = y

module _ (c : Role) (b : Option Broken) where
  doomed_alike : (v : Result Operation Errno) → doomed_turn c v ≡ under_flag c b (doomed_turn c v)
  doomed_alike (Ok o) = refl
  doomed_alike (Err e) = refl

  entry_alike : (r : ℕ) (e : Entry) (v : Result Operation Errno) → entry_turn r e c b v ≡ under_flag c b (entry_turn r e c None v)
  entry_alike r e (Err x) = doomed_alike (Err x)
  entry_alike r e (Ok o) =
      elim c.doomed as (λ d. (if d then doomed_turn c (Ok o) else running_turn r e c b o) ≡ under_flag c b (if d then doomed_turn c (Ok o) else runs r e o)) [ true ↦ doomed_alike (Ok o) | false ↦ refl ]

-- so the flag of its chain tells what a place does by what it would do if its chain weren't broken
pub by_flag : (t : Recording) (k : ℕ) (b : Option Broken) → turn_under t k b ≡ option_map (under_flag (role t k) b) (turn_under t k None)
by_flag t k b = at (step_at t k)
  where
    of : Option Broken → ℕ → Action → Turn
    of f r (fill buffer p new) = filled r buffer p new
    of f r (register slots) = registered r slots
    of f r (set file content) = called r (set_operation file content)
    of f r (seek_file file position) = called r (seek (file_in file) position)
    of f r (submit e) = entry_turn r e (role t k) f (check t.version e)

    act : (r : ℕ) (x : Action) → of b r x ≡ under_flag (role t k) b (of None r x)
    act r (fill buffer p new) = refl
    act r (register slots) = refl
    act r (set file content) = refl
    act r (seek_file file position) = refl
    act r (submit e) = entry_alike (role t k) b r e (check t.version e)

    at : (x : Option Step) → option_map (λ (y : Step). of b y.ring y.action) x ≡ option_map (under_flag (role t k) b) (option_map (λ (y : Step). of None y.ring y.action) x)
    at None = refl
    at (Some y) = ap Some (act y.ring y.action)

-- the flag of a chain of one makes no difference
pub alone_alike : (c : Role) (b : Option Broken) (y : Turn) → under_flag c (if leb 2 c.length then b else None) y ≡ under_flag c b y
alone_alike c b (runs r e o) = at (leb 2 c.length) b refl
  where
    at : (l : Bool) (f : Option Broken) → leb 2 c.length ≡ l → running_turn r e c (if l then f else None) o ≡ running_turn r e c f o
    at true f is = refl
    at false None is = refl
    at false (Some f) is = rw is refl
alone_alike c b y = refl

pub of_flag : (t : Recording) (k : ℕ) (b : Option Broken) → turn_under t k (if leb 2 (role t k).length then b else None) ≡ turn_under t k b
of_flag t k b = by_flag t k (if leb 2 (role t k).length then b else None) ∙ at (turn_under t k None) ∙ sym (by_flag t k b)
  where
    at : (x : Option Turn) → option_map (under_flag (role t k) (if leb 2 (role t k).length then b else None)) x ≡ option_map (under_flag (role t k) b) x
    at None = refl
    at (Some y) = ap Some (alone_alike (role t k) b y)

-- The reply and the world of a turn are those of the place.
pub reply_is : (t : Recording) (k : ℕ) (s : World) (y : Turn) → turn t k s ≡ Some y → Some (reply_of t k s y) ≡ step_reply t k s
reply_is t k s y is = sym (ap (option_map (reply_of t k s)) is)

pub world_is : (t : Recording) (k : ℕ) (s : World) (y : Turn) → turn t k s ≡ Some y → apply_all (changes_in t k s y) s ≡ step_world t k s
world_is t k s y is = sym (ap (λ z. apply_all (each (changes_in t k s) z) s) is)
