-- The model: the replay of a trace as a system of numbered steps.
use Rattle.std.specs.Prelude.{◌≡◌, ℕ, true, ◌≤◌, ltb, Bool, List, Option, None}
use Rattle.interleaving.specs.System.{System}
use Rattle.interleaving.specs.Rows.{Rows}
use Rattle.recording.specs.declared.recording.Recording.{Recording}
use Rattle.finite_maps.specs.Table.{get}
use Rattle.chain_plan.specs.Chain.{role}
use Rattle.world_parts.specs.World.{World, IsWorld}
use Rattle.op_meaning.specs.Meaning.{made_node, made_description}
use Rattle.world_parts.specs.Start.{start}
use Rattle.op_meaning.specs.declared.reply.Reply.{Reply}
use Rattle.op_meaning.specs.Step.{turn, step_world, step_reply}
use Rattle.world_parts.specs.Items.{Atom, chain_flag, description_at, position_of, size_of, byte_at, name_at, names_in, Value, value, one, Footprint, has_atom, writes_atom, collide}
use Rattle.foot_print.specs.Footprint.{footprint}
use Rattle.foot_print.specs.Reach.{LookedUp, look_of, task, is_canceled, is_taken_to_run, is_met, written_by, order_of, running_row, accepted_row, wide_row, reach}

-- The numbers that a place makes are unused; so are those of every later place.
pub record Unused (t : Recording) (k : ℕ) (s : World) : Type 0 where
  pub no_node : get s.nodes (made_node t k) ≡ None
  pub no_description : get s.descriptions (made_description t k) ≡ None

abbrev pub IsBefore : Recording → ℕ → World → Type 0
IsBefore t k s = (j : ℕ) → k ≤ j → Unused t j s

-- Whether an atom is of no node and description that a place or a later one makes.
abbrev pub is_earlier : Recording → ℕ → Atom → Bool
is_earlier t k (description_at d) = ltb d (made_description t k)
is_earlier t k (position_of d) = ltb d (made_description t k)
is_earlier t k (size_of i) = ltb i (made_node t k)
is_earlier t k (byte_at i p) = ltb i (made_node t k)
is_earlier t k (name_at d n) = ltb d (made_node t k)
is_earlier t k (names_in d) = ltb d (made_node t k)
is_earlier t k _ = true

-- All numbers that are looked up are initial or of earlier places.
abbrev pub Bounded : Recording → ℕ → LookedUp → Type 0
Bounded t k l = (a : Atom) → has_atom l.items a ≡ true → is_earlier t k a ≡ true

abbrev pub Known : Recording → ℕ → World → List Footprint → Type 0
Known t k s earlier = is_taken_to_run t k s earlier ≡ true → Bounded t k (look_of t k s (task t k))

abbrev pub replayed : Recording → System
replayed t = record {
  World = World;
  Reply = Option Reply;
  Footprint = Footprint;
  Atom = Atom;
  Value = Value;
  start = start t;
  step = step_world t;
  reply = step_reply t;
  value = value;
  touches = has_atom;
  writes = writes_atom;
  collide = collide;
  foot = footprint t;
  reach = reach t;
  IsWorld = IsWorld;
  Unused = Unused t;
  IsBefore = IsBefore t;
  Known = Known t;
}

abbrev pub rows : (t : Recording) → Rows (replayed t)
rows t = record {
  Look = LookedUp;
  sees = λ l a. has_atom l.deciding a;
  look = λ k s. look_of t k s (task t k);
  canceled = λ k s. is_canceled (turn t k s);
  bare = order_of t;
  row = running_row t;
  accepted = accepted_row t;
  wide = wide_row t;
  waits = λ k earlier. written_by earlier (one (chain_flag (role t k).chain));
  unresolved = λ l earlier. is_met l.deciding earlier;
  disturbed = is_met;
  Bounded = Bounded t;
}
