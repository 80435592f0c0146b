-- The model: which place blocks a waiting one, and what the two share.
use Rattle.std.specs.Prelude.{ℕ, ◌&&◌, ◌||◌, min, max, [], ◌∷◌, reverse, find, Option, Some, None, if◌then◌else◌}
use Rattle.std.specs.Option.{option_map, option_or, option_and_then}
use Rattle.interleaving.specs.System.{reaches}
use Rattle.interleaving.specs.Machine.{State, has}
use Rattle.interleaving.specs.Rounds.{pending}
use Rattle.recording.specs.declared.recording.Recording.{Recording}
use Rattle.world_parts.specs.Items.{Item, one, file_bytes, buffer_bytes, all_names, all_bytes_and_sizes, all_positions, all_descriptions, share, Use, Footprint, collide}
use Rattle.foot_print.specs.Footprint.{footprint}
use Rattle.foot_print.specs.Reach.{reach}
use Rattle.foot_print.specs.Replayed.{replayed}

-- What two items that share an atom share, as an item: the atom where one of them is one, of two ranges the range that is in both, of a range and all bytes the range, and of two sorts the lower bound.
abbrev pub shared_item : Item → Item → Item
shared_item (one a) y = one a
shared_item x (one a) = one a
shared_item (file_bytes i low high) (file_bytes j from to) = file_bytes i (max low from) (min high to)
shared_item (file_bytes i low high) (all_bytes_and_sizes n) = file_bytes i low high
shared_item (all_bytes_and_sizes n) (file_bytes i low high) = file_bytes i low high
shared_item (all_bytes_and_sizes n) (all_bytes_and_sizes m) = all_bytes_and_sizes (min n m)
shared_item (buffer_bytes r b low high) (buffer_bytes q c from to) = buffer_bytes r b (max low from) (min high to)
shared_item (all_names n) (all_names m) = all_names (min n m)
shared_item (all_positions n) (all_positions m) = all_positions (min n m)
shared_item (all_descriptions n) (all_descriptions m) = all_descriptions (min n m)
shared_item x y = x

-- What two uses share where they collide: one of both writes, and they share an atom.
abbrev pub shared_by : Use → Use → Option Item
shared_by u v = if (u.written || v.written) && share u.item v.item then Some (shared_item u.item v.item) else None

-- What a use shares with the first of some others that it collides with.
abbrev pub shared_with : Use → Footprint → Option Item
shared_with u [] = None
shared_with u (v ∷ vs) = option_or (shared_by u v) (shared_with u vs)

-- What the first use of an access set that collides with one of another shares with that one.
abbrev pub shared_of : Footprint → Footprint → Option Item
shared_of [] g = None
shared_of (u ∷ us) g = option_or (shared_with u g) (shared_of us g)

-- The place that blocks a waiting one, and the item that both use.
pub record Holder : Type 0 where
  pub place : ℕ
  pub item : Item

-- The may-access set of a place behind those of the pending places before it.
abbrev pub reach_in : (t : Recording) → State (replayed t) → ℕ → Footprint
reach_in t s i = reach t i s.world (reaches (replayed t) (has s.finished) s.world i)

-- The latest of the pending places before a place whose may-access set collides with its access set.
abbrev pub latest_in : (t : Recording) → State (replayed t) → ℕ → Option ℕ
latest_in t s k = find (λ i. collide (footprint t k s.world) (reach_in t s i)) (reverse (pending (has s.finished) k))

-- That place, with what its may-access set and the access set share.
abbrev pub holder_in : (t : Recording) → State (replayed t) → ℕ → Option Holder
holder_in t s k = option_and_then (λ i. option_map (λ x. record { place = i; item = x }) (shared_of (footprint t k s.world) (reach_in t s i))) (latest_in t s k)
