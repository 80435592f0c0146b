-- The model: the parts of a world, and by which of its uses each of a list of access sets waits for earlier ones.
use Rattle.std.specs.Prelude.{◌≡◌, ℕ, ◌<◌, Bool, true, false, ◌&&◌, ◌||◌, ◌⊎◌, filter, length, Option, MatchOption, slice_index_or}
use Rattle.interleaving.specs.Direct.{IsDirect}
use Rattle.world_parts.specs.Items.{Atom, chain_flag, descriptor_at, Item, one, all_descriptors, Use, Footprint, has_atom, writes_atom, member_of, collide}

-- The parts of a world that places wait by: all descriptors together, since each OPENAT reads all of them, and every other atom by itself.
pub data Part : Type 0 where
  descriptors : Part
  single : (atom : Atom) → Part

abbrev pub part_of : Atom → Part
part_of (descriptor_at n) = descriptors
part_of a = single a

-- What an access set uses of the descriptors.
abbrev pub is_of_descriptors : Item → Bool
is_of_descriptors (one (descriptor_at n)) = true
is_of_descriptors all_descriptors = true
is_of_descriptors _ = false

abbrev pub descriptor_uses : Footprint → Footprint
descriptor_uses f = filter (λ u. is_of_descriptors u.item) f

-- Two access sets clash in a part: both use an atom of it that one of them writes.
abbrev pub clash_in : Part → Footprint → Footprint → Bool
clash_in descriptors f g = collide (descriptor_uses f) (descriptor_uses g)
clash_in (single a) f g = (has_atom f a && has_atom g a) && (writes_atom f a || writes_atom g a)

-- An access set waits directly for an earlier one by a part: they clash in it, and none between them does so with both.
abbrev pub WaitsBy : (ℕ → Footprint) → Part → ℕ → ℕ → Type 0
WaitsBy foot p k j = IsDirect (λ i h. clash_in p (foot i) (foot h)) k j

-- It does so by a use that has an atom of the part that the earlier one uses, too, where one of both writes it.
abbrev pub UseWaits : (ℕ → Footprint) → ℕ → Use → ℕ → Type 0
UseWaits foot k u j = (a : Atom) × (member_of u.item a ≡ true) × (has_atom (foot j) a ≡ true) × ((u.written ≡ true) ⊎ (writes_atom (foot j) a ≡ true)) × WaitsBy foot (part_of a) k j

-- The use at a number, and the first by which an access set waits for an earlier one.
abbrev pub use_at : Footprint → ℕ → Use
use_at f i = slice_index_or f i (record { item = one (chain_flag 0); written = false })

abbrev pub IsFirstUse : (ℕ → Footprint) → ℕ → ℕ → Option ℕ → Type 0
IsFirstUse foot k j o = MatchOption o ((i : ℕ) → i < length (foot k) → ¬ (UseWaits foot k (use_at (foot k) i) j))
    (λ i. (i < length (foot k)) × UseWaits foot k (use_at (foot k) i) j × ((h : ℕ) → h < i → ¬ (UseWaits foot k (use_at (foot k) h) j)))
