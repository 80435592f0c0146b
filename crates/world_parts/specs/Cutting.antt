-- The model: parts of a world, cut out by an access set and put back.
use Rattle.std.specs.Prelude.{◌≡◌, ℕ, ◌-◌, Bool, true, false, not, T, List, [], ◌∷◌, ◌++◌, replicate, Option, None, ◌⊎◌, if◌then◌else◌}
use Rattle.std.specs.List.{list_all}
use Rattle.finite_maps.specs.Table.{insert, number_keys}
use Rattle.world_parts.specs.World.{World, kind, name, opened, Change, zero_bytes, write_buffer, apply_all}
use Rattle.world_parts.specs.Items.{Atom, value, Item, file_bytes, buffer_bytes, all_names, all_bytes_and_sizes, all_positions, all_descriptions, all_descriptors, Use, Footprint, writes_atom, Agree}
use Rattle.world_parts.specs.Part.{Divided}

-- Whether a part can be cut by a use: by a single item, a range, or all descriptors where they are only read.
abbrev pub is_narrow_use : Use → Bool
is_narrow_use u = by u.item u.written
  where
    by : Item → Bool → Bool
    by (all_names n) w = false
    by (all_bytes_and_sizes n) w = false
    by (all_positions n) w = false
    by (all_descriptions n) w = false
    by all_descriptors w = not w
    by _ w = true

abbrev pub is_narrow : Footprint → Bool
is_narrow f = list_all is_narrow_use f

-- Cutting leaves zeros in the ranges of bytes that are written.
abbrev pub zeros_in : Item → List Change
zeros_in (file_bytes i low high) = zero_bytes i low high ∷ []
zeros_in (buffer_bytes r b low high) = write_buffer r b low (replicate (high - low) 0) ∷ []
zeros_in _ = []

abbrev pub zeros : Footprint → List Change
zeros [] = []
zeros (u ∷ f) = (if u.written then zeros_in u.item else []) ++ zeros f

-- A world with zeros where a part has taken bytes out.
abbrev pub holed : Footprint → World → World
holed f s = apply_all (zeros f) s

-- The same after several parts, cut in the list's order.
abbrev pub holed_by : List Footprint → World → World
holed_by [] s = s
holed_by (f ∷ fs) s = holed_by fs (holed f s)

-- What one world shows another one has.
abbrev pub Shows : {A : Type 0} → Option A → Option A → Type 0
Shows x y = (x ≡ None) ⊎ (x ≡ y)

-- A part's world agrees with the whole one on the access set, and shows no node, description or name that the whole one doesn't have.
pub record IsPartOf (s : World) (f : Footprint) (part : World) : Type 0 where
  pub agrees : Agree f s part
  pub nodes : (i : ℕ) → Shows (kind part i) (kind s i)
  pub descriptions : (d : ℕ) → Shows (opened part d) (opened s d)
  pub names : (d : ℕ) (n : List ℕ) → Shows (name part d n) (name s d n)

-- The divided world that cutting a place's part leaves.
abbrev pub cut_from : Divided → ℕ → Footprint → Divided
cut_from d k f = record { world = holed f d.world; out = insert number_keys.total d.out k f }

-- A world has a part's values where its access set writes, and another's elsewhere.
pub record PutsTo (f : Footprint) (before part after : World) : Type 0 where
  pub given : (a : Atom) → T (writes_atom f a) → value after a ≡ value part a
  pub kept : (a : Atom) → T (not (writes_atom f a)) → value after a ≡ value before a
