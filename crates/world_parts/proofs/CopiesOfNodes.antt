-- A part that gets a node's outline, and what else leads to the node.
use Rattle.std.specs.Prelude.{is_some, ◌≡◌, ℕ, false, cond, ◌==◌, List, [], Option, Some, None, refl, ◌⊎◌}
use Rattle.std.specs.Option.{option_map}
use Rattle.std.specs.Cmp.{unsigned_tied}
use mathlib.Core.Path.{sym, subst, ap, ◌∙◌}
use mathlib.Core.Logic.{inl}
use native.Mathlib.Omega.{arith}
use lib.Dec.{eqb→eq}
use Rattle.finite_maps.specs.Table.{get, empty, insert, get-insert, number_keys}
use Rattle.file_tree.specs.Tree.{Tree, Node, Kind, directory, file, kind_of_node}
use Rattle.world_parts.specs.World.{World, Description, kind, name, name_count, size, byte, opened, opened_by}
use Rattle.world_parts.specs.Items.{Atom, size_of, byte_at, name_at, names_in, description_at, position_of, Item, one, value}
use Rattle.world_parts.specs.Cutting.{Shows}
use Rattle.world_parts.specs.Copying.{outline_of_node, outline, looked_up, IsShadow, IsNearer, IsCopied}
use Rattle.world_parts.proofs.Copies.{either_way, nearer_beside, one_item, nothing_moved, nearer_still, same_kind}
use Rattle.extent_bytes.specs.Bytes.{resized}
use Rattle.extent_bytes.proofs.Lengths.{length-resized}
use Rattle.world_parts.proofs.ByteWords.{each-resized}
use Rattle.world_parts.proofs.Raw.{byte_in, entry}

-- What an outline tells of sizes and of numbers of names.
pub same_size : (s p : World) (i : ℕ) → outline p i ≡ outline s i → size s i ≡ size p i
same_size s p i e = grind arith

pub same_count : (s p : World) (i : ℕ) → outline p i ≡ outline s i → name_count s i ≡ name_count p i
same_count s p i e = grind arith

-- A look-up finds what it found before, or what the world has there, of a kind that agrees.
abbrev pub Finds : World → World → ℕ → List ℕ → Option ℕ → Option ℕ → Type 0
Finds s p d m now before = (now ≡ before) ⊎ ((j : ℕ) × (now ≡ Some j) × (looked_up s d m ≡ Some j) × (kind p j ≡ kind s j))

-- Where kinds that agreed still do, so do names, and what is opened.
module _ (s p q : World) (kinds : (i : ℕ) → kind p i ≡ kind s i → kind q i ≡ kind s i) where
  names_stay : (e : ℕ) (m : List ℕ) → Finds s p e m (looked_up q e m) (looked_up p e m) → name s e m ≡ name p e m → name s e m ≡ name q e m
  names_stay e m l h = grind arith

  shown_names : (e : ℕ) (m : List ℕ) → Finds s p e m (looked_up q e m) (looked_up p e m) → Shows (name p e m) (name s e m) → Shows (name q e m) (name s e m)
  shown_names e m l h = grind arith

  openings_stay : (x y : Option Description) → option_map (opened_by s) x ≡ option_map (opened_by p) y → option_map (opened_by s) x ≡ option_map (opened_by q) y
  openings_stay x y e = grind arith

  shown_openings : (x y : Option Description) → Shows (option_map (opened_by p) y) (option_map (opened_by s) x)
      → Shows (option_map (opened_by q) y) (option_map (opened_by s) x)
  shown_openings x y h = grind arith

-- What another node at a number makes of outlines, look-ups and bytes.
module _ (s p q : World) (d : ℕ) (old : Option Node) (new : Node) (was : get p.nodes d ≡ old) (e : ℕ)
    (after : get q.nodes e ≡ cond (e == d) (Some new) (get p.nodes e)) where
  outline_moved : (Some (outline_of_node new) ≡ outline s d) ⊎ (Some (outline_of_node new) ≡ option_map outline_of_node old)
      → (outline q e ≡ outline s e) ⊎ (outline q e ≡ outline p e)
  outline_moved shape = grind arith

  look_moved : (m : List ℕ) → Finds s p d m (entry (Some new) m) (entry old m) → Finds s p e m (looked_up q e m) (looked_up p e m)
  look_moved m looks = grind arith

  byte_moved : (o : ℕ) → (byte s d o ≡ byte_in old o → byte s d o ≡ byte_in (Some new) o) → byte s e o ≡ byte p e o → byte s e o ≡ byte q e o
  byte_moved o contents h =
      subst (λ x. byte s e o ≡ byte_in x o) (sym after) (either_way (e == d) (λ x. byte s e o ≡ byte_in x o) (Some new) (get p.nodes e)
      (λ t. subst (λ k. byte s k o ≡ byte p k o → byte s k o ≡ byte_in (Some new) o) (sym (eqb→eq e d t)) (λ g. contents (g ∙ ap (λ x. byte_in x o) was)) h) h)

-- A part with another node at a number: its outline is as it was or as it is to be, and so is what it shows and what bytes it has.
module _ (s p : World) (sh : IsShadow s p) (d : ℕ) (old : Option Node) (new : Node) (nodes : Tree)
    (after : (e : ℕ) → get nodes e ≡ cond (e == d) (Some new) (get p.nodes e)) (was : get p.nodes d ≡ old)
    (shape : (Some (outline_of_node new) ≡ outline s d) ⊎ (Some (outline_of_node new) ≡ option_map outline_of_node old))
    (looks : (m : List ℕ) → Finds s p d m (entry (Some new) m) (entry old m))
    (contents : (o : ℕ) → byte s d o ≡ byte_in old o → byte s d o ≡ byte_in (Some new) o) where
  abbrev replaced : World
  replaced = record p { nodes = nodes }

  moved : (e : ℕ) → (outline replaced e ≡ outline s e) ⊎ (outline replaced e ≡ outline p e)
  moved e = outline_moved s p replaced d old new was e (after e) shape

  kinds : (e : ℕ) → kind p e ≡ kind s e → kind replaced e ≡ kind s e
  kinds e h = grind (arith, moved e)

  looked : (e : ℕ) (m : List ℕ) → Finds s p e m (looked_up replaced e m) (looked_up p e m)
  looked e m = look_moved s p replaced d old new was e (after e) m (looks m)

  atoms : (a : Atom) → value s a ≡ value p a → value s a ≡ value replaced a
  atoms (size_of e) h = grind (arith, moved e)
  atoms (names_in e) h = grind (arith, moved e)
  atoms (byte_at e o) h = byte_moved s p replaced d old new was e (after e) o (contents o) h
  atoms (name_at e m) h = names_stay s p replaced kinds e m (looked e m) h
  atoms (description_at c) h = openings_stay s p replaced kinds (get s.descriptions c) (get p.descriptions c) h
  atoms _ h = h

  outlines : (e : ℕ) → Shows (outline replaced e) (outline s e)
  outlines e = grind (arith, moved e, sh.outlines e)

  pub replaced_nearer : IsNearer s p replaced
  replaced_nearer = record {
    shadow = record {
      outlines = outlines;
      names = λ e m. shown_names s p replaced kinds e m (looked e m) (sh.names e m);
      descriptions = λ c. shown_openings s p replaced kinds (get s.descriptions c) (get p.descriptions c) (sh.descriptions c);
      buffers = sh.buffers;
      chains = sh.chains;
    };
    outlines = moved;
    atoms = atoms;
  }

-- What has no kind isn't there.
pub unkinded : {K : Type 0} (f : K → Kind) (r : Option K) (o : Option Node) → option_map f r ≡ option_map kind_of_node o → false ≡ is_some r → o ≡ None
unkinded f r o e h = grind arith

-- A node that is put where none was: a file of zeros, as long as the world's, or a directory that shows none of its names, with as many.
module _ (s p : World) (sh : IsShadow s p) (i n : ℕ) (absent : get p.nodes i ≡ None) where
  abbrev with_node : Node → World
  with_node x = record p { nodes = insert number_keys.total p.nodes i x }

  after : (x : Node) (e : ℕ) → get (with_node x).nodes e ≡ cond (e == i) (Some x) (get p.nodes e)
  after x e = grind (arith, get-insert number_keys.total p.nodes i x e, unsigned_tied)

  abbrev zeros : Node
  zeros = file (resized [] n)

  zero_byte : (o : ℕ) → byte_in (Some zeros) o ≡ 0
  zero_byte o = grind (arith, each-resized)

  same_zeros : Some n ≡ size s i → Some (outline_of_node zeros) ≡ outline s i
  same_zeros e = grind (arith, length-resized)

  pub file_laid : Some n ≡ size s i → IsNearer s p (with_node zeros) × (outline (with_node zeros) i ≡ outline s i)
  file_laid e = (
    replaced_nearer s p sh i None zeros (insert number_keys.total p.nodes i zeros) (after zeros) absent (inl (same_zeros e)) (λ m. inl refl)
        (λ o h. h ∙ sym (zero_byte o)),
    grind (arith, after zeros i, same_zeros e),
  )

  abbrev listing : Node
  listing = directory empty n

  same_listing : Some n ≡ name_count s i → Some (outline_of_node listing) ≡ outline s i
  same_listing e = grind arith

  pub listing_laid : Some n ≡ name_count s i → IsNearer s p (with_node listing) × (outline (with_node listing) i ≡ outline s i)
  listing_laid e = (
    replaced_nearer s p sh i None listing (insert number_keys.total p.nodes i listing) (after listing) absent (inl (same_listing e)) (λ m. inl refl)
        (λ o h. h),
    grind (arith, after listing i, same_listing e),
  )

-- Descriptions.

-- A description that is copied to where its node is.
module _ (s p : World) (sh : IsShadow s p) (n : ℕ) (d : Description) (there : Some d ≡ get s.descriptions n) (same : outline p d.node ≡ outline s d.node) where
  abbrev opened_there : World
  opened_there = record p { descriptions = insert number_keys.total p.descriptions n d }

  found : (c : ℕ) → get opened_there.descriptions c ≡ cond (c == n) (Some d) (get p.descriptions c)
  found c = grind (arith, get-insert number_keys.total p.descriptions n d c, unsigned_tied)

  new_opening : opened s n ≡ Some (opened_by p d)
  new_opening = grind (arith, same_kind s p d.node same)

  atoms_there : (a : Atom) → value s a ≡ value p a → value s a ≡ value opened_there a
  atoms_there (description_at c) h = grind (arith, found c, new_opening)
  atoms_there (position_of c) h = grind (arith, found c)
  atoms_there _ h = h

  opening_nearer : IsNearer s p opened_there
  opening_nearer = nearer_beside s p opened_there sh refl (λ c. grind (arith, found c, new_opening, sh.descriptions c)) sh.buffers sh.chains atoms_there

  pub opening_copied : IsCopied s p opened_there (one (description_at n))
  opening_copied = record { nearer = opening_nearer; item = one_item s opened_there (description_at n) (grind (arith, found n, new_opening)) }

  pub position_copied : IsCopied s p opened_there (one (position_of n))
  position_copied = record { nearer = opening_nearer; item = one_item s opened_there (position_of n) (grind (arith, found n)) }

-- A description that isn't there.
module _ (s p : World) (sh : IsShadow s p) (n : ℕ) (none : None ≡ get s.descriptions n) where
  pub no_opening_copied : IsCopied s p p (one (description_at n))
  no_opening_copied = record { nearer = nothing_moved s p sh; item = one_item s p (description_at n) (grind (arith, sh.descriptions n)) }

  pub no_position_copied : IsCopied s p p (one (position_of n))
  no_position_copied = record { nearer = nothing_moved s p sh; item = one_item s p (position_of n) (grind (arith, sh.descriptions n)) }

-- Sizes and numbers of names.

pub size_copied : (s p q : World) (i : ℕ) → IsNearer s p q → outline q i ≡ outline s i → IsCopied s p q (one (size_of i))
size_copied s p q i g e = record { nearer = g; item = one_item s q (size_of i) (same_size s q i e) }

pub count_copied : (s p q : World) (i : ℕ) → IsNearer s p q → outline q i ≡ outline s i → IsCopied s p q (one (names_in i))
count_copied s p q i g e = record { nearer = g; item = one_item s q (names_in i) (same_count s q i e) }

-- What follows a copy of something else.
pub copied_after : (s p q r : World) (x : Item) → IsNearer s p q → IsCopied s q r x → IsCopied s p r x
copied_after s p q r x g h = record { nearer = nearer_still s p q r g h.nearer; item = h.item }
