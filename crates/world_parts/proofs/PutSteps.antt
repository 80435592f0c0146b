-- Each written item that is put back brings a world nearer to the one that is wanted, and its own atoms to that one's.
use Rattle.std.specs.Prelude.{◌≡◌, ℕ, Bool, max, ◌<◌, ◌≤◌, T, List, [], length, Option, Some, None, slice_index_or, ◌⊎◌, unwrap_or}
use Rattle.std.specs.List.{slice_get}
use Rattle.std.specs.Option.{option_map}
use Rattle.std.proofs.lemmas.Option.{gets}
use mathlib.Core.Path.{sym, ◌∙◌}
use mathlib.Core.Logic.{inl}
use native.Mathlib.Omega.{arith}
use Rattle.finite_maps.specs.Table.{text_keys}
use Rattle.extent_bytes.specs.Bytes.{zeroed}
use Rattle.extent_bytes.proofs.Lengths.{length-resized, length-zeroed}
use Rattle.file_tree.specs.Tree.{Node, directory, renamed_node, rewritten_node}
use Rattle.world_parts.specs.World.{Description}
use Rattle.world_parts.specs.Items.{within}
use Rattle.world_parts.specs.Putting.{sized, listed, pasted, redescribed, repositioned}
use Rattle.world_parts.proofs.ByteWords.{each-resized, past_end, byte-zeroed}
use Rattle.world_parts.proofs.Pasting.{length-pasted, byte-pasted, Past}
use Rattle.world_parts.proofs.Raw.{head_of, spot, long, byte_in, lists, entry, byte_got}
use Rattle.world_parts.proofs.Nearer.{OneOf, NodeNear, placed, placed_near}

-- A node that is made as long as another one is, or no file where that is none.
pub sized-long : (o : Option ℕ) (x : Option Node) → long (sized o x) ≡ o
sized-long o x = grind (arith, length-resized)

pub sized_near : (y x : Option Node) (o : Option ℕ) → long y ≡ o → NodeNear y x (sized o x)
sized_near y x o e = record {
  size = inl (sized-long o x ∙ sym e);
  byte = λ p. grind (arith, each-resized, past_end);
  listing = grind arith;
  name = λ n. grind arith;
  shown = λ h. grind arith;
}

-- A node that is made a directory where another one is one, or none where it is none.
pub listed-lists : (b : Bool) (x : Option Node) → lists (listed b x) ≡ b
listed-lists b x = grind arith

pub listed_near : (y x : Option Node) (b : Bool) → lists y ≡ b → NodeNear y x (listed b x)
listed_near y x b e = record { size = grind arith; byte = λ p. grind arith; listing = grind arith; name = λ n. grind arith; shown = λ h. grind arith }

-- A name that is set to what another node has there.
abbrev put_name : List ℕ → Option ℕ → Option Node → Option Node
put_name n v x = option_map (renamed_node n v) x

pub named_near : (y x : Option Node) (n : List ℕ) (v : Option ℕ) → v ≡ entry y n → NodeNear y x (put_name n v x)
named_near y x n v e = record { size = grind arith; byte = λ p. grind arith; listing = grind arith; name = λ q. name x q; shown = λ h. grind arith }
  where
    name : (z : Option Node) (q : List ℕ) → OneOf (entry (put_name n v z) q) (entry y q) (entry z q)
    name (Some (directory ns o)) q = placed_near text_keys ns n v (λ x. x) (entry y) (inl e) q
    name _ q = grind arith

pub named-entry : (y x : Option Node) (n : List ℕ) (v : Option ℕ) → v ≡ entry y n → lists x ≡ lists y → entry (put_name n v x) n ≡ entry y n
named-entry y (Some (directory ns o)) n v e h = placed text_keys ns n v ∙ e
named-entry y _ n v e h = grind arith

-- A change of a file's bytes.
rewritten_near : (y x : Option Node) (f : List ℕ → List ℕ) → ((bs : List ℕ) → length (f bs) ≡ length bs)
    → ((bs : List ℕ) (p : ℕ) → OneOf (slice_index_or (f bs) p 0) (byte_in y p) (slice_index_or bs p 0)) → NodeNear y x (option_map (rewritten_node f) x)
rewritten_near y x f l h =
    record { size = grind (arith, l); byte = λ p. grind (arith, h); listing = grind arith; name = λ n. grind arith; shown = λ h. grind arith }

-- In a range a node is to have the bytes of a list.
module _ (y : Option Node) (new : List ℕ) (low high : ℕ) (given : (p : ℕ) → T (within low high p) → byte_in y p ≡ slice_index_or new p 0) where
  cleared_byte : (bs : List ℕ) (p : ℕ) → OneOf (slice_index_or (zeroed bs (max low (length new)) high) p 0) (byte_in y p) (slice_index_or bs p 0)
  cleared_byte bs p = grind (arith, byte-zeroed, past_end, given p)

  -- What lies past the list's end becomes zero.
  pub cleared_near : (x : Option Node) → NodeNear y x (option_map (rewritten_node (λ bs. zeroed bs (max low (length new)) high)) x)
  cleared_near x = rewritten_near y x (λ bs. zeroed bs (max low (length new)) high) (λ bs. length-zeroed bs (max low (length new)) high) cleared_byte

  pasted_byte : (bs : List ℕ) (p : ℕ) → OneOf (slice_index_or (pasted bs new low high) p 0) (byte_in y p) (slice_index_or bs p 0)
  pasted_byte bs p = grind (arith, byte-pasted bs new low high p, given p)

  pub pasted_near : (x : Option Node) → NodeNear y x (option_map (rewritten_node (λ bs. pasted bs new low high)) x)
  pasted_near x = rewritten_near y x (λ bs. pasted bs new low high) (λ bs. length-pasted bs new low high) pasted_byte

  -- Both together give the bytes of the range, where the node has its size.
  pub range_reached : (x : Option Node) → long x ≡ long y → (p : ℕ) → T (within low high p)
      → byte_in (option_map (rewritten_node (λ bs. pasted bs new low high)) (option_map (rewritten_node (λ bs. zeroed bs (max low (length new)) high)) x)) p ≡ byte_in y p
  range_reached x l p t = grind (arith, byte-pasted, byte-zeroed, given p, past_end, length-zeroed)

-- A buffer that has the bytes of a range from another one, as far as both go.
got-pasted : (old new : List ℕ) (low high p : ℕ)
    → ((slice_get (pasted old new low high) p ≡ slice_get new p) × (low ≤ p) × (p < high))
    ⊎ ((slice_get (pasted old new low high) p ≡ slice_get old p) × Past old new low high p)
got-pasted old new low high p = grind (arith, gets, byte-pasted old new low high p, length-pasted old new low high)

module _ (y v : Option (List ℕ)) (low high : ℕ) (given : (p : ℕ) → T (within low high p) → byte_got y p ≡ byte_got v p) where
  abbrev put_buffer : Option (List ℕ) → Option (List ℕ)
  put_buffer x = option_map (λ bs. pasted bs (unwrap_or v []) low high) x

  pub buffer_size_near : (x : Option (List ℕ)) → OneOf (option_map length (put_buffer x)) (option_map length y) (option_map length x)
  buffer_size_near x = grind (arith, length-pasted)

  pub buffer_byte_near : (x : Option (List ℕ)) (p : ℕ) → OneOf (byte_got (put_buffer x) p) (byte_got y p) (byte_got x p)
  buffer_byte_near x p = grind (arith, got-pasted, given p)

  pub buffer_reached : (x : Option (List ℕ)) → option_map length x ≡ option_map length y → (p : ℕ) → T (within low high p) → byte_got (put_buffer x) p ≡ byte_got y p
  buffer_reached x l p t = grind (arith, gets, got-pasted, given p)

-- A description of which all but the position, or the position, comes from another one. Where nothing was there, it all does.
abbrev pub Fresh : Option Description → Option Description → Option Description → Type 0
Fresh y v x = x ≡ None → (y ≡ None) ⊎ (y ≡ v)

pub redescribed-head : (v x : Option Description) → option_map head_of (redescribed v x) ≡ option_map head_of v
redescribed-head v x = grind arith

pub redescribed-spot : (y v x : Option Description) → option_map head_of v ≡ option_map head_of y → Fresh y v x
    → OneOf (spot (redescribed v x)) (spot y) (spot x)
redescribed-spot y v x e f = grind arith

pub repositioned-spot : (v x : Option Description) → spot (repositioned v x) ≡ spot v
repositioned-spot v x = grind arith

pub repositioned-head : (y v x : Option Description) → spot v ≡ spot y → Fresh y v x
    → OneOf (option_map head_of (repositioned v x)) (option_map head_of y) (option_map head_of x)
repositioned-head y v x e f = grind arith
