-- Worlds by what each node, description and name has itself, apart from the kind of the node that it leads to.
use Rattle.std.specs.Prelude.{◌≡◌, ℕ, Bool, List, length, Option, Some, None, IfSome, refl}
use Rattle.std.specs.Option.{option_map, option_and_then, is_some}
use Rattle.std.specs.List.{slice_get}
use mathlib.Core.Path.{sym, ap, ◌∙◌}
use native.Mathlib.Omega.{arith}
use Rattle.std.proofs.lemmas.Grind.{same_number_lists}
use Rattle.std.proofs.lemmas.Option.{gets, same_Some}
use Rattle.trace_format.specs.declared.trace.Access.{Access}
use Rattle.finite_maps.specs.Table.{get, same_table, number_keys, pair_keys, text_keys}
use Rattle.file_tree.specs.Tree.{Node, Names, directory, file, names_of_node, others_of_node, bytes_of_node, byte_of}
use Rattle.file_tree.specs.Found.{node_of}
use Rattle.world_parts.specs.World.{World, Description, Opened, names}
use Rattle.world_parts.specs.Items.{Atom, chain_flag, slot_at, descriptor_at, description_at, position_of, size_of, byte_at, name_at, names_in, buffer_size, buffer_byte, Value, value}

-- What a description says, apart from its position.
pub record Head : Type 0 where
  pub node : ℕ
  pub access : Access
  pub append : Bool

abbrev pub head_of : Description → Head
head_of d = record { node = d.node; access = d.access; append = d.append }

abbrev pub spot : Option Description → Option ℕ
spot x = option_map (λ (d : Description). d.position) x

-- What is seen of a node: its size, its bytes, whether it is a directory, and its names.
abbrev pub long : Option Node → Option ℕ
long x = option_map length (option_and_then bytes_of_node x)

abbrev pub byte_in : Option Node → ℕ → ℕ
byte_in x p = byte_of (option_and_then bytes_of_node x) p

abbrev pub lists : Option Node → Bool
lists x = is_some (option_and_then names_of_node x)

abbrev pub entry : Option Node → List ℕ → Option ℕ
entry x n = option_and_then (λ (ns : Names). get ns n) (option_and_then names_of_node x)

-- A byte of a buffer that may be there.
abbrev pub byte_got : Option (List ℕ) → ℕ → Option ℕ
byte_got x p = option_and_then (λ bs. slice_get bs p) x

abbrev pub RawValue : Atom → Type 0
RawValue (description_at d) = Option Head
RawValue (name_at d n) = Option ℕ
RawValue (names_in d) = Bool
RawValue a = Value a

abbrev pub raw : World → (a : Atom) → RawValue a
raw s (description_at d) = option_map head_of (get s.descriptions d)
raw s (name_at d n) = entry (get s.nodes d) n
raw s (names_in d) = lists (get s.nodes d)
raw s a = value s a

-- The raw value of an atom follows from its value.
abbrev pub strip : (a : Atom) → Value a → RawValue a
strip (description_at d) v = option_map (λ (o : Opened). record { node = o.target.node; access = o.access; append = o.append }) v
strip (name_at d n) v = node_of v
strip (names_in d) v = is_some v
strip a v = v

pub raw-value : (s : World) (a : Atom) → raw s a ≡ strip a (value s a)
raw-value s (description_at d) = grind arith
raw-value s (name_at d n) = grind arith
raw-value s (names_in d) = grind arith
raw-value s _ = refl

pub raw-same : (s u : World) (a : Atom) → value s a ≡ value u a → raw s a ≡ raw u a
raw-same s u a h = raw-value s a ∙ ap (strip a) h ∙ sym (raw-value u a)

-- A node that shows all its names, and a world whose nodes do.
abbrev pub ShownNode : Option Node → Type 0
ShownNode x = IfSome (option_and_then others_of_node x) (λ n. n ≡ 0)

abbrev pub AllShown : World → Type 0
AllShown s = (i : ℕ) → ShownNode (get s.nodes i)

pub same_listing : (x y : Option Names) → is_some x ≡ is_some y → ((n : List ℕ) → option_and_then (λ ns. get ns n) x ≡ option_and_then (λ ns. get ns n) y)
    → x ≡ y
same_listing None y l e = grind arith
same_listing (Some m) None l e = cc
same_listing (Some m) (Some k) l e = ap Some (same_table text_keys m k e)

same_node : (x y : Option Node) → long x ≡ long y → ((p : ℕ) → byte_in x p ≡ byte_in y p) → option_and_then names_of_node x ≡ option_and_then names_of_node y
    → option_and_then others_of_node x ≡ option_and_then others_of_node y → x ≡ y
same_node None y z b n o = grind arith
same_node (Some (directory m k)) y z b n o = grind arith
same_node (Some (file bs)) None z b n o = cc
same_node (Some (file bs)) (Some (directory m k)) z b n o = cc
same_node (Some (file bs)) (Some (file cs)) z b n o = ap (λ q. Some (file q)) (same_number_lists bs cs (same_Some _ _ z) (λ i l. b i))

pub same_description : (x y : Option Description) → option_map head_of x ≡ option_map head_of y → spot x ≡ spot y → x ≡ y
same_description x y o p = grind arith

same_buffer : (x y : Option (List ℕ)) → option_map length x ≡ option_map length y → ((p : ℕ) → byte_got x p ≡ byte_got y p) → x ≡ y
same_buffer None y z b = grind arith
same_buffer (Some xs) None z b = cc
same_buffer (Some xs) (Some ys) z b = ap Some (same_number_lists xs ys (same_Some _ _ z) (λ i l. grind (arith, gets, b i)))

-- Two worlds with the same raw values that hide as many names are one.
pub raws_make_one : (s u : World) → ((i : ℕ) → option_and_then others_of_node (get s.nodes i) ≡ option_and_then others_of_node (get u.nodes i))
    → ((a : Atom) → raw s a ≡ raw u a) → s ≡ u
raws_make_one s u o h =
    let listing = λ (i : ℕ). same_listing (names s i) (names u i) (h (names_in i)) (λ n. h (name_at i n)) in
    let nodes =
    same_table number_keys s.nodes u.nodes (λ i. same_node (get s.nodes i) (get u.nodes i) (h (size_of i)) (λ p. h (byte_at i p)) (listing i) (o i)) in
    let descriptions = same_table number_keys s.descriptions u.descriptions (λ d. same_description (get s.descriptions d) (get u.descriptions d) (h (description_at d)) (h (position_of d))) in
    let slots = same_table pair_keys s.slots u.slots (λ q. h (slot_at q.0 q.1)) in
    let descriptors = same_table number_keys s.descriptors u.descriptors (λ n. h (descriptor_at n)) in
    let buffers = same_table pair_keys s.buffers u.buffers (λ q. same_buffer (get s.buffers q) (get u.buffers q) (h (buffer_size q.0 q.1)) (λ p. h (buffer_byte q.0 q.1 p))) in
    let broken = same_table number_keys s.broken u.broken (λ c. h (chain_flag c)) in
    λ i. record { nodes = nodes i; descriptions = descriptions i; slots = slots i; descriptors = descriptors i; buffers = buffers i; broken = broken i }

-- So are two worlds that show all names.
both_shown : (x y : Option Node) → lists x ≡ lists y → ShownNode x → ShownNode y → option_and_then others_of_node x ≡ option_and_then others_of_node y
both_shown x y l f g = grind arith

pub raws_make_the_world : (s u : World) → AllShown s → AllShown u → ((a : Atom) → raw s a ≡ raw u a) → s ≡ u
raws_make_the_world s u f g h = raws_make_one s u (λ i. both_shown (get s.nodes i) (get u.nodes i) (h (names_in i)) (f i) (g i)) h
