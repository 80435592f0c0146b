-- Putting back the written uses of an access set makes the world that has the part's values there and the old ones elsewhere.
use Rattle.std.specs.Prelude.{◌≡◌, ℕ, Bool, true, false, max, ◌&&◌, ◌==◌, T, List, [], ◌∷◌, length, map, Option, None, refl, slice_index_or, ◌⊎◌, unwrap_or, if◌then◌else◌}
use Rattle.std.specs.Option.{option_map, is_some}
use mathlib.Core.Path.{sym, subst, ap, ◌∙◌}
use mathlib.Core.Logic.{inl, inr}
use native.Mathlib.Omega.{arith}
use lib.Dec.{eqb_refl}
use Rattle.finite_maps.specs.Table.{get, assign, number_keys, pair_keys}
use Rattle.file_tree.specs.Tree.{byte_of, renamed_node, rewritten_node}
use Rattle.extent_bytes.specs.Bytes.{zeroed}
use Rattle.file_tree.specs.Found.{node_of}
use Rattle.world_parts.specs.World.{World, IsWorld, names, bytes, byte, name, size, slot, descriptor, broken, buffer, zero_bytes, apply}
use Rattle.world_parts.specs.Items as items
use Rattle.world_parts.specs.Items.{Atom, chain_flag, slot_at, descriptor_at, description_at, position_of, size_of, byte_at, name_at, names_in, buffer_size, buffer_byte, value, one, file_bytes, buffer_bytes, within, member_of, writes_atom}
use Rattle.world_parts.specs.Cutting.{PutsTo, is_narrow, is_narrow_use}
use Rattle.world_parts.specs.Uses.{item_meant, use_meant}
use Rattle.world_parts.specs.Putting.{sized, listed, pasted, redescribed, repositioned, with_node, with_item, with_nodes, with_items}
use Rattle.world_parts.specs.declared.footprint.Item.{Item}
use Rattle.world_parts.specs.declared.footprint.Item.TheVariants.{Chain, Ring, Slot, Descriptor, Description as Opened, Position, Size, Bytes, Name, Names, Buffer}
use Rattle.world_parts.specs.declared.footprint.Use.{Use}
use Rattle.world_parts.proofs.Collision.{both, decided, left, right, either_left, either_right, same_atom-eq, same_atom_refl}
use Rattle.world_parts.proofs.Sharing.{one_of, holds_true}
use Rattle.world_parts.proofs.Holes.{same_put}
use Rattle.world_parts.proofs.Raw.{head_of, spot, long, byte_in, lists, entry, byte_got, raw, raw-value, raw-same, AllShown, raws_make_the_world}
use Rattle.world_parts.proofs.Nearer.{Nearer, nearer_not, nearer_twice, stays, placed, node_nearer, description_nearer, slot_nearer, descriptor_nearer, chain_nearer, buffer_nearer}
use Rattle.world_parts.proofs.PutSteps.{sized-long, sized_near, listed-lists, listed_near, named_near, named-entry, cleared_near, pasted_near, range_reached, buffer_size_near, buffer_byte_near, buffer_reached, Fresh, redescribed-head, redescribed-spot, repositioned-spot, repositioned-head}

-- What the first round sets, and what no part changes: which nodes are there, how long files are, and how long buffers are.
abbrev is_frame : Atom → Bool
is_frame (size_of i) = true
is_frame (names_in d) = true
is_frame (buffer_size r b) = true
is_frame _ = false

byte_from : (o : Option (List ℕ)) (p : ℕ) → byte_of o p ≡ slice_index_or (unwrap_or o []) p 0
byte_from o p = grind arith

module _ (w u : World) where
  -- The values that an item, and all written items of some uses, are to have.
  abbrev Given : items.Item → Type 0
  Given x = (a : Atom) → T (member_of x a) → value w a ≡ value u a

  abbrev AllGiven : List Use → Type 0
  AllGiven us = (a : Atom) → T (writes_atom (map use_meant us) a) → value w a ≡ value u a

  abbrev Reached : World → items.Item → Type 0
  Reached t x = (a : Atom) → T (member_of x a) → raw t a ≡ raw w a

  given_at : (b : Atom) → Given (one b) → value w b ≡ value u b
  given_at b g = g b (same_atom_refl b)

  reach_one : (t : World) (b : Atom) → raw t b ≡ raw w b → Reached t (one b)
  reach_one t b h a m = subst (λ c. raw t c ≡ raw w c) (same_atom-eq b a m) h

  reach_bytes : (t : World) (i low high : ℕ) → ((p : ℕ) → T (within low high p) → byte t i p ≡ byte w i p) → Reached t (file_bytes i low high)
  reach_bytes t i low high h (byte_at j p) m = grind (arith, h p)
  reach_bytes t i low high h _ m = absurd m

  reach_buffer : (t : World) (r b low high : ℕ) → ((p : ℕ) → T (within low high p) → byte_got (buffer t r b) p ≡ byte_got (buffer w r b) p)
      → Reached t (buffer_bytes r b low high)
  reach_buffer t r b low high h (buffer_byte q c p) m = grind (arith, h p)
  reach_buffer t r b low high h _ m = absurd m

  -- The first round.
  node_step : (x : Item) → Given (item_meant x) → (t : World) → Nearer w t (with_node x u t)
  node_step (Size i) g t = node_nearer w t i (sized (size u i) (get t.nodes i)) (sized_near (get w.nodes i) (get t.nodes i) (size u i) (given_at (size_of i) g))
  node_step (Names d) g t = node_nearer w t d (listed (is_some (names u d)) (get t.nodes d)) (listed_near (get w.nodes d) (get t.nodes d) (is_some (names u d)) (raw-same w u (names_in d) (given_at (names_in d) g)))
  node_step _ g t = nearer_not w t

  node_reached : (x : Item) → T (is_narrow_use (items.writes (item_meant x))) → Given (item_meant x) → (t : World) (a : Atom) → T (is_frame a)
      → T (member_of (item_meant x) a) → raw (with_node x u t) a ≡ raw w a
  node_reached (Size i) n g t a f m = reach_one (with_node (Size i) u t) (size_of i) (ap long (placed number_keys t.nodes i (sized (size u i) (get t.nodes i))) ∙ sized-long (size u i) (get t.nodes i) ∙ sym (given_at (size_of i) g)) a m
  node_reached (Names d) n g t a f m = reach_one (with_node (Names d) u t) (names_in d) (ap lists (placed number_keys t.nodes d (listed (is_some (names u d)) (get t.nodes d))) ∙ listed-lists (is_some (names u d)) (get t.nodes d) ∙ sym (raw-same w u (names_in d) (given_at (names_in d) g))) a m
  node_reached _ n g t a f m = absurd (grind arith)

  -- The second round begins where the first one ends: with the frame, and with descriptions that are there, or come whole.
  record Ready (t : World) : Type 0 where
    frame : (a : Atom) → T (is_frame a) → raw t a ≡ raw w a
    fresh : (d : ℕ) → Fresh (get w.descriptions d) (get u.descriptions d) (get t.descriptions d)

  ready_still : (t v : World) → Nearer w t v → Ready t → Ready v
  ready_still t v n r = record { frame = λ a f. stays w t v a n (r.frame a f); fresh = λ d h. grind (arith, n.each (description_at d), r.fresh d) }

  module _ (t : World) (ready : Ready t) where
    arrive : (v : World) (b : Atom) → Given (one b) → (raw u b ≡ raw w b → Nearer w t v) → raw v b ≡ raw u b → Nearer w t v × Reached v (one b)
    arrive v b g n h = let e = sym (raw-same w u b (given_at b g)) in (n e, reach_one v b (h ∙ e))

    name_step : (d : ℕ) (n : List ℕ) → Given (one (name_at d n)) → (v : World) → v ≡ record t { nodes = assign number_keys.total t.nodes d (option_map (renamed_node n (node_of (name u d n))) (get t.nodes d)) } → Nearer w t v × Reached v (one (name_at d n))
    name_step d n g v same =
        let e = sym (raw-value u (name_at d n)) ∙ sym (raw-same w u (name_at d n) (given_at (name_at d n) g)) in
        let z = option_map (renamed_node n (node_of (name u d n))) (get t.nodes d) in
        subst (λ v. Nearer w t v × Reached v (one (name_at d n))) (sym same) (
          node_nearer w t d z (named_near (get w.nodes d) (get t.nodes d) n (node_of (name u d n)) e),
          reach_one (record t { nodes = assign number_keys.total t.nodes d z }) (name_at d n)
              (ap (λ x. entry x n) (placed number_keys t.nodes d z) ∙ named-entry (get w.nodes d) (get t.nodes d) n (node_of (name u d n)) e (ready.frame (names_in d) tt)),
        )

    bytes_step : (i low high : ℕ) → Given (file_bytes i low high) → Nearer w t (with_item (Bytes i low high) u t) × Reached (with_item (Bytes i low high) u t) (file_bytes i low high)
    bytes_step i low high g =
        let new = unwrap_or (bytes u i) [] in
        let y = get w.nodes i in
        let emptied = option_map (rewritten_node (λ bs. zeroed bs (max low (length new)) high)) (get t.nodes i) in
        let cleared : World = apply (zero_bytes i (max low (length new)) high) t in
        let filled = option_map (rewritten_node (λ bs. pasted bs new low high)) (get cleared.nodes i) in
        let given : (p : ℕ) → T (within low high p) → byte w i p ≡ slice_index_or new p 0 =
        λ p h. g (byte_at i p) (both (i == i) _ (eqb_refl i) h) ∙ byte_from (bytes u i) p in
        let v = with_item (Bytes i low high) u t in (
          nearer_twice w t cleared v (node_nearer w t i emptied (cleared_near y new low high given (get t.nodes i)))
              (node_nearer w cleared i filled (pasted_near y new low high given (get cleared.nodes i))),
          reach_bytes v i low high (λ p h.
              ap (λ z. byte_in z p) (placed number_keys cleared.nodes i filled)
              ∙ ap (λ z. byte_in (option_map (rewritten_node (λ bs. pasted bs new low high)) z) p) (placed number_keys t.nodes i emptied)
              ∙ range_reached y new low high given (get t.nodes i) (ready.frame (size_of i) tt) p h),
        )

    buffer_step : (r b low high : ℕ) → Given (buffer_bytes r b low high) → Nearer w t (with_item (Buffer r b low high) u t) × Reached (with_item (Buffer r b low high) u t) (buffer_bytes r b low high)
    buffer_step r b low high g =
        let v = buffer u r b in
        let x = buffer t r b in
        let y = buffer w r b in
        let filled = option_map (λ bs. pasted bs (unwrap_or v []) low high) x in
        let given : (p : ℕ) → T (within low high p) → byte_got y p ≡ byte_got v p =
        λ p h. g (buffer_byte r b p) (both (r == r && b == b) _ (both (r == r) _ (eqb_refl r) (eqb_refl b)) h) in (
          buffer_nearer w t r b filled (buffer_size_near y v low high given x) (buffer_byte_near y v low high given x),
          reach_buffer (with_item (Buffer r b low high) u t) r b low high (λ p h. ap (λ z. byte_got z p) (placed pair_keys t.buffers (r, b) filled)
              ∙ buffer_reached y v low high given x (ready.frame (buffer_size r b) tt) p h),
        )

    item_step : (x : Item) → T (is_narrow_use (items.writes (item_meant x))) → Given (item_meant x) → Nearer w t (with_item x u t) × Reached (with_item x u t) (item_meant x)
    item_step (Chain c) n g =
        arrive (with_item (Chain c) u t) (chain_flag c) g (λ e. chain_nearer w t c (broken u c) e) (placed number_keys t.broken c (broken u c))
    item_step (Ring r) n g = (nearer_not w t, reach_one t (items.ring_order r) refl)
    item_step (Slot r k) n g =
        arrive (with_item (Slot r k) u t) (slot_at r k) g (λ e. slot_nearer w t r k (slot u r k) e) (placed pair_keys t.slots (r, k) (slot u r k))
    item_step (Descriptor k) n g =
        arrive (with_item (Descriptor k) u t) (descriptor_at k) g (λ e. descriptor_nearer w t k (descriptor u k) e)
        (placed number_keys t.descriptors k (descriptor u k))
    item_step (Opened d) n g =
        let theirs = get u.descriptions d in
        let mine = get t.descriptions d in
        arrive (with_item (Opened d) u t) (description_at d) g
        (λ e. description_nearer w t d (redescribed theirs mine) (inl (redescribed-head theirs mine ∙ e))
        (redescribed-spot (get w.descriptions d) theirs mine e (ready.fresh d)))
        (ap (option_map head_of) (placed number_keys t.descriptions d (redescribed theirs mine)) ∙ redescribed-head theirs mine)
    item_step (Position d) n g =
        let theirs = get u.descriptions d in
        let mine = get t.descriptions d in
        arrive (with_item (Position d) u t) (position_of d) g
        (λ e. description_nearer w t d (repositioned theirs mine) (repositioned-head (get w.descriptions d) theirs mine e (ready.fresh d))
        (inl (repositioned-spot theirs mine ∙ e)))
        (ap spot (placed number_keys t.descriptions d (repositioned theirs mine)) ∙ repositioned-spot theirs mine)
    item_step (Size i) n g = (nearer_not w t, reach_one t (size_of i) (ready.frame (size_of i) tt))
    item_step (Bytes i low high) n g = bytes_step i low high g
    item_step (Name d k) n g = name_step d k.items g (with_item (Name d k) u t) refl
    item_step (Names d) n g = (nearer_not w t, reach_one t (names_in d) (ready.frame (names_in d) tt))
    item_step (Buffer r b low high) n g = buffer_step r b low high g
    item_step _ n g = absurd n

  -- A round puts back one written item after another, each from a world that is fit for it. It tells of the atoms that it sets.
  module _ (step : Item → World → World) (round : List Use → World → World) (none : (t : World) → round [] t ≡ t)
      (more : (x : Use) (us : List Use) (t : World) → round (x ∷ us) t ≡ round us (if x.written then step x.item t else t))
      (Fit : World → Type 0) (still : (t v : World) → Nearer w t v → Fit t → Fit v) (sets : Atom → Bool)
      (steps : (x : Item) → T (is_narrow_use (items.writes (item_meant x))) → Given (item_meant x) → (t : World) → Fit t
      → Nearer w t (step x t) × ((a : Atom) → T (sets a) → T (member_of (item_meant x) a) → raw (step x t) a ≡ raw w a)) where
    one_use : (x : Use) (us : List Use) → T (is_narrow (map use_meant (x ∷ us))) → AllGiven (x ∷ us) → (t : World) → Fit t → (b : Bool) → x.written ≡ b
        → Nearer w t (if b then step x.item t else t)
        × ((a : Atom) → T (sets a) → T (b && member_of (item_meant x.item) a) → raw (if b then step x.item t else t) a ≡ raw w a)
    one_use x us n g t f true e =
        steps x.item (subst (λ b. T (is_narrow_use (record { item = item_meant x.item; written = b }))) e (left (is_narrow_use (use_meant x)) _ n))
        (λ a m. g a (either_left (x.written && member_of (item_meant x.item) a) _ (both x.written _ (holds_true x.written e) m))) t f
    one_use x us n g t f false e = (nearer_not w t, λ a c m. absurd m)

    all_uses : (us : List Use) → T (is_narrow (map use_meant us)) → AllGiven us → (t : World) → Fit t
        → Nearer w t (round us t) × ((a : Atom) → T (sets a) → T (writes_atom (map use_meant us) a) → raw (round us t) a ≡ raw w a)
    all_uses [] n g t f = rw none (nearer_not w t, λ a c h. absurd h)
    all_uses (x ∷ us) n g t f =
        let next = if x.written then step x.item t else t in
        let now = one_use x us n g t f x.written refl in
        let later =
        all_uses us (right (is_narrow_use (use_meant x)) _ n) (λ a m. g a (either_right (x.written && member_of (item_meant x.item) a) _ m)) next
        (still t next now.0 f) in
        rw more (
          nearer_twice w t next (round us next) now.0 later.0,
          λ a c h. elim (one_of (x.written && member_of (item_meant x.item) a) _ h) [
            | inl m ↦ stays w next (round us next) a later.0 (now.1 a c m)
            | inr k ↦ later.1 a c k
          ],
        )

  all_nodes : (us : List Use) → T (is_narrow (map use_meant us)) → AllGiven us → (t : World)
      → Nearer w t (with_nodes us u t) × ((a : Atom) → T (is_frame a) → T (writes_atom (map use_meant us) a) → raw (with_nodes us u t) a ≡ raw w a)
  all_nodes us n g t =
      all_uses (λ x t. with_node x u t) (λ us t. with_nodes us u t) (λ t. refl) (λ x us t. refl) (λ t. Unit {0}) (λ t v n f. tt) is_frame
      (λ x n g t f. (node_step x g t, node_reached x n g t)) us n g t tt

  all_items : (us : List Use) → T (is_narrow (map use_meant us)) → AllGiven us → (t : World) → Ready t
      → Nearer w t (with_items us u t) × ((a : Atom) → T true → T (writes_atom (map use_meant us) a) → raw (with_items us u t) a ≡ raw w a)
  all_items us n g t r =
      all_uses (λ x t. with_item x u t) (λ us t. with_items us u t) (λ t. refl) (λ x us t. refl) Ready ready_still (λ a. true)
      (λ x n g t r. (let h = item_step t r x n g in (h.0, λ a c m. h.1 a m))) us n g t r

  -- What the access set doesn't write is as before.
  module _ (f : items.Footprint) (s : World) (puts : PutsTo f s u w) where
    either : (a : Atom) → (T (writes_atom f a) × (value w a ≡ value u a)) ⊎ (value w a ≡ value s a)
    either a = elim (decided (writes_atom f a)) [ inl h ↦ inl (h, puts.given a h) | inr n ↦ inr (puts.kept a n) ]

    all_reached : (t : World) (a : Atom) → Nearer w s t → (T (writes_atom f a) → raw t a ≡ raw w a) → raw t a ≡ raw w a
    all_reached t a n h = elim (either a) [
      | inl k ↦ h k.0
      | inr e ↦ elim (n.each a) [ inl o ↦ o | inr o ↦ o ∙ sym (raw-same w s a e) ]
    ]

    -- A description that wasn't there comes whole, if it comes.
    comes_whole : (d : ℕ) → get s.descriptions d ≡ None → (get w.descriptions d ≡ None) ⊎ (get w.descriptions d ≡ get u.descriptions d)
    comes_whole d h = grind (arith, either (description_at d), either (position_of d))

    fresh_at : (t : World) → Nearer w s t → (d : ℕ) → Fresh (get w.descriptions d) (get u.descriptions d) (get t.descriptions d)
    fresh_at t n d h = grind (arith, n.each (description_at d), comes_whole d)

pub put_makes : (us : List Use) (s u w : World) → AllShown s → AllShown w → T (is_narrow (map use_meant us)) → PutsTo (map use_meant us) s u w → with_items us u (with_nodes us u s) ≡ w
put_makes us s u w shown_before shown_after n puts =
    let f = map use_meant us in
    let t = with_nodes us u s in
    let first = all_nodes w u us n puts.given s in
    let ready : Ready w u t = record { frame = λ a c. all_reached w u f s puts t a first.0 (first.1 a c); fresh = fresh_at w u f s puts t first.0 } in
    let second = all_items w u us n puts.given t ready in
    let nearer = nearer_twice w s t (with_items us u t) first.0 second.0 in
    raws_make_the_world (with_items us u t) w (nearer.shown shown_before) shown_after
    (λ a. all_reached w u f s puts (with_items us u t) a nearer (second.1 a tt))

-- The world that a part is put back into becomes any world that has the values; there is but one.
pub put_makes_any : (us : List Use) (s u w v : World) → IsWorld s → IsWorld w → T (is_narrow (map use_meant us)) → PutsTo (map use_meant us) s u w → PutsTo (map use_meant us) s u v → with_items us u (with_nodes us u s) ≡ v
put_makes_any us s u w v before after n puts other = put_makes us s u w before.all_shown after.all_shown n puts ∙ same_put (map use_meant us) s u w v puts other
