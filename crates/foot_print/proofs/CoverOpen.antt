-- The access set of a place that opens a file, or makes a description of what is no file, covers it.
use Rattle.std.specs.Prelude.{◌≡◌, ℕ, Bool, true, false, cond, not, ◌&&◌, ◌||◌, ◌==◌, ltb, leb, ◌<◌, ◌≤◌, T, List, [], ◌∷◌, ◌++◌, map, length, Option, Some, None, Result, Ok, Err, ok_or, is_none, is_ok, refl, IfSome}
use Rattle.std.specs.List.{find, range_with_len}
use Rattle.std.specs.Option.{option_map, option_and_then}
use mathlib.Core.Path.{sym, subst, ap, ◌∙◌}
use mathlib.Core.Logic.{inl}
use native.Mathlib.Omega.{arith}
use lib.Dec.{eqb_refl, lt→ltb, le→leb}
use Rattle.sqe_codec.specs.declared.errno.Errno.{Errno}
use Rattle.sqe_codec.specs.declared.errno.Errno.TheVariants.{EEXIST, EISDIR, ENOTDIR, EINVAL, EMFILE}
use Rattle.recording.specs.declared.recording.Recording.{Recording}
use Rattle.sqe_codec.specs.Answers.{◌>>=◌, ◌>>◌, require, each, each_ok}
use Rattle.entry_checks.specs.Operation.{openat, hold_path, hold_other, Path, OpenFlags, file_limit, File, in_slot, at_descriptor}
use Rattle.finite_maps.specs.Table.{get}
use Rattle.world_parts.specs.World.{World, kind, size, Change, set_name, set_size, set_position, make_node, make_description, apply}
use Rattle.file_tree.specs.Tree.{Node, a_directory, a_file, kind_of_node, count_of_node, Target}
use Rattle.extent_bytes.specs.Bytes.{resized}
use Rattle.file_tree.specs.Walk.{Place, walk, is_directory}
use Rattle.op_meaning.specs.Site.{at_place, in_ring, sited}
use Rattle.op_meaning.specs.Meaning.{Effect, made_node, made_description, slot_count, lowest_free, room, filled, may_open, found_or_made, open_changes, opened_with, open_as, opened_in, held_path, held_other, no_file}
use Rattle.world_parts.specs.Items.{slot_at, descriptor_at, description_at, position_of, size_of, byte_at, names_in, one, all_descriptors, reads, writes, Footprint, has_atom, writes_atom, Agree, Holds}
use Rattle.foot_print.specs.Footprint.{tried, made_where, name_written, range_of, file_item, room_uses, description_made, open_uses, opened_at}
use Rattle.foot_print.specs.Laws.{Awaits, Unused}
use Rattle.world_parts.proofs.Collision.{both, either_left}
use Rattle.foot_print.proofs.Agreement.{agree_left, agree_head}
use Rattle.world_parts.proofs.Changes.{rewriting-kind}
use Rattle.world_parts.proofs.ChangesOfNames.{Leads, naming-kind}
use Rattle.world_parts.proofs.ChangesOfMaking.{made-kind}
use Rattle.foot_print.proofs.CoverChanges.{SupportsAll}
use Rattle.foot_print.proofs.CoverOperation.{supports_append, used, RowTells, RowSupports, Owes}
use Rattle.foot_print.proofs.CoverHandles.{put_supported}
use Rattle.foot_print.proofs.CoverWalk.{walk_leads}
use Rattle.foot_print.proofs.CoverNames.{name_supported}
use Rattle.foot_print.proofs.Awaiting.{node_unused}
use Rattle.foot_print.proofs.OpenFile.{sizes_fit}
use Rattle.foot_print.proofs.Accepted.{err_apart, ok_same, ok_bind, ok_then, supports_effect, holds_left, holds_right, holds_over, holds_ok}

-- The room of openat is decided by what it has of slots and descriptors.
module _ (t : Recording) (s u : World) (r : ℕ) where
  lowest_same : Agree (room_uses (in_ring t r) s None) s u → lowest_free t u ≡ lowest_free t s
  lowest_same a = λ i. find (λ n. is_none (sym (a.same (descriptor_at n) tt) i)) (range_with_len 0 (length t.descriptors))

  room_same : (asked : Option ℕ) → Agree (room_uses (in_ring t r) s asked) s u → room (in_ring t r) u asked ≡ room (in_ring t r) s asked
  room_same None a = ap (λ x. ok_or (option_map at_descriptor x) EMFILE) (lowest_same a)
  room_same (Some n) a = refl

  room_uses_same : (asked : Option ℕ) → Agree (room_uses (in_ring t r) s asked) s u → room_uses (in_ring t r) u asked ≡ room_uses (in_ring t r) s asked
  room_uses_same None a = ap (λ x. reads all_descriptors ∷ each (λ n. writes (one (descriptor_at n)) ∷ []) x) (lowest_same a)
  room_uses_same (Some n) a = refl

openat_tells : (t : Recording) (k r : ℕ) (s u : World) (p : Path) (g : OpenFlags) (asked : Option ℕ) → RowTells t k r s u (openat p g asked)
openat_tells t k r s u p g asked x a d =
    let made = made_where (tried x) (description_made t k) in
    let rooms = agree_left s u (room_uses (in_ring t r) s asked) made (agree_left s u (room_uses (in_ring t r) s asked ++ made) _ d) in
    record {
      same_meaning = ap (λ z. z >>= λ at. walk s.nodes p >>= λ q. may_open g q.target >> Ok (open_as (sited t k r) g at q)) (room_same t s u r asked rooms);
      same_uses = λ y i. room_uses_same t s u r asked rooms i ++ made_where (tried y) (description_made t k) ++ each_ok (opened_at (at_place t k) (tried y) g) (walk s.nodes p);
    }

-- The room that is filled is written.
room_supported : (t : Recording) (s z : World) (r d : ℕ) (asked : Option ℕ) (at : File) (f : Footprint) → room (in_ring t r) s asked ≡ Ok at → Holds f (room_uses (in_ring t r) s asked) → SupportsAll f z (filled r at d).changes
room_supported t s z r d None at f h w = by (lowest_free t s) h w
  where
    by : (o : Option ℕ) → ok_or (option_map at_descriptor o) EMFILE ≡ Ok at → Holds f (reads all_descriptors ∷ each (λ n. writes (one (descriptor_at n)) ∷ []) o) → SupportsAll f z (filled r at d).changes
    by None q k = absurd (err_apart q)
    by (Some n) q k = subst (λ x. SupportsAll f z (filled r x d).changes) (ok_same (at_descriptor n) at q) (k.writes (descriptor_at n) (either_left _ _ (eqb_refl n)), tt)
room_supported t s z r d (Some n) at f h w = by (ltb n (slot_count t r)) h w
  where
    by : (b : Bool) → (require b EINVAL >> Ok (in_slot n)) ≡ Ok at → Holds f (map writes (cond b (one (slot_at r n) ∷ []) [])) → SupportsAll f z (filled r at d).changes
    by true q k = subst (λ x. SupportsAll f z (filled r x d).changes) (ok_same (in_slot n) at q) (k.writes (slot_at r n) (either_left _ _ (both _ _ (eqb_refl r) (eqb_refl n))), tt)
    by false q k = absurd (err_apart q)

-- A file that is cut is no directory.
cuts_a_file : (directory create truncate other : Bool) → T (not (directory && (create || truncate || other))) → T truncate → directory ≡ false
cuts_a_file directory create truncate other h k = grind arith

pub second_test : (a b c : Bool) → T (is_ok (require a EEXIST >> (require b EISDIR >> require c ENOTDIR))) → T b
second_test a b c h = grind arith

module _ (t : Recording) (k : ℕ) (s : World) (g : OpenFlags) (w : Unused t k s) (q : Place) (f : Footprint) (fits : (i : ℕ) → T (has_atom f (size_of i)) → IfSome (size s i) (λ n. n ≤ file_limit)) (last : List Change) (rest : (z : World) → SupportsAll f z last) (describes : Holds f (description_made t k)) where
  abbrev m : ℕ
  m = made_node t k

  abbrev d : ℕ
  d = made_description t k

  described : (z : World) (x : Target) → kind z x.node ≡ x.kind → SupportsAll f z (make_description d (opened_with g x) ∷ last)
  described z x h = (
    (h, describes.writes (description_at d) (either_left _ _ (eqb_refl d)), describes.writes (position_of d) (either_left _ _ (eqb_refl d))),
    rest (apply (make_description d (opened_with g x)) z),
  )

  make_supported : Holds f (name_written q ++ writes (one (size_of m)) ∷ []) → SupportsAll f s (open_changes g m q None ++ make_description d (opened_with g (found_or_made m None)) ∷ last)
  make_supported h =
      let after = apply (make_node m a_file) s in (
        (node_unused t k s w, h.writes (size_of m) ((holds_right (name_written q) (writes (one (size_of m)) ∷ [])).writes (size_of m) (either_left _ _ (eqb_refl m)))),
        (
          (name_supported f after q (Some (found_or_made m None)) (holds_over f (name_written q ++ writes (one (size_of m)) ∷ []) (name_written q) h (holds_left (name_written q) (writes (one (size_of m)) ∷ []))) (made-kind s m a_file)).0,
          described (apply (set_name q.parent q.name (Some (found_or_made m None))) after) (found_or_made m None) (naming-kind q.name (Some (found_or_made m None)) after q.parent m ∙ made-kind s m a_file),
        ),
      )

  cut_supported : (y : Target) → kind s y.node ≡ y.kind → Holds f (writes (one (size_of y.node)) ∷ writes (range_of y.node 0 file_limit) ∷ []) → SupportsAll f s (set_size y.node 0 ∷ make_description d (opened_with g y) ∷ last)
  cut_supported y l h = (
    (inl (h.writes (size_of y.node) (either_left _ _ (eqb_refl y.node))), below (size s y.node) (fits y.node (h.has (size_of y.node) (either_left _ _ (eqb_refl y.node))))),
    described (apply (set_size y.node 0) s) y (rewriting-kind (λ bs. resized bs 0) s y.node y.node ∙ l),
  )
    where
      below : (o : Option ℕ) → IfSome o (λ n. n ≤ file_limit) → IfSome o (λ n. (p : ℕ) → 0 ≤ p → p < n → T (writes_atom f (byte_at y.node p)))
      below None c = tt
      below (Some n) c = λ p a b. h.writes (byte_at y.node p) (either_left _ _ (both (y.node == y.node) _ (eqb_refl y.node) (both (leb 0 p) _ (le→leb 0 p a) (lt→ltb p _ (omega arith)))))

  found_supported : (y : Target) → kind s y.node ≡ y.kind → (T g.truncate → is_directory y.kind ≡ false) → Holds f (open_uses (at_place t k) (tried true) g q (Some y)) → SupportsAll f s (open_changes g m q (Some y) ++ make_description d (opened_with g y) ∷ last)
  found_supported y l c h = grind (arith, cut_supported, described)

  target_supported : (z : Option Target) → Leads s z → T (is_ok (may_open g z)) → Holds f (open_uses (at_place t k) (tried true) g q z) → SupportsAll f s (open_changes g m q z ++ make_description d (opened_with g (found_or_made m z)) ∷ last)
  target_supported z l c h = grind (arith, make_supported, found_supported, cuts_a_file, second_test)

openat_supports : (t : Recording) (k r : ℕ) (s : World) (p : Path) (g : OpenFlags) (asked : Option ℕ) → Unused t k s
    → ((i : ℕ) → T (has_atom (used t k r s true (openat p g asked)) (size_of i)) → IfSome (size s i) (λ n. n ≤ file_limit)) → RowSupports t k r s (openat p g asked)
openat_supports t k r s p g asked w fits e h =
    let at = ok_bind (room (in_ring t r) s asked) _ e h in
    let q = ok_bind (walk s.nodes p) _ e at.2 in
    let last = ok_then (may_open g q.0.target) _ e q.2 in
    let made = description_made t k in
    let uses : Place → Footprint = λ x. open_uses (at_place t k) (tried true) g x x.target in
    let places = each_ok uses (walk s.nodes p) in
    let room = room_uses (in_ring t r) s asked in
    let row_is = room ++ made ++ places in
    let rooms = holds_over row_is (room ++ made) room (holds_left (room ++ made) places) (holds_left room made) in
    let describes = holds_over row_is (room ++ made) made (holds_left (room ++ made) places) (holds_right room made) in
    let here = holds_over row_is places (uses q.0) (holds_right (room ++ made) places) (holds_ok uses (walk s.nodes p) q.0 q.1) in
    subst (λ (x : Effect). SupportsAll row_is s x.changes) (ok_same (open_as (sited t k r) g at.0 q.0) e last.0)
    (target_supported t k s g w q.0 row_is fits (filled r at.0 (made_description t k)).changes (λ z. room_supported t s z r (made_description t k) asked at.0 row_is at.1 rooms) describes q.0.target (walk_leads s p q.0 q.1) last.1 here)

pub openat_owes : (t : Recording) (k r : ℕ) (s : World) (p : Path) (g : OpenFlags) (asked : Option ℕ) → Awaits t k s → Owes t k r (openat p g asked) s
openat_owes t k r s p g asked w = record {
  tells = λ u. openat_tells t k r s u p g asked;
  supports = λ u v a d. openat_supports t k r u p g asked v (sizes_fit (used t k r u true (openat p g asked)) s u w.is_world d);
}

-- A slot or a descriptor that is given a description is written.
filled_supported : (g : Footprint) (z : World) (r d : ℕ) (f : File) → Holds g (writes (file_item r f) ∷ []) → SupportsAll g z (filled r f d).changes
filled_supported g z r d (in_slot n) h = put_supported g z r (in_slot n) (Some d) h
filled_supported g z r d (at_descriptor n) h = put_supported g z r (at_descriptor n) (Some d) h

hold_path_supports : (t : Recording) (k r : ℕ) (s : World) (f : File) (p : Path) (g : OpenFlags) (at : ℕ) → Unused t k s
    → ((i : ℕ) → T (has_atom (used t k r s true (hold_path f p g at)) (size_of i)) → IfSome (size s i) (λ n. n ≤ file_limit)) → RowSupports t k r s (hold_path f p g at)
hold_path_supports t k r s f p g at w fits e h = supports_effect row_is s (held_path (sited t k r) f at (opened_in (sited t k r) g (Ok f) (walk s.nodes p))) e h (by (opened_in (sited t k r) g (Ok f) (walk s.nodes p)) refl)
  where
    made : Footprint
    made = description_made t k

    uses : Place → Footprint
    uses x = open_uses (at_place t k) (tried true) g x x.target

    places : Footprint
    places = each_ok uses (walk s.nodes p)

    row_is : Footprint
    row_is = writes (file_item r f) ∷ (made ++ places)

    here : Holds row_is (writes (file_item r f) ∷ [])
    here = holds_left (writes (file_item r f) ∷ []) (made ++ places)

    behind : Holds row_is (made ++ places)
    behind = holds_right (writes (file_item r f) ∷ []) (made ++ places)

    describes : Holds row_is made
    describes = holds_over row_is (made ++ places) made behind (holds_left made places)

    by : (x : Result Effect Errno) → opened_in (sited t k r) g (Ok f) (walk s.nodes p) ≡ x → SupportsAll row_is s (held_path (sited t k r) f at x).changes
    by (Err x) q = put_supported row_is s r f None here
    by (Ok x) q =
        let z = ok_bind (walk s.nodes p) _ x q in
        let last = ok_then (may_open g z.0.target) _ x z.2 in
        let d = made_description t k in
        let opens = target_supported t k s g w z.0 row_is fits (filled r f d).changes (λ y. filled_supported row_is y r d f here) describes z.0.target (walk_leads s p z.0 z.1) last.1
        (holds_over row_is places (uses z.0) (holds_over row_is (made ++ places) places behind (holds_right made places)) (holds_ok uses (walk s.nodes p) z.0 z.1)) in
        supports_append row_is x.changes (set_position d at ∷ []) s
        (subst (λ (y : Effect). SupportsAll row_is s y.changes) (ok_same (open_as (sited t k r) g f z.0) x last.0) opens)
        (λ y. (describes.writes (position_of d) (either_left _ _ (eqb_refl d)), tt))

pub hold_path_owes : (t : Recording) (k r : ℕ) (s : World) (f : File) (p : Path) (g : OpenFlags) (at : ℕ) → Awaits t k s → Owes t k r (hold_path f p g at) s
hold_path_owes t k r s f p g at w = record {
  tells = λ u b a d. record { same_meaning = refl; same_uses = λ c. refl };
  supports = λ u v a d. hold_path_supports t k r u f p g at v (sizes_fit (used t k r u true (hold_path f p g at)) s u w.is_world d);
}

-- What has a number of names is a directory.
counted_directory : (x y : Option Node) → option_map kind_of_node x ≡ Some a_directory → option_and_then count_of_node x ≡ option_and_then count_of_node y → option_map kind_of_node y ≡ Some a_directory
counted_directory x y h k = grind arith

pub hold_other_owes : (t : Recording) (k r : ℕ) (s : World) (f : File) → Awaits t k s → Owes t k r (hold_other f) s
hold_other_owes t k r s f w = record {
  tells = λ u b a d. record { same_meaning = refl; same_uses = λ c. refl };
  supports = λ u v a d e q. supports_effect row_is u (held_other (sited t k r) f) e q (
    (root_there u d, describes.writes (description_at m) (either_left _ _ (eqb_refl m)), describes.writes (position_of m) (either_left _ _ (eqb_refl m))),
    put_supported row_is (apply (make_description m no_file) u) r f (Some m) here,
  );
}
  where
    m : ℕ
    m = made_description t k

    row_is : Footprint
    row_is = reads (one (names_in 0)) ∷ writes (file_item r f) ∷ description_made t k

    describes : Holds row_is (description_made t k)
    describes = holds_right (reads (one (names_in 0)) ∷ writes (file_item r f) ∷ []) (description_made t k)

    here : Holds row_is (writes (file_item r f) ∷ [])
    here = holds_over row_is (writes (file_item r f) ∷ description_made t k) (writes (file_item r f) ∷ []) (holds_right (reads (one (names_in 0)) ∷ []) (writes (file_item r f) ∷ description_made t k)) (holds_left (writes (file_item r f) ∷ []) (description_made t k))

    root_there : (u : World) → Agree row_is s u → kind u 0 ≡ Some a_directory
    root_there u d = counted_directory (get s.nodes 0) (get u.nodes 0) w.is_world.root (agree_head s u (names_in 0) false (writes (file_item r f) ∷ description_made t k) d)
