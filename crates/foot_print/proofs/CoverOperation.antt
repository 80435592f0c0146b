-- From the row of an operation to the place that runs it: where the row tells the operation's meaning and supports its changes, the access set covers the place.
use Rattle.std.specs.Prelude.{◌≡◌, ℕ, Bool, true, cond, ◌&&◌, leb, ltb, ◌+◌, ◌<◌, T, List, [], ◌∷◌, ◌++◌, Option, Some, Result, Ok, Err, refl, is_ok, not}
use Rattle.std.specs.List.{list_any}
use mathlib.Core.Path.{sym, subst, ap, ◌∙◌}
use native.Mathlib.Omega.{arith}
use lib.Dec.{ltb→lt, le→leb}
use Rattle.sqe_codec.specs.declared.errno.Errno.{Errno}
use Rattle.trace_format.specs.declared.entry.Entry.{Entry}
use Rattle.chain_plan.specs.declared.role.Role.{Role}
use Rattle.recording.specs.declared.recording.Recording.{Recording}
use Rattle.sqe_codec.specs.Answers.{each}
use Rattle.entry_checks.specs.Operation.{Operation}
use Rattle.entry_checks.specs.Check.{has, io_hardlink, skip_success}
use Rattle.chain_plan.specs.Chain.{role}
use Rattle.world_parts.specs.World.{World, Change, break_chain, apply, apply_all, loud, quiet}
use Rattle.op_meaning.specs.Site.{in_ring, sited}
use Rattle.op_meaning.specs.Meaning.{Effect, Found, found, meaning_by, meaning, shape}
use Rattle.op_meaning.specs.Shape.{look}
use Rattle.op_meaning.specs.Step.{Turn, called, runs, turn, step_world, step_changes, changes_in, changes_of, breaks, queue_at}
use Rattle.world_parts.specs.Items.{Atom, chain_flag, member_of, value, one, Use, writes, Footprint, has_atom, writes_atom, Agree, Holds}
use Rattle.foot_print.specs.Footprint.{tried, uses, uses_in, row_in, as_reads, order_uses, turn_uses, footprint}
use Rattle.foot_print.specs.Reach.{seen}
use Rattle.foot_print.specs.Laws.{Awaits, Unused, Covers}
use Rattle.world_parts.proofs.Collision.{either_left, either_right, true_of, same_atom_refl}
use Rattle.world_parts.proofs.Trees.{some_same, some_apart}
use Rattle.foot_print.proofs.Agreement.{in_left, in_right, agree_left, agree_right, agree_taken}
use Rattle.foot_print.proofs.Looks.{found_same, looks_same}
use Rattle.foot_print.proofs.Accepted.{holds_over, holds_right}
use Rattle.foot_print.proofs.Awaiting.{awaits_unused}
use Rattle.foot_print.proofs.CoverPlace.{done_by, Decided, footprint_same, step_reply_same, step_changes_same}
use Rattle.foot_print.proofs.CoverChanges.{SupportsAll, supports_all_held, agree_after_changes, kept_by_changes}

-- A place whose operation is decided by its row, and whose access set supports its changes, is covered by it.
pub covers : (t : Recording) (k : ℕ) (s : World)
    → ((u : World) (r : ℕ) (o : Operation) → done_by (turn t k s) ≡ Some (r, o) → Agree (row_in (sited t k r) s o) s u → Decided t k r s u o)
    → ((u : World) → Unused t k u → Agree (footprint t k s) s u → SupportsAll (footprint t k s) u (step_changes t k s))
    → Awaits t k s → Covers t k (footprint t k s) s
covers t k s decided supports w u v agree =
    let same = step_changes_same t k s u (decided u) agree in
    let in_s = supports s (awaits_unused t k s w) (record { same = λ a m. refl }) in
    let in_u = supports u v agree in
    record {
      same_footprint = footprint_same t k s u (decided u) agree;
      same_reply = step_reply_same t k s u (decided u) agree;
      agree_after = subst (λ cs. Agree (footprint t k s) (step_world t k s) (apply_all cs u)) (sym same) (agree_after_changes (footprint t k s) s u (step_changes t k s) in_s in_u agree);
      nothing_else = λ a n. subst (λ cs. value (apply_all cs u) a ≡ value u a) (sym same) (kept_by_changes (footprint t k s) u (step_changes t k s) in_u a n);
    }

pub supports_append : (f : Footprint) (cs ds : List Change) (u : World) → SupportsAll f u cs → ((v : World) → SupportsAll f v ds) → SupportsAll f u (cs ++ ds)
supports_append f [] ds u h g = g u
supports_append f (c ∷ cs) ds u h g = (h.0, supports_append f cs ds (apply c u) h.1 g)

-- The order of a place supports the breaking of its chain.
pub breaks_supported : (c : Role) (r : ℕ) (e : Entry) (rest : Footprint) (fails : Bool) (v : World) → SupportsAll (order_uses r c ++ rest) v (breaks c e fails)
breaks_supported c r e rest fails v = when (fails && not (has e.sqe.flags io_hardlink)) (ltb (c.member + 1) c.length) long
  where
    F : Footprint
    F = order_uses r c ++ rest

    long : T (ltb (c.member + 1) c.length) → T (writes_atom F (chain_flag c.chain))
    long h =
        let m : c.member + 1 < c.length = ltb→lt _ _ h in
        let two : leb 2 c.length ≡ true = true_of _ (le→leb 2 c.length (omega arith)) in
        in_left (λ (u : Use). u.written && member_of u.item (chain_flag c.chain)) (order_uses r c) rest (either_right (c.barrier && member_of (one (Rattle.world_parts.specs.Items.ring_order r)) (chain_flag c.chain)) _ (subst (λ b. T (list_any (λ (u : Use). u.written && member_of u.item (chain_flag c.chain)) (cond b (writes (one (chain_flag c.chain)) ∷ []) []))) (sym two) (either_left _ _ (same_atom_refl (chain_flag c.chain)))))

    when : (a b : Bool) → (T b → T (writes_atom F (chain_flag c.chain))) → SupportsAll F v (cond (a && b) (break_chain c.chain (cond (has e.sqe.flags skip_success) quiet loud) ∷ []) [])
    when a b g = grind arith

-- What an operation finds in a world, and uses of it, by whether the world accepts the operation.
abbrev pub found_by : Recording → ℕ → World → Operation → Found
found_by t r s o = found (in_ring t r) s (look (shape o))

abbrev pub used : Recording → ℕ → ℕ → World → Bool → Operation → Footprint
used t k r s b o = uses (sited t k r) s (tried b) (shape o) (found_by t r s o)

-- What the uses of an operation tell, given what it finds: its meaning, and the uses themselves.
pub record Tells (t : Recording) (k r : ℕ) (s u : World) (o : Operation) : Type 0 where
  pub same_meaning : meaning_by (sited t k r) u o (found_by t r s o) ≡ meaning_by (sited t k r) s o (found_by t r s o)
  pub same_uses : (b : Bool) → uses (sited t k r) u (tried b) (shape o) (found_by t r s o) ≡ used t k r s b o

-- They do so in worlds that agree on them, and on what the operation reads where it looks.
abbrev pub RowTells : Recording → ℕ → ℕ → World → World → Operation → Type 0
RowTells t k r s u o = (b : Bool) → Agree (seen (in_ring t r) s o) s u → Agree (used t k r s b o) s u → Tells t k r s u o

-- What an accepted operation uses supports its changes.
abbrev pub RowSupports : Recording → ℕ → ℕ → World → Operation → Type 0
RowSupports t k r s o = (x : Effect) → meaning (sited t k r) s o ≡ Ok x → SupportsAll (used t k r s true o) s x.changes

module _ (t : Recording) (k r : ℕ) (s : World) (o : Operation) (u : World) (tells : RowTells t k r s u o) (agree : Agree (row_in (sited t k r) s o) s u) where
  looks : Agree (seen (in_ring t r) s o) s u
  looks = agree_left s u (seen (in_ring t r) s o) _ agree

  uses_agree : Agree (uses_in (sited t k r) s o (found_by t r s o)) s u
  uses_agree = agree_right s u (seen (in_ring t r) s o) _ agree

  finds : found_by t r u o ≡ found_by t r s o
  finds = found_same t r s u (look (shape o)) looks

  told : Tells t k r s u o
  told = tells (is_ok (meaning (sited t k r) s o)) looks (agree_taken s u (is_ok (meaning (sited t k r) s o)) _ uses_agree)

  means : meaning (sited t k r) u o ≡ meaning (sited t k r) s o
  means = ap (meaning_by (sited t k r) u o) finds ∙ told.same_meaning

  uses_same : (b : Bool) → used t k r u b o ≡ used t k r s b o
  uses_same b = ap (uses (sited t k r) u (tried b) (shape o)) finds ∙ told.same_uses b

  decided : Decided t k r s u o
  decided = record {
    same_meaning = means;
    same_row = λ i. looks_same t r s u (look (shape o)) looks i ++ cond (is_ok (means i)) (uses_same (is_ok (means i)) i) (as_reads (uses_same (is_ok (means i)) i));
  }

  supported : (F : Footprint) → (Agree (seen (in_ring t r) s o) s u → Agree (used t k r u true o) s u → RowSupports t k r u o) → Holds F (row_in (sited t k r) s o) → SupportsAll F u (changes_of (meaning (sited t k r) s o))
  supported F supports holds = by (meaning (sited t k r) s o) refl
    where
      by : (m : Result Effect Errno) → meaning (sited t k r) s o ≡ m → SupportsAll F u (changes_of m)
      by (Err e) q = tt
      by (Ok y) q =
          let fine : is_ok (meaning (sited t k r) s o) ≡ true = ap is_ok q in
          let uses_are : uses_in (sited t k r) s o (found_by t r s o) ≡ used t k r s true o = λ i. cond (fine i) (used t k r s (fine i) o) (as_reads (used t k r s (fine i) o)) in
          let within = holds_over F (row_in (sited t k r) s o) (uses_in (sited t k r) s o (found_by t r s o)) holds (holds_right (seen (in_ring t r) s o) (uses_in (sited t k r) s o (found_by t r s o))) in
          let here = subst (λ f. Agree f s u) (uses_are ∙ sym (uses_same true)) uses_agree in
          supports_all_held F (used t k r s true o) u y.changes (subst (Holds F) uses_are within)
          (subst (λ f. SupportsAll f u y.changes) (uses_same true) (supports looks here y (means ∙ q)))

-- The access set of a place covers it where the row of the operation that it does tells the meaning and supports the changes.
pub operation_covers : (t : Recording) (k : ℕ) (s : World) (r : ℕ) (o : Operation) → done_by (turn t k s) ≡ Some (r, o)
    → ((u : World) → RowTells t k r s u o) → ((u : World) → Unused t k u → Agree (seen (in_ring t r) s o) s u → Agree (used t k r u true o) s u → RowSupports t k r u o)
    → Awaits t k s → Covers t k (footprint t k s) s
operation_covers t k s r o h tells supports w = covers t k s decides (λ u v a. supports_changes u v a (turn t k s) h) w
  where
    decides : (u : World) (q : ℕ) (p : Operation) → done_by (turn t k s) ≡ Some (q, p) → Agree (row_in (sited t k q) s p) s u → Decided t k q s u p
    decides u q p g = subst (λ x. Agree (row_in (sited t k x.0) s x.1) s u → Decided t k x.0 s u x.1) (some_same (r, o) (q, p) (sym h ∙ g)) (λ a. decided t k r s o u (tells u) a)

    F : Footprint
    F = footprint t k s

    order : Footprint
    order = order_uses (queue_at t k) (role t k)

    row_of : (x : Option Turn) → done_by x ≡ Some (r, o) → each (turn_uses t k s) x ≡ row_in (sited t k r) s o
    row_of (Some (runs q e p)) g = ap (λ y. row_in (sited t k y.0) s y.1) (some_same (q, p) (r, o) g)
    row_of (Some (called q p)) g = ap (λ y. row_in (sited t k y.0) s y.1) (some_same (q, p) (r, o) g)
    row_of _ g = absurd (some_apart (sym g))

    up : (p : Use → Bool) → T (list_any p (row_in (sited t k r) s o)) → T (list_any p F)
    up p m = in_right p order (each (turn_uses t k s) (turn t k s)) (subst (λ f. T (list_any p f)) (sym (row_of (turn t k s) h)) m)

    holds : Holds F (row_in (sited t k r) s o)
    holds = record { has = λ a m. up (λ (x : Use). member_of x.item a) m; writes = λ a m. up (λ (x : Use). x.written && member_of x.item a) m }

    operation_supported : (u : World) → Unused t k u → Agree F s u → (q : ℕ) (p : Operation) → ◌≡◌ {A = Option (ℕ × Operation)} (Some (q, p)) (Some (r, o)) → SupportsAll F u (changes_of (meaning (sited t k q) s p))
    operation_supported u v a q p g =
        subst (λ y. SupportsAll F u (changes_of (meaning (sited t k y.0) s y.1))) (sym (some_same (q, p) (r, o) g))
        (supported t k r s o u (tells u) (record { same = λ b m. a.same b (holds.has b m) }) F (supports u v) holds)

    supports_changes : (u : World) → Unused t k u → Agree F s u → (x : Option Turn) → done_by x ≡ Some (r, o) → SupportsAll F u (each (changes_in t k s) x)
    supports_changes u v a (Some (runs q e p)) g =
        supports_append F (changes_of (meaning (sited t k q) s p)) _ u (operation_supported u v a q p g)
        (λ z. breaks_supported (role t k) (queue_at t k) e (each (turn_uses t k s) (turn t k s)) _ z)
    supports_changes u v a (Some (called q p)) g = operation_supported u v a q p g
    supports_changes u v a _ g = absurd (some_apart (sym g))

-- An access set has all uses of another.
pub record Contains (f g : Footprint) : Type 0 where
  pub uses : (p : Use → Bool) → T (list_any p g) → T (list_any p f)

-- What an operation owes in a world: what it uses tells its meaning and itself to any world or part of one that agrees on it, and supports its changes there where it is accepted.
pub record Owes (t : Recording) (k r : ℕ) (o : Operation) (s : World) : Type 0 where
  pub tells : (u : World) → RowTells t k r s u o
  pub supports : (u : World) → Unused t k u → Agree (seen (in_ring t r) s o) s u → Agree (used t k r u true o) s u → RowSupports t k r u o

-- The statement of cover for one operation at every place that does it.
abbrev pub OperationCovers : Operation → Type 0
OperationCovers o = (t : Recording) (k : ℕ) (s : World) (r : ℕ) → done_by (turn t k s) ≡ Some (r, o) → Awaits t k s → Covers t k (footprint t k s) s

-- An operation that pays what it owes in every world is covered.
pub owed_covers : (o : Operation) → ((t : Recording) (k r : ℕ) (s : World) → Awaits t k s → Owes t k r o s) → OperationCovers o
owed_covers o owes t k s r h w = operation_covers t k s r o h (owes t k r s w).tells (owes t k r s w).supports w
