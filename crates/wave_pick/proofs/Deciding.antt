-- The items that decide come one after another: where a world keeps the first ones, it keeps the next one.
use Rattle.std.specs.Prelude.{◌≡◌, ℕ, suc, Bool, true, false, cond, ltb, length, List, [], ◌∷◌, ◌++◌, map, Option, Some, None, Result, Ok, Err}
use Rattle.std.proofs.Common.{inl, inr, sym, subst, ap, ◌∙◌}
use Rattle.std.proofs.lemmas.Bool.{cases_Bool}
use Rattle.interleaving.proofs.Ahead.{known-now}
use Rattle.interleaving.specs.Machine.{has}
use Rattle.sqe_codec.specs.declared.errno.Errno.{Errno}
use Rattle.sqe_codec.specs.Answers.{each, each_ok}
use Rattle.recording.specs.declared.recording.Recording.{Recording}
use Rattle.trace_format.specs.Paths.{components}
use Rattle.recording.specs.Steps.{places}
use Rattle.recording.specs.Accepted.{IsAccepted}
use Rattle.entry_checks.specs.Operation.{Operation, File, Path, in_slot, at_descriptor}
use Rattle.file_tree.specs.Walk.{names_from, directory_at, fits_name, starts_at_root}
use Rattle.world_parts.specs.World.{World, name, slot, descriptor}
use Rattle.world_parts.specs.Items.{Atom, slot_at, descriptor_at, description_at, name_at, one, member_of, Use, reads, Footprint, has_atom, Agree}
use Rattle.world_parts.proofs.Collision.{true_of}
use Rattle.world_parts.proofs.Sharing.{holds_true}
use Rattle.op_meaning.specs.Site.{in_ring}
use Rattle.op_meaning.specs.Meaning.{slot_count, shape}
use Rattle.foot_print.specs.Footprint.{file_seen, look_reads, path_reads}
use Rattle.op_meaning.specs.Shape.{Look, at_nothing, at_file, at_path, at_paths, look}
use Rattle.op_meaning.specs.Step.{Turn, called, runs}
use Rattle.foot_print.specs.Reach.{is_met, seen, is_taken_to_run, look_of, task}
use Rattle.foot_print.specs.Replayed.{replayed}
use Rattle.foot_print.proofs.Agreement.{in_left, agree_left, agree_tail, agree_head}
use Rattle.foot_print.proofs.Cover.{all_covered}
use Rattle.foot_print.proofs.Lawful.{row_laws}
use Rattle.wave_pick.specs.Lawful.{lawful}
use Rattle.wave_pick.specs.Rounds.{state_after}
use Rattle.wave_pick.specs.Waiting.{look_after, DecidingBegins}
use Rattle.wave_pick.specs.Holds.{Waits, world_after, reaches_after, reach_after}
use Rattle.wave_pick.proofs.Orders.{wide_reach}
use Rattle.wave_pick.proofs.Staying.{between_rounds, waited}
use Rattle.wave_pick.proofs.Waiting.{unmet_stays, value_stays, row_in_reach}
use Rattle.std.proofs.lemmas.List.{append-nil}

abbrev name_read : ℕ × List ℕ → Use
name_read e = reads (one (name_at e.0 e.1))

-- Where two worlds agree on the first uses of the one list, the other list begins with these and with the next one.
record Goes (s u : World) (f g : Footprint) : Type 0 where
  goes : (known rest : Footprint) (first : Use) → f ≡ known ++ first ∷ rest → Agree known s u → (others : Footprint) × (g ≡ known ++ first ∷ others)

empty_apart : (known rest : Footprint) (first : Use) → [] ≡ known ++ first ∷ rest → ⊥
empty_apart [] rest first e = (cc)
empty_apart (x ∷ known) rest first e = (cc)

module _ (s u : World) where
  goes_nothing : (g : Footprint) → Goes s u [] g
  goes_nothing g = record { goes = λ known rest first e a. absurd (empty_apart known rest first e) }

  goes_cons : (x : Use) (f g : Footprint) → (Agree (x ∷ []) s u → Goes s u f g) → Goes s u (x ∷ f) (x ∷ g)
  goes_cons x f g h = record { goes = at }
    where
      at : (known rest : Footprint) (first : Use) → x ∷ f ≡ known ++ first ∷ rest → Agree known s u → (others : Footprint) × (x ∷ g ≡ known ++ first ∷ others)
      at [] rest first e a = let same : x ≡ first = cc in (g, ap (λ y. y ∷ g) same)
      at (y ∷ known) rest first e a =
          let same : x ≡ y = cc in
          let behind : f ≡ known ++ first ∷ rest = cc in
          let found = (h (subst (λ z. Agree (z ∷ []) s u) (sym same) (agree_left s u (y ∷ []) known a))).goes known rest first behind (agree_tail s u y known a) in
          (found.0, λ i. same i ∷ found.1 i)

  module _ (g h : Footprint) (next : Goes s u g h) where
    goes_names : (ns : List (List ℕ)) (d : ℕ) → Goes s u (map name_read (names_from s.nodes d ns) ++ g) (map name_read (names_from u.nodes d ns) ++ h)
    goes_names [] d = next
    goes_names (n ∷ ns) d =
        elim (fits_name n) as (λ b. Goes s u (map name_read (cond b ((d, n) ∷ each_ok (λ e. names_from s.nodes e ns) (directory_at (name s d n))) []) ++ g) (map name_read (cond b ((d, n) ∷ each_ok (λ e. names_from u.nodes e ns) (directory_at (name u d n))) []) ++ h)) [
          | true ↦ goes_cons (name_read (d, n)) _ _ (λ a. subst (λ x. Goes s u (map name_read (each_ok (λ e. names_from s.nodes e ns) (directory_at (name s d n))) ++ g) (map name_read (each_ok (λ e. names_from u.nodes e ns) (directory_at x)) ++ h)) (agree_head s u (name_at d n) false [] a) (further (goes_names ns) (directory_at (name s d n))))
          | false ↦ next
        ]
      where
        further : ((e : ℕ) → Goes s u (map name_read (names_from s.nodes e ns) ++ g) (map name_read (names_from u.nodes e ns) ++ h)) → (x : Result ℕ Errno)
            → Goes s u (map name_read (each_ok (λ e. names_from s.nodes e ns) x) ++ g) (map name_read (each_ok (λ e. names_from u.nodes e ns) x) ++ h)
        further f (Ok e) = f e
        further f (Err x) = next

    goes_path : (p : Path) → Goes s u (path_reads s p ++ g) (path_reads u p ++ h)
    goes_path p = elim (starts_at_root p) as (λ b. Goes s u (map name_read (cond b (names_from s.nodes 0 (components p.text)) []) ++ g) (map name_read (cond b (names_from u.nodes 0 (components p.text)) []) ++ h)) [ true ↦ goes_names (components p.text) 0 | false ↦ next ]

  goes_one_path : (p : Path) → Goes s u (path_reads s p) (path_reads u p)
  goes_one_path p = subst (λ f. Goes s u f (path_reads u p)) (append-nil (path_reads s p)) (subst (λ f. Goes s u (path_reads s p ++ []) f) (append-nil (path_reads u p)) (goes_path [] [] (goes_nothing []) p))

  goes_two_paths : (old new : Path) → Goes s u (path_reads s old ++ path_reads s new) (path_reads u old ++ path_reads u new)
  goes_two_paths old new = goes_path (path_reads s new) (path_reads u new) (goes_one_path new) old

  module _ (t : Recording) (r : ℕ) where
    goes_description : (x : Option ℕ) → Goes s u (each (λ d. reads (one (description_at d)) ∷ []) x) (each (λ d. reads (one (description_at d)) ∷ []) x)
    goes_description None = goes_nothing []
    goes_description (Some d) = goes_cons (reads (one (description_at d))) [] [] (λ a. goes_nothing [])

    -- a slot or a descriptor, where there is one, and what it leads to
    goes_held : (there : Bool) (a : Atom) (x y : Option ℕ) → (Agree (reads (one a) ∷ []) s u → x ≡ y) → Goes s u
        (map reads (cond there (one a ∷ []) []) ++ each (λ d. reads (one (description_at d)) ∷ []) (cond there x None))
        (map reads (cond there (one a ∷ []) []) ++ each (λ d. reads (one (description_at d)) ∷ []) (cond there y None))
    goes_held true a x y same = goes_cons (reads (one a)) _ _
        (λ g. subst (λ z. Goes s u (each (λ d. reads (one (description_at d)) ∷ []) x) (each (λ d. reads (one (description_at d)) ∷ []) z)) (same g) (goes_description x))
    goes_held false a x y same = goes_nothing []

    goes_file : (f : File) → Goes s u (file_seen (in_ring t r) s f) (file_seen (in_ring t r) u f)
    goes_file (in_slot n) = goes_held (ltb n (slot_count t r)) (slot_at r n) (slot s r n) (slot u r n) (λ a. agree_head s u (slot_at r n) false [] a)
    goes_file (at_descriptor n) = goes_held (ltb n (length t.descriptors)) (descriptor_at n) (descriptor s n) (descriptor u n)
        (λ a. agree_head s u (descriptor_at n) false [] a)

    goes_look : (l : Look) → Goes s u (look_reads (in_ring t r) s l) (look_reads (in_ring t r) u l)
    goes_look at_nothing = goes_nothing []
    goes_look (at_file f) = goes_file f
    goes_look (at_path p) = goes_one_path p
    goes_look (at_paths old new) = goes_two_paths old new

    goes_seen : (o : Operation) → Goes s u (seen (in_ring t r) s o) (seen (in_ring t r) u o)
    goes_seen o = goes_look (look (shape o))

  goes_deciding : (t : Recording) (k : ℕ) (x : Option Turn) → Goes s u (look_of t k s x).deciding (look_of t k u x).deciding
  goes_deciding t k (Some (runs r e o)) = goes_seen t r o
  goes_deciding t k (Some (called r o)) = goes_seen t r o
  goes_deciding t k _ = goes_nothing []

module _ (t : Recording) (spelled : IsAccepted t) (window r k : ℕ) (waits : Waits t window (suc r) k) (may_run : is_taken_to_run t k (world_after t window r) (reaches_after t window r k) ≡ true) where
  abbrev s : World
  s = world_after t window r

  abbrev earlier : List Footprint
  earlier = reaches_after t window r k

  -- The may-access set of a place that may run has what it looks up.
  deciding_in_reach : (a : Atom) → has_atom (look_after t window r k).deciding a ≡ true → has_atom (reach_after t window r k) a ≡ true
  deciding_in_reach a h =
      let laws = row_laws t all_covered in
      let in_row = laws.look_in_row k s a h in
      elim (cases_Bool (is_met (look_after t window r k).deciding earlier)) [
        | inl e ↦
            let sound = (between_rounds (replayed t) (lawful t spelled) (places t) window r).on.sound in
            let bounded = known-now (replayed t) (lawful t spelled) (has (state_after t window r).finished) s sound k (waited (replayed t) (lawful t spelled) (places t) window r k waits) may_run in
            ap (λ f. has_atom f a) (wide_reach t k s earlier may_run e)
            ∙ (laws.wide_holds_accepted k s earlier bounded).0 a ((laws.accepted_holds_row k s earlier).0 a in_row)
        | inr e ↦ row_in_reach t spelled window r k waits (record { may_run = may_run; unmet = e }) a in_row
      ]

  begins : (known rest : Footprint) (first : Use) → (look_after t window r k).deciding ≡ known ++ first ∷ rest → is_met known earlier ≡ false
      → (others : Footprint) × ((look_after t window (suc r) k).deciding ≡ known ++ first ∷ others)
  begins known rest first e unmet =
      let agree = value_stays t spelled window r k waits known unmet (λ a h. deciding_in_reach a (ap (λ f. has_atom f a) e ∙ true_of _ (in_left (λ (v : Use). member_of v.item a) known (first ∷ rest) (holds_true _ h)))) in
      (goes_deciding s (world_after t window (suc r)) t k (task t k)).goes known rest first e (record { same = λ a h. agree a (true_of _ h) })

pub deciding_begins : (t : Recording) → IsAccepted t → DecidingBegins t
deciding_begins t spelled window r k known rest first waits may_run e unmet = (begins t spelled window r k waits may_run known rest first e unmet, unmet_stays t spelled window r k waits known unmet)
