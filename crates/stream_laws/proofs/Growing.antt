-- A record with blank steps before it stands for each trace that has it behind the same records.
use Rattle.std.proofs.Common.{◌≡◌, ℕ, zero, suc, ◌+◌, ◌-◌, ◌<◌, ◌≤◌, Bool, true, false, List, [], ◌∷◌, ◌++◌, length, map, Option, Some, None, refl, sym, ap, subst, ◌∙◌, arith, inl, inr, append_assoc}
use Rattle.std.specs.Prelude.{All, ◌&&◌}
use Rattle.std.specs.List.{slice_get}
use Rattle.std.proofs.Math.Seq.{map-set_same}
use Rattle.std.proofs.lemmas.Bool.{ne_eqb}
use Rattle.std.proofs.lemmas.List.{append-nil, length-append, map-append}
use Rattle.std.proofs.lemmas.List.Elements.{All-nil, All-cons, All-head, All-append, All-map, All-weaker, All-get_or}
use Rattle.std.proofs.lemmas.Option.{slice_get_cases, get_or_from_slice_get}
use Rattle.trace_format.specs.Submitted.{Submitted}
use Rattle.trace_format.proofs.Spots.{slice_get-append_left, slice_get-append_right}
use Rattle.trace_records.specs.declared.record.Record.{Record}
use Rattle.trace_records.specs.declared.record.Record.TheVariants.{Enter, Fill, Set, Seek, RingStarts, RingEnds}
use Rattle.trace_records.specs.declared.start.Start.{Start}
use Rattle.recording.specs.declared.recording.Recording.{Recording}
use Rattle.recording.specs.declared.recording.Ring.{Ring}
use Rattle.recording.specs.declared.record.Record.TheVariants as kept
use Rattle.recording.specs.Records.{record_steps}
use Rattle.recording.specs.Growing.{Grown, submitted, filling_bytes, new_ring, with_end, with_record, with_records, no_records, recorded}
use Rattle.recording.specs.Steps.{Step, submit, places, step_at}
use Rattle.recording.specs.Forgotten.{blank, blanks}
use Rattle.recording.proofs.Blanks.{length-blanks, filling_at}
use Rattle.chain_plan.specs.Chain.{entry_passes, same_record, has_link, is_linked, chain_of}
use Rattle.chain_plan.specs.Stretch.{IsApart, chains_ahead}
use Rattle.stream_laws.specs.Standing.{still_open, StartsEmpty, IsFrontOf, StandsFor}
use Rattle.stream_laws.specs.Streamed.{recording_of, place_behind, at_hand}

-- Rings that are the front of others.
pub front_all : (xs : List Ring) → IsFrontOf xs xs
front_all xs = record { later = []; same = sym (append-nil (map still_open xs)); empty = All-nil StartsEmpty }

front_same : (xs ys : List Ring) → map still_open ys ≡ map still_open xs → IsFrontOf xs ys
front_same xs ys e = record { later = []; same = e ∙ sym (append-nil (map still_open xs)); empty = All-nil StartsEmpty }

front_more : (xs ys zs : List Ring) → IsFrontOf xs ys → IsFrontOf ys zs → IsFrontOf xs zs
front_more xs ys zs f g = record {
  later = f.later ++ g.later;
  same = g.same ∙ ap (λ rs. rs ++ g.later) f.same ∙ append_assoc (map still_open xs) f.later g.later;
  empty = All-append StartsEmpty f.later g.later f.empty g.empty;
}

-- A ring that ends is the same but for that.
pub end_same : (rings : List Ring) (n : ℕ) → map still_open (with_end rings n) ≡ map still_open rings
end_same rings n = elim (slice_get_cases rings n).1 [
  | inl h ↦
      let x = h.0 in
      rw (h.2, with_end) (map-set_same still_open rings n (record x { ended = true }) x (ap still_open (sym h.3)))
  | inr h ↦ rw (h.1, with_end) refl
]

-- The steps that a record adds, behind so many places and rings.
abbrev pub added : (place rings : ℕ) → Record → List Step
added p n (Enter ring entries) = record_steps p (kept.Enter ring (map submitted entries))
added p n (Fill ring buffer offset filling) = record_steps p (kept.Fill ring buffer offset (filling_bytes filling))
added p n (Set file content) = record_steps p (kept.Set file content)
added p n (Seek file position) = record_steps p (kept.Seek file position)
added p n (RingStarts ring) = record_steps p (kept.Register n ring.full)
added p n (RingEnds ring) = []

pub steps_added : (g : Grown) (r : Record) → (with_record g r).steps ≡ g.steps ++ added (length g.steps) (length g.rings) r
steps_added g (Enter ring entries) = refl
steps_added g (Fill ring buffer offset filling) = refl
steps_added g (Set file content) = refl
steps_added g (Seek file position) = refl
steps_added g (RingStarts ring) = refl
steps_added g (RingEnds ring) = sym (append-nil g.steps)

-- The rings do not depend on steps.
abbrev pub blank_steps : Grown → Grown
blank_steps g = record g { steps = blanks (length g.steps) }

pub rings_alike : (g : Grown) (r : Record) → (with_record (blank_steps g) r).rings ≡ (with_record g r).rings
rings_alike g (Enter ring entries) = refl
rings_alike g (Fill ring buffer offset filling) = refl
rings_alike g (Set file content) = refl
rings_alike g (Seek file position) = refl
rings_alike g (RingStarts ring) = refl
rings_alike g (RingEnds ring) = refl

-- Each of these steps has the place of the first one as the number of its record.
abbrev IsOf : ℕ → Step → Type 0
IsOf p x = x.from_record ≡ p

one_of : (p : ℕ) (x : Step) → IsOf p x → All (IsOf p) (x ∷ [])
one_of p x e = All-cons (IsOf p) x [] e (All-nil (IsOf p))

added_of : (p n : ℕ) (r : Record) → All (IsOf p) (added p n r)
added_of p n (Enter ring entries) = All-map (IsOf p) (λ (e : Submitted). record { ring = ring; from_record = p; action = submit e }) (map submitted entries) (λ k d lt. refl)
added_of p n (Fill ring buffer offset filling) = one_of p _ refl
added_of p n (Set file content) = one_of p _ refl
added_of p n (Seek file position) = one_of p _ refl
added_of p n (RingStarts ring) = one_of p _ refl
added_of p n (RingEnds ring) = All-nil (IsOf p)

-- The first of some steps is the first of a record, behind so many places.
abbrev IsFirst : ℕ → List Step → Type 0
IsFirst p [] = Unit {0}
IsFirst p (x ∷ xs) = x.from_record ≡ p

first_of_all : (p : ℕ) (xs : List Step) → All (IsOf p) xs → IsFirst p xs
first_of_all p [] h = tt
first_of_all p (x ∷ xs) h = All-head (IsOf p) x xs h

-- What grows by records has the same front.
pub record Grows (g h : Grown) : Type 0 where
  pub rest : List Step
  pub steps : h.steps ≡ g.steps ++ rest
  pub first : IsFirst (length g.steps) rest
  pub rings : IsFrontOf g.rings h.rings

grows_not : (g : Grown) → Grows g g
grows_not g = record { rest = []; steps = sym (append-nil g.steps); first = tt; rings = front_all g.rings }

ring_front : (g : Grown) (r : Record) → IsFrontOf g.rings (with_record g r).rings
ring_front g (Enter ring entries) = front_all g.rings
ring_front g (Fill ring buffer offset filling) = front_all g.rings
ring_front g (Set file content) = front_all g.rings
ring_front g (Seek file position) = front_all g.rings
ring_front g (RingStarts ring) =
    let x = new_ring g.rings ring in
    record { later = x ∷ []; same = map-append still_open g.rings (x ∷ []); empty = All-cons StartsEmpty x [] refl (All-nil StartsEmpty) }
ring_front g (RingEnds ring) = front_same g.rings (with_end g.rings ring) (end_same g.rings ring)

pub grows_once : (g : Grown) (r : Record) → Grows g (with_record g r)
grows_once g r =
    let steps = added (length g.steps) (length g.rings) r in
    record { rest = steps; steps = steps_added g r; first = first_of_all (length g.steps) steps (added_of (length g.steps) (length g.rings) r); rings = ring_front g r }

first_more : (p q : ℕ) (xs ys : List Step) → p + length xs ≡ q → IsFirst p xs → IsFirst q ys → IsFirst p (xs ++ ys)
first_more p q [] ys e f h =
    let same : q ≡ p = omega arith in
    subst (λ n. IsFirst n ys) same h
first_more p q (x ∷ xs) ys e f h = f

grows_more : (g h k : Grown) → Grows g h → Grows h k → Grows g k
grows_more g h k a b = record {
  rest = a.rest ++ b.rest;
  steps = b.steps ∙ ap (λ xs. xs ++ b.rest) a.steps ∙ append_assoc g.steps a.rest b.rest;
  first = first_more (length g.steps) (length h.steps) a.rest b.rest (omega (arith, length-append g.steps a.rest, ap length a.steps)) a.first b.first;
  rings = front_more g.rings h.rings k.rings a.rings b.rings;
}

pub grows : (g : Grown) (rs : List Record) → Grows g (with_records g rs)
grows g [] = grows_not g
grows g (r ∷ rs) = grows_more g (with_record g r) (with_records (with_record g r) rs) (grows_once g r) (grows (with_record g r) rs)

pub with_records-append : (g : Grown) (xs ys : List Record) → with_records g (xs ++ ys) ≡ with_records (with_records g xs) ys
with_records-append g [] ys = refl
with_records-append g (x ∷ xs) ys = with_records-append (with_record g x) xs ys

-- The number of a step's record is below a bound.
abbrev IsBelow : ℕ → Step → Type 0
IsBelow n x = x.from_record < n

abbrev AreEarlier : Grown → Type 0
AreEarlier g = All (IsBelow (length g.steps)) g.steps

earlier_all : (p : ℕ) (xs ys : List Step) → length ys ≡ p → All (IsBelow p) ys → All (IsOf p) xs → All (IsBelow (length (ys ++ xs))) (ys ++ xs)
earlier_all p [] ys e h g =
    All-append (IsBelow (length (ys ++ []))) ys [] (All-weaker (IsBelow p) (IsBelow (length (ys ++ []))) (λ x lt. omega (arith, lt, e, length-append ys [])) ys h) (All-nil (IsBelow (length (ys ++ []))))
earlier_all p (z ∷ zs) ys e h g =
    let n : ℕ = length (ys ++ z ∷ zs) in
    let more : p < n = omega (arith, e, length-append ys (z ∷ zs)) in
    All-append (IsBelow n) ys (z ∷ zs) (All-weaker (IsBelow p) (IsBelow n) (λ x lt. omega (arith, lt, more)) ys h) (All-weaker (IsOf p) (IsBelow n) (λ x is. omega (arith, is, more)) (z ∷ zs) g)

earlier_once : (g : Grown) (r : Record) → AreEarlier g → AreEarlier (with_record g r)
earlier_once g r h =
    subst (λ (xs : List Step). All (IsBelow (length xs)) xs) (sym (steps_added g r))
    (earlier_all (length g.steps) (added (length g.steps) (length g.rings) r) g.steps refl h (added_of (length g.steps) (length g.rings) r))

pub earlier : (g : Grown) (rs : List Record) → AreEarlier g → AreEarlier (with_records g rs)
earlier g [] h = h
earlier g (r ∷ rs) h = earlier (with_record g r) rs (earlier_once g r h)

-- No chain goes on behind the last step of a record.
apart_by : (t : Recording) (p : ℕ) → ((k : ℕ) → suc k ≡ p → is_linked t k ≡ false) → IsApart t p
apart_by t zero h = tt
apart_by t (suc k) h = h k refl

never : (b : Bool) → (b && false) ≡ false
never true = refl
never false = refl

other_record : (p : ℕ) (o : Option Step) (xs : List Step) → ((x : Step) → o ≡ Some x → x.from_record < p) → IsFirst p xs → same_record o (slice_get xs 0) ≡ false
other_record p None xs lt first = refl
other_record p (Some x) [] lt first = refl
other_record p (Some x) (y ∷ ys) lt first = ne_eqb x.from_record y.from_record (λ e. absurd (omega (arith, e, lt x refl, first)))

pub apart_in : (b : Start) (g h : Grown) → Grows g h → AreEarlier g → IsApart (recorded b h) (length g.steps)
apart_in b g h grown all = apart_by (recorded b h) (length g.steps) unlinked
  where
    unlinked : (k : ℕ) → suc k ≡ length g.steps → is_linked (recorded b h) k ≡ false
    unlinked k e =
        let t = recorded b h in
        let here : step_at t k ≡ slice_get g.steps k = ap (λ xs. slice_get xs k) grown.steps ∙ slice_get-append_left g.steps grown.rest k (omega (arith, e)) in
        let next : step_at t (suc k) ≡ slice_get grown.rest 0 = ap (λ xs. slice_get xs (suc k)) grown.steps ∙ slice_get-append_right g.steps grown.rest (suc k) 0 (omega (arith, e)) in
        let early = λ (x : Step) (is : slice_get g.steps k ≡ Some x).
        subst (IsBelow (length g.steps)) (get_or_from_slice_get g.steps k x x is) (All-get_or (IsBelow (length g.steps)) g.steps k x (omega (arith, e)) all) in
        (λ i. entry_passes t has_link k && same_record (here i) (next i))
        ∙ ap (λ c. entry_passes t has_link k && c) (other_record (length g.steps) (slice_get g.steps k) grown.rest early grown.first)
        ∙ never (entry_passes t has_link k)

-- Blank steps are chains of their own.
abbrev IsBlankTo : Recording → ℕ → Type 0
IsBlankTo t n = (k : ℕ) → k < n → step_at t k ≡ Some (blank k)

blank_alone : (t : Recording) (n k : ℕ) → IsBlankTo t n → k < n → is_linked t k ≡ false
blank_alone t n k h lt = rw (h k lt) refl

pub blank_apart : (t : Recording) (n : ℕ) → IsBlankTo t n → IsApart t n
blank_apart t n h = apart_by t n (λ k e. blank_alone t n k h (omega (arith, e)))

blank_chain : (t : Recording) (n k : ℕ) → IsBlankTo t n → k < n → chain_of t k ≡ k
blank_chain t n zero h lt = refl
blank_chain t n (suc k) h lt = rw (blank_alone t n k h (omega arith)) (ap suc (blank_chain t n k h (omega arith)))

pub blank_chains : (t : Recording) (n : ℕ) → IsBlankTo t n → chains_ahead t n ≡ n
blank_chains t zero h = refl
blank_chains t (suc k) h = ap suc (blank_chain t (suc k) k h (omega arith))

-- The record at hand, with blank steps before it.
module _ (b : Start) (front : List Record) (r : Record) where
  abbrev p : ℕ
  p = place_behind b front

  abbrev before : Grown
  before = with_records no_records front

  abbrev v : Recording
  v = at_hand b front r

  abbrev more : List Step
  more = added p (length before.rings) r

  hand_steps : v.steps ≡ blanks p ++ more
  hand_steps = steps_added (blank_steps before) r ∙ ap (λ n. blanks p ++ added n (length before.rings) r) (length-blanks p)

  pub hand_blank : IsBlankTo v p
  hand_blank k lt = ap (λ xs. slice_get xs k) hand_steps ∙ slice_get-append_left (blanks p) more k (omega (arith, lt, length-blanks p)) ∙ filling_at [] p k lt

  pub hand_places : places v ≡ length (with_record before r).steps
  hand_places =
      ap length hand_steps ∙ length-append (blanks p) more ∙ ap (λ n. n + length more) (length-blanks p) ∙ sym (length-append before.steps more)
      ∙ ap length (sym (steps_added before r))

  all_earlier : AreEarlier before
  all_earlier = earlier no_records front (All-nil (IsBelow 0))

  module _ (back : List Record) where
    abbrev whole : Grown
    whole = with_records no_records (front ++ r ∷ back)

    abbrev u : Recording
    u = recording_of b (front ++ r ∷ back)

    grown_before : Grows before whole
    grown_before = subst (Grows before) (sym (with_records-append no_records front (r ∷ back))) (grows before (r ∷ back))

    grown_with : Grows (with_record before r) whole
    grown_with = subst (Grows (with_record before r)) (sym (with_records-append no_records front (r ∷ back))) (grows (with_record before r) back)

    hand_step : (k : ℕ) → p ≤ k → k < places v → step_at v k ≡ step_at u k
    hand_step k from lt =
        let m : ℕ = k - p in
        let there : length before.steps + m ≡ k = omega (arith, from) in
        ap (λ xs. slice_get xs k) hand_steps
        ∙ slice_get-append_right (blanks p) more k m (omega (arith, there, length-blanks p))
        ∙ sym (slice_get-append_right before.steps more k m there)
        ∙ ap (λ xs. slice_get xs k) (sym (steps_added before r))
        ∙ sym (slice_get-append_left (with_record before r).steps grown_with.rest k (omega (arith, lt, hand_places)))
        ∙ ap (λ xs. slice_get xs k) (sym grown_with.steps)

    pub hand_stands : StandsFor v u p
    hand_stands = record {
      version = refl;
      items = refl;
      descriptions = refl;
      descriptors = refl;
      rings = subst (λ xs. IsFrontOf xs whole.rings) (sym (rings_alike before r)) grown_with.rings;
      begins = omega (arith, hand_places, ap length (steps_added before r), length-append before.steps more);
      ends = omega (arith, hand_places, ap length grown_with.steps, length-append (with_record before r).steps grown_with.rest);
      steps = hand_step;
      apart = blank_apart v p hand_blank;
      apart_there = apart_in b before whole grown_before all_earlier;
      apart_behind = subst (IsApart u) (sym hand_places) (apart_in b (with_record before r) whole grown_with (earlier_once before r all_earlier));
    }
