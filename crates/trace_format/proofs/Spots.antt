-- The step at a place of a list of records is found by the number of its record and the place of that record's first step.
use Rattle.std.proofs.Common.{◌≡◌, ℕ, zero, suc, ◌+◌, ◌-◌, ◌<◌, ◌≤◌, List, [], ◌∷◌, ◌++◌, length, get_or, take, replicate, Some, refl, sym, ap, ◌∙◌, arith, inl, inr, length-append}
use Rattle.std.proofs.lemmas.List.{length-map, take_more, length-take-le, append-nil, length-replicate, get_or-replicate}
use Rattle.std.specs.List.{slice_get}
use Rattle.std.proofs.lemmas.Bool.{cases_lt}
use Rattle.std.proofs.lemmas.Grind.{common_steps}
use Rattle.std.proofs.lemmas.Option.{slice_get-get_or, slice_get-map, get_or_from_slice_get}
use Rattle.trace_format.specs.declared.trace.Record.{Record}
use Rattle.trace_format.specs.declared.trace.Record.TheVariants.{Enter, Fill}
use Rattle.trace_format.specs.declared.entry.Entry.{Entry}
use Rattle.trace_format.specs.Steps.{Step, submit, fill, record_steps, steps_from}
use Rattle.trace_format.specs.Spots.{numbers_from, firsts_from}
use Rattle.trace_format.specs.Counts.{step_count, places_in}

pub slice_get-append_left : {X : Type 0} (xs ys : List X) (k : ℕ) → k < length xs → slice_get (xs ++ ys) k ≡ slice_get xs k
slice_get-append_left [] ys k lt = absurd (omega arith)
slice_get-append_left (x ∷ xs) ys zero lt = refl
slice_get-append_left (x ∷ xs) ys (suc k) lt = slice_get-append_left xs ys k (omega arith)

pub slice_get-append_right : {X : Type 0} (xs ys : List X) (k m : ℕ) → length xs + m ≡ k → slice_get (xs ++ ys) k ≡ slice_get ys m
slice_get-append_right [] ys k m e = ap (slice_get ys) (omega arith)
slice_get-append_right (x ∷ xs) ys zero m e = absurd (omega arith)
slice_get-append_right (x ∷ xs) ys (suc k) m e = slice_get-append_right xs ys k m (omega arith)

pub length-record_steps : (n : ℕ) (r : Record) → length (record_steps n r) ≡ step_count r
length-record_steps n (Enter ring entries) = length-map entries _
length-record_steps n (Fill ring buffer offset bytes) = refl

pub length-steps_from : (n : ℕ) (rs : List Record) → length (steps_from n rs) ≡ places_in rs
length-steps_from n [] = refl
length-steps_from n (r ∷ rs) = omega (arith, length-append (record_steps n r) (steps_from (suc n) rs), length-record_steps n r, length-steps_from (suc n) rs)

pub length-numbers_from : (n : ℕ) (rs : List Record) → length (numbers_from n rs) ≡ places_in rs
length-numbers_from n [] = refl
length-numbers_from n (r ∷ rs) =
    omega (arith, length-append (replicate (step_count r) n) (numbers_from (suc n) rs), length-replicate (step_count r) n, length-numbers_from (suc n) rs)

-- ---- one record more

numbers_from-push : (n : ℕ) (xs : List Record) (x : Record)
    → numbers_from n (xs ++ x ∷ []) ≡ numbers_from n xs ++ replicate (step_count x) (n + length xs)
numbers_from-push n [] x =
    let e : n + length {A = Record} [] ≡ n = omega arith in
    rw e (append-nil (replicate (step_count x) n))
numbers_from-push n (r ∷ rs) x = grind (arith, common_steps, numbers_from-push (suc n) rs x)

firsts_from-push : (p : ℕ) (xs : List Record) (x : Record) → firsts_from p (xs ++ x ∷ []) ≡ firsts_from p xs ++ (p + places_in xs) ∷ []
firsts_from-push p [] x = ap (λ q. q ∷ []) (omega arith)
firsts_from-push p (r ∷ rs) x = grind (arith, firsts_from-push (p + step_count r) rs x)

pub spots_more : (numbers firsts numbers_next firsts_next : List ℕ) (rs : List Record) (i count len : ℕ) (r : Record)
    → i < length rs → r ≡ get_or rs i r → count ≡ step_count r → len ≡ length numbers
    → (numbers ≡ numbers_from 0 (take i rs)) × (firsts ≡ firsts_from 0 (take i rs))
    → (numbers_next ≡ numbers ++ replicate count i) × (firsts_next ≡ firsts ++ len ∷ [])
    → (numbers_next ≡ numbers_from 0 (take (i + 1) rs)) × (firsts_next ≡ firsts_from 0 (take (i + 1) rs))
spots_more numbers firsts numbers_next firsts_next rs i count len r lt here steps long so_far next =
    let before : 0 + length (take i rs) ≡ i = omega (arith, length-take-le i rs) in
    let place : len ≡ 0 + places_in (take i rs) = omega (arith, long, ap length so_far.0, length-numbers_from 0 (take i rs)) in
    let grown : take (i + 1) rs ≡ take i rs ++ r ∷ [] = take_more rs i r lt ∙ ap (λ x. take i rs ++ x ∷ []) (sym here) in (
      next.0 ∙ rw (grown, numbers_from-push 0 (take i rs) r, before, so_far.0, steps) refl,
      next.1 ∙ rw (grown, firsts_from-push 0 (take i rs) r, place, so_far.1) refl,
    )

-- the records before one, and it, have no more steps than all
pub places_in-take : (rs : List Record) (i : ℕ) (r : Record)
    → i < length rs → r ≡ get_or rs i r → places_in (take i rs) + step_count r ≤ places_in rs
places_in-take [] i r lt e = absurd (omega arith)
places_in-take (x ∷ xs) zero r lt e = omega (arith, ap step_count e)
places_in-take (x ∷ xs) (suc i) r lt e = omega (arith, places_in-take xs i r (omega arith) e)

-- ---- the step at a place

-- The record in which the place k lies, of records that are numbered from n and begin at the place p, and its step there.
pub record Found (n p k : ℕ) (rs : List Record) (numbers firsts : List ℕ) (all : List Step) : Type 0 where
  pub index : ℕ
  pub number : ℕ
  pub first : ℕ
  pub entry : ℕ
  pub item : Record
  pub numbered : n + index ≡ number
  pub begins : first + entry ≡ p + k
  pub within : entry < step_count item
  pub number_there : slice_get numbers k ≡ Some number
  pub first_there : slice_get firsts index ≡ Some first
  pub item_there : slice_get rs index ≡ Some item
  pub step : slice_get all k ≡ slice_get (record_steps number item) entry

found : (n p k : ℕ) (rs : List Record) → k < places_in rs → Found n p k rs (numbers_from n rs) (firsts_from p rs) (steps_from n rs)
found n p k [] lt = absurd (omega arith)
found n p k (r ∷ rs) lt = elim (cases_lt k (step_count r)) [
  | inl here ↦
      let many : k < length (replicate (step_count r) n) = omega (arith, length-replicate (step_count r) n) in
      record {
        index = 0;
        number = n;
        first = p;
        entry = k;
        item = r;
        numbered = omega arith;
        begins = refl;
        within = here;
        number_there = slice_get-append_left _ (numbers_from (suc n) rs) k many ∙ slice_get-get_or _ k n many ∙ ap Some (get_or-replicate _ k n n here);
        first_there = refl;
        item_there = refl;
        step = slice_get-append_left (record_steps n r) _ k (omega (arith, length-record_steps n r));
      }
  | inr past ↦
      let f = found (suc n) (p + step_count r) (k - step_count r) rs (omega arith) in
      record {
        index = suc f.index;
        number = f.number;
        first = f.first;
        entry = f.entry;
        item = f.item;
        numbered = omega (arith, f.numbered);
        begins = omega (arith, f.begins);
        within = f.within;
        number_there = slice_get-append_right (replicate (step_count r) n) _ k _ (omega (arith, length-replicate (step_count r) n)) ∙ f.number_there;
        first_there = f.first_there;
        item_there = f.item_there;
        step = slice_get-append_right (record_steps n r) _ k _ (omega (arith, length-record_steps n r)) ∙ f.step;
      }
]

-- the same of what is kept beside records
pub found_here : (numbers firsts : List ℕ) (rs us : List Record) (k : ℕ) → numbers ≡ numbers_from 0 rs → firsts ≡ firsts_from 0 rs → rs ≡ us
    → k < length (steps_from 0 us) → Found 0 0 k rs numbers firsts (steps_from 0 us)
found_here numbers firsts rs us k e f same lt =
    rw (e, f, ← same) (found 0 0 k rs (omega (arith, ap (λ xs. length (steps_from 0 xs)) same, length-steps_from 0 rs)))

-- what an index reads is what stands there
read_there : {X : Type 0} (xs : List X) (i : ℕ) (x y : X) → slice_get xs i ≡ Some y → x ≡ get_or xs i x → x ≡ y
read_there xs i x y there here = here ∙ get_or_from_slice_get xs i y x there

-- the number that is read at the place
module _ {k : ℕ} {rs : List Record} {numbers firsts : List ℕ} {all : List Step}
    (f : Found 0 0 k rs numbers firsts all) (number : ℕ) (here : number ≡ get_or numbers k number) where
  pub number_read : number ≡ f.index
  number_read = omega (arith, f.numbered, read_there numbers k number f.number f.number_there here)

  pub first_read : (first : ℕ) → first ≡ get_or firsts number first → first ≡ f.first
  first_read first first_here = read_there firsts f.index first f.first f.first_there (rw number_read at first_here)

  -- and by the first place, the entry in the record that is read
  pub step_read : (first : ℕ) (item : Record) → first ≡ get_or firsts number first → item ≡ get_or rs number item
      → (k - first < step_count item) × (slice_get all k ≡ slice_get (record_steps number item) (k - first))
  step_read first item first_here item_here =
      let is : number ≡ f.number = omega (arith, number_read, f.numbered) in
      let entry : k - first ≡ f.entry = omega (arith, first_read first first_here, f.begins) in
      let same : item ≡ f.item = read_there rs f.index item f.item f.item_there (rw number_read at item_here) in
      rw (entry, same, is) (f.within, f.step)

pub enter_step : (n ring k : ℕ) (entries : List Entry) (e : Entry) → slice_get entries k ≡ Some e
    → slice_get (record_steps n (Enter ring entries)) k ≡ Some (record { ring = ring; from_record = n; action = submit e })
enter_step n ring k entries e here =
    rw (slice_get-map _ entries k, here) refl

pub fill_step : (n ring buffer offset k : ℕ) (bytes : List ℕ) → k < 1
    → slice_get (record_steps n (Fill ring buffer offset bytes)) k ≡ Some (record { ring = ring; from_record = n; action = fill buffer offset bytes })
fill_step n ring buffer offset k bytes lt =
    let e : k ≡ 0 = omega arith in
    rw e refl
