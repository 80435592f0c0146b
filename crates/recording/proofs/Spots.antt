-- The step at a place of a list of records is found by the index of its record and the place of that record's first step.
use Rattle.std.proofs.Common.{◌≡◌, ℕ, suc, ◌+◌, ◌-◌, ◌<◌, ◌≤◌, List, [], ◌∷◌, ◌++◌, length, get_or, replicate, Some, refl, sym, ap, ◌∙◌, arith, inl, inr, length-append, append_assoc}
use Rattle.std.proofs.lemmas.List.{length-map, append-nil, length-replicate, get_or-replicate}
use Rattle.std.specs.List.{slice_get}
use Rattle.std.proofs.lemmas.Bool.{cases_lt}
use Rattle.std.proofs.lemmas.Grind.{common_steps}
use Rattle.std.proofs.lemmas.Option.{slice_get-get_or, slice_get-map, get_or_from_slice_get}
use Rattle.trace_format.specs.declared.entry.Entry.{Entry}
use Rattle.trace_format.proofs.Spots.{slice_get-append_left, slice_get-append_right}
use Rattle.recording.specs.declared.record.Record.{Record}
use Rattle.recording.specs.declared.record.Record.TheVariants.{Enter, Fill, Register, Set, Seek}
use Rattle.recording.specs.Actions.{Step, submit}
use Rattle.recording.specs.Records.{Later, step_count, record_steps, steps_from, indexes_from, firsts_from}

-- how many steps records have
abbrev pub places_in : List Record → ℕ
places_in [] = 0
places_in (r ∷ rs) = step_count r + places_in rs

pub length-record_steps : (p : ℕ) (r : Record) → length (record_steps p r) ≡ step_count r
length-record_steps p (Enter ring entries) = length-map entries _
length-record_steps p (Fill ring buffer offset bytes) = refl
length-record_steps p (Register ring slots) = refl
length-record_steps p (Set file content) = refl
length-record_steps p (Seek file position) = refl

pub length-steps_from : (p : ℕ) (rs : List Record) → length (steps_from p rs) ≡ places_in rs
length-steps_from p [] = refl
length-steps_from p (r ∷ rs) =
    omega (arith, length-append (record_steps p r) (steps_from (p + step_count r) rs), length-record_steps p r, length-steps_from (p + step_count r) rs)

pub length-indexes_from : (n : ℕ) (rs : List Record) → length (indexes_from n rs) ≡ places_in rs
length-indexes_from n [] = refl
length-indexes_from n (r ∷ rs) =
    omega (arith, length-append (replicate (step_count r) n) (indexes_from (suc n) rs), length-replicate (step_count r) n, length-indexes_from (suc n) rs)

-- ---- one record more

pub indexes_from-push : (n : ℕ) (xs : List Record) (x : Record)
    → indexes_from n (xs ++ x ∷ []) ≡ indexes_from n xs ++ replicate (step_count x) (n + length xs)
indexes_from-push n [] x =
    let e : n + length {A = Record} [] ≡ n = omega arith in
    rw e (append-nil (replicate (step_count x) n))
indexes_from-push n (r ∷ rs) x = grind (arith, common_steps, indexes_from-push (suc n) rs x)

pub firsts_from-push : (p : ℕ) (xs : List Record) (x : Record) → firsts_from p (xs ++ x ∷ []) ≡ firsts_from p xs ++ (p + places_in xs) ∷ []
firsts_from-push p [] x = ap (λ q. q ∷ []) (omega arith)
firsts_from-push p (r ∷ rs) x = grind (arith, firsts_from-push (p + step_count r) rs x)

pub steps_from-push : (p : ℕ) (xs : List Record) (x : Record) → steps_from p (xs ++ x ∷ []) ≡ steps_from p xs ++ record_steps (p + places_in xs) x
steps_from-push p [] x =
    let e : p + 0 ≡ p = omega arith in
    rw e (append-nil (record_steps p x))
steps_from-push p (r ∷ rs) x =
    let e : p + step_count r + places_in rs ≡ p + (step_count r + places_in rs) = omega arith in
    rw (steps_from-push (p + step_count r) rs x, e) (sym (append_assoc (record_steps p r) (steps_from (p + step_count r) rs) (record_steps (p + (step_count r + places_in rs)) x)))

-- ---- the step at a place

-- The record in which the place k lies, of records that are numbered from n and begin at the place p, and its step there.
pub record Found (n p k : ℕ) (rs : List Record) (indexes firsts : List ℕ) (all : List Step) : Type 0 where
  pub index : ℕ
  pub number : ℕ
  pub first : ℕ
  pub entry : ℕ
  pub item : Record
  pub numbered : n + index ≡ number
  pub begins : first + entry ≡ p + k
  pub within : entry < step_count item
  pub number_there : slice_get indexes k ≡ Some number
  pub first_there : slice_get firsts index ≡ Some first
  pub item_there : slice_get rs index ≡ Some item
  pub step : slice_get all k ≡ slice_get (record_steps first item) entry

found : (n p k : ℕ) (rs : List Record) → k < places_in rs → Found n p k rs (indexes_from n rs) (firsts_from p rs) (steps_from p rs)
found n p k [] lt = absurd (omega arith)
found n p k (r ∷ rs) lt = elim (cases_lt k (step_count r)) [
  | inl here ↦
      let many : k < length (replicate (step_count r) n) = omega (arith, length-replicate (step_count r) n) in
      record {
        index = 0;
        number = n;
        first = p;
        entry = k;
        item = r;
        numbered = omega arith;
        begins = refl;
        within = here;
        number_there = slice_get-append_left _ (indexes_from (suc n) rs) k many ∙ slice_get-get_or _ k n many ∙ ap Some (get_or-replicate _ k n n here);
        first_there = refl;
        item_there = refl;
        step = slice_get-append_left (record_steps p r) _ k (omega (arith, length-record_steps p r));
      }
  | inr past ↦
      let f = found (suc n) (p + step_count r) (k - step_count r) rs (omega arith) in
      record {
        index = suc f.index;
        number = f.number;
        first = f.first;
        entry = f.entry;
        item = f.item;
        numbered = omega (arith, f.numbered);
        begins = omega (arith, f.begins);
        within = f.within;
        number_there = slice_get-append_right (replicate (step_count r) n) _ k _ (omega (arith, length-replicate (step_count r) n)) ∙ f.number_there;
        first_there = f.first_there;
        item_there = f.item_there;
        step = slice_get-append_right (record_steps p r) _ k _ (omega (arith, length-record_steps p r)) ∙ f.step;
      }
]

-- so many places are before them, and so many are theirs
pub counted : (p : ℕ) (indexes : List ℕ) (rs : List Record) (l : Later) → indexes ≡ indexes_from 0 rs → record { first = p; steps = steps_from p rs } ≡ l
    → (p ≡ l.first) × (length indexes ≡ length l.steps)
counted p indexes rs l e is =
    (ap (λ (x : Later). x.first) is, omega (arith, ap length e, ap (λ (x : Later). length x.steps) is, length-steps_from p rs, length-indexes_from 0 rs))

-- the place of a step behind them
pub place_back : (p place : ℕ) (steps : List Step) (l : Later) → record { first = p; steps = steps } ≡ l → l.first ≤ place → place ≡ p + (place - p)
place_back p place steps l is behind = omega (arith, ap (λ (x : Later). x.first) is)

pub same_place : (p place : ℕ) (steps : List Step) (l : Later) → record { first = p; steps = steps } ≡ l → slice_get l.steps (place - l.first) ≡ slice_get l.steps (place - p)
same_place p place steps l is = ap (λ (x : Later). slice_get l.steps (place - x.first)) (sym is)

-- the same of what is kept beside records
pub found_here : (p place : ℕ) (indexes firsts : List ℕ) (rs : List Record) (l : Later) → indexes ≡ indexes_from 0 rs → firsts ≡ firsts_from p rs → record { first = p; steps = steps_from p rs } ≡ l
    → l.first ≤ place → place < l.first + length l.steps → Found 0 p (place - p) rs indexes firsts l.steps
found_here p place indexes firsts rs l e f is behind within =
    let count = counted p indexes rs l e is in
    rw (e, f, ← ap (λ (x : Later). x.steps) is) (found 0 p (place - p) rs (omega (arith, count, ap length e, length-indexes_from 0 rs)))

-- what an index reads is what stands there
read_there : {X : Type 0} (xs : List X) (i : ℕ) (x y : X) → slice_get xs i ≡ Some y → x ≡ get_or xs i x → x ≡ y
read_there xs i x y there here = here ∙ get_or_from_slice_get xs i y x there

-- the index that is read at the place
module _ {p k : ℕ} {rs : List Record} {indexes firsts : List ℕ} {all : List Step}
    (f : Found 0 p k rs indexes firsts all) (index : ℕ) (here : index ≡ get_or indexes k index) where
  pub index_read : index ≡ f.index
  index_read = omega (arith, f.numbered, read_there indexes k index f.number f.number_there here)

  pub first_read : (first : ℕ) → first ≡ get_or firsts index first → first ≡ f.first
  first_read first first_here = read_there firsts f.index first f.first f.first_there (rw index_read at first_here)

  -- and by the first place, the entry in the record that is read
  pub step_read : (place first : ℕ) (item : Record) → place ≡ p + k → first ≡ get_or firsts index first → item ≡ get_or rs index item
      → (place - first < step_count item) × (slice_get all k ≡ slice_get (record_steps first item) (place - first))
  step_read place first item place_is first_here item_here =
      let is : first ≡ f.first = first_read first first_here in
      let entry : place - first ≡ f.entry = omega (arith, is, f.begins, place_is) in
      let same : item ≡ f.item = read_there rs f.index item f.item f.item_there (rw index_read at item_here) in
      rw (entry, same, is) (f.within, f.step)

pub enter_step : (p ring k : ℕ) (entries : List Entry) (e : Entry) → slice_get entries k ≡ Some e
    → slice_get (record_steps p (Enter ring entries)) k ≡ Some (record { ring = ring; from_record = p; action = submit e })
enter_step p ring k entries e here =
    rw (slice_get-map _ entries k, here) refl

-- the step of a record that has one
pub one_step : (k : ℕ) (s : Step) → k < 1 → slice_get (s ∷ []) k ≡ Some s
one_step k s lt =
    let e : k ≡ 0 = omega arith in
    rw e refl

-- the same where what its ring is has been found
pub one_step_on : (k : ℕ) (s : Step) (ring : ℕ) → k < 1 → ring ≡ s.ring → slice_get (s ∷ []) k ≡ Some (record s { ring = ring })
one_step_on k s ring lt is =
    let e : k ≡ 0 = omega arith in
    rw (e, is) refl

-- what is kept beside records, behind p places, with one more that has a step
pub kept_more : (p place : ℕ) (indexes firsts indexes_next firsts_next : List ℕ) (rs rs_next : List Record) (index count limit : ℕ) (r : Record)
    → (indexes ≡ indexes_from 0 rs) × (firsts ≡ firsts_from p rs) × (p + length indexes ≤ limit) × (length rs ≤ length indexes)
    → rs_next ≡ rs ++ r ∷ [] → place ≡ p + length indexes → index ≡ length rs → count ≡ step_count r → (count ≡ 0 → ⊥) → p + length indexes + count ≤ limit
    → (indexes_next ≡ indexes ++ replicate count index) × (firsts_next ≡ firsts ++ place ∷ [])
    → (indexes_next ≡ indexes_from 0 rs_next) × (firsts_next ≡ firsts_from p rs_next) × (p + length indexes_next ≤ limit) × (length rs_next ≤ length indexes_next)
kept_more p place indexes firsts indexes_next firsts_next rs rs_next index count limit r kept more at is counts some room next =
    let here : place ≡ p + places_in rs = omega (arith, at, ap length kept.0, length-indexes_from 0 rs) in
    let number : index ≡ 0 + length rs = omega arith in
    let long : length indexes_next ≡ length indexes + count = ap length next.0 ∙ length-append indexes (replicate count index) ∙ ap (λ n. length indexes + n) (length-replicate count index) in (
      next.0 ∙ rw (more, indexes_from-push 0 rs r, kept.0, counts, number) refl,
      next.1 ∙ rw (more, firsts_from-push p rs r, here, kept.1) refl,
      omega arith,
      omega (arith, ap length more, length-append rs (r ∷ [])),
    )

-- and the steps then
pub steps_more : (p : ℕ) (rs rs_next : List Record) (l : Later) (r : Record)
    → record { first = p; steps = steps_from p rs } ≡ l → rs_next ≡ rs ++ r ∷ []
    → record { first = p; steps = steps_from p rs_next } ≡ record l { steps = l.steps ++ record_steps (l.first + length l.steps) r }
steps_more p rs rs_next l r is more =
    let same = sym is in
    let place : p + places_in rs ≡ p + length (steps_from p rs) = omega (arith, length-steps_from p rs) in
    rw (same, more, steps_from-push p rs r, place) refl
