-- One walk over the places of a trace finds all chains.
use Rattle.std.proofs.Common.{◌≡◌, ℕ, zero, suc, ◌+◌, ◌-◌, ◌<◌, ◌≤◌, Bool, true, false, cond, List, [], ◌∷◌, ◌++◌, length, get_or, map, Option, Some, None, refl, sym, ap, ◌∙◌, ◌^◌, arith, inl, inr, add-one, true≢false}
use Rattle.std.specs.Prelude.{IfSome, not, leb, is_some, ◌&&◌, ◌||◌, ◌==◌, if◌then◌else◌}
use Rattle.std.specs.List.{list_any, filter, range_with_len, slice_get}
use Rattle.std.proofs.lemmas.Bool.{eq-eqb, ne_eqb, leb-true, cases_eq, cases_lt, cases_Bool}
use Rattle.std.proofs.lemmas.List.{length-map, get_or-map, append-nil, ext_get_or, map-id, get_or_past, length_push}
use Rattle.std.proofs.lemmas.Option.{get_or_from_slice_get, none-some, slice_get_past, slice_get_within}
use Rattle.std.proofs.lemmas.List.Folds.{list_any-append}
use Rattle.std.proofs.lemmas.Bool.Decides.{nat_tests}
use Rattle.std.proofs.lemmas.Grind.{common_steps}
use Rattle.std.proofs.lemmas.List.FromFn.{filter_of_map_range_with_len_more, length-map-range_with_len, get_or-map-range_with_len, map-range_with_len_more}
use Rattle.trace_format.specs.declared.entry.Entry.{Entry}
use Rattle.recording.specs.declared.recording.Recording.{Recording}
use Rattle.chain_plan.specs.declared.role.Role.{Role}
use Rattle.recording.specs.Limits.{places_limit}
use Rattle.recording.specs.Steps.{Step, places, step_at}
use Rattle.entry_checks.specs.Check.{has, io_drain, skip_success}
use Rattle.chain_plan.specs.Chain.{action_passes, entry_passes, has_link, is_linked, same_record, chain_of, ahead, fails_check, role}
use Rattle.chain_plan.specs.declared.stretch.Member.{Member}
use Rattle.chain_plan.specs.declared.stretch.Chain.{Chain}
use Rattle.chain_plan.specs.declared.stretch.Marks.{Marks}
use Rattle.chain_plan.specs.declared.stretch.Linked.{Linked}
use Rattle.chain_plan.specs.Plan.{roles}
use Rattle.chain_plan.specs.Stretch.{AreFollowing, IsApart, IsHeld, IsStretch, Roles, chains_ahead, end_of, roles_of}
use Rattle.chain_plan.specs.Walk.{marks_of, followed, member_after, no_members, with_member, counted, joined, link_from}

-- the tests of the model
abbrev skips : Entry → Bool
skips e = has e.sqe.flags skip_success

abbrev drains : Entry → Bool
drains e = has e.sqe.flags io_drain

-- the places below n that stand in a chain
abbrev pub below : Recording → ℕ → ℕ → List ℕ
below t n c = filter (λ k. chain_of t k == c) (range_with_len 0 n)

-- what a plan keeps of a place, and of a chain as far as the places below n show it
abbrev pub member_at : Recording → ℕ → Member
member_at t k = record { chain = chain_of t k; ahead = ahead t k; quiet = entry_passes t skips (k - ahead t k) }

-- whether a place stands in a chain with others, and whether it fails its tests there
abbrev joins : Recording → ℕ → Bool
joins t k = entry_passes t has_link k || not (ahead t k == 0)

abbrev fails_joined : Recording → ℕ → Bool
fails_joined t k = joins t k && entry_passes t (fails_check t) k

abbrev pub chain_over : Recording → List ℕ → Chain
chain_over t ks = record { length = length ks; doomed = list_any (fails_joined t) ks; barrier = list_any (entry_passes t drains) ks }

abbrev pub chain_at : Recording → ℕ → ℕ → Chain
chain_at t n c = chain_over t (below t n c)

-- what a step may be followed from
abbrev pub link_of : Recording → ℕ → Option Step → Option Linked
link_of t k None = None
link_of t k (Some u) = link_from (member_at t k) u.from_record (entry_passes t has_link k)

-- what the place n may follow
abbrev pub link_at : Recording → ℕ → Option Linked
link_at t zero = None
link_at t (suc k) = link_of t k (step_at t k)

-- the walk from the place `first`, to which none is linked, has come to the place n
pub record Walked (t : Recording) (first n : ℕ) (ms : List Member) (cs : List Chain) (l : Option Linked) : Type 0 where
  pub starts : IsApart t first
  pub forward : first ≤ n
  pub within : n ≤ places t
  pub each_member : ms ≡ map (member_at t) (range_with_len first (n - first))
  pub each_chain : cs ≡ map (chain_at t n) (range_with_len (chains_ahead t first) (chains_ahead t n - chains_ahead t first))
  pub link : (s : Step) → step_at t n ≡ Some s → followed l s.from_record ≡ followed (link_at t n) s.from_record

-- the place n stands in its chain, and in no other
below_more : (t : Recording) (n c : ℕ) → below t (suc n) c ≡ below t n c ++ cond (chain_of t n == c) (n ∷ []) []
below_more t n c =
    let one : n + 1 ≡ suc n = omega arith in
    rw one at (simp map-id at (filter_of_map_range_with_len_more (λ k. chain_of t k == c) (λ k. k) 0 n n (omega arith)))

pub below_here : (t : Recording) (n : ℕ) → below t (suc n) (chain_of t n) ≡ below t n (chain_of t n) ++ n ∷ []
below_here t n = below_more t n (chain_of t n) ∙ rw (eq-eqb (chain_of t n) _ refl) refl

pub below_other : (t : Recording) (n c : ℕ) → (chain_of t n ≡ c → ⊥) → below t (suc n) c ≡ below t n c
below_other t n c other = below_more t n c ∙ rw (ne_eqb _ _ other) (append-nil (below t n c))

-- every earlier place stands in one of the chains so far
chain_of-suc : (t : Recording) (k : ℕ) → chain_of t k ≤ chain_of t (suc k)
chain_of-suc t k = grind arith

chain_of-mono : (t : Recording) (k n : ℕ) → k ≤ n → chain_of t k ≤ chain_of t n
chain_of-mono t k zero le =
    let e : k ≡ 0 = omega arith in
    rw e (omega arith)
chain_of-mono t k (suc n) le = elim (cases_eq k (suc n)) [
  | inl e ↦ rw e (omega arith)
  | inr ne ↦ omega (arith, chain_of-mono t k n (omega (arith, ne)), chain_of-suc t n)
]

pub chain_within : (t : Recording) (k n : ℕ) → k < n → chain_of t k < chains_ahead t n
chain_within t k zero lt = absurd (omega arith)
chain_within t k (suc n) lt = omega (arith, chain_of-mono t k n (omega arith))

-- no place below n stands in a chain that comes later
below_next : (t : Recording) (n m c : ℕ) → m ≤ n → chains_ahead t n ≤ c → below t m c ≡ []
below_next t n zero c le new = refl
below_next t n (suc m) c le new = below_other t m c (λ e. absurd (omega (arith, e, chain_within t m n (omega arith)))) ∙ below_next t n m c (omega arith) new

pub chains_ahead-le : (t : Recording) (n : ℕ) → chains_ahead t n ≤ n
chains_ahead-le t zero = omega arith
chains_ahead-le t (suc zero) = omega arith
chains_ahead-le t (suc (suc n)) = grind (arith, chains_ahead-le t (suc n))

pub ahead-le : (t : Recording) (k : ℕ) → ahead t k ≤ k
ahead-le t zero = omega arith
ahead-le t (suc k) = grind (arith, ahead-le t k)

-- the count of chains beside the chain of the place n
count_near : (t : Recording) (n : ℕ) → (chain_of t n ≤ chains_ahead t n) × (chains_ahead t n ≤ suc (chain_of t n))
count_near t zero = (omega arith, omega arith)
count_near t (suc k) = (grind arith, grind arith)

-- the member that a step of a record follows
follows_link : (m : Member) (u r : ℕ) (b : Bool) → followed (link_from m u b) r ≡ (if b && u == r then Some m else None)
follows_link m u r b = grind arith

followed_is : (t : Recording) (k : ℕ) (s : Step) → step_at t (suc k) ≡ Some s
    → followed (link_at t (suc k)) s.from_record ≡ (if is_linked t k then Some (member_at t k) else None)
followed_is t k s now = by (step_at t k) refl
  where
    by : (o : Option Step) → step_at t k ≡ o → followed (link_of t k o) s.from_record ≡ (if is_linked t k then Some (member_at t k) else None)
    by None e = rw e refl
    by (Some u) e = rw (follows_link (member_at t k) u.from_record s.from_record (entry_passes t has_link k), now, e) refl

-- the member of the place n
next_if : (t : Recording) (k : ℕ) (s : Step) → step_at t (suc k) ≡ Some s → (b : Bool) → is_linked t k ≡ b
    → member_after (if b then Some (member_at t k) else None) (suc (chain_of t k)) (action_passes skips (Some s)) ≡ member_at t (suc k)
next_if t k s now true e =
    let head : suc k - suc (ahead t k) ≡ k - ahead t k = omega arith in
    rw (e, head, add-one) refl
next_if t k s now false e =
    let start : suc k - 0 ≡ suc k = omega arith in
    rw (e, start, now) refl

pub member_next : (t : Recording) (n : ℕ) (s : Step) → step_at t n ≡ Some s → member_after (followed (link_at t n) s.from_record) (chains_ahead t n) (action_passes skips (Some s)) ≡ member_at t n
member_next t zero s now =
    let start : 0 - 0 ≡ 0 = omega arith in
    rw (start, now) refl
member_next t (suc k) s now = rw (followed_is t k s now) (next_if t k s now (is_linked t k) refl)

-- whether the place n follows another one of its chain
abbrev follows_at : Recording → ℕ → Step → Bool
follows_at t n s = is_some (followed (link_at t n) s.from_record)

abbrev marks_at : Recording → ℕ → Step → Marks
marks_at t n s = marks_of t.version (follows_at t n s) s

follows_is : (t : Recording) (n : ℕ) (s : Step) → step_at t n ≡ Some s → follows_at t n s ≡ not (ahead t n == 0)
follows_is t zero s now = refl
follows_is t (suc k) s now = rw (followed_is t k s now) (grind (arith, nat_tests))

-- the chain of the place n has one member more, and the others have not
any_push : (p : ℕ → Bool) (ks : List ℕ) (n : ℕ) → list_any p (ks ++ n ∷ []) ≡ (list_any p ks || p n)
any_push p ks n = grind (arith, common_steps)

chain_grown : (t : Recording) (n : ℕ) (s : Step) → step_at t n ≡ Some s
    → with_member (chain_at t n (chain_of t n)) (marks_at t n s) ≡ chain_at t (suc n) (chain_of t n)
chain_grown t n s now =
    let ks = below t n (chain_of t n) in
    sym (ap (chain_over t) (below_here t n)
    ∙ rw (length_push ks n, any_push (fails_joined t) ks n, any_push (entry_passes t drains) ks n, ← follows_is t n s now, now) refl)

chain_same : (t : Recording) (n c : ℕ) → (chain_of t n ≡ c → ⊥) → chain_at t n c ≡ chain_at t (suc n) c
chain_same t n c other = ap (chain_over t) (sym (below_other t n c other))

-- a chain with one member more, among the others
counted_at : (cs : List Chain) (c j : ℕ) (m : Marks) → c ≤ length cs
    → get_or (counted cs c m) j no_members ≡ (if j == c then with_member (get_or cs c no_members) m else get_or cs j no_members)
counted_at cs c j m le = grind (arith, common_steps, get_or_past cs c no_members)

length-counted : (cs : List Chain) (c : ℕ) (m : Marks) → c ≤ length cs → length cs ≤ suc c → length (counted cs c m) ≡ suc c
length-counted cs c m le near = grind (arith, common_steps)

abbrev IsShort : Option Member → Type 0
IsShort o = IfSome o (λ m. m.ahead + 1 < 2 ^ 32)

short_of : (t : Recording) (k r : ℕ) (o : Option Step) → k < places_limit → IsShort (followed (link_of t k o) r)
short_of t k r None lt = tt
short_of t k r (Some u) lt = grind (arith, ahead-le t k)

short_at : (t : Recording) (n r : ℕ) → n ≤ places_limit → IsShort (followed (link_at t n) r)
short_at t zero r le = tt
short_at t (suc k) r le = short_of t k r (step_at t k) (omega arith)

below-more-le : (t : Recording) (n c : ℕ) → length (below t (suc n) c) ≤ length (below t n c) + 1
below-more-le t n c = grind (arith, common_steps, below_more t n c)

below-le : (t : Recording) (n c : ℕ) → length (below t n c) ≤ n
below-le t zero c = omega arith
below-le t (suc n) c = omega (arith, below-more-le t n c, below-le t n c)

-- a place that joins no other follows none, and none follows it
not_linking : (t : Recording) (k : ℕ) → joins t k ≡ false → (entry_passes t has_link k ≡ false) × (ahead t k ≡ 0)
not_linking t k is = grind (arith, nat_tests)

starts_chain : (t : Recording) (k : ℕ) → ahead t k ≡ 0 → chains_ahead t k ≤ chain_of t k
starts_chain t zero none = omega arith
starts_chain t (suc k) none = grind arith

ends_chain : (t : Recording) (k : ℕ) → entry_passes t has_link k ≡ false → chain_of t (suc k) ≡ suc (chain_of t k)
ends_chain t k none = grind (arith, nat_tests)

-- a chain with such a place has no other
alone : (t : Recording) (n k c : ℕ) → k < n → chain_of t k ≡ c → joins t k ≡ false → length (below t n c) ≤ 1
alone t zero k c lt here is = absurd (omega arith)
alone t (suc n) k c lt here is = elim (cases_eq k n) [
  | inl e ↦
      let start : chains_ahead t n ≤ chain_of t n = starts_chain t n (rw e at (not_linking t k is).1) in
      let none : below t n c ≡ [] = below_next t n n c (omega arith) (omega (arith, start, rw e at here)) in
      omega (arith, below-more-le t n c, ap length none)
  | inr ne ↦
      let past = ends_chain t k (not_linking t k is).0 in
      let later = chain_of-mono t (suc k) n (omega arith) in
      omega (arith, ap length (below_other t n c (λ f. absurd (omega (arith, past, later, f, here)))), alone t n k c (omega arith) here is)
]

-- tests that agree on the places of a chain
any_same : (t : Recording) (p q : ℕ → Bool) (n c : ℕ) → ((k : ℕ) → k < n → chain_of t k ≡ c → p k ≡ q k) → list_any p (below t n c) ≡ list_any q (below t n c)
any_same t p q zero c h = refl
any_same t p q (suc n) c h =
    let more = λ (r : ℕ → Bool). ap (list_any r) (below_more t n c) ∙ list_any-append r (below t n c) (cond (chain_of t n == c) (n ∷ []) []) in
    more p ∙ rw (any_same t p q n c (λ k lt. h k (omega arith))) (elim (cases_eq (chain_of t n) c) [
      | inl e ↦ rw (eq-eqb _ _ e, h n (omega arith) e) refl
      | inr ne ↦ rw (ne_eqb _ _ ne) refl
    ]) ∙ sym (more q)

-- of a chain with several members each is tested
pub doomed_same : (t : Recording) (n c : ℕ) → (leb 2 (length (below t n c)) && list_any (fails_joined t) (below t n c)) ≡ (leb 2 (length (below t n c)) && list_any (entry_passes t (fails_check t)) (below t n c))
doomed_same t n c = elim (cases_Bool (leb 2 (length (below t n c)))) [
  | inl e ↦ ap (λ b. leb 2 (length (below t n c)) && b) (any_same t (fails_joined t) (entry_passes t (fails_check t)) n c (λ k lt here. tested k lt here (leb-true 2 (length (below t n c)) e)))
  | inr e ↦ rw e refl
]
  where
    tested : (k : ℕ) → k < n → chain_of t k ≡ c → 2 ≤ length (below t n c) → fails_joined t k ≡ entry_passes t (fails_check t) k
    tested k lt here several = elim (cases_Bool (joins t k)) [
      | inl e ↦ rw e refl
      | inr e ↦ absurd (omega (arith, alone t n k c lt here e))
    ]

-- the chains ahead of a place are no fewer further on
ahead-mono : (t : Recording) (k n : ℕ) → k ≤ n → chains_ahead t k ≤ chains_ahead t n
ahead-mono t zero n le = omega arith
ahead-mono t (suc k) zero le = absurd (omega arith)
ahead-mono t (suc k) (suc n) le = omega (arith, chain_of-mono t k n (omega arith))

-- a place to which none is linked begins a chain, behind those ahead of it
apart_above : (t : Recording) (n k : ℕ) → IsApart t n → n ≤ k → chains_ahead t n ≤ chain_of t k
apart_above t zero k apart le = omega arith
apart_above t (suc j) k apart le =
    let next : chain_of t (suc j) ≡ suc (chain_of t j) = rw apart refl in
    omega (arith, next, chain_of-mono t (suc j) k le)

-- so its chains ahead get no further members
below_kept : (t : Recording) (n m c : ℕ) → IsApart t n → n ≤ m → c < chains_ahead t n → below t m c ≡ below t n c
below_kept t n zero c apart le lt =
    let e : n ≡ 0 = omega arith in
    rw e refl
below_kept t n (suc m) c apart le lt = elim (cases_eq n (suc m)) [
  | inl e ↦ rw e refl
  | inr ne ↦
      let above = apart_above t n m apart (omega (arith, ne)) in
      below_other t m c (λ e. absurd (omega (arith, e, above, lt))) ∙ below_kept t n m c apart (omega (arith, ne)) lt
]

-- a place that follows none, as the walk sees it
pub seen_apart : (t : Recording) (n : ℕ) (s : Step) → step_at t n ≡ Some s → followed (link_at t n) s.from_record ≡ None → IsApart t n
seen_apart t zero s now none = tt
seen_apart t (suc k) s now none = by (is_linked t k) refl
  where
    by : (b : Bool) → is_linked t k ≡ b → is_linked t k ≡ false
    by true e = absurd (none-some _ (sym (rw (followed_is t k s now, e) at none)))
    by false e = e

-- and one that follows another, which is the place before it
seen_following : (t : Recording) (n : ℕ) (s : Step) → step_at t n ≡ Some s → is_some (followed (link_at t n) s.from_record) ≡ true → (k : ℕ) → suc k ≡ n → is_linked t k ≡ true
seen_following t zero s now some k e = absurd (omega (arith, e))
seen_following t (suc m) s now some k e = let d : k ≡ m = omega (arith, e) in rw d (by (is_linked t m) refl)
  where
    by : (b : Bool) → is_linked t m ≡ b → is_linked t m ≡ true
    by true q = q
    by false q = absurd (true≢false (sym (rw (followed_is t m s now, q) at some)))

apart_follows : (t : Recording) (n : ℕ) (s : Step) → IsApart t n → step_at t n ≡ Some s → None ≡ followed (link_at t n) s.from_record
apart_follows t zero s apart now = refl
apart_follows t (suc k) s apart now = sym (followed_is t k s now ∙ rw apart refl)

-- no place is linked to the end of the trace
pub end_apart : (t : Recording) (n : ℕ) → places t ≤ n → IsApart t n
end_apart t zero le = tt
end_apart t (suc k) le =
    let none : step_at t (suc k) ≡ None = slice_get_past t.steps (suc k) le in
    rw none (by (step_at t k) (entry_passes t has_link k))
  where
    by : (o : Option Step) (b : Bool) → (b && same_record o None) ≡ false
    by None true = refl
    by None false = refl
    by (Some s) true = refl
    by (Some s) false = refl

fill_from : {X : Type 0} (f : ℕ → X) (a n : ℕ) (xs : List X) (d : X) → length xs ≡ n → ((k : ℕ) → k < n → get_or xs k d ≡ f (a + k)) → xs ≡ map f (range_with_len a n)
fill_from f a n xs d long h =
    ext_get_or d xs _ (long ∙ sym (length-map-range_with_len f a n)) (λ k lt. h k (omega arith) ∙ sym (get_or-map-range_with_len f a n k (a + k) d (omega arith) refl))

-- what the walk has found so far
module _ {t : Recording} {first n : ℕ} {ms : List Member} {cs : List Chain} {l : Option Linked} (w : Walked t first n ms cs l) where
  abbrev before : ℕ
  before = chains_ahead t first

  forward_ahead : before ≤ chains_ahead t n
  forward_ahead = ahead-mono t first n w.forward

  chain_total : length cs ≡ chains_ahead t n - before
  chain_total = ap length w.each_chain ∙ length-map-range_with_len (chain_at t n) before (chains_ahead t n - before)

  member_total : length ms ≡ n - first
  member_total = ap length w.each_member ∙ length-map-range_with_len (member_at t) first (n - first)

  chain_read : (i : ℕ) (d : Chain) → i < length cs → get_or cs i d ≡ chain_at t n (before + i)
  chain_read i d lt =
      ap (λ xs. get_or xs i d) w.each_chain ∙ get_or-map-range_with_len (chain_at t n) before (chains_ahead t n - before) i (before + i) d (omega (arith, chain_total)) refl

  member_read : (i : ℕ) (d : Member) → i < length ms → get_or ms i d ≡ member_at t (first + i)
  member_read i d lt =
      ap (λ xs. get_or xs i d) w.each_member ∙ get_or-map-range_with_len (member_at t) first (n - first) i (first + i) d (omega (arith, member_total)) refl

  -- chains to come have no members
  chain_each : (i : ℕ) → get_or cs i no_members ≡ chain_at t n (before + i)
  chain_each i = elim (cases_lt i (length cs)) [
    | inl lt ↦ chain_read i no_members lt
    | inr ge ↦ get_or_past cs i no_members ge ∙ sym (ap (chain_over t) (below_next t n n (before + i) (omega arith) (omega (arith, chain_total, forward_ahead))))
  ]

  -- the place n stands in a chain that began in the walk
  here_above : before ≤ chain_of t n
  here_above = apart_above t first n w.starts w.forward

  chain_after : (s : Step) → step_at t n ≡ Some s → (i : ℕ)
      → (if i == chain_of t n - before then with_member (get_or cs (chain_of t n - before) no_members) (marks_at t n s) else get_or cs i no_members)
      ≡ chain_at t (suc n) (before + i)
  chain_after s now i =
      let here : before + (chain_of t n - before) ≡ chain_of t n = omega (arith, here_above) in
      elim (cases_eq i (chain_of t n - before)) [
        | inl e ↦
            let there : before + i ≡ chain_of t n = omega (arith, e, here) in
            rw (eq-eqb _ _ e) (ap (λ c. with_member c (marks_at t n s)) (chain_each (chain_of t n - before) ∙ ap (chain_at t n) here)
            ∙ chain_grown t n s now ∙ ap (chain_at t (suc n)) (sym there))
        | inr ne ↦ rw (ne_eqb _ _ ne, chain_each i) (chain_same t n (before + i) (λ h. ne (omega (arith, h))))
      ]

  chains_next : (s : Step) → step_at t n ≡ Some s
      → counted cs (chain_of t n - before) (marks_at t n s) ≡ map (chain_at t (suc n)) (range_with_len before (suc (chain_of t n) - before))
  chains_next s now =
      let near = count_near t n in
      let c : ℕ = chain_of t n - before in
      let within : c ≤ length cs = omega (arith, chain_total, near.0) in
      let many = length-counted cs c (marks_at t n s) within (omega (arith, chain_total, near.1, here_above, forward_ahead)) in
      let each = λ (i : ℕ) (lt : i < suc (chain_of t n) - before). counted_at cs c i (marks_at t n s) within ∙ chain_after s now i in
      fill_from (chain_at t (suc n)) before (suc (chain_of t n) - before) _ no_members (many ∙ omega (arith, here_above)) each

  -- the walk goes on
  pub walks_on : (s : Step) (more : List Member) (next : List Chain) (after : Option Linked)
      → (m : Member) (a : Option Member) (count : ℕ) (marks : Marks)
      → step_at t n ≡ Some s → marks ≡ marks_of t.version (is_some a) s → a ≡ followed l s.from_record → count ≡ before + length cs
      → m ≡ member_after a count marks.skips → next ≡ counted cs (m.chain - before) marks
      → after ≡ link_from m s.from_record marks.links → more ≡ ms ++ m ∷ [] → Walked t first (n + 1) more next after
  walks_on s more next after m a count marks now marked following counting is grown linking longer =
      let one : n + 1 ≡ suc n = omega arith in
      let total : count ≡ chains_ahead t n = omega (arith, counting, chain_total, forward_ahead) in
      let follows : a ≡ followed (link_at t n) s.from_record = following ∙ w.link s now in
      let longer_by : (n - first) + 1 ≡ suc n - first = omega (arith, w.forward) in
      rw (longer, grown, linking, is, marked, follows, total, member_next t n s now, one) (record {
        starts = w.starts;
        forward = omega (arith, w.forward);
        within = omega (arith, slice_get_within t.steps n s now);
        each_member = ap (λ xs. xs ++ member_at t n ∷ []) w.each_member
            ∙ sym (rw longer_by at (map-range_with_len_more (member_at t) first (n - first) n (omega (arith, w.forward))));
        each_chain = chains_next s now;
        link = λ u next. ap (λ o. followed o u.from_record) (sym (ap (link_of t n) now ∙ ap (λ o. link_from (member_at t n) s.from_record (action_passes has_link o)) now));
      })

  -- the numbers stay small
  pub chains_long : before + length cs ≤ n
  chains_long = omega (arith, chain_total, forward_ahead, chains_ahead-le t n)

  pub chain_short : n ≤ places_limit → (j : ℕ) (c : Chain) → slice_get cs j ≡ Some c → c.length + 1 < 2 ^ 32
  chain_short le j c h =
      let there : c ≡ chain_at t n (before + j) = sym (get_or_from_slice_get cs j c c h) ∙ chain_read j c (slice_get_within cs j c h) in
      omega (arith, ap (λ x. x.length) there, below-le t n (before + j))

  pub member_short : (s : Step) (a : Option Member) → step_at t n ≡ Some s → n ≤ places_limit → a ≡ followed l s.from_record → IsShort a
  member_short s a now le e = rw (e, w.link s now) (short_at t n s.from_record le)

  -- the member of the place n is of a chain that began in the walk
  pub member_above : (s : Step) (a : Option Member) (count : ℕ) (skips : Bool) → step_at t n ≡ Some s → a ≡ followed l s.from_record → count ≡ before + length cs
      → before ≤ (member_after a count skips).chain
  member_above s a count skips now following counting =
      rw (following, w.link s now) (by (followed (link_at t n) s.from_record) refl)
    where
      by : (o : Option Member) → followed (link_at t n) s.from_record ≡ o → before ≤ (member_after o count skips).chain
      by None e = omega (arith, counting)
      by (Some m) e = omega (arith, here_above, ap (λ x. x.chain) (rw e at (member_next t n s now)))

  -- each member names one of the chains
  members_held : (k : ℕ) (m : Member) → slice_get ms k ≡ Some m → (before ≤ m.chain) × (m.chain < before + length cs)
  members_held k m h =
      let early : k < length ms = slice_get_within ms k m h in
      let there : m ≡ member_at t (first + k) = sym (get_or_from_slice_get ms k m m h) ∙ member_read k m early in
      let chain = ap (λ x. x.chain) there in (
        omega (arith, chain, apart_above t first (first + k) w.starts (omega arith)),
        omega (arith, chain, chain_total, member_total, forward_ahead, chain_within t (first + k) n (omega (arith, member_total))),
      )

  pub walked_held : n ≤ places_limit → IsHeld first before cs ms
  walked_held le = record {
    each = members_held;
    places = omega (arith, member_total, w.forward);
    numbers = omega (arith, chains_long);
  }

  -- a walk that stops at a step that follows none ends with a chain
  pub stops_apart : (s : Step) (a : Option Member) → step_at t n ≡ Some s → a ≡ followed l s.from_record → is_some a ≡ false → IsApart t n
  stops_apart s a now following none = seen_apart t n s now (sym (w.link s now) ∙ sym following ∙ by a none)
    where
      by : (o : Option Member) → is_some o ≡ false → o ≡ None
      by None e = refl
      by (Some m) e = absurd (true≢false e)

  -- and where it goes on past so many places it ends with none
  pub goes_on : (from : ℕ) (s : Step) (a : Option Member) → step_at t n ≡ Some s → a ≡ followed l s.from_record → (from ≤ n → is_some a ≡ true) → AreFollowing t from n → AreFollowing t from (n + 1)
  goes_on from s a now following goes before k least below = elim (cases_lt (suc k) n) [
    | inl less ↦ before k least less
    | inr reached ↦
        let here : suc k ≡ n = omega (arith, below, reached) in
        seen_following t n s now (ap is_some (sym (w.link s now) ∙ sym following) ∙ goes (omega (arith, least, here))) k here
  ]

  -- where the walk ends with a chain, it has found the roles
  role_read : IsApart t n → (i : ℕ) → i < length ms → (d : Role) → get_or (map (joined before cs) ms) i d ≡ role t (first + i)
  role_read apart i lt d =
      let k : ℕ = first + i in
      let c : ℕ = chain_of t k in
      let early : k < n = omega (arith, member_total) in
      let above = apart_above t first k w.starts (omega arith) in
      let back : before + (c - before) ≡ c = omega (arith, above) in
      let kept : below t (places t) c ≡ below t n c = below_kept t n (places t) c apart w.within (chain_within t k n early) in
      get_or-map (joined before cs) ms i (member_at t k) d lt ∙ ap (joined before cs) (member_read i (member_at t k) lt)
      ∙ rw (chain_each (c - before), back, ← kept) (ap (λ b. record (role t k) { doomed = b }) (doomed_same t (places t) c))

  pub walked_stretch : IsApart t n → IsStretch t (roles_of first before cs ms)
  walked_stretch apart =
      let many : length (map (joined before cs) ms) ≡ length ms = length-map ms (joined before cs) in
      let ends : first + length (map (joined before cs) ms) ≡ n = omega (arith, many, member_total, w.forward) in
      let d : Role = joined 0 [] (record { chain = 0; ahead = 0; quiet = false }) in
      record {
        roles = fill_from (role t) first (length (map (joined before cs) ms)) _ d refl (λ i lt. role_read apart i (omega (arith, many)) d);
        within = omega (arith, ends, w.within);
        apart = rw ends apart;
        chains = rw ends (omega (arith, chain_total, forward_ahead));
      }

  pub walked_long : length (map (joined before cs) ms) + first ≡ n
  walked_long = omega (arith, length-map ms (joined before cs), member_total, w.forward)

-- a walk goes on past a step that follows none and has no link flag
pub walks_alone : {t : Recording} {first n : ℕ} {ms : List Member} {cs : List Chain} → Walked t first n ms cs None
    → (s : Step) (more : List Member) (next : List Chain) (count : ℕ) (marks : Marks)
    → step_at t n ≡ Some s → marks ≡ marks_of t.version false s → marks.links ≡ false → count ≡ chains_ahead t first + length cs
    → next ≡ counted cs (length cs) marks → more ≡ ms ++ member_after None count marks.skips ∷ [] → Walked t first (n + 1) more next None
walks_alone {t} {first} {n} {ms} {cs} w s more next count marks now marked apart counting grown longer =
    let here : length cs ≡ count - chains_ahead t first = omega arith in
    walks_on w s more next None (member_after None count marks.skips) None count marks now marked refl counting refl
    (grown ∙ ap (λ k. counted cs k marks) here) (rw apart refl) longer

-- a walk has as many members as it has places
pub walked_to : {t : Recording} {first n : ℕ} {ms : List Member} {cs : List Chain} {l : Option Linked} → Walked t first n ms cs l → n ≡ first + length ms
walked_to w = omega (arith, member_total w, w.forward)

pub length-roles : (t : Recording) → length (roles t) ≡ places t
length-roles t = length-map-range_with_len (role t) 0 (places t)

-- the number of the chain behind a stretch
pub next_number : (t : Recording) (s : Roles) (first next : ℕ) → IsStretch t s → first ≡ end_of s → next ≡ s.chains → next ≡ chains_ahead t first
next_number t s first next stretch at number = number ∙ stretch.chains ∙ ap (chains_ahead t) (sym at)

-- the role that is read of a stretch is the place's
pub role_in : (t : Recording) (s : Roles) (k : ℕ) (r : Role) → IsStretch t s → s.first ≤ k → slice_get s.roles (k - s.first) ≡ Some r → r ≡ role t k
role_in t s k r stretch from here =
    sym (get_or_from_slice_get s.roles (k - s.first) r r here) ∙ ap (λ xs. get_or xs (k - s.first) r) stretch.roles
    ∙ get_or-map-range_with_len (role t) s.first (length s.roles) (k - s.first) k r (slice_get_within s.roles (k - s.first) r here) (omega arith)

-- the role that is read is the place's
pub role_is : (t : Recording) (us : List Role) (k : ℕ) (r : Role) → us ≡ roles t → slice_get us k ≡ Some r → r ≡ role t k
role_is t us k r own here =
    let all : length us ≡ places t = ap length own ∙ length-roles t in
    sym (get_or_from_slice_get us k r r here) ∙ ap (λ xs. get_or xs k r) own
    ∙ get_or-map-range_with_len (role t) 0 (places t) k k r (omega (arith, all, slice_get_within us k r here)) (omega arith)
