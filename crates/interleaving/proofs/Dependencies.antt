-- Any order in which each place runs after those that it depends on gives what one place at a time gives.
use Rattle.std.proofs.Common.{◌≡◌, ◌≢◌, ℕ, zero, suc, ◌<◌, ◌≤◌, Bool, true, false, List, [], ◌∷◌, Some, inl, inr, refl, sym, ◌∙◌, ap, subst, arith}
use Rattle.std.specs.Prelude.{not}
use Rattle.std.proofs.lemmas.Bool.{cases_Bool, cases_eq, false_from_ne_true}
use Rattle.interleaving.specs.System.{System, AgreeOn, Apart, stepped, sequential}
use Rattle.interleaving.specs.Laws.{Cover}
use Rattle.interleaving.specs.Machine.{Event, Start, Finish, has, reply_of, State, opening, happens, run}
use Rattle.interleaving.specs.Dependencies.{Leads, foot_in_turn, depends_on, IsDue, AllDue, Suffices, DependenciesSuffice}
use Rattle.interleaving.proofs.Commute.{turned, unless, unused_kept, foot_kept, reply_kept, commute}
use Rattle.interleaving.proofs.Skipping.{stepped-same}
use Rattle.interleaving.proofs.Finish.{removing}
use Rattle.interleaving.proofs.Orders.{before_stepped, reply-here, reply-other}

module _ (m : System) (laws : Cover m) where
  open m use {World, Footprint, Atom, step, reply, foot, value, writes, touches, IsWorld, Unused}

  -- the places that aren't left out depend on none that are
  abbrev pub Closed : (ℕ → Bool) → Type 0
  Closed out = (i j : ℕ) → out i ≡ false → j < i → out j ≡ true → depends_on m i j ≡ false

  -- a place depends on none of those before it that are left out
  abbrev pub FreeOf : (ℕ → Bool) → ℕ → Type 0
  FreeOf out k = (j : ℕ) → j < k → out j ≡ true → depends_on m k j ≡ false

  world_of : (out : ℕ → Bool) (n : ℕ) → IsWorld (stepped m out m.start n)
  world_of out n = (before_stepped m laws out n n (omega arith)).0

  unused_of : (out : ℕ → Bool) (n : ℕ) → Unused n (stepped m out m.start n)
  unused_of out n = laws.before_unused n (stepped m out m.start n) ((before_stepped m laws out n n (omega arith)).1)

  in_turn_world : (n : ℕ) → IsWorld (sequential m n)
  in_turn_world n = world_of (λ k. false) n

  in_turn_unused : (n : ℕ) → Unused n (sequential m n)
  in_turn_unused n = unused_of (λ k. false) n

  -- an atom that none of those that are left out writes stands as it does in turn
  abbrev Follows : (ℕ → Bool) → ℕ → Type 0
  Follows out n = (a : Atom) → ((j : ℕ) → j < n → out j ≡ true → writes (foot_in_turn m j) a ≡ false) → value (sequential m n) a ≡ value (stepped m out m.start n) a

  agree_here : (out : ℕ → Bool) (n : ℕ) → Follows out n → FreeOf out n → AgreeOn m (foot_in_turn m n) (sequential m n) (stepped m out m.start n)
  agree_here out n follow free a t = follow a (λ j lt o. turned (writes (foot_in_turn m j) a) (touches (foot_in_turn m n) a)
      ((laws.apart_from_collide (foot_in_turn m n) (foot_in_turn m j) (free j lt o)).1 a) t)

  follows : (out : ℕ → Bool) → Closed out → (n : ℕ) → Follows out n
  follows out closed zero a none = refl
  follows out closed (suc n) a none =
      let here = stepped m out m.start n in
      let before : value (sequential m n) a ≡ value here a = follows out closed n a (λ j lt. none j (omega arith)) in
      elim (cases_Bool (out n)) [
        | inl o ↦ rw o (laws.others_kept n (sequential m n) a (in_turn_world n) (in_turn_unused n) (none n (omega arith) o) ∙ before)
        | inr o ↦
            let agree = agree_here out n (follows out closed n) (λ j lt oj. closed n j o lt oj) in
            rw o (elim (cases_Bool (touches (foot_in_turn m n) a)) [
              | inl t ↦ laws.values_same n (sequential m n) here (in_turn_world n) (world_of out n) (in_turn_unused n) (unused_of out n) agree a t
              | inr f ↦
                  let unwritten = unless (writes (foot_in_turn m n) a) (touches (foot_in_turn m n) a) (laws.writes_touches (foot_in_turn m n) a) f in
                  let same = laws.foot_same n (sequential m n) here (in_turn_world n) (world_of out n) (in_turn_unused n) (unused_of out n) agree in
                  laws.others_kept n (sequential m n) a (in_turn_world n) (in_turn_unused n) unwritten ∙ before
                  ∙ sym (laws.others_kept n here a (world_of out n) (unused_of out n) (ap (λ g. writes g a) same ∙ unwritten))
            ])
      ]

  -- so a place that depends on none that are left out has the access set and the reply that it has in turn
  module _ (out : ℕ → Bool) (closed : Closed out) (n : ℕ) (free : FreeOf out n) where
    found : AgreeOn m (foot_in_turn m n) (sequential m n) (stepped m out m.start n)
    found = agree_here out n (follows out closed n) free

    pub foot_found : foot n (stepped m out m.start n) ≡ foot_in_turn m n
    foot_found = laws.foot_same n (sequential m n) (stepped m out m.start n) (in_turn_world n) (world_of out n) (in_turn_unused n) (unused_of out n) found

    pub reply_found : reply n (stepped m out m.start n) ≡ reply n (sequential m n)
    reply_found = laws.reply_same n (sequential m n) (stepped m out m.start n) (in_turn_world n) (world_of out n) (in_turn_unused n) (unused_of out n) found

  -- a place that was left out and depends on none that are: it may run after all that weren't
  module _ (out : ℕ → Bool) (closed : Closed out) (k : ℕ) (is_out : out k ≡ true) (free : FreeOf out k) where
    abbrev Met : World → Type 0
    Met s = (foot k s ≡ foot_in_turn m k) × Unused k s × (reply k s ≡ reply k (sequential m k))

    other : (i : ℕ) → out i ≡ false → i ≢ k
    other i o e = grind arith

    apart_there : (i : ℕ) → out i ≡ false → k < i → Met (stepped m out m.start i) → Apart m (foot i (stepped m out m.start i)) (foot k (stepped m out m.start i))
    apart_there i o lt met = rw (foot_found out closed i (λ j less oj. closed i j o less oj), met.0)
        (laws.apart_from_collide (foot_in_turn m i) (foot_in_turn m k) (closed i k o lt is_out))

    met_here : Met (stepped m out m.start k)
    met_here = (foot_found out closed k free, unused_of out k, reply_found out closed k free)

    pub met : (n : ℕ) → k ≤ n → Met (stepped m out m.start n)
    met zero le = let e : k ≡ 0 = omega arith in subst (λ i. Met (stepped m out m.start i)) e met_here
    met (suc i) le = elim (cases_eq k (suc i)) [
      | inl e ↦ subst (λ i. Met (stepped m out m.start i)) e met_here
      | inr ne ↦
          let s = stepped m out m.start i in
          let h : Met s = met i (omega arith) in
          elim (cases_Bool (out i)) [
            | inl o ↦ rw o h
            | inr o ↦
                let apart = apart_there i o (grind (arith, other i o)) h in
                let w = world_of out i in
                let u = unused_of out i in
                rw o (
                  foot_kept m laws i k s w u h.1 (other i o) apart ∙ h.0,
                  unused_kept m laws i k s w u h.1 (other i o) apart,
                  reply_kept m laws i k s w u h.1 (other i o) apart ∙ h.2,
                )
          ]
    ]

    pub moved : (n : ℕ) → k < n → stepped m (removing out k) m.start n ≡ step k (stepped m out m.start n)
    moved zero lt = absurd (omega arith)
    moved (suc i) lt = elim (cases_eq i k) [
      | inl e ↦ grind (arith, stepped-same m (removing out k) out m.start k (λ j less. grind arith))
      | inr ne ↦
          let s = stepped m out m.start i in
          let h : Met s = met i (omega arith) in
          let back : stepped m (removing out k) m.start i ≡ step k s = moved i (omega arith) in
          elim (cases_Bool (out i)) [
            | inl o ↦ grind arith
            | inr o ↦
                let swap = (commute m laws i k s (world_of out i) (unused_of out i) h.1 (other i o) (apart_there i o (omega arith) h)).world in
                grind arith
          ]
    ]

  -- what is kept from event to event
  pub record Led (waits : ℕ → ℕ → Bool) (n : ℕ) (s : State m) : Type 0 where
    pub begun : (k : ℕ) → has s.finished k ≡ true → has s.started k ≡ true
    -- all that a started place is led to has finished
    pub ready : (k : ℕ) → has s.started k ≡ true → (k < n) × ((j : ℕ) → Leads waits k j → has s.finished j ≡ true)
    pub world : s.world ≡ stepped m (λ i. not (has s.finished i)) m.start n
    pub kept : (j : ℕ) → has s.finished j ≡ true → reply_of s.replies j ≡ Some (reply j (sequential m j))

  -- whatever leads on through a started place has finished
  led_through : (waits : ℕ → ℕ → Bool) (n : ℕ) (s : State m) → Led waits n s → (k : ℕ) → ((i : ℕ) → waits k i ≡ true → has s.finished i ≡ true)
      → (j : ℕ) → Leads waits k j → has s.finished j ≡ true
  led_through waits n s c k all j (Leads.at_once k₁ j₁ w) = all j w
  led_through waits n s c k all j (Leads.onward k₁ i j₁ w rest) = (c.ready i (c.begun i (all i w))).1 j rest

  led_at_start : (waits : ℕ → ℕ → Bool) (n : ℕ) → Led waits n (opening m)
  led_at_start waits n = record {
    begun = λ k f. (cc);
    ready = λ k f. (cc);
    world = sym (all_out n);
    kept = λ j f. (cc);
  }
    where
      all_out : (i : ℕ) → stepped m (λ j. not (has [] j)) m.start i ≡ m.start
      all_out zero = refl
      all_out (suc i) = all_out i

  module _ (waits : ℕ → ℕ → Bool) (n : ℕ) (enough : Suffices m waits n) (s : State m) (c : Led waits n s) where
    abbrev left_out : ℕ → Bool
    left_out i = not (has s.finished i)

    -- a started place depends on none that has not finished
    free_of : (k : ℕ) → has s.started k ≡ true → FreeOf left_out k
    free_of k st j lt o =
        let mine = c.ready k st in
        false_from_ne_true (depends_on m k j) (λ d. let f = mine.1 j (enough k j lt mine.0 d) in grind arith)

    closed_of : Closed left_out
    closed_of i j o lt oj = free_of i (c.begun i (grind arith)) j lt oj

    after_start : (k : ℕ) → IsDue m waits n s (Start k) → Led waits n (happens m s (Start k))
    after_start k due = record {
      begun = λ j f. grind (arith, c.begun j f);
      ready = λ j st. elim (cases_eq j k) [
        | inl e ↦ rw e (due.0, λ i l. led_through waits n s c k due.2 i l)
        | inr ne ↦ c.ready j (grind arith)
      ];
      world = c.world;
      kept = c.kept;
    }

    after_finish : (k : ℕ) → IsDue m waits n s (Finish k) → Led waits n (happens m s (Finish k))
    after_finish k due = record {
      begun = λ j f. elim (cases_eq j k) [ inl e ↦ rw e due.0 | inr ne ↦ c.begun j (grind arith) ];
      ready = λ j st. let mine = c.ready j st in (mine.0, λ i l. grind (arith, mine.1 i l));
      world = ap (step k) c.world ∙ sym (moved left_out closed_of k is_out free n lt) ∙ stepped-same m (removing left_out k) (λ i. not (has (k ∷ s.finished) i)) m.start n (λ i less. grind arith);
      kept = λ j f. elim (cases_eq j k) [
        | inl e ↦ rw e (reply-here k (reply k s.world) s.replies ∙ ap Some (ap (reply k) c.world ∙ (met left_out closed_of k is_out free n (omega (arith, lt))).2))
        | inr ne ↦ reply-other j k (reply k s.world) s.replies ne ∙ c.kept j (grind arith)
      ];
    }
      where
        is_out : left_out k ≡ true
        is_out = rw due.1 refl

        free : FreeOf left_out k
        free = free_of k due.0

        lt : k < n
        lt = (c.ready k due.0).0

  led : (waits : ℕ → ℕ → Bool) (n : ℕ) → Suffices m waits n → (s : State m) (es : List Event) → Led waits n s → AllDue m waits n s es → Led waits n (run m s es)
  led waits n enough s [] c due = c
  led waits n enough s (Start k ∷ es) c due = led waits n enough (happens m s (Start k)) es (after_start waits n enough s c k due.0) due.1
  led waits n enough s (Finish k ∷ es) c due = led waits n enough (happens m s (Finish k)) es (after_finish waits n enough s c k due.0) due.1

  pub dependencies_suffice_lem : DependenciesSuffice m
  dependencies_suffice_lem waits n es enough due complete =
      let s = run m (opening m) es in
      let c = led waits n enough (opening m) es (led_at_start waits n) due in (
        c.world ∙ stepped-same m (λ i. not (has s.finished i)) (λ i. false) m.start n (λ i lt. let f = complete i lt in grind arith),
        λ k lt. c.kept k (complete k lt),
      )
