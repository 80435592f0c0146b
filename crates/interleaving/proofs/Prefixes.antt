-- Rounds that never overtake give what one place at a time gives.
use Rattle.std.proofs.Common.{◌≡◌, ◌≢◌, ℕ, zero, suc, ◌+◌, ◌<◌, ◌≤◌, min, Bool, true, false, List, [], ◌∷◌, ◌++◌, take, length, Some, inl, inr, refl, sym, ◌∙◌, ap, subst, arith}
use Rattle.std.proofs.lemmas.Bool.{cases_Bool, cases_eq, false_from_ne_true}
use Rattle.std.proofs.lemmas.List.{length-append, length-take}
use Rattle.interleaving.specs.System.{System, Apart, is_clear, sequential}
use Rattle.interleaving.specs.Laws.{Cover}
use Rattle.interleaving.specs.Machine.{Start, Finish, has, reply_of, State, opening, happens, run}
use Rattle.interleaving.specs.Gather.{AllDifferent, SideBySide}
use Rattle.interleaving.specs.Rounds.{pending, in_turn}
use Rattle.interleaving.specs.Prefix.{apart_prefix, prefix, prefix_rounds, PrefixRoundsAreSequential, PrefixesAreSideBySide}
use Rattle.interleaving.proofs.Commute.{apart_swap}
use Rattle.interleaving.proofs.Skipping.{clear-tail}
use Rattle.interleaving.proofs.Orders.{before_stepped, reply-here, reply-other}
use Rattle.interleaving.proofs.Members.{has-other, has-cases, pending-in, pending-none}
use Rattle.interleaving.proofs.Onwards.{ran}

-- numbers that count up from d
abbrev pub CountsFrom : ℕ → List ℕ → Type 0
CountsFrom d [] = Unit {0}
CountsFrom d (k ∷ ks) = (k ≡ d) × CountsFrom (suc d) ks

counts-snoc : (d : ℕ) (ks : List ℕ) (n : ℕ) → CountsFrom d ks → n ≡ d + length ks → CountsFrom d (ks ++ (n ∷ []))
counts-snoc d [] n h e = (omega arith, tt)
counts-snoc d (k ∷ ks) n h e = (h.0, counts-snoc (suc d) ks n h.1 (omega arith))

counts-take : (w d : ℕ) (ks : List ℕ) → CountsFrom d ks → CountsFrom d (take w ks)
counts-take zero d ks h = tt
counts-take (suc w) d [] h = tt
counts-take (suc w) d (k ∷ ks) h = (h.0, counts-take w (suc d) ks h.1)

counts-above : (d k : ℕ) (ks : List ℕ) → CountsFrom d ks → has ks k ≡ true → d ≤ k
counts-above d k [] h m = (cc)
counts-above d k (x ∷ ks) h m = grind (arith, counts-above (suc d) k ks h.1)

counts-different : (d : ℕ) (ks : List ℕ) → CountsFrom d ks → AllDifferent ks
counts-different d [] h = tt
counts-different d (k ∷ ks) h = (
  false_from_ne_true (has ks k) (λ f. absurd (omega (arith, counts-above (suc d) k ks h.1 f, h.0))),
  counts-different (suc d) ks h.1,
)

-- where all below d are done and none above, what is pending counts up from d
pending-counts : (done : ℕ → Bool) (d n : ℕ) → ((k : ℕ) → k < d → done k ≡ true) → ((k : ℕ) → d ≤ k → done k ≡ false) → d ≤ n
    → CountsFrom d (pending done n) × (d + length (pending done n) ≡ n)
pending-counts done d zero below above le = (tt, omega arith)
pending-counts done d (suc n) below above le = elim (cases_eq d (suc n)) [
  | inl e ↦ rw (pending-none done (suc n) (λ k lt. below k (omega arith))) (tt, omega arith)
  | inr ne ↦
      let found = pending-counts done d n below above (omega arith) in
      rw (pending-in done n (above n (omega arith)), length-append (pending done n) (n ∷ []))
      (counts-snoc d (pending done n) n found.0 (sym found.1), omega (arith, found.1))
]

-- d places are done, in order
pub record DoneTo (m : System) (d : ℕ) (s : State m) : Type 0 where
  pub below : (k : ℕ) → k < d → has s.finished k ≡ true
  pub above : (k : ℕ) → d ≤ k → has s.finished k ≡ false
  pub world : s.world ≡ sequential m d
  pub kept : (k : ℕ) → k < d → reply_of s.replies k ≡ Some (m.reply k (sequential m k))

module _ (m : System) (laws : Cover m) where
  done_one : (d : ℕ) (s : State m) → DoneTo m d s → DoneTo m (suc d) (happens m (happens m s (Start d)) (Finish d))
  done_one d s c = record {
    below = λ k lt. grind (arith, c.below k);
    above = λ k le. has-other k d s.finished (omega arith) ∙ c.above k (omega arith);
    world = ap (m.step d) c.world;
    kept = λ k lt. elim (cases_eq k d) [
      | inl e ↦ rw e (reply-here d (m.reply d s.world) s.replies ∙ ap (λ t. Some (m.reply d t)) c.world)
      | inr ne ↦ reply-other k d (m.reply d s.world) s.replies ne ∙ c.kept k (omega arith)
    ];
  }

  done_more : (ks : List ℕ) (d : ℕ) (s : State m) → CountsFrom d ks → DoneTo m d s → DoneTo m (d + length ks) (run m s (in_turn ks))
  done_more [] d s h c = subst (λ i. DoneTo m i s) (omega arith) c
  done_more (k ∷ ks) d s h c =
      subst (λ i. DoneTo m i (run m (ran m s k) (in_turn ks))) (omega arith) (done_more ks (suc d) (ran m s k) h.1 (rw h.0 (done_one d s c)))

  prefix-counts : (s : m.World) (fs : List m.Footprint) (d : ℕ) (ks : List ℕ) → CountsFrom d ks → CountsFrom d (apart_prefix m s fs ks)
  prefix-counts s fs d [] h = tt
  prefix-counts s fs d (k ∷ ks) h = elim (cases_Bool (is_clear m (m.foot k s) fs)) [
    | inl e ↦ rw e (h.0, prefix-counts s (m.foot k s ∷ fs) (suc d) ks h.1)
    | inr e ↦ rw e tt
  ]

  prefix-fits : (s : m.World) (fs : List m.Footprint) (ks : List ℕ) → length (apart_prefix m s fs ks) ≤ length ks
  prefix-fits s fs [] = omega arith
  prefix-fits s fs (k ∷ ks) = grind (arith, prefix-fits s (m.foot k s ∷ fs) ks)

  -- a round goes on by one place at least
  prefix-some : (w : ℕ) (s : m.World) (ks : List ℕ) → 1 ≤ w → 1 ≤ length ks → 1 ≤ length (apart_prefix m s [] (take w ks))
  prefix-some zero s ks le some = absurd (omega arith)
  prefix-some (suc w) s [] le some = absurd (omega arith)
  prefix-some (suc w) s (k ∷ ks) le some = omega arith

  one_round : (n w d : ℕ) (s : State m) → DoneTo m d s → d ≤ n
      → (e : ℕ) × DoneTo m e (run m s (in_turn (prefix m n w s))) × (d ≤ e) × (e ≤ n) × (1 ≤ w → d < n → d < e)
  one_round n w d s c le =
      let ps = pending (has s.finished) n in
      let counts = pending-counts (has s.finished) d n c.below c.above le in
      let ks = prefix m n w s in
      let ck : CountsFrom d ks = prefix-counts s.world [] d (take w ps) (counts-take w d ps counts.0) in
      let fits : length ks ≤ length (take w ps) = prefix-fits s.world [] (take w ps) in
      let short : length (take w ps) ≡ min w (length ps) = length-take w ps in
      let total : d + length ps ≡ n = counts.1 in (
        d + length ks,
        done_more ks d s ck c,
        omega arith,
        omega arith,
        λ one lt. let some : 1 ≤ length ks = prefix-some w s.world ps one (omega arith) in omega arith,
      )

  after_prefixes : (n w r d : ℕ) (s : State m) → DoneTo m d s → d ≤ n
      → (e : ℕ) × DoneTo m e (prefix_rounds m n w r s) × (e ≤ n) × (1 ≤ w → n ≤ d + r → e ≡ n)
  after_prefixes n w zero d s c le = (d, c, le, λ one many. omega arith)
  after_prefixes n w (suc r) d s c le =
      let here = one_round n w d s c le in
      let later = after_prefixes n w r here.0 (run m s (in_turn (prefix m n w s))) here.1 here.3 in
      (later.0, later.1, later.2, λ one many. later.3 one (goes (here.4 one) here.2 many))
    where
      goes : {e : ℕ} → (d < n → d < e) → d ≤ e → n ≤ d + suc r → n ≤ e + r
      goes {e} more up many = grind (arith, more)

  done_none : DoneTo m 0 (opening m)
  done_none = record { below = λ k lt. absurd (omega arith); above = λ k le. refl; world = refl; kept = λ k lt. absurd (omega arith) }

  pub prefix_sequential_lem : PrefixRoundsAreSequential m
  prefix_sequential_lem n w r one many =
      let end = after_prefixes n w r 0 (opening m) done_none (omega arith) in
      let whole : end.0 ≡ n = end.3 one (omega arith) in
      let c : DoneTo m n (prefix_rounds m n w r (opening m)) = subst (λ d. DoneTo m d (prefix_rounds m n w r (opening m))) whole end.1 in
      (c.world, c.kept)

  -- each place of a prefix is clear of what stands before it
  prefix-clear : (s : m.World) (fs : List m.Footprint) (ks : List ℕ) (k : ℕ) → has (apart_prefix m s fs ks) k ≡ true → is_clear m (m.foot k s) fs ≡ true
  prefix-clear s fs [] k h = (cc)
  prefix-clear s fs (x ∷ ks) k h = grind (arith, prefix-clear s (m.foot x s ∷ fs) ks k)

  prefix-apart : (s : m.World) (fs : List m.Footprint) (ks : List ℕ) (j k : ℕ) → has (apart_prefix m s fs ks) j ≡ true → has (apart_prefix m s fs ks) k ≡ true
      → j ≢ k → Apart m (m.foot j s) (m.foot k s)
  prefix-apart s fs [] j k hj hk ne = (cc)
  prefix-apart s fs (x ∷ ks) j k hj hk ne = elim (cases_Bool (is_clear m (m.foot x s) fs)) [
    | inl e ↦ elim (has-cases j x rest (rw e at hj)) [
      | inl ej ↦ elim (has-cases k x rest (rw e at hk)) [
        | inl ek ↦ absurd (ne (ej ∙ sym ek))
        | inr gk ↦ rw ej (apart_swap m laws (m.foot k s) (m.foot x s) (apart_first k gk))
      ]
      | inr gj ↦ elim (has-cases k x rest (rw e at hk)) [
        | inl ek ↦ rw ek (apart_first j gj)
        | inr gk ↦ prefix-apart s (m.foot x s ∷ fs) ks j k gj gk ne
      ]
    ]
    | inr e ↦ let none : has [] j ≡ true = rw e at hj in (cc)
  ]
    where
      rest : List ℕ
      rest = apart_prefix m s (m.foot x s ∷ fs) ks

      apart_first : (i : ℕ) → has rest i ≡ true → Apart m (m.foot i s) (m.foot x s)
      apart_first i h = laws.apart_from_collide (m.foot i s) (m.foot x s)
          ((clear-tail m (m.foot i s) (m.foot x s) fs (prefix-clear s (m.foot x s ∷ fs) ks i h)).0)

  prefix_side : (n w d : ℕ) (s : State m) → DoneTo m d s → d ≤ n → SideBySide m s.world (prefix m n w s)
  prefix_side n w d s c le = record {
    different = counts-different d ks counts;
    unused = λ k h. subst (m.Unused k) (sym c.world)
        (laws.before_unused k (sequential m d) ((before_stepped m laws (λ i. false) k d (counts-above d k ks counts h)).1));
    apart = prefix-apart s.world [] (take w ps);
  }
    where
      ps : List ℕ
      ps = pending (has s.finished) n

      ks : List ℕ
      ks = prefix m n w s

      counts : CountsFrom d ks
      counts = prefix-counts s.world [] d (take w ps) (counts-take w d ps ((pending-counts (has s.finished) d n c.below c.above le).0))

  pub prefix_side_lem : PrefixesAreSideBySide m
  prefix_side_lem n w r =
      let end = after_prefixes n w r 0 (opening m) done_none (omega arith) in
      prefix_side n w end.0 (prefix_rounds m n w r (opening m)) end.1 end.2
