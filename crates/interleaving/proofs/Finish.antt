-- A place that is clear of the may-access sets before it finishes: the rest still runs to the same end.
use Rattle.std.proofs.Common.{◌≡◌, ◌≢◌, ℕ, zero, suc, ◌<◌, ◌≤◌, Bool, true, false, if◌then◌else◌, ◌==◌, ◌⊎◌, inl, inr, refl, sym, ◌∙◌, ap, subst, arith}
use Rattle.std.proofs.lemmas.Bool.{cases_Bool, cases_eq}
use Rattle.interleaving.specs.System.{System, Apart, Holds, DifferOnlyBy, stepped, reaches, is_clear, Thinner}
use Rattle.interleaving.specs.Laws.{Laws}
use Rattle.interleaving.proofs.Commute.{unless, apart_swap, apart_held, kept_apart, foot_kept, reply_kept}
use Rattle.interleaving.proofs.Skipping.{stepped-same, stepped-none, clear-of, unwritten-of, thinner-refl, clear-thinner}
use Rattle.interleaving.proofs.Ahead.{adding, adding-here, adding-other, Covers, not_done, Sound, Passes, known-now, fine, unused-ahead, holds-now, differ-ahead, apart-ahead, passes}

-- one of two different numbers is below the other
pub apart_numbers : (j k : ℕ) → j ≢ k → (j < k) ⊎ (k < j)
apart_numbers j k ne = grind arith

-- whoever isn't done after one more place is another place
pub not_added : (done : ℕ → Bool) (k j : ℕ) → adding done k j ≡ false → (j ≢ k) × (done j ≡ false)
not_added done k j o = grind arith

covers_before : (done : ℕ → Bool) (k : ℕ) (out : ℕ → Bool) → Covers out (adding done k) → Covers out done
covers_before done k out covers i d = covers i (grind arith)

-- without one place
abbrev pub removing : (ℕ → Bool) → ℕ → ℕ → Bool
removing out k j = if j == k then false else out j

removing-here : (out : ℕ → Bool) (k : ℕ) → removing out k k ≡ false
removing-here out k = grind arith

removing-other : (out : ℕ → Bool) (k j : ℕ) → j ≢ k → removing out k j ≡ out j
removing-other out k j ne = grind arith

module _ (m : System) (laws : Laws m) (done : ℕ → Bool) (s : m.World) (sound : Sound m done s)
    (k : ℕ) (open_k : done k ≡ false) (clear : is_clear m (m.foot k s) (reaches m done s k) ≡ true) where
  open m use {World, Footprint, Atom, step, reply, foot, reach, value, writes, touches, collide, IsWorld, Unused, Known}

  clear_of : (i : ℕ) → i < k → done i ≡ false → collide (foot k s) (reach i s (reaches m done s i)) ≡ false
  clear_of i lt d = clear-of m (foot k s) done s k clear i lt d

  -- the place passes all that come before it
  pub passes_to : (out : ℕ → Bool) → Covers out done → (n : ℕ) → n ≤ k → Passes m out k n s
  passes_to out covers n le =
      passes m laws done s sound out covers k open_k n le (λ i lt o. clear_of i (omega arith) (not_done out done covers i o))

  -- once it has passed them it stands where it was recorded
  pub passes_all : (out rest : ℕ → Bool) → Covers out done → out k ≡ true → rest k ≡ false → ((i : ℕ) → i ≢ k → out i ≡ rest i)
      → (n : ℕ) → k < n → stepped m out (step k s) n ≡ stepped m rest s n
  passes_all out rest covers ok rk same zero lt = absurd (omega arith)
  passes_all out rest covers ok rk same (suc n) lt = elim (cases_eq n k) [
    | inl e ↦ rw (e, ok, rk) ((passes_to out covers k (omega arith)).world ∙ ap (step k) (stepped-same m out rest s k (λ i less. same i (omega arith))))
    | inr ne ↦ rw (same n ne, passes_all out rest covers ok rk same n (omega arith))
  ]

  not_this : (i : ℕ) → done i ≡ true → i ≢ k
  not_this i d e = grind arith

  world_after : IsWorld (step k s)
  world_after = laws.step_is_world k s sound.world (sound.unused k open_k)

  unused_after : (j : ℕ) → adding done k j ≡ false → Unused j (step k s)
  unused_after j o =
      let other = not_added done k j o in
      laws.step_keeps_unused j k s sound.world (sound.unused k open_k) (sound.unused j other.1) other.0

  -- a later place knows what it looks up when this one has run
  known_behind : (n : ℕ) → k < n → done n ≡ false → Known n (step k s) (reaches m done s n)
  known_behind n lt d =
      let rest = removing (λ i. true) k in
      let others : (i : ℕ) → i ≢ k → rest i ≡ true = removing-other (λ i. true) k in
      let only_this = passes_all (λ i. true) rest (λ i e. refl) refl (removing-here (λ i. true) k) (λ i ne. sym (others i ne)) n lt in
      subst (λ t. Known n t (reaches m done s n)) (sym only_this ∙ stepped-none m (step k s) n) (sound.known n d rest (λ i e. others i (not_this i e)))

  -- the may-access set of an earlier place stays as it was
  reach_before : (n : ℕ) → n < k → done n ≡ false → reach n (step k s) (reaches m done s n) ≡ reach n s (reaches m done s n)
  reach_before n lt d =
      let r = reach n s (reaches m done s n) in
      laws.reach_same n s (step k s) (reaches m done s n) sound.world world_after (sound.unused n d) (unused_after n (adding-other done k n (omega arith) ∙ d))
      (known-now m laws done s sound n d)
      (kept_apart m laws.cover k s r sound.world (sound.unused k open_k) (laws.apart_from_collide (foot k s) r (clear_of n lt d)))

  -- the may-access sets before the place stay as they were
  pub reaches_before : (n : ℕ) → n ≤ k → reaches m (adding done k) (step k s) n ≡ reaches m done s n
  reaches_before zero le = refl
  reaches_before (suc n) le = elim (cases_Bool (done n)) [
    | inl d ↦ rw (adding-other done k n (omega arith), d) (reaches_before n (omega arith))
    | inr d ↦ rw (adding-other done k n (omega arith), d, reaches_before n (omega arith), reach_before n (omega arith) d)
  ]

  -- the step changes nothing but what the place's may-access set writes
  differ_by_reaches : (n : ℕ) → k < n → DifferOnlyBy m (reaches m done s n) s (step k s)
  differ_by_reaches n lt a none =
      let unwritten : writes (foot k s) a ≡ false =
      unless (writes (foot k s) a) (writes (reach k s (reaches m done s k)) a) ((holds-now m laws done s sound k open_k).1 a)
      (unwritten-of m a done s n none k lt open_k) in
      sym (laws.others_kept k s a sound.world (sound.unused k open_k) unwritten)

  -- and those behind it only lose
  pub reaches_behind : (n : ℕ) → k < n → Thinner m (reaches m (adding done k) (step k s) n) (reaches m done s n)
  reaches_behind zero lt = absurd (omega arith)
  reaches_behind (suc n) lt = elim (cases_eq n k) [
    | inl e ↦
        let rs = reaches m done s k in
        rw (e, adding-here done k, open_k, reaches_before k (omega arith)) (Thinner.drop (reach k s rs) rs rs (thinner-refl m rs))
    | inr ne ↦
        let thin = reaches_behind n (omega arith) in
        let t = step k s in
        elim (cases_Bool (done n)) [
          | inl d ↦ rw (adding-other done k n ne, d) thin
          | inr d ↦
              let qs = reaches m (adding done k) t n in
              let rs = reaches m done s n in
              rw (adding-other done k n ne, d) (Thinner.keep (reach n t qs) (reach n s rs) qs rs
              (laws.reach_holds_reach n s t rs qs sound.world world_after (sound.unused n d) (unused_after n (adding-other done k n ne ∙ d))
              (known_behind n (omega arith) d) (differ_by_reaches n (omega arith)) thin) thin)
        ]
  ]

  -- an earlier place looks up what it did
  known_ahead : (out : ℕ → Bool) → Covers out done → (j : ℕ) → j < k → done j ≡ false
      → Known j (step k (stepped m out s j)) (reaches m done s j)
  known_ahead out covers j lt d =
      let t = stepped m out s j in
      let rs = reaches m done s j in
      let w : IsWorld t = (fine m laws done s sound out covers j).0 in
      let uk : Unused k t = unused-ahead m laws done s sound out covers k j (omega arith) open_k in
      let uj : Unused j t = unused-ahead m laws done s sound out covers j j (omega arith) d in
      let known : Known j t rs = sound.known j d out covers in
      let holds : Holds m (reach j s rs) (reach j t rs) =
      laws.reach_holds_reach j s t rs rs sound.world w (sound.unused j d) uj known
      (differ-ahead m laws done s sound out covers j) (thinner-refl m rs) in
      let apart : Apart m (foot k t) (reach j t rs) = rw ((passes_to out covers j (omega arith)).foot)
      (apart_held m laws.cover (foot k s) (reach j s rs) (reach j t rs) holds (laws.apart_from_collide (foot k s) (reach j s rs) (clear_of j lt d))) in
      laws.known_same j t (step k t) rs w (laws.step_is_world k t w uk) uj (laws.step_keeps_unused j k t w uk uj (omega arith)) known
      (kept_apart m laws.cover k t (reach j t rs) w uk apart)

  known_after : (j : ℕ) → adding done k j ≡ false → (out : ℕ → Bool) → Covers out (adding done k)
      → Known j (stepped m out (step k s) j) (reaches m (adding done k) (step k s) j)
  known_after j o out covers =
      let other = not_added done k j o in
      let before = covers_before done k out covers in
      elim (apart_numbers j k other.0) [
        | inl lt ↦ rw ((passes_to out before j (omega arith)).world, reaches_before j (omega arith)) (known_ahead out before j lt other.1)
        | inr lt ↦
            let rest = removing out k in
            rw (passes_all out rest before (covers k (adding-here done k)) (removing-here out k) (λ i ne. sym (removing-other out k i ne)) j lt)
            (laws.known_thinner j (stepped m rest s j) (reaches m done s j) (reaches m (adding done k) (step k s) j) (reaches_behind j lt)
            (sound.known j other.1 rest (λ i e. removing-other out k i (not_this i e) ∙ before i e)))
      ]

  pub sound_after : Sound m (adding done k) (step k s)
  sound_after = record { world = world_after; unused = unused_after; known = known_after }

  module _ (j : ℕ) (ne : j ≢ k) (open_j : done j ≡ false) (clear_j : is_clear m (foot j s) (reaches m done s j) ≡ true) where
    -- two places that are both clear are apart
    pub clear_apart : Apart m (foot k s) (foot j s)
    clear_apart = elim (apart_numbers j k ne) [
      | inl lt ↦ apart_now (foot k s) j open_j (clear_of j lt open_j)
      | inr lt ↦ apart_swap m laws.cover (foot j s) (foot k s) (apart_now (foot j s) k open_k (clear-of m (foot j s) done s j clear_j k lt open_k))
    ]
      where
        apart_now : (f : Footprint) (i : ℕ) → done i ≡ false → collide f (reach i s (reaches m done s i)) ≡ false → Apart m f (foot i s)
        apart_now f i d c =
            apart_held m laws.cover f (reach i s (reaches m done s i)) (foot i s) (holds-now m laws done s sound i d)
            (laws.apart_from_collide f (reach i s (reaches m done s i)) c)

    pub foot_after : foot j (step k s) ≡ foot j s
    foot_after = foot_kept m laws.cover k j s sound.world (sound.unused k open_k) (sound.unused j open_j) (λ e. ne (sym e)) clear_apart

    -- and each stays clear when the other has finished
    pub clear_after : is_clear m (foot j (step k s)) (reaches m (adding done k) (step k s) j) ≡ true
    clear_after = rw foot_after (elim (apart_numbers j k ne) [
      | inl lt ↦ rw (reaches_before j (omega arith)) clear_j
      | inr lt ↦ clear-thinner m laws (foot j s) (reaches m done s j) (reaches m (adding done k) (step k s) j) (reaches_behind j lt) clear_j
    ])

  -- the places that are still to run end where they would have ended
  pub end_after : (n : ℕ) → k < n → stepped m (adding done k) (step k s) n ≡ stepped m done s n
  end_after n lt = passes_all (adding done k) done (λ i d. grind arith) (adding-here done k) open_k (λ i ne. adding-other done k i ne) n lt

  -- its reply is the one that it has where it was recorded
  pub reply_ahead : reply k s ≡ reply k (stepped m done s k)
  reply_ahead = sym ((passes_to done (λ i d. d) k (omega arith)).reply)

  -- and so is that of each place that is still to run
  pub reply_after : (j : ℕ) → adding done k j ≡ false → reply j (stepped m (adding done k) (step k s) j) ≡ reply j (stepped m done s j)
  reply_after j o =
      let other = not_added done k j o in
      elim (apart_numbers j k other.0) [
        | inl lt ↦
            let t = stepped m done s j in
            let all : Covers done done = λ i e. e in
            let passed = passes_to done all j (omega arith) in
            ap (reply j) (stepped-same m (adding done k) done (step k s) j (λ i less. adding-other done k i (omega arith)) ∙ passed.world)
            ∙ reply_kept m laws.cover k j t ((fine m laws done s sound done all j).0) (unused-ahead m laws done s sound done all k j (omega arith) open_k)
            (unused-ahead m laws done s sound done all j j (omega arith) other.1) (omega arith)
            (rw passed.foot (apart-ahead m laws done s sound done all (foot k s) j other.1 (clear_of j lt other.1)))
        | inr lt ↦ ap (reply j) (end_after j lt)
      ]

  -- no may-access set holds what it didn't hold before
  pub holds_after : (j : ℕ) → adding done k j ≡ false
      → Holds m (reach j s (reaches m done s j)) (reach j (step k s) (reaches m (adding done k) (step k s) j))
  holds_after j o =
      let other = not_added done k j o in
      let rs = reaches m done s j in
      elim (apart_numbers j k other.0) [
        | inl lt ↦ rw (reaches_before j (omega arith), reach_before j lt other.1) ((λ a w. w), (λ a w. w))
        | inr lt ↦ laws.reach_holds_reach j s (step k s) rs (reaches m (adding done k) (step k s) j) sound.world world_after (sound.unused j other.1)
            (unused_after j o) (known_behind j lt other.1) (differ_by_reaches j lt) (reaches_behind j lt)
      ]
