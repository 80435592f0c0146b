-- A recording that stands for another gives its places the same roles, but for the numbers of chains.
use Rattle.std.proofs.Common.{◌≡◌, ℕ, zero, suc, ◌+◌, ◌-◌, ◌<◌, ◌≤◌, Bool, true, false, [], ◌∷◌, ◌++◌, length, refl, sym, ap, subst, ◌∙◌, arith, inl, inr}
use Rattle.std.specs.Prelude.{is_err, leb, ◌&&◌}
use Rattle.std.specs.List.{list_any}
use Rattle.std.proofs.lemmas.Bool.{cases_eq, cases_lt}
use Rattle.trace_format.specs.declared.entry.Entry.{Entry}
use Rattle.recording.specs.declared.recording.Recording.{Recording}
use Rattle.recording.specs.Steps.{places}
use Rattle.entry_checks.specs.Check.{check, has, io_drain, skip_success}
use Rattle.chain_plan.specs.Chain.{action_passes, entry_passes, same_record, has_link, is_linked, chain_of, ahead, members, fails_check, role}
use Rattle.chain_plan.specs.Stretch.{IsApart, chains_ahead}
use Rattle.chain_plan.proofs.Walk.{below, below_here, below_other, chain_within}
use Rattle.stream_laws.proofs.Chains.{below_next, below_kept, apart_above, any_same}
use Rattle.stream_laws.specs.Standing.{StandsFor}

-- A place to which none is linked begins a chain.
pub chain_apart : (t : Recording) (n : ℕ) → IsApart t n → chain_of t n ≡ chains_ahead t n
chain_apart t zero apart = refl
chain_apart t (suc k) apart = rw apart refl

ahead_apart : (t : Recording) (n : ℕ) → IsApart t n → ahead t n ≡ 0
ahead_apart t zero apart = refl
ahead_apart t (suc k) apart = rw apart refl

-- A place of a chain as one finds it behind the place before.
chain_linked : (t : Recording) (k : ℕ) → is_linked t k ≡ true → chain_of t (suc k) ≡ chain_of t k
chain_linked t k e = rw e refl

chain_next : (t : Recording) (k : ℕ) → is_linked t k ≡ false → chain_of t (suc k) ≡ suc (chain_of t k)
chain_next t k e = rw e refl

ahead_linked : (t : Recording) (k : ℕ) → is_linked t k ≡ true → ahead t (suc k) ≡ suc (ahead t k)
ahead_linked t k e = rw e refl

ahead_next : (t : Recording) (k : ℕ) → is_linked t k ≡ false → ahead t (suc k) ≡ 0
ahead_next t k e = rw e refl

below_more : (t : Recording) (n c : ℕ) → chain_of t n ≡ c → below t (suc n) c ≡ below t n c ++ n ∷ []
below_more t n c e = subst (λ d. below t (suc n) d ≡ below t n d ++ n ∷ []) e (below_here t n)

module _ {v u : Recording} {first : ℕ} (stands : StandsFor v u first) where
  passes_same : (p : Entry → Bool) (k : ℕ) → first ≤ k → k < places v → entry_passes v p k ≡ entry_passes u p k
  passes_same p k from lt = ap (action_passes p) (stands.steps k from lt)

  linked_same : (k : ℕ) → first ≤ k → suc k < places v → is_linked v k ≡ is_linked u k
  linked_same k from lt =
      let here = stands.steps k from (omega arith) in
      let next = stands.steps (suc k) (omega arith) lt in
      λ i. action_passes has_link (here i) && same_record (here i) (next i)

  -- What holds of the first place, and of each next one, holds of all.
  from_first : (P : ℕ → Type 0) → P first → ((k : ℕ) → first ≤ k → suc k < places v → P k → P (suc k)) → (k : ℕ) → first ≤ k → k < places v → P k
  from_first P start next zero from lt =
      let e : first ≡ 0 = omega arith in
      subst P e start
  from_first P start next (suc k) from lt = elim (cases_eq first (suc k)) [
    | inl e ↦ subst P e start
    | inr ne ↦ next k (omega (arith, ne)) lt (from_first P start next k (omega (arith, ne)) (omega arith))
  ]

  -- The numbers of chains differ by a constant.
  abbrev pub Shifted : ℕ → ℕ → Type 0
  Shifted c d = c + chains_ahead u first ≡ d + chains_ahead v first

  pub chain_shifted : (k : ℕ) → first ≤ k → k < places v → Shifted (chain_of v k) (chain_of u k)
  chain_shifted =
      from_first (λ k. Shifted (chain_of v k) (chain_of u k)) (omega (arith, chain_apart v first stands.apart, chain_apart u first stands.apart_there)) (λ k from lt here. by k here (is_linked v k) refl (sym (linked_same k from lt)))
    where
      by : (k : ℕ) → Shifted (chain_of v k) (chain_of u k) → (b : Bool) → is_linked v k ≡ b → is_linked u k ≡ is_linked v k → Shifted (chain_of v (suc k)) (chain_of u (suc k))
      by k here true e f = omega (arith, here, chain_linked v k e, chain_linked u k (f ∙ e))
      by k here false e f = omega (arith, here, chain_next v k e, chain_next u k (f ∙ e))

  ahead_same : (k : ℕ) → first ≤ k → k < places v → ahead v k ≡ ahead u k
  ahead_same =
      from_first (λ k. ahead v k ≡ ahead u k) (ahead_apart v first stands.apart ∙ sym (ahead_apart u first stands.apart_there)) (λ k from lt here. by k here (is_linked v k) refl (sym (linked_same k from lt)))
    where
      by : (k : ℕ) → ahead v k ≡ ahead u k → (b : Bool) → is_linked v k ≡ b → is_linked u k ≡ is_linked v k → ahead v (suc k) ≡ ahead u (suc k)
      by k here true e f = ahead_linked v k e ∙ ap suc here ∙ sym (ahead_linked u k (f ∙ e))
      by k here false e f = ahead_next v k e ∙ sym (ahead_next u k (f ∙ e))

  -- The head of a chain does not stand before the first place.
  head_within : (k : ℕ) → first ≤ k → k < places v → first + ahead v k ≤ k
  head_within = from_first (λ k. first + ahead v k ≤ k) (omega (arith, ahead_apart v first stands.apart)) (λ k from lt here. by k from here (is_linked v k) refl)
    where
      by : (k : ℕ) → first ≤ k → first + ahead v k ≤ k → (b : Bool) → is_linked v k ≡ b → first + ahead v (suc k) ≤ suc k
      by k from here true e = omega (arith, here, ahead_linked v k e)
      by k from here false e = omega (arith, from, ahead_next v k e)

  pub quiet_same : (k : ℕ) → first ≤ k → k < places v → (p : Entry → Bool) → entry_passes v p (k - ahead v k) ≡ entry_passes u p (k - ahead u k)
  quiet_same k from lt p =
      let within = head_within k from lt in
      passes_same p (k - ahead v k) (omega (arith, within)) (omega (arith, within)) ∙ ap (λ n. entry_passes u p (k - n)) (ahead_same k from lt)

  -- The members of a chain.
  below_same : (c d : ℕ) → Shifted c d → chains_ahead v first ≤ c → (n : ℕ) → n ≤ places v → below v n c ≡ below u n d
  below_same c d shifted late zero le = refl
  below_same c d shifted late (suc n) le = elim (cases_lt n first) [
    | inl lt ↦ below_next v first (suc n) c lt late ∙ sym (below_next u first (suc n) d lt (omega (arith, shifted, late)))
    | inr from ↦
        let here = chain_shifted n from le in
        let rest = below_same c d shifted late n (omega (arith, le)) in
        elim (cases_eq (chain_of v n) c) [
          | inl e ↦ below_more v n c e ∙ ap (λ ks. ks ++ n ∷ []) rest ∙ sym (below_more u n d (omega (arith, here, shifted, e)))
          | inr ne ↦ below_other v n c ne ∙ rest ∙ sym (below_other u n d (λ e. ne (omega (arith, here, shifted, e))))
        ]
  ]

  pub chain_late : (k : ℕ) → first ≤ k → chains_ahead v first ≤ chain_of v k
  chain_late k from = apart_above v first k stands.apart from

  pub members_same : (k : ℕ) → first ≤ k → k < places v → members v (chain_of v k) ≡ members u (chain_of u k)
  members_same k from lt =
      below_same (chain_of v k) (chain_of u k) (chain_shifted k from lt) (chain_late k from) (places v) (omega arith)
      ∙ sym (below_kept u (places v) (places u) (chain_of u k) stands.apart_behind stands.ends (chain_within u k (places v) lt))

  -- A test that both recordings give their entries alike passes for a member of the one chain as for one of the other.
  any_member : (p q : ℕ → Bool) → ((k : ℕ) → first ≤ k → k < places v → p k ≡ q k) → (k : ℕ) → first ≤ k → k < places v
      → list_any p (members v (chain_of v k)) ≡ list_any q (members u (chain_of u k))
  any_member p q same k from lt = any_same v p q (places v) (chain_of v k) (λ j near here. same j (late j here) near) ∙ ap (list_any q) (members_same k from lt)
    where
      late : (j : ℕ) → chain_of v j ≡ chain_of v k → first ≤ j
      late j here = elim (cases_lt j first) [
        | inl early ↦ absurd (omega (arith, here, chain_within v j first early, chain_late k from))
        | inr ge ↦ ge
      ]

  -- The role of a place.
  pub role_same : (k : ℕ) → first ≤ k → k < places v → record (role v k) { chain = chain_of u k } ≡ role u k
  role_same k from lt =
      let ms = members_same k from lt in
      let member = ahead_same k from lt in
      let fails = any_member (entry_passes v (fails_check v)) (entry_passes u (fails_check u)) (λ j late near. fails_same j late near) k from lt in
      let drains = any_member (entry_passes v (λ e. has e.sqe.flags io_drain)) (entry_passes u (λ e. has e.sqe.flags io_drain)) (passes_same (λ e. has e.sqe.flags io_drain)) k from lt in
      let quiet = quiet_same k from lt (λ e. has e.sqe.flags skip_success) in
      λ i. record { chain = chain_of u k; member = member i; length = length (ms i); doomed = leb 2 (length (ms i)) && fails i; quiet = quiet i; barrier = drains i }
    where
      fails_same : (j : ℕ) → first ≤ j → j < places v → entry_passes v (fails_check v) j ≡ entry_passes u (fails_check u) j
      fails_same j late near =
          let there = stands.steps j late near in
          λ i. action_passes (λ e. is_err (check (stands.version i) e)) (there i)
