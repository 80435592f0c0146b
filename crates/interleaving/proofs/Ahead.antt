-- A place that is clear of the may-access sets before it may run ahead of them.
use Rattle.std.proofs.Common.{◌≡◌, ◌≢◌, ℕ, zero, suc, ◌<◌, ◌≤◌, Bool, true, false, if◌then◌else◌, ◌==◌, inl, inr, refl, sym, ◌∙◌, ap, subst, arith}
use Rattle.std.proofs.lemmas.Bool.{cases_Bool}
use Rattle.interleaving.specs.System.{System, Apart, Holds, DifferOnlyBy, stepped, reaches}
use Rattle.interleaving.specs.Laws.{Laws}
use Rattle.interleaving.proofs.Commute.{unless, apart_swap, apart_held, foot_kept, commute}
use Rattle.interleaving.proofs.Skipping.{reaches-out, reaches-in, stepped-none}

-- the places that are done, and one more
abbrev pub adding : (ℕ → Bool) → ℕ → ℕ → Bool
adding done k j = if j == k then true else done j

pub adding-here : (done : ℕ → Bool) (k : ℕ) → adding done k k ≡ true
adding-here done k = grind arith

pub adding-other : (done : ℕ → Bool) (k j : ℕ) → j ≢ k → adding done k j ≡ done j
adding-other done k j ne = grind arith

-- whatever is done is left out
abbrev pub Covers : (ℕ → Bool) → (ℕ → Bool) → Type 0
Covers out done = (i : ℕ) → done i ≡ true → out i ≡ true

pub not_done : (out done : ℕ → Bool) → Covers out done → (i : ℕ) → out i ≡ false → done i ≡ false
not_done out done covers i o = grind (arith, covers i)

-- what holds of a world while the places that aren't done can still run in order
pub record Sound (m : System) (done : ℕ → Bool) (s : m.World) : Type 0 where
  pub world : m.IsWorld s
  pub unused : (j : ℕ) → done j ≡ false → m.Unused j s
  -- whichever of the places before it run first
  pub known : (j : ℕ) → done j ≡ false → (out : ℕ → Bool) → Covers out done → m.Known j (stepped m out s j) (reaches m done s j)

-- a place passes those below n: its step comes before or after theirs
pub record Passes (m : System) (out : ℕ → Bool) (k n : ℕ) (s : m.World) : Type 0 where
  pub world : stepped m out (m.step k s) n ≡ m.step k (stepped m out s n)
  pub foot : m.foot k (stepped m out s n) ≡ m.foot k s
  pub reply : m.reply k (stepped m out s n) ≡ m.reply k s

module _ (m : System) (laws : Laws m) where
  open m use {World, Footprint, Atom, step, reply, foot, reach, value, writes, touches, collide, IsWorld, Unused, Known}

  -- stepping leads to worlds, in which the numbers of other places stay unused
  pub stepped-fine : (out : ℕ → Bool) (s : World) (n : ℕ) → IsWorld s → ((i : ℕ) → i < n → out i ≡ false → Unused i s)
      → IsWorld (stepped m out s n) × ((k : ℕ) → Unused k s → ((i : ℕ) → i < n → out i ≡ false → i ≢ k) → Unused k (stepped m out s n))
  stepped-fine out s zero w u = (w, λ k uk ne. uk)
  stepped-fine out s (suc n) w u =
      let before = stepped-fine out s n w (λ i lt o. u i (omega arith) o) in
      elim (cases_Bool (out n)) [
        | inl e ↦ (rw e before.0, λ k uk ne. rw e (before.1 k uk (λ i lt. ne i (omega arith))))
        | inr e ↦
            let here : Unused n (stepped m out s n) = before.1 n (u n (omega arith) e) (λ i lt o. omega arith) in (
              rw e (laws.step_is_world n (stepped m out s n) before.0 here),
              λ k uk ne. rw e (laws.step_keeps_unused k n (stepped m out s n) before.0 here (before.1 k uk (λ i lt. ne i (omega arith)))
                  (λ same. ne n (omega arith) e (sym same))),
            )
      ]

  module _ (done : ℕ → Bool) (s : World) (sound : Sound m done s) where
    pub known-now : (j : ℕ) → done j ≡ false → Known j s (reaches m done s j)
    known-now j d = subst (λ t. Known j t (reaches m done s j)) (stepped-none m s j) (sound.known j d (λ k. true) (λ i t. refl))

    -- none or some of the earlier places, run in order
    pub fine : (out : ℕ → Bool) → Covers out done → (n : ℕ) → IsWorld (stepped m out s n)
        × ((k : ℕ) → Unused k s → ((i : ℕ) → i < n → out i ≡ false → i ≢ k) → Unused k (stepped m out s n))
    fine out covers n = stepped-fine out s n sound.world (λ i lt o. sound.unused i (not_done out done covers i o))

    pub unused-ahead : (out : ℕ → Bool) → Covers out done → (j n : ℕ) → n ≤ j → done j ≡ false → Unused j (stepped m out s n)
    unused-ahead out covers j n le d = (fine out covers n).1 j (sound.unused j d) (λ i lt o. omega arith)

    holds-from : (out : ℕ → Bool) → Covers out done → (j : ℕ) → done j ≡ false
        → DifferOnlyBy m (reaches m done s j) s (stepped m out s j) → Holds m (reach j s (reaches m done s j)) (foot j (stepped m out s j))
    holds-from out covers j d differ =
        laws.reach_holds_foot j s (stepped m out s j) (reaches m done s j) sound.world ((fine out covers j).0)
        (sound.unused j d) (unused-ahead out covers j j (omega arith) d) (sound.known j d out covers) differ

    pub differ-ahead : (out : ℕ → Bool) → Covers out done → (n : ℕ) → DifferOnlyBy m (reaches m done s n) s (stepped m out s n)
    differ-ahead out covers zero a none = refl
    differ-ahead out covers (suc n) a none = elim (cases_Bool (done n)) [
      | inl d ↦ rw (covers n d) (differ-ahead out covers n a (rw (reaches-out m done s n d) at none))
      | inr d ↦
          let parts = rw (reaches-in m done s n d) at none in
          elim (cases_Bool (out n)) [
            | inl o ↦ rw o (differ-ahead out covers n a parts.1)
            | inr o ↦
                let t = stepped m out s n in
                let holds = holds-from out covers n d (differ-ahead out covers n) in
                let unwritten : writes (foot n t) a ≡ false = unless (writes (foot n t) a) (writes (reach n s (reaches m done s n)) a) (holds.1 a) parts.0 in
                rw o (differ-ahead out covers n a parts.1
                ∙ sym (laws.others_kept n t a ((fine out covers n).0) (unused-ahead out covers n n (omega arith) d) unwritten))
          ]
    ]

    -- the may-access set of a place holds its access set in every world that none or some of the earlier ones leave
    pub holds-ahead : (out : ℕ → Bool) → Covers out done → (j : ℕ) → done j ≡ false
        → Holds m (reach j s (reaches m done s j)) (foot j (stepped m out s j))
    holds-ahead out covers j d = holds-from out covers j d (differ-ahead out covers j)

    pub holds-now : (j : ℕ) → done j ≡ false → Holds m (reach j s (reaches m done s j)) (foot j s)
    holds-now j d = subst (λ t. Holds m (reach j s (reaches m done s j)) (foot j t)) (stepped-none m s j) (holds-ahead (λ k. true) (λ i t. refl) j d)

    -- what is clear of a place's may-access set is apart from its access set to come
    pub apart-ahead : (out : ℕ → Bool) → Covers out done → (f : Footprint) (j : ℕ) → done j ≡ false
        → collide f (reach j s (reaches m done s j)) ≡ false → Apart m f (foot j (stepped m out s j))
    apart-ahead out covers f j d clear =
        apart_held m laws.cover f (reach j s (reaches m done s j)) (foot j (stepped m out s j)) (holds-ahead out covers j d)
        (laws.apart_from_collide f (reach j s (reaches m done s j)) clear)

    pub passes : (out : ℕ → Bool) → Covers out done → (k : ℕ) → done k ≡ false → (n : ℕ) → n ≤ k
        → ((i : ℕ) → i < n → out i ≡ false → collide (foot k s) (reach i s (reaches m done s i)) ≡ false) → Passes m out k n s
    passes out covers k d zero le clear = record { world = refl; foot = refl; reply = refl }
    passes out covers k d (suc n) le clear =
        let before = passes out covers k d n (omega arith) (λ i lt. clear i (omega arith)) in
        elim (cases_Bool (out n)) [
          | inl o ↦ record { world = rw o before.world; foot = rw o before.foot; reply = rw o before.reply }
          | inr o ↦
              let t = stepped m out s n in
              let dn : done n ≡ false = not_done out done covers n o in
              let w : IsWorld t = (fine out covers n).0 in
              let uk : Unused k t = unused-ahead out covers k n (omega arith) d in
              let un : Unused n t = unused-ahead out covers n n (omega arith) dn in
              let apart : Apart m (foot k t) (foot n t) = rw before.foot (apart-ahead out covers (foot k s) n dn (clear n (omega arith) o)) in
              let both = commute m laws.cover k n t w uk un (omega arith) apart in
              record {
                world = rw o (ap (step n) before.world ∙ both.world);
                foot = rw o (foot_kept m laws.cover n k t w un uk (omega arith) (apart_swap m laws.cover (foot k t) (foot n t) apart) ∙ before.foot);
                reply = rw o (both.reply_first ∙ before.reply);
              }
        ]
