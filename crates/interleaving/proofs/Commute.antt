-- Steps whose access sets are apart commute.
use Rattle.std.proofs.Common.{◌≡◌, ◌≢◌, ℕ, Bool, true, false, inl, inr, sym, ◌∙◌, ap, arith}
use Rattle.std.proofs.lemmas.Bool.{cases_Bool}
use Rattle.interleaving.specs.System.{System, AgreeOn, Apart, Holds}
use Rattle.interleaving.specs.Laws.{Cover}
use Rattle.interleaving.specs.Commuting.{ApartCommute}

-- a test that would turn another one is false while that one holds
pub turned : (b c : Bool) → (b ≡ true → c ≡ false) → c ≡ true → b ≡ false
turned b c h t = grind arith

-- a test that would bring another one is false where that one is
pub unless : (b c : Bool) → (b ≡ true → c ≡ true) → c ≡ false → b ≡ false
unless b c h f = grind arith

module _ (m : System) (laws : Cover m) where
  open m use {World, Footprint, Atom, step, reply, foot, value, writes, touches, IsWorld, Unused}

  pub apart_swap : (f g : Footprint) → Apart m f g → Apart m g f
  apart_swap f g h = (h.1, h.0)

  -- what a held access set writes is written by the holder, so apart from the holder is apart from the held
  pub apart_held : (f r g : Footprint) → Holds m r g → Apart m f r → Apart m f g
  apart_held f r g h apart = (
    λ a w. unless (touches g a) (touches r a) (h.0 a) (apart.0 a w),
    λ a w. apart.1 a (h.1 a w),
  )

  -- a step keeps what is apart from its access set
  pub kept_apart : (k : ℕ) (s : World) (g : Footprint) → IsWorld s → Unused k s → Apart m (foot k s) g → AgreeOn m g s (step k s)
  kept_apart k s g w u apart a t =
      sym (laws.others_kept k s a w u (turned (writes (foot k s) a) (touches g a) (apart.0 a) t))

  -- a step that is apart from a place's access set: that place finds what it found before
  module _ (j k : ℕ) (s : World) (w : IsWorld s) (uj : Unused j s) (uk : Unused k s) (ne : j ≢ k) (apart : Apart m (foot j s) (foot k s)) where
    there : IsWorld (step j s)
    there = laws.step_is_world j s w uj

    agree : AgreeOn m (foot k s) s (step j s)
    agree = kept_apart j s (foot k s) w uj apart

    pub unused_kept : Unused k (step j s)
    unused_kept = laws.step_keeps_unused k j s w uj uk (λ e. ne (sym e))

    pub foot_kept : foot k (step j s) ≡ foot k s
    foot_kept = laws.foot_same k s (step j s) w there uk unused_kept agree

    pub reply_kept : reply k (step j s) ≡ reply k s
    reply_kept = laws.reply_same k s (step j s) w there uk unused_kept agree

    pub values_kept : AgreeOn m (foot k s) (step k s) (step k (step j s))
    values_kept = laws.values_same k s (step j s) w there uk unused_kept agree

    both_steps : IsWorld (step k (step j s))
    both_steps = laws.step_is_world k (step j s) there unused_kept

    unwritten_kept : (a : Atom) → writes (foot k s) a ≡ false → value (step k (step j s)) a ≡ value (step j s) a
    unwritten_kept a n = laws.others_kept k (step j s) a there unused_kept (ap (λ f. writes f a) foot_kept ∙ n)

  -- what one of the two writes ends as it leaves it, in either order
  written_first : (j k : ℕ) (s : World) → IsWorld s → Unused j s → Unused k s → j ≢ k → Apart m (foot j s) (foot k s) → Apart m (foot k s) (foot j s)
      → (a : Atom) → writes (foot j s) a ≡ true → value (step k (step j s)) a ≡ value (step j (step k s)) a
  written_first j k s w uj uk ne apart back a wr =
      unwritten_kept j k s w uj uk ne apart a (unless (writes (foot k s) a) (touches (foot k s) a) (laws.writes_touches (foot k s) a) (apart.0 a wr))
      ∙ values_kept k j s w uk uj (λ e. ne (sym e)) back a (laws.writes_touches (foot j s) a wr)

  pub commute : ApartCommute m
  commute j k s w uj uk ne apart = record {
    world = laws.same_world (step k (step j s)) (step j (step k s)) (both_steps j k s w uj uk ne apart) (both_steps k j s w uk uj turn back) same_values;
    reply_first = reply_kept k j s w uk uj turn back;
    reply_second = reply_kept j k s w uj uk ne apart;
  }
    where
      turn : k ≢ j
      turn e = ne (sym e)

      back : Apart m (foot k s) (foot j s)
      back = apart_swap (foot j s) (foot k s) apart

      same_values : (a : Atom) → value (step k (step j s)) a ≡ value (step j (step k s)) a
      same_values a = elim (cases_Bool (writes (foot j s) a)) [
        | inl wj ↦ written_first j k s w uj uk ne apart back a wj
        | inr nj ↦ elim (cases_Bool (writes (foot k s) a)) [
          | inl wk ↦ sym (written_first k j s w uk uj turn back apart a wk)
          | inr nk ↦
              unwritten_kept j k s w uj uk ne apart a nk ∙ laws.others_kept j s a w uj nj
              ∙ sym (unwritten_kept k j s w uk uj turn back a nj ∙ laws.others_kept k s a w uk nk)
        ]
      ]
