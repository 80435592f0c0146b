-- Places that run side by side, gathered.
use Rattle.std.proofs.Common.{Bool, ◌≡◌, ◌≢◌, ℕ, true, false, if◌then◌else◌, List, [], ◌∷◌, map, ◌⊎◌, inl, inr, refl, sym, ◌∙◌, arith}
use Rattle.std.proofs.lemmas.Bool.{cases_Bool, cases_eq}
use Rattle.interleaving.specs.System.{System, AgreeOn, Apart}
use Rattle.interleaving.specs.Laws.{Cover}
use Rattle.interleaving.specs.Machine.{has}
use Rattle.interleaving.specs.Gather.{SideBySide, in_order, replies_in_order, Gathered, GatherIsInOrder, PutIsStep, PutFills, puts, PutsAreInOrder, OrderIsFree}
use Rattle.interleaving.proofs.Commute.{turned, unless, unused_kept, foot_kept, reply_kept, values_kept}
use Rattle.interleaving.proofs.Members.{has-here, has-other, has-later, has-different}

-- one of the places passes the test, or none does
some_or_none : (p : ℕ → Bool) (ks : List ℕ) → ((k : ℕ) × (has ks k ≡ true) × (p k ≡ true)) ⊎ ((k : ℕ) → has ks k ≡ true → p k ≡ false)
some_or_none p [] = inr (λ k h. (cc))
some_or_none p (k ∷ ks) = elim (cases_Bool (p k)) [
  | inl passes ↦ inl (k, has-here k ks, passes)
  | inr fails ↦ elim (some_or_none p ks) [
    | inl found ↦ inl (found.0, has-later found.0 k ks found.1, found.2)
    | inr none ↦ inr (λ j h. grind (arith, none j))
  ]
]

module _ (m : System) (laws : Cover m) where
  open m use {World, Atom, step, reply, foot, value, writes, touches, IsWorld, Unused}

  -- those behind the first, in the world where all began
  side_tail : (s : World) (k : ℕ) (ks : List ℕ) → SideBySide m s (k ∷ ks) → SideBySide m s ks
  side_tail s k ks side = record {
    different = side.different.1;
    unused = λ j h. side.unused j (has-later j k ks h);
    apart = λ i j hi hj. side.apart i j (has-later i k ks hi) (has-later j k ks hj);
  }

  module _ (s : World) (w : IsWorld s) (k : ℕ) (ks : List ℕ) (side : SideBySide m s (k ∷ ks)) where
    head_unused : Unused k s
    head_unused = side.unused k (has-here k ks)

    head_world : IsWorld (step k s)
    head_world = laws.step_is_world k s w head_unused

    module _ (j : ℕ) (h : has ks j ≡ true) where
      head_other : k ≢ j
      head_other e = has-different j k ks side.different.0 h (sym e)

      head_apart : Apart m (foot k s) (foot j s)
      head_apart = side.apart k j (has-here k ks) (has-later j k ks h) head_other

      tail_unused : Unused j s
      tail_unused = side.unused j (has-later j k ks h)

      tail_foot : foot j (step k s) ≡ foot j s
      tail_foot = foot_kept m laws k j s w head_unused tail_unused head_other head_apart

      tail_reply : reply j (step k s) ≡ reply j s
      tail_reply = reply_kept m laws k j s w head_unused tail_unused head_other head_apart

      -- what a later place writes is what it would have written before
      tail_values : AgreeOn m (foot j s) (step j s) (step j (step k s))
      tail_values = values_kept m laws k j s w head_unused tail_unused head_other head_apart

    tail_side : SideBySide m (step k s) ks
    tail_side = record {
      different = side.different.1;
      unused = λ j h. unused_kept m laws k j s w head_unused (tail_unused j h) (head_other j h) (head_apart j h);
      apart = λ i j hi hj ne. rw (tail_foot i hi, tail_foot j hj) ((side_tail s k ks side).apart i j hi hj ne);
    }

  pub in_order_world : (s : World) (ks : List ℕ) → IsWorld s → SideBySide m s ks → IsWorld (in_order m s ks)
  in_order_world s [] w side = w
  in_order_world s (k ∷ ks) w side = in_order_world (step k s) ks (head_world s w k ks side) (tail_side s w k ks side)

  -- replies at the start
  replies_same : (s t : World) (ks : List ℕ) → ((j : ℕ) → has ks j ≡ true → reply j t ≡ reply j s) → map (λ k. reply k t) ks ≡ map (λ k. reply k s) ks
  replies_same s t [] h = refl
  replies_same s t (k ∷ ks) h = rw (h k (has-here k ks), replies_same s t ks (λ j hj. h j (has-later j k ks hj)))

  pub replies_at_start : (s : World) (ks : List ℕ) → IsWorld s → SideBySide m s ks → replies_in_order m s ks ≡ map (λ k. reply k s) ks
  replies_at_start s [] w side = refl
  replies_at_start s (k ∷ ks) w side =
      rw (replies_at_start (step k s) ks (head_world s w k ks side) (tail_side s w k ks side), replies_same s (step k s) ks (tail_reply s w k ks side))

  rest_kept : (s : World) (ks : List ℕ) → IsWorld s → SideBySide m s ks → (a : Atom)
      → ((k : ℕ) → has ks k ≡ true → writes (foot k s) a ≡ false) → value (in_order m s ks) a ≡ value s a
  rest_kept s [] w side a none = refl
  rest_kept s (k ∷ ks) w side a none =
      rest_kept (step k s) ks (head_world s w k ks side) (tail_side s w k ks side) a (λ j h. rw (tail_foot s w k ks side j h) (none j (has-later j k ks h)))
      ∙ laws.others_kept k s a w (head_unused s w k ks side) (none k (has-here k ks))

  written : (s : World) (ks : List ℕ) → IsWorld s → SideBySide m s ks → (j : ℕ) → has ks j ≡ true → (a : Atom)
      → writes (foot j s) a ≡ true → value (in_order m s ks) a ≡ value (step j s) a
  written s [] w side j h a wr = (cc)
  written s (k ∷ ks) w side j h a wr = elim (cases_eq j k) [
    | inl e ↦ rw e (rest_kept (step k s) ks (head_world s w k ks side) (tail_side s w k ks side) a (λ i hi. rw (tail_foot s w k ks side i hi)
        (unless (writes (foot i s) a) (touches (foot i s) a) (laws.writes_touches (foot i s) a) ((head_apart s w k ks side i hi).0 a (rw e at wr)))))
    | inr ne ↦
        let hj : has ks j ≡ true = sym (has-other j k ks ne) ∙ h in
        written (step k s) ks (head_world s w k ks side) (tail_side s w k ks side) j hj a (rw (tail_foot s w k ks side j hj) wr)
        ∙ sym (tail_values s w k ks side j hj a (laws.writes_touches (foot j s) a wr))
  ]

  gathered_once : (s t u : World) (ks : List ℕ) → IsWorld t → IsWorld u → Gathered m s ks t → Gathered m s ks u → t ≡ u
  gathered_once s t u ks wt wu gt gu = laws.same_world t u wt wu (λ a. elim (some_or_none (λ k. writes (foot k s) a) ks) [
    | inl found ↦ gt.0 found.0 found.1 a found.2 ∙ sym (gu.0 found.0 found.1 a found.2)
    | inr none ↦ gt.1 a none ∙ sym (gu.1 a none)
  ])

  pub gather_lem : GatherIsInOrder m
  gather_lem s ks w side =
      let end = in_order_world s ks w side in
      let gathered : Gathered m s ks (in_order m s ks) = (written s ks w side, rest_kept s ks w side) in
      (end, replies_at_start s ks w side, gathered, λ t wt gt. gathered_once s t (in_order m s ks) ks wt end gt gathered)

  pub order_is_free_lem : OrderIsFree m
  order_is_free_lem s js ks w side_j side_k same =
      (gather_lem s ks w side_k).3 (in_order m s js) (in_order_world s js w side_j) (
        λ k h. written s js w side_j k (same k ∙ h),
        λ a none. rest_kept s js w side_j a (λ k h. none k (sym (same k) ∙ h)),
      )

  unused_after_all : (s : World) (ks : List ℕ) → IsWorld s → SideBySide m s ks → (k : ℕ) → Unused k s → has ks k ≡ false → Unused k (in_order m s ks)
  unused_after_all s [] w side k u out = u
  unused_after_all s (j ∷ ks) w side k u out = unused_after_all (step j s) ks (head_world s w j ks side) (tail_side s w j ks side) k
      (laws.step_keeps_unused k j s w (head_unused s w j ks side) u (λ e. absurd (grind arith))) (grind arith)

  -- the step of the first, taken after the others
  module _ (s : World) (ks : List ℕ) (k : ℕ) (w : IsWorld s) (side : SideBySide m s (k ∷ ks)) where
    others_world : IsWorld (in_order m s ks)
    others_world = in_order_world s ks w (side_tail s k ks side)

    others_unused : Unused k (in_order m s ks)
    others_unused = unused_after_all s ks w (side_tail s k ks side) k (head_unused s w k ks side) side.different.0

    -- it finds in its access set after the others what it finds before them
    others_agree : AgreeOn m (foot k s) s (in_order m s ks)
    others_agree a t = sym (rest_kept s ks w (side_tail s k ks side) a
        (λ j h. turned (writes (foot j s) a) (touches (foot k s) a) ((head_apart s w k ks side j h).1 a) t))

    last_world : IsWorld (step k (in_order m s ks))
    last_world = laws.step_is_world k (in_order m s ks) others_world others_unused

    last_values : AgreeOn m (foot k s) (step k s) (step k (in_order m s ks))
    last_values = laws.values_same k s (in_order m s ks) w others_world (head_unused s w k ks side) others_unused others_agree

    last_keeps : (a : Atom) → writes (foot k s) a ≡ false → value (step k (in_order m s ks)) a ≡ value (in_order m s ks) a
    last_keeps a n = laws.others_kept k (in_order m s ks) a others_world others_unused
        (rw (laws.foot_same k s (in_order m s ks) w others_world (head_unused s w k ks side) others_unused others_agree) n)

    last_writes : (a : Atom) → writes (foot k s) a ≡ true → value (step k (in_order m s ks)) a ≡ value (step k s) a
    last_writes a wr = sym (last_values a (laws.writes_touches (foot k s) a wr))

  pub put_is_step_lem : PutIsStep m
  put_is_step_lem s ks k w side = (
    last_world s ks k w side,
    (last_writes s ks k w side, last_keeps s ks k w side),
    λ u wu puts. laws.same_world u (step k (in_order m s ks)) wu (last_world s ks k w side) (λ a. elim (cases_Bool (writes (foot k s) a)) [
      | inl wr ↦ puts.0 a wr ∙ sym (last_writes s ks k w side a wr)
      | inr wr ↦ puts.1 a wr ∙ sym (last_keeps s ks k w side a wr)
    ]),
  )

  pub put_fills_lem : PutFills m
  put_fills_lem s ks out k taken v w ws side writes_taken taken_touches before own_part rest a free = elim (cases_Bool (taken k a)) [
    | inl yes_k ↦ own_part a yes_k ∙ last_values s ks k ws side a (taken_touches a yes_k)
    | inr no_k ↦
        rest a no_k ∙ before a (λ j h. grind (arith, free j))
        ∙ sym (last_keeps s ks k ws side a (unless (writes (foot k s) a) (taken k a) (writes_taken a) no_k))
  ]

  -- what a place touches ends as its own step leaves it
  pub touched_end : (s : World) (ks : List ℕ) → IsWorld s → SideBySide m s ks → (k : ℕ) → has ks k ≡ true → (a : Atom) → touches (foot k s) a ≡ true
      → value (step k s) a ≡ value (in_order m s ks) a
  touched_end s ks w side k h a t = elim (cases_Bool (writes (foot k s) a)) [
    | inl wr ↦ sym (written s ks w side k h a wr)
    | inr nw ↦ laws.others_kept k s a w (side.unused k h) nw ∙ sym (rest_kept s ks w side a (λ j hj. elim (cases_eq j k) [
      | inl e ↦ rw e nw
      | inr ne ↦ turned (writes (foot j s) a) (touches (foot k s) a) ((side.apart j k hj h ne).0 a) t
    ]))
  ]

  -- each put brings its atoms to their end
  puts_end : (taken : ℕ → Atom → Bool) (s : World) (ks : List ℕ) (v : (b : Atom) → m.Value b) (a : Atom) (end : m.Value a)
      → ((k : ℕ) → has ks k ≡ true → taken k a ≡ true → value (step k s) a ≡ end)
      → (v a ≡ end) ⊎ ((k : ℕ) × (has ks k ≡ true) × (taken k a ≡ true)) → puts m taken s ks v a ≡ end
  puts_end taken s [] v a end ends (inl e) = e
  puts_end taken s [] v a end ends (inr found) = let none : has [] found.0 ≡ true = found.1 in (cc)
  puts_end taken s (k ∷ ks) v a end ends start =
      puts_end taken s ks (λ b. if taken k b then value (step k s) b else v b) a end (λ j h. ends j (has-later j k ks h)) (elim (cases_Bool (taken k a)) [
        | inl t ↦ inl (rw t (ends k (has-here k ks) t))
        | inr n ↦ elim start [
          | inl e ↦ inl (rw n e)
          | inr found ↦ inr (found.0, grind arith, found.2)
        ]
      ])

  pub puts_in_order_lem : PutsAreInOrder m
  puts_in_order_lem s ks taken v w side writes_taken taken_touches before a =
      puts_end taken s ks v a (value (in_order m s ks) a) (λ k h t. touched_end s ks w side k h a (taken_touches k a h t))
      (elim (some_or_none (λ k. taken k a) ks) [
        | inl found ↦ inr found
        | inr free ↦ inl (before a free
            ∙ sym (rest_kept s ks w side a (λ k h. unless (writes (foot k s) a) (taken k a) (writes_taken k a h) (free k h))))
      ])
