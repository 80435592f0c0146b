-- Every legal and complete list of events gives what one place at a time gives.
use Rattle.std.proofs.Common.{◌≡◌, ◌≢◌, ℕ, zero, suc, ◌<◌, ◌≤◌, Bool, true, false, List, [], ◌∷◌, ◌++◌, Some, inl, inr, refl, sym, ◌∙◌, ap, arith}
use Rattle.std.proofs.lemmas.Bool.{cases_Bool, cases_eq, true_from_ne_false, both_ways}
use Rattle.interleaving.specs.System.{System, Holds, stepped, reaches, sequential}
use Rattle.interleaving.specs.Laws.{Cover, Laws}
use Rattle.interleaving.specs.Machine.{Event, Start, Finish, has, reply_of, State, opening, happens, run, is_free, IsLegal, AllLegal, IsComplete, IsSequential, EveryOrder, KeepsOrder, ReachesHold, ReachesShrink}
use Rattle.interleaving.proofs.Skipping.{stepped-same, stepped-none, clear-of}
use Rattle.interleaving.proofs.Ahead.{adding-other, Sound, holds-ahead}
use Rattle.interleaving.proofs.Finish.{not_added, sound_after, clear_after, end_after, reply_ahead, reply_after, holds_after}

-- what is kept from event to event
pub record OnCourse (m : System) (n : ℕ) (s : State m) : Type 0 where
  pub sound : Sound m (has s.finished) s.world
  -- whatever has started and not finished is free
  pub free : (k : ℕ) → has s.started k ≡ true → has s.finished k ≡ false → (k < n) × (is_free m s k ≡ true)
  -- the rest, run in order, ends as it should
  pub end : stepped m (has s.finished) s.world n ≡ sequential m n
  pub to_come : (j : ℕ) → has s.finished j ≡ false → m.reply j (stepped m (has s.finished) s.world j) ≡ m.reply j (sequential m j)
  pub kept : (j : ℕ) → has s.finished j ≡ true → reply_of s.replies j ≡ Some (m.reply j (sequential m j))

pub reply-here : {R : Type 0} (k : ℕ) (r : R) (ps : List (ℕ × R)) → reply_of ((k, r) ∷ ps) k ≡ Some r
reply-here k r ps = grind arith

pub reply-other : {R : Type 0} (j k : ℕ) (r : R) (ps : List (ℕ × R)) → j ≢ k → reply_of ((k, r) ∷ ps) j ≡ reply_of ps j
reply-other j k r ps ne = grind arith

module _ (m : System) (laws : Cover m) where
  pub before_stepped : (out : ℕ → Bool) (j n : ℕ) → n ≤ j → m.IsWorld (stepped m out m.start n) × m.IsBefore j (stepped m out m.start n)
  before_stepped out j zero le = (laws.start_is_world, laws.start_is_before j)
  before_stepped out j (suc n) le =
      let b = before_stepped out j n (omega arith) in
      let t = stepped m out m.start n in
      let u : m.Unused n t = laws.before_unused n t ((before_stepped out n n (omega arith)).1) in
      elim (cases_Bool (out n)) [
        | inl o ↦ rw o b
        | inr o ↦ rw o (laws.step_is_world n t b.0 u, laws.step_is_before j n t b.0 u le b.1)
      ]

module _ (m : System) (laws : Laws m) where
  pub sound_at_start : Sound m (λ k. false) m.start
  sound_at_start = record {
    world = laws.start_is_world;
    unused = λ j d. laws.before_unused j m.start (laws.start_is_before j);
    known = λ j d out covers.
        let b = before_stepped m laws.cover out j j (omega arith) in
        laws.before_known j (stepped m out m.start j) (reaches m (λ k. false) m.start j) b.0 b.1;
  }

  pub on_course_at_start : (n : ℕ) → OnCourse m n (opening m)
  on_course_at_start n = record {
    sound = sound_at_start;
    free = λ k st fin. (cc);
    end = refl;
    to_come = λ j d. refl;
    kept = λ j d. (cc);
  }

  pub on_course_next : (n : ℕ) (s : State m) (e : Event) → OnCourse m n s → IsLegal m n s e → OnCourse m n (happens m s e)
  on_course_next n s (Start k) c legal = record {
    sound = c.sound;
    free = λ j st fin. elim (cases_eq j k) [
      | inl e ↦ rw e (legal.0, legal.2)
      | inr ne ↦ c.free j (sym (adding-other (has s.started) k j ne) ∙ st) fin
    ];
    end = c.end;
    to_come = c.to_come;
    kept = c.kept;
  }
  on_course_next n s (Finish k) c legal = record {
    sound = sound_after m laws done s.world c.sound k legal.1 free.1;
    free = λ j st o.
        let other = not_added done k j o in
        let mine = c.free j st other.1 in
        (mine.0, clear_after m laws done s.world c.sound k legal.1 free.1 j other.0 other.1 mine.1);
    end = end_after m laws done s.world c.sound k legal.1 free.1 n free.0 ∙ c.end;
    to_come = λ j o. reply_after m laws done s.world c.sound k legal.1 free.1 j o ∙ c.to_come j ((not_added done k j o).1);
    kept = λ j o. elim (cases_eq j k) [
      | inl e ↦ rw e (reply-here k r s.replies ∙ ap Some (reply_ahead m laws done s.world c.sound k legal.1 free.1 ∙ c.to_come k legal.1))
      | inr ne ↦ reply-other j k r s.replies ne ∙ c.kept j (sym (adding-other done k j ne) ∙ o)
    ];
  }
    where
      done : ℕ → Bool
      done = has s.finished

      free : (k < n) × (is_free m s k ≡ true)
      free = c.free k legal.0 legal.1

      r : m.Reply
      r = m.reply k s.world

  pub on_course : (n : ℕ) (s : State m) (es : List Event) → OnCourse m n s → AllLegal m n s es → OnCourse m n (run m s es)
  on_course n s [] c legal = c
  on_course n s (e ∷ es) c legal = on_course n (happens m s e) es (on_course_next n s e c legal.0) legal.1

  -- when all have finished nothing is left to step
  pub end_of : (n : ℕ) (s : State m) → OnCourse m n s → IsComplete m n s → IsSequential m n s
  end_of n s c complete = (
    sym (stepped-none m s.world n) ∙ sym (stepped-same m (has s.finished) (λ k. true) s.world n complete) ∙ c.end,
    λ k lt. c.kept k (complete k lt),
  )

  pub every_order_lem : EveryOrder m
  every_order_lem n es legal complete = end_of n (run m (opening m) es) (on_course n (opening m) es (on_course_at_start n) legal) complete

  pub reaches_hold_lem : ReachesHold m
  reaches_hold_lem n es legal j d out covers =
      let s = run m (opening m) es in
      holds-ahead m laws (has s.finished) s.world ((on_course n (opening m) es (on_course_at_start n) legal).sound) out covers j d

  -- the events of a legal list, up to any point
  legal_parts : (n : ℕ) (s : State m) (before after : List Event) → AllLegal m n s (before ++ after) → AllLegal m n s before × AllLegal m n (run m s before) after
  legal_parts n s [] after legal = (tt, legal)
  legal_parts n s (e ∷ before) after legal = let parts = legal_parts n (happens m s e) before after legal.1 in ((legal.0, parts.0), parts.1)

  shrink_next : (n : ℕ) (s : State m) (e : Event) → OnCourse m n s → IsLegal m n s e → (j : ℕ) → has (happens m s e).finished j ≡ false
      → Holds m (m.reach j s.world (reaches m (has s.finished) s.world j)) (m.reach j (happens m s e).world (reaches m (has (happens m s e).finished) (happens m s e).world j))
  shrink_next n s (Start k) c legal j d = ((λ a t. t), (λ a w. w))
  shrink_next n s (Finish k) c legal j d = holds_after m laws (has s.finished) s.world c.sound k legal.1 ((c.free k legal.0 legal.1).1) j d

  pub reaches_shrink_lem : ReachesShrink m
  reaches_shrink_lem n es e legal j d =
      let parts = legal_parts n (opening m) es (e ∷ []) legal in
      shrink_next n (run m (opening m) es) e (on_course n (opening m) es (on_course_at_start n) parts.0) parts.1.0 j d

  -- where the access set of a place always collides with an earlier may-access set, it is free only once that place has finished
  pub finished_before : (s : State m) (i k : ℕ) → i < k → ((t : m.World) (rs : List m.Footprint) → m.collide (m.foot k t) (m.reach i t rs) ≡ true)
      → is_free m s k ≡ true → has s.finished i ≡ true
  finished_before s i k lt meets free = true_from_ne_false (has s.finished i) (λ e. both_ways true
      (sym (meets s.world (reaches m (has s.finished) s.world i)) ∙ clear-of m (m.foot k s.world) (has s.finished) s.world k free i lt e) refl)

  pub keeps_order_lem : KeepsOrder m
  keeps_order_lem n i k lt meets before after legal =
      finished_before (run m (opening m) before) i k lt meets ((legal_parts n (opening m) before (Start k ∷ after) legal).1.0.2)
