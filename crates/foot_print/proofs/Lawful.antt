-- The replay of a trace keeps the laws of access sets and may-access sets.
use Rattle.std.specs.Prelude.{◌≡◌, ◌≢◌, ℕ, Bool, true, false, not, T, List, [], ◌++◌, Option, Some, refl}
use mathlib.Core.Path.{sym, subst, ap}
use native.Mathlib.Omega.{arith}
use Rattle.interleaving.specs.System.{AgreeOn, Holds, DifferOnlyBy, Thinner}
use Rattle.interleaving.specs.Rows.{RowLaws}
use Rattle.interleaving.specs.Laws.{Cover, Laws}
use Rattle.interleaving.proofs.ByRows.{reach_holds_foot_lem, reach_holds_reach_lem, known_same_lem, reach_same_lem, known_thinner_lem}
use Rattle.recording.specs.declared.recording.Recording.{Recording}
use Rattle.sqe_codec.specs.Answers.{each}
use Rattle.chain_plan.specs.Chain.{role}
use Rattle.world_parts.specs.World.{World, IsWorld}
use Rattle.world_parts.specs.Start.{start}
use Rattle.op_meaning.specs.Step.{Turn, filled, registered, called, runs, turn_under, step_world}
use Rattle.world_parts.specs.Items.{Atom, chain_flag, descriptor_at, one, all_descriptors, member_of, Use, Footprint, has_atom, Agree}
use Rattle.foot_print.specs.Footprint.{footprint, turn_uses}
use Rattle.foot_print.specs.Laws.{Awaits, CoversAt, FootprintsCover}
use Rattle.foot_print.specs.Reach.{makes, task, is_canceled, look_of, extras_of, unresolved_of, order_of, running_row, reach}
use Rattle.foot_print.proofs.Awaiting.{awaits_unused}
use Rattle.foot_print.proofs.Cover.{all_covered}
use Rattle.foot_print.proofs.Keep.{steps_keep_worlds}
use Rattle.foot_print.specs.Replayed.{Unused, IsBefore, Bounded, is_earlier, replayed, rows}
use Rattle.world_parts.proofs.Values.{atoms_make_the_world}
use Rattle.world_parts.proofs.Collision.{true_of, same_atom_refl, writes-has}
use Rattle.foot_print.proofs.Agreement.{agree_right, in_right}
use Rattle.foot_print.proofs.CoverPlace.{turn_same}
use Rattle.foot_print.proofs.Holding.{Over, always, over_self, over_nothing, over_first, over_both}
use Rattle.foot_print.proofs.Beginning.{starts_before}
use Rattle.foot_print.proofs.Bounds.{taken_bound}
use Rattle.foot_print.proofs.ReachRows.{footprint_is_by_rows}
use Rattle.foot_print.proofs.RowsHeld.{accepted_over_row, room_thin_held}
use Rattle.foot_print.proofs.RowsWide.{unresolved_over_taken}
use Rattle.foot_print.proofs.RowsSeen.{seen_same, taken_same, room_same, room_told}
use Rattle.foot_print.proofs.RowSame.{running_row_same}
use Rattle.foot_print.proofs.Unmet.{deciding_within}
use Rattle.foot_print.proofs.Writing.{is_false, not_false, unwritten, unmet, written_thin, met_thin, writes_touches, apart_from_collide_lem, collide_held_lem}
use Rattle.world_parts.proofs.Sharing.{holds_true}

module _ (t : Recording) where
  to_holds : (r f : Footprint) → Over always r f → Holds (replayed t) r f
  to_holds r f x = (λ a e. true_of _ (x.has a tt (holds_true _ e)), λ a e. true_of _ (x.writes a tt (holds_true _ e)))

  to_agree : (f : Footprint) (s u : World) → AgreeOn (replayed t) f s u → Agree f s u
  to_agree f s u h = record { same = λ a k. h a (true_of _ k) }

  bounded_over : (k : ℕ) (r f : Footprint) → Over (is_earlier t k) r f → ((a : Atom) → has_atom f a ≡ true → is_earlier t k a ≡ true) → Over always r f
  bounded_over k r f x h = record {
    has = λ a e m. x.has a (holds_true _ (h a (true_of _ m))) m;
    writes = λ a e m. x.writes a (holds_true _ (h a (true_of _ (writes-has f a m)))) m;
  }

  module _ (k : ℕ) where
    look_told : (s u : World) (x : Option Turn) → Agree (look_of t k s x).deciding s u → look_of t k u x ≡ look_of t k s x
    look_told s u (Some (runs r e o)) a = λ i. record { deciding = seen_same t r s u o a i; items = taken_same t r s u k o a i }
    look_told s u (Some (called r o)) a = λ i. record { deciding = seen_same t r s u o a i; items = taken_same t r s u k o a i }
    look_told s u _ a = refl

    accepted_over : (s : World) (earlier : List Footprint) (x : Option Turn) → Over always ((look_of t k s x).items ++ extras_of t k s earlier x) (each (turn_uses t k s) x)
    accepted_over s earlier (Some (filled r b at new)) = over_first always (turn_uses t k s (filled r b at new)) [] _ (over_self always _)
    accepted_over s earlier (Some (registered r slots)) = over_self always _
    accepted_over s earlier (Some (runs r e o)) = accepted_over_row t k r s o earlier
    accepted_over s earlier (Some (called r o)) = accepted_over_row t k r s o earlier
    accepted_over s earlier _ = over_nothing always _

    unresolved_over : (s : World) (x : Option Turn) → Over (is_earlier t k) (unresolved_of t k s x) (look_of t k s x).items
    unresolved_over s (Some (filled r b at new)) = over_self _ _
    unresolved_over s (Some (runs r e o)) = unresolved_over_taken t k r s o
    unresolved_over s (Some (called r o)) = unresolved_over_taken t k r s o
    unresolved_over s _ = over_nothing _ _

    unresolved_same : (s u : World) (x : Option Turn) → unresolved_of t k u x ≡ unresolved_of t k s x
    unresolved_same s u (Some (runs r e o)) = refl
    unresolved_same s u (Some (called r o)) = refl
    unresolved_same s u _ = refl

    extras_same : (s u : World) (earlier : List Footprint) → DifferOnlyBy (replayed t) earlier s u → (x : Option Turn) → extras_of t k u earlier x ≡ extras_of t k s earlier x
    extras_same s u earlier d (Some (runs r e o)) = ap (λ f. makes t k o ++ f) (room_same t r s u earlier o (λ h n. d (descriptor_at n) (unwritten t earlier all_descriptors (descriptor_at n) h tt)))
    extras_same s u earlier d (Some (called r o)) = ap (λ f. makes t k o ++ f) (room_same t r s u earlier o (λ h n. d (descriptor_at n) (unwritten t earlier all_descriptors (descriptor_at n) h tt)))
    extras_same s u earlier d _ = refl

    extras_told : (s u : World) (earlier : List Footprint) (x : Option Turn) → Agree (each (turn_uses t k s) x) s u → extras_of t k u earlier x ≡ extras_of t k s earlier x
    extras_told s u earlier (Some (runs r e o)) a = ap (λ f. makes t k o ++ f) (room_told t k r s u earlier o a)
    extras_told s u earlier (Some (called r o)) a = ap (λ f. makes t k o ++ f) (room_told t k r s u earlier o a)
    extras_told s u earlier _ a = refl

    extras_thin : (s : World) (earlier thin : List Footprint) → Thinner (replayed t) thin earlier → (x : Option Turn) → Over always (extras_of t k s earlier x) (extras_of t k s thin x)
    extras_thin s earlier thin n (Some (runs r e o)) = over_both always (makes t k o) _ (makes t k o) _ (over_self always _) (room_thin_held t k r s earlier thin o (written_thin t all_descriptors thin earlier n))
    extras_thin s earlier thin n (Some (registered r slots)) = over_self always _
    extras_thin s earlier thin n (Some (called r o)) = over_both always (makes t k o) _ (makes t k o) _ (over_self always _) (room_thin_held t k r s earlier thin o (written_thin t all_descriptors thin earlier n))
    extras_thin s earlier thin n _ = over_nothing always _

    uses_agree : (s u : World) → AgreeOn (replayed t) (running_row t k s) s u → Agree (each (turn_uses t k s) (task t k)) s u
    uses_agree s u h = agree_right s u (order_of t k) _ (to_agree (running_row t k s) s u h)

  awaits : (k : ℕ) (s : World) → IsWorld s → Unused t k s → Awaits t k s
  awaits k s w n = record { is_world = w; no_node = n.no_node; no_description = n.no_description }

  thinner_false : (b c : Bool) → (T c → T b) → b ≡ false → c ≡ false
  thinner_false b c h e = is_false c (λ k. not_false b e (h k))

  pub row_laws : FootprintsCover → RowLaws (replayed t) (rows t)
  row_laws cover = record {
    canceled_same = λ k s u h. ap is_canceled (turn_same t k s u (to_agree (order_of t k) s u h));
    look_same = λ k s u h. look_told k s u (task t k) (record { same = λ a m. h a (true_of _ m) });
    row_same = λ k s u ws wu h. running_row_same t k cover s u (awaits k s ws.0 ws.1) (awaits k u wu.0 wu.1) (λ a m. h a (true_of _ m));
    look_in_row = λ k s a h. true_of _ (in_right (λ (v : Use). member_of v.item a) (order_of t k) (each (turn_uses t k s) (task t k)) (deciding_within t k s a (task t k) (holds_true _ h)));
    row_holds_bare = λ k s. to_holds _ _ (over_first always (order_of t k) _ _ (over_self always (order_of t k)));
    accepted_holds_row = λ k s earlier. to_holds _ _ (over_both always (order_of t k) _ (order_of t k) _ (over_self always (order_of t k)) (accepted_over k s earlier (task t k)));
    wide_holds_accepted = λ k s earlier b. to_holds _ _ (over_both always (order_of t k) _ (order_of t k) _ (over_self always (order_of t k))
        (over_both always (unresolved_of t k s (task t k)) (extras_of t k s earlier (task t k)) (look_of t k s (task t k)).items (extras_of t k s earlier (task t k))
        (bounded_over k _ _ (unresolved_over k s (task t k)) b) (over_self always _)));
    accepted_same = λ k s u earlier e d i. order_of t k ++ ((e i).items ++ extras_same k s u earlier d (task t k) i);
    wide_same = λ k s u earlier d i. order_of t k ++ (unresolved_same k s u (task t k) i ++ extras_same k s u earlier d (task t k) i);
    accepted_told = λ k s u earlier e h i. order_of t k ++ ((e i).items ++ extras_told k s u earlier (task t k) (uses_agree k s u h) i);
    wide_told = λ k s u earlier h i. order_of t k ++ (unresolved_same k s u (task t k) i ++ extras_told k s u earlier (task t k) (uses_agree k s u h) i);
    accepted_thin = λ k s earlier thin n. to_holds _ _ (over_both always (order_of t k) _ (order_of t k) _ (over_self always (order_of t k))
        (over_both always (look_of t k s (task t k)).items (extras_of t k s earlier (task t k)) (look_of t k s (task t k)).items (extras_of t k s thin (task t k)) (over_self always _) (extras_thin k s earlier thin n (task t k))));
    wide_thin = λ k s earlier thin n. to_holds _ _ (over_both always (order_of t k) _ (order_of t k) _ (over_self always (order_of t k))
        (over_both always (unresolved_of t k s (task t k)) (extras_of t k s earlier (task t k)) (unresolved_of t k s (task t k)) (extras_of t k s thin (task t k)) (over_self always _) (extras_thin k s earlier thin n (task t k))));
    waits_no = λ k s u earlier e d. ap (λ b. is_canceled (turn_under t k b)) (sym (d (chain_flag (role t k).chain) (unwritten t earlier (one (chain_flag (role t k).chain)) _ e (same_atom_refl (chain_flag (role t k).chain)))));
    unresolved_no = λ l earlier a e h. unmet t l.deciding earlier a e (holds_true _ h);
    disturbed_no = λ f earlier a e h. unmet t f earlier a e (holds_true _ h);
    waits_thin = λ k earlier thin n e. thinner_false _ _ (written_thin t (one (chain_flag (role t k).chain)) thin earlier n) e;
    unresolved_thin = λ l earlier thin n e. thinner_false _ _ (met_thin t l.deciding thin earlier n) e;
    disturbed_thin = λ f earlier thin n e. thinner_false _ _ (met_thin t f thin earlier n) e;
  }

  module _ (k : ℕ) (s : World) (w : IsWorld s) (before : IsBefore t k s) where
    look_bound : (x : Option Turn) → Bounded t k (look_of t k s x)
    look_bound (Some (filled r b at new)) a h = true_of _ (filled_bound a (holds_true _ h))
      where
        filled_bound : (c : Atom) → T (has_atom (turn_uses t k s (filled r b at new)) c) → T (is_earlier t k c)
        filled_bound c m = grind arith
    look_bound (Some (runs r e o)) a h = true_of _ (taken_bound t k s w before r o a (holds_true _ h))
    look_bound (Some (called r o)) a h = true_of _ (taken_bound t k s w before r o a (holds_true _ h))
    look_bound _ a h = absurd (holds_true _ h)

module _ (t : Recording) (starts : IsWorld (start t)) where
  abbrev keeping : (k : ℕ) (s : World) → IsWorld s → Unused t k s → IsWorld (step_world t k s) × ((j : ℕ) → ¬ (j ≡ k) → Awaits t j s → Awaits t j (step_world t k s))
  keeping k s w n = steps_keep_worlds t k s (awaits t k s w n)

  stays_unused : (j k : ℕ) (s : World) → IsWorld s → Unused t k s → Unused t j s → j ≢ k → Unused t j (step_world t k s)
  stays_unused j k s w nk nj apart =
      let a = (keeping k s w nk).1 j apart (awaits t j s w nj) in
      record { no_node = a.no_node; no_description = a.no_description }

  covers_same : (k : ℕ) (s u : World) (ws : IsWorld s) (wu : IsWorld u) (ns : Unused t k s) (nu : Unused t k u) → AgreeOn (replayed t) (footprint t k s) s u → CoversAt t k (footprint t k s) s u
  covers_same k s u ws wu ns nu h = all_covered t k s (awaits t k s ws ns) u (awaits_unused t k u (awaits t k u wu nu)) (to_agree t (footprint t k s) s u h)

  pub replay_covers : Cover (replayed t)
  replay_covers = record {
    same_world = λ s u ws wu h. atoms_make_the_world s u h;
    start_is_world = starts;
    step_is_world = λ k s w n. (keeping k s w n).0;
    start_is_before = λ j i l. starts_before t i (omega arith);
    step_is_before = λ j k s w n l b i m. stays_unused i k s w n (b i m) (λ e. (omega arith));
    before_unused = λ j s b. b j (omega arith);
    step_keeps_unused = λ j k s w nk nj apart. stays_unused j k s w nk nj apart;
    writes_touches = writes_touches t;
    foot_same = λ k s u ws wu ns nu h. (covers_same k s u ws wu ns nu h).same_footprint;
    reply_same = λ k s u ws wu ns nu h. (covers_same k s u ws wu ns nu h).same_reply;
    values_same = λ k s u ws wu ns nu h a m. (covers_same k s u ws wu ns nu h).agree_after.same a (holds_true _ m);
    others_kept = λ k s a w n e. (covers_same k s s w w n n (λ b m. refl)).nothing_else a (subst (λ b. T (not b)) (sym e) tt);
    apart_from_collide = apart_from_collide_lem t;
  }

  pub replay_lawful : Laws (replayed t)
  replay_lawful = record {
    cover = replay_covers;
    collide_held = collide_held_lem t;
    before_known = λ k s earlier w b e. look_bound t k s w b (task t k);
    known_same = λ k s u earlier ws wu ns nu known h. known_same_lem (replayed t) (rows t) (row_laws t all_covered) k s u earlier (ws, ns) (wu, nu) known h;
    known_thinner = λ k s earlier thin n known. known_thinner_lem (replayed t) (rows t) (row_laws t all_covered) k s earlier thin n known;
    reach_holds_foot = λ k s u earlier ws wu ns nu ku d. subst (Holds (replayed t) (reach t k s earlier)) (sym (footprint_is_by_rows t k u))
        (reach_holds_foot_lem (replayed t) (rows t) (row_laws t all_covered) k s u earlier (ws, ns) (wu, nu) ku d);
    reach_holds_reach = λ k s u earlier thin ws wu ns nu ku d n. reach_holds_reach_lem (replayed t) (rows t) (row_laws t all_covered) k s u earlier thin (ws, ns) (wu, nu) ku d n;
    reach_same = λ k s u earlier ws wu ns nu known h. reach_same_lem (replayed t) (rows t) (row_laws t all_covered) k s u earlier (ws, ns) (wu, nu) known h;
  }
