use Rattle.std.proofs.Common.{◌≡◌, ◌≤◌, ◌<◌, ◌+◌, ℕ, true, List, [], ◌∷◌, ◌++◌, None, length, refl, sym, ap, ◌∙◌, arith, append_assoc}
use Rattle.std.specs.List.{flat_map, list_all}
use Rattle.std.proofs.lemmas.Grind.{flat_map-append}
use Rattle.std.proofs.lemmas.List.{length-append, map-append}
use Rattle.std.proofs.lemmas.List.Folds.{list_all-append}
use Rattle.report_diff.specs.declared.lines.Section.TheVariants.{Entries}
use Rattle.report_diff.specs.Differences.{Found, findings, found_pair, found_text, of_first}
use Rattle.report_diff.specs.Lines.{subject}
use Rattle.report_diff.specs.Merging.{IsAhead, heading, is_from}
use Rattle.report_diff.proofs.Apart.{heading_apart, none_off, off_below, off_from}
use Rattle.report_diff.proofs.Early.{reached}
use Rattle.report_diff.proofs.Removing.{pair_out}
use Rattle.report_diff.proofs.Rising.{from_less, front_pass, goes_on_if, passes_on}
use Rattle.report_diff.proofs.SaysLemmas.{says_without}
use Rattle.report_diff.proofs.MergeLemmas.{below_less, chain_on, found_more, from_cons, heading_kind, heading_says, of_first_pair, off_heading, one_below_more, same_subject, says_on}
use Rattle.report_diff.proofs.fronts.Merging.add_pair.Goals as goal

pub returns-clause-taken : goal.returns-clause-taken
returns-clause-taken c = λ first second taken is_next is merges.
    let m = c.args.self.now in
    let a = c.args.line.now in
    let p = c.args.place in
    let line = m.line.items in
    let d : IsAhead p line m.second.next m.from second merges.kept = rw is at merges.ahead in
    let up : m.from ≤ p + 1 = omega (arith, is_next.from) in
    let up2 : m.from ≤ p = is_next.from in
    let beyond : p + 1 ≤ m.second.next = omega (arith, d.next_is) in
    let below : p < m.second.next = omega (arith, d.next_is) in
    let same = same_subject a line p is_next.entry d.entry is_next.place_is d.place_is in
    let off_front = off_below a d.front p is_next.entry is_next.place_is d.below in
    let off_kept = off_heading a merges.kept is_next.entry (off_below a merges.kept p is_next.entry is_next.place_is d.kept_below) in
    let none = none_off (subject line) (heading ∷ merges.kept) (off_heading line merges.kept d.entry (off_below line merges.kept p d.entry d.place_is d.kept_below)) in
    let pair : of_first None second a ≡ found_pair Entries a line = rw d.last (of_first_pair None d.front [] a line is_next.entry same off_front) in
    let one_more : flat_map (of_first None second) (first ++ a ∷ []) ≡ flat_map (of_first None second) first ++ found_pair Entries a line =
    found_more (of_first None second) first a ∙ ap (λ x. flat_map (of_first None second) first ++ x) pair in
    let adds = rw c.as_slice.ensures.value at c.in_ok-add_pair.ensures in
    let behind : (more : List (List ℕ)) → list_all (is_from (p + 1)) more ≡ true → list_all (is_from m.from) (a ∷ more) ≡ true =
    λ more on. from_cons a more p m.from is_next.entry is_next.place_is up2 (from_less more m.from (p + 1) up on) in
    record {
      kept = merges.kept;
      is_first = passes_on m.first (heading ∷ first) a p merges.is_first is_next.entry is_next.place_is is_next.next c.on.new.self c.in_ok-on.ensures.lines c.in_ok-on.ensures.next;
      is_second = merges.is_second;
      front_first = front_pass (heading ∷ []) first a merges.front_first
          (goes_on_if (heading ∷ first) a m.first.next p merges.is_first.rises is_next.entry is_next.place_is is_next.next);
      front_second = merges.front_second;
      kept_text = merges.kept_text;
      kept_whole = merges.kept_whole;
      kept_says = merges.kept_says;
      kept_below = below_less merges.kept m.from (p + 1) up merges.kept_below;
      kept_passed = merges.kept_passed;
      from = omega (arith, c.in_ok-on.ensures.next);
      ahead = omega (arith, d.next_is);
      text = rw (one_more, flat_map-append (λ (f : Found). f.text) (flat_map (of_first None second) first) (found_pair Entries a line), merges.text, adds.text)
          (append_assoc taken m.told.text.items (found_text (found_pair Entries a line)));
      counts = rw (one_more, map-append (λ (f : Found). f.finding) (flat_map (of_first None second) first) (found_pair Entries a line))
          (adds.counts (findings (flat_map (of_first None second) first)) merges.counts);
      reached = rw (list_all-append, merges.reached, d.last, reached d.front [] line a p p is_next.place_is d.place_is (omega arith)) refl;
      below_first = one_below_more first a p m.second.next merges.below_first is_next.entry is_next.place_is below;
      below_second = merges.below_second;
      finds = λ ends covers more back on on2.
          let off_back = off_from a back p is_next.entry is_next.place_is (from_less back (p + 1) m.second.next beyond on2) in
          let out = pair_out ends heading a line more (heading ∷ merges.kept) back heading_kind is_next.entry (heading_apart a is_next.entry) same d.entry
          (off_from a more p is_next.entry is_next.place_is on) off_kept off_back in
          rw (append_assoc first (a ∷ []) more)
          (chain_on _ _ _ _ _ _ (rw is at (merges.finds ends covers (a ∷ more) back (behind more on) on2)) out
          (one_more ∙ ap (λ x. flat_map (of_first None second) first ++ x) (sym (of_first_pair ends.second (heading ∷ merges.kept) back a line is_next.entry same off_kept))));
      says_first = λ more on. rw (append_assoc first (a ∷ []) more)
          (says_on _ _ _ (length first) _ (merges.says_first (a ∷ more) (behind more on))
          (says_without (heading ∷ []) more a heading_says (none_off (subject a) (heading ∷ []) (off_heading a [] is_next.entry refl))
          (off_from a more p is_next.entry is_next.place_is on)) (length-append first (a ∷ [])));
      says_second = λ back on.
          says_on _ _ _ m.gone _ (rw is at (merges.says_second back on))
          (says_without (heading ∷ merges.kept) back line merges.kept_says none (off_from line back p d.entry d.place_is (from_less back (p + 1) m.second.next beyond on)))
          c.in_ok-self.ensures.0;
    }
