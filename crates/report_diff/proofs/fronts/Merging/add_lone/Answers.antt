use Rattle.std.proofs.Common.{◌≡◌, ◌≤◌, ◌<◌, ◌+◌, ℕ, true, List, [], ◌∷◌, ◌++◌, None, length, refl, sym, ap, ◌∙◌, arith, append_assoc}
use Rattle.std.specs.List.{flat_map, list_all}
use Rattle.std.proofs.lemmas.Grind.{flat_map-append}
use Rattle.std.proofs.lemmas.List.{length-append, map-append}
use Rattle.std.proofs.lemmas.List.Folds.{list_all-append}
use Rattle.report_diff.specs.declared.lines.Section.TheVariants.{Entries}
use Rattle.report_diff.specs.Differences.{Found, findings, found_lone, found_text, minus, of_first}
use Rattle.report_diff.specs.Lines.{subject}
use Rattle.report_diff.specs.Merging.{IsAhead, heading, is_from}
use Rattle.report_diff.proofs.Apart.{apart_from, heading_apart, none_off, off, off-append, off_below, off_from}
use Rattle.report_diff.proofs.Early.{reached}
use Rattle.report_diff.proofs.Removing.{lone_out}
use Rattle.report_diff.proofs.Rising.{from_less, front_pass, goes_on_if, passes_on}
use Rattle.report_diff.proofs.SaysLemmas.{says_without}
use Rattle.report_diff.proofs.MergeLemmas.{below_less, chain_on, found_more, from_cons, one_from, heading_kind, heading_says, lone_within, of_first_lone, off_heading, one_below_more, says_on}
use Rattle.report_diff.proofs.fronts.Merging.add_lone.Goals as goal

pub returns-clause-taken : goal.returns-clause-taken
returns-clause-taken c = λ first second taken other is_next is lt merges.
    let m = c.args.self.now in
    let a = c.args.line.now in
    let p = c.args.place in
    let line = m.line.items in
    let d : IsAhead other line m.second.next m.from second merges.kept = rw is at merges.ahead in
    let up : m.from ≤ p + 1 = omega (arith, is_next.from) in
    let up2 : m.from ≤ p = is_next.from in
    let least : p + 1 ≤ other = omega (arith, lt) in
    let beyond : p + 1 ≤ m.second.next = omega (arith, d.next_is, lt) in
    let below : p < m.second.next = omega (arith, d.next_is, lt) in
    let alone = from_cons line [] other (p + 1) d.entry d.place_is least refl in
    let off_line = off_from a (line ∷ []) p is_next.entry is_next.place_is alone in
    let off_front = off_below a d.front p is_next.entry is_next.place_is (below_less d.front m.from p up2 d.front_below) in
    let off_second : off (subject a) second ≡ true = rw (d.last, off-append (subject a) d.front (line ∷ []), off_front) off_line in
    let off_kept = off_below a merges.kept p is_next.entry is_next.place_is (below_less merges.kept m.from p up2 merges.kept_below) in
    let lone = of_first_lone None second a is_next.entry off_second in
    let one_more : flat_map (of_first None second) (first ++ a ∷ []) ≡ flat_map (of_first None second) first ++ found_lone None minus Entries a =
    found_more (of_first None second) first a ∙ ap (λ x. flat_map (of_first None second) first ++ x) lone in
    let adds = c.in_ok-add_lone.ensures in
    let behind : (more : List (List ℕ)) → list_all (is_from (p + 1)) more ≡ true → list_all (is_from m.from) (a ∷ more) ≡ true =
    λ more on. from_cons a more p m.from is_next.entry is_next.place_is up2 (from_less more m.from (p + 1) up on) in
    record {
      kept = merges.kept;
      is_first = passes_on m.first (heading ∷ first) a p merges.is_first is_next.entry is_next.place_is is_next.next c.on.new.self c.in_ok-on.ensures.lines c.in_ok-on.ensures.next;
      is_second = merges.is_second;
      front_first = front_pass (heading ∷ []) first a merges.front_first
          (goes_on_if (heading ∷ first) a m.first.next p merges.is_first.rises is_next.entry is_next.place_is is_next.next);
      front_second = merges.front_second;
      kept_text = merges.kept_text;
      kept_whole = merges.kept_whole;
      kept_says = merges.kept_says;
      kept_below = below_less merges.kept m.from (p + 1) up merges.kept_below;
      kept_passed = merges.kept_passed;
      from = omega (arith, c.in_ok-on.ensures.next);
      ahead = rw is record {
        entry = d.entry;
        place_is = d.place_is;
        next_is = d.next_is;
        front = d.front;
        last = d.last;
        below = d.below;
        front_below = below_less d.front m.from (p + 1) up d.front_below;
        kept_below = d.kept_below;
        unbroken = d.unbroken;
      };
      text = rw (one_more, flat_map-append (λ (f : Found). f.text) (flat_map (of_first None second) first) (found_lone None minus Entries a), merges.text, adds.text)
          (append_assoc taken m.told.text.items (found_text (found_lone None minus Entries a)));
      counts = rw (one_more, map-append (λ (f : Found). f.finding) (flat_map (of_first None second) first) (found_lone None minus Entries a))
          (adds.counts (findings (flat_map (of_first None second) first)) merges.counts);
      reached = rw (list_all-append, merges.reached, d.last, reached d.front [] line a p other is_next.place_is d.place_is (omega (arith, lt))) refl;
      below_first = one_below_more first a p m.second.next merges.below_first is_next.entry is_next.place_is below;
      below_second = merges.below_second;
      finds = λ ends covers more back on on2.
          let rest = heading ∷ merges.kept ++ line ∷ back in
          let off_back = off_from a back p is_next.entry is_next.place_is (from_less back (p + 1) m.second.next beyond on2) in
          let off_rest : off (subject a) rest ≡ true = off_heading a (merges.kept ++ line ∷ back) is_next.entry
          (rw (off-append (subject a) merges.kept (line ∷ back), off_kept, apart_from a line p is_next.entry is_next.place_is (one_from line other (p + 1) d.entry d.place_is least)) off_back) in
          let out = lone_out ends heading a more rest heading_kind is_next.entry (heading_apart a is_next.entry) (off_from a more p is_next.entry is_next.place_is on) off_rest in
          rw (append_assoc first (a ∷ []) more, is)
          (chain_on _ _ _ _ _ _ (rw is at (merges.finds ends covers (a ∷ more) back (behind more on) on2)) out
          (one_more ∙ ap (λ x. flat_map (of_first None second) first ++ x) (sym (of_first_lone ends.second rest a is_next.entry off_rest ∙ lone_within ends.second a m.second.next p covers is_next.place_is below))));
      says_first = λ more on. rw (append_assoc first (a ∷ []) more)
          (says_on _ _ _ (length first) _ (merges.says_first (a ∷ more) (behind more on))
          (says_without (heading ∷ []) more a heading_says (none_off (subject a) (heading ∷ []) (off_heading a [] is_next.entry refl))
          (off_from a more p is_next.entry is_next.place_is on)) (length-append first (a ∷ [])));
      says_second = merges.says_second;
    }
