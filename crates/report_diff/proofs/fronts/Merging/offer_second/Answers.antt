use Rattle.std.proofs.Common.{◌≡◌, ◌≤◌, ◌<◌, ℕ, true, List, [], ◌∷◌, ◌++◌, Some, refl, ap, ◌∙◌, arith, append_assoc}
use Rattle.std.specs.List.{list_all}
use Rattle.report_diff.specs.Lines.{line_kind}
use Rattle.report_diff.specs.Merging.{heading, is_from}
use Rattle.report_diff.specs.Places.{is_entry, line_place}
use Rattle.report_diff.proofs.Early.{all_reach_more, of_first_more}
use Rattle.report_diff.proofs.Rising.{from_less, front_pass, goes_on_if, passes_on}
use Rattle.report_diff.proofs.MergeLemmas.{below_less, covers_less, from_cons, one_below_more}
use Rattle.report_diff.proofs.fronts.Merging.offer_second.Goals as goal

pub returns-clause-follows : goal.returns-clause-follows
returns-clause-follows c = λ first second taken merges.
    let m = c.args.self.now in
    let b = c.args.line.now in
    let q = c.in-Some.place in
    let entry : is_entry (line_kind b) ≡ true = c.in-Some.ensures.0 in
    let is : line_place b ≡ Some q = c.in-Some.ensures.1 in
    let le : m.second.next ≤ q = c.in-Some.ensures.2 in
    let held : c.extend_from_slice.new.self.items ≡ b = c.in_ok-extend_from_slice.ensures.items ∙ ap (λ old. old ++ b) c.clear.ensures.items in
    let none : m.second.next ≤ m.from = rw c.requires.ahead at merges.ahead in
    let next = c.in_ok-on.ensures.next in
    let up : m.second.next ≤ c.on.new.self.next = omega (arith, next, le) in
    let lt : q < c.on.new.self.next = omega (arith, next) in
    let alone = from_cons b [] q m.second.next entry is le refl in
    let same = of_first_more second (b ∷ []) first m.second.next merges.below_first alone in
    let behind : (back : List (List ℕ)) → list_all (is_from c.on.new.self.next) back ≡ true → list_all (is_from m.second.next) (b ∷ back) ≡ true =
    λ back on. from_cons b back q m.second.next entry is le (from_less back m.second.next c.on.new.self.next up on) in
    record {
      kept = merges.kept;
      is_first = merges.is_first;
      is_second = passes_on m.second (heading ∷ second) b q merges.is_second entry is le c.on.new.self c.in_ok-on.ensures.lines next;
      front_first = merges.front_first;
      front_second = front_pass (heading ∷ []) second b merges.front_second (goes_on_if (heading ∷ second) b m.second.next q merges.is_second.rises entry is le);
      kept_text = merges.kept_text;
      kept_whole = merges.kept_whole;
      kept_says = merges.kept_says;
      kept_below = merges.kept_below;
      kept_passed = below_less merges.kept m.second.next c.on.new.self.next up merges.kept_passed;
      from = merges.from;
      ahead = rw held record {
        entry = entry;
        place_is = is;
        next_is = next;
        front = second;
        last = refl;
        below = below_less second m.second.next q le merges.below_second;
        front_below = below_less second m.second.next m.from none merges.below_second;
        kept_below = below_less merges.kept m.second.next q le merges.kept_passed;
        unbroken = c.requires.unbroken;
      };
      text = rw same merges.text;
      counts = rw same merges.counts;
      reached = all_reach_more second (b ∷ []) first merges.reached;
      below_first = below_less first m.second.next c.on.new.self.next up merges.below_first;
      below_second = one_below_more second b q c.on.new.self.next (below_less second m.second.next c.on.new.self.next up merges.below_second) entry is lt;
      finds = λ ends covers more back on on2. rw (append_assoc second (b ∷ []) back, same, held) (rw c.requires.ahead at (merges.finds ends (covers_less ends.second m.second.next c.on.new.self.next up covers) more (b ∷ back) on (behind back on2)));
      says_first = merges.says_first;
      says_second = λ back on. rw (append_assoc second (b ∷ []) back, held) (rw c.requires.ahead at (merges.says_second (b ∷ back) (behind back on)));
    }
