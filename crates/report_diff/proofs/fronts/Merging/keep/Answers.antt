use Rattle.std.proofs.Common.{◌≤◌, ◌<◌, [], ◌∷◌, ◌++◌, arith, append_assoc}
use Rattle.report_diff.specs.Lines.{subject}
use Rattle.report_diff.specs.Merging.{IsAhead, heading}
use Rattle.report_diff.proofs.Apart.{none_off, off_below}
use Rattle.report_diff.proofs.Rising.{from_less}
use Rattle.report_diff.proofs.SaysLemmas.{says_nothing_more}
use Rattle.report_diff.proofs.MergeLemmas.{any_more, below_less, off_heading, one_below_more, text_more}
use Rattle.report_diff.proofs.fronts.Merging.keep.Goals as goal

pub returns-clause-kept : goal.returns-clause-kept
returns-clause-kept c = λ first second taken other is merges.
    let m = c.args.self.now in
    let line = m.line.items in
    let d : IsAhead other line m.second.next m.from second merges.kept = rw is at merges.ahead in
    let up : m.from ≤ c.max-self.result = omega (arith, c.max-self.ensures) in
    let up2 : m.second.next ≤ c.max-self.result = omega (arith, c.max-self.ensures) in
    let lt : other < m.second.next = omega (arith, d.next_is) in
    let lt2 : other < c.max-self.result = omega (arith, up2, lt) in
    let none = none_off (subject line) (heading ∷ merges.kept) (off_heading line merges.kept d.entry (off_below line merges.kept other d.entry d.place_is d.kept_below)) in
    record {
      kept = merges.kept ++ line ∷ [];
      is_first = merges.is_first;
      is_second = merges.is_second;
      front_first = merges.front_first;
      front_second = merges.front_second;
      kept_text = rw (c.in_ok-push.ensures.items, c.in_ok-extend_from_slice.ensures.items, c.as_slice.ensures.value, merges.kept_text) (text_more (heading ∷ merges.kept) line);
      kept_whole = any_more merges.kept line merges.kept_whole d.unbroken;
      kept_says = says_nothing_more (heading ∷ merges.kept) line merges.kept_says none;
      kept_below = one_below_more merges.kept line other c.max-self.result (below_less merges.kept m.from c.max-self.result up merges.kept_below) d.entry d.place_is lt2;
      kept_passed = one_below_more merges.kept line other m.second.next merges.kept_passed d.entry d.place_is lt;
      from = omega (arith, merges.from, up);
      ahead = up2;
      text = merges.text;
      counts = merges.counts;
      reached = merges.reached;
      below_first = merges.below_first;
      below_second = merges.below_second;
      finds = λ ends covers more back on on2. rw (append_assoc merges.kept (line ∷ []) back) (rw is at (merges.finds ends covers more back (from_less more m.from c.max-self.result up on) on2));
      says_first = λ more on. merges.says_first more (from_less more m.from c.max-self.result up on);
      says_second = λ back on. rw (append_assoc merges.kept (line ∷ []) back) (rw is at (merges.says_second back on));
    }
