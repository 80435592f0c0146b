-- The first line feed of a text, and its first line.
use Rattle.std.proofs.Common.{◌≡◌, ◌∙◌, ◌==◌, ◌+◌, ◌<◌, ◌≤◌, ◌++◌, ℕ, Bool, true, false, List, length, drop, take, None, Some, refl, sym, ap, arith, length-append, length-drop}
use Rattle.std.specs.List.{list_any, position_or_len}
use Rattle.std.proofs.lemmas.List.{drop-append-le}
use Rattle.std.proofs.lemmas.List.Folds.{list_any_at, list_any_none, prefix_len-append}
use Rattle.std.proofs.lemmas.List.Sums.{fails_before_first, passes_at_first, prefix_len-le-length}
use Rattle.text_lines.specs.Lines.{IsFeedFrom, first_line}

abbrev pub is_feed : ℕ → Bool
is_feed b = b == 10

abbrev pub feed_at : List ℕ → ℕ
feed_at text = position_or_len is_feed text

pub feed_within : (text : List ℕ) → feed_at text ≤ length text
feed_within text = prefix_len-le-length _ text

-- no line is whole
pub no_line : (text : List ℕ) → feed_at text ≡ length text → None ≡ first_line text
no_line text none =
    let no_feed : list_any is_feed text ≡ false = list_any_none is_feed text (λ k d lt. fails_before_first is_feed text k d (omega arith)) in rw no_feed refl

-- a line is whole
pub a_line : (text : List ℕ) (n : ℕ) → n ≡ feed_at text → n < length text → Some (take n text) ≡ first_line text
a_line text n is lt =
    let some : feed_at text < length text = omega (arith, is) in
    let feed : list_any is_feed text ≡ true = list_any_at is_feed text (feed_at text) 0 some (passes_at_first is_feed text 0 some) in
    rw feed (ap (λ (k : ℕ). Some (take k text)) is)

-- bytes come behind a text that has a line feed
pub feed_stays : (used : ℕ) (bytes more : List ℕ) (end : ℕ) → IsFeedFrom used bytes end → end < length bytes → IsFeedFrom used (bytes ++ more) end
feed_stays used bytes more end is lt =
    let rest = drop used bytes in
    let some : feed_at rest < length rest = omega (arith, is.0, is.1, length-drop used bytes) in
    let stays : feed_at (rest ++ more) ≡ feed_at rest = grind (arith, prefix_len-append) in
    let behind : drop used (bytes ++ more) ≡ rest ++ more = drop-append-le used bytes more is.0 in
    (omega (arith, is.0, length-append bytes more), is.1 ∙ ap (λ (k : ℕ). used + k) (sym stays) ∙ ap (λ (b : List ℕ). used + feed_at b) (sym behind))

-- bytes come behind a text that has none
pub feed_comes : (used : ℕ) (bytes more : List ℕ) (end : ℕ) → IsFeedFrom used bytes end → length bytes ≤ end → IsFeedFrom used (bytes ++ more) (end + feed_at more)
feed_comes used bytes more end is none =
    let rest = drop used bytes in
    let at_end : feed_at rest ≡ length rest = omega (arith, is.0, is.1, length-drop used bytes, feed_within rest) in
    let comes : feed_at (rest ++ more) ≡ feed_at rest + feed_at more = grind (arith, prefix_len-append) in
    let behind : drop used (bytes ++ more) ≡ rest ++ more = drop-append-le used bytes more is.0 in
    let place : end + feed_at more ≡ used + feed_at (rest ++ more) = omega (arith, is.1, comes) in
    (omega (arith, is.0, length-append bytes more), place ∙ ap (λ (b : List ℕ). used + feed_at b) (sym behind))
