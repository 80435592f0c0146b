-- What is left of a part of a text behind its first bytes.
use Rattle.std.proofs.Common.{◌≡◌, ℕ, ◌+◌, ◌-◌, ◌≤◌, List, take, drop, sym, ap, ◌∙◌, arith}
use Rattle.std.proofs.lemmas.List.{drop-take, drop-drop}

pub part_behind : (text : List ℕ) (from count len : ℕ) → count ≤ len → take (len - count) (drop (from + count) text) ≡ drop count (take len (drop from text))
part_behind text from count len le =
    let whole : count + (len - count) ≡ len = omega arith in
    ap (take (len - count)) (sym (drop-drop count from text)) ∙ sym (drop-take count (len - count) (drop from text)) ∙ ap (λ n. drop count (take n (drop from text))) whole
