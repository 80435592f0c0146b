-- A range that is cut and put back leaves the list whole.
use Rattle.std.proofs.Common.{◌≡◌, ℕ, ◌-◌, ◌≤◌, List, length, replicate, arith, ap, ◌∙◌}
use Rattle.std.proofs.lemmas.List.{length-replicate}
use Rattle.std.proofs.lemmas.Grind.{same_number_lists}
use Rattle.extent_bytes.specs.Bytes.{overwritten, zeroed, range_of}
use Rattle.extent_bytes.proofs.Lists.{get_or-overwritten_above, get_or-overwritten_below, get_or-overwritten_inside, get_or-part, length-overwritten_within, length-part, zeroed_within}

-- a write over a range, and the range's old bytes over it
pub overwritten_back : (xs : List ℕ) (lo hi : ℕ) (bs : List ℕ) → lo ≤ hi → hi ≤ length xs → length bs ≡ hi - lo → overwritten (overwritten xs lo bs) lo (range_of xs lo hi) ≡ xs
unfolding range_of
overwritten_back xs lo hi bs h l e =
    let m = length-overwritten_within xs lo bs (omega arith) in
    let n = length-part xs lo hi h l in
    same_number_lists (overwritten (overwritten xs lo bs) lo (range_of xs lo hi)) xs (length-overwritten_within _ lo _ (omega (arith, m, n)) ∙ m)
    (λ i b. grind (arith, m, n, get_or-overwritten_below, get_or-overwritten_above, get_or-overwritten_inside, get_or-part))

pub overwritten-zeroed-range_of : (xs : List ℕ) (lo hi : ℕ) → lo ≤ hi → hi ≤ length xs → overwritten (zeroed xs lo hi) lo (range_of xs lo hi) ≡ xs
overwritten-zeroed-range_of xs lo hi h l =
    ap (λ ys. overwritten ys lo (range_of xs lo hi)) (zeroed_within xs lo hi h l) ∙ overwritten_back xs lo hi (replicate (hi - lo) 0) h l (length-replicate (hi - lo) 0)
