-- Sets of bytes, after one more was put in.
use Rattle.std.proofs.Common.{◌≡◌, ◌<◌, ◌+◌, ℕ, true, List, [], ◌∷◌, length, get_or, take, cond, arith}
use Rattle.std.specs.List.{list_any}
use Rattle.std.specs.Str.{bytes_eq}
use Rattle.std.specs.Borrow.{Bor}
use Rattle.std.specs.BTreeSet.{BTreeSet, Updates}
use Rattle.std.specs.Ordering.{nat_cmp}
use Rattle.std.specs.Cmp.Lexicographic.{slice_cmp}
use Rattle.std.proofs.lemmas.Map.Text.{is_eq-slice_cmp}
use Rattle.std.proofs.lemmas.Slice.Eq.{bytes_eq-Decides}
use Rattle.std.proofs.lemmas.List.Folds.{list_any-append}
use Rattle.report_diff.specs.Known.{has_bytes}
use Rattle.report_diff.specs.Lines.{texts}
use Rattle.report_diff.proofs.Slices.{no_slice, texts_more}

-- two slices are equal in both directions
both_ways : (xs ys : List ℕ) → bytes_eq xs ys ≡ bytes_eq ys xs
both_ways xs ys = grind (arith, (bytes_eq-Decides xs ys).0, (bytes_eq-Decides ys xs).0, (bytes_eq-Decides xs ys).1, (bytes_eq-Decides ys xs).1)

pub grown : (old new : BTreeSet (Bor (List ℕ))) (k : Bor (List ℕ)) → Updates (λ x y. slice_cmp nat_cmp x.now y.now) old new k true
    → (q : List ℕ) → has_bytes new q ≡ cond (bytes_eq q k.now) true (has_bytes old q)
grown old new k updates q =
    rw (← both_ways k.now q, ← is_eq-slice_cmp k.now q) (updates.0 (record { ref_ptr = (0, 0); now = q }))

-- a set of what each of some slices has, after one slice more
pub set_grown : (old new : BTreeSet (Bor (List ℕ))) (k : Bor (List ℕ)) → Updates (λ x y. slice_cmp nat_cmp x.now y.now) old new k true
    → (f : List ℕ → List ℕ) (slices : List (Bor (List ℕ))) (i : ℕ) → i < length slices → k.now ≡ f (get_or slices i no_slice).now
    → ((q : List ℕ) → has_bytes old q ≡ list_any (λ fact. bytes_eq q (f fact)) (texts (take i slices)))
    → (q : List ℕ) → has_bytes new q ≡ list_any (λ fact. bytes_eq q (f fact)) (texts (take (i + 1) slices))
set_grown old new k updates f slices i lt same so_far q =
    rw (texts_more slices i lt, list_any-append (λ fact. bytes_eq q (f fact)) (texts (take i slices)) ((get_or slices i no_slice).now ∷ []))
    (grind (arith, grown old new k updates q, so_far q, same))
