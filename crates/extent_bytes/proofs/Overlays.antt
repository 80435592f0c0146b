-- Bytes put over a range of a map.
use Rattle.std.proofs.Common.{◌≡◌, ℕ, ◌+◌, ◌-◌, ◌*◌, ◌/◌, ◌%◌, ◌<◌, ◌≤◌, ◌≢◌, Bool, true, false, List, length, get_or, arith, sym, ◌∙◌, ap, refl, Option, Some, None, ⊎_elim}
use Rattle.std.proofs.lemmas.Bool.{cases_eq, cases_lt}
use Rattle.extent_bytes.specs.Bytes.{overwritten}
use Rattle.extent_bytes.specs.Pages.{PageMap, page_of, page_byte, byte_at, IsRewritten, SameBytes, SamePages, Overlaid, Completed}
use Rattle.extent_bytes.proofs.Lists.{get_or-overwritten_above, get_or-overwritten_below, get_or-overwritten_inside}
use Rattle.extent_bytes.proofs.PageFacts.{byte_at-kept}

-- one page changed, in part
pub one_page : (m n : PageMap) (k lo hi : ℕ) (f : ℕ → ℕ) → lo ≤ hi → hi ≤ 4096 → ((q : ℕ) → q ≢ k → page_of n q ≡ page_of m q)
    → ((i : ℕ) → i < lo → page_byte (page_of n k) i ≡ page_byte (page_of m k) i)
    → ((i : ℕ) → lo ≤ i → i < hi → page_byte (page_of n k) i ≡ f (k * 4096 + i))
    → ((i : ℕ) → hi ≤ i → i < 4096 → page_byte (page_of n k) i ≡ page_byte (page_of m k) i)
    → Overlaid m n (k * 4096 + lo) (k * 4096 + hi) f
unfolding byte_at
one_page m n k lo hi f forward bound others below inside above = record {
  below = λ p h. grind (arith, others (p / 4096), below (p % 4096));
  inside = λ p h l.
      let e : p / 4096 ≡ k = omega arith in
      let d : k * 4096 + p % 4096 ≡ p = omega arith in
      grind (arith, e, d, inside (p % 4096));
  above = λ p h. grind (arith, others (p / 4096), above (p % 4096));
}

-- bytes written into one page
pub one_page-overwritten : (m n : PageMap) (k at : ℕ) (bs page : List ℕ) → at + length bs ≤ 4096 → ((q : ℕ) → q ≢ k → page_of n q ≡ page_of m q)
    → page_of n k ≡ Some (overwritten page at bs)
    → ((i : ℕ) → i < 4096 → page_byte (page_of m k) i ≡ get_or page i 0)
    → Overlaid m n (k * 4096 + at) (k * 4096 + (at + length bs)) (λ p. get_or bs (p - (k * 4096 + at)) 0)
one_page-overwritten m n k at bs page bound others now was =
    one_page m n k at (at + length bs) _ (omega arith) bound others
    (λ i h. grind (arith, now, was i, get_or-overwritten_below))
    (λ i h l. grind (arith, now, get_or-overwritten_inside))
    (λ i h l. grind (arith, now, was i, get_or-overwritten_above))

-- other bounds and another function with the same values
pub overlaid_to : (m n : PageMap) (a b lo hi : ℕ) (f g : ℕ → ℕ) → a ≡ lo → b ≡ hi → ((p : ℕ) → lo ≤ p → p < hi → f p ≡ g p) → Overlaid m n a b f → Overlaid m n lo hi g
overlaid_to m n a b lo hi f g d e h o = record {
  below = λ p l. o.below p (omega arith);
  inside = λ p k l. o.inside p (omega arith) (omega arith) ∙ h p k l;
  above = λ p k. o.above p (omega arith);
}

-- bytes put behind others that were put there
pub overlaid_more : (m a b : PageMap) (lo mid hi x y : ℕ) (f g : ℕ → ℕ) → Overlaid m a lo mid f → Overlaid a b x y g → x ≡ mid → y ≡ hi → lo ≤ mid → mid ≤ hi
    → ((p : ℕ) → mid ≤ p → p < hi → g p ≡ f p) → Overlaid m b lo hi f
overlaid_more m a b lo mid hi x y f g o q d e h k same = record {
  below = λ p l. q.below p (omega arith) ∙ o.below p l;
  inside = λ p k l. ⊎_elim
      (λ (z : p < mid). q.below p (omega arith) ∙ o.inside p k z)
      (λ (z : mid ≤ p). q.inside p (omega arith) (omega arith) ∙ same p z l)
      (cases_lt p mid);
  above = λ p l. q.above p (omega arith) ∙ o.above p (omega arith);
}

-- no bytes put there
pub overlaid_nothing : (m : PageMap) (lo hi : ℕ) (f : ℕ → ℕ) → hi ≤ lo → Overlaid m m lo hi f
overlaid_nothing m lo hi f h = record { below = λ p l. refl; inside = λ p k l. absurd (omega arith); above = λ p l. refl }

-- pages taken from another map, numbered from `first`
byte_at-taken : (n patch : PageMap) (first end : ℕ) → ((j : ℕ) → first + j < end → page_of n (first + j) ≡ page_of patch j)
    → (p : ℕ) → first * 4096 ≤ p → p < end * 4096 → byte_at n p ≡ byte_at patch (p - first * 4096)
unfolding byte_at
byte_at-taken n patch first end taken p h l =
    let d : p / 4096 - first ≡ (p - first * 4096) / 4096 = omega arith in
    let r : p % 4096 ≡ (p - first * 4096) % 4096 = omega arith in
    grind (arith, d, r, taken (p / 4096 - first))

-- the pages of a completed patch in place of a map's own
pub overlaid_from : (m r n old new : PageMap) (lo hi first end : ℕ) → lo < hi → first ≡ lo / 4096 → end ≡ (hi + 4095) / 4096
    → SameBytes m r → Completed m old new first end lo hi
    → ((j : ℕ) → first + j < end → page_of n (first + j) ≡ page_of new j)
    → ((j : ℕ) → j < first → page_of n j ≡ page_of r j)
    → ((j : ℕ) → end ≤ j → page_of n j ≡ page_of r j)
    → Overlaid m n lo hi (λ p. byte_at old (p - first * 4096))
overlaid_from m r n old new lo hi first end forward f e same done taken below above = record {
  below = λ p h. grind (arith, byte_at-kept r n p, below (p / 4096), same p, byte_at-taken n new first end taken p, done.below p);
  inside = λ p h l. byte_at-taken n new first end taken p (omega arith) (omega arith) ∙ done.inside p h l;
  above = λ p h. grind (arith, byte_at-kept r n p, above (p / 4096), same p, byte_at-taken n new first end taken p, done.above p);
}

-- bytes written into a page that is there
pub rewritten : (m n : PageMap) (k at : ℕ) (bs : List ℕ) (b : Bool) (o : Option (List ℕ)) → b ≡ true → page_of m k ≡ o → IsRewritten b o (page_of n k) at bs
    → ((j : ℕ) → j ≢ k → page_of n j ≡ page_of m j) → at + length bs ≤ 4096 → Overlaid m n (k * 4096 + at) (k * 4096 + (at + length bs)) (λ p. get_or bs (p - (k * 4096 + at)) 0)
rewritten m n k at bs true None t e w others bound = absurd w
rewritten m n k at bs true (Some page) t e w others bound = one_page-overwritten m n k at bs page bound others w (λ i h. ap (λ o. page_byte o i) e)
rewritten m n k at bs false o t e w others bound = absurd (cc t)

-- and where none is
pub unwritten : (m n : PageMap) (k at : ℕ) (bs : List ℕ) (b : Bool) → b ≡ false → IsRewritten b (page_of m k) (page_of n k) at bs → ((j : ℕ) → j ≢ k → page_of n j ≡ page_of m j)
    → (page_of m k ≡ None) × SamePages m n
unwritten m n k at bs true f w others = absurd (cc f)
unwritten m n k at bs false f w others = (
  w.0,
  λ j. ⊎_elim (λ (e : j ≡ k). ap (page_of n) e ∙ w.1 ∙ sym (ap (page_of m) e ∙ w.0)) (λ (ne : j ≢ k). others j ne) (cases_eq j k),
)
