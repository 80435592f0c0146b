-- Ranges of pages as maps of their own.
use Rattle.std.proofs.Common.{refl, get_or, Some, List, ◌≡◌, ℕ, ◌+◌, ◌-◌, ◌*◌, ◌/◌, ◌%◌, ◌<◌, ◌≤◌, arith, sym, ◌∙◌, ap, min, max, None, ⊎_elim}
use Rattle.std.proofs.lemmas.Bool.{cases_lt}
use Rattle.extent_bytes.specs.Pages.{PageMap, page_of, byte_at, SameRange, Overlaid}
use Rattle.extent_bytes.proofs.PageFacts.{byte_at-none, byte_at-stored}
use Rattle.extent_bytes.proofs.Overlays.{overlaid_to}

-- a page that is not stored is zeros, which lie there already
pub moved_before : (pages a : PageMap) (start end target at bound : ℕ) → ((j : ℕ) → at ≤ j → j < bound → page_of pages j ≡ None)
    → ((i : ℕ) → i < end - start → (start + i) / 4096 < at → byte_at a (target + i) ≡ byte_at pages (start + i))
    → ((i : ℕ) → at ≤ (start + i) / 4096 → byte_at a (target + i) ≡ 0)
    → (i : ℕ) → i < end - start → (start + i) / 4096 < bound → byte_at a (target + i) ≡ byte_at pages (start + i)
moved_before pages a start end target at bound none done blank i l h =
    ⊎_elim
    (λ (q : (start + i) / 4096 < at). done i l q)
    (λ (q : at ≤ (start + i) / 4096). blank i q ∙ sym (byte_at-none pages (start + i) (none ((start + i) / 4096) q h)))
    (cases_lt ((start + i) / 4096) at)

-- one more page is moved
pub moved_step : (pages a b : PageMap) (start end target number : ℕ)
    → ((i : ℕ) → i < end - start → (start + i) / 4096 < number → byte_at a (target + i) ≡ byte_at pages (start + i))
    → Overlaid a b (target + (max start (number * 4096) - start)) (target + (min end (number * 4096 + 4096) - start)) (λ p. byte_at pages (start + (p - target)))
    → (i : ℕ) → i < end - start → (start + i) / 4096 < number + 1 → byte_at b (target + i) ≡ byte_at pages (start + i)
moved_step pages a b start end target number done o i l h =
    grind (arith, o.inside (target + i), o.below (target + i), o.above (target + i), done i)

-- the bytes of a stored page are the map's
pub overlaid_stored : (m a b : PageMap) (k start end target : ℕ) (page : List ℕ) → page_of m k ≡ Some page → start ≤ end
    → Overlaid a b (target + (max start (k * 4096) - start)) (target + (min end (k * 4096 + 4096) - start)) (λ p. get_or page (start + (p - target) - k * 4096) 0)
    → Overlaid a b (target + (max start (k * 4096) - start)) (target + (min end (k * 4096 + 4096) - start)) (λ p. byte_at m (start + (p - target)))
overlaid_stored m a b k start end target page e h o =
    let lo = target + (max start (k * 4096) - start) in
    let hi = target + (min end (k * 4096 + 4096) - start) in
    overlaid_to a b lo hi lo hi _ _ refl refl
    (λ p l g. ap (λ i. get_or page i 0) (omega arith) ∙ sym (byte_at-stored m (start + (p - target)) k page e (omega arith))) o

-- pages shared from `first` on have the bytes of their range
pub shared_range : (m part : PageMap) (a len first end : ℕ) → first ≡ a / 4096 → a + len ≤ end * 4096 → ((j : ℕ) → first + j < end → page_of part j ≡ page_of m (first + j))
    → SameRange m a part (a % 4096) len
unfolding byte_at
shared_range m part a len first end e h taken = λ i l.
    let k : first + (a % 4096 + i) / 4096 ≡ (a + i) / 4096 = omega arith in
    let r : (a % 4096 + i) % 4096 ≡ (a + i) % 4096 = omega arith in
    grind (arith, k, r, taken ((a % 4096 + i) / 4096))
