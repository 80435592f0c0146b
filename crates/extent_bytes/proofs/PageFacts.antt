-- What a change of one page does to the bytes of a map.
use Rattle.std.proofs.Common.{◌≡◌, ℕ, ◌+◌, ◌-◌, ◌*◌, ◌/◌, ◌%◌, ◌<◌, ◌≤◌, List, length, get_or, arith, refl, ◌∙◌, ap, Some, None}
use Rattle.std.specs.Prelude.{All, slice_get}
use Rattle.std.proofs.lemmas.List.{get_or-replicate}
use Rattle.std.proofs.lemmas.List.Elements.{All-get_or}
use Rattle.extent_bytes.specs.Pages.{PageMap, page_of, page_byte, byte_at, byte_in, blank_page, Overlaid, SameBytes}

-- the same pages hold the same bytes
pub same_bytes : (m n : PageMap) → ((q : ℕ) → page_of n q ≡ page_of m q) → SameBytes m n
unfolding byte_at
same_bytes m n h = λ p. ap (λ o. page_byte o (p % 4096)) (h (p / 4096))

pub blank_byte : (i : ℕ) → i < 4096 → get_or blank_page i 0 ≡ 0
unfolding blank_page
blank_byte i h = get_or-replicate 4096 i 0 0 h

-- the bytes of one page
pub byte_at-page : (m : PageMap) (k i : ℕ) → i < 4096 → byte_at m (k * 4096 + i) ≡ page_byte (page_of m k) i
unfolding byte_at
byte_at-page m k i h =
    let d : (k * 4096 + i) / 4096 ≡ k = omega arith in
    let r : (k * 4096 + i) % 4096 ≡ i = omega arith in
    rw (d, r) refl

pub byte_in-page : (pages : List (List ℕ)) (k i : ℕ) → i < 4096 → byte_in pages (k * 4096 + i) ≡ page_byte (slice_get pages k) i
unfolding byte_in
byte_in-page pages k i h =
    let d : (k * 4096 + i) / 4096 ≡ k = omega arith in
    let r : (k * 4096 + i) % 4096 ≡ i = omega arith in
    rw (d, r) refl

pub byte_at-kept : (m n : PageMap) (p : ℕ) → page_of n (p / 4096) ≡ page_of m (p / 4096) → byte_at n p ≡ byte_at m p
unfolding byte_at
byte_at-kept m n p h = ap (λ o. page_byte o (p % 4096)) h

pub byte_at-none : (m : PageMap) (p : ℕ) → page_of m (p / 4096) ≡ None → byte_at m p ≡ 0
unfolding byte_at
byte_at-none m p e = ap (λ o. page_byte o (p % 4096)) e

pub byte_at-empty : (m : PageMap) → ((j : ℕ) → page_of m j ≡ None) → (p : ℕ) → byte_at m p ≡ 0
byte_at-empty m e p = byte_at-none m p (e (p / 4096))

-- a byte of a stored page
pub byte_at-stored : (m : PageMap) (p k : ℕ) (page : List ℕ) → page_of m k ≡ Some page → p / 4096 ≡ k → byte_at m p ≡ get_or page (p % 4096) 0
unfolding byte_at
byte_at-stored m p k page e d = ap (λ q. page_byte (page_of m q) (p % 4096)) d ∙ ap (λ o. page_byte o (p % 4096)) e

-- zeros written where there is no page
pub overlaid-blank : (m : PageMap) (k at : ℕ) (bs : List ℕ) → at + length bs ≤ 4096 → page_of m k ≡ None → All (λ b. b ≡ 0) bs
    → Overlaid m m (k * 4096 + at) (k * 4096 + (at + length bs)) (λ p. get_or bs (p - (k * 4096 + at)) 0)
overlaid-blank m k at bs bound e all = record {
  below = λ p h. refl;
  inside = λ p h l. grind (arith, e, byte_at-none m p, All-get_or (λ b. b ≡ 0) bs (p - (k * 4096 + at)) 0);
  above = λ p h. refl;
}
