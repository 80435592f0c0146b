-- Bytes written over pages that others share: a patch has the pages that a range covers in part, and is written over.
use Rattle.std.proofs.Common.{◌≡◌, ℕ, ◌+◌, ◌-◌, ◌*◌, ◌/◌, ◌%◌, ◌<◌, ◌≤◌, ◌≢◌, List, get_or, take, drop, arith, refl, sym, ◌∙◌, ap, ⊎_elim}
use Rattle.std.proofs.lemmas.Bool.{cases_lt}
use Rattle.std.proofs.lemmas.List.{get_or-drop, get_or-take}
use Rattle.extent_bytes.specs.Pages.{PageMap, PageCopied, Overlaid, Completed, byte_at, page_byte, page_of}
use Rattle.extent_bytes.specs.Parted.{HasParted}
use Rattle.extent_bytes.proofs.Overlays.{one_page, overlaid_to}
use Rattle.extent_bytes.proofs.PageFacts.{byte_at-page}

-- a page put in place of another, as one of another map
pub page_taken : (m n source : PageMap) (k taken lo hi : ℕ) → lo ≡ 0 → hi ≡ 4096 → ((j : ℕ) → j ≢ k → page_of n j ≡ page_of m j) → page_of n k ≡ page_of source taken
    → Overlaid m n (k * 4096 + lo) (k * 4096 + hi) (λ p. byte_at source (taken * 4096 + (p - k * 4096)))
page_taken m n source k taken lo hi zero all others is =
    overlaid_to m n (k * 4096 + 0) (k * 4096 + 4096) _ _ _ _ (omega arith) (omega arith) (λ p h l. refl)
    (one_page m n k 0 4096 _ (omega arith) (omega arith) others
    (λ i h. absurd (omega arith))
    (λ i h l. ap (λ o. page_byte o i) is ∙ sym (byte_at-page source taken i l) ∙ ap (byte_at source) (omega arith))
    (λ i h l. absurd (omega arith)))

-- the page was shared
pub parted_shared : (source m n : PageMap) (first position : ℕ) → first ≤ position / 4096 → PageCopied m n (position / 4096 - first) 0 4096 source (position / 4096)
    → HasParted source m n first position
parted_shared source m n first position le o = record {
  parted = λ p some at. o.inside (p - first * 4096) (omega arith) (omega arith) ∙ ap (byte_at source) (omega arith);
  others = λ p apart. ⊎_elim
      (λ (before : p < (position / 4096 - first) * 4096 + 0). o.below p before)
      (λ (behind : (position / 4096 - first) * 4096 + 0 ≤ p). o.above p (omega arith))
      (cases_lt p ((position / 4096 - first) * 4096 + 0));
}

-- the parts of a range that lie ahead of its last page and within that, and what was put over them
pub record Parts (m none one two three four : PageMap) (at hi first last : ℕ) (f g : ℕ → ℕ) : Type 0 where
  pub from : first ≡ at / 4096
  pub to : last ≡ (hi - 1) / 4096
  pub apart : first < last
  pub ahead : HasParted m none one first at
  pub front : Overlaid one two (at % 4096) ((last - first) * 4096) f
  pub behind : HasParted m two three first hi
  pub back : Overlaid three four ((last - first) * 4096) (hi - first * 4096) g

pub parts_completed : (m none one two three four : PageMap) (at hi first last : ℕ) (f g : ℕ → ℕ) → Parts m none one two three four at hi first last f g
    → Completed m four four first (last + 1) at hi
parts_completed m none one two three four at hi first last f g t = record {
  below = λ p l h.
      let q = p - first * 4096 in
      t.back.below q (omega (arith, t.from, t.to, t.apart)) ∙ t.behind.others q (omega (arith, t.from, t.to, t.apart)) ∙ t.front.below q (omega (arith, t.from)) ∙ t.ahead.parted p (omega (arith, t.from)) (omega (arith, t.from));
  inside = λ p l h. refl;
  above = λ p l h. t.back.above (p - first * 4096) (omega arith) ∙ t.behind.parted p (omega (arith, t.to)) (omega (arith, t.to));
}

-- what a byte of the range is
pub parts_byte : (m none one two three four : PageMap) (at hi first last : ℕ) (bytes : List ℕ)
    → Parts m none one two three four at hi first last (λ p. get_or (take (last * 4096 - at) bytes) (p - at % 4096) 0) (λ p. get_or (drop (last * 4096 - at) bytes) (p - (last - first) * 4096) 0)
    → (p : ℕ) → at ≤ p → p < hi → byte_at four (p - first * 4096) ≡ get_or bytes (p - at) 0
parts_byte m none one two three four at hi first last bytes t p l h =
    let q = p - first * 4096 in
    ⊎_elim
    (λ (early : p < last * 4096).
    t.back.below q (omega (arith, t.from, t.to, t.apart)) ∙ t.behind.others q (omega (arith, t.from, t.to, t.apart)) ∙ t.front.inside q (omega (arith, t.from)) (omega (arith, t.from, t.apart))
    ∙ get_or-take (last * 4096 - at) bytes (q - at % 4096) 0 (omega (arith, t.from)) ∙ ap (λ i. get_or bytes i 0) (omega (arith, t.from)))
    (λ (late : last * 4096 ≤ p).
    t.back.inside q (omega (arith, t.apart)) (omega (arith, t.apart)) ∙ get_or-drop (last * 4096 - at) bytes (q - (last - first) * 4096) 0 ∙ ap (λ i. get_or bytes i 0) (omega (arith, t.from, t.apart)))
    (cases_lt p (last * 4096))
