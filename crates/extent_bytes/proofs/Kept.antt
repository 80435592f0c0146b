-- Maps of the same pages, where one was copied from the other.
use Rattle.std.proofs.Common.{◌≡◌, ℕ, ◌+◌, ◌/◌, ◌<◌, ◌≤◌, List, ap, arith, ◌∙◌, None, ◌⊎◌, ⊎_elim, refl}
use Rattle.extent_bytes.specs.Pages.{PageMap, page_of, levels, SamePages, SameRange, Overlaid, WrittenAt}
use Rattle.extent_bytes.proofs.PageFacts.{byte_at-none, same_bytes}

-- a copy of a map, as `clone` makes it
abbrev pub IsCopy : PageMap → PageMap → Type 0
IsCopy m n = SamePages m n × (levels n ≡ levels m)

-- what `make_mut` lends: the map itself, or a copy
pub copied : (m n : PageMap) → (n ≡ m) ⊎ IsCopy m n → SamePages m n
copied m n h = ⊎_elim (λ e j. ap (λ q. page_of q j) e) (λ z. z.0) h

pub same_range : (m n q : PageMap) (from to len : ℕ) → SamePages m n → SameRange n from q to len → SameRange m from q to len
same_range m n q from to len e h = λ i l. h i l ∙ same_bytes m n e (from + i)

-- a change of the copy
pub overlaid_copy : (m n q : PageMap) (lo hi : ℕ) (f : ℕ → ℕ) → SamePages m n → Overlaid n q lo hi f → Overlaid m q lo hi f
overlaid_copy m n q lo hi f e o = record {
  below = λ p h. o.below p h ∙ same_bytes m n e p;
  inside = o.inside;
  above = λ p h. o.above p h ∙ same_bytes m n e p;
}

pub written_copy : (m n q : PageMap) (lo at : ℕ) (bs : List ℕ) → SamePages m n → WrittenAt n q lo at bs → WrittenAt m q lo at bs
written_copy m n q lo at bs e w = record {
  below = λ p h. w.below p h ∙ same_bytes m n e p;
  gap = w.gap;
  inside = w.inside;
  above = λ p h. w.above p h ∙ same_bytes m n e p;
}

-- zeros where no page is stored
pub overlaid_none : (m : PageMap) (lo hi first last : ℕ) → first ≡ lo / 4096 → last ≡ (hi + 4095) / 4096 → ((j : ℕ) → first ≤ j → j < last → page_of m j ≡ None)
    → Overlaid m m lo hi (λ _. 0)
overlaid_none m lo hi first last e d none = record {
  below = λ p h. refl;
  inside = λ p h l. byte_at-none m p (none (p / 4096) (omega (arith, e)) (omega (arith, d)));
  above = λ p h. refl;
}
