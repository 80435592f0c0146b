-- Bytes compared.
use Rattle.std.proofs.Common.{IsSome, ◌≡◌, ℕ, ◌+◌, ◌-◌, ◌*◌, ◌/◌, ◌%◌, ◌<◌, ◌≤◌, ◌↔◌, List, Bool, length, take, drop, get_or, replicate, arith, sym, ◌∙◌, ap, min, max, Some, refl, ⊎_elim}
use Rattle.std.specs.Prelude.{IsTrue, All, nat_eq}
use Rattle.std.specs.Cmp.Lexicographic.{pointwise}
use Rattle.std.proofs.lemmas.Bool.{cases_lt}
use Rattle.std.proofs.lemmas.Bool.Decides.{Decides-eqb}
use Rattle.std.proofs.lemmas.Slice.Eq.{slice_eq-Decides}
use Rattle.std.proofs.lemmas.List.{get_or-replicate}
use Rattle.std.proofs.lemmas.List.Elements.{All-get_or, All-from_get_or}
use Rattle.extent_bytes.specs.Pages.{StoredAgree, PageMap, page_of, byte_at, bytes_from, HoldsAt, PageAgrees}
use Rattle.extent_bytes.proofs.ExtentFacts.{bytes_from-is, get_or-bytes_from}
use Rattle.extent_bytes.proofs.Lists.{get_or-part, length-part}
use Rattle.extent_bytes.proofs.Outcomes.{some_or_none}
use Rattle.extent_bytes.proofs.PageFacts.{byte_at-none, byte_at-stored}

-- bytes of a page against others, where the page is there
pub part_holds : (f : ℕ → ℕ) (at n : ℕ) (xs bs : List ℕ) (r : Bool) → n ≡ length bs → xs ≡ bytes_from f at n → r ≡ pointwise nat_eq xs bs → IsTrue r ↔ HoldsAt f at bs
part_holds f at n xs bs r e part tested =
    let d = slice_eq-Decides Decides-eqb xs bs r tested in (
      (λ t i h. sym (get_or-bytes_from f at n i (omega (arith, e))) ∙ ap (λ l. get_or l i 0) (sym part ∙ d.0 t)),
      (λ held. d.1 (part ∙ bytes_from-is f at n bs (sym e) (λ i h. held i (omega (arith, e))))),
    )

-- and where it isn't
pub blank_holds : (f : ℕ → ℕ) (at n : ℕ) (bs : List ℕ) (r : Bool) → n ≡ length bs → bytes_from f at n ≡ replicate n 0 → IsTrue r ↔ All (λ b. b ≡ 0) bs → IsTrue r ↔ HoldsAt f at bs
blank_holds f at n bs r e blank tested =
    let zero = λ (i : ℕ) (h : i < length bs). sym (get_or-bytes_from f at n i (omega (arith, e))) ∙ ap (λ l. get_or l i 0) blank ∙ get_or-replicate n i 0 0 (omega (arith, e)) in (
      (λ t i h. zero i h ∙ sym (All-get_or (λ b. b ≡ 0) bs i 0 h (tested.0 t))),
      (λ held. tested.1 (All-from_get_or (λ b. b ≡ 0) bs 0 (λ i h. sym (held i h) ∙ zero i h))),
    )

-- one more part of the bytes is held
pub holds_more : (f : ℕ → ℕ) (at done count a : ℕ) (bs : List ℕ) → a ≡ at + done → done + count ≤ length bs → HoldsAt f a (take (done + count - done) (drop done bs))
    → ((i : ℕ) → i < done → f (at + i) ≡ get_or bs i 0) → (i : ℕ) → i < done + count → f (at + i) ≡ get_or bs i 0
holds_more f at done count a bs e bound part before i h = grind (arith, length-part, part (i - done), before i, get_or-part)

-- and each part of them is, where they all are
pub part_held : (f : ℕ → ℕ) (at done count a : ℕ) (bs : List ℕ) → a ≡ at + done → done + count ≤ length bs → HoldsAt f at bs → HoldsAt f a (take (done + count - done) (drop done bs))
part_held f at done count a bs e bound held = λ i h.
    let n = length-part bs done (done + count) (omega arith) bound in
    ap f (omega arith) ∙ held (done + i) (omega arith) ∙ sym (get_or-part bs done (done + count) i (done + i) (omega arith) refl)

-- a part of a page against a map
pub part_agrees : (other : ℕ → ℕ) (k start end target from to : ℕ) (page : List ℕ) → length page ≡ 4096 → start / 4096 ≤ k → k * 4096 < end
    → start ≤ end → from ≡ max start (k * 4096) → to ≡ min end (k * 4096 + 4096)
    → HoldsAt other (target + (from - start)) (take (to - k * 4096 - (from - k * 4096)) (drop (from - k * 4096) page)) ↔ PageAgrees page k start end other target
part_agrees other k start end target from to page long first last forward a b =
    let n = length-part page (from - k * 4096) (to - k * 4096) (omega arith) (omega (arith, long)) in (
      (λ held i h e. grind (arith, n, held (i - (from - start)), get_or-part)),
      (λ agrees i h. grind (arith, n, agrees (from - start + i), get_or-part)),
    )

-- the stored pages that were compared agree, and then the next one
pub agree_more : (m : PageMap) (other : ℕ → ℕ) (start end target at last number : ℕ) (page : List ℕ) → page_of m number ≡ Some page → number < last
    → ((j : ℕ) → at ≤ j → j < last → IsSome (page_of m j) → number ≤ j)
    → PageAgrees page number start end other target
    → ((i : ℕ) → start + i < end → (start + i) / 4096 < at → IsSome (page_of m ((start + i) / 4096)) → other (target + i) ≡ byte_at m (start + i))
    → (i : ℕ) → start + i < end → (start + i) / 4096 < number + 1 → IsSome (page_of m ((start + i) / 4096)) → other (target + i) ≡ byte_at m (start + i)
agree_more m other start end target at last number page stored below least agrees before i l h s =
    grind (arith, stored, s, agrees i, before i, byte_at-stored, least ((start + i) / 4096))

-- one stored page agrees if all do
pub agree_at : (m : PageMap) (other : ℕ → ℕ) (start end target k : ℕ) (page : List ℕ) → page_of m k ≡ Some page → StoredAgree m start end other target → PageAgrees page k start end other target
agree_at m other start end target k page e all = λ i h d. grind (arith, e, all i, byte_at-stored)

-- all bytes of a list are held just where it is that list
pub all_held : (f : ℕ → ℕ) (s n : ℕ) (xs bs : List ℕ) → bytes_from f s n ≡ xs → n ≡ length bs → HoldsAt f s bs ↔ (xs ≡ bs)
all_held f s n xs bs e d = (
  (λ held. sym e ∙ bytes_from-is f s n bs (sym d) (λ i h. held i (omega (arith, d)))),
  (λ same i h. sym (get_or-bytes_from f s n i (omega (arith, d))) ∙ ap (λ l. get_or l i 0) (e ∙ same)),
)

-- a page of zeros has those of a list of zeros
pub blank_agrees : (page : List ℕ) (number start end target : ℕ) → length page ≡ 4096 → All (λ b. b ≡ 0) page → PageAgrees page number start end (λ _. 0) target
blank_agrees page number start end target long all i h d = sym (All-get_or (λ b. b ≡ 0) page ((start + i) % 4096) 0 (omega (arith, long)) all)

-- bytes below a page are zeros, where those of the stored pages are
pub zeros_before : (m : PageMap) (start end at number : ℕ) → ((j : ℕ) → at ≤ j → j < number → IsSome (page_of m j) → number ≤ j)
    → ((i : ℕ) → start + i < end → (start + i) / 4096 < at → IsSome (page_of m ((start + i) / 4096)) → 0 ≡ byte_at m (start + i))
    → (i : ℕ) → start + i < end → (start + i) / 4096 < number → byte_at m (start + i) ≡ 0
zeros_before m start end at number least before i l h =
    let p : ℕ = (start + i) / 4096 in
    ⊎_elim
    (λ some. ⊎_elim
    (λ (below : p < at). sym (before i l below some))
    (λ (above : at ≤ p). let no : number ≤ p = least p above h some in absurd (omega arith))
    (cases_lt p at))
    (λ none. byte_at-none m (start + i) none)
    (some_or_none (page_of m p))
