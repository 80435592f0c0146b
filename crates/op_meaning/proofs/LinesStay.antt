-- What is put behind the bytes of replies leaves these replies as they are.
use Rattle.std.proofs.Common.{◌≡◌, ℕ, ◌<◌, List, [], ◌∷◌, length, get_or, take, drop, map, refl, ap, sym, subst, ◌∙◌, arith, length-append, length-drop}
use Rattle.std.proofs.lemmas.List.Elements.{All-head, All-tail}
use Rattle.std.proofs.lemmas.List.{take-append-le, drop-append-le, get_or_append_left}
use Rattle.op_meaning.specs.declared.replies.Line.{Line}
use Rattle.op_meaning.specs.declared.replies.Spot.{Spot}
use Rattle.op_meaning.specs.declared.replies.Spot.TheVariants.{Copied, Listed}
use Rattle.op_meaning.specs.Listing.{bytes_at, reply_at, AreThere, Extends, IsThere}

-- the bytes of a spot are the same
pub bytes-behind : (copied copied' : List ℕ) (lists lists' : List (List ℕ)) (spot : Spot) → Extends copied copied' → Extends lists lists' →
    IsThere copied lists spot → bytes_at copied' lists' spot ≡ bytes_at copied lists spot
bytes-behind copied copied' lists lists' (Copied count at) c l there =
    ap (λ xs. take count (drop at xs)) c.1 ∙ ap (take count) (drop-append-le at copied c.0 (omega (arith, there.0)))
    ∙ take-append-le count (drop at copied) c.0 (omega (arith, there.0, length-drop at copied))
bytes-behind copied copied' lists lists' (Listed index) c l there = ap (λ xs. get_or xs index []) l.1 ∙ get_or_append_left lists l.0 [] index there.0

-- and are still there
pub there-behind : (copied copied' : List ℕ) (lists lists' : List (List ℕ)) (spot : Spot) → Extends copied copied' → Extends lists lists' →
    IsThere copied lists spot → IsThere copied' lists' spot
there-behind copied copied' lists lists' (Copied count at) c l there = (omega (arith, there.0, ap length c.1, length-append copied c.0), there.1)
there-behind copied copied' lists lists' (Listed index) c l there = (
  omega (arith, there.0, ap length l.1, length-append lists l.0),
  subst (λ bytes. 2048 < length bytes) (sym (bytes-behind copied copied' lists lists' (Listed index) c l there)) there.1,
)

-- so are those of all lines
pub all-behind : (copied copied' : List ℕ) (lists lists' : List (List ℕ)) (lines : List Line) → Extends copied copied' → Extends lists lists' →
    AreThere copied lists lines → AreThere copied' lists' lines
all-behind copied copied' lists lists' lines c l there k d below = there-behind copied copied' lists lists' (get_or lines k d).spot c l (there k d below)

-- the replies are the same
pub replies-behind : (copied copied' : List ℕ) (lists lists' : List (List ℕ)) (lines : List Line) → Extends copied copied' → Extends lists lists' →
    AreThere copied lists lines → map (reply_at copied' lists') lines ≡ map (reply_at copied lists) lines
replies-behind copied copied' lists lists' [] c l there = refl
replies-behind copied copied' lists lists' (line ∷ lines) c l there =
    let P : Line → Type 0 = λ x. IsThere copied lists x.spot in
    let here = bytes-behind copied copied' lists lists' line.spot c l (All-head P line lines there) in
    let others = replies-behind copied copied' lists lists' lines c l (All-tail P line lines there) in
    λ i. record { res = line.res; bytes = here i; posted = line.posted } ∷ others i
