-- Where none of some may-access sets writes the item of one of some uses, none writes that of any of them.
use Rattle.std.specs.Prelude.{◌≡◌, ℕ, ◌+◌, Bool, true, false, not, ◌&&◌, ◌||◌, List, [], ◌∷◌, Option, Some, None, slice_get, if◌then◌else◌, refl}
use Rattle.std.specs.List.{list_any, position_from}
use native.Mathlib.Omega.{arith}
use mathlib.Core.Path.{ap, sym, ◌∙◌}
use Rattle.world_parts.specs.Items.{Footprint}
use Rattle.world_parts.specs.Uses.{item_meant}
use Rattle.world_parts.specs.declared.footprint.Use.{Use}
use Rattle.item_index.specs.Ahead.{at_place, one_at, one_of, written, written_before}
use Rattle.item_index.specs.Touching.{writes_item}
use Rattle.item_index.specs.declared.behind.Among.{Among}
use Rattle.item_index.specs.declared.behind.Behind.{Behind}

joined : (x y a b c d : Bool) → x ≡ (a || b) → y ≡ (c || d) → (x || y) ≡ ((a || c) || (b || d))
joined x y a b c d f g = grind arith

at_either : (p q : Footprint → Bool) (o : Option (Option Footprint)) → at_place (λ f. p f || q f) o ≡ (at_place p o || at_place q o)
at_either p q (Some (Some f)) = refl
at_either p q (Some None) = refl
at_either p q None = refl

one_either : (p q : Footprint → Bool) (table : List (Option Footprint)) (ks : List ℕ) → one_at table ks (λ f. p f || q f) ≡ (one_at table ks p || one_at table ks q)
one_either p q table [] = refl
one_either p q table (k ∷ ks) =
    let o = slice_get table k in
    joined (at_place (λ f. p f || q f) o) (one_at table ks (λ f. p f || q f)) (at_place p o) (at_place q o) (one_at table ks p) (one_at table ks q) (at_either p q (slice_get table k)) (one_either p q table ks)

pub off : (b : Bool) → not b ≡ true → b ≡ false
off b h = grind arith

apart : (a b : Bool) → (a || b) ≡ false → (a ≡ false) × (b ≡ false)
apart a b h = (grind arith, grind arith)

still_none : (a b r : Bool) → b ≡ false → r ≡ false → ((a && b) || r) ≡ false
still_none a b r f g = grind arith

-- whether an access set writes a part of the item of a use
abbrev writes_use : Footprint → Use → Bool
writes_use f u = writes_item f (item_meant u.item)

none_written : (all : Use → Bool) (table : List (Option Footprint)) (ks : List ℕ) (us : List Use) → one_at table ks (λ f. list_any (writes_use f) us) ≡ false
    → list_any (λ u. all u && one_at table ks (λ f. writes_use f u)) us ≡ false
none_written all table ks [] h = refl
none_written all table ks (u ∷ us) h =
    let two = apart (one_at table ks (λ f. writes_use f u)) (one_at table ks (λ f. list_any (writes_use f) us)) (sym (one_either (λ f. writes_use f u) (λ f. list_any (writes_use f) us) table ks) ∙ h) in
    still_none (all u) (one_at table ks (λ f. writes_use f u)) (list_any (λ v. all v && one_at table ks (λ f. writes_use f v)) us) two.0 (none_written all table ks us two.1)

pub none_written_before : (b : Behind) (among : Among) (us : List Use) → b.among ≡ Some among → one_at among.reaches.now among.places.now (λ f. list_any (writes_use f) us) ≡ false
    → list_any (λ u. written_before b (item_meant u.item)) us ≡ false
unfolding written_before
none_written_before b among us is none =
    ap (λ o. list_any (λ u. one_of (written b.ahead.now (item_meant u.item)) o (λ f. writes_use f u)) us) is
    ∙ none_written (λ u. written b.ahead.now (item_meant u.item)) among.reaches.now among.places.now us none

-- no use passes, so none is the first
pub none_first : {X : Type 0} (p : X → Bool) (n : ℕ) (us : List X) → list_any p us ≡ false → position_from p n us ≡ None
none_first p n [] h = refl
none_first p n (u ∷ us) h = rw ((apart (p u) (list_any p us) h).0) (none_first p (n + 1) us (apart (p u) (list_any p us) h).1)

one_more : (w t r a b : Bool) → r ≡ false → a ≡ b → ((w && t) || a) ≡ ((if w then t else r) || b)
one_more w t r a b f g = grind arith

-- where none of the items is written, only written uses are in the way of another place
pub written_alone : (t r : Use → Bool) (us : List Use) → list_any r us ≡ false → list_any (λ u. u.written && t u) us ≡ list_any (λ u. if u.written then t u else r u) us
written_alone t r [] h = refl
written_alone t r (u ∷ us) h =
    one_more u.written (t u) (r u) (list_any (λ v. v.written && t v) us) (list_any (λ v. if v.written then t v else r v) us) (apart (r u) (list_any r us) h).0
    (written_alone t r us (apart (r u) (list_any r us) h).1)
