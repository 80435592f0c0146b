-- Access sets as the code has them.
use Rattle.std.specs.Prelude.{◌≡◌, Bool, false, ◌&&◌, ◌||◌, List, [], ◌∷◌, map, refl}
use Rattle.std.specs.List.{list_any}
use mathlib.Core.Path.{ap, ◌∙◌}
use native.Mathlib.Omega.{arith}
use Rattle.world_parts.specs.Items as items
use Rattle.world_parts.specs.Uses.{item_meant, only_read, use_meant}
use Rattle.world_parts.specs.declared.footprint.Use.{Use}
use Rattle.world_parts.proofs.Sharing.{share-sym}

pub any-meant : (p : items.Use → Bool) (us : List Use) → list_any (λ u. p (use_meant u)) us ≡ list_any p (map use_meant us)
any-meant p [] = refl
any-meant p (u ∷ us) = ap (λ (b : Bool). p (use_meant u) || b) (any-meant p us)

-- whether two uses collide
abbrev meets : items.Use → items.Use → Bool
meets u v = (u.written || v.written) && items.share u.item v.item

-- whether two items share, as the code has them
abbrev shares : Use → Use → Bool
shares u v = items.share (item_meant u.item) (item_meant v.item)

-- whether one of some uses writes a part of the item of one of some others
abbrev pub writes_some : List Use → List Use → Bool
writes_some us vs = list_any (λ (u : Use). u.written && list_any (shares u) vs) us

neither : (a r : Bool) → r ≡ false → ((a && false) || r) ≡ false
neither a r h = grind arith

no_others : (vs : List Use) → list_any (λ (v : Use). v.written && false) vs ≡ false
no_others [] = refl
no_others (v ∷ vs) = neither v.written _ (no_others vs)

row_step : (a b s t k x y z w : Bool) → s ≡ t → ((a && x) || y) ≡ (z || w) → ((a && (s || x)) || ((b && (t || k)) || y)) ≡ ((((a || b) && s) || z) || ((b && k) || w))
row_step a b s t k x y z w e h = grind arith

-- one use of the first list, beside what the others of that list do
row : (u : Use) (k : Use → Bool) (vs : List Use)
    → ((u.written && list_any (shares u) vs) || list_any (λ (v : Use). v.written && (shares v u || k v)) vs)
    ≡ (list_any (λ (v : Use). meets (use_meant u) (use_meant v)) vs || list_any (λ (v : Use). v.written && k v) vs)
row u k [] = neither u.written false refl
row u k (v ∷ vs) = row_step u.written v.written (shares u v) (shares v u) (k v) _ _ _ _ (share-sym (item_meant u.item) (item_meant v.item)) (row u k vs)

rest_step : (x a r m y c : Bool) → (x || r) ≡ (m || y) → (a || y) ≡ c → ((x || a) || r) ≡ (m || c)
rest_step x a r m y c g h = grind arith

pub collide-meant : (us vs : List Use) → (writes_some us vs || writes_some vs us) ≡ items.collide (map use_meant us) (map use_meant vs)
collide-meant [] vs = no_others vs
collide-meant (u ∷ us) vs =
    rest_step _ _ _ _ _ _ (row u (λ v. list_any (shares v) us) vs) (collide-meant us vs)
    ∙ ap (λ (b : Bool). b || items.collide (map use_meant us) (map use_meant vs)) (any-meant (meets (use_meant u)) vs)

pub reads-meant : (us : List Use) → map use_meant (map only_read us) ≡ map (λ (u : items.Use). items.reads u.item) (map use_meant us)
reads-meant [] = refl
reads-meant (u ∷ us) = ap (λ f. items.reads (item_meant u.item) ∷ f) (reads-meant us)
