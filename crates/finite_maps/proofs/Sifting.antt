-- Index maps by number of which some entries are kept, and whether one has a value of some kind.
use Rattle.std.proofs.Common.{◌≡◌, ℕ, Bool, true, false, List, [], ◌∷◌, Some, sym, ◌∙◌, ap, refl, true≢false}
use Rattle.std.specs.Prelude.{cond, ◌&&◌, ◌||◌, Option, None, nat_eq, is_some, filter}
use Rattle.std.specs.Cmp.{unsigned_Decides}
use Rattle.std.specs.List.{list_any, IsDistinct}
use Rattle.std.specs.Map.{lookup, keys_of}
use Rattle.std.specs.declared.cmp.Ordering.{Ordering}
use Rattle.std.specs.declared.cmp.Ordering.TheVariants.{Less, Equal, Greater}
use Rattle.std.specs.Ordering.{nat_cmp, is_eq}
use Rattle.std.specs.FinMap.Entries.{put, find, by_order}
use Rattle.std.specs.HashMap.{HashMap}
use Rattle.std.specs.HashMap as hash
use Rattle.indexmap.specs.IndexSet.{IndexSet, contains}
use Rattle.finite_maps.specs.Table.{Table, number_keys, same_table}
use Rattle.finite_maps.specs.Maps.{table_of}
use Rattle.finite_maps.specs.Sifted.{only, has_value, get-only}
use Rattle.finite_maps.proofs.Indexed.{get-of, none_again}

or_turn : (a b c : Bool) → (a || (b || c)) ≡ (b || (a || c))
or_turn true true c = refl
or_turn true false c = refl
or_turn false b c = refl

module _ {X : Type 0} where
  -- what is found among the entries that are kept
  pub lookup-filter : (p : ℕ → Bool) (q : ℕ) (es : List (ℕ × X)) → lookup (nat_eq q) (filter (λ (e : ℕ × X). p e.0) es) ≡ cond (p q) (lookup (nat_eq q) es) None
  lookup-filter p q [] = nothing (p q)
    where
      nothing : (b : Bool) → ◌≡◌ {A = Option X} None (cond b None None)
      nothing true = refl
      nothing false = refl
  lookup-filter p q (e ∷ es) = by (lookup-filter p q es) (nat_eq q e.0) (p e.0) refl refl
    where
      kept : List (ℕ × X)
      kept = filter (λ (f : ℕ × X). p f.0) es

      by : lookup (nat_eq q) kept ≡ cond (p q) (lookup (nat_eq q) es) None → (same is : Bool) → nat_eq q e.0 ≡ same → p e.0 ≡ is → lookup (nat_eq q) (cond is (e ∷ kept) kept) ≡ cond (p q) (cond same (Some e.1) (lookup (nat_eq q) es)) None
      by later true true s h = ap (λ b. cond b (Some e.1) (lookup (nat_eq q) kept)) s ∙ ap (λ b. cond b (Some e.1) None) (sym h ∙ ap p (sym ((unsigned_Decides q e.0).0 s)))
      by later true false s h =
          later ∙ ap (λ b. cond b (lookup (nat_eq q) es) None) (ap p ((unsigned_Decides q e.0).0 s) ∙ h)
          ∙ sym (ap (λ b. cond b (Some e.1) None) (ap p ((unsigned_Decides q e.0).0 s) ∙ h))
      by later false true s h = ap (λ b. cond b (Some e.1) (lookup (nat_eq q) kept)) s ∙ later
      by later false false s h = later

  -- a map of which some numbers are kept
  pub seen-only : {S Z : Type 0} (m n : HashMap ℕ X S) (t : Table nat_cmp X) (numbers : IndexSet ℕ Z) → table_of number_keys.total m.entries ≡ t
      → ((q : ℕ) → hash.get nat_eq n q ≡ cond (contains nat_eq numbers q) (hash.get nat_eq m q) None)
      → table_of number_keys.total n.entries ≡ only (λ q. contains nat_eq numbers q) t
  seen-only m n t numbers is h =
      same_table number_keys _ _ (λ q. get-of n.entries _ q refl ∙ h q ∙ ap (λ r. cond (contains nat_eq numbers q) r None) (sym (get-of m.entries t q is))
      ∙ sym (get-only number_keys (λ k. contains nat_eq numbers k) t q))

  -- an entry that is put where there was none is one more
  any-put : (f : ℕ × X → Bool) (k : ℕ) (v : X) (es : List (ℕ × X)) → find nat_cmp k es ≡ None → list_any f (put nat_cmp k v es) ≡ (f (k, v) || list_any f es)
  any-put f k v [] none = refl
  any-put f k v (e ∷ es) none = by (any-put f k v es) (nat_cmp k e.0) refl none
    where
      by : (find nat_cmp k es ≡ None → list_any f (put nat_cmp k v es) ≡ (f (k, v) || list_any f es)) → (r : Ordering) → nat_cmp k e.0 ≡ r → cond (is_eq r) (Some e.1) (find nat_cmp k es) ≡ None
          → list_any f (by_order r ((k, v) ∷ e ∷ es) ((e.0, v) ∷ es) (e ∷ put nat_cmp k v es)) ≡ (f (k, v) || list_any f (e ∷ es))
      by later Less is rest = refl
      by later Equal is rest = absurd (true≢false (ap is_some rest))
      by later Greater is rest = ap (λ b. f e || b) (later rest) ∙ or_turn (f e) (f (k, v)) (list_any f es)

  -- a test holds of an entry of the map just where it holds of one of the entries that it stands for
  pub any-table_of : (f : ℕ × X → Bool) (es : List (ℕ × X)) → IsDistinct nat_eq (keys_of es) → list_any f (table_of number_keys.total es).entries ≡ list_any f es
  unfolding IsDistinct
  any-table_of f [] h = refl
  any-table_of f (e ∷ es) h = any-put f e.0 e.1 (table_of number_keys.total es).entries (none_again e es h.0) ∙ ap (λ b. f e || b) (any-table_of f es h.1)

  any-filter : (f g : ℕ × X → Bool) (es : List (ℕ × X)) → list_any f (filter g es) ≡ list_any (λ e. g e && f e) es
  any-filter f g [] = refl
  any-filter f g (e ∷ es) = by (any-filter f g es) (g e)
    where
      by : list_any f (filter g es) ≡ list_any (λ e. g e && f e) es → (b : Bool) → list_any f (cond b (e ∷ filter g es) (filter g es)) ≡ ((b && f e) || list_any (λ e. g e && f e) es)
      by later true = ap (λ b. f e || b) later
      by later false = later

  module _ (es : List (ℕ × X)) (t : Table nat_cmp X) (distinct : IsDistinct nat_eq (keys_of es)) (is : table_of number_keys.total es ≡ t) where
    -- whether the map has a value for which a test holds
    pub has_value-of : (p : X → Bool) → list_any (λ (e : ℕ × X). p e.1) es ≡ has_value p t
    has_value-of p = sym (any-table_of (λ e. p e.1) es distinct) ∙ ap (λ (m : Table nat_cmp X). has_value p m) is

    -- whether it has one at a number for which another test holds
    pub has_value-only-of : (p : X → Bool) (q : ℕ → Bool) → list_any (λ (e : ℕ × X). q e.0 && p e.1) es ≡ has_value p (only q t)
    has_value-only-of p q =
        sym (any-table_of (λ e. q e.0 && p e.1) es distinct) ∙ ap (λ (m : Table nat_cmp X). list_any (λ (e : ℕ × X). q e.0 && p e.1) m.entries) is
        ∙ sym (any-filter (λ e. p e.1) (λ e. q e.0) t.entries)
