-- Whether two finite maps are equal, told by their entries.
use Rattle.std.proofs.Common.{◌≡◌, ℕ, sym, ◌∙◌, ap}
use Rattle.std.specs.Prelude.{◌≢◌, Bool, nat_eq}
use Rattle.std.specs.Bool.{Decides}
use Rattle.std.specs.Cmp.{unsigned_Decides}
use Rattle.std.specs.Cmp.Lexicographic.{pointwise, pointwise_decides}
use Rattle.std.specs.declared.cmp.Ordering.{Ordering}
use Rattle.std.proofs.lemmas.Bool.Decides.{Decides-at}
use Rattle.finite_maps.specs.Table.{Table, count, same_entries_table}

module _ {K X : Type 0} {R : K → K → Ordering} (t u : Table R X) where
  pub same_entries_decide : {E : K × X → K × X → Bool} → ((p q : K × X) → Decides (E p q) (p ≡ q)) → (r : Bool) → r ≡ pointwise E t.entries u.entries → Decides r (t ≡ u)
  same_entries_decide d r e =
      let entries = Decides-at r _ e (pointwise_decides d t.entries u.entries) in
      (λ h. same_entries_table t u (entries.0 h), λ h. entries.1 (ap (λ (m : Table R X). m.entries) h))

  pub other_counts_decide : (a b : ℕ) → a ≡ count t → b ≡ count u → a ≢ b → Decides (nat_eq a b) (t ≡ u)
  other_counts_decide a b e f n = (λ h. absurd (n ((unsigned_Decides a b).0 h)), λ h. absurd (n (e ∙ ap (λ (m : Table R X). count m) h ∙ sym f)))
