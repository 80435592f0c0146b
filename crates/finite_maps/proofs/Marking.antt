-- A number that is marked.
use Rattle.std.proofs.Common.{◌≡◌, ℕ, Bool, true, false, refl, ◌∙◌, nat_eq}
use Rattle.std.specs.Prelude.{cond, ◌||◌}
use Rattle.indexmap.specs.IndexSet.{IndexSet, contains, Updates}
use Rattle.finite_maps.specs.Marks.{Marks}

or_by : (a b : Bool) → cond a true b ≡ (b || a)
or_by true true = refl
or_by true false = refl
or_by false true = refl
or_by false false = refl

pub marks-insert : {S : Type 0} (old new : IndexSet ℕ S) (k : ℕ) → Updates nat_eq old new k true → Marks (λ i. nat_eq k i) old new
marks-insert old new k u i = u.0 i ∙ or_by (nat_eq k i) (contains nat_eq old i)
