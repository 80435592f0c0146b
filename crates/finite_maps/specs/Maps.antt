-- A view of code: the finite map that the entries of a search tree stand for.
use Rattle.std.specs.Prelude.{List, [], ◌∷◌, map}
use Rattle.std.specs.declared.cmp.Ordering.{Ordering}
use Rattle.std.specs.Cmp.{IsTotalOrder}
use Rattle.finite_maps.specs.Table.{Table, empty, insert}

-- the map with these entries; the first one counts where a key comes twice
abbrev pub table_of : {K X : Type 0} {R : K → K → Ordering} → IsTotalOrder R → List (K × X) → Table R X
table_of o [] = empty
table_of o (e ∷ es) = insert o (table_of o es) e.0 e.1

-- the same, where each key is seen by a function
abbrev pub seen_table : {K L X : Type 0} {R : L → L → Ordering} → IsTotalOrder R → (K → L) → List (K × X) → Table R X
seen_table o f es = table_of o (map (λ e. (f e.0, e.1)) es)
