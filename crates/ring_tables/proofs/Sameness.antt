-- Whether two finite maps of numbers are equal, told by the trees that hold them.
use Rattle.std.proofs.Common.{◌≡◌, ◌↔◌, ℕ, Bool}
use Rattle.std.specs.Prelude.{◌&&◌, nat_eq, IsTrue}
use Rattle.std.specs.Bool.{Decides}
use Rattle.std.specs.Cmp.{unsigned_Decides}
use Rattle.std.specs.Cmp.Lexicographic.{pointwise}
use Rattle.std.specs.declared.cmp.Ordering.{Ordering}
use Rattle.std.specs.BTreeMap.{BTreeMap}
use Rattle.std.specs.List.Sorted.{IsStrictlySortedBy}
use Rattle.std.specs.Map.{keys_of}
use Rattle.std.proofs.lemmas.Map.Lookups.{btree_map_eq-Decides}
use Rattle.finite_maps.specs.Table.{Table, IsKeyOrder}
use Rattle.finite_maps.specs.Maps.{table_of}
use Rattle.finite_maps.proofs.Ordered.{entries_agree, entries_of}

module _ {K : Type 0} {R : K → K → Ordering} (o : IsKeyOrder R) (m n : BTreeMap K ℕ) (t u : Table R ℕ) where
  pub entries_tell : {E : K → K → Bool} → ((a b : K) → Decides (E a b) (a ≡ b)) → IsStrictlySortedBy R (keys_of m.entries) → table_of o.total m.entries ≡ t
      → IsStrictlySortedBy R (keys_of n.entries) → table_of o.total n.entries ≡ u → (r : Bool)
      → r ≡ pointwise (λ (p q : K × ℕ). E p.0 q.0 && nat_eq p.1 q.1) m.entries n.entries → IsTrue r ↔ (t ≡ u)
  entries_tell d a e b f r h =
      let entries = btree_map_eq-Decides d unsigned_Decides m n r h in
      let agree = entries_agree o t u m.entries n.entries (entries_of o m.entries t a e) (entries_of o n.entries u b f) in
      ((λ same. agree.0 (entries.0 same)), (λ same. entries.1 (agree.1 same)))
