use Rattle.std.proofs.Common.{nat_eq, rules, ap, ◌∙◌}
use Rattle.std.specs.Map.{lookup}
use Rattle.indexmap.specs.IndexSet.{contains}
use Rattle.indexmap.proofs.CallerLemmas.{filter-RetainsPairs}
use Rattle.finite_maps.proofs.Sifting.{lookup-filter}
use Rattle.finite_maps.proofs.numbered.keep_only.Goals as goal

pub returns : goal.returns
returns g c q =
    ap (lookup (nat_eq q)) (filter-RetainsPairs _ (λ e. contains nat_eq c.args.numbers.now e.0) _ (λ k v b w f call. search rules) _ _ c.retain.ensures.filtered)
    ∙ lookup-filter (λ k. contains nat_eq c.args.numbers.now k) q c.args.map.now.entries
