-- A use that only reads collides with none but written ones.
use Rattle.std.proofs.Common.{◌≡◌, Bool, true, false, List, [], ◌∷◌, map, filter, refl, sym, ap, ◌∙◌}
use Rattle.std.specs.Prelude.{cond, None}
use Rattle.std.specs.Option.{option_or}
use Rattle.world_parts.specs.Items as items
use Rattle.world_parts.specs.Uses.{use_meant}
use Rattle.world_parts.specs.declared.footprint.Use.{Use}
use Rattle.wave_pick.specs.Holding.{shared_by, shared_with}

-- two reads collide in nothing
none_of_reads : (u v : items.Use) → u.written ≡ false → v.written ≡ false → shared_by u v ≡ None
none_of_reads u v one other = rw (one, other) refl

-- one more of the others, whether it is written or not
reading_step : (u : items.Use) (v : Use) (ws vs : List Use) (b : Bool) → v.written ≡ b → u.written ≡ false
    → shared_with u (map use_meant ws) ≡ shared_with u (map use_meant vs)
    → shared_with u (map use_meant (cond b (v ∷ ws) ws)) ≡ shared_with u (map use_meant (v ∷ vs))
reading_step u v ws vs true is reads same = ap (option_or (shared_by u (use_meant v))) same
reading_step u v ws vs false is reads same = same ∙ sym (ap (λ o. option_or o (shared_with u (map use_meant vs))) (none_of_reads u (use_meant v) reads is))

-- What it shares with the written ones is what it shares with all.
pub shared_reading : (u : items.Use) (vs : List Use) → u.written ≡ false
    → shared_with u (map use_meant (filter (λ v. v.written) vs)) ≡ shared_with u (map use_meant vs)
shared_reading u [] reads = refl
shared_reading u (v ∷ vs) reads = reading_step u v (filter (λ w. w.written) vs) vs v.written refl reads (shared_reading u vs reads)
