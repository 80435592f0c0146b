-- Those for whom a place waits, one more.
use Rattle.std.specs.Prelude.{◌≡◌, ℕ, zero, suc, ◌<◌, List, [], ◌∷◌, ◌++◌, map, length, Option, Some, None, slice_index_or}
use Rattle.std.specs.List.{cons_option}
use Rattle.std.specs.Option.{option_map}
use Rattle.std.proofs.Common.{get_or, sym, ap, ◌∙◌, arith, append_assoc}
use Rattle.world_parts.specs.Items.{Item, Footprint}
use Rattle.world_parts.specs.Uses.{use_meant}
use Rattle.world_parts.specs.declared.footprint.Use.{Use}
use Rattle.wave_pick.specs.Holding.{shared_with}
use Rattle.foot_waits.specs.Rule.{use_at}
use Rattle.depend_log.specs.Shared.{waits_of}
use Rattle.depend_log.specs.Waits.{Waited}

module _ (f : Footprint) (feet : List Footprint) (a i : ℕ) (rest : List (ℕ × ℕ)) (ws all : List Waited) (so : ws ++ waits_of f feet ((a, i) ∷ rest) ≡ all) where
  abbrev told : Option Item → List Waited
  told o = ws ++ cons_option (option_map (λ (x : Item). let w : Waited = record { after = a; on = x } in w) o) (waits_of f feet rest)

  pub waits_more : (x : Item) → shared_with (use_at f i) (slice_index_or feet a []) ≡ Some x → (ws ++ record { after = a; on = x } ∷ []) ++ waits_of f feet rest ≡ all
  waits_more x is =
      let w : Waited = record { after = a; on = x } in
      append_assoc ws (w ∷ []) (waits_of f feet rest) ∙ ap told (sym is) ∙ so

  pub waits_same : shared_with (use_at f i) (slice_index_or feet a []) ≡ None → ws ++ waits_of f feet rest ≡ all
  waits_same is = ap told (sym is) ∙ so

-- the use at a number
pub meant_at : (us : List Use) (i : ℕ) (u : Use) → i < length us → u ≡ get_or us i u → use_meant u ≡ use_at (map use_meant us) i
meant_at [] i u lt e = absurd (omega arith)
meant_at (v ∷ us) zero u lt e = ap use_meant e
meant_at (v ∷ us) (suc i) u lt e = meant_at us i u (omega arith) e

-- what is read at a number that is there
pub read_at : {A : Type 0} (xs : List A) (i : ℕ) (x d : A) → i < length xs → x ≡ get_or xs i x → get_or xs i d ≡ x
read_at [] i x d lt e = absurd (omega arith)
read_at (y ∷ xs) zero x d lt e = sym e
read_at (y ∷ xs) (suc i) x d lt e = read_at xs i x d (omega arith) e
