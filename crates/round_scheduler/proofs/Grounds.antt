-- How the places on which one rests are found one after another.
use Rattle.std.proofs.Common.{◌≡◌, ℕ, Bool, false, List, [], ◌∷◌, ◌++◌, inl, inr, sym, ap, ◌∙◌}
use Rattle.std.specs.Prelude.{◌&&◌, Option, Some}
use Rattle.interleaving.specs.Machine.{has}
use Rattle.interleaving.proofs.Members.{has-front, has-here, has-middle, has-snoc}
use Rattle.world_parts.specs.Items.{Item, chain_flag, one, all_descriptors, Footprint}
use Rattle.item_index.specs.Touching.{writes_item}
use Rattle.foot_print.specs.Outlook.{items_awaited}
use Rattle.foot_print.specs.declared.reaching.Outlook.{Outlook}
use Rattle.round_scheduler.specs.Grounds.{writes_one_of, AddsGround, IsGround, RestsOnGrounds}
use Rattle.wave_pick.proofs.Lists.{not_both}
use Rattle.wave_pick.proofs.Resting.{only}

-- A list with one more that does something, or none that is asked for.
module _ (asked : Bool) (does : Footprint → Bool) (earlier : List ℕ) (reaches : List (Option Footprint)) (old new : List ℕ) where
  pub adds_found : (i : ℕ) → new ≡ old ++ i ∷ [] → IsGround does earlier reaches i → AddsGround asked does earlier reaches old new
  adds_found i more g = record {
    kept = λ j h. ap (λ is. has is j) more ∙ has-front old (i ∷ []) j h;
    each = λ all j h. elim (has-snoc old i j (ap (λ is. has is j) (sym more) ∙ h)) [
      | inl there ↦ all j there
      | inr same ↦ (g.at, g.is_place ∙ ap Some (sym same))
    ];
    found = λ e. (i, (ap (λ is. has is i) more ∙ has-middle old i [], g));
  }

  pub adds_none : asked ≡ false → new ≡ old → AddsGround asked does earlier reaches old new
  adds_none none same = record {
    kept = λ j h. ap (λ is. has is j) same ∙ h;
    each = λ all j h. all j (ap (λ is. has is j) (sym same) ∙ h);
    found = λ e. not_both e none;
  }

-- One that writes an item, then one that writes the flag of the chain, and one that writes a descriptor.
module _ (o : Outlook) (chain : ℕ) (w : Item → Bool) (earlier : List ℕ) (reaches : List (Option Footprint)) (items : Footprint) (waits_by : items_awaited o.waits_by o.reach ≡ Some items) where
  pub rests_on_grounds : (i : ℕ) → IsGround (writes_one_of items) earlier reaches i → (alone two all : List ℕ) → alone ≡ i ∷ []
      → AddsGround (w (one (chain_flag chain))) (λ g. writes_item g (one (chain_flag chain))) earlier reaches alone two
      → AddsGround (o.takes_lowest && w all_descriptors) (λ g. writes_item g all_descriptors) earlier reaches two all
      → RestsOnGrounds o chain w earlier reaches all
  rests_on_grounds i g alone two all is flag lowest = record {
    items = items;
    waits_by = waits_by;
    each = lowest.each (flag.each (λ j h. (g.at, g.is_place ∙ ap Some (sym (only i j (ap (λ is. has is j) (sym is) ∙ h))))));
    writer = (i, (lowest.kept i (flag.kept i (ap (λ is. has is i) is ∙ has-here i [])), g));
    chained = λ e. let found = flag.found e in (found.0, (lowest.kept found.0 found.1.0, found.1.1));
    descriptors = lowest.found;
  }
