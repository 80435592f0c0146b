-- Places run on parts, which are put back.
use native.Mathlib.Omega.{arith}
use Rattle.std.specs.Prelude.{◌≡◌, ℕ, ◌-◌, true, false, cond, [], ◌∷◌, replicate, Option, None, refl, IfSome}
use Rattle.std.specs.Option.{option_map}
use mathlib.Core.Logic.{inl, inr}
use mathlib.Core.Path.{sym, subst, ap, ◌∙◌}
use Rattle.recording.specs.declared.recording.Recording.{Recording}
use Rattle.file_tree.specs.Tree.{kind_of_node}
use Rattle.finite_maps.specs.Table.{get}
use Rattle.world_parts.specs.World.{World, IsWorld, kind, opened, opened_by, zero_bytes, write_buffer, apply_all}
use Rattle.world_parts.specs.Items.{Item, file_bytes, buffer_bytes, Use, Footprint}
use Rattle.world_parts.specs.Cutting.{zeros_in, holed, Shows, IsPartOf, PutsTo}
use Rattle.op_meaning.specs.Meaning.{made_node, made_description}
use Rattle.op_meaning.specs.Step.{step_world}
use Rattle.foot_print.specs.Footprint.{footprint}
use Rattle.foot_print.specs.Laws.{Unused, CoversAt}
use Rattle.foot_print.specs.Parts.{PlacesRunOnParts, HolesKeepWorlds}
use Rattle.world_parts.proofs.Collision.{writes-has}
use Rattle.world_parts.proofs.Holes.{after_use, holed-first, holed-left, same_put}
use Rattle.foot_print.proofs.Awaiting.{awaits_unused, nothing}
use Rattle.foot_print.proofs.Cover.{all_covered}
use Rattle.foot_print.proofs.KeepContents.{contents_world}

-- What the whole doesn't have, its part doesn't show.
hidden : {A : Type 0} (x y : Option A) → Shows x y → y ≡ None → x ≡ None
hidden x y s h = grind arith

shown : {A : Type 0} (P : A → Type 0) (x y : Option A) → Shows x y → IfSome y P → IfSome x P
shown P x y (inl e) h = subst (λ z. IfSome z P) (sym e) tt
shown P x y (inr e) h = subst (λ z. IfSome z P) (sym e) h

-- What a place makes is unused in each part of a world that awaits it.
pub part_unused : (t : Recording) (k : ℕ) (s part : World) (f : Footprint) → Unused t k s → IsPartOf s f part → Unused t k part
part_unused t k s part f w is = record {
  no_node = nothing kind_of_node (get part.nodes i) (hidden (kind part i) (kind s i) (is.nodes i) (ap (option_map kind_of_node) w.no_node));
  no_description = nothing (opened_by part) (get part.descriptions d) (hidden (opened part d) (opened s d) (is.descriptions d) (ap (option_map (opened_by s)) w.no_description));
  unnamed = λ e n. shown (λ x. ¬ (x.node ≡ i)) _ _ (is.names e n) (w.unnamed e n);
  unopened = λ e. shown (λ o. ¬ (o.target.node ≡ i)) _ _ (is.descriptions e) (w.unopened e);
}
  where
    i : ℕ
    i = made_node t k

    d : ℕ
    d = made_description t k

pub run_on_parts : PlacesRunOnParts
run_on_parts t k s part w is = record { reply = covered.same_reply; puts = puts; only = λ after p. same_put f (holed f s) (step_world t k part) after (step_world t k s) p puts }
  where
    f : Footprint
    f = footprint t k s

    covered : CoversAt t k (footprint t k s) s part
    covered = all_covered t k s w part (part_unused t k s part (footprint t k s) (awaits_unused t k s w) is) is.agrees

    itself : CoversAt t k (footprint t k s) s s
    itself = all_covered t k s w s (awaits_unused t k s w) (record { same = λ a h. refl })

    puts : PutsTo (footprint t k s) (holed (footprint t k s) s) (step_world t k part) (step_world t k s)
    puts = record {
      given = λ a h. covered.agree_after.same a (writes-has (footprint t k s) a h);
      kept = λ a n. itself.nothing_else a n ∙ sym (holed-left (footprint t k s) s a n);
    }

item_world : (x : Item) (s : World) → IsWorld s → IsWorld (apply_all (zeros_in x) s)
item_world (file_bytes i low high) s w = contents_world s (zero_bytes i low high) tt w
item_world (buffer_bytes r b low high) s w = contents_world s (write_buffer r b low (replicate (high - low) 0)) tt w
item_world _ s w = w

use_world : (u : Use) (s : World) → IsWorld s → IsWorld (after_use u s)
use_world u s w = elim u.written as (λ b. IsWorld (apply_all (cond b (zeros_in u.item) []) s)) [ true ↦ item_world u.item s w | false ↦ w ]

pub holes_keep : HolesKeepWorlds
holes_keep [] s w = w
holes_keep (u ∷ f) s w = subst IsWorld (sym (holed-first u f s)) (holes_keep f (after_use u s) (use_world u s w))
