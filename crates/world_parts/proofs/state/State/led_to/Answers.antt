use Rattle.std.proofs.Common.{ap, nat_eq, ◌∙◌}
use Rattle.std.specs.Prelude.{◌||◌}
use Rattle.std.specs.List.{list_any}
use Rattle.std.specs.Cmp.{nat_eq_equiv}
use Rattle.indexmap.specs.IndexSet.{contains}
use Rattle.finite_maps.specs.Sifted.{only}
use Rattle.file_tree.specs.Named.{is_named}
use Rattle.world_parts.specs.World.{World}
use Rattle.world_parts.specs.Sweeping.{is_open}
use Rattle.finite_maps.proofs.Marking.{marks-insert}
use Rattle.world_parts.proofs.state.State.led_to.Goals as goal

pub returns : goal.returns
returns c i =
    let named = is_named c.self.inside.nodes i in
    let is_led = λ (u : World). nat_eq i 0 || is_named u.nodes i || is_open (only (λ d. contains nat_eq c.args.held.now d) u.descriptions) i in
    let opened = is_open (only (λ d. contains nat_eq c.args.held.now d) c.self.inside.descriptions) i in
    let root = marks-insert c.new-led.result c.insert.new.self 0 c.in_ok-insert.ensures.updates i ∙ ap (λ ks. list_any (nat_eq i) ks || nat_eq 0 i) c.new-led.ensures.empty ∙ nat_eq_equiv.symm 0 i in
    c.in_ok-mark_nodes.ensures i
    ∙ ap (λ b. b || opened) (c.in_ok-mark_named.ensures i ∙ ap (λ b. b || named) root)
    ∙ ap is_led c.self.view_is
