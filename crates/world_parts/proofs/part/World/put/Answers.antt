use Rattle.std.proofs.Common.{◌≡◌, arith, None, Some, ap, sym, ◌∙◌}
use Rattle.std.proofs.lemmas.Result.{on_ok_weaker}
use Rattle.finite_maps.specs.Table.{get, number_keys}
use Rattle.finite_maps.proofs.Maps.{get-of, seen-assign}
use Rattle.world_parts.specs.Putting.{with_nodes, with_items}
use Rattle.world_parts.proofs.PutTables.{put_meets}
use Rattle.world_parts.proofs.part.World.put.Goals as goal

pub returns-in_default-clause-world : goal.returns-in_default-clause-world
returns-in_default-clause-world c =
    let kept = get-of number_keys c.self.inside.out.entries c.args.self.now.out c.part.inside.place (ap (λ w. w.out) c.self.view_is) in
    absurd (grind (arith, kept, ap (λ p. p.place) c.part.view_is, c.requires.out, c.in_default.ensures.value))

pub returns-in_default-clause-home : goal.returns-in_default-clause-home
returns-in_default-clause-home c =
    let gone =
    seen-assign number_keys c.self.inside.out c.remove.new.self c.args.self.now.out c.part.inside.place None
    (ap (λ w. w.out) c.self.view_is) c.remove.ensures.updates in
    grind (arith, ap (λ p. p.place) c.part.view_is)

pub returns-clause-home : goal.returns-clause-home
returns-clause-home c =
    let gone =
    seen-assign number_keys c.self.inside.out c.remove.new.self c.args.self.now.out c.part.inside.place None
    (ap (λ w. w.out) c.self.view_is) c.remove.ensures.updates in
    on_ok_weaker c.put_uses.result (λ made. grind (arith, ap (λ p. p.place) c.part.view_is)) c.put_uses.ensures

pub returns-clause-world : goal.returns-clause-world
returns-clause-world c =
    put_meets c.put_uses.result c.footprint.inside.uses.items c.args.self.now.world c.args.part.values c.put_uses.new.self (get c.args.self.now.out c.args.part.place)
    (ap (λ f. Some f) c.footprint.view_is ∙ c.in-Some.ensures.value
    ∙ sym (ap (get c.args.self.now.out) (sym (ap (λ p. p.place) c.part.view_is)) ∙ get-of number_keys c.self.inside.out.entries c.args.self.now.out c.part.inside.place (ap (λ w. w.out) c.self.view_is)))
    c.requires.world c.requires.narrow c.requires.fits
    (on_ok_weaker c.put_uses.result (λ made. made
    ∙ (λ i. with_items (c.deref-2.ensures.value i) (values i) (with_nodes (c.deref-2.ensures.value i) (values i) (held i))))
    c.put_uses.ensures)
  where
    held : c.deref_mut.result.now ≡ c.args.self.now.world
    held = c.deref_mut.ensures.value ∙ ap (λ w. w.world) c.self.view_is

    values : c.deref.result.now ≡ c.args.part.values
    values = c.deref.ensures ∙ ap (λ p. p.values) c.part.view_is
