-- What was kept of a reply lies behind what was kept of the others.
use Rattle.std.proofs.Common.{◌∙◌}
use Rattle.std.proofs.Math.ListN.{set}
use Rattle.std.proofs.lemmas.List.{map-set}
use Rattle.std.proofs.lemmas.List.Elements.{All-set}
use Rattle.extent_bytes.proofs.Outcomes.{err_of}
use Rattle.op_meaning.specs.declared.replies.Line.{Line}
use Rattle.op_meaning.specs.Listing.{reply_at, IsThere}
use Rattle.op_meaning.proofs.LinesStay.{all-behind, replies-behind}
use Rattle.op_meaning.proofs.replies.Replies.set.Goals as goal

pub returns-in_err-line-clause-err : goal.returns-in_err-line-clause-err
returns-in_err-line-clause-err c =
    let k = c.kept in
    let s = c.self.inside in
    err_of c.from_residual.result (replies-behind s.copied.items k.new.copied.items s.lists.items k.new.lists.items s.lines.items k.ensures.copied k.ensures.lists c.self.invariant ∙ c.self.view_is)

pub invariant_of-self-2 : goal.invariant_of-self-2
invariant_of-self-2 c =
    let k = c.kept in
    let s = c.self.inside in
    All-set (λ (line : Line). IsThere k.new.copied.items k.new.lists.items line.spot) s.lines.items c.args.place c.in_ok-line.line c.in_ok-line.ensures.there
    (all-behind s.copied.items k.new.copied.items s.lists.items k.new.lists.items s.lines.items k.ensures.copied k.ensures.lists c.self.invariant)

pub returns-clause-ok : goal.returns-clause-ok
returns-clause-ok c =
    let k = c.kept in
    let s = c.self.inside in
    let others = replies-behind s.copied.items k.new.copied.items s.lists.items k.new.lists.items s.lines.items k.ensures.copied k.ensures.lists c.self.invariant ∙ c.self.view_is in
    map-set (reply_at k.new.copied.items k.new.lists.items) s.lines.items c.args.place c.in_ok-line.line
    ∙ (λ i. set (others i) c.args.place (c.in_ok-line.ensures.value i))
