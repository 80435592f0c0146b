use Rattle.std.proofs.Common.{◌≡◌, false, sym, ◌∙◌}
use Rattle.trace_format.specs.Names.{AddsName}
use Rattle.trace_records.specs.Start.{has_name, is_directory}
use Rattle.trace_records.proofs.KnownNames.{KnowsNames-push}
use Rattle.trace_records.specs.Sources.{with_rest}
use Rattle.trace_records.proofs.Exits.{no_memory}
use Rattle.trace_records.proofs.Loops.{goes_on, ends}
use Rattle.trace_records.proofs.items.items_of.Goals as goal

pub returns-in_err-add_name : goal.returns-in_err-add_name
returns-in_err-add_name c = no_memory (λ x. with_rest (x.0.items, x.1)) _ _ c.from_residual-in_err-add_name.ensures.1

pub returns-in_err-push : goal.returns-in_err-push
returns-in_err-push c = no_memory (λ x. with_rest (x.0.items, x.1)) _ _ c.from_residual-in_err-push.ensures.1

pub returns-in_err-item : goal.returns-in_err-item
returns-in_err-item c = ends _ _ _ c.from_residual.ensures.1 c.loop-test.true (rw c.deref.ensures.value at c.in_err-item.ensures.read) c.loop.invariant.read

pub loop-preserved : goal.loop-preserved
loop-preserved c =
    let here = rw c.deref.ensures.value at c.in_ok-item.ensures.read in
    let fresh : has_name c.loop.items.items c.in_ok-item.item.path ≡ false = rw c.in_ok-item.ensures.path (sym (c.loop.invariant.known.all c.in_ok-item.path.now) ∙ c.in_ok-item.ensures.fresh) in
    let added : AddsName c.loop.names c.add_name.new.names c.in_ok-item.item.path (is_directory c.in_ok-item.item.node) = rw (c.in_ok-item.ensures.path, ← c.is_directory-directory.ensures) c.in_ok-add_name.ensures in
    rw c.in_ok-push.ensures.items (record {
      read = goes_on c.loop-test.true here c.loop.invariant.read;
      known = KnowsNames-push _ _ _ _ c.loop.invariant.known added fresh;
    })
