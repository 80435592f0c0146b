use Rattle.std.proofs.Common.{◌∙◌, arith, drop}
use Rattle.std.proofs.lemmas.List.{length-take}
use Rattle.trace_format.proofs.Slices.{part_behind}
use Rattle.trace_format.proofs.blob.TextSlice.behind.Goals as goal

pub returns : goal.returns
returns c =
    let self = c.args.self in
    let text = self.text.now.value.items in
    c.of.ensures ∙ part_behind text self.from c.args.count self.len (omega (arith, c.requires, length-take self.len (drop self.from text)))
