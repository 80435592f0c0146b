use Rattle.std.proofs.Common.{◌∙◌, sym}
use Rattle.std.proofs.lemmas.List.{length-map}
use Rattle.trace_text.proofs.below.TracePlaced.count.Goals as goal

pub returns : goal.returns
returns c = c.places.ensures.places ∙ sym (length-map _ _)
