-- The part of a page that is there, or as many zeros.
use Rattle.std.proofs.Common.{sym, ◌∙◌}
use Rattle.std.proofs.lemmas.Result.{IfOk-weaker}
use Rattle.extent_bytes.proofs.page_bytes.copy_of_part.Goals as goal

pub returns-in-Some : goal.returns-in-Some
returns-in-Some c = IfOk-weaker c.from_slice.result _ _ (λ v e. e ∙ c.in-Some.ensures.part) c.from_slice.ensures.items

pub returns-in-None : goal.returns-in-None
returns-in-None c = IfOk-weaker c.from_elem.result _ _ (λ v e. e (λ y d. d) ∙ sym c.in-None.ensures.none) c.from_elem.ensures.items_if_clones_equal
