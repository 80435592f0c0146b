-- Each half of the uses is looked at by itself.
use Rattle.std.proofs.Common.{◌/◌, Bool, None, Some, length, refl, sym, ◌∙◌}
use Rattle.std.specs.List.{position_from}
use Rattle.item_index.specs.Ahead.{written_before}
use Rattle.world_parts.specs.Uses.{item_meant}
use Rattle.world_parts.specs.declared.footprint.Use.{Use}
use Rattle.item_index.proofs.Clear.{none_first}
use Rattle.item_index.proofs.Halves.{position-halves}
use Rattle.item_index.proofs.behind.Behind.+first_by_halves.Goals as goal

pub returns-then-are_clear-clause-first : goal.returns-then-are_clear-clause-first
returns-then-are_clear-clause-first t c = sym (none_first (λ u. written_before c.args.self.now (item_meant u.item)) 0 c.args.uses.now (c.are_clear.ensures c.if-are_clear.true))

pub returns-in-Some-clause-first : goal.returns-in-Some-clause-first
returns-in-Some-clause-first t c =
    let p : Use → Bool = λ u. written_before c.args.self.now (item_meant u.item) in
    position-halves p c.args.uses.now (length c.args.uses.now / 2) c.split_at.result.0.now c.split_at.result.1.now (Some c.in-Some.index) (position_from p 0 c.split_at.result.1.now)
    c.split_at.ensures.front c.split_at.ensures.back c.in-Some.ensures.first refl

pub returns-in_err-index-clause-first : goal.returns-in_err-index-clause-first
returns-in_err-index-clause-first t c =
    let p : Use → Bool = λ u. written_before c.args.self.now (item_meant u.item) in
    c.from_residual.ensures ∙ position-halves p c.args.uses.now (length c.args.uses.now / 2) c.split_at.result.0.now c.split_at.result.1.now None None
    c.split_at.ensures.front c.split_at.ensures.back c.in_default.ensures.first c.in_err-index.ensures.first

pub returns-clause-first : goal.returns-clause-first
returns-clause-first t c =
    let p : Use → Bool = λ u. written_before c.args.self.now (item_meant u.item) in
    position-halves p c.args.uses.now (length c.args.uses.now / 2) c.split_at.result.0.now c.split_at.result.1.now None (Some c.in_ok-index.index)
    c.split_at.ensures.front c.split_at.ensures.back c.in_default.ensures.first c.in_ok-index.ensures.first
