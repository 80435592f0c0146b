use Rattle.std.proofs.Common.{refl}
use Rattle.trace_records.specs.Sources.{with_rest}
use Rattle.trace_records.specs.Start.{description}
use Rattle.trace_records.proofs.Exits.{goes_out}
use Rattle.trace_records.proofs.descriptions.description_of.Goals as goal

pub returns-in_err-node : goal.returns-in_err-node
unfolding description
returns-in_err-node c =
    goes_out with_rest _ _ _ _ c.from_residual.ensures.1 c.in_err-node.ensures (λ f e. rw e refl)

pub returns-then-not-is_node : goal.returns-then-not-is_node
unfolding description
returns-then-not-is_node c =
    rw (c.refused.ensures, c.in_ok-node.ensures, ← c.if-not-is_node.ensures) refl

pub returns-in_err-access : goal.returns-in_err-access
unfolding description
returns-in_err-access c =
    goes_out with_rest _ _ _ _ c.from_residual-in_err-access.ensures.1 c.in_err-access.ensures (λ f e. rw (c.in_ok-node.ensures, ← c.if-not-is_node.ensures, e) refl)

pub returns-then-not-may_have : goal.returns-then-not-may_have
unfolding description
returns-then-not-may_have c =
    rw (c.refused-then-not-may_have.ensures, c.in_ok-node.ensures, ← c.if-not-is_node.ensures, c.in_ok-access.ensures, ← c.if-not-may_have.ensures) refl

pub returns-in_err-append : goal.returns-in_err-append
unfolding description
returns-in_err-append c =
    goes_out with_rest _ _ _ _ c.from_residual-in_err-append.ensures.1 c.in_err-append.ensures (λ f e. rw (c.in_ok-node.ensures, ← c.if-not-is_node.ensures, c.in_ok-access.ensures, ← c.if-not-may_have.ensures, e) refl)

pub returns-in_err-position : goal.returns-in_err-position
unfolding description
returns-in_err-position c =
    goes_out with_rest _ _ _ _ c.from_residual-in_err-position.ensures.1 c.in_err-position.ensures.read (λ f e. rw (c.in_ok-node.ensures, ← c.if-not-is_node.ensures, c.in_ok-access.ensures, ← c.if-not-may_have.ensures, c.in_ok-append.ensures, e) refl)

pub returns : goal.returns
unfolding description
returns c =
    rw (c.in_ok-node.ensures, ← c.if-not-is_node.ensures, c.in_ok-access.ensures, ← c.if-not-may_have.ensures, c.in_ok-append.ensures, c.in_ok-position.ensures.read, c.access_of.ensures) refl
