use Rattle.std.proofs.Common.{◌≡◌, true, refl, arith}
use Rattle.std.specs.Prelude.{nat_le}
use Rattle.std.proofs.lemmas.Bool.{le-leb}
use Rattle.trace_records.specs.Sources.{with_rest}
use Rattle.trace_records.specs.Start.{item}
use Rattle.trace_records.proofs.Exits.{goes_out}
use Rattle.trace_records.proofs.items.item_of.Goals as goal

pub returns-in_err-kind-clause-read : goal.returns-in_err-kind-clause-read
unfolding item
returns-in_err-kind-clause-read c =
    goes_out (λ x. with_rest (x.0, x.2)) _ _ _ _ c.from_residual.ensures.1 c.in_err-kind.ensures (λ f e. rw e refl)

pub returns-in_err-path-clause-read : goal.returns-in_err-path-clause-read
unfolding item
returns-in_err-path-clause-read c =
    let least : nat_le 1 c.in_ok-kind.kind ≡ true = le-leb _ _ (omega arith) in
    let most : nat_le c.in_ok-kind.kind 3 ≡ true = le-leb _ _ (omega arith) in
    goes_out (λ x. with_rest (x.0, x.2)) _ _ _ _ c.from_residual-in_err-path.ensures.1 (c.in_err-path.ensures.read c.args.items.now c.requires) (λ f e. rw (c.in_ok-kind.ensures, least, most, e) refl)

pub returns-in_err-node-clause-read : goal.returns-in_err-node-clause-read
unfolding item
returns-in_err-node-clause-read c =
    let least : nat_le 1 c.in_ok-kind.kind ≡ true = le-leb _ _ (omega arith) in
    let most : nat_le c.in_ok-kind.kind 3 ≡ true = le-leb _ _ (omega arith) in
    goes_out (λ x. with_rest (x.0, x.2)) _ _ _ _ c.from_residual-in_err-node.ensures.1 c.in_err-node.ensures (λ f e. rw (c.in_ok-kind.ensures, least, most, c.in_ok-path.ensures.read c.args.items.now c.requires, e) refl)

pub returns-clause-read : goal.returns-clause-read
unfolding item
returns-clause-read c =
    let least : nat_le 1 c.in_ok-kind.kind ≡ true = le-leb _ _ (omega arith) in
    let most : nat_le c.in_ok-kind.kind 3 ≡ true = le-leb _ _ (omega arith) in
    rw (c.in_ok-kind.ensures, least, most, c.in_ok-path.ensures.read c.args.items.now c.requires, c.in_ok-node.ensures) refl
