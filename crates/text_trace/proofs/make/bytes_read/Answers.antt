use Rattle.std.proofs.Common.{◌≡◌, ℕ, List, length, ap, subst, sym, true≢false, ◌∙◌}
use Rattle.std.specs.Prelude.{Option, unwrap_or}
use Rattle.trace_format.specs.Text.{SpellsTrace}
use Rattle.text_trace.proofs.Checked.{fault_is, spelled_is}
use Rattle.text_trace.proofs.Copies.{is_same}
use Rattle.text_trace.proofs.make.bytes_read.Goals as goal

pub returns-in-Ok-clause-read : goal.returns-in-Ok-clause-read
returns-in-Ok-clause-read c =
    spelled_is c.args.text.now c.args.trace.now c.args.lines.now c.in_ok-bytes.bytes.items c.in_ok-clone.field-0.items c.in-Ok.field-0 c.in_ok-bytes.ensures
    (is_same _ _ c.in_ok-clone.ensures.cases.0) c.in-Ok.ensures.trace

pub returns-in-Ok-clause-trace : goal.returns-in-Ok-clause-trace
returns-in-Ok-clause-trace c =
    let same : c.in_ok-clone.field-0.items ≡ c.in_ok-bytes.bytes.items = is_same _ _ c.in_ok-clone.ensures.cases.0 in
    (c.in-Ok.field-0, subst (λ (l : List ℕ). SpellsTrace l c.in-Ok.field-0) same c.in-Ok.ensures.trace)

pub returns-clause-read : goal.returns-clause-read
returns-clause-read c =
    let left : c.unwrap_or-left.result ≡ unwrap_or c.line_of_byte.result (length c.args.text.now) = c.unwrap_or-left.ensures in
    rw c.refused.ensures
    (fault_is c.args.text.now c.args.trace.now c.args.lines.now c.in_ok-bytes.bytes.items c.in_ok-clone.field-0.items c.in-Err.fault c.unwrap_or-left.result
    c.in_ok-bytes.ensures
    (is_same c.in_ok-bytes.bytes.items c.in_ok-clone.field-0.items c.in_ok-clone.ensures.cases.0) c.in-Err.ensures.fault
    (λ e. absurd (true≢false (sym (rw e at c.if-eq.ensures))))
    (left ∙ ap (λ (o : Option ℕ). unwrap_or o (length c.args.text.now)) c.line_of_byte.ensures))
