use Rattle.std.proofs.Common.{◌≡◌, ◌≤◌, ◌∙◌, false, length, ap, sym, arith}
use Rattle.replay_program.specs.Recordings.{has_version_3}
use Rattle.replay_program.proofs.Taking.{goes_from, goes_from_none, goes_told, takes_all, takes_then}
use Rattle.replay_program.proofs.recordings.text_on.Goals as goal

pub returns-in_err-text-clause-taken : goal.returns-in_err-text-clause-taken
returns-in_err-text-clause-taken g c =
    let first = goes_from_none _ _ _ _ c.new.ensures.items c.in_ok-head.ensures.text in
    takes_then _ _ _ c.in_ok-head.head first (omega (arith, c.in_ok-head.ensures.bound)) c.in_err-text.ensures.taken

pub returns-clause-ok : goal.returns-clause-ok
returns-clause-ok g c =
    let head = c.in_ok-head.head in
    let text = c.in_ok-text.text in
    let first = goes_from_none _ _ _ _ c.new.ensures.items c.in_ok-head.ensures.text in
    let long : 12 ≤ length head.items = omega (arith, c.if-len-lt-HEAD.false, c.len.ensures, head.ok.0) in
    let other : has_version_3 head.items ≡ false = ap has_version_3 (sym c.as_slice.ensures.value) ∙ sym c.has_version_3.ensures ∙ c.if-has_version_3.false in (
      goes_from _ _ _ _ _ first c.in_ok-text.ensures.text,
      goes_told _ _ _ _ long other c.in_ok-text.ensures.text,
      λ le. c.in_ok-text.ensures.end (omega (arith, le, text.ok.0)),
    )

pub returns-clause-taken : goal.returns-clause-taken
returns-clause-taken g c =
    let text = c.in_ok-text.text in
    let first = goes_from_none _ _ _ _ c.new.ensures.items c.in_ok-head.ensures.text in
    takes_all _ _ text.items (goes_from _ _ _ _ _ first c.in_ok-text.ensures.text) (omega (arith, c.in_ok-text.ensures.bound, text.ok.0))
