use Rattle.std.proofs.Common.{◌≡◌, true, false, refl, sym}
use Rattle.trace_records.specs.Start.{has_directory}
use Rattle.trace_records.specs.Sources.{with_rest}
use Rattle.trace_records.specs.Start.{new_path}
use Rattle.trace_records.proofs.Exits.{no_memory}
use Rattle.trace_records.proofs.names.path_of.Goals as goal

pub returns-then-not-is_path-clause-read : goal.returns-then-not-is_path-clause-read
unfolding new_path
returns-then-not-is_path-clause-read c items knows =
    rw (c.refused.ensures, c.in_ok-len.ensures, c.in_ok-bytes.ensures.read, ← c.if-not-is_path.ensures) refl

pub returns-then-not-has_directory-clause-read : goal.returns-then-not-has_directory-clause-read
unfolding new_path
returns-then-not-has_directory-clause-read c items knows =
    let there : has_directory items c.parent_of.result.now ≡ false = rw (← knows.directories c.parent_of.result.now) (sym c.if-not-has_directory.ensures) in
    rw (c.refused-then-not-has_directory.ensures, c.in_ok-len.ensures, c.in_ok-bytes.ensures.read, ← c.if-not-is_path.ensures, ← c.parent_of.ensures, there) refl

pub returns-then-has_name-clause-read : goal.returns-then-has_name-clause-read
unfolding new_path
returns-then-has_name-clause-read c items knows =
    let there : has_directory items c.parent_of.result.now ≡ true = rw (← knows.directories c.parent_of.result.now) (sym c.if-not-has_directory.ensures) in
    rw (c.refused-then-has_name.ensures, c.in_ok-len.ensures, c.in_ok-bytes.ensures.read, ← c.if-not-is_path.ensures, ← c.parent_of.ensures, there, ← knows.all c.in_ok-bytes.bytes.now, ← c.if-has_name.ensures) refl

pub returns-in_err-copied-clause-read : goal.returns-in_err-copied-clause-read
returns-in_err-copied-clause-read c items knows = no_memory (λ x. with_rest (x.0, x.2)) _ _ c.from_residual-in_err-copied.ensures.1

pub returns-clause-read : goal.returns-clause-read
unfolding new_path
returns-clause-read c items knows =
    let there : has_directory items c.parent_of.result.now ≡ true = rw (← knows.directories c.parent_of.result.now) (sym c.if-not-has_directory.ensures) in
    rw (c.in_ok-len.ensures, c.in_ok-bytes.ensures.read, ← c.if-not-is_path.ensures, ← c.parent_of.ensures, there, ← knows.all c.in_ok-bytes.bytes.now, ← c.if-has_name.ensures, c.in_ok-copied.ensures) refl
