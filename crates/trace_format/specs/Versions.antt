-- The model: what the versions of the format differ in.
use Rattle.std.specs.Prelude.{ℕ, ◌==◌, true, false, Option, Some, None, if◌then◌else◌}
use Rattle.trace_format.specs.declared.version.Version.{Version}
use Rattle.trace_format.specs.declared.version.Version.TheVariants.{One, Two, Three}
use Rattle.trace_format.specs.declared.version.Rules.{Rules}

-- the number of a version, the size of its table of descriptors, the greatest flags of RENAMEAT, the flags of transfers, and whether it has the opcodes that came later
abbrev pub rules : Version → Rules
rules One = record { number = 1; most_descriptors = 0; most_rename_flags = 1; transfer_flags = 0; has_later_opcodes = false }
rules Two = record { number = 2; most_descriptors = 1024; most_rename_flags = 2; transfer_flags = 0; has_later_opcodes = false }
rules Three = record { number = 3; most_descriptors = 1048576; most_rename_flags = 2; transfer_flags = 6; has_later_opcodes = true }

-- the version of a trace of this form that a number names: version 3 has another
abbrev pub version_of : ℕ → Option Version
version_of number = if number == 1 then Some One else if number == 2 then Some Two else None
