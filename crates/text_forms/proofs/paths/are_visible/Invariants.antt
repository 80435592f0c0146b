use Rattle.std.proofs.Common.{◌≡◌, take}
use Rattle.std.specs.Prelude.{IsTrue}
use Rattle.text_forms.specs.Strings.{path_text}
use Rattle.text_forms.proofs.paths.are_visible.Given as goal

abbrev pub invariant-loop-byte : goal.invariant-loop-byte
invariant-loop-byte l = IsTrue l.visible → path_text (take l.byte-index l.path) ≡ take l.byte-index l.path
