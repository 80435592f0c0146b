-- Words of `diff` in another order than that of its options are words of a command, and each field is what they say.
use Rattle.std.proofs.Common.{◌≡◌, List, [], ◌∷◌, Some, codes, refl}
use Rattle.program_words.specs.Options.{Use, diff, file_argument, json_flag, output_option, second_argument, show_option, value_of}
use Rattle.program_words.specs.Words.{IsCommand}

abbrev uses : List Use
uses =
    record { option = json_flag; word = codes "json"; value = codes "true" }
    ∷ record { option = file_argument; word = []; value = codes "a" }
    ∷ record { option = output_option; word = codes "output"; value = codes "-" }
    ∷ record { option = second_argument; word = []; value = codes "b" }
    ∷ record { option = show_option; word = codes "show"; value = codes "c" }
    ∷ []

asked : IsCommand diff uses (codes "diff" ∷ codes "--json" ∷ codes "a" ∷ codes "--output" ∷ codes "-" ∷ codes "b" ∷ codes "--show" ∷ codes "c" ∷ [])
asked = (
  (
    record { known = refl; taken = refl; new = refl },
    (
      record { known = refl; taken = refl; new = refl },
      (record { known = refl; taken = refl; new = refl }, (record { known = refl; taken = refl; new = refl }, (record { known = refl; taken = refl; new = refl }, tt))),
    ),
  ),
  refl,
)

told : (value_of (codes "file") uses ≡ Some (codes "a")) × (value_of (codes "second") uses ≡ Some (codes "b")) × (value_of (codes "output") uses ≡ Some (codes "-")) × (value_of (codes "show") uses ≡ Some (codes "c"))
told = (refl, refl, refl, refl)
