-- The model: the options of the command line, a row each, and the words that use them.
use Rattle.std.specs.Prelude.{◌≡◌, ◌≤◌, ◌+◌, ◌==◌, ◌||◌, ⊤, ℕ, pos, Bool, true, false, not, List, [], ◌∷◌, ◌++◌, find, filter, Option, None, Some, is_some, option_map, codes}
use Rattle.std.specs.List.{list_any}
use Rattle.std.specs.Option.{option_or}
use Rattle.std.specs.Fmt.{decimal}
use Rattle.std.specs.Str.{bytes_eq}
use Rattle.clap.specs.Walk.{is_empty}
use Rattle.clap.specs.Words.{Rule, new_rule}
use Rattle.clap.specs.declared.builder.action.ArgAction.TheVariants.{SetTrue}
use Rattle.clap.specs.declared.builder.value_parser.ValueParser.TheVariants.{Signed}

-- The commands, and their names.
pub data CommandName : Type 0 where
  serial run compare rounds depends check show make diff : CommandName

abbrev pub name_of : CommandName → List ℕ
name_of serial = codes "serial"
name_of run = codes "run"
name_of compare = codes "compare"
name_of rounds = codes "rounds"
name_of depends = codes "depends"
name_of check = codes "check"
name_of show = codes "show"
name_of make = codes "make"
name_of diff = codes "diff"

-- What an option takes: nothing; a number from 1 to a limit, maybe with a default; or the name of a file, maybe with a short form. A `file` is not an option: it is the name of a file that stands alone, at this place among such names.
pub data Kind : Type 0 where
  flag : Kind
  number : (most : ℕ) → (default : Option (List ℕ)) → Kind
  name : (short : Option ℕ) → Kind
  file : (place : ℕ) → Kind

-- An option: its word without the hyphens, other words for it that help does not show, what it takes, and the commands that have it.
pub record Opt : Type 0 where
  pub word : List ℕ
  pub hidden : List (List ℕ)
  pub kind : Kind
  pub commands : List CommandName

abbrev pub row : List ℕ → Kind → List CommandName → Opt
row word kind commands = record { word = word; hidden = []; kind = kind; commands = commands }

abbrev pub every : List CommandName
every = serial ∷ run ∷ compare ∷ rounds ∷ depends ∷ check ∷ show ∷ make ∷ diff ∷ []

abbrev pub workers_option : Opt
workers_option = row (codes "workers") (number 64 (Some (codes "4"))) (run ∷ compare ∷ [])

abbrev pub window_option : Opt
window_option = row (codes "window") (number 4096 (Some (codes "64"))) (run ∷ compare ∷ rounds ∷ [])

abbrev pub sums_flag : Opt
sums_flag = row (codes "sums") flag (serial ∷ run ∷ [])

abbrev pub all_sums_flag : Opt
all_sums_flag = row (codes "all-sums") flag (serial ∷ run ∷ [])

abbrev pub names_flag : Opt
names_flag = row (codes "names") flag (serial ∷ run ∷ [])

abbrev pub eager_flag : Opt
eager_flag = row (codes "eager") flag (run ∷ compare ∷ [])

abbrev pub dot_flag : Opt
dot_flag = row (codes "dot") flag (rounds ∷ depends ∷ [])

abbrev pub places_flag : Opt
places_flag = row (codes "places") flag (show ∷ [])

abbrev pub first_option : Opt
first_option = row (codes "first") (number 1073741824 None) (show ∷ [])

abbrev pub strict_flag : Opt
strict_flag = row (codes "strict") flag (diff ∷ [])

abbrev pub truncated_flag : Opt
truncated_flag = row (codes "truncated") flag (diff ∷ [])

abbrev pub show_option : Opt
show_option = row (codes "show") (name None) (diff ∷ [])

abbrev pub file_argument : Opt
file_argument = row (codes "file") (file 1) every

abbrev pub output_option : Opt
output_option = row (codes "output") (name (Some 111)) every

abbrev pub second_argument : Opt
second_argument = row (codes "second") (file 2) (diff ∷ [])

abbrev pub json_flag : Opt
json_flag = row (codes "json") flag (serial ∷ run ∷ rounds ∷ depends ∷ check ∷ diff ∷ [])

abbrev pub cut_flag : Opt
cut_flag = row (codes "cut") flag (serial ∷ run ∷ [])

-- All options, in the order in which help shows them.
abbrev pub table : List Opt
table = workers_option
    ∷ window_option
    ∷ sums_flag
    ∷ all_sums_flag
    ∷ names_flag
    ∷ eager_flag
    ∷ dot_flag
    ∷ places_flag
    ∷ first_option
    ∷ strict_flag
    ∷ truncated_flag
    ∷ show_option
    ∷ file_argument
    ∷ output_option
    ∷ second_argument
    ∷ json_flag
    ∷ cut_flag
    ∷ []

abbrev pub has_command : CommandName → Opt → Bool
has_command c o = list_any (λ d. bytes_eq (name_of d) (name_of c)) o.commands

-- The options of a command.
abbrev pub options_of : CommandName → List Opt
options_of c = filter (has_command c) table

abbrev pub none_or_one : Option (List ℕ) → List (List ℕ)
none_or_one None = []
none_or_one (Some text) = text ∷ []

-- An option as the parser has it.
abbrev pub rule_by : Kind → Opt → Rule
rule_by flag o = record (new_rule o.word) { long = Some o.word; aliases = o.hidden; action = Some SetTrue }
rule_by (number most default) o = record (new_rule o.word) { long = Some o.word; aliases = o.hidden; value_names = 1; parser = Some (Signed (pos 1) (pos most)); defaults = none_or_one default }
rule_by (name short) o = record (new_rule o.word) { short = short; long = Some o.word; aliases = o.hidden; value_names = 1 }
rule_by (file place) o = record (new_rule o.word) { value_names = 1 }

abbrev pub rule_of_option : Opt → Rule
rule_of_option o = rule_by o.kind o

-- A use of an option: by which of its words, and with which value. That of a flag is `true`.
pub record Use : Type 0 where
  pub option : Opt
  pub word : List ℕ
  pub value : List ℕ

-- The words of a use, `--word`, `--word value`, or the name of a file alone.
abbrev pub words_by : Kind → (word value : List ℕ) → List (List ℕ)
words_by flag word value = (45 ∷ 45 ∷ word) ∷ []
words_by (number most default) word value = (45 ∷ 45 ∷ word) ∷ value ∷ []
words_by (name short) word value = (45 ∷ 45 ∷ word) ∷ value ∷ []
words_by (file place) word value = value ∷ []

abbrev pub words_of : List Use → List (List ℕ)
words_of [] = []
words_of (u ∷ uses) = words_by u.option.kind u.word u.value ++ words_of uses

-- A text that may be the name of a file: it does not begin with a hyphen, or it is a single hyphen.
abbrev pub is_name : List ℕ → Bool
is_name [] = true
is_name (x ∷ rest) = not (x == 45) || is_empty rest

abbrev pub IsValueFor : Kind → List ℕ → Type 0
IsValueFor flag value = value ≡ codes "true"
IsValueFor (number most default) value = (n : ℕ) × (value ≡ decimal n) × (1 ≤ n) × (n ≤ most)
IsValueFor (name short) value = is_name value ≡ true
IsValueFor (file place) value = is_name value ≡ true

-- The option that a word means, and the file at a place.
abbrev pub answers_by : Kind → Opt → List ℕ → Bool
answers_by (file place) o word = false
answers_by _ o word = bytes_eq o.word word || list_any (λ hidden. bytes_eq hidden word) o.hidden

abbrev pub stands_at : Kind → ℕ → Bool
stands_at (file at) place = at == place
stands_at _ place = false

abbrev pub option_named : List ℕ → List Opt → Option Opt
option_named word options = find (λ o. answers_by o.kind o word) options

abbrev pub file_at : ℕ → List Opt → Option Opt
file_at place options = find (λ o. stands_at o.kind place) options

abbrev pub option_met : Kind → (place : ℕ) → (word : List ℕ) → List Opt → Option Opt
option_met (file at) place word options = file_at place options
option_met _ place word options = option_named word options

abbrev pub place_after : Kind → ℕ → ℕ
place_after (file at) place = place + 1
place_after _ place = place

abbrev pub use_of : List ℕ → List Use → Option Use
use_of word uses = find (λ u. bytes_eq u.option.word word) uses

-- A use that may come after these: the command has the option, the value fits, and the option was not used before. The place is that of the next file.
pub record IsUse (options : List Opt) (place : ℕ) (before : List Use) (u : Use) : Type 0 where
  pub known : option_met u.option.kind place u.word options ≡ Some u.option
  pub taken : IsValueFor u.option.kind u.value
  pub new : use_of u.option.word before ≡ None

-- Uses in any order.
abbrev pub AreUses : List Opt → (place : ℕ) → (before : List Use) → List Use → Type 0
AreUses options place before [] = ⊤
AreUses options place before (u ∷ uses) = IsUse options place before u × AreUses options (place_after u.option.kind place) (before ++ u ∷ []) uses

-- The value that the uses give an option.
abbrev pub value_of : List ℕ → List Use → Option (List ℕ)
value_of word uses = option_map (λ u. u.value) (use_of word uses)

abbrev pub is_used : List ℕ → List Use → Bool
is_used word uses = is_some (use_of word uses)

-- The value of an option that is not used.
abbrev pub default_by : Kind → Option (List ℕ)
default_by flag = Some (codes "false")
default_by (number most default) = default
default_by (name short) = None
default_by (file place) = None

abbrev pub default_for : (is_it : Bool) → Kind → Option (List ℕ)
default_for false kind = None
default_for true kind = default_by kind

abbrev pub default_in : List ℕ → List Opt → Option (List ℕ)
default_in word [] = None
default_in word (o ∷ options) = option_or (default_for (bytes_eq o.word word) o.kind) (default_in word options)
