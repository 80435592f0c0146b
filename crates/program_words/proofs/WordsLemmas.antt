-- What the program makes of what the parser of the command line found.
use Rattle.std.proofs.Common.{◌≡◌, ◌⊎◌, ◌≤◌, ◌<◌, ◌^◌, ◌==◌, ℕ, Bool, true, false, List, [], ◌∷◌, ◌++◌, Option, None, Some, Ok, Err, codes, refl, sym, ap, ap₂, ◌∙◌, subst, inl, inr, suc, map, Contains, arith}
use Rattle.std.specs.Prelude.{Result, ◌||◌, cond, filter, find, if◌then◌else◌, is_some, not}
use Rattle.std.specs.List.{list_all}
use Rattle.std.specs.Option.{option_and_then, option_map, option_map_or, option_or}
use Rattle.std.specs.Result.{MatchResult}
use Rattle.std.specs.Fmt.{decimal}
use Rattle.std.specs.Str.{bytes_eq}
use Rattle.std.specs.Str.Parse.{ParsesUnsigned, digits_value}
use Rattle.std.proofs.lemmas.Bool.{and_parts, eqb-true}
use Rattle.std.proofs.lemmas.Fmt.{decimal_digit, decimal_is_IsNumeral, decimal_step, parse-decimal}
use Rattle.std.proofs.lemmas.Option.{none-some, same_Some}
use Rattle.std.proofs.lemmas.Result.{MatchResult-weaker}
use Rattle.clap.proofs.WalkLemmas.{first_value-rows, one_text-rows}
use Rattle.clap.specs.Matches.{ReadsOne}
use Rattle.clap.specs.Words.{App, FailsBy, HasKind, HasMatchesOf, IsAmong, Row, fault_of, first_of, first_value, found_of, one_of, one_text, rows_of, is_simple, is_simple_and_free, kind_of, subcommand_name_of, subcommand_of, subcommand_rows_of, takes}
use Rattle.clap.specs.declared.error.Error.{Error}
use Rattle.clap.specs.declared.error.kind.ErrorKind.{ErrorKind}
use Rattle.clap.specs.declared.error.kind.ErrorKind.TheVariants.{DisplayHelp, DisplayVersion, OutOfMemory}
use Rattle.clap.specs.declared.parser.matches.ArgMatches.{ArgMatches}
use Rattle.clap.specs.declared.parser.matches.ArgMatches.TheViews.{out-ArgMatches}
use Rattle.clap.proofs.OnLiterals.{clap_on_literals}
use Rattle.program_words.specs.declared.words.Mode.{Mode}
use Rattle.program_words.specs.declared.words.Mode.TheVariants.{Serial, Run, Compare, Rounds, Depends, Check}
use Rattle.program_words.specs.declared.words.Options.{Options}
use Rattle.program_words.specs.declared.words.Task.{Task}
use Rattle.program_words.specs.declared.words.Task.TheVariants.{Replay}
use Rattle.program_words.specs.declared.words.UsageKind.{UsageKind}
use Rattle.program_words.specs.declared.words.UsageKind.TheVariants.{Memory}
use Rattle.replay_report.specs.declared.showing.Shown.{Shown}
use Rattle.replay_report.specs.declared.showing.SumsShown.TheVariants as shows
use Rattle.program_words.specs.Options.{AreUses, CommandName, Kind, IsValueFor, Opt, Use, check, compare, default_for, default_in, depends, diff, every, file, flag, has_command, is_used, make, name, name_of, number, options_of, rounds, run, serial, show, table, use_of, value_of}
use Rattle.program_words.specs.Words.{AreTexts, AskForHelp, AskForVersion, IsCommand, IsFound, kind_meant, number_in, options_in, plain, replayer, shown_in, sums_in, task_in}
use Rattle.program_words.proofs.Commands.{command_found, command_taken}
use Rattle.program_words.proofs.UseRows.{found_passes, met_all, use_known}

-- the parser takes the words of a command, and finds them
pub words_found : (a : App) (words : List (List ℕ)) (m : ArgMatches) (c : CommandName) (uses : List Use) → a ≡ replayer → IsCommand c uses words → HasMatchesOf a words m → IsFound c uses (subcommand_rows_of m)
words_found a words m c uses command asked h =
    let same : subcommand_rows_of m ≡ subcommand_of replayer words = (h (ap is_simple command)).1 ∙ ap (λ x. subcommand_of x words) command in
    subst (IsFound c uses) (sym (same ∙ ap (subcommand_of replayer) asked.1)) (command_found c uses asked.0)

pub words_pass : (a : App) (words : List (List ℕ)) (c : CommandName) (uses : List Use) → a ≡ replayer → IsCommand c uses words → takes a words ≡ true
words_pass a words c uses command asked = ap (λ x. takes x words) command ∙ ap (takes replayer) asked.1 ∙ command_taken c uses asked.0

help_found : (words : List (List ℕ)) → AskForHelp words → fault_of replayer words ≡ DisplayHelp ∷ []
unfolding clap_on_literals
help_found words (inl e) = rw e refl
help_found words (inr e) = rw e refl

version_found : (words : List (List ℕ)) → AskForVersion words → fault_of replayer words ≡ DisplayVersion ∷ []
unfolding clap_on_literals
version_found words (inl e) = rw e refl
version_found words (inr e) = rw e refl

-- words that have one fault end the parse by it
pub request_ends : {T : Type 0} (a : App) (words : List (List ℕ)) (r : Result T Error) (kind : ErrorKind) → a ≡ replayer → fault_of replayer words ≡ kind ∷ [] → (is_simple_and_free a ≡ true → FailsBy (fault_of a words) r)
    → MatchResult r (λ _. ⊥) (λ e. (kind_of e ≡ kind) ⊎ (kind_of e ≡ OutOfMemory))
request_ends a words r kind command found h =
    let faults : fault_of a words ≡ kind ∷ [] = ap (λ x. fault_of x words) command ∙ found in
    let fails = rw faults at (h (ap is_simple_and_free command)) in
    MatchResult-weaker r fails (λ m none. cc none) (λ e among. elim among [ inl memory ↦ inr memory | inr one ↦ elim one [ inl is ↦ inl is | inr other ↦ absurd other ] ])

-- words that ask for help end the parse
pub help_ends : {T : Type 0} (a : App) (words : List (List ℕ)) (r : Result T Error) → a ≡ replayer → AskForHelp words → (is_simple_and_free a ≡ true → FailsBy (fault_of a words) r)
    → MatchResult r (λ _. ⊥) (λ e. (kind_of e ≡ DisplayHelp) ⊎ (kind_of e ≡ OutOfMemory))
help_ends a words r command asked h = request_ends a words r DisplayHelp command (help_found words asked) h

-- and so do those that ask for the version
pub version_ends : {T : Type 0} (a : App) (words : List (List ℕ)) (r : Result T Error) → a ≡ replayer → AskForVersion words → (is_simple_and_free a ≡ true → FailsBy (fault_of a words) r)
    → MatchResult r (λ _. ⊥) (λ e. (kind_of e ≡ DisplayVersion) ⊎ (kind_of e ≡ OutOfMemory))
version_ends a words r command asked h = request_ends a words r DisplayVersion command (version_found words asked) h

-- what is so of all options is so of those of a command
kept_all : (P q : Opt → Bool) (options : List Opt) → list_all P options ≡ true → list_all P (filter q options) ≡ true
kept_all P q [] all = refl
kept_all P q (o ∷ options) all = let parts = and_parts (P o) (list_all P options) all in kept_step (q o) P o (filter q options) parts.0 (kept_all P q options parts.1)
  where
    kept_step : (is : Bool) (P : Opt → Bool) (o : Opt) (rest : List Opt) → P o ≡ true → list_all P rest ≡ true → list_all P (cond is (o ∷ rest) rest) ≡ true
    kept_step true P o rest here later = rw here later
    kept_step false P o rest here later = later

-- an option with this word is of this kind
abbrev is_one : (Kind → Bool) → List ℕ → Opt → Bool
is_one of_kind word o = not (bytes_eq o.word word) || of_kind o.kind

abbrev is_flag : Kind → Bool
is_flag flag = true
is_flag _ = false

abbrev is_number : ℕ → Kind → Bool
is_number most (number limit default) = limit == most
is_number most _ = false

or_second : (x y : Bool) → x ≡ true → (not x || y) ≡ true → y ≡ true
or_second true y is either = either
or_second false y is either = cc

use_of_kind : (of_kind : Kind → Bool) (c : CommandName) (uses : List Use) (word : List ℕ) → list_all (is_one of_kind word) table ≡ true → AreUses (options_of c) 1 [] uses → (u : Use) → use_of word uses ≡ Some u
    → (of_kind u.option.kind ≡ true) × IsValueFor u.option.kind u.value
use_of_kind of_kind c uses word all are u e =
    let known = use_known (options_of c) uses 1 [] are word u e in
    let one = met_all (is_one of_kind word) (options_of c) (kept_all (is_one of_kind word) (has_command c) table all) u.option.kind known.0 u.word u.option known.2.known in
    (or_second (bytes_eq u.option.word word) (of_kind u.option.kind) (found_passes (λ (v : Use). bytes_eq v.option.word word) uses u e) one, known.2.taken)

-- a flag has no other default than `false`
abbrev IsNotSet : Option (List ℕ) → Type 0
IsNotSet text = (text ≡ None) ⊎ (text ≡ Some (codes "false"))

not_set_for : (is : Bool) (k : Kind) (word : List ℕ) → (not is || is_flag k) ≡ true → IsNotSet (default_for is k)
not_set_for true flag word e = inr refl
not_set_for true (number most default) word e = cc
not_set_for true (name letter) word e = cc
not_set_for true (file at) word e = cc
not_set_for false k word e = inl refl

not_set_or : (x y : Option (List ℕ)) → IsNotSet x → IsNotSet y → IsNotSet (option_or x y)
not_set_or x y (inl none) later = rw none later
not_set_or x y (inr set) later = rw set (inr refl)

not_set : (word : List ℕ) (options : List Opt) → list_all (is_one is_flag word) options ≡ true → IsNotSet (default_in word options)
not_set word [] all = inl refl
not_set word (o ∷ options) all =
    let parts = and_parts (is_one is_flag word o) (list_all (is_one is_flag word) options) all in
    not_set_or _ _ (not_set_for (bytes_eq o.word word) o.kind word parts.0) (not_set word options parts.1)

-- a flag by the text that there is for it
pub record ReadsFlag (text : List ℕ → Option (List ℕ)) (word : List ℕ) (set : Bool) : Type 0 where
  pub none : text word ≡ None → set ≡ false
  pub value : text word ≡ Some (codes "true") → set ≡ true
  pub other : text word ≡ Some (codes "false") → set ≡ false

flag_value : (k : Kind) (value : List ℕ) → is_flag k ≡ true → IsValueFor k value → value ≡ codes "true"
flag_value flag value is taken = taken
flag_value (number most default) value is taken = cc
flag_value (name letter) value is taken = cc
flag_value (file at) value is taken = cc

flag_by : (text : List ℕ → Option (List ℕ)) (word : List ℕ) (set : Bool) (found : Option Use) (default : Option (List ℕ)) → ReadsFlag text word set → IsNotSet default
    → ((u : Use) → found ≡ Some u → u.value ≡ codes "true") → text word ≡ option_or (option_map (λ (u : Use). u.value) found) default → set ≡ is_some found
flag_by text word set None default reads (inl none) used e = reads.none (e ∙ none)
flag_by text word set None default reads (inr unset) used e = reads.other (e ∙ unset)
flag_by text word set (Some u) default reads unset used e = reads.value (e ∙ ap Some (used u refl))

pub flag_told : (c : CommandName) (uses : List Use) (text : List ℕ → Option (List ℕ)) (word : List ℕ) (set : Bool) → list_all (is_one is_flag word) table ≡ true → AreTexts c uses text → ReadsFlag text word set → set ≡ is_used word uses
flag_told c uses text word set all are reads =
    flag_by text word set (use_of word uses) (default_in word (options_of c)) reads (not_set word (options_of c) (kept_all (is_one is_flag word) (has_command c) table all))
    (λ u e. let is = use_of_kind is_flag c uses word all are.are u e in flag_value u.option.kind u.value is.0 is.1) (are.texts word)

pub sums_chosen : (uses : List Use) (all some : Bool) → all ≡ is_used (codes "all-sums") uses → some ≡ is_used (codes "sums") uses
    → (if all then shows.All else (if some then shows.Small else shows.None)) ≡ sums_in uses
sums_chosen uses all some e f = ap₂ (λ a s. if a then shows.All else (if s then shows.Small else shows.None)) e f

-- no default where the table has none
or_nothing : (x y : Option (List ℕ)) → option_or x y ≡ None → (x ≡ None) × (y ≡ None)
or_nothing None y e = (refl, e)
or_nothing (Some x) y e = cc

no_default : (c : CommandName) (word : List ℕ) → default_in word table ≡ None → default_in word (options_of c) ≡ None
no_default c word none = kept_none (has_command c) word table none
  where
    kept_step : (is : Bool) (word : List ℕ) (o : Opt) (rest : List Opt) → default_for (bytes_eq o.word word) o.kind ≡ None → default_in word rest ≡ None → default_in word (cond is (o ∷ rest) rest) ≡ None
    kept_step true word o rest here later = rw here later
    kept_step false word o rest here later = later

    kept_none : (q : Opt → Bool) (word : List ℕ) (options : List Opt) → default_in word options ≡ None → default_in word (filter q options) ≡ None
    kept_none q word [] e = refl
    kept_none q word (o ∷ options) e =
        let parts = or_nothing (default_for (bytes_eq o.word word) o.kind) (default_in word options) e in
        kept_step (q o) word o (filter q options) parts.0 (kept_none q word options parts.1)

or_none : (x : Option (List ℕ)) → option_or x None ≡ x
or_none None = refl
or_none (Some x) = refl

-- the rows of the subcommand are those that its matches have
abbrev pub IsChosen : ArgMatches → ArgMatches → Type 0
IsChosen m chosen = Some (rows_of (found_of chosen)) ≡ option_map (λ p. p.1) (subcommand_rows_of m)

at_rows : {X : Type 0} (f : List Row → Option X) (found : Option (List ℕ × List Row)) (rows : List Row) → Some rows ≡ option_map (λ p. p.1) found → f rows ≡ option_and_then (λ p. f p.1) found
at_rows f None rows e = cc
at_rows f (Some p) rows e = ap f (same_Some rows p.1 e)

pub chosen_texts : (m chosen : ArgMatches) (c : CommandName) (uses : List Use) → IsChosen m chosen → IsFound c uses (subcommand_rows_of m) → AreTexts c uses (one_text (found_of chosen))
chosen_texts m chosen c uses rows found = record {
  are = found.texts.are;
  texts = λ word. one_text-rows (found_of chosen) word ∙ at_rows (one_of word) (subcommand_rows_of m) (rows_of (found_of chosen)) rows ∙ found.texts.texts word;
}

pub none_chosen : {P : Type 0} (found : Option (List ℕ × List Row)) (c : CommandName) (uses : List Use) → ◌≡◌ {A = Option (List Row)} None (option_map (λ p. p.1) found) → IsFound c uses found → P
none_chosen None c uses e h = let none = h.named in absurd (none-some (name_of c) none)
none_chosen (Some p) c uses e h = absurd (none-some p.1 e)

-- a name of a file
pub name_told : {A : Type 0} (m chosen : ArgMatches) (c : CommandName) (uses : List Use) (word : List ℕ) (f : A → List ℕ) (given : Option A) → IsChosen m chosen → option_map f given ≡ first_value (found_of chosen) word
    → IsFound c uses (subcommand_rows_of m) → default_in word table ≡ None → option_map f given ≡ value_of word uses
name_told m chosen c uses word f given rows read found none =
    read ∙ first_value-rows (found_of chosen) word ∙ at_rows (first_of word) (subcommand_rows_of m) (rows_of (found_of chosen)) rows ∙ found.names.texts word
    ∙ ap (λ x. option_or (value_of word uses) x) (no_default c word none) ∙ or_none (value_of word uses)

-- a number
value_read : (n : ℕ) → n < 2 ^ 63 → digits_value 10 (decimal n) ≡ n
value_read n small = (decimal_is_IsNumeral n (omega arith)).1

abbrev pub IsNumberFor : ℕ → ℕ → Option (List ℕ) → Type 0
IsNumberFor n most text = (text ≡ Some (decimal n)) × (1 ≤ n) × (n ≤ most)

-- the value of a use of an option with a number
used_number : (k : Kind) (most : ℕ) (value : List ℕ) → is_number most k ≡ true → most < 2 ^ 63 → IsValueFor k value → IsNumberFor (digits_value 10 value) most (Some value)
used_number flag most value is small taken = cc
used_number (number limit default) most value is small taken =
    let same = eqb-true limit most is in
    let n : digits_value 10 value ≡ taken.0 = rw taken.1 (value_read taken.0 (omega arith)) in
    rw n (ap Some taken.1, taken.2, omega arith)
used_number (name letter) most value is small taken = cc
used_number (file at) most value is small taken = cc

number_by : (default most : ℕ) (found : Option Use) (text : Option (List ℕ)) → text ≡ option_or (option_map (λ (u : Use). u.value) found) (Some (decimal default)) → 1 ≤ default → default ≤ most
    → ((u : Use) → found ≡ Some u → IsNumberFor (digits_value 10 u.value) most (Some u.value)) → IsNumberFor (option_map_or (digits_value 10) (option_map (λ (u : Use). u.value) found) default) most text
number_by default most None text e low high used = (e, low, high)
number_by default most (Some u) text e low high used = let is = used u refl in (e ∙ is.0, is.1, is.2)

number_told : (c : CommandName) (uses : List Use) (text : List ℕ → Option (List ℕ)) (word : List ℕ) (default most : ℕ) → list_all (is_one (is_number most) word) table ≡ true → most < 2 ^ 63
    → default_in word (options_of c) ≡ Some (decimal default) → 1 ≤ default → default ≤ most → AreTexts c uses text → IsNumberFor (number_in default word uses) most (text word)
number_told c uses text word default most all small is low high are =
    number_by default most (use_of word uses) (text word) (are.texts word ∙ ap (λ x. option_or (value_of word uses) x) is) low high
    (λ u e. let one = use_of_kind (is_number most) c uses word all are.are u e in used_number u.option.kind most u.value one.0 small one.1)

four : Some (codes "4") ≡ Some (decimal 4)
four = ap Some (sym (decimal_digit 4 (omega arith)))

sixty_four : Some (codes "64") ≡ Some (decimal 64)
sixty_four = ap Some (sym (decimal_step 64 (omega arith) (omega arith) ∙ ap (λ ds. ds ++ 52 ∷ []) (decimal_digit 6 (omega arith))))

abbrev pub ReadsNumber : ArgMatches → List ℕ → ℕ → ℕ → Type 0
ReadsNumber chosen word most given = (n : ℕ) → one_text (found_of chosen) word ≡ Some (decimal n) → 1 ≤ n → n ≤ most → given ≡ n

-- the first bytes that a text of a trace shows
first_by : (found : Option Use) (text : Option (List ℕ)) (given : Option ℕ) → text ≡ option_map (λ (u : Use). u.value) found → (text ≡ None → given ≡ None)
    → ((n : ℕ) → text ≡ Some (decimal n) → n < 2 ^ 32 → given ≡ Some n) → ((u : Use) → found ≡ Some u → IsNumberFor (digits_value 10 u.value) 1073741824 (Some u.value))
    → given ≡ option_map (digits_value 10) (option_map (λ (u : Use). u.value) found)
first_by None text given e none some used = none e
first_by (Some u) text given e none some used = let is = used u refl in some (digits_value 10 u.value) (e ∙ is.0) (omega (arith, is.2))

pub first_told : (c : CommandName) (uses : List Use) (text : List ℕ → Option (List ℕ)) (given : Option ℕ) → AreTexts c uses text → (text (codes "first") ≡ None → given ≡ None)
    → ((n : ℕ) → text (codes "first") ≡ Some (decimal n) → n < 2 ^ 32 → given ≡ Some n) → given ≡ option_map (digits_value 10) (value_of (codes "first") uses)
first_told c uses text given are none some =
    first_by (use_of (codes "first") uses) (text (codes "first")) given
    (are.texts (codes "first") ∙ ap (λ x. option_or (value_of (codes "first") uses) x) (no_default c (codes "first") refl) ∙ or_none (value_of (codes "first") uses)) none some
    (λ u e. let one = use_of_kind (is_number 1073741824) c uses (codes "first") refl are.are u e in used_number u.option.kind 1073741824 u.value one.0 (omega arith) one.1)

-- a command by its name
command_named : List ℕ → Option CommandName
command_named word = find (λ d. bytes_eq (name_of d) word) every

named_back : (c : CommandName) → command_named (name_of c) ≡ Some c
unfolding command_named
named_back serial = refl
named_back run = refl
named_back compare = refl
named_back rounds = refl
named_back depends = refl
named_back check = refl
named_back show = refl
named_back make = refl
named_back diff = refl

fused : {A B C : Type 0} (f : A → B) (g : B → C) (o : Option A) → option_map g (option_map f o) ≡ option_map (λ x. g (f x)) o
fused f g None = refl
fused f g (Some x) = refl

named : (m : ArgMatches) → option_map (λ p. p.0) (subcommand_rows_of m) ≡ subcommand_name_of m
named m = fused _ _ (out-ArgMatches m).subcommand

options_same : {a b : Mode} {x y : Shown} → a ≡ b → x ≡ y → ◌≡◌ {A = Options} (record { mode = a; shown = x }) (record { mode = b; shown = y })
options_same e f = ap₂ (λ m s. record { mode = m; shown = s }) e f

run_same : {a b w v : ℕ} {c e : Bool} → a ≡ w → b ≡ v → c ≡ e → Run a b c ≡ Run w v e
run_same {a} {b} {w} {v} {c} {e} f g h = ap (λ x. Run x b c) f ∙ ap (λ x. Run w x c) g ∙ ap (λ x. Run w v x) h

compare_same : {a b w v : ℕ} {c e : Bool} → a ≡ w → b ≡ v → c ≡ e → Compare a b c ≡ Compare w v e
compare_same {a} {b} {w} {v} {c} {e} f g h = ap (λ x. Compare x b c) f ∙ ap (λ x. Compare w x c) g ∙ ap (λ x. Compare w v x) h

abbrev pub ReadsShown : ArgMatches → Shown → Type 0
ReadsShown chosen given = (c : CommandName) (uses : List Use) → AreTexts c uses (one_text (found_of chosen)) → given ≡ shown_in uses

-- the command is the one whose name the parser found
pub is_named : (m : ArgMatches) (c : CommandName) (uses : List Use) → IsFound c uses (subcommand_rows_of m) → (d : CommandName) → subcommand_name_of m ≡ Some (name_of d) → c ≡ d
is_named m c uses found d e =
    let same : name_of c ≡ name_of d = same_Some _ _ (sym found.named ∙ named m ∙ e) in
    same_Some c d (sym (named_back c) ∙ ap command_named same ∙ named_back d)

pub is_called : (m : ArgMatches) (c : CommandName) (uses : List Use) → IsFound c uses (subcommand_rows_of m) → (d : CommandName) → c ≡ d → subcommand_name_of m ≡ Some (name_of d)
is_called m c uses found d same = sym (named m) ∙ found.named ∙ ap (λ x. Some (name_of x)) same

-- and so is the task of an arm
pub task_chosen : (m : ArgMatches) (c : CommandName) (uses : List Use) (d : CommandName) (task : Task) → IsFound c uses (subcommand_rows_of m) → subcommand_name_of m ≡ Some (name_of d) → task ≡ task_in d uses → task ≡ task_in c uses
task_chosen m c uses d task found called e = subst (λ x. task ≡ task_in x uses) (sym (is_named m c uses found d called)) e

-- any other name is that of a replay
pub replay_chosen : (c : CommandName) (uses : List Use) (options : Options) → options ≡ options_in c uses → (c ≡ diff → ⊥) → (c ≡ show → ⊥) → (c ≡ make → ⊥) → Replay options ≡ task_in c uses
replay_chosen diff uses options e no_diff no_show no_make = absurd (no_diff refl)
replay_chosen show uses options e no_diff no_show no_make = absurd (no_show refl)
replay_chosen make uses options e no_diff no_show no_make = absurd (no_make refl)
replay_chosen serial uses options e no_diff no_show no_make = ap Replay e
replay_chosen run uses options e no_diff no_show no_make = ap Replay e
replay_chosen compare uses options e no_diff no_show no_make = ap Replay e
replay_chosen rounds uses options e no_diff no_show no_make = ap Replay e
replay_chosen depends uses options e no_diff no_show no_make = ap Replay e
replay_chosen check uses options e no_diff no_show no_make = ap Replay e

module _ (m chosen : ArgMatches) (rows : IsChosen m chosen) (c : CommandName) (uses : List Use) (found : IsFound c uses (subcommand_rows_of m)) where
  texts : AreTexts c uses (one_text (found_of chosen))
  texts = chosen_texts m chosen c uses rows found

  number_is : (d : CommandName) (word : List ℕ) (default most given : ℕ) → c ≡ d → list_all (is_one (is_number most) word) table ≡ true → most < 2 ^ 63
      → default_in word (options_of d) ≡ Some (decimal default) → 1 ≤ default → default ≤ most → ReadsNumber chosen word most given → given ≡ number_in default word uses
  number_is d word default most given same all small is low high read =
      let told = number_told d uses (one_text (found_of chosen)) word default most all small is low high (subst (λ x. AreTexts x uses (one_text (found_of chosen))) same texts) in
      read (number_in default word uses) told.0 told.1 told.2

  options_are : (d : CommandName) (options : Options) → c ≡ d → options ≡ options_in d uses → options ≡ options_in c uses
  options_are d options same e = subst (λ x. options ≡ options_in x uses) (sym same) e

  pub serial_chosen : (given : Shown) → subcommand_name_of m ≡ Some (codes "serial") → ReadsShown chosen given → ◌≡◌ {A = Options} (record { mode = Serial; shown = given }) (options_in c uses)
  serial_chosen given called read = options_are serial _ (is_named m c uses found serial called) (options_same refl (read c uses texts))

  pub run_chosen : (workers window : ℕ) (given : Shown) (eager : Bool) → subcommand_name_of m ≡ Some (codes "run") → ReadsNumber chosen (codes "workers") 64 workers → ReadsNumber chosen (codes "window") 4096 window
      → ReadsShown chosen given → ReadsFlag (one_text (found_of chosen)) (codes "eager") eager → ◌≡◌ {A = Options} (record { mode = Run workers window eager; shown = given }) (options_in c uses)
  run_chosen workers window given eager called a b read eagerly =
      let same = is_named m c uses found run called in
      let one = number_is run (codes "workers") 4 64 workers same refl (omega arith) four (omega arith) (omega arith) a in
      let other = number_is run (codes "window") 64 4096 window same refl (omega arith) sixty_four (omega arith) (omega arith) b in
      options_are run _ same (options_same (run_same one other (flag_told c uses (one_text (found_of chosen)) (codes "eager") eager refl texts eagerly)) (read c uses texts))

  pub compare_chosen : (workers window : ℕ) (eager : Bool) → subcommand_name_of m ≡ Some (codes "compare") → ReadsNumber chosen (codes "workers") 64 workers → ReadsNumber chosen (codes "window") 4096 window
      → ReadsFlag (one_text (found_of chosen)) (codes "eager") eager → ◌≡◌ {A = Options} (record { mode = Compare workers window eager; shown = plain }) (options_in c uses)
  compare_chosen workers window eager called a b eagerly =
      let same = is_named m c uses found compare called in
      let one = number_is compare (codes "workers") 4 64 workers same refl (omega arith) four (omega arith) (omega arith) a in
      let other = number_is compare (codes "window") 64 4096 window same refl (omega arith) sixty_four (omega arith) (omega arith) b in
      options_are compare _ same (options_same (compare_same one other (flag_told c uses (one_text (found_of chosen)) (codes "eager") eager refl texts eagerly)) refl)

  pub rounds_chosen : (window : ℕ) (dot : Bool) → subcommand_name_of m ≡ Some (codes "rounds") → ReadsNumber chosen (codes "window") 4096 window
      → ReadsFlag (one_text (found_of chosen)) (codes "dot") dot → ◌≡◌ {A = Options} (record { mode = Rounds window dot; shown = plain }) (options_in c uses)
  rounds_chosen window dot called b lines =
      let same = is_named m c uses found rounds called in
      let other = number_is rounds (codes "window") 64 4096 window same refl (omega arith) sixty_four (omega arith) (omega arith) b in
      options_are rounds _ same (options_same (ap₂ Rounds other (flag_told c uses (one_text (found_of chosen)) (codes "dot") dot refl texts lines)) refl)

  pub depends_chosen : (dot : Bool) → subcommand_name_of m ≡ Some (codes "depends") → ReadsFlag (one_text (found_of chosen)) (codes "dot") dot
      → ◌≡◌ {A = Options} (record { mode = Depends dot; shown = plain }) (options_in c uses)
  depends_chosen dot called lines =
      options_are depends _ (is_named m c uses found depends called) (options_same (ap Depends (flag_told c uses (one_text (found_of chosen)) (codes "dot") dot refl texts lines)) refl)

-- any other name is that of no run
pub check_chosen : (c : CommandName) (uses : List Use) → (c ≡ serial → ⊥) → (c ≡ run → ⊥) → (c ≡ compare → ⊥) → (c ≡ rounds → ⊥) → (c ≡ depends → ⊥) → ◌≡◌ {A = Options} (record { mode = Check; shown = plain }) (options_in c uses)
check_chosen serial uses no_serial no_run no_compare no_rounds no_depends = absurd (no_serial refl)
check_chosen run uses no_serial no_run no_compare no_rounds no_depends = absurd (no_run refl)
check_chosen compare uses no_serial no_run no_compare no_rounds no_depends = absurd (no_compare refl)
check_chosen rounds uses no_serial no_run no_compare no_rounds no_depends = absurd (no_rounds refl)
check_chosen depends uses no_serial no_run no_compare no_rounds no_depends = absurd (no_depends refl)
check_chosen check uses no_serial no_run no_compare no_rounds no_depends = refl
check_chosen show uses no_serial no_run no_compare no_rounds no_depends = refl
check_chosen make uses no_serial no_run no_compare no_rounds no_depends = refl
check_chosen diff uses no_serial no_run no_compare no_rounds no_depends = refl

-- a number in decimal is read as that number
pub read_number : {E : Type 0} (G : List ℕ → Result ℕ E → Type 0) (n : ℕ) (r : Option ℕ) → ReadsOne G (decimal n) r → ((u : List ℕ) (x : Result ℕ E) → G u x → ParsesUnsigned 32 10 u x) → n < 2 ^ 32 → r ≡ Some n
read_number {E} G n (Some v) read only small = let is : ◌≡◌ {A = Result ℕ E} (Ok v) (Ok n) = parse-decimal 32 n (decimal n) (Ok v) small (omega arith) refl (only (decimal n) (Ok v) read) in cc
read_number {E} G n None read only small = let is : ◌≡◌ {A = Result ℕ E} (Err read.0) (Ok n) = parse-decimal 32 n (decimal n) (Err read.0) small (omega arith) refl (only (decimal n) (Err read.0) read.1) in absurd (cc is)

-- the parse by the rules of the program's command line
pub same_rules : {T : Type 0} (a : App) (words : List (List ℕ)) (r : Result T Error) → a ≡ replayer → (is_simple_and_free a ≡ true → FailsBy (fault_of a words) r) → FailsBy (fault_of replayer words) r
same_rules a words r command h =
    let P : App → Type 0 = λ x. FailsBy (fault_of x words) r in
    subst P command (h (ap is_simple_and_free command))

-- what a kind of error among some means is among their meanings
among_meant : (k : ErrorKind) (kinds : List ErrorKind) → IsAmong k kinds → Contains (map kind_meant kinds) (kind_meant k)
among_meant k [] h = absurd h
among_meant k (x ∷ kinds) (inl e) = (0, omega arith, ap kind_meant (sym e))
among_meant k (x ∷ kinds) (inr later) = let rest = among_meant k kinds later in (suc rest.0, omega (arith, rest.1), rest.2)

pub usage_meant : (kinds : List ErrorKind) (e : Error) (kind : UsageKind) → HasKind kinds e → (kind ≡ kind_meant (kind_of e)) ⊎ (kind ≡ Memory) → (kind ≡ Memory) ⊎ Contains (map kind_meant kinds) kind
usage_meant kinds e kind h (inr none) = inl none
usage_meant kinds e kind (inl none) (inl is) = inl (is ∙ ap kind_meant none)
usage_meant kinds e kind (inr among) (inl is) = inr (rw is (among_meant (kind_of e) kinds among))
