-- What the parser finds of uses of options.
use Rattle.std.proofs.Common.{◌≡◌, ◌∙◌, ◌<◌, ◌^◌, ◌==◌, ℕ, Bool, true, false, List, [], ◌∷◌, ◌++◌, map, Option, None, Some, codes, refl, sym, ap, subst, cond, arith, inl, inr, ◌⊎◌}
use Rattle.std.specs.Prelude.{◌&&◌, ◌||◌, find, fold, not, is_some, option_map, option_and_then, nat_lt}
use Rattle.std.specs.List.{list_all, list_any, before_first}
use Rattle.std.specs.Option.{option_map_or, option_or}
use Rattle.std.specs.Str.{bytes_eq}
use Rattle.std.proofs.lemmas.Bool.{and_parts, or_cases, not-true, ltb-true, eqb-true}
use Rattle.std.proofs.lemmas.List.Folds.{find-append}
use Rattle.std.proofs.lemmas.Option.{same_Some}
use Rattle.std.proofs.lemmas.Slice.Eq.{bytes_eq-Decides}
use Rattle.clap.specs.Lexer.{has_byte, long_of, without_minus}
use Rattle.clap.specs.Simple.{Shape}
use Rattle.clap.specs.Walk.{Held, Row, Rule, Text, arg_by_id, default_rows, finished, has_long, has_row, more_values, reading_by, row_text, settled, with_default}
use Rattle.clap.specs.declared.builder.value_parser.Reading.{Reading}
use Rattle.clap.specs.declared.parser.matches.ValueSource.{ValueSource}
use Rattle.clap.specs.declared.parser.matches.ValueSource.TheVariants.{CommandLine, DefaultValue}
use Rattle.program_words.specs.Options.{AreUses, IsUse, IsValueFor, Kind, Opt, Use, answers_by, default_by, default_for, default_in, file, flag, name, number, option_met, option_named, place_after, stands_at, use_of, value_of}
use Rattle.program_words.proofs.NumberWords.{decimal_reads}
use Rattle.program_words.proofs.UseWalk.{Fits, Stands, at_absent, built_by, built_of, row_of}

-- a word that may follow two hyphens
abbrev is_word : Text → Bool
is_word [] = false
is_word (x ∷ rest) = not (has_byte 61 (x ∷ rest)) && bytes_eq (before_first (λ y. y == 61) (x ∷ rest)) (x ∷ rest)

abbrev has_words : Opt → Bool
has_words o = is_word o.word && list_all is_word o.hidden

abbrev is_small : Kind → Bool
is_small (number most default) = nat_lt most (2 ^ 63)
is_small (file place) = nat_lt place 10
is_small _ = true

-- what is to be so of the options of a command
abbrev is_other : Text → Opt → Bool
is_other word o = not (bytes_eq word o.word)

abbrev are_distinct : List Opt → Bool
are_distinct [] = true
are_distinct (o ∷ options) = list_all (is_other o.word) options && are_distinct options

-- a default is read as it stands
abbrev is_plain : Option Text → Bool
is_plain None = true
is_plain (Some text) = bytes_eq (without_minus text) text

abbrev pub are_options : List Opt → Bool
are_options options = list_all has_words options && (list_all (λ o. is_small o.kind) options && (list_all (λ o. is_plain (default_by o.kind)) options && are_distinct options))

-- what is so of all is so of the one that is found, which passes the test
found_step : {X : Type 0} (is : Bool) (x y : X) (rest : Option X) (P : X → Type 0) → cond is (Some x) rest ≡ Some y → P x → (rest ≡ Some y → P y) → P y
found_step true x y rest P e here later = subst P (same_Some x y e) here
found_step false x y rest P e here later = later e

pub found_all : {X : Type 0} (p P : X → Bool) (xs : List X) (x : X) → find p xs ≡ Some x → list_all P xs ≡ true → P x ≡ true
found_all p P [] x e all = cc
found_all p P (y ∷ xs) x e all =
    let parts = and_parts (P y) (list_all P xs) all in
    found_step (p y) y x (find p xs) (λ z. P z ≡ true) e parts.0 (λ later. found_all p P xs x later parts.1)

passes_step : {X : Type 0} (is : Bool) (p : X → Bool) (x y : X) (rest : Option X) → p x ≡ is → cond is (Some x) rest ≡ Some y → (rest ≡ Some y → p y ≡ true) → p y ≡ true
passes_step true p x y rest same e later = subst (λ z. p z ≡ true) (same_Some x y e) same
passes_step false p x y rest same e later = later e

pub found_passes : {X : Type 0} (p : X → Bool) (xs : List X) (x : X) → find p xs ≡ Some x → p x ≡ true
found_passes p [] x e = cc
found_passes p (y ∷ xs) x e = passes_step (p y) p y x (find p xs) refl e (λ later. found_passes p xs x later)

-- what is found among the options is found among what the parser has of them
built_step : (is : Bool) (x o : Opt) (rest : Option Opt) (more : Option Rule) → cond is (Some x) rest ≡ Some o → (rest ≡ Some o → more ≡ Some (built_of o)) → cond is (Some (built_of x)) more ≡ Some (built_of o)
built_step true x o rest more e later = ap (λ y. Some (built_of y)) (same_Some x o e)
built_step false x o rest more e later = later e

found_built : (p : Opt → Bool) (q : Rule → Bool) → ((x : Opt) → q (built_of x) ≡ p x) → (options : List Opt) (more : List Rule) (o : Opt) → find p options ≡ Some o → find q (map built_of options ++ more) ≡ Some (built_of o)
found_built p q same [] more o e = cc
found_built p q same (x ∷ options) more o e =
    rw (same x) (built_step (p x) x o (find p options) (find q (map built_of options ++ more)) e (λ later. found_built p q same options more o later))

named_same : (k : Kind) (o : Opt) (word : Text) → (not (is_some (built_by k o).index) && has_long (built_by k o) word) ≡ answers_by k o word
named_same flag o word = refl
named_same (number most default) o word = refl
named_same (name letter) o word = refl
named_same (file place) o word = refl

placed_same : (k : Kind) (o : Opt) (place : ℕ) → option_map_or (λ i. i == place) (built_by k o).index false ≡ stands_at k place
placed_same flag o place = refl
placed_same (number most default) o place = refl
placed_same (name letter) o place = refl
placed_same (file at) o place = refl

id_same : (k : Kind) (o : Opt) → (built_by k o).id ≡ o.word
id_same flag o = refl
id_same (number most default) o = refl
id_same (name letter) o = refl
id_same (file at) o = refl

-- and by its word
word_step : (is : Bool) (p : Opt → Bool) (x o : Opt) (options : List Opt) → cond is (Some x) (find p options) ≡ Some o → list_all (is_other x.word) options ≡ true
    → (find p options ≡ Some o → find (λ y. bytes_eq y.word o.word) options ≡ Some o) → find (λ y. bytes_eq y.word o.word) (x ∷ options) ≡ Some o
word_step true p x o options e others later =
    let same : x ≡ o = same_Some x o e in
    let equal : bytes_eq x.word o.word ≡ true = (bytes_eq-Decides x.word o.word).1 (ap (λ (y : Opt). y.word) same) in
    rw equal (ap Some same)
word_step false p x o options e others later =
    let differs : bytes_eq x.word o.word ≡ false = not-true _ (found_all p (is_other x.word) options o e others) in
    rw differs (later e)

found_by_word : (p : Opt → Bool) (options : List Opt) (o : Opt) → are_distinct options ≡ true → find p options ≡ Some o → find (λ y. bytes_eq y.word o.word) options ≡ Some o
found_by_word p [] o distinct e = cc
found_by_word p (x ∷ options) o distinct e =
    let parts = and_parts (list_all (is_other x.word) options) (are_distinct options) distinct in
    word_step (p x) p x o options e parts.0 (λ later. found_by_word p options o parts.1 later)

found_by_id : (p : Opt → Bool) (options : List Opt) (more : List Rule) (o : Opt) → are_distinct options ≡ true → find p options ≡ Some o → arg_by_id (map built_of options ++ more) o.word ≡ Some (built_of o)
found_by_id p options more o distinct e =
    found_built (λ y. bytes_eq y.word o.word) (λ a. bytes_eq a.id o.word) (λ x. ap (λ id. bytes_eq id o.word) (id_same x.kind x)) options more o (found_by_word p options o distinct e)

-- the words that mean an option are words
any_word : (words : List Text) (word : Text) → list_any (λ hidden. bytes_eq hidden word) words ≡ true → list_all is_word words ≡ true → is_word word ≡ true
any_word [] word any all = cc
any_word (x ∷ words) word any all =
    let parts = and_parts (is_word x) (list_all is_word words) all in
    elim (or_cases (bytes_eq x word) (list_any (λ hidden. bytes_eq hidden word) words) any) [
      | inl here ↦ subst (λ w. is_word w ≡ true) ((bytes_eq-Decides x word).0 here) parts.0
      | inr later ↦ any_word words word later parts.1
    ]

own_word : (o : Opt) (word : Text) → (bytes_eq o.word word || list_any (λ hidden. bytes_eq hidden word) o.hidden) ≡ true → has_words o ≡ true → is_word word ≡ true
own_word o word means all = any_word (o.word ∷ o.hidden) word means all

named_word : (k : Kind) (o : Opt) (word : Text) → answers_by k o word ≡ true → has_words o ≡ true → is_word word ≡ true
named_word flag o word means all = own_word o word means all
named_word (number most default) o word means all = own_word o word means all
named_word (name letter) o word means all = own_word o word means all
named_word (file place) o word means all = cc

read_long : (word : Text) → is_word word ≡ true → (long_of (45 ∷ 45 ∷ word) ≡ Some (word, None)) × (bytes_eq (45 ∷ 45 ∷ word) (45 ∷ 45 ∷ []) ≡ false)
read_long [] is = cc
read_long (x ∷ rest) is =
    let parts = and_parts (not (has_byte 61 (x ∷ rest))) (bytes_eq (before_first (λ y. y == 61) (x ∷ rest)) (x ∷ rest)) is in
    let none = not-true (has_byte 61 (x ∷ rest)) parts.0 in
    let all = (bytes_eq-Decides (before_first (λ y. y == 61) (x ∷ rest)) (x ∷ rest)).0 parts.1 in
    (rw (none, all) refl, refl)

small_number : (k : Kind) (most : ℕ) (default : Option Text) → is_small k ≡ true → k ≡ number most default → most < 2 ^ 63
small_number k most default small is = ltb-true most (2 ^ 63) (subst (λ (j : Kind). is_small j ≡ true) is small)

small_place : (k : Kind) (place : ℕ) → is_small k ≡ true → stands_at k place ≡ true → place < 10
small_place flag place small at = cc
small_place (number most default) place small at = cc
small_place (name letter) place small at = cc
small_place (file i) place small at = let same = eqb-true i place at in let low = ltb-true i 10 small in omega arith

pub fitted : (s : Shape) (options : List Opt) (more : List Rule) → s.rules ≡ map built_of options ++ more → are_options options ≡ true → Fits s options
fitted s options more is all =
    let words = and_parts (list_all has_words options) (list_all (λ o. is_small o.kind) options && (list_all (λ o. is_plain (default_by o.kind)) options && are_distinct options)) all in
    let small = and_parts (list_all (λ o. is_small o.kind) options) (list_all (λ o. is_plain (default_by o.kind)) options && are_distinct options) words.1 in
    let distinct = (and_parts (list_all (λ o. is_plain (default_by o.kind)) options) (are_distinct options) small.1).1 in
    let read = λ (word : Text) (o : Opt) (e : option_named word options ≡ Some o). read_long word
    (named_word o.kind o word (found_passes (λ x. answers_by x.kind x word) options o e) (found_all (λ x. answers_by x.kind x word) has_words options o e words.0)) in record {
      by_long = λ word o e. rw is (found_built (λ x. answers_by x.kind x word) (λ a. not (is_some a.index) && has_long a word) (λ x. named_same x.kind x word) options more o e);
      by_place = λ place o e. rw is (found_built (λ x. stands_at x.kind place) (λ a. option_map_or (λ i. i == place) a.index false) (λ x. placed_same x.kind x place) options more o e);
      by_id = λ word o e. rw is (found_by_id (λ x. answers_by x.kind x word) options more o distinct e);
      file_by_id = λ place o e. rw is (found_by_id (λ x. stands_at x.kind place) options more o distinct e);
      long = λ word o e. (read word o e).0;
      dashes = λ word o e. (read word o e).1;
      most = λ word o most default e k. small_number o.kind most default (found_all (λ x. answers_by x.kind x word) (λ x. is_small x.kind) options o e small.0) k;
      places = λ place o e. small_place o.kind place (found_all (λ x. stands_at x.kind place) (λ x. is_small x.kind) options o e small.0) (found_passes (λ x. stands_at x.kind place) options o e);
    }

-- the rows at the end
abbrev row_at : Text → List Row → Option Row
row_at id rows = find (λ r. bytes_eq r.id id) rows

rows_step : (is : Bool) (u : Use) (rest : Option Use) (more : Option Row) → more ≡ option_map row_of rest → cond is (Some (row_of u)) more ≡ option_map row_of (cond is (Some u) rest)
rows_step true u rest more e = refl
rows_step false u rest more e = e

row_of_use : (id : Text) (uses : List Use) → row_at id (map row_of uses) ≡ option_map row_of (use_of id uses)
row_of_use id [] = refl
row_of_use id (u ∷ uses) = rows_step (bytes_eq u.option.word id) u (use_of id uses) (row_at id (map row_of uses)) (row_of_use id uses)

-- a default stands behind the rows that are there
abbrev row_with : Text → List Text → ValueSource → Reading → Row
row_with id values source reading = record { id = id; values = values; count = None; source = Some source; reading = reading }

no_row_by : (is : Bool) (r : Row) (rest : Option Row) (any : Bool) → (is || any) ≡ false → (any ≡ false → rest ≡ None) → cond is (Some r) rest ≡ None
no_row_by true r rest any e later = cc
no_row_by false r rest any e later = later e

no_row : (id : Text) (rows : List Row) → has_row id rows ≡ false → row_at id rows ≡ None
no_row id [] e = refl
no_row id (r ∷ rows) e = no_row_by (bytes_eq r.id id) r (row_at id rows) (has_row id rows) e (no_row id rows)

some_row_by : (is : Bool) (r : Row) (rest : Option Row) (any : Bool) (other : Option Row) → (is || any) ≡ true → (any ≡ true → option_or rest other ≡ rest) → option_or (cond is (Some r) rest) other ≡ cond is (Some r) rest
some_row_by true r rest any other e later = refl
some_row_by false r rest any other e later = later e

-- where a row is there, no other is looked at
some_row : (id : Text) (rows : List Row) (other : Option Row) → has_row id rows ≡ true → option_or (row_at id rows) other ≡ row_at id rows
some_row id [] other e = cc
some_row id (r ∷ rows) other e = some_row_by (bytes_eq r.id id) r (row_at id rows) (has_row id rows) other e (some_row id rows other)

or_none : {X : Type 0} (x : Option X) → option_or x None ≡ x
or_none None = refl
or_none (Some x) = refl

or_or : {X : Type 0} (x y z : Option X) → option_or (option_or x y) z ≡ option_or x (option_or y z)
or_or None y z = refl
or_or (Some x) y z = refl

same_default : (same : Bool) (id : Text) (a : Rule) (rows : List Row) (r : Row) → bytes_eq a.id id ≡ same → has_row a.id rows ≡ true → row_at id rows ≡ option_or (row_at id rows) (cond same (Some r) None)
same_default true id a rows r same is = sym (some_row id rows (Some r) (subst (λ x. has_row x rows ≡ true) ((bytes_eq-Decides a.id id).0 same) is))
same_default false id a rows r same is = sym (or_none (row_at id rows))

none_met : (there : Bool) (id : Text) (rows : List Row) → row_at id (cond there rows rows) ≡ option_or (row_at id rows) None
none_met true id rows = sym (or_none (row_at id rows))
none_met false id rows = sym (or_none (row_at id rows))

default_met : (there : Bool) (id : Text) (a : Rule) (values : List Text) (rows : List Row) → has_row a.id rows ≡ there
    → row_at id (cond there rows (default_rows a.id (reading_by a) values rows)) ≡ option_or (row_at id rows) (row_at id (default_rows a.id (reading_by a) values []))
default_met there id a [] rows is = none_met there id rows
default_met false id a (v ∷ values) rows is =
    let r = row_with a.id (v ∷ values) DefaultValue (reading_by a) in
    ap (row_at id) (at_absent a.id (more_values DefaultValue (v ∷ values)) (r ∷ []) rows is) ∙ find-append (λ x. bytes_eq x.id id) rows (r ∷ [])
default_met true id a (v ∷ values) rows is = same_default (bytes_eq a.id id) id a rows (row_with a.id (v ∷ values) DefaultValue (reading_by a)) refl is

abbrev defaults_at : Text → List Rule → Option Row
defaults_at id [] = None
defaults_at id (a ∷ rules) = option_or (row_at id (default_rows a.id (reading_by a) a.defaults [])) (defaults_at id rules)

finished_at : (id : Text) (rules : List Rule) (rows : List Row) → row_at id (fold with_default rows rules) ≡ option_or (row_at id rows) (defaults_at id rules)
finished_at id [] rows = sym (or_none (row_at id rows))
finished_at id (a ∷ rules) rows =
    finished_at id rules (with_default rows a) ∙ ap (λ x. option_or x (defaults_at id rules)) (default_met (has_row a.id rows) id a a.defaults rows refl)
    ∙ or_or (row_at id rows) (row_at id (default_rows a.id (reading_by a) a.defaults [])) (defaults_at id rules)

-- a text of a row is read as it stands, or by its parser
pub record Reads (f : Row → Option Text) : Type 0 where
  pub default : (k : Kind) (o : Opt) (text : Text) → default_by k ≡ Some text → is_plain (Some text) ≡ true → f (row_with o.word (text ∷ []) DefaultValue (reading_by (built_by k o))) ≡ Some text
  pub used : (k : Kind) (o : Opt) (text : Text) → IsValueFor k text → is_small k ≡ true → f (row_with o.word (text ∷ []) CommandLine (reading_by (built_by k o))) ≡ Some text

-- a row and its text, or neither
abbrev Given : (Row → Option Text) → Option Row → Option Text → Type 0
Given f row text = ((row ≡ None) × (text ≡ None)) ⊎ ((r : Row) × (t : Text) × (row ≡ Some r) × (text ≡ Some t) × (f r ≡ Some t))

given_text : (f : Row → Option Text) (row : Option Row) (text : Option Text) → Given f row text → option_and_then f row ≡ text
given_text f row text (inl none) = rw (none.0, none.1) refl
given_text f row text (inr some) = rw (some.2, some.3) some.4

given_or : (f : Row → Option Text) (row more : Option Row) (text other : Option Text) → Given f row text → Given f more other → Given f (option_or row more) (option_or text other)
given_or f row more text other (inl none) later = rw (none.0, none.1) later
given_or f row more text other (inr some) later = inr (some.0, some.1, rw some.2 refl, rw some.3 refl, some.4)

default_given : (f : Row → Option Text) (is : Bool) (r : Row) (k : Kind) (text : Text) → default_by k ≡ Some text → f r ≡ Some text → Given f (cond is (Some r) None) (default_for is k)
default_given f true r k text e reads = inr (r, text, refl, e, reads)
default_given f false r k text e reads = inl (refl, refl)

none_given : (f : Row → Option Text) (is : Bool) (k : Kind) → default_by k ≡ None → Given f None (default_for is k)
none_given f true k e = inl (refl, e)
none_given f false k e = inl (refl, refl)

kind_given : (f : Row → Option Text) → Reads f → (k : Kind) (o : Opt) (id : Text) → is_plain (default_by k) ≡ true
    → Given f (row_at id (default_rows (built_by k o).id (reading_by (built_by k o)) (built_by k o).defaults [])) (default_for (bytes_eq o.word id) k)
kind_given f reads flag o id plain = default_given f (bytes_eq o.word id) _ flag (codes "false") refl (reads.default flag o (codes "false") refl refl)
kind_given f reads (number most None) o id plain = none_given f (bytes_eq o.word id) (number most None) refl
kind_given f reads (number most (Some text)) o id plain =
    default_given f (bytes_eq o.word id) _ (number most (Some text)) text refl (reads.default (number most (Some text)) o text refl plain)
kind_given f reads (name letter) o id plain = none_given f (bytes_eq o.word id) (name letter) refl
kind_given f reads (file at) o id plain = none_given f (bytes_eq o.word id) (file at) refl

defaults_given : (f : Row → Option Text) → Reads f → (id : Text) (options : List Opt) (more : List Rule) → list_all (λ o. is_plain (default_by o.kind)) options ≡ true → defaults_at id more ≡ None
    → Given f (defaults_at id (map built_of options ++ more)) (default_in id options)
defaults_given f reads id [] more plain none = inl (none, refl)
defaults_given f reads id (o ∷ options) more plain none =
    let parts = and_parts (is_plain (default_by o.kind)) (list_all (λ x. is_plain (default_by x.kind)) options) plain in
    given_or f _ _ _ _ (kind_given f reads o.kind o id parts.0) (defaults_given f reads id options more parts.1 none)

-- a use that is found is one
pub use_known : (options : List Opt) (uses : List Use) (place : ℕ) (before : List Use) → AreUses options place before uses → (id : Text) (u : Use) → use_of id uses ≡ Some u
    → (at : ℕ) × (earlier : List Use) × IsUse options at earlier u
use_known options [] place before are id u e = cc
use_known options (v ∷ uses) place before are id u e =
    known_step (bytes_eq v.option.word id) options v u (use_of id uses) e (place, before, are.0) (λ later. use_known options uses (place_after v.option.kind place) (before ++ v ∷ []) are.1 id u later)
  where
    known_step : (is : Bool) (options : List Opt) (v u : Use) (rest : Option Use) → cond is (Some v) rest ≡ Some u → (at : ℕ) × (earlier : List Use) × IsUse options at earlier v
        → (rest ≡ Some u → (at : ℕ) × (earlier : List Use) × IsUse options at earlier u) → (at : ℕ) × (earlier : List Use) × IsUse options at earlier u
    known_step true options v u rest e here later = subst (λ x. (at : ℕ) × (earlier : List Use) × IsUse options at earlier x) (same_Some v u e) here
    known_step false options v u rest e here later = later e

-- what is so of all options is so of the one that is met
pub met_all : (P : Opt → Bool) (options : List Opt) → list_all P options ≡ true → (k : Kind) (place : ℕ) (word : Text) (o : Opt) → option_met k place word options ≡ Some o → P o ≡ true
met_all P options all flag place word o e = found_all (λ x. answers_by x.kind x word) P options o e all
met_all P options all (number most default) place word o e = found_all (λ x. answers_by x.kind x word) P options o e all
met_all P options all (name letter) place word o e = found_all (λ x. answers_by x.kind x word) P options o e all
met_all P options all (file at) place word o e = found_all (λ x. stands_at x.kind place) P options o e all

use_given : (f : Row → Option Text) → Reads f → (options : List Opt) → list_all (λ o. is_small o.kind) options ≡ true → (uses : List Use) → AreUses options 1 [] uses → (id : Text) (found : Option Use) → use_of id uses ≡ found
    → Given f (option_map row_of found) (option_map (λ u. u.value) found)
use_given f reads options small uses are id None e = inl (refl, refl)
use_given f reads options small uses are id (Some u) e =
    let is = (use_known options uses 1 [] are id u e).2 in
    inr (row_of u, u.value, refl, refl, reads.used u.option.kind u.option u.value is.taken (met_all (λ o. is_small o.kind) options small u.option.kind (use_known options uses 1 [] are id u e).0 u.word u.option is.known))

-- the text of each option: of its use, or else its default
pub text_given : (f : Row → Option Text) → Reads f → (s : Shape) (options : List Opt) (more : List Rule) → s.rules ≡ map built_of options ++ more → are_options options ≡ true → ((id : Text) → defaults_at id more ≡ None)
    → (uses : List Use) → AreUses options 1 [] uses → (h : Held) → Stands s uses h
    → (id : Text) → option_and_then f (row_at id (finished s.rules h)) ≡ option_or (value_of id uses) (default_in id options)
text_given f reads s options more is all none uses are h st id =
    let words = and_parts (list_all has_words options) (list_all (λ o. is_small o.kind) options && (list_all (λ o. is_plain (default_by o.kind)) options && are_distinct options)) all in
    let small = and_parts (list_all (λ o. is_small o.kind) options) (list_all (λ o. is_plain (default_by o.kind)) options && are_distinct options) words.1 in
    let plain = and_parts (list_all (λ o. is_plain (default_by o.kind)) options) (are_distinct options) small.1 in
    rw (finished_at id s.rules (settled s.rules h).rows, st.rows, row_of_use id uses, is)
    (given_text f _ _ (given_or f _ _ _ _ (use_given f reads options small.0 uses are id (use_of id uses) refl) (defaults_given f reads id options more plain.0 (none id))))

-- by the parser of the option
pub reads_text : Reads row_text
reads_text = record {
  default = text_default;
  used = text_used;
}
  where
    text_default : (k : Kind) (o : Opt) (text : Text) → default_by k ≡ Some text → is_plain (Some text) ≡ true → row_text (row_with o.word (text ∷ []) DefaultValue (reading_by (built_by k o))) ≡ Some text
    text_default flag o text is plain = refl
    text_default (number most default) o text is plain = ap Some ((bytes_eq-Decides (without_minus text) text).0 plain)
    text_default (name letter) o text is plain = refl
    text_default (file at) o text is plain = refl

    text_used : (k : Kind) (o : Opt) (text : Text) → IsValueFor k text → is_small k ≡ true → row_text (row_with o.word (text ∷ []) CommandLine (reading_by (built_by k o))) ≡ Some text
    text_used flag o text is small = refl
    text_used (number most default) o text is small = let low = ltb-true most (2 ^ 63) small in rw is.1 (ap Some (decimal_reads is.0 (omega arith)))
    text_used (name letter) o text is small = refl
    text_used (file at) o text is small = refl
