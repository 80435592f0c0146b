-- The parser's walk over uses of options, in any order.
use Rattle.std.proofs.Common.{◌≡◌, ◌∙◌, ◌<◌, ◌+◌, ◌^◌, ℕ, Bool, true, false, List, [], ◌∷◌, ◌++◌, map, Option, None, Some, codes, refl, sym, subst, append_assoc, cond, arith}
use Rattle.std.specs.Prelude.{◌&&◌, ◌||◌, fold, min, pos}
use Rattle.std.specs.Str.{bytes_eq}
use Rattle.std.proofs.lemmas.Bool.{and_right, or_parts}
use Rattle.std.proofs.lemmas.List.{append-nil, map-append}
use Rattle.std.proofs.lemmas.Slice.Eq.{bytes_eq-Decides}
use Rattle.clap.specs.Lexer.{long_of, usize_max}
use Rattle.clap.specs.Simple.{Shape, filled}
use Rattle.clap.specs.Takes.{settle_passes, walk_passes}
use Rattle.clap.specs.ValueTests.{accepts}
use Rattle.clap.specs.Walk.{Held, Row, Rule, Text, Walk, arg_by_id, arg_by_index, arg_by_long, at_row, has_row, idle, is_pending, more_values, reacted, reading_by, settled, walked}
use Rattle.clap.specs.declared.builder.value_parser.ValueParser.TheVariants as vp
use Rattle.clap.specs.declared.parser.matches.ValueSource.TheVariants.{CommandLine}
use Rattle.program_words.specs.Options.{AreUses, IsUse, Kind, Opt, Use, file, file_at, flag, name, number, option_named, place_after, rule_by, use_of, words_by, words_of}
use Rattle.program_words.proofs.NumberWords.{IsValue, accepted, decimal_is_value, name_is_value}

-- what the walk holds between two uses
abbrev pub at : Held → ℕ → Walk
at h place = record { held = h; waiting = idle; position = place; is_trailing = false; stopped = None }

-- an option as the parser has built it
abbrev pub index_by : Kind → Option ℕ
index_by (file place) = Some place
index_by _ = None

abbrev pub built_by : Kind → Opt → Rule
built_by k o = record (filled (rule_by k o)) { index = index_by k }

abbrev pub built_of : Opt → Rule
built_of o = built_by o.kind o

-- the parser finds the options of a command
pub record Fits (s : Shape) (options : List Opt) : Type 0 where
  pub by_long : (word : Text) (o : Opt) → option_named word options ≡ Some o → arg_by_long s.rules word ≡ Some (built_of o)
  pub by_place : (place : ℕ) (o : Opt) → file_at place options ≡ Some o → arg_by_index s.rules place ≡ Some (built_of o)
  pub by_id : (word : Text) (o : Opt) → option_named word options ≡ Some o → arg_by_id s.rules o.word ≡ Some (built_of o)
  pub file_by_id : (place : ℕ) (o : Opt) → file_at place options ≡ Some o → arg_by_id s.rules o.word ≡ Some (built_of o)
  pub long : (word : Text) (o : Opt) → option_named word options ≡ Some o → long_of (45 ∷ 45 ∷ word) ≡ Some (word, None)
  pub dashes : (word : Text) (o : Opt) → option_named word options ≡ Some o → bytes_eq (45 ∷ 45 ∷ word) (45 ∷ 45 ∷ []) ≡ false
  pub most : (word : Text) (o : Opt) (most : ℕ) (default : Option Text) → option_named word options ≡ Some o → o.kind ≡ number most default → most < 2 ^ 63
  pub places : (place : ℕ) (o : Opt) → file_at place options ≡ Some o → place < 10

-- the row of a use
abbrev pub row_of : Use → Row
row_of u = record { id = u.option.word; values = u.value ∷ []; count = None; source = Some CommandLine; reading = reading_by (built_of u.option) }

absent_by : (is : Bool) (u : Use) (rest : Option Use) (any : Bool) → cond is (Some u) rest ≡ None → (rest ≡ None → any ≡ false) → (is || any) ≡ false
absent_by true u rest any e f = cc
absent_by false u rest any e f = f e

absent : (id : Text) (uses : List Use) → use_of id uses ≡ None → has_row id (map row_of uses) ≡ false
absent id [] e = refl
absent id (u ∷ uses) e = absent_by (bytes_eq u.option.word id) u (use_of id uses) (has_row id (map row_of uses)) e (absent id uses)

pub at_absent : (id : Text) (change : Row → List Row) (missing rows : List Row) → has_row id rows ≡ false → at_row id change missing rows ≡ rows ++ missing
at_absent id change missing [] none = refl
at_absent id change missing (r ∷ rows) none =
    let parts = or_parts (bytes_eq r.id id) (has_row id rows) none in
    rw (parts.0, at_absent id change missing rows parts.1) refl

-- the rows before, and that no value lacks
pub record Stands (s : Shape) (before : List Use) (h : Held) : Type 0 where
  pub rows : (settled s.rules h).rows ≡ map row_of before
  pub ready : settle_passes s.rules s.args_override_self h ≡ true

pub record Stepped (s : Shape) (place : ℕ) (before : List Use) (u : Use) (h : Held) : Type 0 where
  pub end : Held
  pub walks : (rest : List Text) → fold (walked s.rules []) (at h place) (words_by u.option.kind u.word u.value ++ rest) ≡ fold (walked s.rules []) (at end (place_after u.option.kind place)) rest
  pub passes : (rest : List Text) → walk_passes s [] (at h place) (words_by u.option.kind u.word u.value ++ rest) ≡ walk_passes s [] (at end (place_after u.option.kind place)) rest
  pub rows : (settled s.rules end).rows ≡ map row_of before ++ row_of u ∷ []
  pub ready : settle_passes s.rules s.args_override_self end ≡ true

-- a value that waits for its option to be settled
abbrev given : List Rule → Text → Text → Held → Held
given c id text h = record (settled c h) { pending = Some (id, text ∷ []) }

-- a use of this kind
abbrev of_kind : Kind → Use → Use
of_kind k u = record u { option = record u.option { kind = k } }

used_once : (id : Text) (rows : List Row) (change : Row → List Row) (r : Row) → has_row id rows ≡ false → at_row id change (r ∷ []) (at_row id (λ _. []) [] rows) ≡ rows ++ r ∷ []
used_once id rows change r none =
    let gone : at_row id (λ _. []) [] rows ≡ rows = at_absent id (λ _. []) [] rows none ∙ append-nil rows in
    rw gone (at_absent id change (r ∷ []) rows none)

module _ (s : Shape) (options : List Opt) (fits : Fits s options) (place : ℕ) (before : List Use) (h : Held) (st : Stands s before h) where
  fresh : (id : Text) → use_of id before ≡ None → has_row id (settled s.rules h).rows ≡ false
  fresh id new = rw st.rows (absent id before new)

  flag_step : (u : Use) → IsUse options place before (of_kind flag u) → Stepped s place before (of_kind flag u) h
  unfolding walked walk_passes
  flag_step u is =
      let o = (of_kind flag u).option in
      let long = fits.long u.word o is.known in
      let dashes = fits.dashes u.word o is.known in
      let by_long = fits.by_long u.word o is.known in
      let none = fresh u.option.word is.new in
      let ready = st.ready in record {
        end = reacted s.rules (built_by flag o) [] h;
        walks = λ rest. rw (dashes, long, by_long) refl;
        passes = λ rest. rw (dashes, long, by_long, ready, none) refl;
        rows = rw (st.rows, is.taken) (used_once u.option.word (map row_of before) (more_values CommandLine (codes "true" ∷ [])) (record (row_of (of_kind flag u)) { values = codes "true" ∷ [] }) (absent u.option.word before is.new));
        ready = refl;
      }

  number_step : (most : ℕ) (default : Option Text) (u : Use) → IsUse options place before (of_kind (number most default) u) → Stepped s place before (of_kind (number most default) u) h
  unfolding walked walk_passes
  number_step most default u is =
      let k = number most default in
      let o = (of_kind k u).option in
      let long = fits.long u.word o is.known in
      let dashes = fits.dashes u.word o is.known in
      let by_long = fits.by_long u.word o is.known in
      let by_id = fits.by_id u.word o is.known in
      let none = fresh u.option.word is.new in
      let same : bytes_eq u.option.word u.option.word ≡ true = (bytes_eq-Decides u.option.word u.option.word).1 refl in
      let small = fits.most u.word o most default is.known refl in
      let v : IsValue u.value = rw is.taken.1 (decimal_is_value is.taken.0 (omega arith)) in
      let passes : accepts false (vp.Signed (pos 1) (pos most)) u.value ≡ true = rw is.taken.1 (accepted is.taken.0 most is.taken.2 is.taken.3 small) in
      let ready = st.ready in record {
        end = given s.rules u.option.word u.value h;
        walks = λ rest. rw (dashes, long, by_long, v.dashes, v.long, v.short, by_id, same) refl;
        passes = λ rest. rw (dashes, long, by_long, ready, v.dashes, v.long, v.short, by_id, same) refl;
        rows = rw (by_id, st.rows) (used_once u.option.word (map row_of before) (more_values CommandLine (u.value ∷ [])) (row_of (of_kind k u)) (absent u.option.word before is.new));
        ready = rw (by_id, none, passes) refl;
      }

  name_step : (letter : Option ℕ) (u : Use) → IsUse options place before (of_kind (name letter) u) → Stepped s place before (of_kind (name letter) u) h
  unfolding walked walk_passes
  name_step letter u is =
      let k = name letter in
      let o = (of_kind k u).option in
      let long = fits.long u.word o is.known in
      let dashes = fits.dashes u.word o is.known in
      let by_long = fits.by_long u.word o is.known in
      let by_id = fits.by_id u.word o is.known in
      let none = fresh u.option.word is.new in
      let same : bytes_eq u.option.word u.option.word ≡ true = (bytes_eq-Decides u.option.word u.option.word).1 refl in
      let v = name_is_value u.value is.taken in
      let ready = st.ready in record {
        end = given s.rules u.option.word u.value h;
        walks = λ rest. rw (dashes, long, by_long, v.dashes, v.long, v.short, by_id, same) refl;
        passes = λ rest. rw (dashes, long, by_long, ready, v.dashes, v.long, v.short, by_id, same) refl;
        rows = rw (by_id, st.rows) (used_once u.option.word (map row_of before) (more_values CommandLine (u.value ∷ [])) (row_of (of_kind k u)) (absent u.option.word before is.new));
        ready = rw (by_id, none) refl;
      }

  file_step : (at : ℕ) (u : Use) → IsUse options place before (of_kind (file at) u) → Stepped s place before (of_kind (file at) u) h
  unfolding walked walk_passes
  file_step at u is =
      let k = file at in
      let o = (of_kind k u).option in
      let by_place = fits.by_place place o is.known in
      let by_id = fits.file_by_id place o is.known in
      let low = fits.places place o is.known in
      let none = fresh u.option.word is.new in
      let v = name_is_value u.value is.taken in
      let next : min (place + 1) usize_max ≡ place + 1 = omega arith in
      let alone : (is_pending (built_of o) h.pending && false) ≡ false = and_right (is_pending (built_of o) h.pending) false refl in
      let ready = st.ready in record {
        end = given s.rules u.option.word u.value h;
        walks = λ rest. rw (v.dashes, v.long, v.short, by_place, alone, next) refl;
        passes = λ rest. rw (v.dashes, v.long, v.short, by_place, alone, ready, next) refl;
        rows = rw (by_id, st.rows) (used_once u.option.word (map row_of before) (more_values CommandLine (u.value ∷ [])) (row_of (of_kind k u)) (absent u.option.word before is.new));
        ready = rw (by_id, none) refl;
      }

  step : (k : Kind) (u : Use) → IsUse options place before (of_kind k u) → Stepped s place before (of_kind k u) h
  step flag u is = flag_step u is
  step (number most default) u is = number_step most default u is
  step (name letter) u is = name_step letter u is
  step (file at) u is = file_step at u is

-- the walk over all of them
pub record Ends (s : Shape) (place : ℕ) (before uses : List Use) (h : Held) : Type 0 where
  pub end : Held
  pub last : ℕ
  pub walked : fold (walked s.rules []) (at h place) (words_of uses) ≡ at end last
  pub passes : walk_passes s [] (at h place) (words_of uses) ≡ true
  pub stands : Stands s (before ++ uses) end

pub all_walked : (s : Shape) (options : List Opt) (uses : List Use) (place : ℕ) (before : List Use) (h : Held) → Fits s options → Stands s before h → AreUses options place before uses → Ends s place before uses h
unfolding walk_passes
all_walked s options [] place before h fits st are =
    record { end = h; last = place; walked = refl; passes = refl; stands = subst (λ us. Stands s us h) (sym (append-nil before)) st }
all_walked s options (u ∷ uses) place before h fits st are =
    let one : Stepped s place before u h = step s options fits place before h st u.option.kind u are.0 in
    let stands : Stands s (before ++ u ∷ []) one.end = record { rows = one.rows ∙ sym (map-append row_of before (u ∷ [])); ready = one.ready } in
    let more = all_walked s options uses (place_after u.option.kind place) (before ++ u ∷ []) one.end fits stands are.1 in record {
      end = more.end;
      last = more.last;
      walked = one.walks (words_of uses) ∙ more.walked;
      passes = one.passes (words_of uses) ∙ more.passes;
      stands = subst (λ us. Stands s us more.end) (append_assoc before (u ∷ []) uses) more.stands;
    }
