-- The model: the lines of a report, of rounds, of dependencies, of a check and of differences, each as an object of JSON.
use Rattle.std.specs.Prelude.{ℕ, ◌==◌, ◌||◌, not, Bool, List, [], ◌∷◌, ◌++◌, length, map, take, drop, codes, if◌then◌else◌}
use Rattle.std.specs.List.{before_first, after_first, flat_map, list_any, position_or_len, slice_split}
use Rattle.std.specs.Borrow.{Bor}
use Rattle.std.specs.Str.{bytes_eq}
use Rattle.json_lines.specs.Fields.{is_natural, json_bytes, json_field, json_string}

-- The words of a line stand between its spaces.
abbrev pub words : List ℕ → List (List ℕ)
words line = slice_split (λ b. b == 32) line

-- The name and the value of a fact `NAME=VALUE`. The name of a bare word is the word.
abbrev pub fact_name : List ℕ → List ℕ
fact_name fact = before_first (λ b. b == 61) fact

abbrev pub fact_value : List ℕ → List ℕ
fact_value fact = after_first (λ b. b == 61) fact

abbrev pub is_bare : List ℕ → Bool
is_bare fact = position_or_len (λ b. b == 61) fact == length fact

-- A fact. Of a bare word it is that it stands there; `posted` and `silent` say whether a completion is posted.
unfoldable pub fact_json : List ℕ → List ℕ
fact_json fact =
    if bytes_eq fact (codes "posted") then codes ",\"posted\":true"
    else if bytes_eq fact (codes "silent") then codes ",\"posted\":false"
    else if is_bare fact then codes "," ++ json_string fact ++ codes ":true"
    else json_field (fact_name fact) (fact_value fact)

-- The value of `on` goes to the end of the line.
abbrev pub is_on : List ℕ → Bool
is_on word = bytes_eq (take 3 word) (codes "on=")

abbrev pub spaced : List ℕ → List ℕ
spaced word = 32 ∷ json_bytes word

unfoldable pub on_json : List ℕ → List (List ℕ) → List ℕ
on_json word more = codes ",\"on\":\"" ++ json_bytes (drop 3 word) ++ flat_map spaced more ++ codes "\""

abbrev pub facts_json : List (List ℕ) → List ℕ
facts_json [] = []
facts_json (word ∷ more) = if is_on word then on_json word more else fact_json word ++ facts_json more

-- The keys of what a comparison counts. A count is a number, and a comma may stand behind it.
abbrev pub counted_keys : List (List ℕ)
counted_keys =
    codes "equal" ∷ codes "different" ∷ codes "unchecked" ∷ codes "given" ∷ codes "data" ∷ codes "sums" ∷ codes "large" ∷ []

abbrev pub is_counted : List ℕ → Bool
is_counted key = list_any (bytes_eq key) counted_keys

unfoldable pub count_value : List ℕ → List ℕ
count_value word = let digits = before_first (λ b. b == 44) word in if is_natural digits then digits else json_string word

unfoldable pub count_json : List ℕ → List ℕ → List ℕ
count_json key word = codes "," ++ json_string key ++ codes ":" ++ count_value word

-- A word at its place in a line is the value of a key, or none where the key is empty.
unfoldable pub keyed_word : List ℕ → List ℕ → List ℕ
keyed_word key word = if length key == 0 then [] else if is_counted key then count_json key word else json_field key word

-- Words that have their keys, and the facts behind them.
abbrev pub keyed_json : List (List ℕ) → List (List ℕ) → List ℕ
keyed_json [] words = facts_json words
keyed_json (key ∷ keys) [] = []
keyed_json (key ∷ keys) (word ∷ words) = keyed_word key word ++ keyed_json keys words

-- The lines that begin with the name of a number. Its place may follow, as in `longest 4 to place 3`.
abbrev pub count_words : List (List ℕ)
count_words =
    codes "rounds" ∷ codes "widest" ∷ codes "mean" ∷ codes "longest" ∷ codes "places" ∷ codes "pairs" ∷ codes "span" ∷ codes "parallelism" ∷
    codes "bytes" ∷ codes "span-bytes" ∷ codes "parallelism-bytes" ∷ []

abbrev pub is_count : List ℕ → Bool
is_count word = list_any (bytes_eq word) count_words

-- The lines that say how many lines of a section are equal, different, unchecked and given.
abbrev pub section_words : List (List ℕ)
section_words = codes "entries" ∷ codes "tree" ∷ codes "slots" ∷ codes "buffers" ∷ []

abbrev pub is_section : List ℕ → Bool
is_section word = list_any (bytes_eq word) section_words

-- The line of what is not compared.
abbrev pub is_lack : List ℕ → Bool
is_lack word = bytes_eq word (codes "not")

-- The headings, with the version of the form.
abbrev pub heading_words : List (List ℕ)
heading_words = codes "uring-report" ∷ codes "uring-rounds" ∷ codes "uring-depends" ∷ []

abbrev pub is_heading : List ℕ → Bool
is_heading word = list_any (bytes_eq word) heading_words

-- The keys of the words behind the first one, in a line that sums up; and in any line.
unfoldable pub summary_keys : List ℕ → List (List ℕ)
summary_keys word =
    if bytes_eq word (codes "ok") then codes "places" ∷ [] ∷ codes "rings" ∷ [] ∷ []
    else if is_section word then codes "equal" ∷ [] ∷ codes "different" ∷ [] ∷ codes "unchecked" ∷ [] ∷ codes "given" ∷ [] ∷ []
    else if is_lack word then [] ∷ [] ∷ codes "data" ∷ [] ∷ [] ∷ codes "sums" ∷ [] ∷ codes "large" ∷ []
    else if is_count word then word ∷ [] ∷ [] ∷ codes "place" ∷ []
    else []

unfoldable pub keys_of : List ℕ → List (List ℕ)
keys_of word =
    if bytes_eq word (codes "dir") then codes "path" ∷ []
    else if bytes_eq word (codes "file") then codes "path" ∷ []
    else if bytes_eq word (codes "link") then codes "path" ∷ []
    else if bytes_eq word (codes "slot") then codes "ring" ∷ codes "slot" ∷ []
    else if bytes_eq word (codes "buffer") then codes "ring" ∷ codes "number" ∷ []
    else if bytes_eq word (codes "descriptor") then codes "number" ∷ []
    else if bytes_eq word (codes "ring") then codes "ring" ∷ []
    else if is_heading word then codes "version" ∷ []
    else summary_keys word

-- The kind of a place's line, by its first fact.
unfoldable pub fact_kind : List ℕ → List ℕ
fact_kind name = if bytes_eq name (codes "round") then codes "place" else if bytes_eq name (codes "after") then codes "pair" else codes "entry"

abbrev pub place_kind : List (List ℕ) → List ℕ
place_kind [] = codes "place"
place_kind (fact ∷ more) = fact_kind (fact_name fact)

-- The fields of a line: its kind, which is its first word or that of a place, and what follows.
unfoldable pub kind_json : List ℕ → List ℕ
kind_json kind = codes "\"kind\":" ++ json_string kind

unfoldable pub word_kind : List ℕ → List ℕ
word_kind word = if is_lack word then codes "not compared" else word

unfoldable pub fields_json : List (List ℕ) → List ℕ
fields_json [] = kind_json []
fields_json (word ∷ more) =
    if is_natural word then kind_json (place_kind more) ++ json_field (codes "place") word ++ facts_json more
    else kind_json (word_kind word) ++ keyed_json (keys_of word) more

-- A line of differences has a sign before the line that it tells.
abbrev pub is_sign : List ℕ → Bool
is_sign word = bytes_eq word (codes "-") || bytes_eq word (codes "+") || bytes_eq word (codes "~")

unfoldable pub told_json : List (List ℕ) → List ℕ
told_json [] = fields_json []
told_json (word ∷ more) = if is_sign word then codes "\"sign\":" ++ json_string word ++ codes "," ++ fields_json more else fields_json (word ∷ more)

-- The object of a line. An empty line has none.
unfoldable pub json_line : List ℕ → List ℕ
json_line line = if length line == 0 then [] else codes "{" ++ told_json (words line) ++ codes "}\n"

-- A byte inside a line; the others are line feeds.
abbrev pub is_inside : ℕ → Bool
is_inside b = not (b == 10)

-- The objects of the lines of a text, which stand between its line feeds.
unfoldable pub json_lines : List ℕ → List ℕ
json_lines text = flat_map json_line (slice_split (λ b. b == 10) text)

-- The bytes of each slice.
abbrev pub texts : List (Bor (List ℕ)) → List (List ℕ)
texts slices = map (λ slice. slice.now) slices
