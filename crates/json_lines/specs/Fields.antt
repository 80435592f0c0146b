-- The model: strings, numbers and fields of JSON, in ASCII.
use Rattle.std.specs.Prelude.{ℕ, ◌==◌, ◌&&◌, ◌||◌, not, nat_le, Bool, false, List, [], ◌∷◌, ◌++◌, length, codes, if◌then◌else◌}
use Rattle.std.specs.List.{flat_map, list_all, list_any}
use Rattle.std.specs.Str.{bytes_eq}
use Rattle.text_forms.specs.Strings.{hex_byte, is_printable}

-- a byte of a string: behind a backslash where it is one or a quotation mark; itself where it can be seen or is a space; else the character of its number
abbrev pub json_byte : ℕ → List ℕ
json_byte b = if b == 34 || b == 92 then 92 ∷ b ∷ [] else if is_printable b then b ∷ [] else codes "\\u00" ++ hex_byte b

abbrev pub json_bytes : List ℕ → List ℕ
json_bytes bytes = flat_map json_byte bytes

abbrev pub json_string : List ℕ → List ℕ
json_string bytes = 34 ∷ json_bytes bytes ++ 34 ∷ []

-- decimal digits, the first of which is 0 only where it is alone
abbrev pub is_digit : ℕ → Bool
is_digit b = nat_le 48 b && nat_le b 57

abbrev pub is_natural : List ℕ → Bool
is_natural [] = false
is_natural (b ∷ more) = list_all is_digit (b ∷ more) && (not (b == 48) || length more == 0)

-- the same, perhaps behind a minus
abbrev pub is_number : List ℕ → Bool
is_number [] = false
is_number (b ∷ more) = if b == 45 then is_natural more else is_natural (b ∷ more)

-- the keys whose values are numbers that have at most 53 bits
abbrev pub number_keys : List (List ℕ)
number_keys =
    codes "place" ∷ codes "ring" ∷ codes "slot" ∷ codes "number" ∷ codes "node" ∷ codes "desc" ∷ codes "len" ∷ codes "res" ∷ codes "round" ∷
    codes "after" ∷ codes "version" ∷ codes "rings" ∷ codes "rounds" ∷ codes "widest" ∷ codes "longest" ∷ codes "span" ∷ []

abbrev pub is_number_key : List ℕ → Bool
is_number_key key = list_any (bytes_eq key) number_keys

-- a value: a number where its key has numbers and it is one, else a string
unfoldable pub json_value : List ℕ → List ℕ → List ℕ
json_value key value = if is_number_key key && is_number value then value else json_string value

-- a field behind another one
unfoldable pub json_field : List ℕ → List ℕ → List ℕ
json_field key value = codes "," ++ json_string key ++ codes ":" ++ json_value key value
