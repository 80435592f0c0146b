-- The parts of a line are read from where they stand.
use Rattle.std.proofs.Common.{◌≡◌, ℕ, ◌<◌, ◌≤◌, ◌^◌, Bool, true, false, eqb, List, [], ◌∷◌, ◌++◌, length, Option, None, Some, Ok, inl, inr, refl, sym, ap, ◌∙◌, append_assoc, arith}
use Rattle.std.proofs.lemmas.Bool.{cases_Bool, eq-eqb, eqb-true}
use Rattle.std.specs.Prelude.{codes, unwrap_or}
use Rattle.std.specs.Fmt.{decimal}
use Rattle.text_forms.specs.Numbers.{hexadecimal}
use Rattle.text_words.specs.Numbers.{greatest}
use Rattle.text_words.specs.declared.numbers.Style.TheVariants.{Plain}
use Rattle.text_words.specs.Read.{Rest, Word}
use Rattle.text_words.specs.Words.{behind_blanks, behind_lines, word_at, behind_word, ends_line, line_end, value_at}
use Rattle.trace_text.specs.Fields.{decimal_word}
use Rattle.trace_text.specs.Shown.{access_text}
use Rattle.trace_format.specs.declared.trace.Access.{Access}
use Rattle.trace_format.specs.declared.trace.Access.TheVariants as access
use Rattle.text_trace.specs.Lines.{next_number, next_of, keyed, next_access}
use Rattle.text_laws.specs.Words.{at_gap, is_word, rest, word}
use Rattle.text_laws.proofs.Words.{next_word_comes, first_word_comes, decimal_is_word, hexadecimal_is_word, value_comes_back}
use Rattle.text_laws.proofs.Numbers.{in_decimal, decimal_comes_back, hexadecimal_comes_back}

-- Parts one after another, and then more.
abbrev pub joined : List ℕ → List (List ℕ) → List ℕ
joined text [] = text
joined text (p ∷ ps) = joined (text ++ p) ps

abbrev pub flat : List (List ℕ) → List ℕ → List ℕ
flat [] more = more
flat (p ∷ ps) more = p ++ flat ps more

pub joined_is : (text : List ℕ) (ps : List (List ℕ)) (more : List ℕ) → joined text ps ++ more ≡ text ++ flat ps more
joined_is text [] more = refl
joined_is text (p ∷ ps) more = joined_is (text ++ p) ps more ∙ append_assoc text p (flat ps more)

-- the next word and what is left behind it
pub next_bytes : (w more : List ℕ) → is_word w ≡ true → at_gap more ≡ true → word_at (behind_blanks (32 ∷ w ++ more)) ≡ w
next_bytes w more h g = ap (λ (x : Word). x.bytes) (next_word_comes w more 0 h g).next

pub next_behind : (w more : List ℕ) → is_word w ≡ true → at_gap more ≡ true → behind_word (behind_blanks (32 ∷ w ++ more)) ≡ more
next_behind w more h g = ap (λ (r : Rest). r.text) (next_word_comes w more 0 h g).after

pub next_more : (w more : List ℕ) → is_word w ≡ true → at_gap more ≡ true → ends_line (behind_blanks (32 ∷ w ++ more)) ≡ false
next_more w more h g = (next_word_comes w more 0 h g).more

-- the first word of a line
pub first_bytes : (w more : List ℕ) → is_word w ≡ true → at_gap more ≡ true → word_at (behind_lines (w ++ more)) ≡ w
first_bytes w more h g = let k = first_word_comes w more h g in ap word_at k.lines ∙ k.first

pub first_behind : (w more : List ℕ) → is_word w ≡ true → at_gap more ≡ true → behind_word (behind_lines (w ++ more)) ≡ more
first_behind w more h g = let k = first_word_comes w more h g in ap behind_word k.lines ∙ k.after

pub indent_is : (text : List ℕ) → behind_lines (32 ∷ 32 ∷ text) ≡ behind_lines text
unfolding behind_lines
indent_is text = refl

-- the end of a line
pub end_is : (more : List ℕ) (room : ℕ) → line_end (rest (10 ∷ more) room) ≡ Ok (rest more room)
unfolding line_end behind_blanks
end_is more room = refl

pub feed_is : (more : List ℕ) → ends_line (behind_blanks (10 ∷ more)) ≡ true
unfolding behind_blanks
feed_is more = refl

-- numbers
pub next_number_comes : (n : ℕ) (more : List ℕ) (room : ℕ) → n < 2 ^ 64 → at_gap more ≡ true
    → next_number n (rest (32 ∷ decimal n ++ more) room) ≡ Ok (rest more room)
unfolding next_number
next_number_comes n more room lt g =
    let w = decimal_is_word n lt in
    rw (next_bytes (decimal n) more w g, in_decimal Plain 64 n (omega (arith, lt)), eq-eqb n n refl, next_behind (decimal n) more w g) refl

pub next_decimal_comes : (bits n : ℕ) (more : List ℕ) (room : ℕ) → n < 2 ^ 64 → n ≤ greatest bits → at_gap more ≡ true
    → next_of bits (rest (32 ∷ decimal n ++ more) room) ≡ Ok (n, rest more room)
next_decimal_comes bits n more room lt le g =
    let w = decimal_is_word n lt in
    rw (next_bytes (decimal n) more w g, decimal_comes_back bits n _ le, next_behind (decimal n) more w g) refl

pub next_hexadecimal_comes : (bits n : ℕ) (more : List ℕ) (room : ℕ) → n < 2 ^ 64 → n ≤ greatest bits → at_gap more ≡ true
    → next_of bits (rest (32 ∷ hexadecimal n ++ more) room) ≡ Ok (n, rest more room)
next_hexadecimal_comes bits n more room lt le g =
    let w = hexadecimal_is_word n lt in
    rw (next_bytes (hexadecimal n) more w g, hexadecimal_comes_back bits n _ le, next_behind (hexadecimal n) more w g) refl

-- A number behind a key. It is left out where it is 0, and what follows does not begin with the key then.
pub record Keyed (bits : ℕ) (key : List ℕ) (n : ℕ) (text more : List ℕ) (room : ℕ) : Type 0 where
  pub value : Option ℕ
  pub is : keyed bits key (rest text room) ≡ Ok (value, rest more room)
  pub told : unwrap_or value 0 ≡ n

-- the word of a key
abbrev pub NoKey : List ℕ → List ℕ → Type 0
NoKey key text = value_at (word (word_at (behind_blanks text)) (length (behind_blanks text))) key ≡ None

pub keyed_none : (bits : ℕ) (key more : List ℕ) (room : ℕ) → NoKey key more → keyed bits key (rest more room) ≡ Ok (None, rest more room)
unfolding keyed
keyed_none bits key more room none = rw (keyed, none) refl

pub keyed_some : (bits : ℕ) (key : List ℕ) (n : ℕ) (more : List ℕ) (room : ℕ) → n ≤ greatest bits → is_word (key ++ codes "=" ++ decimal n) ≡ true
    → at_gap more ≡ true
    → keyed bits key (rest (32 ∷ (key ++ codes "=" ++ decimal n) ++ more) room) ≡ Ok (Some n, rest more room)
unfolding keyed
keyed_some bits key n more room le w g =
    rw (
      keyed,
      next_bytes (key ++ codes "=" ++ decimal n) more w g,
      value_comes_back key (decimal n) _,
      decimal_comes_back bits n _ le,
      next_behind (key ++ codes "=" ++ decimal n) more w g,
    ) refl

pub keyed_comes : (bits : ℕ) (key : List ℕ) (n : ℕ) (more : List ℕ) (room : ℕ) → n ≤ greatest bits → is_word (key ++ codes "=" ++ decimal n) ≡ true
    → at_gap more ≡ true → NoKey key more
    → Keyed bits key n (decimal_word key n ++ more) more room
keyed_comes bits key n more room le w g none = elim (cases_Bool (eqb n 0)) [
  | inl nothing ↦ record { value = None; is = rw nothing (keyed_none bits key more room none); told = sym (eqb-true n 0 nothing) }
  | inr some ↦ record { value = Some n; is = rw some (keyed_some bits key n more room le w g); told = refl }
]

-- the end of a line has no key
pub no_key_at_end : (k : ℕ) (key more : List ℕ) → NoKey (k ∷ key) (10 ∷ more)
unfolding value_at behind_blanks word_at
no_key_at_end k key more = refl

-- access
pub next_access_comes : (a : Access) (append : Bool) (more : List ℕ) (room : ℕ) → at_gap more ≡ true
    → next_access (rest (access_text a append ++ more) room) ≡ Ok (a, append, rest more room)
unfolding next_access
next_access_comes access.Read false more room g = rw (next_bytes (codes "O_RDONLY") more refl g, next_behind (codes "O_RDONLY") more refl g) refl
next_access_comes access.Read true more room g = rw (
  next_bytes (codes "O_RDONLY|O_APPEND") more refl g,
  next_behind (codes "O_RDONLY|O_APPEND") more refl g,
) refl
next_access_comes access.Write false more room g = rw (next_bytes (codes "O_WRONLY") more refl g, next_behind (codes "O_WRONLY") more refl g) refl
next_access_comes access.Write true more room g = rw (
  next_bytes (codes "O_WRONLY|O_APPEND") more refl g,
  next_behind (codes "O_WRONLY|O_APPEND") more refl g,
) refl
next_access_comes access.Both false more room g = rw (next_bytes (codes "O_RDWR") more refl g, next_behind (codes "O_RDWR") more refl g) refl
next_access_comes access.Both true more room g = rw (next_bytes (codes "O_RDWR|O_APPEND") more refl g, next_behind (codes "O_RDWR|O_APPEND") more refl g) refl
