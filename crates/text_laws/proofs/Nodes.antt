-- An item is read by its path, or by its number.
use Rattle.std.proofs.Common.{◌≡◌, ℕ, zero, suc, ◌-◌, ◌<◌, ◌≤◌, ◌^◌, true, false, eqb, leb, List, [], ◌∷◌, ◌++◌, length, Option, Some, Ok, inl, inr, ◌⊎◌, refl, sym, ap, subst, arith}
use Rattle.std.proofs.lemmas.Bool.{cases_Bool, ne_eqb, eqb-true, leb-true, and_parts}
use Rattle.std.specs.Prelude.{◌&&◌, codes, slice_get}
use Rattle.std.specs.List.{list_any, list_all}
use Rattle.std.specs.Str.{bytes_eq}
use Rattle.std.specs.Fmt.{decimal}
use Rattle.sqe_codec.specs.Fields.{IsBytes}
use Rattle.trace_format.specs.declared.trace.Item.{Item}
use Rattle.trace_format.specs.Paths.{is_name, is_path, runs}
use Rattle.text_forms.specs.Strings.{path_text}
use Rattle.text_words.specs.Words.{is_gap}
use Rattle.trace_text.specs.Shown.{node_text, path_or_number}
use Rattle.text_trace.specs.Lines.{node_at, next_node}
use Rattle.text_laws.specs.Words.{at_gap, is_word, rest, word}
use Rattle.text_laws.proofs.Digits.{none_passes}
use Rattle.text_laws.proofs.Words.{begins, digits_free}
use Rattle.text_laws.proofs.Numbers.{digit_gap, decimal_comes_back}
use Rattle.text_laws.proofs.Paths.{path_comes_back, path_is_word}
use Rattle.text_laws.proofs.Parts.{next_bytes, next_behind, next_more}

-- a path of the format
pub record IsPath (path : List ℕ) : Type 0 where
  pub letters : List ℕ
  pub is : path ≡ 47 ∷ letters
  pub short : length path ≤ 4095
  pub no_root : bytes_eq path (codes "/") ≡ false

pub path_parts : (path : List ℕ) → is_path path ≡ true → IsPath path
path_parts [] h = absurd cc
path_parts (b ∷ []) h = let parts = and_parts (eqb b 47 && leb (length (b ∷ [])) 4095) (list_all is_name (runs [])) h in absurd cc
path_parts (b ∷ c ∷ cs) h =
    let parts = and_parts (eqb b 47 && leb (length (b ∷ c ∷ cs)) 4095) (list_all is_name (runs (c ∷ cs))) h in
    let front = and_parts (eqb b 47) (leb (length (b ∷ c ∷ cs)) 4095) parts.0 in
    let slash : b ≡ 47 = eqb-true b 47 front.0 in
    record { letters = c ∷ cs; is = ap (λ (k : ℕ). k ∷ c ∷ cs) slash; short = leb-true _ 4095 front.1; no_root = rw slash refl }

-- an item that has a number, by its path too
pub record Named (names : List ℕ → Option ℕ) (items : List Item) (n : ℕ) : Type 0 where
  pub item : Item
  pub some : 0 < n
  pub at : slice_get items (n - 1) ≡ Some item
  pub known : names item.path ≡ Some n
  pub path : is_path item.path ≡ true
  pub bytes : IsBytes item.path

-- the same, or the root
abbrev pub Known : (List ℕ → Option ℕ) → List Item → ℕ → Type 0
Known names items n = (n ≡ 0) ⊎ Named names items n

pub no_gap : (w : List ℕ) → is_word w ≡ true → list_any is_gap w ≡ false
no_gap [] h = refl
no_gap (b ∷ bs) h = (begins b bs h).whole

-- a word of a node, which is read as its number
pub record IsNode (names : List ℕ → Option ℕ) (w : List ℕ) (n : ℕ) : Type 0 where
  pub whole : is_word w ≡ true
  pub read : (left : ℕ) → node_at names (word w left) ≡ Ok n

root_is : (names : List ℕ → Option ℕ) → IsNode names (codes "/") 0
unfolding node_at
root_is names = record {
  whole = refl;
  read = λ left. rw (path_comes_back (47 ∷ []) left root_bytes (omega arith) (omega arith)) refl;
}
  where
    root_bytes : IsBytes (47 ∷ [])
    root_bytes zero = omega arith
    root_bytes (suc i) = omega arith

path_is : (names : List ℕ → Option ℕ) (letters : List ℕ) (n : ℕ) → length letters ≤ 4094 → bytes_eq (47 ∷ letters) (codes "/") ≡ false → IsBytes (47 ∷ letters)
    → names (47 ∷ letters) ≡ Some n
    → IsNode names (path_text (47 ∷ letters)) n
unfolding node_at
path_is names letters n short no_root bytes known = record {
  whole = path_is_word letters (λ i. bytes (suc i));
  read = λ left. rw (path_comes_back (47 ∷ letters) left bytes (omega arith) (omega (arith, short)), no_root, known) refl;
}

number_is : (names : List ℕ → Option ℕ) (n : ℕ) → n < 2 ^ 32 → IsNode names (codes "@" ++ decimal n) n
unfolding node_at
number_is names n lt = record {
  whole = rw (none_passes is_gap digit_gap (decimal n) (digits_free n (omega (arith, lt)))) refl;
  read = λ left. decimal_comes_back 32 n (left - 1) (omega (arith, lt));
}

named_is : (names : List ℕ → Option ℕ) (n : ℕ) (path : List ℕ) → n < 2 ^ 32 → IsPath path → IsBytes path → names path ≡ Some n
    → IsNode names (path_or_number n path) n
named_is names n path lt parts bytes known = elim (cases_Bool (leb (length path) 64)) [
  | inl short ↦ rw short (subst (λ (p : List ℕ). IsNode names (path_text p) n) (sym parts.is)
      (path_is names parts.letters n (omega (arith, parts.short, ap length parts.is)) (rw parts.is at parts.no_root) (rw parts.is at bytes)
      (rw parts.is at known)))
  | inr long ↦ rw long (number_is names n lt)
]

pub node_is : (names : List ℕ → Option ℕ) (items : List Item) (n : ℕ) → n < 2 ^ 32 → Known names items n → IsNode names (node_text items n) n
node_is names items n lt (inl root) = rw root (root_is names)
node_is names items n lt (inr k) =
    let some : eqb n 0 ≡ false = ne_eqb n 0 (λ e. omega (arith, e, k.some)) in
    rw (node_text, some, k.at) (named_is names n k.item.path lt (path_parts k.item.path k.path) k.bytes k.known)

pub next_node_comes : (names : List ℕ → Option ℕ) (items : List Item) (n : ℕ) (more : List ℕ) (room : ℕ) → n < 2 ^ 32 → Known names items n → at_gap more ≡ true
    → next_node names (rest (32 ∷ node_text items n ++ more) room) ≡ Ok (n, rest more room)
unfolding next_node
next_node_comes names items n more room lt k g =
    let node = node_is names items n lt k in
    rw (
      next_more (node_text items n) more node.whole g,
      next_bytes (node_text items n) more node.whole g,
      node.read _,
      next_behind (node_text items n) more node.whole g,
    ) refl
