-- Items are read as they are shown.
use Rattle.std.proofs.Common.{◌≡◌, Option, ℕ, suc, ◌+◌, ◌<◌, ◌^◌, true, eqb, List, [], ◌∷◌, ◌++◌, length, None, Some, Ok, inl, inr, refl, sym, ap, subst, ◌∙◌, append_assoc, arith}
use Rattle.std.proofs.lemmas.Bool.{cases_Bool, eqb-true, lt-leb}
use Rattle.std.specs.Option.{option_map}
use Rattle.std.specs.Prelude.{codes}
use Rattle.std.specs.List.{flat_map}
use Rattle.std.specs.Fmt.{decimal}
use Rattle.sqe_codec.specs.Fields.{IsBytes}
use Rattle.trace_format.specs.declared.trace.Item.{Item}
use Rattle.trace_format.specs.declared.trace.Node.{Node}
use Rattle.trace_format.specs.declared.trace.Node.TheVariants.{Directory, File, OtherName}
use Rattle.trace_format.specs.Paths.{is_path}
use Rattle.text_forms.specs.Strings.{path_text}
use Rattle.text_words.specs.Words.{is_gap}
use Rattle.trace_text.specs.declared.look.Look.{Look}
use Rattle.trace_text.specs.Fields.{unless, field}
use Rattle.trace_text.specs.Shown.{file_words, item_kind, item_line, node_text, node_words}
use Rattle.text_trace.specs.Lines.{directory_of, file_of, kind_of, next_path, node_of, other_of}
use Rattle.text_trace.specs.Parts.{with_line}
use Rattle.text_trace.specs.Items.{items_of, more_items, number_of, one_item}
use Rattle.text_laws.specs.Words.{at_gap, is_word, rest}
use Rattle.text_laws.proofs.Digits.{none_passes}
use Rattle.text_laws.proofs.Words.{digits_free, value_comes_back}
use Rattle.text_laws.proofs.Numbers.{digit_gap}
use Rattle.text_laws.proofs.Paths.{path_comes_back, path_is_word}
use Rattle.text_laws.proofs.Parts.{joined_is, next_bytes, next_behind, next_more, first_bytes, first_behind, end_is, keyed_none, keyed_some}
use Rattle.text_laws.proofs.Nodes.{path_parts, Named, node_is, no_gap}
use Rattle.text_laws.proofs.Data.{with_data, no_key_at_data, gap_at_data, data_comes}
use Rattle.text_laws.proofs.Several.{Each, Came, Went, Steps, each_shown, total, all_come}
use Rattle.text_laws.proofs.Tables.{line_word}

-- the next word is a path
next_path_comes : (path more : List ℕ) (room : ℕ) → is_path path ≡ true → IsBytes path → at_gap more ≡ true
    → next_path (rest (32 ∷ path_text path ++ more) room) ≡ Ok (path, rest more room)
unfolding next_path
next_path_comes path more room is bytes g =
    let parts = path_parts path is in
    let whole : is_word (path_text path) ≡ true =
    subst (λ (p : List ℕ). is_word (path_text p) ≡ true) (sym parts.is) (path_is_word parts.letters (λ i. (rw parts.is at bytes) (suc i))) in
    rw (
      next_more (path_text path) more whole g,
      next_bytes (path_text path) more whole g,
      path_comes_back path _ bytes (omega (arith, ap length parts.is)) (omega (arith, parts.short)),
      next_behind (path_text path) more whole g,
    ) refl

-- what a name leads to
abbrev pub NodeShown : List Item → List Item → Node → Type 0
NodeShown items earlier Directory = Unit {0}
NodeShown items earlier (File size stored) = (size < 2 ^ 64) × IsBytes stored
NodeShown items earlier (OtherName number) = (number < 2 ^ 32) × Named (number_of earlier) items number

-- the room that it takes
abbrev pub node_room : Node → ℕ
node_room Directory = 0
node_room (File size stored) = length stored
node_room (OtherName number) = 0

abbrev pub item_room : Item → ℕ
item_room i = node_room i.node

size_word : (n : ℕ) → n < 2 ^ 64 → is_word (codes "size" ++ codes "=" ++ decimal n) ≡ true
size_word n lt = rw (none_passes is_gap digit_gap (decimal n) (digits_free n lt)) refl

file_text : (look : Look) (size : ℕ) (stored more : List ℕ)
    → file_words look size stored ++ (10 ∷ more) ≡ unless (length stored) size (field (codes "size") (decimal size)) ++ with_data look stored more
file_text look size stored more = append_assoc (unless (length stored) size (field (codes "size") (decimal size))) _ (10 ∷ more)

file_comes : (look : Look) (size : ℕ) (stored more : List ℕ) (room : ℕ) → look.first ≡ None → size < 2 ^ 64 → IsBytes stored → length stored + room < 2 ^ 64
    → file_of (rest (file_words look size stored ++ (10 ∷ more)) (length stored + room)) ≡ Ok (File size stored, rest more room)
unfolding file_of
file_comes look size stored more room whole lt bytes small =
    let t : List ℕ = with_data look stored more in
    let text = file_text look size stored more in
    let d = data_comes look stored more room whole bytes small in
    rw text (elim (cases_Bool (eqb size (length stored))) [
      | inl same ↦
          let is : size ≡ length stored = eqb-true size (length stored) same in
          rw (
            same,
            keyed_none 64 (codes "size") t (length stored + room) (no_key_at_data look 115 (codes "ize") stored more whole refl refl),
            d,
            end_is more room,
          ) (rw is refl)
      | inr other ↦
          rw (
            other,
            keyed_some 64 (codes "size") size t (length stored + room) (omega (arith, lt)) (size_word size lt) (gap_at_data look stored more whole),
            d,
            end_is more room,
          ) refl
    ])

other_comes : (earlier items : List Item) (number : ℕ) (more : List ℕ) (room : ℕ) → number < 2 ^ 32 → Named (number_of earlier) items number
    → other_of (number_of earlier) (rest (field (codes "of") (node_text items number) ++ (10 ∷ more)) room) ≡ Ok (OtherName number, rest more room)
unfolding other_of
other_comes earlier items number more room lt named =
    let node = node_is (number_of earlier) items number lt (inr named) in
    let w : List ℕ = codes "of" ++ codes "=" ++ node_text items number in
    let whole : is_word w ≡ true = rw (no_gap (node_text items number) node.whole) refl in
    rw (
      next_bytes w (10 ∷ more) whole refl,
      value_comes_back (codes "of") (node_text items number) _,
      node.read _,
      next_behind w (10 ∷ more) whole refl,
      end_is more room,
    ) refl

directory_comes : (more : List ℕ) (room : ℕ) → directory_of (rest (10 ∷ more) room) ≡ Ok (Directory, rest more room)
unfolding directory_of
directory_comes more room = rw (end_is more room) refl

-- an item, as items of a trace are
pub record ItemShown (items earlier : List Item) (i : Item) : Type 0 where
  pub few : length earlier < 65535
  pub path : is_path i.path ≡ true
  pub bytes : IsBytes i.path
  pub node : NodeShown items earlier i.node

abbrev of : List ℕ → Node → Item
of path node = record { path = path; node = node }

-- where one function gives a value of what is there, so does another
also : {K A B : Type 0} (f : K → A) (g : K → B) (a : A) (b : B) → ((k : K) → f k ≡ a → g k ≡ b) → (o : Option K) → option_map f o ≡ Some a
    → option_map g o ≡ Some b
also f g a b on None h = absurd cc
also f g a b on (Some k) h = let same : f k ≡ a = cc h in rw (on k same) refl

abbrev there : {A : Type 0} → A → Option A
there x = Some x

item_went : (look : Look) (items earlier : List Item) (path : List ℕ) (node : Node) (w : List ℕ) (marks more : List ℕ) (room room_left : ℕ)
    → item_kind node ≡ w ++ (32 ∷ []) → is_word w ≡ true → length earlier < 65535 → is_path path ≡ true → IsBytes path
    → at_gap (node_words look items node ++ (10 ∷ more)) ≡ true
    → option_map (λ k. node_of (number_of earlier) k (rest (node_words look items node ++ (10 ∷ more)) room)) (kind_of w)
    ≡ Some (Ok (node, rest more room_left))
    → Went (more_items (earlier, marks, rest (item_line look items (of path node) ++ more) room)) (earlier ++ of path node ∷ []) (rest more room_left)
unfolding one_item
item_went look items earlier path node w marks more room room_left begins whole few is bytes g reads =
    let t : List ℕ = node_words look items node ++ (10 ∷ more) in
    let line : List ℕ = w ++ (32 ∷ path_text path ++ t) in
    let text : item_line look items (of path node) ++ more ≡ line =
    joined_is (item_kind node) (path_text path ∷ node_words look items node ∷ codes "\n" ∷ []) more
    ∙ ap (λ (x : List ℕ). x ++ (path_text path ++ t)) begins ∙ append_assoc w (32 ∷ []) (path_text path ++ t) in
    let behind = first_behind w (32 ∷ path_text path ++ t) whole refl in
    record {
      marks = with_line marks (rest line room);
      is = rw (text, first_bytes w (32 ∷ path_text path ++ t) whole refl) (
          also (λ k. node_of (number_of earlier) k (rest t room)) (one_item (earlier, marks, rest line room)) _ _
          (λ k same. rw (lt-leb 65535 (length earlier) few, behind, next_path_comes path t room is bytes g, same) refl)
          (kind_of w) reads);
    }

file_gap : (look : Look) (size : ℕ) (stored more : List ℕ) → look.first ≡ None → at_gap (file_words look size stored ++ (10 ∷ more)) ≡ true
file_gap look size stored more whole =
    let text = file_text look size stored more in
    rw text (elim (cases_Bool (eqb size (length stored))) [
      | inl same ↦ rw same (gap_at_data look stored more whole)
      | inr other ↦ rw other refl
    ])

item_goes : (look : Look) → look.first ≡ None → (items earlier : List Item) (path : List ℕ) (node : Node) (marks more : List ℕ) (room : ℕ)
    → ItemShown items earlier (of path node) → node_room node + room < 2 ^ 64
    → Went (more_items (earlier, marks, rest (item_line look items (of path node) ++ more) (node_room node + room)))
    (earlier ++ of path node ∷ []) (rest more room)
item_goes look whole items earlier path Directory marks more room fits small =
    let none : 0 + room ≡ room = omega arith in
    item_went look items earlier path Directory (codes "dir") marks more (0 + room) room refl refl fits.few fits.path fits.bytes refl
    (rw none (ap there (directory_comes more room)))
item_goes look whole items earlier path (File size stored) marks more room fits small =
    item_went look items earlier path (File size stored) (codes "file") marks more (length stored + room) room refl refl fits.few fits.path fits.bytes
    (file_gap look size stored more whole) (ap there (file_comes look size stored more room whole fits.node.0 fits.node.1 small))
item_goes look whole items earlier path (OtherName number) marks more room fits small =
    let none : 0 + room ≡ room = omega arith in
    item_went look items earlier path (OtherName number) (codes "name") marks more (0 + room) room refl refl fits.few fits.path fits.bytes refl
    (rw none (ap there (other_comes earlier items number more room fits.node.0 fits.node.1)))

item_long : (look : Look) (items : List Item) (path : List ℕ) (node : Node) → 0 < length (item_line look items (of path node))
item_long look items path Directory = omega arith
item_long look items path (File size stored) = omega arith
item_long look items path (OtherName number) = omega arith

item_steps : (look : Look) → look.first ≡ None → (items : List Item)
    → Steps more_items (λ e i. item_line look items i) item_room (ItemShown items) (λ _. Unit {0})
item_steps look whole items = record {
  goes = λ earlier i marks more room fits follows small. item_goes look whole items earlier i.path i.node marks more room fits small;
  heads = λ earlier i more fits. tt;
  shows = λ earlier i. item_long look items i.path i.node;
}

flat_is : {X : Type 0} (f : X → List ℕ) (earlier xs : List X) → flat_map f xs ≡ each_shown (λ e x. f x) earlier xs
flat_is f earlier [] = refl
flat_is f earlier (x ∷ xs) = ap (λ (t : List ℕ). f x ++ t) (flat_is f (earlier ++ x ∷ []) xs)

pub items_come : (look : Look) → look.first ≡ None → (items : List Item) (marks more : List ℕ) (room : ℕ) → total item_room items + room < 2 ^ 64
    → Each (ItemShown items) [] items
    → kind_of (line_word more) ≡ None
    → Came (items_of marks (rest (flat_map (item_line look items) items ++ more) (total item_room items + room))) items (rest more room)
unfolding items_of
items_come look whole items marks more room small fits ends =
    rw (flat_is (item_line look items) [] items) (all_come (item_steps look whole items) items marks more room small fits tt (λ all noted. rw ends refl))
