-- Items of a trace are found by their paths.
use Rattle.std.proofs.Common.{◌≡◌, ℕ, zero, suc, ◌+◌, ◌-◌, ◌<◌, ◌^◌, ◌||◌, Bool, true, false, eqb, leb, List, [], ◌∷◌, ◌++◌, length, Option, None, Some, inl, inr, refl, sym, ap, subst, ◌∙◌, append_assoc, append-nil, arith}
use Rattle.std.proofs.lemmas.Bool.{cases_Bool, and_parts, leb-true, or_parts, eqb-true}
use Rattle.std.proofs.lemmas.List.Folds.{list_any-append}
use Rattle.std.proofs.lemmas.Option.{slice_get_within}
use Rattle.std.proofs.lemmas.Slice.Eq.{bytes_eq-Decides}
use Rattle.std.specs.Prelude.{slice_get}
use Rattle.std.specs.List.{list_any, position_from}
use Rattle.std.specs.Str.{bytes_eq}
use Rattle.sqe_codec.specs.Fields.{IsBytes}
use Rattle.trace_format.specs.declared.trace.Item.{Item}
use Rattle.trace_format.specs.declared.trace.Node.{Node}
use Rattle.trace_format.specs.declared.trace.Node.TheVariants.{Directory, File, OtherName}
use Rattle.trace_format.specs.Paths.{has_name, is_directory, is_file, is_path}
use Rattle.trace_format.specs.Text.{is_item, is_node}
use Rattle.trace_format.proofs.Spots.{slice_get-append_left}
use Rattle.text_trace.specs.Items.{number_of}
use Rattle.text_laws.proofs.Several.{Each}
use Rattle.text_laws.proofs.Nodes.{Known, Named}
use Rattle.text_laws.proofs.Items.{ItemShown, NodeShown}

-- what the format asks of an item
abbrev pub NodeRead : List Item → Node → Type 0
NodeRead earlier Directory = Unit {0}
NodeRead earlier (File size stored) = (size < 2 ^ 64) × IsBytes stored
NodeRead earlier (OtherName number) = (number < 2 ^ 32) × (is_item is_file earlier number ≡ true)

pub record ItemRead (earlier : List Item) (i : Item) : Type 0 where
  pub few : length earlier < 65535
  pub path : is_path i.path ≡ true
  pub bytes : IsBytes i.path
  pub fresh : has_name earlier i.path ≡ false
  pub node : NodeRead earlier i.node

-- what one of several items has, beside a new name
one_of : (earlier xs : List Item) (k : ℕ) (i : Item) → Each ItemRead earlier xs → slice_get xs k ≡ Some i
    → (is_path i.path ≡ true) × IsBytes i.path × (has_name earlier i.path ≡ false)
one_of earlier [] k i each at = absurd cc
one_of earlier (x ∷ xs) zero i each at =
    let same : x ≡ i = cc at in
    subst (λ (y : Item). (is_path y.path ≡ true) × IsBytes y.path × (has_name earlier y.path ≡ false)) same (each.0.path, each.0.bytes, each.0.fresh)
one_of earlier (x ∷ xs) (suc k) i each at =
    let more = one_of (earlier ++ x ∷ []) xs k i each.1 at in
    let parts = or_parts (has_name earlier i.path) (list_any (λ j. bytes_eq j.path i.path) (x ∷ []))
    (sym (list_any-append (λ j. bytes_eq j.path i.path) earlier (x ∷ [])) ∙ more.2) in
    (more.0, more.1, parts.0)

-- an item that comes later has another path
later : (earlier xs : List Item) (x : Item) (k : ℕ) (i : Item) → Each ItemRead (earlier ++ x ∷ []) xs → slice_get xs k ≡ Some i → bytes_eq x.path i.path ≡ false
later earlier xs x k i each at =
    let more = one_of (earlier ++ x ∷ []) xs k i each at in
    let parts = or_parts (has_name earlier i.path) (list_any (λ j. bytes_eq j.path i.path) (x ∷ []))
    (sym (list_any-append (λ j. bytes_eq j.path i.path) earlier (x ∷ [])) ∙ more.2) in
    (or_parts (bytes_eq x.path i.path) false parts.1).0

abbrev some : ℕ → Option ℕ
some n = Some n

position : (earlier xs : List Item) (n k : ℕ) (i : Item) → Each ItemRead earlier xs → slice_get xs k ≡ Some i
    → position_from (λ j. bytes_eq j.path i.path) n xs ≡ Some (n + k)
position earlier [] n k i each at = absurd cc
position earlier (x ∷ xs) n zero i each at =
    let same : x ≡ i = cc at in
    let hit : bytes_eq x.path i.path ≡ true = ap (λ (y : Item). bytes_eq y.path i.path) same ∙ (bytes_eq-Decides i.path i.path).1 refl in
    let first : n ≡ n + 0 = omega arith in
    rw hit (ap some first)
position earlier (x ∷ xs) n (suc k) i each at =
    let next : n + 1 + k ≡ n + suc k = omega arith in
    rw (later earlier xs x k i each.1 at) (position (earlier ++ x ∷ []) xs (n + 1) k i each.1 at ∙ ap some next)

there : (test : Node → Bool) (o : Option Item) → (elim o [ None ↦ false | Some i ↦ test i.node ]) ≡ true → (i : Item) × (o ≡ Some i)
there test None h = absurd cc
there test (Some i) h = (i, refl)

-- the number of an item is known by its path
named_of : (test : Node → Bool) (items earlier after : List Item) (number : ℕ) → items ≡ earlier ++ after → Each ItemRead [] earlier
    → is_item test earlier number ≡ true → Named (number_of earlier) items number
named_of test items earlier after number are each h =
    let parts = and_parts (leb 1 number) _ h in
    let least = leb-true 1 number parts.0 in
    let found = there test (slice_get earlier (number - 1)) parts.1 in
    let one = one_of [] earlier (number - 1) found.0 each found.1 in
    let back : 1 + (number - 1) ≡ number = omega (arith, least) in
    record {
      item = found.0;
      some = omega (arith, least);
      at = ap (λ (l : List Item). slice_get l (number - 1)) are ∙ slice_get-append_left earlier after (number - 1) (slice_get_within earlier (number - 1) found.0 found.1) ∙ found.1;
      known = position [] earlier 1 (number - 1) found.0 each found.1 ∙ ap some back;
      path = one.0;
      bytes = one.1;
    }

pub known_node : (items : List Item) (number : ℕ) → Each ItemRead [] items → is_node items number ≡ true → Known (number_of items) items number
known_node items number each h = elim (cases_Bool (eqb number 0)) [
  | inl root ↦ inl (eqb-true number 0 root)
  | inr other ↦ inr (named_of (λ n. is_directory n || is_file n) items items [] number (sym (append-nil items)) each (rw other at h))
]

pub each_push : {X : Type 0} (F : List X → X → Type 0) (earlier xs : List X) (x : X) → Each F earlier xs → F (earlier ++ xs) x → Each F earlier (xs ++ x ∷ [])
each_push F earlier [] x each h = (subst (λ e. F e x) (append-nil earlier) h, tt)
each_push F earlier (y ∷ ys) x each h = (each.0, each_push F (earlier ++ y ∷ []) ys x each.1 (subst (λ e. F e x) (sym (append_assoc earlier (y ∷ []) ys)) h))

node_shown : (items earlier after : List Item) (node : Node) → items ≡ earlier ++ after → Each ItemRead [] earlier → NodeRead earlier node
    → NodeShown items earlier node
node_shown items earlier after Directory are each read = tt
node_shown items earlier after (File size stored) are each read = read
node_shown items earlier after (OtherName number) are each read = (read.0, named_of is_file items earlier after number are each read.1)

items_shown_from : (items earlier xs : List Item) → items ≡ earlier ++ xs → Each ItemRead [] earlier → Each ItemRead earlier xs
    → Each (ItemShown items) earlier xs
items_shown_from items earlier [] are before each = tt
items_shown_from items earlier (x ∷ xs) are before each = (
  record { few = each.0.few; path = each.0.path; bytes = each.0.bytes; node = node_shown items earlier (x ∷ xs) x.node are before each.0.node },
  items_shown_from items (earlier ++ x ∷ []) xs (are ∙ sym (append_assoc earlier (x ∷ []) xs)) (each_push ItemRead [] earlier x before each.0) each.1,
)

pub items_shown : (items : List Item) → Each ItemRead [] items → Each (ItemShown items) [] items
items_shown items each = items_shown_from items [] items refl tt each
