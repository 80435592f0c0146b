-- An entry that passes its tests asks for no more than one call moves.
use Rattle.std.proofs.Common.{◌≡◌, ℕ, ◌+◌, ◌-◌, ◌*◌, ◌^◌, ◌≤◌, Bool, true, false, List, [], ◌∷◌, ◌++◌, length, drop, min, Option, Some, None, refl, ◌∙◌, arith, inl, inr, subst}
use Rattle.std.specs.Prelude.{◌==◌, not, ltb, nat_le, Ok, IfOk, IfSome, ok_or, if◌then◌else◌}
use Rattle.std.specs.List.{find}
use Rattle.std.specs.Option.{option_map}
use Rattle.std.proofs.lemmas.List.{length-drop}
use Rattle.std.proofs.lemmas.Bool.{eqb-true, eq-eqb, ne_eqb, and_parts, cases_eq}
use Rattle.std.proofs.lemmas.Option.{same_Some, none-some}
use Rattle.sqe_codec.specs.declared.errno.Errno.TheVariants.{EINVAL, EOPNOTSUPP}
use Rattle.sqe_codec.specs.declared.sqe.Sqe.{Sqe}
use Rattle.std.proofs.lemmas.Result.{IfOk-at_ok}
use Rattle.sqe_codec.specs.Answers.{◌>>◌, require}
use Rattle.trace_format.specs.declared.entry.Entry.{Entry}
use Rattle.trace_format.specs.declared.version.Version.{Version}
use Rattle.trace_format.specs.declared.given.Given.{Given}
use Rattle.trace_format.specs.declared.given.Given.TheVariants.{Passed, Refused}
use Rattle.trace_format.specs.Versions.{rules}
use Rattle.trace_format.specs.Sides.{is_side_of, SideFits, lengths_in, most_moved, total, vector_is_short, vector_len, written_len}
use Rattle.entry_checks.specs.Operation.{Operation, asked, statx, statx_file, statx_root, at_descriptor}
use Rattle.entry_checks.specs.Check.{Row, rows, later_rows, rows_beside, statx_row, check_no_registered_file, check_path, are_statx_flags, has_no_path, statx_of_descriptor, file_number, path_of, row_of, has, buffer_select, check_fields, check_given, check}
use Rattle.op_meaning.proofs.Fallible.{and_so, after, after_so}

-- It asks for no more than one call moves.
abbrev pub IsShort : Operation → Type 0
IsShort o = IfSome (asked o) (λ n. n ≤ most_moved)

-- The bytes of a write, and of a vectored one.
pub short_write : (e : Sqe) (side : List ℕ) → 23 ≡ e.opcode → is_side_of e side ≡ true → length side ≤ most_moved
unfolding is_side_of
short_write e side writes fits = let whole = eqb-true (length side) (min e.len most_moved) (rw (← writes) at fits) in omega (arith, whole)

vector_long : (e : Sqe) (side : List ℕ) → 2 ≡ e.opcode → is_side_of e side ≡ true → length side ≡ vector_len e + written_len e side
unfolding is_side_of
vector_long e side writes fits = eqb-true (length side) (vector_len e + written_len e side) (and_parts (nat_le (vector_len e) (length side)) _ (rw (← writes) at fits)).1

short_vector : (e : Sqe) (side : List ℕ) → 2 ≡ e.opcode → is_side_of e side ≡ true → vector_is_short e side ≡ true → length (drop (8 * e.len) side) ≤ most_moved
short_vector e side writes fits short =
    let few : nat_le e.len 1024 ≡ true = (and_parts (nat_le e.len 1024) _ short).0 in
    let lengths : vector_len e ≡ 8 * e.len = rw few refl in
    let moved : written_len e side ≡ min (total (lengths_in e.len side)) most_moved = rw short refl in
    omega (arith, length-drop (8 * e.len) side, vector_long e side writes fits, lengths, moved)

-- So it does in the row of a number, whose entries have fitting bytes.
abbrev ShortRow : ℕ × Row → Type 0
ShortRow p = (v : Version) (e : Sqe) (side : List ℕ) → is_side_of e side ≡ true → p.0 ≡ e.opcode → IfOk (p.1 v e side) IsShort

abbrev ShortRows : List (ℕ × Row) → Type 0
ShortRows [] = Unit {0}
ShortRows (p ∷ ps) = ShortRow p × ShortRows ps

-- A new row needs no line here: where it moves no bytes of its entry, its tests are passed over.
short_rows : ShortRows rows
short_rows = search (after, after_so, short_write, short_vector, arith)

short_statx : (v : Version) (e : Sqe) (side : List ℕ) → IfOk (statx_row v e side) IsShort
short_statx v e side =
    after IsShort (check_no_registered_file e) _ (after IsShort (require (ltb e.len (2 ^ 31)) EINVAL) _ (after IsShort (require (are_statx_flags e.op_flags) EINVAL) _ (which (has_no_path e side))))
  where
    at : (b : Bool) → IsShort (if b then statx_root else statx_file (at_descriptor (file_number e)))
    at true = tt
    at false = tt

    which : (b : Bool) → IfOk (if b then Ok (statx_of_descriptor e) else (check_path side >> Ok (statx (path_of e.fd side)))) IsShort
    which true = at (file_number e == 2 ^ 32 - 100)
    which false = after IsShort (check_path side) _ tt

-- So it does in the rows that a version has beside them.
short_beside : (v : Version) → ShortRows (rows_beside v)
short_beside v = by (rules v).has_later_opcodes
  where
    by : (b : Bool) → ShortRows (if b then later_rows else [])
    by true = (λ v e side fits is. tt, ((λ v e side fits is. short_statx v e side), (λ v e side fits is. tt, tt)))
    by false = tt

append_rows : (ps qs : List (ℕ × Row)) → ShortRows ps → ShortRows qs → ShortRows (ps ++ qs)
append_rows [] qs all more = more
append_rows (p ∷ ps) qs all more = (all.0, append_rows ps qs all.1 more)

row_in : (n : ℕ) (ps : List (ℕ × Row)) → ShortRows ps → (row : Row) → option_map (λ p. p.1) (find (λ p. p.0 == n) ps) ≡ Some row → ShortRow (n, row)
row_in n [] all row h = absurd (none-some row h)
row_in n (p ∷ ps) all row h = λ v e side fits is. elim (cases_eq p.0 n) [
  | inl q ↦
      let here : p.1 ≡ row = same_Some p.1 row (rw (eq-eqb p.0 n q) at h) in
      subst (λ (r : Row). IfOk (r v e side) IsShort) here (all.0 v e side fits (q ∙ is))
  | inr ne ↦ row_in n ps all.1 row (rw (ne_eqb p.0 n ne) at h) v e side fits is
]

short_known : (v : Version) (e : Sqe) (side : List ℕ) (o : Option Row) → is_side_of e side ≡ true → row_of v e.opcode ≡ o → IfOk (ok_or o EINVAL) (λ row. IfOk (row v e side) IsShort)
short_known v e side None fits is = tt
short_known v e side (Some row) fits is = row_in e.opcode (rows ++ rows_beside v) (append_rows rows (rows_beside v) short_rows (short_beside v)) row is v e side fits refl

short_fields : (v : Version) (e : Sqe) (side : List ℕ) → is_side_of e side ≡ true → IfOk (check_fields v e side) IsShort
short_fields v e side fits =
    and_so (λ row. IfOk (row v e side) IsShort) IsShort (ok_or (row_of v e.opcode) EINVAL) _ (short_known v e side (row_of v e.opcode) fits refl) (λ row is.
    after IsShort (require (ltb e.flags 128) EINVAL) _ (after IsShort (require (e.personality == 0) EINVAL) _ (after IsShort (require (not (has e.flags buffer_select)) EOPNOTSUPP) _ is)))

short_given : (x : Given) → IfOk (check_given x) IsShort
short_given (Passed r fails) = tt
short_given (Refused error) = tt

short_check : (v : Version) (e : Entry) → SideFits e → IfOk (check v e) IsShort
short_check v e fits = by e.given refl
  where
    by : (g : Option Given) → e.given ≡ g → IfOk (check v e) IsShort
    by None is = rw is (short_fields v e.sqe e.side (fits is))
    by (Some x) is = rw is (short_given x)

pub short : (v : Version) (e : Entry) (o : Operation) → SideFits e → check v e ≡ Ok o → IsShort o
short v e o fits h = IfOk-at_ok IsShort h (short_check v e fits)
