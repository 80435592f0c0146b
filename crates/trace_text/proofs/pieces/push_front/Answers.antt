use Rattle.std.proofs.Common.{◌≡◌, ℕ, ◌≤◌, ◌<◌, ◌/◌, List, ◌++◌, length, take, refl, sym, ap, ◌∙◌, arith}
use Rattle.std.specs.Prelude.{nat_le, true, false}
use Rattle.std.specs.List.{count_by}
use Rattle.std.proofs.lemmas.List.{take_min, length-take}
use Rattle.std.proofs.lemmas.Result.{on_ok_weaker}
use Rattle.text_forms.specs.Strings.{hex_text, is_hidden, plain_text, string_text}
use Rattle.trace_text.proofs.pieces.push_front.Goals as goal

as_string : (bytes : List ℕ) (hidden count : ℕ) → hidden ≡ count_by is_hidden bytes → count ≡ length bytes → hidden ≤ count / 4 → string_text bytes ≡ plain_text bytes
as_string bytes hidden count is size few =
    let short : nat_le (count_by is_hidden bytes) (length bytes / 4) ≡ true = ap (λ (n : ℕ). nat_le n (length bytes / 4)) (sym is) ∙ ap (λ (n : ℕ). nat_le hidden (n / 4)) (sym size) ∙ search (arith, few) in
    rw short refl

as_digits : (bytes : List ℕ) (hidden count : ℕ) → hidden ≡ count_by is_hidden bytes → count ≡ length bytes → count / 4 < hidden → hex_text bytes ≡ plain_text bytes
as_digits bytes hidden count is size many =
    let long : nat_le (count_by is_hidden bytes) (length bytes / 4) ≡ false = ap (λ (n : ℕ). nat_le n (length bytes / 4)) (sym is) ∙ ap (λ (n : ℕ). nat_le hidden (n / 4)) (sym size) ∙ grind (arith, many) in
    rw long refl

pub returns-then-hidden_count-count : goal.returns-then-hidden_count-count
returns-then-hidden_count-count c =
    let bytes = c.args.bytes.now in
    let count = c.min-count.result in
    let front : take count bytes ≡ take 64 bytes = ap (λ (n : ℕ). take n bytes) c.min-count.ensures ∙ take_min 64 bytes in
    on_ok_weaker c.push_quoted.result
    (λ e. e ∙ ap (λ (l : List ℕ). c.args.text.now.items ++ l)
    (as_string (take count bytes) c.hidden_count.result count c.hidden_count.ensures (omega (arith, length-take count bytes, c.min-count.ensures)) c.if-hidden_count-count.true ∙ ap plain_text front))
    c.push_quoted.ensures

pub returns-else-hidden_count-count : goal.returns-else-hidden_count-count
returns-else-hidden_count-count c =
    let bytes = c.args.bytes.now in
    let count = c.min-count.result in
    let front : take count bytes ≡ take 64 bytes = ap (λ (n : ℕ). take n bytes) c.min-count.ensures ∙ take_min 64 bytes in
    on_ok_weaker c.push_hex.result
    (λ e. e ∙ ap (λ (l : List ℕ). c.args.text.now.items ++ l)
    (as_digits (take count bytes) c.hidden_count.result count c.hidden_count.ensures (omega (arith, length-take count bytes, c.min-count.ensures)) c.if-hidden_count-count.false ∙ ap plain_text front))
    c.push_hex.ensures
