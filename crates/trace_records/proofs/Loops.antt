-- Reading several of a kind, as a loop does.
use Rattle.std.proofs.Common.{◌≡◌, ℕ, suc, ◌-◌, ◌+◌, ◌≤◌, ◌<◌, List, [], ◌∷◌, ◌++◌, Result, Ok, IsErrAnd, refl, sym, ◌∙◌, arith}
use Rattle.trace_records.specs.declared.fault.ReadError.{ReadError}
use Rattle.trace_records.specs.declared.source.Source.{Source}
use Rattle.trace_format.specs.Grammar.{Grammar, several}
use Rattle.trace_records.specs.Read.{Fails, Gives}
use Rattle.trace_records.specs.Sources.{reading_from, with_rest}
use Rattle.trace_records.proofs.Exits.{goes_out}

-- What is left to read, after those before it, gives what was to be read at first.
pub record Left {X : Type 0} (next : List X → Grammar X) (count i : ℕ) (earlier : List X) (source start : Source) : Type 0 where
  pub is : reading_from source (several (count - i) next earlier) ≡ reading_from start (several count next [])

pub goes_on : {X : Type 0} {next : List X → Grammar X} {count i : ℕ} {earlier : List X} {source start after : Source} {x : X}
    → i < count → reading_from source (next earlier) ≡ Ok (with_rest (x, after))
    → Left next count i earlier source start → Left next count (i + 1) (earlier ++ x ∷ []) after start
goes_on {count = count} {i = i} lt read left =
    let k : count - i ≡ suc (count - (i + 1)) = omega arith in
    record { is = sym (rw (k, read) refl) ∙ left.is }

pub ends : {X Y : Type 0} {next : List X → Grammar X} {count i : ℕ} {earlier : List X} {source start : Source}
    → (view : Y → List X × ℕ × List ℕ) (out : Result Y ReadError) (e : ReadError)
    → IsErrAnd out (λ y. y ≡ e) → i < count → Fails e (reading_from source (next earlier))
    → Left next count i earlier source start → Gives view out (reading_from start (several count next []))
ends {next = next} {count = count} {i = i} {earlier = earlier} {source = source} view out e is_err lt fails left =
    let k : count - i ≡ suc (count - (i + 1)) = omega arith in
    goes_out view out e _ _ is_err fails (λ f broken. sym left.is ∙ rw (k, broken) refl)

pub is_done : {X : Type 0} {next : List X → Grammar X} {count i : ℕ} {earlier : List X} {source start : Source}
    → count ≤ i → Left next count i earlier source start → reading_from start (several count next []) ≡ Ok (with_rest (earlier, source))
is_done {next = next} {count = count} {i = i} le left =
    let k : count - i ≡ 0 = omega arith in
    sym left.is ∙ rw k refl
