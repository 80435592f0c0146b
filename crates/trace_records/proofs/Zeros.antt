-- Zeros that do not stand there fit an entry, as their lengths and their number say.
use Rattle.std.proofs.Common.{◌≡◌, ℕ, zero, suc, min, ◌+◌, ◌*◌, ◌-◌, ◌<◌, ◌≤◌, true, false, List, ◌++◌, length, length-append, drop, refl, ◌∙◌, inl, inr, arith}
use Rattle.std.specs.Prelude.{replicate, nat_le, ◌==◌, if◌then◌else◌}
use Rattle.std.proofs.Math.Nat.{min-zero, min-le_left, min-eq_right}
use Rattle.std.proofs.lemmas.Bool.Decides.{nat_tests}
use Rattle.std.proofs.lemmas.Bool.{le-leb, lt-leb, cases_lt}
use Rattle.std.proofs.lemmas.List.{length-replicate, take-append-le, drop-append-le, length-drop}
use Rattle.sqe_codec.specs.declared.sqe.Sqe.{Sqe}
use Rattle.trace_format.specs.Sides.{lengths_in, vector_len, written_len, most_moved, is_side_of}
use Rattle.trace_records.specs.Records.{meant, may_be_zeros, lengths_len}
use Rattle.trace_records.specs.declared.record.Beside.TheVariants.{Zeros}

-- the lengths stand in front
lengths_front : (n : ℕ) (a b : List ℕ) → 8 * n ≤ length a → lengths_in n (a ++ b) ≡ lengths_in n a
lengths_front zero a b h = refl
lengths_front (suc n) a b h =
    let eight : 8 ≤ length a = omega (arith, h) in
    let rest : 8 * n ≤ length (drop 8 a) = omega (arith, h, length-drop 8 a) in
    rw (take-append-le 8 a b eight, drop-append-le 8 a b eight, lengths_front n (drop 8 a) b rest) refl

-- how many bytes are meant
pub length-meant : (lengths : List ℕ) (len : ℕ) → length lengths ≤ len → length (meant (Zeros lengths len)) ≡ len
length-meant lengths len h = omega (arith, length-append lengths (replicate (len - length lengths) 0), length-replicate {A = ℕ} (len - length lengths) 0, h)

-- WRITE
pub write_fits : (e : Sqe) (lengths : List ℕ) (len : ℕ) → e.opcode ≡ 23 → length lengths ≡ lengths_len e len
    → is_side_of e (meant (Zeros lengths len)) ≡ (len == min e.len most_moved)
unfolding is_side_of
write_fits e lengths len op whole =
    let none : length lengths ≡ 0 = whole ∙ rw op (min-zero len) in
    rw (op, length-meant lengths len (omega (arith, none))) refl

-- of the two that may be zeros, the one that is not WRITE
pub is_writev : (e : Sqe) → may_be_zeros e ≡ true → (e.opcode ≡ 23 → ⊥) → e.opcode ≡ 2
is_writev e h other = grind (arith, nat_tests)

-- no more lengths stand there than there are bytes
pub lengths_le : (e : Sqe) (lengths : List ℕ) (len : ℕ) → length lengths ≡ lengths_len e len → length lengths ≤ len
lengths_le e lengths len whole = rw whole (min-le_left len (if e.opcode == 2 then vector_len e else 0))

-- all lengths stand there
pub lengths_whole : (e : Sqe) (lengths : List ℕ) (len : ℕ) → e.opcode ≡ 2 → vector_len e ≤ len → length lengths ≡ lengths_len e len → length lengths ≡ vector_len e
lengths_whole e lengths len op le whole = whole ∙ rw op (min-eq_right le)

module _ (e : Sqe) (lengths : List ℕ) (len : ℕ) (op : e.opcode ≡ 2) where
  -- a vector that is longer than all
  pub too_long : len < vector_len e → length lengths ≤ len → is_side_of e (meant (Zeros lengths len)) ≡ false
  unfolding is_side_of
  too_long lt le =
      let no : nat_le (vector_len e) len ≡ false = lt-leb _ _ lt in
      rw (op, length-meant lengths len le, no) refl

  written_front : (b : List ℕ) → length lengths ≡ vector_len e → written_len e (lengths ++ b) ≡ written_len e lengths
  written_front b whole = elim (cases_lt 1024 e.len) [
    | inl many ↦
        let no : nat_le e.len 1024 ≡ false = lt-leb _ _ many in
        rw no refl
    | inr few ↦
        let first : nat_le e.len 1024 ≡ true = le-leb _ _ few in
        let vector : vector_len e ≡ 8 * e.len = rw first refl in
        let room : 8 * e.len ≤ length lengths = omega (arith, whole, vector) in
        rw (lengths_front e.len lengths b room) refl
  ]

  -- WRITEV
  pub writev_fits : vector_len e ≤ len → length lengths ≡ vector_len e → is_side_of e (meant (Zeros lengths len)) ≡ (len == vector_len e + written_len e lengths)
  unfolding is_side_of
  writev_fits le whole =
      let first : nat_le (vector_len e) len ≡ true = le-leb _ _ le in
      rw (op, length-meant lengths len (omega (arith, whole, le)), first, written_front (replicate (len - length lengths) 0) whole) refl
