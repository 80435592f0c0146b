-- Where a text has an entry: one that was read from it, one that was added at its end, and the others when it grew.
use Rattle.std.proofs.Common.{◌≡◌, ℕ, ◌+◌, List, [], ◌++◌, All, length, take, drop, Result, Ok, Err, None, refl, sym, ap, ◌∙◌, append_assoc, arith}
use Rattle.std.specs.Prelude.{if◌then◌else◌, is_ok}
use Rattle.std.specs.Int.{w32}
use Rattle.std.proofs.lemmas.List.{take_at, drop_at, drop-drop, length-append, length-drop, append-nil}
use Rattle.sqe_codec.specs.Fields.{entry_of}
use Rattle.trace_format.specs.declared.entries.Spot.{Spot}
use Rattle.trace_format.specs.Entries.{IsInside, entry_at}
use Rattle.trace_format.specs.Grammar.{Bytes, number}
use Rattle.trace_format.specs.Read.{reading}
use Rattle.trace_format.proofs.Readings.{takes}
use Rattle.trace_format.proofs.Lasting.{Lasts, Added, added as added_to, part_lasts}

-- bytes that are read are the first ones of the text
pub bytes_read : (n place : ℕ) (text front : List ℕ) (after : ℕ) (rest : List ℕ) → reading (Bytes n) place text ≡ Ok (front, after, rest) → (text ≡ front ++ rest) × (length front ≡ n)
bytes_read n place text front after rest e =
    let t = takes (Bytes n) place text (front, after, rest) e in
    (t.1 ∙ ap (λ (x : List ℕ). x ++ rest) (sym t.2.1), ap length t.2.1 ∙ t.2.0)

-- and a number of 32 bits takes four
pub word_read : (place : ℕ) (text : List ℕ) (n after : ℕ) (rest : List ℕ) → reading (number w32) place text ≡ Ok (n, after, rest) → (front : List ℕ) × (text ≡ front ++ rest) × (length front ≡ 4)
word_read place text n after rest e =
    let t = takes (number w32) place text (n, after, rest) e in
    let s = t.2 in
    (t.0, t.1, omega (arith, ap length s.3, length-append s.0 s.1, s.4.0, ap length s.5.0))

-- the entry that lies at a spot of a text has these bytes, and this beside them
pub record Lies (text : List ℕ) (spot : Spot) (bytes side : List ℕ) : Type 0 where
  pub inside : IsInside text spot
  pub same : entry_at text spot ≡ record { sqe = entry_of bytes; side = side; given = None }

-- where the text goes on with them there, and with four bytes between them
pub lies_there : (text : List ℕ) (spot : Spot) (bytes word side rest : List ℕ) → drop spot.at text ≡ ((bytes ++ word) ++ side) ++ rest
    → length bytes ≡ 64 → length word ≡ 4 → length side ≡ spot.len → Lies text spot bytes side
lies_there text spot bytes word side rest there fields four beside =
    let head : length (bytes ++ word) ≡ 68 = omega (arith, length-append bytes word) in
    let first : drop spot.at text ≡ bytes ++ (word ++ (side ++ rest)) = there ∙ append_assoc (bytes ++ word) side rest ∙ append_assoc bytes word (side ++ rest) in
    let behind : drop (spot.at + 68) text ≡ side ++ rest =
    sym (drop-drop 68 spot.at text) ∙ ap (drop 68) (there ∙ append_assoc (bytes ++ word) side rest) ∙ drop_at (bytes ++ word) (side ++ rest) 68 head in
    record {
      inside = omega (arith, ap length there, length-drop spot.at text, length-append ((bytes ++ word) ++ side) rest, length-append (bytes ++ word) side);
      same = rw (first, behind, take_at bytes (word ++ (side ++ rest)) 64 fields, take_at side rest spot.len beside) refl;
    }

-- an entry that was read
pub lies : (text : List ℕ) (place : ℕ) (left bytes : List ℕ) (first : ℕ) (behind : List ℕ) (len second : ℕ) (last side : List ℕ) (third : ℕ) (rest : List ℕ) → left ≡ drop place text
    → reading (Bytes 64) place left ≡ Ok (bytes, first, behind)
    → reading (number w32) first behind ≡ Ok (len, second, last)
    → reading (Bytes len) second last ≡ Ok (side, third, rest)
    → Lies text (record { at = place; len = len }) bytes side
lies text place left bytes first behind len second last side third rest here bytes_ok len_ok side_ok =
    let fields = bytes_read 64 place left bytes first behind bytes_ok in
    let word = word_read first behind len second last len_ok in
    let beside = bytes_read len second last side third rest side_ok in
    let parts : drop place text ≡ ((bytes ++ word.0) ++ side) ++ rest =
    sym here ∙ fields.0 ∙ ap (λ (x : List ℕ). bytes ++ x) (word.1 ∙ ap (λ (x : List ℕ). word.0 ++ x) beside.0)
    ∙ sym (append_assoc bytes word.0 (side ++ rest)) ∙ sym (append_assoc (bytes ++ word.0) side rest) in
    lies_there text _ bytes word.0 side rest parts fields.1 word.2 beside.1

-- what lies in a text lies there too, and is the same, when more follows
pub spot_lasts : Lasts entry_at IsInside
spot_lasts = record {
  inside = λ text more s i. omega (arith, i, length-append text more);
  same = λ text more s i.
      rw (part_lasts text more s.at 64 (omega (arith, i)), part_lasts text more (s.at + 68) s.len (omega (arith, i))) refl;
}

-- text that was added at the end, or was refused
pub begins_still : {T E : Type 0} (r : Result T E) (text front now side last : List ℕ)
    → now ≡ text ++ front → last ≡ (if is_ok r then now ++ side else now) → take (length text) last ≡ text
begins_still (Ok x) text front now side last e added =
    ap (take (length text)) (added ∙ ap (λ (x : List ℕ). x ++ side) e ∙ append_assoc text front side) ∙ take_at text (front ++ side) (length text) refl
begins_still (Err x) text front now side last e added = ap (take (length text)) (added ∙ e) ∙ take_at text front (length text) refl

-- an entry that was added at the end
lies_last : (text : List ℕ) (spot : Spot) (bytes word side : List ℕ) → spot.at ≡ length text → length bytes ≡ 64 → length word ≡ 4 → length side ≡ spot.len
    → Lies (((text ++ bytes) ++ word) ++ side) spot bytes side
lies_last text spot bytes word side end fields four beside =
    let parts : ((text ++ bytes) ++ word) ++ side ≡ text ++ (((bytes ++ word) ++ side) ++ []) = simp (append_assoc, append-nil) in
    lies_there _ spot bytes word side [] (ap (drop spot.at) parts ∙ drop_at text _ spot.at (sym end)) fields four beside

-- a list of spots, and an entry more at the end of the text
pub added : (text : List ℕ) (spots : List Spot) (spot : Spot) (bytes word side : List ℕ) → All (IsInside text) spots → spot.at ≡ length text → length bytes ≡ 64 → length word ≡ 4 → length side ≡ spot.len
    → Added entry_at IsInside text (((text ++ bytes) ++ word) ++ side) spots spot (record { sqe = entry_of bytes; side = side; given = None })
added text spots spot bytes word side within end fields four beside =
    let last = lies_last text spot bytes word side end fields four beside in
    let parts : ((text ++ bytes) ++ word) ++ side ≡ text ++ (bytes ++ (word ++ side)) = append_assoc (text ++ bytes) word side ∙ append_assoc text bytes (word ++ side) in
    added_to spot_lasts text _ _ spots spot _ parts within last.inside last.same
