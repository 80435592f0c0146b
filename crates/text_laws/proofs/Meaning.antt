-- The text of a trace is read as that trace.
use Rattle.std.proofs.Common.{◌≡◌, ℕ, ◌+◌, ◌-◌, ◌<◌, ◌≤◌, ◌^◌, false, List, [], ◌∷◌, ◌++◌, None, Result, Ok, refl, sym, subst, ◌∙◌, append-nil, arith}
use Rattle.std.specs.Prelude.{codes}
use Rattle.std.specs.List.{flat_map}
use Rattle.std.specs.Str.{bytes_eq}
use Rattle.std.specs.Fmt.{decimal}
use Rattle.sqe_codec.specs.Fields.{IsBytes}
use Rattle.trace_format.specs.declared.trace.Trace.{Trace}
use Rattle.trace_format.specs.declared.version.Version.{Version}
use Rattle.trace_format.specs.declared.version.Version.TheVariants.{One, Two, Three}
use Rattle.trace_format.specs.Read.{reading_trace}
use Rattle.trace_format.specs.Spelling.{trace_bytes}
use Rattle.trace_format.specs.Text.{SpellsTrace}
use Rattle.trace_format.specs.Versions.{rules}
use Rattle.trace_format.proofs.Whole.{reading_from_spells}
use Rattle.trace_format.proofs.OneSpelling.{one_spelling}
use Rattle.text_words.specs.declared.fault.Fault.{Fault}
use Rattle.text_words.specs.Words.{behind_lines, word_at}
use Rattle.trace_text.specs.declared.look.Look.{Look}
use Rattle.trace_text.specs.Shown.{description_line, item_line, numbered, records_from, ring_lines, slots_line, text_of}
use Rattle.text_trace.specs.Fields.{numbered_opcode, opcode_of}
use Rattle.text_trace.specs.Items.{items_of, number_of}
use Rattle.text_trace.specs.Lines.{kind_of, text_end}
use Rattle.text_trace.specs.Records.{step_of}
use Rattle.text_trace.specs.Whole.{descriptors_of, meaning, trace_meant}
use Rattle.text_laws.specs.Words.{rest}
use Rattle.text_laws.proofs.Parts.{joined_is}
use Rattle.text_laws.proofs.Lines.{version_comes}
use Rattle.text_laws.proofs.Several.{Each, total}
use Rattle.text_laws.proofs.Tables.{DescriptionShown, RingFits, SlotsCame, SlotsFit, descriptions_come, descriptions_word, line_word, rings_come, rings_word, slots_of_table, table_word}
use Rattle.text_laws.proofs.Items.{ItemShown, item_room, items_come}
use Rattle.text_laws.proofs.Steps.{RecordShown, record_room, records_come, records_word}

-- what is asked of a trace
pub record TraceShown (t : Trace) : Type 0 where
  pub items : Each (ItemShown t.items) [] t.items
  pub descriptions : Each (DescriptionShown (number_of t.items) t.items) [] t.descriptions
  pub descriptors : SlotsFit t.descriptors
  pub version : t.version ≡ Three → ⊥
  pub no_table : t.version ≡ One → t.descriptors ≡ []
  pub rings : Each RingFits [] t.rings
  pub records : Each RecordShown [] t.records
  pub room : total item_room t.items + total record_room t.records ≤ 2 ^ 30

-- the end of a text has no word
no_word : line_word [] ≡ []
unfolding behind_lines word_at
no_word = refl

no_opcode : opcode_of [] ≡ None
unfolding opcode_of numbered_opcode
no_opcode = refl

at_end : (P : List ℕ → Type 0) → P [] → P (line_word [])
at_end P h = subst P (sym no_word) h

-- the parts of a text
abbrev records_text : Look → Trace → List ℕ
records_text look t = records_from look 0 t.records ++ []

abbrev rings_text : Look → Trace → List ℕ
rings_text look t = numbered ring_lines 0 t.rings ++ records_text look t

abbrev table_text : Look → Trace → List ℕ
table_text look t = slots_line (codes "descriptors") t.descriptors ++ rings_text look t

abbrev descriptions_text : Look → Trace → List ℕ
descriptions_text look t = numbered (description_line t.items) 0 t.descriptions ++ table_text look t

abbrev items_text : Look → Trace → List ℕ
items_text look t = flat_map (item_line look t.items) t.items ++ descriptions_text look t

abbrev whole_text : Look → Trace → List ℕ
whole_text look t = codes "uring-trace " ++ (decimal (rules t.version).number ++ (10 ∷ items_text look t))

text_is : (look : Look) (t : Trace) → text_of look t ≡ whole_text look t
unfolding text_of
text_is look t =
    sym (append-nil _) ∙ joined_is (codes "uring-trace ")
    (decimal (rules t.version).number ∷ codes "\n" ∷ flat_map (item_line look t.items) t.items ∷ numbered (description_line t.items) 0 t.descriptions
    ∷ slots_line (codes "descriptors") t.descriptors ∷ numbered ring_lines 0 t.rings ∷ records_from look 0 t.records ∷ []) []

-- what the first word of each part has, where the words of its lines and of what follows have it
module _ (P : List ℕ → Type 0) (look : Look) (t : Trace) (shown : TraceShown t) (none : P []) (enter : P (codes "enter")) (fill : P (codes "fill")) where
  word_of_records : P (line_word (records_text look t))
  word_of_records = records_word P enter fill look t.records [] shown.records (at_end P none)

  word_of_rings : P (codes "ring") → P (line_word (rings_text look t))
  word_of_rings ring = rings_word P ring t.rings (records_text look t) word_of_records

  word_of_table : P (codes "ring") → P (codes "descriptors") → P (line_word (table_text look t))
  word_of_table ring table = table_word P table t.descriptors (rings_text look t) (word_of_rings ring)

  word_of_descriptions : P (codes "ring") → P (codes "descriptors") → P (codes "open") → P (line_word (descriptions_text look t))
  word_of_descriptions ring table opens = descriptions_word P opens t.items t.descriptions (table_text look t) (word_of_table ring table)

-- the table of descriptors, by the version
table_comes : (v : Version) (slots marks more : List ℕ) (room : ℕ) → SlotsFit slots → (v ≡ One → slots ≡ [])
    → bytes_eq (line_word more) (codes "descriptors") ≡ false
    → SlotsCame (descriptors_of v marks (rest (slots_line (codes "descriptors") slots ++ more) room)) slots (rest more room)
unfolding descriptors_of
table_comes One slots marks more room fits none ends = rw (none refl) (record { marks = marks; is = refl })
table_comes Two slots marks more room fits none ends = slots_of_table slots marks more room fits ends
table_comes Three slots marks more room fits none ends = slots_of_table slots marks more room fits ends

record TraceCame (read : Result (Trace × List ℕ) Fault) (t : Trace) : Type 0 where
  marks : List ℕ
  is : read ≡ Ok (t, marks)

end_of_text : (room : ℕ) → text_end (rest [] room) ≡ Ok false
unfolding text_end
end_of_text room = rw no_word refl

trace_came : (look : Look) (t : Trace) → look.first ≡ None → TraceShown t → TraceCame (trace_meant (text_of look t)) t
unfolding trace_meant
trace_came look t all shown =
    let behind : ℕ = 2 ^ 30 - (total item_room t.items + total record_room t.records) in
    let room : ℕ = total record_room t.records + behind in
    let is_room : total item_room t.items + room ≡ 2 ^ 30 = omega (arith, shown.room) in
    let small : room < 2 ^ 64 = omega (arith, is_room) in
    let i = items_come look all t.items [] (descriptions_text look t) room (omega (arith, is_room)) shown.items
    (word_of_descriptions (λ w. kind_of w ≡ None) look t shown refl refl refl refl refl refl) in
    let items : items_of [] (rest (items_text look t) (2 ^ 30)) ≡ Ok (t.items, i.marks, rest (descriptions_text look t) room) =
    subst (λ (k : ℕ). items_of [] (rest (items_text look t) k) ≡ Ok (t.items, i.marks, rest (descriptions_text look t) room)) is_room i.is in
    let d = descriptions_come (number_of t.items) t.items t.descriptions i.marks (table_text look t) room small shown.descriptions
    (word_of_table (λ w. bytes_eq w (codes "open") ≡ false) look t shown refl refl refl refl refl) in
    let s = table_comes t.version t.descriptors d.marks (rings_text look t) room shown.descriptors shown.no_table
    (word_of_rings (λ w. bytes_eq w (codes "descriptors") ≡ false) look t shown refl refl refl refl) in
    let r = rings_come t.rings s.marks (records_text look t) room small shown.rings (
      word_of_records (λ w. bytes_eq w (codes "slots") ≡ false) look t shown refl refl refl,
      word_of_records (λ w. bytes_eq w (codes "buffer") ≡ false) look t shown refl refl refl,
    )
    (word_of_records (λ w. bytes_eq w (codes "ring") ≡ false) look t shown refl refl refl) in
    let x = records_come look all t.records r.marks [] behind small shown.records (at_end (λ w. opcode_of w ≡ None) no_opcode)
    (at_end (λ w. step_of w ≡ None) refl) in
    record {
      marks = x.marks;
      is = rw (text_is look t, version_comes t.version shown.version (items_text look t) (2 ^ 30), items, d.is, s.is, r.is, x.is, end_of_text behind) refl;
    }

pub meant : (look : Look) (bytes : List ℕ) (t : Trace) → look.first ≡ None → TraceShown t → IsBytes bytes → SpellsTrace bytes t
    → meaning (text_of look t) ≡ Ok bytes
unfolding meaning
meant look bytes t all shown fits spells =
    let is : bytes ≡ trace_bytes t = one_spelling bytes t fits spells in
    let read : reading_trace (trace_bytes t) ≡ Ok t = subst (λ (b : List ℕ). reading_trace b ≡ Ok t) is (reading_from_spells bytes t spells) in
    rw ((trace_came look t all shown).is, read, is) refl
