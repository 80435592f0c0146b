-- Records are read as they are shown.
use Rattle.std.proofs.Common.{◌≡◌, ℕ, ◌+◌, ◌-◌, ◌<◌, ◌≤◌, ◌^◌, true, min, List, [], ◌∷◌, ◌++◌, length, None, Result, Ok, inl, inr, refl, sym, ap, subst, ◌∙◌, append_assoc, arith}
use Rattle.std.proofs.lemmas.Bool.{cases_Bool, lt-leb}
use Rattle.std.proofs.lemmas.List.{length-append}
use Rattle.std.proofs.lemmas.List.Elements.{All-head, All-tail}
use Rattle.std.specs.Prelude.{codes, All}
use Rattle.std.specs.Fmt.{decimal}
use Rattle.sqe_codec.specs.Fields.{IsBytes, IsEntry}
use Rattle.trace_format.specs.declared.entry.Entry.{Entry}
use Rattle.trace_format.specs.declared.trace.Record.{Record}
use Rattle.trace_format.specs.declared.trace.Record.TheVariants.{Enter, Fill}
use Rattle.trace_format.specs.Counts.{places_in, places_limit, step_count}
use Rattle.trace_format.proofs.Sums.{places_in-push}
use Rattle.text_words.specs.declared.fault.Fault.{Fault}
use Rattle.text_words.specs.Read.{Rest}
use Rattle.text_words.specs.Words.{is_gap, behind_lines, word_at}
use Rattle.trace_text.specs.declared.look.Look.{Look}
use Rattle.trace_text.specs.Entry.{data_of, data_text, entry_line, entry_words, place_comment, words_of}
use Rattle.trace_text.specs.Fields.{decimal_word, field}
use Rattle.trace_text.specs.Shown.{fill_words, numbered, record_lines, records_from}
use Rattle.text_forms.specs.Names.{opcode_names}
use Rattle.text_trace.specs.Fields.{numbered_opcode, opcode_of}
use Rattle.text_trace.specs.Lines.{fill_buffer, fill_of}
use Rattle.text_trace.specs.Parts.{with_line}
use Rattle.text_trace.specs.Records.{enter_of, entries_of, more_entries, more_records, one_entry, one_fill, one_record, records_of, step_of}
use Rattle.text_laws.specs.Words.{at_gap, is_word, rest}
use Rattle.text_laws.proofs.Digits.{none_passes}
use Rattle.text_laws.proofs.Words.{comment_is_skipped, digits_free, value_comes_back}
use Rattle.text_laws.proofs.Numbers.{decimal_comes_back, digit_gap}
use Rattle.text_laws.proofs.Parts.{joined_is, next_bytes, next_behind, first_bytes, first_behind, end_is, next_decimal_comes, keyed_comes}
use Rattle.text_laws.proofs.Entry.{entry_line_comes_back}
use Rattle.text_laws.proofs.Lines.{enter_comes}
use Rattle.text_laws.proofs.Data.{with_data, no_key_at_data, gap_at_data, data_comes}
use Rattle.text_laws.proofs.Several.{Each, Came, Went, Steps, each_shown, total, all_come}
use Rattle.text_laws.proofs.Tables.{line_word, numbered_is, one_longer, word_gap}

-- ---- entries

abbrev pub entry_room : Entry → ℕ
entry_room e = length (data_of e.sqe e.side)

-- an entry whose fields and bytes have their ranges, and of which nothing is given
abbrev pub EntryFits : Entry → Type 0
EntryFits e = IsEntry e.sqe × IsBytes e.side × (e.given ≡ None)

record EntryShown (most place : ℕ) (earlier : List Entry) (e : Entry) : Type 0 where
  few : length earlier < most
  small : place + length earlier < 2 ^ 64
  fits : EntryFits e

words_long : (look : Look) (e : Entry) → 0 < length (entry_words look e)
unfolding words_of
words_long look e = omega arith

entry_long : (look : Look) (place : ℕ) (e : Entry) → 0 < length (entry_line look place e)
unfolding entry_line
entry_long look place e = omega (arith, words_long look e, length-append (place_comment look (codes "  ") place) (entry_words look e))

entry_steps : (look : Look) → look.first ≡ None → (most place : ℕ)
    → Steps (more_entries most) (λ e x. entry_line look (place + length e) x) entry_room (EntryShown most place) (λ _. Unit {0})
unfolding one_entry
entry_steps look whole most place = record {
  goes = λ earlier e marks more room fits follows small.
      let r = entry_line_comes_back look (place + length earlier) e more (entry_room e + room) whole fits.small fits.fits.0 fits.fits.1 (omega arith) small in
      let left : entry_room e + room - entry_room e ≡ room = omega arith in
      let same : record { sqe = e.sqe; side = e.side; given = None } ≡ e = ap (λ g. record e { given = g }) (sym fits.fits.2) in
      record {
        marks = with_line marks (rest (entry_line look (place + length earlier) e ++ more) (entry_room e + room));
        is = rw (r.opcode) (rw (lt-leb most (length earlier) fits.few, r.entry, left, same) refl);
      };
  heads = λ earlier e more fits. tt;
  shows = λ earlier e. entry_long look (place + length earlier) e;
}

entries_shown : (most place : ℕ) (earlier es : List Entry) → length earlier + length es ≤ most → place + length earlier + length es < 2 ^ 64 → All EntryFits es
    → Each (EntryShown most place) earlier es
entries_shown most place earlier [] few small all = tt
entries_shown most place earlier (e ∷ es) few small all =
    let one = length-append earlier (e ∷ []) in
    let more = entries_shown most place (earlier ++ e ∷ []) es (omega (arith, few, one)) (omega (arith, small, one)) (All-tail EntryFits e es all) in
    (record { few = omega (arith, few); small = omega (arith, small); fits = All-head EntryFits e es all }, more)

-- the entries of an enter, where no entry follows
entries_come : (look : Look) → look.first ≡ None → (used : ℕ) (es : List Entry) (marks more : List ℕ) (room : ℕ)
    → total entry_room es + room < 2 ^ 64
    → length es ≤ 32768 → used + length es ≤ places_limit → All EntryFits es → opcode_of (line_word more) ≡ None
    → Came (entries_of used marks (rest (numbered (entry_line look) used es ++ more) (total entry_room es + room))) es (rest more room)
unfolding entries_of
entries_come look whole used es marks more room small few within all ends =
    let most : ℕ = min 32768 (places_limit - used) in
    let front : used + length {A = Entry} [] ≡ used = omega arith in
    let shown = entries_shown most used [] es (omega (arith, few, within)) (omega (arith, within)) all in
    let text : numbered (entry_line look) used es ≡ each_shown (λ e x. entry_line look (used + length e) x) [] es =
    ap (λ (n : ℕ). numbered (entry_line look) n es) (sym front)
    ∙ numbered_is (entry_line look) (λ e. used + length e) (λ earlier x. omega (arith, one_longer earlier x)) [] es in
    rw text (all_come (entry_steps look whole most used) es marks more room small shown tt (λ all noted. rw ends refl))

-- ---- records

abbrev pub record_room : Record → ℕ
record_room (Enter ring entries) = total entry_room entries
record_room (Fill ring buffer offset bytes) = length bytes

-- a record, behind so many steps
abbrev pub RecordFits : ℕ → Record → Type 0
RecordFits used (Enter ring entries) = (ring < 2 ^ 8) × (length entries ≤ 32768) × (used + length entries ≤ places_limit) × All EntryFits entries
RecordFits used (Fill ring buffer offset bytes) = (ring < 2 ^ 8) × (buffer < 2 ^ 16) × (offset < 2 ^ 32) × (used < places_limit) × IsBytes bytes

pub record RecordShown (earlier : List Record) (r : Record) : Type 0 where
  pub few : length earlier < places_limit
  pub fits : RecordFits (places_in earlier) r

-- no entry follows
abbrev pub NoEntry : List ℕ → Type 0
NoEntry text = opcode_of (line_word text) ≡ None

record RecordCame (read : Result (Record × List ℕ × Rest) Fault) (r : Record) (after : Rest) : Type 0 where
  marks : List ℕ
  is : read ≡ Ok (r, marks, after)

enter_text : (look : Look) (place ring : ℕ) (es : List Entry) (more : List ℕ)
    → record_lines look place (Enter ring es) ++ more ≡ codes "enter " ++ (decimal ring ++ (10 ∷ (numbered (entry_line look) place es ++ more)))
enter_text look place ring es more = joined_is (codes "enter ") (decimal ring ∷ codes "\n" ∷ numbered (entry_line look) place es ∷ []) more

enter_came : (look : Look) → look.first ≡ None → (used ring : ℕ) (es : List Entry) (marks more : List ℕ) (room : ℕ)
    → total entry_room es + room < 2 ^ 64 → RecordFits used (Enter ring es) → NoEntry more
    → RecordCame (enter_of used marks (rest (record_lines look used (Enter ring es) ++ more) (total entry_room es + room))) (Enter ring es) (rest more room)
unfolding enter_of
enter_came look whole used ring es marks more room small fits ends =
    let s = entries_come look whole used es marks more room small fits.1 fits.2 fits.3 ends in
    record {
      marks = s.marks;
      is = rw (enter_text look used ring es more, enter_comes ring (numbered (entry_line look) used es ++ more) (total entry_room es + room) fits.0, s.is) refl;
    }

-- the line of a fill, behind its place
abbrev fill_flat : Look → ℕ → ℕ → ℕ → List ℕ → List ℕ → List ℕ
fill_flat look ring buffer offset bytes more =
    codes "fill " ++ (decimal ring ++ (32 ∷ (codes "buffer" ++ codes "=" ++ decimal buffer) ++ (decimal_word (codes "at") offset ++ with_data look bytes more)))

fill_text : (look : Look) (place ring buffer offset : ℕ) (bytes more : List ℕ)
    → record_lines look place (Fill ring buffer offset bytes) ++ more ≡ place_comment look [] place ++ fill_flat look ring buffer offset bytes more
fill_text look place ring buffer offset bytes more =
    joined_is (place_comment look [] place) (fill_words ring buffer offset ∷ data_text look (codes " \\\n  ") bytes ∷ codes "\n" ∷ []) more
    ∙ ap (λ (t : List ℕ). place_comment look [] place ++ t)
    (joined_is (codes "fill ") (decimal ring ∷ field (codes "buffer") (decimal buffer) ∷ decimal_word (codes "at") offset ∷ [])
    (with_data look bytes more))

behind_comment : (look : Look) (place : ℕ) (text : List ℕ) → place < 2 ^ 64 → behind_lines (place_comment look [] place ++ text) ≡ behind_lines text
behind_comment look place text small = elim (cases_Bool look.places) [
  | inl shown ↦ rw shown (comment_is_skipped place text small)
  | inr hidden ↦ rw hidden refl
]

buffer_key : (n : ℕ) → n < 2 ^ 64 → is_word (codes "buffer" ++ codes "=" ++ decimal n) ≡ true
buffer_key n lt = rw (none_passes is_gap digit_gap (decimal n) (digits_free n lt)) refl

at_key : (n : ℕ) → n < 2 ^ 64 → is_word (codes "at" ++ codes "=" ++ decimal n) ≡ true
at_key n lt = rw (none_passes is_gap digit_gap (decimal n) (digits_free n lt)) refl

fill_buffer_comes : (look : Look) (place ring buffer offset : ℕ) (bytes more : List ℕ) (room : ℕ) → look.first ≡ None → place < 2 ^ 64 → ring < 2 ^ 8
    → buffer < 2 ^ 16
    → fill_buffer (rest (place_comment look [] place ++ fill_flat look ring buffer offset bytes more) room)
    ≡ Ok (ring, buffer, rest (decimal_word (codes "at") offset ++ (with_data look bytes more)) room)
unfolding fill_buffer
fill_buffer_comes look place ring buffer offset bytes more room whole small few low =
    let t2 : List ℕ = decimal_word (codes "at") offset ++ (with_data look bytes more) in
    let w : List ℕ = codes "buffer" ++ codes "=" ++ decimal buffer in
    let t1 : List ℕ = 32 ∷ w ++ t2 in
    let word_is = buffer_key buffer (omega (arith, low)) in
    let g2 : at_gap t2 ≡ true = word_gap (codes "at") offset _ (gap_at_data look bytes more whole) in
    rw (
      behind_comment look place (fill_flat look ring buffer offset bytes more) small,
      first_behind (codes "fill") (32 ∷ decimal ring ++ t1) refl refl,
      next_decimal_comes 8 ring t1 room (omega (arith, few)) (omega (arith, few)) refl,
      next_bytes w t2 word_is g2,
      value_comes_back (codes "buffer") (decimal buffer) _,
      decimal_comes_back 16 buffer _ (omega (arith, low)),
      next_behind w t2 word_is g2,
    ) refl

fill_comes : (look : Look) (place ring buffer offset : ℕ) (bytes more : List ℕ) (room : ℕ) → look.first ≡ None → place < 2 ^ 64 → length bytes + room < 2 ^ 64
    → ring < 2 ^ 8 → buffer < 2 ^ 16 → offset < 2 ^ 32 → IsBytes bytes
    → fill_of (rest (place_comment look [] place ++ fill_flat look ring buffer offset bytes more) (length bytes + room))
    ≡ Ok (Fill ring buffer offset bytes, rest more room)
unfolding fill_of
fill_comes look place ring buffer offset bytes more room whole place_small small few low within fits =
    let t : List ℕ = with_data look bytes more in
    let k = keyed_comes 32 (codes "at") offset t (length bytes + room) (omega (arith, within)) (at_key offset (omega (arith, within)))
    (gap_at_data look bytes more whole)
    (no_key_at_data look 97 (codes "t") bytes more whole refl refl) in
    rw (
      fill_buffer_comes look place ring buffer offset bytes more (length bytes + room) whole place_small few low,
      k.is,
      data_comes look bytes more room whole fits small,
      end_is more room,
      k.told,
    ) refl

fill_came : (look : Look) → look.first ≡ None → (used ring buffer offset : ℕ) (bytes marks more : List ℕ) (room : ℕ) → length bytes + room < 2 ^ 64
    → RecordFits used (Fill ring buffer offset bytes)
    → RecordCame (one_fill used marks (rest (record_lines look used (Fill ring buffer offset bytes) ++ more) (length bytes + room)))
    (Fill ring buffer offset bytes) (rest more room)
unfolding one_fill
fill_came look whole used ring buffer offset bytes marks more room small fits = record {
  marks = marks;
  is = rw (
    lt-leb places_limit used fits.3,
    fill_text look used ring buffer offset bytes more,
    fill_comes look used ring buffer offset bytes more room whole (omega (arith, fits.3)) small fits.0 fits.1 fits.2 fits.4,
  ) refl;
}

enter_word : (look : Look) (place ring : ℕ) (es : List Entry) (more : List ℕ) → line_word (record_lines look place (Enter ring es) ++ more) ≡ codes "enter"
enter_word look place ring es more = ap line_word (enter_text look place ring es more) ∙ first_bytes (codes "enter") _ refl refl

fill_word : (look : Look) (place ring buffer offset : ℕ) (bytes more : List ℕ) → place < 2 ^ 64
    → line_word (record_lines look place (Fill ring buffer offset bytes) ++ more) ≡ codes "fill"
fill_word look place ring buffer offset bytes more small =
    ap line_word (fill_text look place ring buffer offset bytes more)
    ∙ ap word_at (behind_comment look place (fill_flat look ring buffer offset bytes more) small) ∙ first_bytes (codes "fill") _ refl refl

-- what the words of both kinds have, the word of a record has
pub record_word : (P : List ℕ → Type 0) → P (codes "enter") → P (codes "fill") → (look : Look) (place : ℕ) (r : Record) (more : List ℕ) → place < 2 ^ 64
    → P (line_word (record_lines look place r ++ more))
record_word P enter fill look place (Enter ring es) more small = subst P (sym (enter_word look place ring es more)) enter
record_word P enter fill look place (Fill ring buffer offset bytes) more small = subst P (sym (fill_word look place ring buffer offset bytes more small)) fill

no_opcode : (opcode_of (codes "enter") ≡ None) × (opcode_of (codes "fill") ≡ None)
unfolding opcode_of numbered_opcode opcode_names
no_opcode = (refl, refl)

record_long : (look : Look) (place : ℕ) (r : Record) → 0 < length (record_lines look place r)
record_long look place (Enter ring es) = omega arith
record_long look place (Fill ring buffer offset bytes) =
    omega (arith, length-append (place_comment look [] place ++ fill_words ring buffer offset ++ data_text look (codes " \\\n  ") bytes) (10 ∷ []))

record_goes : (look : Look) → look.first ≡ None → (earlier : List Record) (r : Record) (marks more : List ℕ) (room : ℕ)
    → RecordShown earlier r → NoEntry more → record_room r + room < 2 ^ 64
    → Went (more_records (earlier, marks, rest (record_lines look (places_in earlier) r ++ more) (record_room r + room))) (earlier ++ r ∷ []) (rest more room)
unfolding one_record
record_goes look whole earlier (Enter ring es) marks more room shown ends small =
    let text : List ℕ = record_lines look (places_in earlier) (Enter ring es) ++ more in
    let one = enter_came look whole (places_in earlier) ring es
    (with_line marks (rest text (total entry_room es + room))) more room small shown.fits ends in
    record {
      marks = one.marks;
      is = rw (enter_word look (places_in earlier) ring es more) (rw (lt-leb places_limit (length earlier) shown.few, one.is) refl);
    }
record_goes look whole earlier (Fill ring buffer offset bytes) marks more room shown ends small =
    let text : List ℕ = record_lines look (places_in earlier) (Fill ring buffer offset bytes) ++ more in
    let one = fill_came look whole (places_in earlier) ring buffer offset bytes
    (with_line marks (rest text (length bytes + room))) more room small shown.fits in
    let place : places_in earlier < 2 ^ 64 = omega (arith, shown.fits.3) in
    record {
      marks = one.marks;
      is = rw (fill_word look (places_in earlier) ring buffer offset bytes more place) (rw (lt-leb places_limit (length earlier) shown.few, one.is) refl);
    }

-- the places before a record are within the limit
few_places : (earlier : List Record) (r : Record) → RecordShown earlier r → places_in earlier < 2 ^ 64
few_places earlier (Enter ring es) shown = omega (arith, shown.fits.2)
few_places earlier (Fill ring buffer offset bytes) shown = omega (arith, shown.fits.3)

record_steps : (look : Look) → look.first ≡ None
    → Steps more_records (λ e r. record_lines look (places_in e) r) record_room RecordShown NoEntry
record_steps look whole = record {
  goes = λ earlier r marks more room shown follows small. record_goes look whole earlier r marks more room shown follows small;
  heads = λ earlier r more shown. record_word (λ w. opcode_of w ≡ None) no_opcode.0 no_opcode.1 look (places_in earlier) r more (few_places earlier r shown);
  shows = λ earlier r. record_long look (places_in earlier) r;
}

pushed : (earlier : List Record) (r : Record) → places_in earlier + step_count r ≡ places_in (earlier ++ r ∷ [])
pushed earlier r =
    let one : places_in (r ∷ []) ≡ step_count r + 0 = refl in
    omega (arith, places_in-push earlier r, one)

records_are : (look : Look) (earlier rs : List Record)
    → records_from look (places_in earlier) rs ≡ each_shown (λ e r. record_lines look (places_in e) r) earlier rs
records_are look earlier [] = refl
records_are look earlier (r ∷ rs) =
    ap (λ (n : ℕ). record_lines look (places_in earlier) r ++ records_from look n rs) (pushed earlier r)
    ∙ ap (λ (t : List ℕ). record_lines look (places_in earlier) r ++ t) (records_are look (earlier ++ r ∷ []) rs)

pub records_come : (look : Look) → look.first ≡ None → (rs : List Record) (marks more : List ℕ) (room : ℕ)
    → total record_room rs + room < 2 ^ 64 → Each RecordShown [] rs → NoEntry more
    → step_of (line_word more) ≡ None → Came (records_of marks (rest (records_from look 0 rs ++ more) (total record_room rs + room))) rs (rest more room)
unfolding records_of
records_come look whole rs marks more room small shown follows ends =
    rw (records_are look [] rs) (all_come (record_steps look whole) rs marks more room small shown follows (λ all noted. rw ends refl))

-- what the first words of records have, and that of what follows
records_word_from : (P : List ℕ → Type 0) → P (codes "enter") → P (codes "fill") → (look : Look) (earlier rs : List Record) (more : List ℕ)
    → Each RecordShown earlier rs → P (line_word more)
    → P (line_word (each_shown (λ e r. record_lines look (places_in e) r) earlier rs ++ more))
records_word_from P enter fill look earlier [] more shown h = h
records_word_from P enter fill look earlier (r ∷ rs) more shown h =
    let t : List ℕ = each_shown (λ e x. record_lines look (places_in e) x) (earlier ++ r ∷ []) rs in
    subst (λ (x : List ℕ). P (line_word x)) (sym (append_assoc (record_lines look (places_in earlier) r) t more))
    (record_word P enter fill look (places_in earlier) r (t ++ more) (few_places earlier r shown.0))

pub records_word : (P : List ℕ → Type 0) → P (codes "enter") → P (codes "fill") → (look : Look) (rs : List Record) (more : List ℕ) → Each RecordShown [] rs
    → P (line_word more) → P (line_word (records_from look 0 rs ++ more))
records_word P enter fill look rs more shown h =
    subst (λ (t : List ℕ). P (line_word (t ++ more))) (sym (records_are look [] rs)) (records_word_from P enter fill look [] rs more shown h)
