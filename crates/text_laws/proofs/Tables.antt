-- Descriptions, slots, buffers and rings are read as they are shown.
use Rattle.std.proofs.Common.{◌≡◌, ℕ, ◌+◌, ◌<◌, ◌≤◌, ◌^◌, Bool, true, false, eqb, ltb, List, [], ◌∷◌, ◌++◌, length, Option, Result, Ok, inl, inr, refl, sym, ap, subst, ◌∙◌, append_assoc, arith}
use Rattle.std.proofs.lemmas.Bool.{cases_Bool, lt-leb}
use Rattle.std.proofs.lemmas.List.{length-append}
use Rattle.std.specs.Prelude.{codes}
use Rattle.std.specs.List.{list_all}
use Rattle.std.specs.Str.{bytes_eq}
use Rattle.std.specs.Fmt.{decimal}
use Rattle.text_words.specs.declared.fault.Fault.{Fault}
use Rattle.trace_format.specs.declared.trace.Access.{Access}
use Rattle.trace_format.specs.declared.trace.Access.TheVariants as access
use Rattle.trace_format.specs.declared.trace.Item.{Item}
use Rattle.trace_format.specs.declared.trace.Buffer.{Buffer}
use Rattle.trace_format.specs.declared.trace.Ring.{Ring}
use Rattle.trace_format.specs.declared.trace.Description.{Description}
use Rattle.text_words.specs.Read.{Rest}
use Rattle.text_words.specs.Words.{is_gap, behind_lines, word_at}
use Rattle.trace_text.specs.Fields.{decimal_word}
use Rattle.trace_text.specs.Shown.{access_text, buffer_line, description_line, node_text, numbered, ring_lines, slots_from, slots_line}
use Rattle.text_trace.specs.Lines.{description_of}
use Rattle.text_trace.specs.Parts.{buffers_of, descriptions_of, more_buffers, more_descriptions, more_rings, one_buffer, one_description, one_ring, ring_of, rings_of, slots_behind, with_line}
use Rattle.text_laws.specs.Words.{at_gap, is_word, rest}
use Rattle.text_laws.proofs.Digits.{none_passes}
use Rattle.text_laws.proofs.Words.{digits_free}
use Rattle.text_laws.proofs.Numbers.{digit_gap}
use Rattle.text_laws.proofs.Parts.{joined_is, first_bytes, first_behind, indent_is, end_is, next_number_comes, next_access_comes, keyed_comes, no_key_at_end}
use Rattle.text_laws.proofs.Lines.{buffer_text, buffer_comes, ring_line_comes}
use Rattle.text_laws.proofs.Slots.{slots_come, descriptors_come, slots_gap}
use Rattle.text_laws.proofs.Nodes.{Known, next_node_comes}
use Rattle.text_laws.proofs.Several.{Each, Came, Steps, each_shown, total, all_come}

-- the first word of the next line
abbrev pub line_word : List ℕ → List ℕ
line_word text = word_at (behind_lines text)

-- what the first words of several lines have, and that of what follows
pub first_of : {X : Type 0} (P : List ℕ → Type 0) (show : List X → X → List ℕ)
    → ((earlier : List X) (x : X) (more : List ℕ) → P (line_word (show earlier x ++ more)))
    → (earlier xs : List X) (more : List ℕ) → P (line_word more) → P (line_word (each_shown show earlier xs ++ more))
first_of P show heads earlier [] more h = h
first_of P show heads earlier (x ∷ xs) more h =
    subst (λ (t : List ℕ). P (line_word t)) (sym (append_assoc (show earlier x) (each_shown show (earlier ++ x ∷ []) xs) more))
    (heads earlier x (each_shown show (earlier ++ x ∷ []) xs ++ more))

-- values by their numbers
pub numbered_is : {X : Type 0} (f : ℕ → X → List ℕ) (index : List X → ℕ) → ((earlier : List X) (x : X) → index (earlier ++ x ∷ []) ≡ index earlier + 1)
    → (earlier xs : List X) → numbered f (index earlier) xs ≡ each_shown (λ e x. f (index e) x) earlier xs
numbered_is f index next earlier [] = refl
numbered_is f index next earlier (x ∷ xs) =
    ap (λ (n : ℕ). f (index earlier) x ++ numbered f n xs) (sym (next earlier x))
    ∙ ap (λ (t : List ℕ). f (index earlier) x ++ t) (numbered_is f index next (earlier ++ x ∷ []) xs)

pub one_longer : {X : Type 0} (earlier : List X) (x : X) → length (earlier ++ x ∷ []) ≡ length earlier + 1
one_longer earlier x = length-append earlier (x ∷ [])

-- values that take no room
pub no_room : {X : Type 0} → X → ℕ
no_room x = 0

pub no_total : {X : Type 0} (xs : List X) (room : ℕ) → total no_room xs + room ≡ room
unfolding no_room
no_total [] room = omega arith
no_total (x ∷ xs) room = omega (arith, no_total xs room)

-- ---- buffers

pub record BufferFits (earlier : List Buffer) (b : Buffer) : Type 0 where
  pub few : length earlier < 1024
  pub address : b.address < 2 ^ 64
  pub len : b.len < 2 ^ 32

buffer_word : (n : ℕ) (b : Buffer) (more : List ℕ) → line_word (buffer_line n b ++ more) ≡ codes "buffer"
buffer_word n b more = ap line_word (buffer_text n b more) ∙ ap word_at (indent_is _) ∙ first_bytes (codes "buffer") _ refl refl

one_buffer_is : (earlier : List Buffer) (b : Buffer) (marks more : List ℕ) (room : ℕ) → BufferFits earlier b
    → one_buffer (earlier, marks, rest (buffer_line (length earlier) b ++ more) room)
    ≡ Ok (earlier ++ b ∷ [], with_line marks (rest (buffer_line (length earlier) b ++ more) room), rest more room)
unfolding one_buffer
one_buffer_is earlier b marks more room fits =
    rw (lt-leb 1024 (length earlier) fits.few, buffer_comes (length earlier) b more room (omega (arith, fits.few)) fits.address fits.len) refl

buffer_steps : Steps more_buffers (λ e b. buffer_line (length e) b) no_room BufferFits (λ _. Unit {0})
unfolding no_room
buffer_steps = record {
  goes = λ earlier b marks more room fits follows small.
      let none : 0 + room ≡ room = omega arith in
      record {
        marks = with_line marks (rest (buffer_line (length earlier) b ++ more) room);
        is = rw none (rw (buffer_word (length earlier) b more) (rw (one_buffer_is earlier b marks more room fits) refl));
      };
  heads = λ earlier b more fits. tt;
  shows = λ earlier b. omega arith;
}

pub buffers_come : (bs : List Buffer) (marks more : List ℕ) (room : ℕ) → room < 2 ^ 64 → Each BufferFits [] bs
    → bytes_eq (line_word more) (codes "buffer") ≡ false
    → Came (buffers_of marks (rest (numbered buffer_line 0 bs ++ more) room)) bs (rest more room)
unfolding buffers_of
buffers_come bs marks more room small fits ends =
    let all = all_come buffer_steps bs marks more room (omega (arith, small, no_total bs room)) fits tt (λ all noted. rw ends refl) in
    rw (numbered_is buffer_line length one_longer [] bs) (rw (no_total bs room) at all)

-- ---- slots

-- the slots of a line, or no line
pub record SlotsCame (read : Result (List ℕ × List ℕ × Rest) Fault) (slots : List ℕ) (r : Rest) : Type 0 where
  pub marks : List ℕ
  pub is : read ≡ Ok (slots, marks, r)

abbrev pub SlotsFit : List ℕ → Type 0
SlotsFit slots = (list_all (λ s. ltb s (2 ^ 32)) slots ≡ true) × (length slots ≤ 1024)

slots_of_ring : (slots : List ℕ) (marks more : List ℕ) (room : ℕ) → SlotsFit slots → bytes_eq (line_word more) (codes "slots") ≡ false
    → SlotsCame (slots_behind (codes "slots") marks (rest (slots_line (codes "  slots") slots ++ more) room)) slots (rest more room)
unfolding slots_behind
slots_of_ring [] marks more room fit ends = record { marks = marks; is = rw ends refl }
slots_of_ring (s ∷ ss) marks more room fit ends =
    let text = joined_is (codes "  slots") (slots_from 0 (s ∷ ss) ∷ codes "\n" ∷ []) more in
    let first : line_word (codes "  slots" ++ (slots_from 0 (s ∷ ss) ++ (10 ∷ more))) ≡ codes "slots" =
    ap word_at (indent_is (codes "slots" ++ (slots_from 0 (s ∷ ss) ++ (10 ∷ more))))
    ∙ first_bytes (codes "slots") (slots_from 0 (s ∷ ss) ++ (10 ∷ more)) refl (slots_gap 0 (s ∷ ss) more) in
    record {
      marks = with_line marks (rest (codes "  slots" ++ (slots_from 0 (s ∷ ss) ++ (10 ∷ more))) room);
      is = rw text (rw first (rw (slots_come s ss more room fit.0 fit.1) refl));
    }

pub slots_of_table : (slots : List ℕ) (marks more : List ℕ) (room : ℕ) → SlotsFit slots → bytes_eq (line_word more) (codes "descriptors") ≡ false
    → SlotsCame (slots_behind (codes "descriptors") marks (rest (slots_line (codes "descriptors") slots ++ more) room)) slots (rest more room)
unfolding slots_behind
slots_of_table [] marks more room fit ends = record { marks = marks; is = rw ends refl }
slots_of_table (s ∷ ss) marks more room fit ends =
    let text = joined_is (codes "descriptors") (slots_from 0 (s ∷ ss) ∷ codes "\n" ∷ []) more in
    let first : line_word (codes "descriptors" ++ (slots_from 0 (s ∷ ss) ++ (10 ∷ more))) ≡ codes "descriptors" =
    first_bytes (codes "descriptors") (slots_from 0 (s ∷ ss) ++ (10 ∷ more)) refl (slots_gap 0 (s ∷ ss) more) in
    record {
      marks = with_line marks (rest (codes "descriptors" ++ (slots_from 0 (s ∷ ss) ++ (10 ∷ more))) room);
      is = rw text (rw first (rw (descriptors_come s ss more room fit.0 fit.1) refl));
    }

-- ---- rings

pub record RingFits (earlier : List Ring) (r : Ring) : Type 0 where
  pub few : length earlier < 64
  pub slots : SlotsFit r.slots
  pub buffers : Each BufferFits [] r.buffers

-- what follows a ring is neither slots nor a buffer
abbrev pub BehindRing : List ℕ → Type 0
BehindRing text = (bytes_eq (line_word text) (codes "slots") ≡ false) × (bytes_eq (line_word text) (codes "buffer") ≡ false)

abbrev ring_flat : ℕ → Ring → List ℕ → List ℕ
ring_flat n r more = codes "ring " ++ (decimal n ++ (10 ∷ (slots_line (codes "  slots") r.slots ++ (numbered buffer_line 0 r.buffers ++ more))))

ring_text : (n : ℕ) (r : Ring) (more : List ℕ) → ring_lines n r ++ more ≡ ring_flat n r more
ring_text n r more = joined_is (codes "ring ") (decimal n ∷ codes "\n" ∷ slots_line (codes "  slots") r.slots ∷ numbered buffer_line 0 r.buffers ∷ []) more

pub ring_word : (n : ℕ) (r : Ring) (more : List ℕ) → line_word (ring_lines n r ++ more) ≡ codes "ring"
ring_word n r more = ap line_word (ring_text n r more) ∙ first_bytes (codes "ring") _ refl refl

record RingCame (read : Result (Ring × List ℕ × Rest) Fault) (ring : Ring) (r : Rest) : Type 0 where
  marks : List ℕ
  is : read ≡ Ok (ring, marks, r)

ring_comes : (n : ℕ) (r : Ring) (marks more : List ℕ) (room : ℕ) → n < 64 → room < 2 ^ 64 → SlotsFit r.slots → Each BufferFits [] r.buffers → BehindRing more
    → RingCame (ring_of n marks (rest (ring_lines n r ++ more) room)) r (rest more room)
unfolding ring_of
ring_comes n r marks more room few small slots buffers ends =
    let t : List ℕ = numbered buffer_line 0 r.buffers ++ more in
    let no_slots : bytes_eq (line_word t) (codes "slots") ≡ false =
    subst (λ (s : List ℕ). bytes_eq (line_word (s ++ more)) (codes "slots") ≡ false) (sym (numbered_is buffer_line length one_longer [] r.buffers))
    (first_of (λ w. bytes_eq w (codes "slots") ≡ false) (λ e b. buffer_line (length e) b) (λ e b after. rw (buffer_word (length e) b after) refl)
    [] r.buffers more ends.0) in
    let s = slots_of_ring r.slots marks t room slots no_slots in
    let b = buffers_come r.buffers s.marks more room small buffers ends.1 in
    record {
      marks = b.marks;
      is = rw (ring_text n r more, ring_line_comes n (slots_line (codes "  slots") r.slots ++ t) room (omega (arith, few)), s.is, b.is) refl;
    }

ring_steps : Steps more_rings (λ e r. ring_lines (length e) r) no_room RingFits BehindRing
unfolding no_room one_ring
ring_steps = record {
  goes = λ earlier r marks more room fits follows small.
      let none : 0 + room ≡ room = omega arith in
      let one = ring_comes (length earlier) r (with_line marks (rest (ring_lines (length earlier) r ++ more) room)) more room fits.few
      (omega (arith, small)) fits.slots fits.buffers follows in
      record {
        marks = one.marks;
        is = rw none (rw (ring_word (length earlier) r more, lt-leb 64 (length earlier) fits.few, one.is) refl);
      };
  heads = λ earlier r more fits. (rw (ring_word (length earlier) r more) refl, rw (ring_word (length earlier) r more) refl);
  shows = λ earlier r. omega arith;
}

pub rings_come : (rs : List Ring) (marks more : List ℕ) (room : ℕ) → room < 2 ^ 64 → Each RingFits [] rs → BehindRing more
    → bytes_eq (line_word more) (codes "ring") ≡ false
    → Came (rings_of marks (rest (numbered ring_lines 0 rs ++ more) room)) rs (rest more room)
unfolding rings_of
rings_come rs marks more room small fits follows ends =
    let all = all_come ring_steps rs marks more room (omega (arith, small, no_total rs room)) fits follows (λ all noted. rw ends refl) in
    rw (numbered_is ring_lines length one_longer [] rs) (rw (no_total rs room) at all)

-- ---- descriptions

pub record DescriptionShown (names : List ℕ → Option ℕ) (items : List Item) (earlier : List Description) (d : Description) : Type 0 where
  pub few : length earlier < 65535
  pub number : d.node < 2 ^ 32
  pub node : Known names items d.node
  pub position : d.position < 2 ^ 64

abbrev description_flat : List Item → ℕ → Description → List ℕ → List ℕ
description_flat items n d more =
    let mode = access_text d.access d.append in
    codes "open " ++ (decimal n ++ (32 ∷ node_text items d.node ++ (mode ++ (decimal_word (codes "pos") d.position ++ (10 ∷ more)))))

description_text : (items : List Item) (n : ℕ) (d : Description) (more : List ℕ) → description_line items n d ++ more ≡ description_flat items n d more
description_text items n d more = joined_is (codes "open ")
    (decimal n ∷ codes " " ∷ node_text items d.node ∷ access_text d.access d.append ∷ decimal_word (codes "pos") d.position ∷ codes "\n" ∷ []) more

pub description_word : (items : List Item) (n : ℕ) (d : Description) (more : List ℕ) → line_word (description_line items n d ++ more) ≡ codes "open"
description_word items n d more = ap line_word (description_text items n d more) ∙ first_bytes (codes "open") _ refl refl

access_gap : (a : Access) (append : Bool) (more : List ℕ) → at_gap (access_text a append ++ more) ≡ true
access_gap access.Read false more = refl
access_gap access.Read true more = refl
access_gap access.Write false more = refl
access_gap access.Write true more = refl
access_gap access.Both false more = refl
access_gap access.Both true more = refl

pub word_gap : (key : List ℕ) (n : ℕ) (more : List ℕ) → at_gap more ≡ true → at_gap (decimal_word key n ++ more) ≡ true
word_gap key n more g = elim (cases_Bool (eqb n 0)) [
  | inl none ↦ rw none g
  | inr some ↦ rw some refl
]

position_word : (n : ℕ) → n < 2 ^ 64 → is_word (codes "pos" ++ codes "=" ++ decimal n) ≡ true
position_word n lt = rw (none_passes is_gap digit_gap (decimal n) (digits_free n lt)) refl

description_read : (names : List ℕ → Option ℕ) (items : List Item) (n : ℕ) (d : Description) (more : List ℕ) (room : ℕ) → n < 2 ^ 64 → d.node < 2 ^ 32
    → Known names items d.node → d.position < 2 ^ 64
    → description_of names n (rest (description_flat items n d more) room) ≡ Ok (d, rest more room)
unfolding description_of
description_read names items n d more room few number node position =
    let t3 : List ℕ = decimal_word (codes "pos") d.position ++ (10 ∷ more) in
    let t2 : List ℕ = access_text d.access d.append ++ t3 in
    let t1 : List ℕ = 32 ∷ node_text items d.node ++ t2 in
    let pos = keyed_comes 64 (codes "pos") d.position (10 ∷ more) room (omega (arith, position)) (position_word d.position position) refl
    (no_key_at_end 112 (111 ∷ 115 ∷ []) more) in
    rw (
      first_behind (codes "open") (32 ∷ decimal n ++ t1) refl refl,
      next_number_comes n t1 room few refl,
      next_node_comes names items d.node t2 room number node (access_gap d.access d.append t3),
      next_access_comes d.access d.append t3 room (word_gap (codes "pos") d.position (10 ∷ more) refl),
      pos.is,
      end_is more room,
      pos.told,
    ) refl

description_steps : (names : List ℕ → Option ℕ) (items : List Item)
    → Steps (more_descriptions names) (λ e d. description_line items (length e) d) no_room (DescriptionShown names items) (λ _. Unit {0})
unfolding no_room one_description
description_steps names items = record {
  goes = λ earlier d marks more room fits follows small.
      let none : 0 + room ≡ room = omega arith in
      record {
        marks = with_line marks (rest (description_flat items (length earlier) d more) room);
        is = rw (none, description_text items (length earlier) d more, first_bytes (codes "open") (32 ∷ decimal (length earlier) ++ _) refl refl) (
            rw (
              lt-leb 65535 (length earlier) fits.few,
              description_read names items (length earlier) d more room (omega (arith, fits.few)) fits.number fits.node fits.position,
            ) refl);
      };
  heads = λ earlier d more fits. tt;
  shows = λ earlier d. omega arith;
}

pub descriptions_come : (names : List ℕ → Option ℕ) (items : List Item) (ds : List Description) (marks more : List ℕ) (room : ℕ) → room < 2 ^ 64
    → Each (DescriptionShown names items) [] ds
    → bytes_eq (line_word more) (codes "open") ≡ false
    → Came (descriptions_of names marks (rest (numbered (description_line items) 0 ds ++ more) room)) ds (rest more room)
unfolding descriptions_of
descriptions_come names items ds marks more room small fits ends =
    let all = all_come (description_steps names items) ds marks more room (omega (arith, small, no_total ds room)) fits tt (λ all noted. rw ends refl) in
    rw (numbered_is (description_line items) length one_longer [] ds) (rw (no_total ds room) at all)

-- ---- first words

pub rings_word : (P : List ℕ → Type 0) → P (codes "ring") → (rs : List Ring) (more : List ℕ) → P (line_word more)
    → P (line_word (numbered ring_lines 0 rs ++ more))
rings_word P ring rs more h =
    subst (λ (t : List ℕ). P (line_word (t ++ more))) (sym (numbered_is ring_lines length one_longer [] rs))
    (first_of P (λ e r. ring_lines (length e) r) (λ e r after. subst P (sym (ring_word (length e) r after)) ring) [] rs more h)

pub descriptions_word : (P : List ℕ → Type 0) → P (codes "open") → (items : List Item) (ds : List Description) (more : List ℕ) → P (line_word more)
    → P (line_word (numbered (description_line items) 0 ds ++ more))
descriptions_word P open_is items ds more h =
    subst (λ (t : List ℕ). P (line_word (t ++ more))) (sym (numbered_is (description_line items) length one_longer [] ds))
    (first_of P (λ e d. description_line items (length e) d) (λ e d after. subst P (sym (description_word items (length e) d after)) open_is) [] ds more h)

pub table_word : (P : List ℕ → Type 0) → P (codes "descriptors") → (slots more : List ℕ) → P (line_word more)
    → P (line_word (slots_line (codes "descriptors") slots ++ more))
table_word P table [] more h = h
table_word P table (s ∷ ss) more h =
    let text = joined_is (codes "descriptors") (slots_from 0 (s ∷ ss) ∷ codes "\n" ∷ []) more in
    subst P (sym (ap line_word text ∙ first_bytes (codes "descriptors") (slots_from 0 (s ∷ ss) ++ (10 ∷ more)) refl (slots_gap 0 (s ∷ ss) more))) table
