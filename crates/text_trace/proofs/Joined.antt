-- The bytes of the lines of a trace, one line after another.
use Rattle.std.proofs.Common.{◌≡◌, ℕ, List, [], ◌∷◌, ◌++◌, length, map, refl, sym, ap, ap₂, ◌∙◌, append_assoc, append-nil}
use Rattle.std.specs.Int.{w16, to_le_bytes}
use Rattle.std.specs.List.{flat_map}
use Rattle.std.proofs.lemmas.Grind.{flat_map-append}
use Rattle.trace_format.specs.declared.trace.Record.{Record}
use Rattle.trace_format.specs.declared.trace.Record.TheVariants.{Enter, Fill}
use Rattle.trace_format.specs.declared.trace.Ring.{Ring}
use Rattle.trace_format.specs.Spelling.{buffer_bytes, description_bytes, entry_text, header_bytes, item_bytes, record_bytes, ring_bytes, slot_bytes}
use Rattle.text_trace.specs.Made.{LinesMakeTrace, record_lines, ring_lines, slots_lines, table_lines}

abbrev joined : List (List ℕ) → List ℕ
joined lines = flat_map (λ bytes. bytes) lines

joins : (a b : List (List ℕ)) → joined (a ++ b) ≡ joined a ++ joined b
joins a b = flat_map-append (λ bytes. bytes) a b

-- things with a line each
each_one : {X : Type 0} (f : X → List ℕ) (xs : List X) → joined (map f xs) ≡ flat_map f xs
each_one f [] = refl
each_one f (x ∷ xs) = ap (λ l. f x ++ l) (each_one f xs)

-- things with some lines each
each_some : {X : Type 0} (lines : X → List (List ℕ)) (f : X → List ℕ) → ((x : X) → joined (lines x) ≡ f x) → (xs : List X)
    → joined (flat_map lines xs) ≡ flat_map f xs
each_some lines f one [] = refl
each_some lines f one (x ∷ xs) = joins (lines x) (flat_map lines xs) ∙ ap₂ (λ a b. a ++ b) (one x) (each_some lines f one xs)

table : (slots : List ℕ) → joined (table_lines slots) ≡ flat_map slot_bytes slots
table [] = refl
table (n ∷ slots) = append-nil (flat_map slot_bytes (n ∷ slots))

slots_join : (slots more : List ℕ) → joined (slots_lines slots more) ≡ to_le_bytes w16 (length slots) ++ flat_map slot_bytes slots ++ more
slots_join [] more = append-nil (to_le_bytes w16 0 ++ more)
slots_join (n ∷ slots) more = ap (λ l. to_le_bytes w16 (length (n ∷ slots)) ++ l) (append-nil (flat_map slot_bytes (n ∷ slots) ++ more))

ring_joins : (r : Ring) → joined (ring_lines r) ≡ ring_bytes r
ring_joins r =
    joins (slots_lines r.slots (to_le_bytes w16 (length r.buffers))) (map buffer_bytes r.buffers)
    ∙ ap₂ (λ a b. a ++ b) (slots_join r.slots (to_le_bytes w16 (length r.buffers))) (each_one buffer_bytes r.buffers)

record_joins : (r : Record) → joined (record_lines r) ≡ record_bytes r
record_joins (Enter ring entries) = ap (λ l. 1 ∷ ring ∷ to_le_bytes w16 (length entries) ++ l) (each_one entry_text entries)
record_joins (Fill ring buffer offset bytes) = append-nil (record_bytes (Fill ring buffer offset bytes))

five : (a b c d e : List (List ℕ)) → joined (a ++ b ++ c ++ d ++ e) ≡ joined a ++ joined b ++ joined c ++ joined d ++ joined e
five a b c d e =
    joins (a ++ b ++ c ++ d) e
    ∙ ap (λ l. l ++ joined e) (joins (a ++ b ++ c) d ∙ ap (λ l. l ++ joined d) (joins (a ++ b) c ∙ ap (λ l. l ++ joined c) (joins a b)))

behind : (h a b c d e : List ℕ) → h ++ (a ++ b ++ c ++ d ++ e) ≡ h ++ a ++ b ++ c ++ d ++ e
behind h a b c d e =
    sym (append_assoc h (a ++ b ++ c ++ d) e)
    ∙ ap (λ l. l ++ e) (sym (append_assoc h (a ++ b ++ c) d) ∙ ap (λ l. l ++ d) (sym (append_assoc h (a ++ b) c) ∙ ap (λ l. l ++ c) (sym (append_assoc h a b))))

parts : (h a b c d e f g i j k : List ℕ) → a ≡ f → b ≡ g → c ≡ i → d ≡ j → e ≡ k → h ++ a ++ b ++ c ++ d ++ e ≡ h ++ f ++ g ++ i ++ j ++ k
parts h a b c d e f g i j k p q r s u = rw (p, q, r, s, u) refl

pub lines_make_trace : LinesMakeTrace
lines_make_trace t =
    let a = map item_bytes t.items in
    let b = map description_bytes t.descriptions in
    let c = table_lines t.descriptors in
    let d = flat_map ring_lines t.rings in
    let e = flat_map record_lines t.records in
    ap (λ l. header_bytes t ++ l) (five a b c d e)
    ∙ behind (header_bytes t) (joined a) (joined b) (joined c) (joined d) (joined e)
    ∙ parts (header_bytes t) (joined a) (joined b) (joined c) (joined d) (joined e) _ _ _ _ _ (each_one item_bytes t.items)
    (each_one description_bytes t.descriptions) (table t.descriptors) (each_some ring_lines ring_bytes ring_joins t.rings)
    (each_some record_lines record_bytes record_joins t.records)
