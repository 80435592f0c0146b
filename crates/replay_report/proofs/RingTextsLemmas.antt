-- The texts of rings grow by the line of each place.
use Rattle.std.proofs.Common.{◌≡◌, ℕ, zero, suc, add-one, append_assoc, ◌+◌, ◌<◌, List, [], ◌∷◌, ◌++◌, length, map, take, get_or, Option, Some, inl, inr, if◌then◌else◌, ◌==◌, false, refl, sym, ap, ◌∙◌, arith}
use Rattle.std.specs.List.{concat, flat_map, insert, range_with_len, slice_get}
use Rattle.std.specs.Prelude.{codes}
use Rattle.std.proofs.Math.ListN.{set, length-set}
use Rattle.std.proofs.lemmas.Bool.{cases_Bool, cases_eq, eq-eqb, false≢true, ne_eqb}
use Rattle.std.proofs.lemmas.List.{append-nil, get_or-set_same, get_or-set_other, take_more}
use Rattle.std.proofs.lemmas.List.Concat.{concat_is}
use Rattle.std.proofs.lemmas.List.Folds.{concat-append, flat_map-map}
use Rattle.std.proofs.lemmas.List.FromFn.{fill_by_all, length-map-range_with_len, get_or-map-range_with_len, map-range_with_len_more}
use Rattle.sqe_codec.specs.Answers.{each}
use Rattle.recording.specs.declared.recording.Recording.{Recording}
use Rattle.recording.specs.declared.recording.Ring.{Ring}
use Rattle.recording.specs.Steps.{Action, Step, fill, register, set as set_file, seek, places, step_at, submit}
use Rattle.op_meaning.specs.declared.reply.Reply.{Reply}
use Rattle.world_parts.specs.World.{World}
use Rattle.replay_report.specs.declared.showing.Lines.{Lines}
use Rattle.replay_report.specs.declared.showing.Shown.{Shown}
use Rattle.replay_report.specs.Report.{action_line, entry_head, entry_outcome, given_fact, heading, line, lines_of, list_count, list_lines, list_of, names_text, report_of, step_line, title, world_lines}
use Rattle.replay_report.specs.RingTexts.{line_in, text_below, texts_below, submits, with_line, IsShown}
use Rattle.replay_report.proofs.ReportLemmas.{entry_outcome_shown, range_grown}

-- before the first place
pub texts_none : (t : Recording) (reply : ℕ → Option Reply) (lines : Lines) (rings : ℕ) → map (heading lines) (range_with_len 0 rings) ≡ map (text_below t reply lines 0) (range_with_len 0 rings)
texts_none t reply lines rings =
    fill_by_all (text_below t reply lines 0) (map (heading lines) (range_with_len 0 rings)) rings [] (length-map-range_with_len (heading lines) 0 rings)
    (λ k lt. get_or-map-range_with_len (heading lines) 0 rings k k [] lt (omega arith) ∙ sym (append-nil (heading lines k)))

-- a place more in the text of a ring
text_grown : (t : Recording) (reply : ℕ → Option Reply) (lines : Lines) (n ring : ℕ) (step : Step) (r : Reply) → step_at t n ≡ Some step → reply n ≡ Some r
    → text_below t reply lines n ring ++ step_line lines ring n step r ≡ text_below t reply lines (n + 1) ring
text_grown t reply lines n ring step r stands answers =
    range_grown (heading lines ring) (text_below t reply lines n ring) (text_below t reply lines n ring ++ step_line lines ring n step r) (line_in t reply lines ring) n refl
    (rw (stands, answers) refl)

-- only an entry has a line
fill_silent : (lines : Lines) (place ring : ℕ) (action : Action) (r : Reply) → submits action ≡ false → action_line lines place ring action r ≡ []
fill_silent lines place ring (submit entry) r none = absurd (false≢true (sym none))
fill_silent lines place ring (fill buffer offset bytes) r none = refl
fill_silent lines place ring (register slots) r none = refl
fill_silent lines place ring (set_file file content) r none = refl
fill_silent lines place ring (seek file position) r none = refl

no_line : (lines : Lines) (list place : ℕ) (step : Step) (r : Reply) → submits step.action ≡ false → step_line lines list place step r ≡ []
no_line lines list place step r none = elim (cases_Bool (list_of lines step == list)) [
  | inl here ↦ rw here (fill_silent lines place step.ring step.action r none)
  | inr other ↦ rw other refl
]

-- a step that submits nothing
fill_walked : (t : Recording) (reply : ℕ → Option Reply) (lines : Lines) (n rings : ℕ) (step : Step) (r : Reply) → step_at t n ≡ Some step → reply n ≡ Some r → submits step.action ≡ false
    → map (text_below t reply lines n) (range_with_len 0 rings) ≡ map (text_below t reply lines (n + 1)) (range_with_len 0 rings)
fill_walked t reply lines n rings step r stands answers none =
    fill_by_all (text_below t reply lines (n + 1)) (map (text_below t reply lines n) (range_with_len 0 rings)) rings [] (length-map-range_with_len (text_below t reply lines n) 0 rings)
    (λ k lt. get_or-map-range_with_len (text_below t reply lines n) 0 rings k k [] lt (omega arith)
    ∙ sym (append-nil (text_below t reply lines n k)) ∙ ap (λ text. text_below t reply lines n k ++ text) (sym (no_line lines k n step r none))
    ∙ text_grown t reply lines n k step r stands answers)

-- one that submits an entry
entry_walked : (t : Recording) (reply : ℕ → Option Reply) (lines : Lines) (n rings : ℕ) (step : Step) (r : Reply) (texts : List (List ℕ)) → step_at t n ≡ Some step → reply n ≡ Some r
    → texts ≡ map (text_below t reply lines n) (range_with_len 0 rings)
    → set texts (list_of lines step) (get_or texts (list_of lines step) [] ++ action_line lines n step.ring step.action r) ≡ map (text_below t reply lines (n + 1)) (range_with_len 0 rings)
entry_walked t reply lines n rings step r texts stands answers so_far =
    let below = text_below t reply lines n in
    let long : length texts ≡ rings = ap length so_far ∙ length-map-range_with_len below 0 rings in
    let grown = get_or texts (list_of lines step) [] ++ action_line lines n step.ring step.action r in
    let read : (k : ℕ) → k < rings → get_or texts k [] ≡ below k =
    λ k lt. ap (λ xs. get_or xs k []) so_far ∙ get_or-map-range_with_len below 0 rings k k [] lt (omega arith) in
    fill_by_all (text_below t reply lines (n + 1)) (set texts (list_of lines step) grown) rings [] (length-set texts (list_of lines step) grown ∙ long) (λ k lt. elim (cases_eq k (list_of lines step)) [
      | inl here ↦
          ap (λ i. get_or (set texts (list_of lines step) grown) i []) here ∙ get_or-set_same texts (list_of lines step) grown [] (omega (arith, here, long))
          ∙ ap (λ text. text ++ action_line lines n step.ring step.action r) (ap (λ i. get_or texts i []) (sym here) ∙ read k lt)
          ∙ ap (λ text. below k ++ text) (sym (rw (eq-eqb (list_of lines step) k (sym here)) refl))
          ∙ text_grown t reply lines n k step r stands answers
      | inr other ↦
          get_or-set_other texts (list_of lines step) k grown [] other ∙ read k lt
          ∙ sym (append-nil (below k)) ∙ ap (λ text. below k ++ text) (sym (rw (ne_eqb (list_of lines step) k (λ e. other (sym e))) refl))
          ∙ text_grown t reply lines n k step r stands answers
    ])

-- The texts once a place more has run.
pub texts_walked : (t : Recording) (reply : ℕ → Option Reply) (lines : Lines) (n rings : ℕ) (step : Step) (r : Reply) (texts : List (List ℕ)) → step_at t n ≡ Some step → reply n ≡ Some r
    → texts ≡ map (text_below t reply lines n) (range_with_len 0 rings)
    → with_line lines n step r texts ≡ map (text_below t reply lines (n + 1)) (range_with_len 0 rings)
texts_walked t reply lines n rings step r texts stands answers so_far = elim (cases_Bool (submits step.action)) [
  | inl entry ↦ rw entry (entry_walked t reply lines n rings step r texts stands answers so_far)
  | inr none ↦ rw none (so_far ∙ fill_walked t reply lines n rings step r stands answers none)
]

-- What is shown of a reply makes the line of the reply.
pub line_shown : (lines : Lines) (place ring : ℕ) (action : Action) (answer reply : Reply) → IsShown answer reply → action_line lines place ring action answer ≡ action_line lines place ring action reply
line_shown lines place ring (submit entry) answer reply shown =
    rw (shown.res) (ap (λ text. line (entry_head lines.in_order place ring entry.sqe.user_data reply.res ++ text ++ names_text lines.names entry.sqe.opcode reply.res ++ given_fact entry.given))
    (ap (λ posted. entry_outcome posted answer.bytes) shown.posted ∙ entry_outcome_shown reply.posted answer.bytes reply.bytes shown.bytes))
line_shown lines place ring (fill buffer offset bytes) answer reply shown = refl
line_shown lines place ring (register slots) answer reply shown = refl
line_shown lines place ring (set_file file content) answer reply shown = refl
line_shown lines place ring (seek file position) answer reply shown = refl

-- So the texts grow by the line of a place where they grow by what is shown of its reply.
pub answer_walked : (t : Recording) (reply : ℕ → Option Reply) (lines : Lines) (n rings : ℕ) (step : Step) (answer r : Reply) (texts : List (List ℕ)) → step_at t n ≡ Some step → reply n ≡ Some r
    → IsShown answer r → texts ≡ map (text_below t reply lines n) (range_with_len 0 rings)
    → with_line lines n step answer texts ≡ map (text_below t reply lines (n + 1)) (range_with_len 0 rings)
answer_walked t reply lines n rings step answer r texts stands answers shown so_far =
    ap (λ line. if submits step.action then set texts (list_of lines step) (get_or texts (list_of lines step) [] ++ line) else texts) (line_shown lines n step.ring step.action answer r shown)
    ∙ texts_walked t reply lines n rings step r texts stands answers so_far

-- The texts of all lists, once all places have run, are the lines of the lists.
pub lists_joined : (t : Recording) (replies : List Reply) (lines : Lines)
    → concat (texts_below t (slice_get replies) lines (places t)) ≡ flat_map (list_lines t replies lines) (range_with_len 0 (list_count lines t))
lists_joined t replies lines =
    concat_is (texts_below t (slice_get replies) lines (places t))
    ∙ flat_map-map (λ text. text) (text_below t (slice_get replies) lines (places t)) (range_with_len 0 (list_count lines t))

-- Texts by what places reply are the same where the places so far reply the same.
text_alike : (t : Recording) (f g : ℕ → Option Reply) (lines : Lines) (ring n : ℕ) → ((k : ℕ) → k < n → f k ≡ g k) → text_below t f lines n ring ≡ text_below t g lines n ring
text_alike t f g lines ring zero same = refl
text_alike t f g lines ring (suc n) same =
    let head = heading lines ring in
    let before = text_alike t f g lines ring n (λ k lt. same k (omega (arith, lt))) in
    let last : line_in t f lines ring n ≡ line_in t g lines ring n = ap (λ r. each (λ step. each (step_line lines ring n step) r) (step_at t n)) (same n (omega arith)) in
    rw add-one at (
    sym (range_grown head (text_below t f lines n ring) _ (line_in t f lines ring) n refl refl)
    ∙ ap (λ text. text ++ line_in t f lines ring n) before ∙ ap (λ line. text_below t g lines n ring ++ line) last
    ∙ range_grown head (text_below t g lines n ring) _ (line_in t g lines ring) n refl refl)

pub texts_alike : (t : Recording) (f g : ℕ → Option Reply) (lines : Lines) (n rings : ℕ) → ((k : ℕ) → k < n → f k ≡ g k)
    → map (text_below t f lines n) (range_with_len 0 rings) ≡ map (text_below t g lines n) (range_with_len 0 rings)
texts_alike t f g lines n rings same =
    fill_by_all (text_below t g lines n) (map (text_below t f lines n) (range_with_len 0 rings)) rings [] (length-map-range_with_len (text_below t f lines n) 0 rings)
    (λ k lt. get_or-map-range_with_len (text_below t f lines n) 0 rings k k [] lt (omega arith) ∙ text_alike t f g lines k n same)

-- One heading more.
pub heading_more : (lines : Lines) (n : ℕ) (texts more : List (List ℕ)) → texts ≡ map (heading lines) (range_with_len 0 n) → more ≡ texts ++ heading lines n ∷ [] → more ≡ map (heading lines) (range_with_len 0 (n + 1))
heading_more lines n texts more so_far e = e ∙ ap (λ xs. xs ++ heading lines n ∷ []) so_far ∙ sym (map-range_with_len_more (heading lines) 0 n n (omega arith))

-- A text ahead of others, and one behind them.
pub texts_between : (head world : List ℕ) (texts ahead all : List (List ℕ)) → ahead ≡ insert texts 0 head → all ≡ ahead ++ world ∷ [] → concat all ≡ head ++ concat texts ++ world
texts_between head world texts ahead all e f =
    ap concat (f ∙ ap (λ xs. xs ++ world ∷ []) e) ∙ concat-append (head ∷ texts) (world ∷ []) ∙ ap (λ text. concat (head ∷ texts) ++ text) (append-nil world)

-- A text with a piece more.
pub piece_joined : (pieces : List (List ℕ)) (i : ℕ) (piece text more : List ℕ) → i < length pieces → piece ≡ get_or pieces i piece → text ≡ concat (take i pieces) → more ≡ text ++ piece → more ≡ concat (take (i + 1) pieces)
piece_joined pieces i piece text more lt is so_far e =
    e ∙ ap (λ xs. xs ++ piece) so_far ∙ ap (λ xs. concat (take i pieces) ++ xs) (sym (append-nil piece)) ∙ sym (concat-append (take i pieces) (piece ∷ []))
    ∙ ap (λ last. concat (take i pieces ++ last ∷ [])) is ∙ ap concat (sym (take_more pieces i piece lt))

-- The report of the texts of all lists.
pub report_whole : (t : Recording) (s : World) (replies : List Reply) (shown : Shown) (lines : Lines) (texts : List (List ℕ)) (text : List ℕ) → lines ≡ lines_of t shown.names
    → texts ≡ texts_below t (slice_get replies) lines (places t)
    → text ≡ title (lines_of t shown.names) ++ concat texts ++ world_lines t.rings s shown.sums ++ line (codes "end") → text ≡ report_of t s replies shown
report_whole t s replies shown lines texts text asked made e =
    e ∙ ap (λ lists. title (lines_of t shown.names) ++ lists ++ world_lines t.rings s shown.sums ++ line (codes "end"))
    (ap concat (made ∙ ap (λ l. texts_below t (slice_get replies) l (places t)) asked) ∙ lists_joined t replies (lines_of t shown.names))

-- It is whole with what is shown of the world.
pub world_shown : (t : Recording) (s : World) (shown : Shown) (lines : Lines) (rings : List Ring) (texts : List (List ℕ)) (world text : List ℕ) → lines ≡ lines_of t shown.names → rings ≡ t.rings
    → world ≡ world_lines rings s shown.sums ++ line (codes "end") → text ≡ title lines ++ concat texts ++ world
    → text ≡ title (lines_of t shown.names) ++ concat texts ++ world_lines t.rings s shown.sums ++ line (codes "end")
world_shown t s shown lines rings texts world text asked all shows e =
    let front = title (lines_of t shown.names) ++ concat texts in
    let end = line (codes "end") in
    e ∙ ap (λ l. title l ++ concat texts ++ world) asked ∙ ap (λ rest. front ++ rest) (shows ∙ ap (λ r. world_lines r s shown.sums ++ end) all)
    ∙ sym (append_assoc front (world_lines t.rings s shown.sums) end)
