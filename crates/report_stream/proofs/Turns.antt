-- What holds while a report is written, from record to record, and what that tells where it ends.
use Rattle.std.proofs.Common.{◌≡◌, ◌≢◌, ◌∙◌, ◌++◌, ◌∷◌, [], ℕ, Bool, true, false, not, List, Option, None, Some, Result, Ok, Err, IfErr, IfOk, IsErrAnd, OnOk, sym, ap, subst, inl, inr, refl, append_assoc}
use Rattle.std.specs.Io.KnownBytes.{Appends}
use Rattle.std.proofs.KnownBytes.{Appends-nil, Appends-trans, Consumes-nil, Consumes-trans, Keeps-refl}
use Rattle.std.proofs.lemmas.List.{append-nil}
use Rattle.byte_transfer.specs.Transfer.{AppendsSome, Takes}
use Rattle.byte_transfer.proofs.Beginnings.{some_behind, some_more, some_of_all, some_of_none, some_of_part}
use Rattle.json_lines.specs.Forms.{IsWhole, written_as}
use Rattle.json_lines.specs.declared.form.Form.{Form}
use Rattle.json_lines.proofs.Whole.{both_whole, empty_whole, rest_whole, written_behind, written_empty}
use Rattle.trace_format.specs.Grammar.{fault}
use Rattle.trace_format.specs.declared.fault.Kind.TheVariants as kind
use Rattle.trace_format.specs.declared.fault.TraceFault.{TraceFault}
use Rattle.trace_records.specs.declared.record.Record.{Record}
use Rattle.trace_records.specs.declared.start.Start.{Start}
use Rattle.trace_stream.specs.Streams.{Gives, GivesFault, HasFaultBehind, Opens, Stands, TellsOfStart, trace_of}
use Rattle.trace_stream.specs.declared.fault.StreamFault.{StreamFault}
use Rattle.trace_stream.specs.declared.fault.StreamFault.TheVariants as stream
use Rattle.trace_stream.specs.declared.stream.Stream.{Stream}
use Rattle.trace_stream.proofs.Going.{Going, ended, one_more}
use Rattle.recording.specs.Fronts.{IsSpelledFront}
use Rattle.recording.specs.Steps.{places}
use Rattle.replay_stream.specs.Replayed.{HasRun, HasRunNext, MayRun}
use Rattle.replay_stream.specs.declared.replaying.Replaying.{Replaying}
use Rattle.replay_report.specs.declared.showing.Shown.{Shown}
use Rattle.replay_report.specs.InOrder.{entry_lines, last_lines}
use Rattle.replay_report.specs.Report.{title}
use Rattle.op_meaning.specs.Step.{sequential_reply}
use Rattle.stream_laws.specs.Streamed.{place_behind, recording_of}
use Rattle.report_stream.proofs.WholeLines.{text_whole}
use Rattle.report_stream.proofs.WholeReport.{whole_report}
use Rattle.report_stream.specs.Steps.{AddsLines, AtCut, AtEnd, EndsEarly, GoesTo, IsNotShort, IsNotWritten, IsToldAs, Moves, RanLast, StopsAt, StopsWith, UnderWay}
use Rattle.report_stream.specs.Written.{HasFront, IsFrontText, IsTextTo, Writes, WritesBefore, WritesCut, WritesReport, WritesSome, WritesUpTo, lines_in, report}
use Rattle.report_stream.specs.declared.fault.ReportFault.{ReportFault}
use Rattle.report_stream.specs.declared.fault.ReportFault.TheVariants.{Trace, Memory, Read, Write}
use Rattle.report_stream.specs.declared.turn.Turn.{Turn}
use Rattle.report_stream.specs.declared.turn.Turn.TheVariants.{Next, Last, Cut}

-- ---- bytes that went out

part_of : (a b : Option (List ℕ)) (text : List ℕ) (f : ReportFault) → IsNotWritten a b text f → AppendsSome a b text
part_of a b text Write part = some_of_part a b text part
part_of a b text Memory keeps = subst (λ (x : Option (List ℕ)). AppendsSome a x text) (sym keeps) (some_of_none a text)
part_of a b text Read part = absurd part
part_of a b text (Trace f) part = absurd part

-- ---- the same in a form

module _ (form : Form) where
  -- nothing is written of no text
  pub nothing_out : (a : Option (List ℕ)) → Appends a a (written_as form [])
  nothing_out a = subst (Appends a a) (sym (written_empty form)) (Appends-nil a)

  -- more is written behind whole lines
  out_behind : (a b c : Option (List ℕ)) (out text : List ℕ) → IsWhole out → Appends a b (written_as form out) → Appends b c (written_as form text) → Appends a c (written_as form (out ++ text))
  out_behind a b c out text whole wrote behind =
      subst (Appends a c) (sym (written_behind form out text whole)) (Appends-trans a b c (written_as form out) (written_as form text) wrote behind)

  part_behind : (a b c : Option (List ℕ)) (out text : List ℕ) → IsWhole out → Appends a b (written_as form out) → AppendsSome b c (written_as form text) → AppendsSome a c (written_as form (out ++ text))
  part_behind a b c out text whole wrote first =
      subst (AppendsSome a c) (sym (written_behind form out text whole)) (some_behind a b c (written_as form out) (written_as form text) wrote first)

  -- whole lines are a beginning of themselves and what follows
  part_front : (a b : Option (List ℕ)) (out text all : List ℕ) → IsWhole out → Appends a b (written_as form out) → all ≡ out ++ text → AppendsSome a b (written_as form all)
  part_front a b out text all whole wrote is =
      subst (λ (x : List ℕ). AppendsSome a b (written_as form x)) (sym is) (part_behind a b b out text whole wrote (some_of_none b (written_as form text)))

-- ---- the end of a report is written

pub ends_whole : (a b c : Option (List ℕ)) (text last out : List ℕ) → Appends a b text → out ≡ last → Appends b c out → Appends a c (text ++ last)
ends_whole a b c text last out wrote is behind = Appends-trans a b c text last wrote (subst (Appends b c) is behind)

pub early_of : (a b : Option (List ℕ)) (text : List ℕ) (f : ReportFault) → IsNotWritten a b text f → EndsEarly a b text f
early_of a b text Write part = part_of a b text Write part
early_of a b text Memory part = part_of a b text Memory part
early_of a b text Read part = absurd part
early_of a b text (Trace f) part = absurd part

pub last_early : (form : Form) (r : Result (Unit {0}) ReportFault) (a b : Option (List ℕ)) (text last : List ℕ) → text ≡ last → IfErr r (IsNotWritten a b (written_as form text)) → IfErr r (EndsEarly a b (written_as form last))
last_early form (Ok done) a b text last is part = tt
last_early form (Err e) a b text last is part = early_of a b (written_as form last) e (subst (λ (x : List ℕ). IsNotWritten a b (written_as form x) e) is part)

pub ends_part : (a b : Option (List ℕ)) (text last : List ℕ) (f : ReportFault) → IsNotWritten a b text f → EndsEarly a b (text ++ last) f
ends_part a b text last Write part = some_more a b text last (part_of a b text Write part)
ends_part a b text last Memory part = some_more a b text last (part_of a b text Memory part)
ends_part a b text last Read part = absurd part
ends_part a b text last (Trace f) part = absurd part

pub ends_behind : (a b c : Option (List ℕ)) (text last : List ℕ) (f : ReportFault) → Appends a b text → EndsEarly b c last f → EndsEarly a c (text ++ last) f
ends_behind a b c text last Write wrote early = some_behind a b c text last wrote early
ends_behind a b c text last Memory wrote early = some_behind a b c text last wrote early
ends_behind a b c text last Read wrote early = absurd early
ends_behind a b c text last (Trace f) wrote early = absurd early

-- ---- lines are added

pub adds_none : (b : Start) (rs : List Record) (shown : Shown) (form : Form) (n : ℕ) (w : Option (List ℕ)) (before text : List ℕ) → IsTextTo b rs shown n (before ++ text) → AddsLines (Ok tt) b rs shown form n w w before text
adds_none b rs shown form n w before text is = ([], nothing_out form w, empty_whole, subst (λ (x : List ℕ). IsTextTo b rs shown n (x ++ text)) (sym (append-nil before)) is)

pub adds_all : (b : Start) (rs : List Record) (shown : Shown) (form : Form) (n : ℕ) (w v : Option (List ℕ)) (before text empty : List ℕ) → IsTextTo b rs shown n (before ++ text) → Appends w v (written_as form text) → empty ≡ []
    → AddsLines (Ok tt) b rs shown form n w v before empty
adds_all b rs shown form n w v before text empty is wrote none =
    (text, wrote, rest_whole before text (text_whole b rs shown n (before ++ text) is), subst (IsTextTo b rs shown n) (sym (append-nil (before ++ text)) ∙ ap (λ (x : List ℕ). (before ++ text) ++ x) (sym none)) is)

pub adds_part : (b : Start) (rs : List Record) (shown : Shown) (form : Form) (n : ℕ) (w v : Option (List ℕ)) (before text left : List ℕ) (e : ReportFault) → IsTextTo b rs shown n (before ++ text) → IsNotWritten w v (written_as form text) e
    → AddsLines (Err e) b rs shown form n w v before left
adds_part b rs shown form n w v before text left Write is part = (text, is, some_of_part w v (written_as form text) part)
adds_part b rs shown form n w v before text left Memory is keeps = keeps
adds_part b rs shown form n w v before text left Read is part = absurd part
adds_part b rs shown form n w v before text left (Trace f) is part = absurd part

pub adds_not : (b : Start) (rs : List Record) (shown : Shown) (form : Form) (n : ℕ) (w : Option (List ℕ)) (before left : List ℕ) (e : ReportFault) → e ≡ Memory → AddsLines (Err e) b rs shown form n w w before left
adds_not b rs shown form n w before left e memory = subst (λ (f : ReportFault). AddsLines (Err f) b rs shown form n w w before left) (sym memory) refl

no_memory : (f : TraceFault) (P : Type 0) → f ≡ fault kind.Memory 0 → f.kind ≢ kind.Memory → P
no_memory f P is other = absurd (other (ap (λ (x : TraceFault). x.kind) is))

-- a fault of the stream, once the text went out
pub told_stops : (form : Form) (b c v u : Option (List ℕ)) (s : Stream) (text : List ℕ) (e : StreamFault) (f : ReportFault) → IsToldAs e f → Takes b c → GivesFault b c s e → Appends v u (written_as form text) → StopsWith form b c v u s text f
told_stops form b c v u s text e (Trace f) told takes gives wrote = (subst (GivesFault b c s) told.0 gives, told.1, wrote)
told_stops form b c v u s text e Memory told takes gives wrote = (takes, some_of_all v u (written_as form text) wrote)
told_stops form b c v u s text e Read told takes gives wrote = (takes, some_of_all v u (written_as form text) wrote)
told_stops form b c v u s text e Write told takes gives wrote = absurd told

pub part_stops : (form : Form) (b c v u : Option (List ℕ)) (s : Stream) (text : List ℕ) (f : ReportFault) → Takes b c → IsNotWritten v u (written_as form text) f → StopsWith form b c v u s text f
part_stops form b c v u s text Write takes part = (takes, part_of v u (written_as form text) Write part)
part_stops form b c v u s text Memory takes part = (takes, part_of v u (written_as form text) Memory part)
part_stops form b c v u s text Read takes part = absurd part
part_stops form b c v u s text (Trace f) takes part = absurd part

-- none of the text moves
pub moves_none : (form : Form) (v : Option (List ℕ)) (text : List ℕ) → Moves form v v text text
moves_none form v text = ([], nothing_out form v, refl, λ whole. empty_whole)

-- ---- what holds between two records

pub begins : (ahead : List ℕ) (a b w : Option (List ℕ)) (x : Start × Stream) (p : Replaying) (text : List ℕ) (shown : Shown) (form : Form) → Opens ahead a b x → HasRun x.0 [] p → text ≡ title (lines_in shown)
    → UnderWay ahead a b w w x.1 p text shown form
begins ahead a b w x p text shown form opened run is = record {
  start = x.0;
  rs = [];
  more = opened.0;
  taken = opened.1;
  stands = opened.2;
  run = run;
  out = [];
  wrote = nothing_out form w;
  whole = empty_whole;
  so_far = record { is = λ back. is ∙ sym (append-nil (title (lines_in shown))) };
}

-- the start is one that some bytes spell
pub opened_front : (ahead : List ℕ) (a b : Option (List ℕ)) (x : Start × Stream) → Opens ahead a b x → IsSpelledFront x.0 []
opened_front ahead a b x opened = (opened.2.text, opened.2.spelled)

-- the bytes that were taken begin with the records so far
abbrev has_front : (ahead so_far : List ℕ) (start : Start) (s : Stream) (rs : List Record) → Stands start s (ahead ++ so_far) rs → (more : List ℕ) → HasFront (ahead ++ (so_far ++ more)) start rs
has_front ahead so_far start s rs st more =
    record {
      here = st.text;
      rest = s.held.rest ++ more;
      split = sym (append_assoc ahead so_far more) ∙ ap (λ (x : List ℕ). x ++ more) st.held_behind ∙ append_assoc st.text s.held.rest more;
      spelled = st.spelled;
    }

-- a beginning of their lines was written
some_told : (may : Bool) (ahead : List ℕ) (a b c w u : Option (List ℕ)) (start : Start) (s : Stream) (rs : List Record) (shown : Shown) (form : Form) (text : List ℕ) → Going ahead a b start s rs → Takes b c → IsFrontText start rs shown text → AppendsSome w u (written_as form text)
    → WritesSome may ahead shown form a c w u
some_told may ahead a b c w u start s rs shown form text g takes is wrote = record {
  more = g.more ++ takes.0;
  taken = Consumes-trans a b c g.more takes.0 g.taken takes.1;
  text = text;
  told = inr (inl (start, rs, has_front ahead g.more start s rs g.stands takes.0, is));
  wrote = wrote;
}

no_more : (b : Option (List ℕ)) → Takes b b
no_more b = ([], Consumes-nil b)

module _ (ahead : List ℕ) (a b w v : Option (List ℕ)) (s : Stream) (p : Replaying) (text : List ℕ) (shown : Shown) (form : Form) (h : UnderWay ahead a b w v s p text shown form) where
  going : Going ahead a b h.start s h.rs
  going = record { more = h.more; taken = h.taken; stands = h.stands }

  -- what waits is whole lines, and so is what moves of it
  waits : IsWhole text
  waits = rest_whole h.out text (text_whole h.start h.rs shown (place_behind h.start h.rs) (h.out ++ text) h.so_far)

  moved_whole : (u : Option (List ℕ)) (text' : List ℕ) (moves : Moves form v u text text') → IsWhole (h.out ++ moves.0)
  moved_whole u text' moves = both_whole h.out moves.0 h.whole (moves.3 waits)

  moved_out : (u : Option (List ℕ)) (text' : List ℕ) (moves : Moves form v u text text') → Appends w u (written_as form (h.out ++ moves.0))
  moved_out u text' moves = out_behind form w v u h.out moves.0 h.whole h.wrote moves.1

  all_out : (u : Option (List ℕ)) → Appends v u (written_as form text) → Appends w u (written_as form (h.out ++ text))
  all_out u wrote = out_behind form w v u h.out text h.whole h.wrote wrote

  part_out : (u : Option (List ℕ)) → AppendsSome v u (written_as form text) → AppendsSome w u (written_as form (h.out ++ text))
  part_out u first = part_behind form w v u h.out text h.whole h.wrote first

  some_written : (may : Bool) (c u : Option (List ℕ)) → Takes b c → AppendsSome v u (written_as form text) → WritesSome may ahead shown form a c w u
  some_written may c u takes first = some_told may ahead a b c w u h.start s h.rs shown form (h.out ++ text) going takes h.so_far (part_out u first)

  -- memory runs out behind a part of the text
  pub stays : (may : Bool) (c u : Option (List ℕ)) (text' : List ℕ) → Takes b c → Moves form v u text text' → WritesSome may ahead shown form a c w u
  stays may c u text' takes moves =
      some_written may c u takes (part_front form v u moves.0 text' text (moves.3 waits) moves.1 moves.2)

  kept_some : (may : Bool) (c u x : Option (List ℕ)) (text' : List ℕ) → Takes b c → Moves form v u text text' → x ≡ u → WritesSome may ahead shown form a c w x
  kept_some may c u x text' takes moves keeps = subst (λ (z : Option (List ℕ)). WritesSome may ahead shown form a c w z) (sym keeps) (stays may c u text' takes moves)

  -- the next record has a fault
  behind_bytes : (more : List ℕ) (f : TraceFault) → HasFaultBehind ((ahead ++ h.more) ++ more) h.start h.rs f → HasFaultBehind (ahead ++ (h.more ++ more)) h.start h.rs f
  behind_bytes more f = subst (λ (x : List ℕ). HasFaultBehind x h.start h.rs f) (append_assoc ahead h.more more)

  fails : (may : Bool) (c u : Option (List ℕ)) (f : TraceFault) → GivesFault b c s (stream.Trace f) → f.kind ≢ kind.Memory → f.kind ≢ kind.Short → Appends v u (written_as form text) → WritesBefore may ahead shown form f a c w u
  fails may c u f (inl memory) other long wrote = no_memory f (WritesBefore may ahead shown form f a c w u) memory other
  fails may c u f (inr t) other long wrote = record {
    more = h.more ++ t.0;
    taken = Consumes-trans a b c h.more t.0 h.taken t.1;
    ended = t.3;
    wrote = inr (λ _. long, (h.start, h.rs, h.out ++ text, behind_bytes t.0 f (t.2 h.start (ahead ++ h.more) h.rs h.stands), h.so_far, all_out u wrote));
  }

  pub stops : (may : Bool) (c u : Option (List ℕ)) (e : ReportFault) → IsNotShort e → StopsWith form b c v u s text e → WritesUpTo may ahead shown form a c w u e
  stops may c u (Trace f) long t = fails may c u f t.0 t.1 long t.2
  stops may c u Memory long t = some_written may c u t.0 t.1
  stops may c u Read long t = some_written may c u t.0 t.1
  stops may c u Write long t = some_written may c u t.0 t.1

  -- it is cut off
  cut_there : (c u : Option (List ℕ)) (f : TraceFault) → f.kind ≡ kind.Short → GivesFault b c s (stream.Trace f) → f.kind ≢ kind.Memory → Appends v u (written_as form text) → AtCut ahead a c w u p shown form s.held.place f
  cut_there c u f short (inl memory) other wrote = no_memory f (AtCut ahead a c w u p shown form s.held.place f) memory other
  cut_there c u f short (inr t) other wrote = record {
    start = h.start;
    rs = h.rs;
    all = record {
      more = h.more ++ t.0;
      taken = Consumes-trans a b c h.more t.0 h.taken t.1;
      ended = t.3 short;
      is = (
        record {
          front = has_front ahead h.more h.start s h.rs h.stands t.0;
          ends = sym h.stands.place_is;
          f = f;
          short = short;
          broken = behind_bytes t.0 f (t.2 h.start (ahead ++ h.more) h.rs h.stands);
        },
        refl,
      );
    };
    run = h.run;
    text = h.out ++ text;
    wrote = all_out u wrote;
    so_far = h.so_far;
  }

  pub is_cut : (c u : Option (List ℕ)) (f : TraceFault) → f.kind ≡ kind.Short → StopsWith form b c v u s text (Trace f) → AtCut ahead a c w u p shown form s.held.place f
  is_cut c u f short t = cut_there c u f short t.0 t.1 t.2

  -- a turn stops there
  stopped_there : (c u : Option (List ℕ)) (e : ReportFault) (turn : Turn) (s' : Stream) (text' : List ℕ) → StopsWith form b c v u s text e → StopsAt p s.held.place e turn → GoesTo ahead a c w u s' text' shown form turn
  stopped_there c u e (Next q) s' text' t at = absurd at
  stopped_there c u e (Last q) s' text' t at = absurd at
  stopped_there c u e (Cut q n f) s' text' t at =
      let there : AtCut ahead a c w u p shown form s.held.place f = is_cut c u f at.1 (subst (StopsWith form b c v u s text) at.0 t) in
      subst (λ (r : Replaying). AtCut ahead a c w u r shown form n f) (sym at.2) (subst (λ (m : ℕ). AtCut ahead a c w u p shown form m f) (sym at.3) there)

  pub stopped_if : (r : Result Turn ReportFault) (c u : Option (List ℕ)) (e : ReportFault) (s' : Stream) (text' : List ℕ) → StopsWith form b c v u s text e → IfOk r (StopsAt p s.held.place e) → IfOk r (GoesTo ahead a c w u s' text' shown form)
  stopped_if (Ok turn) c u e s' text' t at = stopped_there c u e turn s' text' t at
  stopped_if (Err f) c u e s' text' t at = tt

  pub fails_if : (r : Result Turn ReportFault) (may : Bool) (c u : Option (List ℕ)) (e : ReportFault) → StopsWith form b c v u s text e → IfErr r (λ f. (f ≡ e) × IsNotShort e) → IfErr r (WritesUpTo may ahead shown form a c w u)
  fails_if (Ok turn) may c u e t same = tt
  fails_if (Err f) may c u e t same = subst (WritesUpTo may ahead shown form a c w u) (sym same.0) (stops may c u e same.1 t)

  -- a record more is there
  pub next_front : (c : Option (List ℕ)) (s' : Stream) (r : Record) → Gives b c s s' (Some r) → IsSpelledFront h.start (h.rs ++ r ∷ [])
  next_front c s' r gives = let on = (one_more ahead a b c h.start s s' h.rs r going gives).stands in (on.text, on.spelled)

  pub may_run : (c : Option (List ℕ)) (s' : Stream) (r : Record) → Gives b c s s' (Some r) → MayRun p r
  may_run c s' r gives = (h.start, h.rs, h.run, next_front c s' r gives)

  next_is : (r : Record) (q : Replaying) (all : List ℕ) → HasRunNext h.start h.rs r q → IsFrontText h.start h.rs shown all
      → (back : List Record) → let u = recording_of h.start ((h.rs ++ r ∷ []) ++ back) in all ≡ title (lines_in shown) ++ entry_lines u (sequential_reply u) (lines_in shown) q.first
  next_is r q all ran so_far back =
      let lines = lines_in shown in
      let here : all ≡ title lines ++ entry_lines (recording_of h.start (h.rs ++ r ∷ back)) (sequential_reply (recording_of h.start (h.rs ++ r ∷ back))) lines q.first =
      subst (λ (n : ℕ). all ≡ title lines ++ entry_lines (recording_of h.start (h.rs ++ r ∷ back)) (sequential_reply (recording_of h.start (h.rs ++ r ∷ back))) lines n) (sym ran.first) (so_far.is (r ∷ back)) in
      subst (λ (x : List Record). all ≡ title lines ++ entry_lines (recording_of h.start x) (sequential_reply (recording_of h.start x)) lines q.first) (sym (append_assoc h.rs (r ∷ []) back)) here

  text_next : (r : Record) (q : Replaying) (all : List ℕ) → HasRunNext h.start h.rs r q → IsFrontText h.start h.rs shown all → IsTextTo h.start (h.rs ++ r ∷ []) shown q.first all
  text_next r q all ran so_far = record { is = next_is r q all ran so_far }

  -- the text so far, behind what was written
  moved_text : (u : Option (List ℕ)) (text' : List ℕ) (moves : Moves form v u text text') → h.out ++ text ≡ (h.out ++ moves.0) ++ text'
  moved_text u text' moves = ap (λ (x : List ℕ). h.out ++ x) moves.2 ∙ sym (append_assoc h.out moves.0 text')

  pub before_lines : (u : Option (List ℕ)) (r : Record) (q : Replaying) (text' : List ℕ) (moves : Moves form v u text text') → HasRunNext h.start h.rs r q → IsTextTo h.start (h.rs ++ r ∷ []) shown q.first ((h.out ++ moves.0) ++ text')
  before_lines u r q text' moves ran = text_next r q ((h.out ++ moves.0) ++ text') ran (subst (IsFrontText h.start h.rs shown) (moved_text u text' moves) h.so_far)

  -- it was run, and its lines come behind those before it
  pub goes_on : (c u x : Option (List ℕ)) (s' : Stream) (r : Record) (q : Replaying) (text' text'' : List ℕ) → Gives b c s s' (Some r) → (moves : Moves form v u text text') → HasRunNext h.start h.rs r q
      → AddsLines (Ok tt) h.start (h.rs ++ r ∷ []) shown form (places q.recording) u x (h.out ++ moves.0) text'' → UnderWay ahead a c w x s' q text'' shown form
  goes_on c u x s' r q text' text'' gives moves ran adds =
      let on = one_more ahead a b c h.start s s' h.rs r going gives in
      record {
        start = h.start;
        rs = h.rs ++ r ∷ [];
        more = on.more;
        taken = on.taken;
        stands = on.stands;
        run = ran.run;
        out = (h.out ++ moves.0) ++ adds.0;
        wrote = out_behind form w u x (h.out ++ moves.0) adds.0 (moved_whole u text' moves) (moved_out u text' moves) adds.1;
        whole = both_whole (h.out ++ moves.0) adds.0 (moved_whole u text' moves) adds.2;
        so_far = subst (λ (n : ℕ). IsTextTo h.start (h.rs ++ r ∷ []) shown n (((h.out ++ moves.0) ++ adds.0) ++ text'')) ran.run.recording.many adds.3;
      }

  -- it was run, and its lines cannot be told
  pub not_told : (c u x : Option (List ℕ)) (s' : Stream) (r : Record) (q : Replaying) (text' text'' : List ℕ) (e : ReportFault) → Gives b c s s' (Some r) → Takes b c → (moves : Moves form v u text text') → HasRunNext h.start h.rs r q
      → AddsLines (Err e) h.start (h.rs ++ r ∷ []) shown form (places q.recording) u x (h.out ++ moves.0) text'' → (may : Bool) → WritesUpTo may ahead shown form a c w x e
  not_told c u x s' r q text' text'' Write gives takes moves ran adds may =
      let lines = (h.out ++ moves.0) ++ adds.0 in
      let is : IsFrontText h.start (h.rs ++ r ∷ []) shown lines = subst (λ (n : ℕ). IsTextTo h.start (h.rs ++ r ∷ []) shown n lines) ran.run.recording.many adds.1 in
      some_told may ahead a c c w x h.start s' (h.rs ++ r ∷ []) shown form lines (one_more ahead a b c h.start s s' h.rs r going gives) (no_more c) is
      (part_behind form w u x (h.out ++ moves.0) adds.0 (moved_whole u text' moves) (moved_out u text' moves) adds.2)
  not_told c u x s' r q text' text'' Memory gives takes moves ran keeps may = kept_some may c u x text' takes moves keeps
  not_told c u x s' r q text' text'' Read gives takes moves ran adds may = absurd adds
  not_told c u x s' r q text' text'' (Trace f) gives takes moves ran adds may = absurd adds

  -- ---- the trace ends

  pub at_end : (c u : Option (List ℕ)) (s' : Stream) (text' : List ℕ) → Gives b c s s' None → Moves form v u text text' → AtEnd ahead a c w u p text' shown form
  at_end c u s' text' gives moves = record {
    start = h.start;
    rs = h.rs;
    all = ended ahead a b c h.start s s' h.rs going gives;
    run = h.run;
    out = h.out ++ moves.0;
    wrote = moved_out u text' moves;
    whole = moved_whole u text' moves;
    so_far = subst (IsFrontText h.start h.rs shown) (moved_text u text' moves) h.so_far;
  }

-- ---- behind the last record

module _ (ahead : List ℕ) (a c w u : Option (List ℕ)) (p : Replaying) (text : List ℕ) (shown : Shown) (form : Form) (h : AtEnd ahead a c w u p text shown form) where
  -- the forms of what waits and of the last lines, behind one another
  end_text : written_as form text ++ written_as form (last_lines p.recording p.state shown) ≡ written_as form (text ++ last_lines p.recording p.state shown)
  end_text = sym (written_behind form text (last_lines p.recording p.state shown) (rest_whole h.out text (text_whole h.start h.rs shown (place_behind h.start h.rs) (h.out ++ text) h.so_far)))

  all_text : h.out ++ (text ++ last_lines p.recording p.state shown) ≡ report (trace_of h.start h.rs) shown
  all_text =
      sym (append_assoc h.out text (last_lines p.recording p.state shown))
      ∙ whole_report h.start h.rs p shown (h.out ++ text) (last_lines p.recording p.state shown) h.run h.so_far refl

  pub ends : (x : Option (List ℕ)) → Appends u x (written_as form text ++ written_as form (last_lines p.recording p.state shown)) → WritesReport ahead shown form a c w x
  ends x wrote = record {
    more = h.all.more;
    taken = h.all.taken;
    ended = h.all.ended;
    is = (
      trace_of h.start h.rs,
      h.all.is,
      subst (λ (t : List ℕ). Appends w x (written_as form t)) all_text (out_behind form w u x h.out (text ++ last_lines p.recording p.state shown) h.whole h.wrote (subst (Appends u x) end_text wrote)),
    );
  }

  some : (may : Bool) (x : Option (List ℕ)) → AppendsSome u x (written_as form text ++ written_as form (last_lines p.recording p.state shown)) → WritesSome may ahead shown form a c w x
  some may x wrote = record {
    more = h.all.more;
    taken = h.all.taken;
    text = report (trace_of h.start h.rs) shown;
    told = inr (inr (inl (trace_of h.start h.rs, h.all.is, refl)));
    wrote = subst (λ (t : List ℕ). AppendsSome w x (written_as form t)) all_text (part_behind form w u x h.out (text ++ last_lines p.recording p.state shown) h.whole h.wrote (subst (AppendsSome u x) end_text wrote));
  }

  pub ends_early : (may : Bool) (x : Option (List ℕ)) (e : ReportFault) → EndsEarly u x (written_as form text ++ written_as form (last_lines p.recording p.state shown)) e → WritesUpTo may ahead shown form a c w x e
  ends_early may x Write early = some may x early
  ends_early may x Memory early = some may x early
  ends_early may x Read early = absurd early
  ends_early may x (Trace f) early = absurd early

-- the same of the replay in a box
pub ends_ok : (r : Result (Option ℕ) ReportFault) (ahead : List ℕ) (a c w u x : Option (List ℕ)) (p q : Replaying) (text : List ℕ) (shown : Shown) (form : Form) → AtEnd ahead a c w u p text shown form → q ≡ p
    → IfOk r (λ cut. cut ≡ None) → OnOk r (Appends u x (written_as form text ++ written_as form (last_lines q.recording q.state shown))) → IfOk r (λ cut. Writes cut ahead shown form a c w x)
ends_ok (Ok cut) ahead a c w u x p q text shown form h same none wrote =
    subst (λ (at : Option ℕ). Writes at ahead shown form a c w x) (sym none)
    (ends ahead a c w u p text shown form h x (subst (λ (y : Replaying). Appends u x (written_as form text ++ written_as form (last_lines y.recording y.state shown))) same wrote))
ends_ok (Err e) ahead a c w u x p q text shown form h same none wrote = tt

pub ends_err : (may : Bool) (r : Result (Option ℕ) ReportFault) (ahead : List ℕ) (a c w u x : Option (List ℕ)) (p q : Replaying) (text : List ℕ) (shown : Shown) (form : Form) → AtEnd ahead a c w u p text shown form → q ≡ p
    → IfErr r (EndsEarly u x (written_as form text ++ written_as form (last_lines q.recording q.state shown))) → IfErr r (WritesUpTo may ahead shown form a c w x)
ends_err may (Ok cut) ahead a c w u x p q text shown form h same early = tt
ends_err may (Err e) ahead a c w u x p q text shown form h same early =
    ends_early ahead a c w u p text shown form h may x e (subst (λ (y : Replaying). EndsEarly u x (written_as form text ++ written_as form (last_lines y.recording y.state shown)) e) same early)

-- ---- behind a cut

module _ (ahead : List ℕ) (a c w u : Option (List ℕ)) (p : Replaying) (shown : Shown) (form : Form) (at : ℕ) (f : TraceFault) (h : AtCut ahead a c w u p shown form at f) where
  cut_text : h.text ++ last_lines p.recording p.state shown ≡ report (trace_of h.start h.rs) shown
  cut_text = whole_report h.start h.rs p shown h.text (last_lines p.recording p.state shown) h.run h.so_far refl

  cut_lines : IsWhole h.text
  cut_lines = text_whole h.start h.rs shown (place_behind h.start h.rs) h.text h.so_far

  -- it is refused
  pub cut_fails : (may : Bool) → not may ≡ true → WritesUpTo may ahead shown form a c w u (Trace f)
  cut_fails true asked = absurd (cc)
  cut_fails false asked = record {
    more = h.all.more;
    taken = h.all.taken;
    ended = λ _. h.all.ended;
    wrote = inr (
      λ e _. absurd (cc),
      (
        h.start,
        h.rs,
        h.text,
        subst (HasFaultBehind (ahead ++ h.all.more) h.start h.rs) h.all.is.1 h.all.is.0.broken,
        h.so_far,
        h.wrote,
      ),
    );
  }

  -- the whole report of what there is was written
  pub cut_whole : (x : Option (List ℕ)) → Appends u x (written_as form (last_lines p.recording p.state shown)) → WritesCut at ahead shown form a c w x
  cut_whole x wrote = record {
    more = h.all.more;
    taken = h.all.taken;
    ended = h.all.ended;
    is = (h.start, h.rs, h.all.is.0, subst (λ (t : List ℕ). Appends w x (written_as form t)) cut_text (out_behind form w u x h.text (last_lines p.recording p.state shown) cut_lines h.wrote wrote));
  }

  -- or a beginning of it
  cut_some : (x : Option (List ℕ)) → AppendsSome u x (written_as form (last_lines p.recording p.state shown)) → WritesSome true ahead shown form a c w x
  cut_some x wrote = record {
    more = h.all.more;
    taken = h.all.taken;
    text = report (trace_of h.start h.rs) shown;
    told = inr (inr (inr (refl, h.start, h.rs, at, h.all.is.0, refl)));
    wrote = subst (λ (t : List ℕ). AppendsSome w x (written_as form t)) cut_text (part_behind form w u x h.text (last_lines p.recording p.state shown) cut_lines h.wrote wrote);
  }

  cut_told : (x : Option (List ℕ)) (e : ReportFault) → EndsEarly u x (written_as form (last_lines p.recording p.state shown)) e → WritesUpTo true ahead shown form a c w x e
  cut_told x Write early = cut_some x early
  cut_told x Memory early = cut_some x early
  cut_told x Read early = absurd early
  cut_told x (Trace f) early = absurd early

  pub cut_early : (may : Bool) → not may ≡ false → (x : Option (List ℕ)) (e : ReportFault) → EndsEarly u x (written_as form (last_lines p.recording p.state shown)) e → WritesUpTo may ahead shown form a c w x e
  cut_early true asked x e early = cut_told x e early
  cut_early false asked x e early = absurd (cc)

-- the same of the replay in a box
pub cut_at : (ahead : List ℕ) (a c w u : Option (List ℕ)) (p q : Replaying) (shown : Shown) (form : Form) (at : ℕ) (f : TraceFault) → q ≡ p → AtCut ahead a c w u p shown form at f → AtCut ahead a c w u q shown form at f
cut_at ahead a c w u p q shown form at f same h = subst (λ (y : Replaying). AtCut ahead a c w u y shown form at f) (sym same) h

pub ran_last : (b : Start) (front : List Record) (r : Record) (p q : Replaying) → q ≡ p → HasRunNext b front r p → RanLast q
ran_last b front r p q same run = record { b = b; front = front; r = r; run = subst (HasRunNext b front r) (sym same) run }

-- ---- before the first record

pub nothing_yet : (may : Bool) (ahead : List ℕ) (a b w : Option (List ℕ)) (shown : Shown) (form : Form) → Takes a b → WritesSome may ahead shown form a b w w
nothing_yet may ahead a b w shown form takes = record { more = takes.0; taken = takes.1; text = []; told = inl refl; wrote = some_of_none w (written_as form []) }

start_told : (may : Bool) (ahead : List ℕ) (a b w : Option (List ℕ)) (shown : Shown) (form : Form) (f : TraceFault) → f.kind ≢ kind.Memory → TellsOfStart ahead a b (stream.Trace f) → WritesBefore may ahead shown form f a b w w
start_told may ahead a b w shown form f other (inl memory) = no_memory f (WritesBefore may ahead shown form f a b w w) memory other
start_told may ahead a b w shown form f other (inr t) = record { more = t.0; taken = t.1; ended = t.3; wrote = inl (t.2, Keeps-refl w) }

pub start_fails : (may : Bool) (ahead : List ℕ) (a b w : Option (List ℕ)) (shown : Shown) (form : Form) (e : StreamFault) (f : ReportFault) → Takes a b → IsToldAs e f → TellsOfStart ahead a b e → WritesUpTo may ahead shown form a b w w f
start_fails may ahead a b w shown form e (Trace f) takes told tells = start_told may ahead a b w shown form f told.1 (subst (TellsOfStart ahead a b) told.0 tells)
start_fails may ahead a b w shown form e Memory takes told tells = nothing_yet may ahead a b w shown form takes
start_fails may ahead a b w shown form e Read takes told tells = nothing_yet may ahead a b w shown form takes
start_fails may ahead a b w shown form e Write takes told tells = absurd told

-- memory runs out
pub memory_out : {T : Type 0} (r : Result T ReportFault) (may : Bool) (ahead : List ℕ) (a b w v : Option (List ℕ)) (shown : Shown) (form : Form) → IsErrAnd r (λ e. e ≡ Memory) → WritesSome may ahead shown form a b w v → IfErr r (WritesUpTo may ahead shown form a b w v)
memory_out (Ok x) may ahead a b w v shown form is some = absurd is
memory_out (Err e) may ahead a b w v shown form is some = subst (WritesUpTo may ahead shown form a b w v) (sym is) some

-- a turn or the end has told what was written
pub told_out : {T : Type 0} (r : Result T ReportFault) (e : ReportFault) (P : ReportFault → Type 0) → IsErrAnd r (λ f. f ≡ e) → P e → IfErr r P
told_out (Ok x) e P is p = absurd is
told_out (Err f) e P is p = subst P (sym is) p

-- what is under way stays so with a replay that has run the same
pub let_on : (ahead : List ℕ) (a b w v : Option (List ℕ)) (s : Stream) (p q : Replaying) (text : List ℕ) (shown : Shown) (form : Form) → UnderWay ahead a b w v s p text shown form
    → ((start : Start) (rs : List Record) → HasRun start rs p → HasRun start rs q) → UnderWay ahead a b w v s q text shown form
let_on ahead a b w v s p q text shown form h keeps = record {
  start = h.start;
  rs = h.rs;
  more = h.more;
  taken = h.taken;
  stands = h.stands;
  run = keeps h.start h.rs h.run;
  out = h.out;
  wrote = h.wrote;
  whole = h.whole;
  so_far = h.so_far;
}
