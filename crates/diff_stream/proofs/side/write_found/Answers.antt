use Rattle.std.proofs.Common.{inl, sym, rules, subst}
use Rattle.std.proofs.lemmas.List.{append-nil}
use Rattle.byte_transfer.specs.Transfer.{AppendsSome}
use Rattle.json_lines.specs.Forms.{written_as}
use Rattle.json_lines.proofs.Unwritten.{some_of_fault}
use Rattle.diff_stream.proofs.side.write_found.Goals as goal

pub returns-in_err-write_as-clause-err : goal.returns-in_err-write_as-clause-err
returns-in_err-write_as-clause-err g c =
    search (
      rules,
      subst (λ x. AppendsSome (g.W.Sink.written c.args.writer.now) (g.W.Sink.written c.write_as.new.writer) (written_as c.args.form x)) c.text.ensures
          (some_of_fault _ _ _ c.in_err-write_as.field-0.0 c.in_err-write_as.ensures.err),
    )

pub returns-clause-ok : goal.returns-clause-ok
returns-clause-ok g c = record {
  out = c.args.merging.now.told.text.items;
  wrote = rw c.text.ensures at c.in_ok-write_as.ensures.ok;
  text = rw c.take.ensures.text (sym (append-nil c.args.merging.now.told.text.items));
  all = inl c.take.ensures.text;
  merges = λ one other taken merges. c.take.ensures.taken one other taken merges;
  first = c.take.ensures.first;
  second = c.take.ensures.second;
  from = c.take.ensures.from;
  ahead = c.take.ensures.ahead;
  lines = c.take.ensures.lines;
}
