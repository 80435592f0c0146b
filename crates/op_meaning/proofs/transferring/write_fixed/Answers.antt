use Rattle.std.proofs.Common.{◌≡◌, ◌+◌, [], length, unwrap_or, arith, sym, ap, ◌∙◌}
use Rattle.std.specs.Prelude.{Ok}
use Rattle.extent_bytes.specs.Bytes.{range_of}
use Rattle.extent_bytes.proofs.Lengths.{length-range_of}
use Rattle.world_parts.specs.World.{buffer, apply, apply_all, write_bytes}
use Rattle.op_meaning.specs.Handles.{handle_meant}
use Rattle.op_meaning.specs.Meaning.{advance}
use Rattle.op_meaning.proofs.transferring.write_fixed.Goals as goal

pub returns-clause-answer : goal.returns-clause-answer
returns-clause-answer c =
    let w = c.args.write in
    let whole = unwrap_or (buffer c.args.state.now c.args.ring w.index) [] in
    let long : length (range_of whole w.at (w.at + w.count)) ≡ w.count = length-range_of whole w.at (w.at + w.count) c.requires.inside ∙ omega arith in
    c.counted.ensures ∙ ap (λ n. Ok (n, [])) (sym long)

pub returns-clause-state : goal.returns-clause-state
returns-clause-state c =
    let s = c.args.state.now in
    let w = c.args.write in
    let h = handle_meant s w.file in
    let whole = unwrap_or (buffer s c.args.ring w.index) [] in
    let long : w.count ≡ length (range_of whole w.at (w.at + w.count)) = sym (length-range_of whole w.at (w.at + w.count) c.requires.inside ∙ omega arith) in
    let put = c.in_ok-write_from_buffer.ensures ∙ ap (λ j. apply (write_bytes h.opened.target.node w.start (range_of (unwrap_or (buffer s c.args.ring j) []) w.at (w.at + w.count))) s) c.from.ensures in
    c.advance.ensures ∙ (λ i. apply_all (advance w.offset h (w.start + long i)) (put i))
