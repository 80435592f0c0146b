use Rattle.std.proofs.Common.{◌≡◌, ◌-◌, ◌∙◌, length, arith, length-set}
use Rattle.std.proofs.lemmas.Bool.{ne_eqb}
use Rattle.text_forms.proofs.Digits.{begins, goes}
use Rattle.text_forms.proofs.words.put_digits.Goals as goal

pub loop-count-init : goal.loop-count-init
loop-count-init c =
    let len : length c.args.room.now ≡ 64 = search (arith) in
    record { room = len; left = begins c.args.base c.args.number c.args.room.now len }

pub loop-count-preserved : goal.loop-count-preserved
loop-count-preserved c = record {
  room = length-set c.loop-count.room (63 - c.loop-count.count) c.glyph.result ∙ c.loop-count.invariant.room;
  left = goes c.args.base c.loop-count.rest c.loop-count.count c.glyph.result c.loop-count.room _ c.loop-count-test.true c.loop-count.invariant.room c.glyph.ensures (ne_eqb _ _ c.if-rest-eq0.false) c.loop-count.invariant.left;
}
