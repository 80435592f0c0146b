use Rattle.std.proofs.Common.{◌∙◌}
use Rattle.item_index.specs.Ahead.{touched, written}
use Rattle.item_index.specs.Touching.{touches_item, writes_item}
use Rattle.round_scheduler.proofs.Knowing.{one_of_these}
use Rattle.round_scheduler.proofs.scheduler.Scheduler.behind.Goals as goal

pub returns-else-self : goal.returns-else-self
returns-else-self c = λ reaches there i.
    let s = c.args.self.now in
    let ks = c.args.earlier.now in
    let all = i.among c.if-self.false in
    let same = c.as_slice.ensures.value in
    record {
      writes = λ x. c.among.ensures.written x ∙ one_of_these (λ f. writes_item f x) s (written s.ahead x) _ ks reaches same there
          (λ y g e. (all y g e).writes x);
      touches = λ x. c.among.ensures.touched x ∙ one_of_these (λ f. touches_item f x) s (touched s.ahead x) _ ks reaches same there
          (λ y g e. (all y g e).touches x);
    }
