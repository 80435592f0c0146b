use Rattle.std.proofs.Common.{◌∙◌, refl}
use Rattle.item_index.specs.Ahead.{one_at}
use Rattle.item_index.specs.Touching.{touches_item, writes_item}
use Rattle.round_scheduler.proofs.Knowing.{one_at_is}
use Rattle.round_scheduler.proofs.scheduler.Scheduler.freshen.Goals as goal

pub returns : goal.returns
returns c =
    let s = c.args.self.now in
    let ks = c.args.earlier.now in
    let same = c.as_slice.ensures.value in
    let e = c.in_ok-self.ensures in
    record {
      index = λ reaches there i. record {
        alone = λ exact. (
          λ x. e.written x ∙ (λ j. one_at (same j) ks (λ f. writes_item f x)) ∙ one_at_is (λ f. writes_item f x) s.reaches.items ks reaches there,
          λ x. e.touched x ∙ (λ j. one_at (same j) ks (λ f. touches_item f x)) ∙ one_at_is (λ f. touches_item f x) s.reaches.items ks reaches there,
        );
        among = λ other. (cc);
      };
      others = λ other. (cc);
      rest = refl;
    }
