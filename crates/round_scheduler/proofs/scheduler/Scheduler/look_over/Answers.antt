use Rattle.std.proofs.Common.{◌≡◌, ◌<◌, ◌++◌, ◌∷◌, ◌∙◌, [], All, Some, if◌then◌else◌, length, slice_get, get_or, ap, sym, rules, arith}
use Rattle.std.proofs.lemmas.Bool.{cond_both}
use Rattle.std.proofs.lemmas.List.{take_more}
use Rattle.std.proofs.lemmas.Option.{slice_get-get_or}
use Rattle.recording.specs.Steps.{places}
use Rattle.std.proofs.lemmas.List.Elements.{All-push}
use Rattle.round_scheduler.specs.Scheduling.{HasRoom, IsAgain}
use Rattle.round_scheduler.specs.declared.scheduler.Scheduler.{Scheduler}
use Rattle.round_scheduler.proofs.Passing.{fresh_step, look_step, pass_step, same_fresh, same_on, same_rest, seen_view}
use Rattle.round_scheduler.proofs.scheduler.Scheduler.look_over.Goals.{then-index+in_ok-freshen+in_ok-view+in_ok-keep, then-view+in_ok-push, else-view, else-index+in_ok-pass}
use Rattle.round_scheduler.proofs.scheduler.Scheduler.look_over.Goals as goal

pub loop-index-preserved : goal.loop-index-preserved
loop-index-preserved c =
    let t = c.args.trace.now in
    let world = c.args.world.now.world in
    let s = c.loop-index.self in
    let q = c.args.self.now.round in
    let first = c.args.first.now in
    let i = c.loop-index.index in
    let k = get_or first i 0 in
    let free = c.loop-index.free.items in
    let l : i < length first = search rules in
    let more = take_more first i 0 l in
    let at = slice_get-get_or first i 0 l in
    let before = c.loop-index.invariant.same in
    let many : length s.again.items ≡ places t = before.again ∙ c.requires.room.again in
    let low : k < length s.again.items = let p = c.requires.places i 0 l in omega (arith, many, p) in
    let flag = slice_get-get_or s.again.items k c.index.result.now low ∙ ap Some (sym c.index.ensures) in
    elim c.if-index.branch [
      | then-index+in_ok-freshen+in_ok-view+in_ok-keep w ↦
          let mid = w.freshen.new.self in
          let fresh = w.in_ok-freshen.ensures in
          let now = same_fresh before fresh.rest in
          let v = w.in_ok-view.view in
          let keeps = w.in_ok-keep.ensures in
          let pushed : c.if-index.free.items ≡ (if v.free then free ++ k ∷ [] else free) = ap (λ x. x.items) w.free-is ∙ (elim w.if-view.branch [
            | then-view+in_ok-push w' ↦ ap (λ x. x.items) w'.free-is ∙ w'.in_ok-push.ensures.items ∙ ap (λ b. if b then free ++ k ∷ [] else free) (sym w'.if-view.true)
            | else-view w' ↦ ap (λ x. x.items) w'.free-is ∙ ap (λ b. if b then free ++ k ∷ [] else free) (sym w'.if-view.false)
          ]) in
          record {
            seen = λ window a start.
                let h = fresh_step t c.requires.trace window world q first a i k at s free (c.loop-index.invariant.seen window a start) mid fresh in
                let view = seen_view t c.requires.trace window world q first a i k at mid free h now.round v w.in_ok-view.ensures in
                let room : HasRoom (places t) mid = record { reaches = now.reaches ∙ c.requires.room.reaches; again = now.again ∙ c.requires.room.again; resting = now.resting ∙ c.requires.room.resting } in
                let due : IsAgain mid k = ap (λ (x : Scheduler). slice_get x.again.items k) fresh.rest ∙ flag ∙ ap Some w.if-index.true in
                let step = look_step t c.requires.trace window world q first a i k at mid free h room due v view w.keep.new.self keeps in
                rw (w.self-is, more, pushed) step;
            same = rw w.self-is (same_on now keeps.same);
            low = rw pushed (cond_both v.free _ _ (All (λ n. n < places t))
                (λ _. All-push (λ n. n < places t) free k c.loop-index.invariant.low (c.requires.places i 0 l)) (λ _. c.loop-index.invariant.low));
          }
      | else-index+in_ok-pass w ↦
          let e = w.in_ok-pass.ensures in
          record {
            seen = λ window a start.
                let h = c.loop-index.invariant.seen window a start in
                let step = pass_step t c.requires.trace window world q first a i k at s free h (flag ∙ ap Some w.if-index.false) w.pass.new.self e.exact e.others e.rest in
                rw (w.self-is, more, w.free-is) step;
            same = rw w.self-is (same_rest before e.rest);
            low = rw w.free-is c.loop-index.invariant.low;
          }
    ]
