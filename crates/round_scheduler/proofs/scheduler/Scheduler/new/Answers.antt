use Rattle.std.proofs.Common.{◌≡◌, ◌<◌, ◌∙◌, true, Some, inl, length, replicate, ap, subst, sym}
use Rattle.std.specs.List.{slice_get}
use Rattle.std.proofs.lemmas.List.{get_or-replicate, length-replicate}
use Rattle.std.proofs.lemmas.Option.{slice_get-get_or}
use Rattle.recording.specs.Steps.{places}
use Rattle.round_scheduler.proofs.scheduler.Scheduler.new.Goals as goal

pub returns-clause-remembers : goal.returns-clause-remembers
returns-clause-remembers c = λ window.
    let count = places c.args.trace.now in
    let all : c.in_ok-again.again.items ≡ replicate count true = c.in_ok-again.ensures.items_if_clones_equal (λ y h. h) ∙ ap (λ n. replicate n true) c.places-2.ensures in
    let many = length-replicate count true in
    record {
      room = record {
        reaches = c.in_ok-reaches.ensures ∙ c.places.ensures;
        again = ap length all ∙ many;
        resting = c.in_ok-resting.ensures ∙ c.places-3.ensures;
      };
      each = λ k below waits.
          inl (ap (λ flags. slice_get flags k) all ∙ slice_get-get_or (replicate count true) k true (subst (λ n. k < n) (sym many) below) ∙ ap Some (get_or-replicate count k true true below));
    }
