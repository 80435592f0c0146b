use Rattle.std.proofs.Common.{refl}
use Rattle.std.proofs.KnownBytes.{Keeps-refl}
use Rattle.replay_program.specs.declared.fault.RunFault.TheVariants.{Different}
use Rattle.replay_program.proofs.ShownDifferences.{part_shown}
use Rattle.replay_program.proofs.Faults.{gives_nothing, not_by, by, named, reads, writes, adds_none, write_is_not_different, different_is_not_write}
use Rattle.replay_program.proofs.explaining.run_diff_shown.Goals as goal

pub returns-in_err-comparison : goal.returns-in_err-comparison
returns-in_err-comparison g c =
    let e = c.in_err-comparison.field-0.0 in
    let ended = c.from_residual.ensures.1 in
    record {
      alike = gives_nothing _ e _ ended;
      different = not_by _ e _ ended c.in_err-comparison.ensures.neither.1;
      part = not_by _ e _ ended c.in_err-comparison.ensures.neither.0;
      nothing = by _ _ e ended (λ no_write same. Keeps-refl _);
      taken = c.in_err-comparison.ensures.taken;
      reading = by _ _ e ended c.in_err-comparison.ensures.err;
      read = reads _ e _ _ ended c.in_err-comparison.ensures.read;
      write = writes _ e _ _ ended (adds_none _ _ c.in_err-comparison.ensures.write);
    }

pub returns-in_err-written : goal.returns-in_err-written
returns-in_err-written g c =
    let e = c.in_err-written.field-0.0 in
    let found = c.in_ok-comparison.ensures in
    let ended = named _ e _ c.from_residual-in_err-written.ensures.1 c.in_err-written.ensures.err in
    record {
      alike = gives_nothing _ _ _ ended;
      different = not_by _ _ _ ended write_is_not_different;
      part = λ failed. part_shown c.args.terms _ _ _ _ _ _ c.in_ok-comparison.comparison _ found.ok c.as_slice.ensures.value c.in_err-written.ensures.part;
      nothing = by _ _ _ ended (λ no_write same. absurd (no_write refl));
      taken = found.taken;
      reading = by _ _ _ ended ((found.ok.t, found.ok.spelled), (found.ok.input, found.ok.read));
      read = reads _ _ _ _ ended found.read;
      write = writes _ e _ _ c.from_residual-in_err-written.ensures.1 c.in_err-written.ensures.write;
    }

pub returns-clause-part : goal.returns-clause-part
returns-clause-part g c = not_by _ Different _ refl different_is_not_write

pub returns-clause-nothing : goal.returns-clause-nothing
returns-clause-nothing g c = λ no_write same. absurd (same refl)

pub returns-clause-reading : goal.returns-clause-reading
returns-clause-reading g c = let found = c.in_ok-comparison.ensures.ok in ((found.t, found.spelled), (found.input, found.read))
