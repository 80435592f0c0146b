use Rattle.wave_pick.proofs.laws.reaches_hold_and_shrink.Goals as goal

pub returns : goal.returns
returns c = record {
  hold = λ t s. c.reaches_foresee.ensures.hold (t, s);
  shrink = λ t s. c.reaches_foresee.ensures.shrink (t, s);
}
