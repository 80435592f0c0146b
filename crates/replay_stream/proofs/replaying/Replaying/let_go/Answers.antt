use Rattle.std.proofs.Common.{ap, length, subst, sym, ◌∙◌}
use Rattle.recording.specs.Forgotten.{blanks}
use Rattle.recording.specs.Fronts.{IsOfFront}
use Rattle.recording.specs.Growing.{let_go}
use Rattle.recording.specs.declared.recording.Recording.{Recording}
use Rattle.recording.proofs.Blanks.{length-blanks}
use Rattle.recording.proofs.Fronts.{forgotten_is_of_front}
use Rattle.replay_stream.proofs.replaying.Replaying.let_go.Goals as goal

pub returns : goal.returns
returns c = λ b front h.
    let u = c.args.self.now.recording in
    let twice = ap (λ n. record u { steps = blanks n }) (length-blanks (length u.steps)) in
    record {
      recording = subst (λ (t : Recording). IsOfFront t b front) (sym c.let_go.ensures) (forgotten_is_of_front u b front h.recording);
      gone = ap let_go c.let_go.ensures ∙ twice ∙ h.gone;
      state = h.state;
    }
