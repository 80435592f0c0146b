use Rattle.std.proofs.Common.{Some, ap, ◌∙◌}
use Rattle.std.specs.Option.{option_map}
use Rattle.recording.specs.Steps.{step_meant, action_meant}
use Rattle.world_parts.specs.Uses.{broken_meant}
use Rattle.op_meaning.proofs.Turns.{fills, registers, seeks, sets, submitted}
use Rattle.op_meaning.proofs.turn.turn_by.Goals.{in-Submit, in-Fill, in-Register, in-Set, in-Seek}
use Rattle.op_meaning.proofs.turn.turn_by.Goals as goal

pub submitted-kind-requires : goal.submitted-kind-requires
submitted-kind-requires c = record { side = c.requires.trace.fits c.args.place (step_meant c.args.there.now) c.in-Submit.entry c.requires.there (ap action_meant c.in-Submit.is) }

pub returns-clause-turn : goal.returns-clause-turn
returns-clause-turn c =
    let t = c.args.trace.now in
    let x = c.args.there.now in
    let flag = option_map broken_meant c.args.flag in
    elim c.match-there.branch [
      | in-Submit w ↦ rw w.kind-is (ap Some (w.submitted-kind.ensures.turn x.ring) ∙ submitted t c.args.place flag x w.in-Submit.entry c.args.role_there.now c.requires.there w.in-Submit.is c.requires.role)
      | in-Fill w ↦ rw w.kind-is (fills t c.args.place flag x w.in-Fill.buffer w.in-Fill.offset w.in-Fill.bytes c.requires.there w.in-Fill.is)
      | in-Register w ↦ rw w.kind-is (registers t c.args.place flag x w.in-Register.slots c.requires.there w.in-Register.is)
      | in-Set w ↦ rw w.kind-is (sets t c.args.place flag x w.in-Set.file w.in-Set.content c.requires.there w.in-Set.is)
      | in-Seek w ↦ rw w.kind-is (seeks t c.args.place flag x w.in-Seek.file w.in-Seek.position c.requires.there w.in-Seek.is)
    ]

pub returns-clause-short : goal.returns-clause-short
returns-clause-short c = elim c.match-there.branch [
  | in-Submit w ↦ rw w.kind-is w.submitted-kind.ensures.short
  | in-Fill w ↦ rw w.kind-is tt
  | in-Register w ↦ rw w.kind-is tt
  | in-Set w ↦ rw w.kind-is tt
  | in-Seek w ↦ rw w.kind-is tt
]
