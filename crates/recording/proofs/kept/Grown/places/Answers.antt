use Rattle.std.proofs.Common.{arith}
use Rattle.recording.proofs.Spots.{counted}
use Rattle.recording.proofs.kept.Grown.places.Goals as goal

pub returns-clause-places : goal.returns-clause-places
returns-clause-places c = omega (arith, c.len.ensures, c.self.inside.indexes.ok.0, counted _ _ c.self.inside.records.items _ c.self.invariant.0 c.self.view_is)
