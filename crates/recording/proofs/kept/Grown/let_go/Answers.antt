use Rattle.std.proofs.Common.{arith, ◌≡◌, ◌+◌, length, refl}
use Rattle.recording.proofs.Spots.{counted}
use Rattle.recording.proofs.kept.Grown.let_go.Goals as goal

pub returns : goal.returns
returns c =
    let count = counted _ _ c.self.inside.records.items _ c.self.invariant.0 c.self.view_is in
    let first : c.self.inside.first + c.len.result ≡ c.args.self.now.first + length c.args.self.now.steps = omega (arith, c.len.ensures, c.self.inside.indexes.ok.0, count) in
    rw (first, c.clear.ensures.items) refl
