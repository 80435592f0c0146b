use Rattle.std.proofs.Common.{arith, drop, length-drop}
use Rattle.text_lines.proofs.Feeds.{feed_within}
use Rattle.text_lines.proofs.lines.TextLines.read_more.Goals as goal

pub add-requires : goal.add-requires
add-requires g c =
    let t = c.self-2.inside in
    omega (arith, c.self-2.invariant.0, c.self-2.invariant.1, feed_within (drop t.used t.bytes.items), length-drop t.used t.bytes.items)
