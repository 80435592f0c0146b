use Rattle.replay_stream.proofs.replaying.Replaying.next.Goals as goal

pub swept-requires : goal.swept-requires
swept-requires c = let m = c.requires in (m.0, m.1, c.args.next, c.in_ok-ran.ensures m.0 m.1 m.2 m.3)
