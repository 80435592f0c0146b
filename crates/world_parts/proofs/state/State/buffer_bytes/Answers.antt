use Rattle.std.proofs.Common.{◌≡◌, ℕ, List, [], Some, ◌∙◌, arith}
use Rattle.std.specs.Prelude.{Option, length, unwrap_or}
use Rattle.std.specs.Option.{option_map}
use Rattle.std.proofs.lemmas.List.{take_all}
use Rattle.extent_bytes.specs.Bytes.{range_of}
use Rattle.world_parts.specs.World.{buffer}
use Rattle.world_parts.proofs.state.State.buffer_bytes.Goals as goal

-- all bytes of a buffer that is there
whole : (o : Option (List ℕ)) (len : ℕ) → Some len ≡ option_map length o → range_of (unwrap_or o []) 0 len ≡ unwrap_or o []
unfolding range_of
whole o len e = grind (arith, take_all)

pub returns : goal.returns
returns c = c.from_vec-2.ensures ∙ c.in_ok-buffer.ensures ∙ whole (buffer c.args.self.now c.args.ring c.args.index) c.in-Some.len c.in-Some.ensures
