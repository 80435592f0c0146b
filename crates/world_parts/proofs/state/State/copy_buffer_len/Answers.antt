use Rattle.std.proofs.Common.{length, ap, ◌∙◌}
use Rattle.std.specs.Prelude.{is_some}
use Rattle.std.specs.Option.{option_map}
use Rattle.std.proofs.lemmas.Result.{on_ok_weaker}
use Rattle.world_parts.specs.World.{World, buffer}
use Rattle.world_parts.proofs.Copies.{nearer_to}
use Rattle.world_parts.proofs.CopiesOfBytes.{zeros_nearer, zeros_long, no_length}
use Rattle.world_parts.proofs.state.State.copy_buffer_len.Goals as goal

pub returns : goal.returns
returns c =
    let s = c.args.from.now in
    let p = c.args.self.now in
    let absent = no_length (buffer p c.args.ring c.args.index) (c.if-is_some.ensures ∙ ap is_some c.buffer_len.ensures) in
    let sized = c.in-Some.ensures.value ∙ ap (λ (w : World). option_map length (buffer w c.args.ring c.args.index)) c.from.view_is in
    record {
      nearer =
          on_ok_weaker c.add_buffer.result
          (nearer_to s p _ c.add_buffer.new.self (zeros_nearer s p c.requires c.args.ring c.args.index c.in-Some.len absent sized)) c.add_buffer.ensures;
      len =
          on_ok_weaker c.add_buffer.result
          (λ e. ap (λ (w : World). option_map length (buffer w c.args.ring c.args.index)) e
          ∙ zeros_long s p c.requires c.args.ring c.args.index c.in-Some.len absent sized)
          c.add_buffer.ensures;
    }
