-- The patch has no page, so all its bytes are zeros.
use Rattle.std.proofs.Common.{refl}
use Rattle.extent_bytes.proofs.PageFacts.{byte_at-empty}
use Rattle.extent_bytes.proofs.Overlays.{overlaid_to}
use Rattle.extent_bytes.proofs.overlaying.zero_range.Goals as goal

pub returns-in_ok-overlay-clause-ok : goal.returns-in_ok-overlay-clause-ok
returns-in_ok-overlay-clause-ok c =
    overlaid_to c.args.pages.now c.overlay.new.pages _ _ c.args.lo c.args.hi _ _ refl refl (λ p h l. byte_at-empty c.new.result c.new.ensures _) c.in_ok-overlay.ensures.ok
