-- A helper: how many of each a trace has at most.
use Rattle.std.specs.Prelude.{◌≤◌, length, All}
use Rattle.trace_format.specs.declared.trace.Ring.{Ring}
use Rattle.trace_format.specs.declared.trace.Trace.{Trace}

-- the most of each that a trace has
pub record HasSizes (t : Trace) : Type 0 where
  pub items : length t.items ≤ 65535
  pub descriptions : length t.descriptions ≤ 65535
  pub descriptors : length t.descriptors ≤ 1024
  pub rings : length t.rings ≤ 64
  pub slots : All (λ (r : Ring). length r.slots ≤ 1024) t.rings
  pub buffers : All (λ (r : Ring). length r.buffers ≤ 1024) t.rings
