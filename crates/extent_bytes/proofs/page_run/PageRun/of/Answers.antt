use Rattle.std.proofs.Common.{◌≡◌, ℕ, ◌+◌, ◌/◌, ◌%◌, ◌-◌, ◌<◌, IfSome, arith, subst}
use Rattle.std.specs.Prelude.{slice_get}
use Rattle.extent_bytes.specs.Pages.{page_of, byte_at, byte_in}
use Rattle.extent_bytes.proofs.Runs.{bytes_from-same, byte_in-taken}
use Rattle.extent_bytes.proofs.page_run.PageRun.of.Goals as goal

pub returns-in-Some : goal.returns-in-Some
returns-in-Some c =
    let m = c.args.pages.now in
    let from = c.args.from in
    let ps = c.in-Some.pages.items in
    let taken : (j : ℕ) → from / 4096 + j < c.div_ceil.result → slice_get ps j ≡ page_of m (from / 4096 + j) =
    subst (λ o. IfSome o (λ run. (j : ℕ) → from / 4096 + j < c.div_ceil.result → slice_get run.items j ≡ page_of m (from / 4096 + j))) c.in-Some.is c.in_ok-pages.ensures.pages in
    bytes_from-same (byte_in ps) (byte_at m) (from % 4096) from (c.args.to - from)
    (λ i h. byte_in-taken m ps from i (taken ((from % 4096 + i) / 4096) (omega (arith, c.div_ceil.ensures))))
