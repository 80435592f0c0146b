-- Each turn appends the bytes of one page.
use Rattle.std.proofs.Common.{◌≡◌, ◌+◌, ◌-◌, ◌*◌, ◌/◌, ◌%◌, ◌++◌, length, vec_len, arith, ap, sym, ◌∙◌, rules}
use Rattle.extent_bytes.specs.Pages.{bytes_from}
use Rattle.extent_bytes.specs.Kept.{byte_held}
use Rattle.extent_bytes.proofs.ExtentFacts.{bytes_from-append, bytes_from-none, length-bytes_from}
use Rattle.extent_bytes.proofs.paged.Paged.read.Goals as goal

pub loop-at-init : goal.loop-at-init
loop-at-init c = record {
  forward = omega arith;
  within = omega arith;
  read = c.in_ok-bytes.ensures.items ∙ sym (bytes_from-none (byte_held c.args.self.now) c.args.from _ (omega arith));
}

pub append_part-requires-clause-small : goal.append_part-requires-clause-small
append_part-requires-clause-small c =
    let v = c.loop-at.invariant in
    let n = ap length v.read ∙ length-bytes_from (byte_held c.args.self.now) c.args.from (c.loop-at.at - c.args.from) in
    omega (arith, n)

pub loop-at-preserved : goal.loop-at-preserved
loop-at-preserved c =
    let v = c.loop-at.invariant in
    let t = c.loop-at-test.true in
    let m = byte_held c.args.self.now in
    let a = c.args.from in
    record {
      forward = omega arith;
      within = omega (arith, c.min-count.ensures);
      read =
          c.in_ok-append_part.ensures ∙ ap (λ xs. xs ++ bytes_from m (c.loop-at.at / 4096 * 4096 + c.loop-at.at % 4096) (c.loop-at.at % 4096 + c.min-count.result - c.loop-at.at % 4096)) v.read
          ∙ bytes_from-append m a (c.loop-at.at - a) (c.loop-at.at / 4096 * 4096 + c.loop-at.at % 4096) (c.loop-at.at % 4096 + c.min-count.result - c.loop-at.at % 4096) (c.loop-at.at + c.min-count.result - a)
          (omega (arith, v.forward)) (omega (arith, v.forward));
    }

pub returns-clause-value : goal.returns-clause-value
returns-clause-value c =
    let v = c.loop-at.invariant in
    v.read ∙ ap (λ n. bytes_from (byte_held c.args.self.now) c.args.from n) (omega (arith, v.within, c.loop-at-test.false))

pub returns-clause-len : goal.returns-clause-len
returns-clause-len c =
    let v = c.loop-at.invariant in
    let e : length c.loop-at.bytes.items ≡ vec_len c.loop-at.bytes = search rules in
    let n = ap length v.read ∙ length-bytes_from (byte_held c.args.self.now) c.args.from (c.loop-at.at - c.args.from) in
    omega (arith, e, n, v.within, c.loop-at-test.false)
