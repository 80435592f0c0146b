-- A part of one page is written from it, or is zeros, and more is put over the range.
use Rattle.std.proofs.Common.{◌≡◌, ℕ, ◌+◌, ◌-◌, ◌*◌, ◌/◌, ◌%◌, ◌≤◌, List, length, replicate, arith, ap, sym, ◌∙◌, refl}
use Rattle.std.proofs.lemmas.Result.{on_ok_weaker, IfOk-from_err}
use Rattle.extent_bytes.specs.Kept.{pages_in}
use Rattle.extent_bytes.specs.Bytes.{overwritten, range_of}
use Rattle.extent_bytes.specs.Pages.{PageMap, bytes_of}
use Rattle.extent_bytes.proofs.Lengths.{length-range_of}
use Rattle.extent_bytes.proofs.Lists.{zeroed_within}
use Rattle.extent_bytes.proofs.ExtentFacts.{bytes_of-range, length_seen}
use Rattle.extent_bytes.proofs.Outcomes.{err_of}
use Rattle.extent_bytes.proofs.extents.Extents.copy_range.Goals.{In-Some}
use Rattle.extent_bytes.proofs.extents.Extents.copy_range.Goals as goal

-- the part of the page is the range
taken : (m n : PageMap) (s len lo hi : ℕ) (xs : List ℕ) → lo ≤ hi → hi ≤ length xs → n ≡ m → bytes_of m s len ≡ xs
    → bytes_of n ((s + lo) / 4096 * 4096 + (s + lo) % 4096) ((s + lo) % 4096 + (hi - lo) - (s + lo) % 4096) ≡ range_of xs lo hi
taken m n s len lo hi xs h k d e =
    let l = length_seen m s len xs e in
    let at : (s + lo) / 4096 * 4096 + (s + lo) % 4096 ≡ s + lo = omega arith in
    let count : (s + lo) % 4096 + (hi - lo) - (s + lo) % 4096 ≡ hi - lo = omega arith in
    (λ i. bytes_of (d i) (at i) (count i))
    ∙ bytes_of-range m m s len (s + lo) lo hi h (omega (arith, l)) (λ i h. refl)
    ∙ ap (λ ys. range_of ys lo hi) e

pub overflow_add-from : goal.overflow_add-from
overflow_add-from c = let e = length_seen (pages_in c.source.inside.stored) c.source.inside.start c.source.inside.len c.args.source.now c.source.view_is in omega (arith, c.source.invariant)

pub overflow_add-end : goal.overflow_add-end
overflow_add-end c = let e = length_seen (pages_in c.source.inside.stored) c.source.inside.start c.source.inside.len c.args.source.now c.source.view_is in omega (arith, c.source.invariant)

-- the bytes of the page are the range
part : (c : In-Some) → c.in-Some.bytes.now ≡ range_of c.args.source.now c.args.lo c.args.hi
part c =
    let s = c.source.inside in
    c.in-Some.ensures.part ∙ taken (pages_in s.stored) c.pages-pages.result.now s.start s.len c.args.lo c.args.hi c.args.source.now c.requires.forward c.requires.there c.pages-pages.ensures c.source.view_is

-- and so many
length-part : (c : In-Some) → length c.in-Some.bytes.now ≡ c.args.hi - c.args.lo
length-part c = ap length (part c) ∙ length-range_of c.args.source.now c.args.lo c.args.hi c.requires.there

pub write-requires : goal.write-requires
write-requires c =
    let e = length_seen (pages_in c.source.inside.stored) c.source.inside.start c.source.inside.len c.args.source.now c.source.view_is in
    let n = length-part (goal.at.write-requires c).In-Some in
    omega (arith, c.source.invariant)

pub returns-in-Some : goal.returns-in-Some
returns-in-Some c =
    let d = (goal.at.returns-in-Some c).In-Some in record {
      ok = on_ok_weaker c.write.result (λ e. e ∙ ap (overwritten c.args.self.now c.args.lo) (part d)) c.write.ensures.ok;
      len = let n = length-part d in on_ok_weaker c.write.result (λ e. e ∙ omega arith) c.write.ensures.len;
      err = c.write.ensures.err;
    }

pub returns-in-None-clause-ok : goal.returns-in-None-clause-ok
returns-in-None-clause-ok c =
    let lo = c.args.lo in
    let hi = c.args.hi in
    let s = c.source.inside.start in
    let count : (s + lo) % 4096 + (hi - lo) - (s + lo) % 4096 ≡ hi - lo = omega arith in
    on_ok_weaker c.zero.result
    (λ e.
    e ∙ zeroed_within c.args.self.now lo hi c.requires.forward c.requires.inside
    ∙ ap (overwritten c.args.self.now lo)
    (ap (λ n. replicate n 0) (sym count) ∙ sym c.in-None.ensures.none
    ∙ taken (pages_in c.source.inside.stored) c.pages-pages.result.now s c.source.inside.len lo hi c.args.source.now c.requires.forward c.requires.there c.pages-pages.ensures c.source.view_is))
    c.zero.ensures.ok

pub returns-in_err-share : goal.returns-in_err-share
returns-in_err-share c =
    let out = c.from_residual in record { ok = IfOk-from_err out.result _ out.ensures.0; len = IfOk-from_err out.result _ out.ensures.0; err = err_of out.result refl }

pub returns-then-end-gt-PAGE : goal.returns-then-end-gt-PAGE
returns-then-end-gt-PAGE c = record {
  ok = on_ok_weaker c.put_back.result (λ e. e ∙ ap (overwritten c.args.self.now c.args.lo) c.in_ok-share.ensures.value) c.put_back.ensures.ok;
  len = c.put_back.ensures.len;
  err = c.put_back.ensures.err;
}

pub returns-in-None-clause-len : goal.returns-in-None-clause-len
returns-in-None-clause-len c = c.zero.ensures.len

pub returns-in-None-clause-err : goal.returns-in-None-clause-err
returns-in-None-clause-err c = c.zero.ensures.err
