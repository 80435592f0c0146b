use Rattle.std.proofs.Common.{◌+◌, ◌-◌, ◌*◌, ◌/◌, ◌%◌, ◌<◌, arith, drop, length, refl, rules, take, ap, get_or}
use Rattle.std.proofs.lemmas.Result.{on_err_weaker, on_ok_weaker}
use Rattle.extent_bytes.proofs.Overlays.{overlaid_from, overlaid_to}
use Rattle.extent_bytes.proofs.PageFacts.{same_bytes}
use Rattle.extent_bytes.proofs.Parted.{Parts, parts_byte, parts_completed}
use Rattle.extent_bytes.proofs.overlaying.replace_range.Goals as goal

pub returns-then-first-last : goal.returns-then-first-last
returns-then-first-last c =
    let at = c.args.at in
    let n = length c.args.bytes.now in
    let place = at / 4096 * 4096 + at % 4096 in record {
      ok = on_ok_weaker c.write.result (overlaid_to c.args.pages.now c.write.new.self place (at / 4096 * 4096 + (at % 4096 + n)) at (at + n) _ _ (omega arith) (omega arith) (λ p h l. ap (λ i. get_or c.args.bytes.now i 0) (omega arith))) c.write.ensures.ok;
      err = c.write.ensures.err;
    }

pub returns-clause-ok : goal.returns-clause-ok
returns-clause-ok c =
    let m = c.args.pages.now in
    let bytes = c.args.bytes.now in
    let at = c.args.at in
    let hi = at + length bytes in
    let first = at / 4096 in
    let last = (hi - 1) / 4096 in
    let some : 0 < length bytes = search rules in
    let early = last * 4096 - at in
    let split = c.split_at in
    let two = c.put_range.new.pages in
    let four = c.put_range-2.new.pages in
    let parts : Parts m c.new-patch.result c.share_parted.new.patch two c.share_parted-2.new.patch four at hi first last (λ p. get_or (take early bytes) (p - at % 4096) 0) (λ p. get_or (drop early bytes) (p - (last - first) * 4096) 0) = record {
      from = refl;
      to = refl;
      apart = omega arith;
      ahead = c.in_ok-share_parted.ensures;
      front = overlaid_to c.share_parted.new.patch two _ _ (at % 4096) ((last - first) * 4096) _ _ refl (omega (arith, split.ensures.front_len))
          (λ p h l. ap (λ xs. get_or xs (p - at % 4096) 0) split.ensures.front) c.in_ok-put_range.ensures.ok;
      behind = c.in_ok-share_parted-2.ensures;
      back = overlaid_to c.share_parted-2.new.patch four _ _ ((last - first) * 4096) (hi - first * 4096) _ _ refl (omega (arith, split.ensures.back_len))
          (λ p h l. ap (λ xs. get_or xs (p - (last - first) * 4096) 0) split.ensures.back) c.in_ok-put_range-2.ensures.ok;
    } in
    let done = parts_completed m _ _ _ _ four at hi first last _ _ parts in
    on_ok_weaker c.splice.result
    (λ r. overlaid_to m c.splice.new.self at hi at hi _ _ refl refl (parts_byte m _ _ _ _ four at hi first last bytes parts)
    (overlaid_from m m c.splice.new.self four four at hi first (last + 1) (omega arith) refl (omega arith) (λ p. refl) done r.taken r.below r.above))
    c.splice.ensures.ok

pub returns-clause-err : goal.returns-clause-err
returns-clause-err c = on_err_weaker c.splice.result (λ e. same_bytes _ _ e) c.splice.ensures.err
