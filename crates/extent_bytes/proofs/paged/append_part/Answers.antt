-- The part of a page that is there, or as many zeros.
use Rattle.std.proofs.Common.{◌≡◌, ◌+◌, ◌-◌, ◌*◌, ◌++◌, length, take, replicate, vec_len, rules, arith, ap, sym, ◌∙◌}
use Rattle.std.proofs.lemmas.List.{take_all}
use Rattle.extent_bytes.specs.Pages.{bytes_from}
use Rattle.extent_bytes.specs.Kept.{byte_held}
use Rattle.extent_bytes.proofs.Outcomes.{ok_items}
use Rattle.extent_bytes.proofs.paged.append_part.Goals as goal

pub returns-in-Some : goal.returns-in-Some
returns-in-Some c =
    let part = c.in-Some.part.now in
    ok_items c.extend_from_slice.result c.args.bytes.now.items (c.args.bytes.now.items ++ part) c.extend_from_slice.new.self.items
    (c.args.bytes.now.items ++ bytes_from (byte_held c.args.pages.now) (c.args.number * 4096 + c.args.from) (c.args.to - c.args.from)) c.extend_from_slice.ensures.items
    (ap (λ xs. c.args.bytes.now.items ++ xs) c.in-Some.ensures.part)

pub returns-in-None : goal.returns-in-None
returns-in-None c =
    let old = c.args.bytes.now.items in
    let count = c.len.result + (c.args.to - c.args.from) - vec_len c.args.bytes.now in
    let n = c.len.result + (c.args.to - c.args.from) in
    let e : length old ≡ vec_len c.args.bytes.now = search rules in
    let d : count ≡ c.args.to - c.args.from = omega (arith, c.len.ensures) in
    ok_items c.resize.result old (take n old ++ replicate count 0) c.resize.new.self.items (old ++ bytes_from (byte_held c.args.pages.now) (c.args.number * 4096 + c.args.from) (c.args.to - c.args.from)) c.resize.ensures.items
    (ap (λ xs. xs ++ replicate count 0) (take_all n old (omega (arith, e, c.len.ensures)))
    ∙ ap (λ xs. old ++ xs) (ap (λ m. replicate m 0) d ∙ sym c.in-None.ensures.none))
