use Rattle.std.proofs.Common.{◌≡◌, ℕ, List, [], ◌++◌}
use Rattle.std.specs.Prelude.{codes}
use Rattle.std.specs.Fmt.{decimal}
use Rattle.std.proofs.Common.{◌≤◌, arith}
use Rattle.std.specs.List.{flat_map}
use Rattle.trace_format.specs.Versions.{rules}
use Rattle.trace_format.specs.Counts.{places_in, places_limit}
use Rattle.trace_format.proofs.Spots.{length-steps_from}
use Rattle.trace_text.specs.Shown.{text_of, item_line, numbered, description_line, slots_line, ring_lines, records_from}
use Rattle.trace_text.proofs.Adds.{add}
use Rattle.trace_text.proofs.show.show_text.Goals as goal

pub push_records-requires : goal.push_records-requires
push_records-requires c =
    let few : places_in c.args.trace.now.records ≤ places_limit = omega (arith, length-steps_from 0 c.args.trace.now.records, c.places-places.ensures.places, c.places-places.ensures.limit) in
    rw c.as_slice-6.ensures few

pub returns : goal.returns
unfolding text_of
returns c =
    let p0 : List ℕ = codes "uring-trace " ++ decimal (rules c.args.trace.now.version).number ++ codes "\n" in
    let e0 : c.push_version.new.text.items ≡ [] ++ p0 = (rw (c.new-text.ensures.items, c.rules.ensures) at c.in_ok-push_version.ensures) in
    let q1 : List ℕ = flat_map (item_line c.args.look c.args.trace.now.items) c.args.trace.now.items in
    let h1 : c.push_items.new.text.items ≡ c.push_version.new.text.items ++ q1 = (rw (c.as_slice.ensures) at c.in_ok-push_items.ensures) in
    let e1 : c.push_items.new.text.items ≡ [] ++ (p0 ++ q1) = add [] p0 q1 c.push_version.new.text.items c.push_items.new.text.items e0 h1 in
    let p1 : List ℕ = p0 ++ q1 in
    let q2 : List ℕ = numbered (description_line c.args.trace.now.items) 0 c.args.trace.now.descriptions in
    let h2 : c.push_descriptions.new.text.items ≡ c.push_items.new.text.items ++ q2 = (rw (c.as_slice-2.ensures, c.as_slice-3.ensures) at c.in_ok-push_descriptions.ensures) in
    let e2 : c.push_descriptions.new.text.items ≡ [] ++ (p1 ++ q2) = add [] p1 q2 c.push_items.new.text.items c.push_descriptions.new.text.items e1 h2 in
    let p2 : List ℕ = p1 ++ q2 in
    let q3 : List ℕ = slots_line (codes "descriptors") c.args.trace.now.descriptors in
    let h3 : c.push_slots.new.text.items ≡ c.push_descriptions.new.text.items ++ q3 = (rw (c.as_slice-4.ensures) at c.in_ok-push_slots.ensures) in
    let e3 : c.push_slots.new.text.items ≡ [] ++ (p2 ++ q3) = add [] p2 q3 c.push_descriptions.new.text.items c.push_slots.new.text.items e2 h3 in
    let p3 : List ℕ = p2 ++ q3 in
    let q4 : List ℕ = numbered ring_lines 0 c.args.trace.now.rings in
    let h4 : c.push_rings.new.text.items ≡ c.push_slots.new.text.items ++ q4 = (rw (c.as_slice-5.ensures) at c.in_ok-push_rings.ensures) in
    let e4 : c.push_rings.new.text.items ≡ [] ++ (p3 ++ q4) = add [] p3 q4 c.push_slots.new.text.items c.push_rings.new.text.items e3 h4 in
    let p4 : List ℕ = p3 ++ q4 in
    let q5 : List ℕ = records_from c.args.look 0 c.args.trace.now.records in
    let h5 : c.push_records.new.text.items ≡ c.push_rings.new.text.items ++ q5 = (rw (c.as_slice-6.ensures) at c.in_ok-push_records.ensures) in
    let e5 : c.push_records.new.text.items ≡ [] ++ (p4 ++ q5) = add [] p4 q5 c.push_rings.new.text.items c.push_records.new.text.items e4 h5 in
    let p5 : List ℕ = p4 ++ q5 in
    e5
