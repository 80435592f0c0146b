-- A trace that is spelled has no more of each than the format allows.
use Rattle.std.proofs.Common.{◌≡◌, ℕ, ◌≤◌, length, Some, ap, arith}
use Rattle.std.specs.Int.{w16, w32}
use Rattle.std.proofs.lemmas.List.Elements.{All-weaker}
use Rattle.trace_format.specs.declared.trace.Ring.{Ring}
use Rattle.trace_format.specs.declared.trace.Trace.{Trace}
use Rattle.trace_format.specs.declared.version.Version.{Version as TraceVersion}
use Rattle.trace_format.specs.declared.version.Version.TheVariants.{One, Two, Three}
use Rattle.trace_format.specs.Versions.{rules, version_of}
use Rattle.trace_format.specs.Text.{Counts, header, item, description, slot, ring, IsSpelled}
use Rattle.trace_format.specs.Sizes.{HasSizes}
use Rattle.trace_format.proofs.Apart.{AnyText, keeps_any, Own, onward, at_place, at_test, at_known, at_done, within_limit, each, length-several}
use Rattle.trace_format.proofs.Facts.{trace_parts}

record RingSizes (r : Ring) : Type 0 where
  slots : length r.slots ≤ 1024
  buffers : length r.buffers ≤ 1024

ring_sizes : (descriptions : ℕ) (r : Ring) → Own AnyText (ring descriptions) r → RingSizes r
unfolding ring
ring_sizes descriptions r o =
    onward keeps_any o (λ n n_own o.
    onward keeps_any o (λ slots slots_own o.
    onward keeps_any o (λ m m_own o.
    onward keeps_any o (λ buffers buffers_own o.
    let e = (at_done o).1 in
    let slot_limit = within_limit keeps_any w16 1024 n n_own in
    let buffer_limit = within_limit keeps_any w16 1024 m m_own in
    record {
      slots = omega (arith, slot_limit, length-several _ _ slots keeps_any slots_own, ap (λ (x : Ring). length x.slots) e);
      buffers = omega (arith, buffer_limit, length-several _ _ buffers keeps_any buffers_own, ap (λ (x : Ring). length x.buffers) e);
    }))))

record CountSizes (c : Counts) : Type 0 where
  items : c.items ≤ 65535
  descriptions : c.descriptions ≤ 65535
  rings : c.rings ≤ 64
  descriptors : c.descriptors ≤ 1024

table_size : (n : ℕ) (v : TraceVersion) → version_of n ≡ Some v → (rules v).most_descriptors ≤ 1024
table_size n One named = omega arith
table_size n Two named = omega arith
table_size n Three named = absurd (grind (arith, named))

count_sizes : (c : Counts) → Own AnyText header c → CountSizes c
unfolding header
count_sizes c o =
    onward keeps_any o (λ _ _ tested.
    onward keeps_any (at_place (at_test tested)) (λ n _ known.
    let version = known.is.2 in
    onward keeps_any (at_known known) (λ items items_own o.
    onward keeps_any o (λ descriptions descriptions_own o.
    onward keeps_any o (λ rings rings_own o.
    onward keeps_any o (λ records _ o.
    onward keeps_any o (λ descriptors descriptors_own o.
    let e = (at_done o).1 in
    let item_limit = within_limit keeps_any w32 65535 items items_own in
    let description_limit = within_limit keeps_any w32 65535 descriptions descriptions_own in
    let ring_limit = within_limit keeps_any w32 64 rings rings_own in
    let table_limit = within_limit keeps_any w32 (rules version).most_descriptors descriptors descriptors_own in
    record {
      items = omega (arith, item_limit, ap (λ (x : Counts). x.items) e);
      descriptions = omega (arith, description_limit, ap (λ (x : Counts). x.descriptions) e);
      rings = omega (arith, ring_limit, ap (λ (x : Counts). x.rings) e);
      descriptors = omega (arith, table_limit, table_size n version known.is.4.1, ap (λ (x : Counts). x.descriptors) e);
    })))))))

pub sizes : (t : Trace) → IsSpelled t → HasSizes t
sizes t h =
    let parts = trace_parts keeps_any h.0 t tt h.1 in
    let c = parts.counts in
    let limits = count_sizes c parts.counted in
    let sizes_of_rings = each RingSizes (λ _. ring c.descriptions) keeps_any (λ _. ring_sizes c.descriptions) c.rings t.rings parts.rings in
    record {
      items = omega (arith, limits, length-several item c.items t.items keeps_any parts.items);
      descriptions = omega (arith, limits, length-several (λ _. description t.items) c.descriptions t.descriptions keeps_any parts.descriptions);
      descriptors = omega (arith, limits, length-several (λ _. slot c.descriptions) c.descriptors t.descriptors keeps_any parts.descriptors);
      rings = omega (arith, limits, length-several (λ _. ring c.descriptions) c.rings t.rings keeps_any parts.rings);
      slots = All-weaker RingSizes (λ r. length r.slots ≤ 1024) (λ r s. s.slots) t.rings sizes_of_rings;
      buffers = All-weaker RingSizes (λ r. length r.buffers ≤ 1024) (λ r s. s.buffers) t.rings sizes_of_rings;
    }
