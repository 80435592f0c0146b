-- Each spelled trace of version 1 or 2 gives a recording that a replay accepts.
use Rattle.std.proofs.Common.{◌≡◌, ℕ, suc, ◌-◌, ◌≤◌, ◌==◌, nat_le, Bool, false, ◌&&◌, ◌||◌, List, [], ◌∷◌, ◌++◌, length, map, Option, Some, None, refl, sym, ap, subst, ◌∙◌, arith}
use Rattle.std.specs.List.{All, slice_get}
use Rattle.std.specs.Option.{option_map}
use Rattle.std.proofs.lemmas.List.{length-map}
use Rattle.std.proofs.lemmas.List.Elements.{All-nil, All-cons, All-head, All-tail, All-weaker}
use Rattle.std.proofs.lemmas.Option.{slice_get-map}
use Rattle.trace_format.specs.declared.entry.Entry.{Entry}
use Rattle.trace_format.specs.declared.trace.Description.{Description}
use Rattle.trace_format.specs.declared.trace.Item.{Item}
use Rattle.trace_format.specs.declared.trace.Node.{Node}
use Rattle.trace_format.specs.declared.trace.Node.TheVariants.{Directory, File, OtherName}
use Rattle.trace_format.specs.declared.trace.Ring.{Ring}
use Rattle.trace_format.specs.declared.trace.Trace.{Trace}
use Rattle.trace_format.specs.Paths.{is_directory, is_file}
use Rattle.trace_format.specs.Sound as two
use Rattle.trace_format.specs.Steps as narrow
use Rattle.trace_format.specs.Text as text
use Rattle.trace_format.specs.Text.{IsSpelled}
use Rattle.trace_format.proofs.Facts.{spelled_fits, spelled_rings, spelled_places}
use Rattle.trace_format.proofs.Sizes as two_sizes
use Rattle.trace_format.proofs.Sound.{spelled_sound}
use Rattle.trace_records.specs.declared.start.Item as new_item
use Rattle.trace_records.specs.declared.start.Node as new_node
use Rattle.trace_records.specs.declared.start.Range.{Range}
use Rattle.trace_records.specs.Start as three
use Rattle.recording.specs.declared.recording.Ring as new_ring
use Rattle.recording.specs.Accepted.{NodeFits, DescriptionFits, HasSizes, WholeAccepted}
use Rattle.recording.specs.Actions.{Step, submit}
use Rattle.recording.specs.Kept.{widened, widened_action}
use Rattle.recording.specs.Limits.{table_limit, buffers_limit}
use Rattle.recording.specs.Rings.{slots_of}
use Rattle.recording.specs.Steps.{step_at}
use Rattle.recording.specs.Whole.{node_of, item_of, ring_of, rings_from, of_whole}

-- ---- rings

length-rings_from : (n : ℕ) (rs : List Ring) → length (rings_from n rs) ≡ length rs
length-rings_from n [] = refl
length-rings_from n (r ∷ rs) = ap suc (length-rings_from (suc n) rs)

-- what holds of each ring of the trace, whatever its number, holds of each of the recording
rings_all : (P : Ring → Type 0) (Q : new_ring.Ring → Type 0) → ((n : ℕ) (r : Ring) → P r → Q (ring_of n r)) → (n : ℕ) (rs : List Ring) → All P rs → All Q (rings_from n rs)
rings_all P Q each n [] all = All-nil Q
rings_all P Q each n (r ∷ rs) all = All-cons Q (ring_of n r) (rings_from (suc n) rs) (each n r (All-head P r rs all)) (rings_all P Q each (suc n) rs (All-tail P r rs all))

-- ---- names

same_directory : (n : Node) → three.is_directory (node_of n) ≡ is_directory n
same_directory Directory = refl
same_directory (File size stored) = refl
same_directory (OtherName number) = refl

same_file : (n : Node) → three.is_file (node_of n) ≡ is_file n
same_file Directory = refl
same_file (File size stored) = refl
same_file (OtherName number) = refl

-- what passes a test at one item
at_item : (p : Node → Bool) (q : new_node.Node → Bool) → ((n : Node) → q (node_of n) ≡ p n) → (found : Option Item)
    → elim (option_map item_of found) as (λ _. Bool) [ None ↦ false | Some i ↦ q i.node ] ≡ elim found as (λ _. Bool) [ None ↦ false | Some i ↦ p i.node ]
at_item p q same None = refl
at_item p q same (Some i) = same i.node

-- an item of a number is one of the same kind
same_item : (p : Node → Bool) (q : new_node.Node → Bool) → ((n : Node) → q (node_of n) ≡ p n) → (items : List Item) (number : ℕ)
    → three.is_item q (map item_of items) number ≡ text.is_item p items number
same_item p q same items number = rw (slice_get-map item_of items (number - 1)) (ap (λ b. nat_le 1 number && b) (at_item p q same (slice_get items (number - 1))))

same_node : (items : List Item) (number : ℕ) → three.is_node (map item_of items) number ≡ text.is_node items number
same_node items number =
    ap (λ b. number == 0 || b) (same_item (λ n. is_directory n || is_file n) (λ n. three.is_directory n || three.is_file n) (λ n. rw (same_directory n, same_file n) refl) items number)

same_directory_number : (items : List Item) (number : ℕ) → three.is_directory_number (map item_of items) number ≡ text.is_directory_number items number
same_directory_number items number = ap (λ b. number == 0 || b) (same_item is_directory three.is_directory same_directory items number)

-- what a name leads to fits the names before it
node_fits : (before : List Item) (n : Node) → two.NodeFits before n → NodeFits (map item_of before) (node_of n)
node_fits before Directory fits = tt
node_fits before (File size stored) fits =
    let ends : Range → Type 0 = λ r. three.range_end r ≤ size in
    (All-cons ends (record { offset = 0; bytes = stored }) [] (omega (arith, fits.0)) (All-nil ends), fits.1)
node_fits before (OtherName number) fits = same_item is_file three.is_file same_file before number ∙ fits

description_fits : (items : List Item) (d : Description) → two.DescriptionFits items d → DescriptionFits (map item_of items) d
description_fits items d fits = record {
  leads = same_node items d.node ∙ fits.leads;
  is_read = λ h. fits.is_read (sym (same_directory_number items d.node) ∙ h);
}

-- what stands in a list of images comes from the list
record Split {X Y : Type 0} (f : X → Y) (xs : List X) (before : List Y) (y : Y) : Type 0 where
  earlier : List X
  x : X
  later : List X
  is : xs ≡ earlier ++ x ∷ later
  before_is : map f earlier ≡ before
  y_is : f x ≡ y

behind : {X Y : Type 0} (f : X → Y) (xs : List X) (before : List Y) (y : Y) (x : X) (b : Y) → f x ≡ b → Split f xs before y → Split f (x ∷ xs) (b ∷ before) y
behind f xs before y x b here s = record {
  earlier = x ∷ s.earlier;
  x = s.x;
  later = s.later;
  is = ap (λ l. x ∷ l) s.is;
  before_is = rw (here, s.before_is) refl;
  y_is = s.y_is;
}

split : {X Y : Type 0} (f : X → Y) (xs : List X) (before after : List Y) (y : Y) → map f xs ≡ before ++ y ∷ after → Split f xs before y
split f [] [] after y e = absurd (cc)
split f [] (b ∷ bs) after y e = absurd (cc)
split f (x ∷ xs) [] after y e = record { earlier = []; x = x; later = xs; is = refl; before_is = refl; y_is = cc }
split f (x ∷ xs) (b ∷ bs) after y e =
    let rest : map f xs ≡ bs ++ y ∷ after = cc in
    behind f xs bs y x b (cc) (split f xs bs after y rest)

-- ---- steps

-- a step of the recording is one of the trace
record From (t : Trace) (k : ℕ) (s : Step) : Type 0 where
  step : narrow.Step
  there : narrow.step_at t k ≡ Some step
  is : widened step ≡ s

from_map : {X Y : Type 0} (f : X → Y) (o : Option X) (y : Y) → option_map f o ≡ Some y → (x : X) × (o ≡ Some x) × (f x ≡ y)
from_map f None y e = absurd (cc)
from_map f (Some x) y e = (x, refl, cc)

step_from : (t : Trace) (k : ℕ) (s : Step) → step_at (of_whole t) k ≡ Some s → From t k s
step_from t k s here =
    let found = from_map widened (narrow.step_at t k) s (sym (slice_get-map widened (narrow.steps t) k) ∙ here) in
    record { step = found.0; there = found.1; is = found.2 }

submitted_of : (a : narrow.Action) (e : Entry) → widened_action a ≡ submit e → a ≡ narrow.submit e
submitted_of (narrow.submit x) e is = cc
submitted_of (narrow.fill buffer offset bytes) e is = absurd (cc)

-- ---- a trace

sizes : (t : Trace) → IsSpelled t → HasSizes (of_whole t)
sizes t h =
    let small = two_sizes.sizes t h in
    record {
      items = omega (arith, small.items, length-map t.items item_of);
      descriptions = omega (arith, small.descriptions);
      descriptors = omega (arith, small.descriptors);
      rings = omega (arith, small.rings, length-rings_from 0 t.rings);
      slots = rings_all (λ (r : Ring). length r.slots ≤ 1024) (λ r. slots_of r ≤ table_limit) (λ n r le. omega (arith, le)) 0 t.rings small.slots;
      buffers = rings_all (λ (r : Ring). length r.buffers ≤ 1024) (λ (r : new_ring.Ring). length r.buffers ≤ buffers_limit) (λ n r le. omega (arith, le)) 0 t.rings small.buffers;
      places = omega (arith, spelled_places t h, length-map (narrow.steps t) widened);
    }

pub whole_accepted : WholeAccepted
whole_accepted t h =
    let sound = spelled_sound t h in
    let descriptions = length t.descriptions in
    record {
      sizes = sizes t h;
      nodes = λ before after x e.
          let s = split item_of t.items before after x e in
          let fits = node_fits s.earlier s.x.node (sound.nodes s.earlier s.later s.x s.is) in
          subst (λ (items : List new_item.Item). NodeFits items x.node) s.before_is (subst (λ (i : new_item.Item). NodeFits (map item_of s.earlier) i.node) s.y_is fits);
      descriptions = All-weaker (two.DescriptionFits t.items) (DescriptionFits (map item_of t.items)) (description_fits t.items) t.descriptions sound.descriptions;
      slots = rings_all (λ (r : Ring). All (λ n. n ≤ descriptions) r.slots) (λ (r : new_ring.Ring). All (λ n. n ≤ descriptions) r.slots) (λ n r all. all) 0 t.rings sound.slots;
      descriptors = sound.descriptors;
      fits = λ k s e here action none.
          let f = step_from t k s here in
          spelled_fits t h k f.step e f.there (submitted_of f.step.action e (ap (λ (x : Step). x.action) f.is ∙ action));
      rings = λ k s here on.
          let f = step_from t k s here in
          omega (arith, spelled_rings t h k f.step f.there, ap (λ (x : Step). x.ring) f.is, length-rings_from 0 t.rings);
    }
