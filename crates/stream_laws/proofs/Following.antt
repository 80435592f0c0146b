-- Changes of a step keep one world following the other.
use Rattle.std.proofs.Common.{◌≡◌, ℕ, ◌+◌, ◌<◌, ◌≤◌, Bool, true, false, cond, List, [], ◌∷◌, length, Option, Some, sym, ap, subst, ◌∙◌, arith, inl, inr}
use Rattle.std.specs.Prelude.{not, ltb, ◌&&◌, ◌==◌, if◌then◌else◌}
use Rattle.std.specs.Option.{option_map}
use Rattle.std.specs.Ordering.{nat_cmp, eq_by_cmp}
use Rattle.std.specs.Cmp.{unsigned_tied}
use Rattle.std.proofs.lemmas.Bool.{cases_eq, eq-eqb, ne_eqb}
use Rattle.trace_format.specs.declared.entry.Entry.{Entry}
use Rattle.recording.specs.declared.recording.Recording.{Recording}
use Rattle.recording.specs.Steps.{places}
use Rattle.entry_checks.specs.Check.{has, io_hardlink, skip_success}
use Rattle.chain_plan.specs.Chain.{chain_of, role}
use Rattle.chain_plan.proofs.Walk.{chain_within}
use Rattle.extent_bytes.specs.Bytes.{overwritten, overlaid, resized, zeroed}
use Rattle.finite_maps.specs.Table.{Table, get, insert, assign, adjust_number, number_keys, pair_keys, pair_cmp, get-insert, get-assign}
use Rattle.file_tree.specs.Tree.{new_node, renamed_node, rewritten_node}
use Rattle.world_parts.specs.World.{World, Broken, loud, quiet, node_of, new_description, Change, set_name, make_node, set_slot, set_descriptor, make_description, set_position, set_size, write_bytes, zero_bytes, write_buffer, break_chain, apply, apply_all}
use Rattle.world_parts.proofs.Changes.{pair_tied}
use Rattle.op_meaning.specs.Step.{breaks}
use Rattle.stream_laws.specs.Standing.{StandsFor, BuffersFollow, ChainsFollow, Follows}
use Rattle.stream_laws.proofs.Roles.{chain_shifted, role_same}
use Rattle.stream_laws.proofs.Writes.{IsIn, AllIn}

-- Two pairs of numbers that differ by the same are equal alike.
same_test : (a b c d m n : ℕ) → a + m ≡ c + n → b + m ≡ d + n → (a == b) ≡ (c == d)
same_test a b c d m n e f = elim (cases_eq a b) [
  | inl g ↦ eq-eqb a b g ∙ sym (eq-eqb c d (omega (arith, e, f, g)))
  | inr ne ↦ ne_eqb a b ne ∙ sym (ne_eqb c d (λ g. ne (omega (arith, e, f, g))))
]

-- A ring that is there.
abbrev pub IsRingOf : Recording → ℕ → Type 0
IsRingOf v r = r < length v.rings

-- A buffer of such a ring is written.
module _ (v u : Recording) (r : ℕ) (there : IsRingOf v r) where
  elsewhere : (m : Table pair_cmp (List ℕ)) (b : ℕ) (x : Option (List ℕ)) (q n : ℕ) → length v.rings ≤ q → get (assign pair_keys.total m (r, b) x) (q, n) ≡ get m (q, n)
  elsewhere m b x q n le =
      let other : eq_by_cmp pair_cmp (q, n) (r, b) ≡ false = pair_tied q n r b ∙ ap (λ e. e && n == b) (ne_eqb q r (λ e. absurd (omega (arith, e, le, there)))) in
      get-assign pair_keys.total m (r, b) x (q, n) ∙ ap (λ e. cond e x (get m (q, n))) other

  written : (few all : Table pair_cmp (List ℕ)) (b : ℕ) (f : List ℕ → List ℕ) → BuffersFollow v u few all
      → BuffersFollow v u (assign pair_keys.total few (r, b) (option_map f (get few (r, b)))) (assign pair_keys.total all (r, b) (option_map f (get all (r, b))))
  written few all b f h = record {
    same = λ q n lt.
        get-assign pair_keys.total few (r, b) (option_map f (get few (r, b))) (q, n)
        ∙ (λ i. cond (eq_by_cmp pair_cmp (q, n) (r, b)) (option_map f (h.same r b there i)) (h.same q n lt i))
        ∙ sym (get-assign pair_keys.total all (r, b) (option_map f (get all (r, b))) (q, n));
    missing = λ q n le. elsewhere few b (option_map f (get few (r, b))) q n le ∙ h.missing q n le;
    at_start = λ q n le. elsewhere all b (option_map f (get all (r, b))) q n le ∙ h.at_start q n le;
  }

module _ {v u : Recording} {first : ℕ} where
  -- Changes that break no chain.
  changed : (c : Change) (s w : World) → IsIn (IsRingOf v) c → Follows v u first s w → Follows v u first (apply c s) (apply c w)
  changed (set_name d n x) s w i f =
      record { nodes = ap (λ t. adjust_number (renamed_node n (node_of x)) t d) f.nodes; descriptions = f.descriptions; slots = f.slots; descriptors = f.descriptors; buffers = f.buffers; chains = f.chains }
  changed (make_node j k) s w i f =
      record { nodes = ap (λ t. insert number_keys.total t j (new_node k)) f.nodes; descriptions = f.descriptions; slots = f.slots; descriptors = f.descriptors; buffers = f.buffers; chains = f.chains }
  changed (set_slot q n d) s w i f =
      record { nodes = f.nodes; descriptions = f.descriptions; slots = ap (λ t. assign pair_keys.total t (q, n) d) f.slots; descriptors = f.descriptors; buffers = f.buffers; chains = f.chains }
  changed (set_descriptor n d) s w i f =
      record { nodes = f.nodes; descriptions = f.descriptions; slots = f.slots; descriptors = ap (λ t. assign number_keys.total t n d) f.descriptors; buffers = f.buffers; chains = f.chains }
  changed (make_description n o) s w i f =
      record { nodes = f.nodes; descriptions = ap (λ t. insert number_keys.total t n (new_description o)) f.descriptions; slots = f.slots; descriptors = f.descriptors; buffers = f.buffers; chains = f.chains }
  changed (set_position d p) s w i f =
      record { nodes = f.nodes; descriptions = ap (λ t. adjust_number (λ e. record e { position = p }) t d) f.descriptions; slots = f.slots; descriptors = f.descriptors; buffers = f.buffers; chains = f.chains }
  changed (set_size j n) s w i f =
      record { nodes = ap (λ t. adjust_number (rewritten_node (λ bs. resized bs n)) t j) f.nodes; descriptions = f.descriptions; slots = f.slots; descriptors = f.descriptors; buffers = f.buffers; chains = f.chains }
  changed (write_bytes j at new) s w i f =
      record { nodes = ap (λ t. adjust_number (rewritten_node (λ bs. overwritten bs at new)) t j) f.nodes; descriptions = f.descriptions; slots = f.slots; descriptors = f.descriptors; buffers = f.buffers; chains = f.chains }
  changed (zero_bytes j low high) s w i f =
      record { nodes = ap (λ t. adjust_number (rewritten_node (λ bs. zeroed bs low high)) t j) f.nodes; descriptions = f.descriptions; slots = f.slots; descriptors = f.descriptors; buffers = f.buffers; chains = f.chains }
  changed (write_buffer q b at new) s w i f =
      record { nodes = f.nodes; descriptions = f.descriptions; slots = f.slots; descriptors = f.descriptors; buffers = written v u q i s.buffers w.buffers b (λ bs. overlaid bs at new) f.buffers; chains = f.chains }
  changed (break_chain c x) s w i f = absurd i

  pub all_changed : (cs : List Change) (s w : World) → AllIn (IsRingOf v) cs → Follows v u first s w → Follows v u first (apply_all cs s) (apply_all cs w)
  all_changed [] s w i f = f
  all_changed (c ∷ cs) s w i f = all_changed cs (apply c s) (apply c w) i.1 (changed c s w i.0 f)

  -- The chain of a place breaks in both worlds.
  module _ (stands : StandsFor v u first) (k : ℕ) (from : first ≤ k) (lt : k < places v) where
    broken_past : (m : Table nat_cmp Broken) (c d : ℕ) (x : Broken) → c < d → get (insert number_keys.total m c x) d ≡ get m d
    broken_past m c d x less =
        get-insert number_keys.total m c x d ∙ ap (λ e. cond e (Some x) (get m d)) (unsigned_tied d c ∙ ne_eqb d c (λ e. absurd (omega (arith, e, less))))

    breaks_chain : (one other : Table nat_cmp Broken) (x : Broken) → ChainsFollow v u first one other → ChainsFollow v u first (insert number_keys.total one (chain_of v k) x) (insert number_keys.total other (chain_of u k) x)
    breaks_chain one other x h = record {
      same = λ j late near.
          let shifted = chain_shifted stands j late near in
          let test = same_test (chain_of v j) (chain_of v k) (chain_of u j) (chain_of u k) _ _ shifted (chain_shifted stands k from lt) in
          let tied : eq_by_cmp nat_cmp (chain_of v j) (chain_of v k) ≡ eq_by_cmp nat_cmp (chain_of u j) (chain_of u k) = unsigned_tied (chain_of v j) (chain_of v k) ∙ test ∙ sym (unsigned_tied (chain_of u j) (chain_of u k)) in
          get-insert number_keys.total one (chain_of v k) x (chain_of v j)
          ∙ (λ i. cond (tied i) (Some x) (h.same j late near i))
          ∙ sym (get-insert number_keys.total other (chain_of u k) x (chain_of u j));
      later = λ c le. broken_past one (chain_of v k) c x (omega (arith, le, chain_within v k (places v) lt)) ∙ h.later c le;
      later_there = λ c le. broken_past other (chain_of u k) c x (omega (arith, le, chain_within u k (places v) lt)) ∙ h.later_there c le;
    }

    broken_if : (b : Bool) (x : Broken) (s w : World) → Follows v u first s w
        → Follows v u first (apply_all (if b then break_chain (chain_of v k) x ∷ [] else []) s) (apply_all (if b then break_chain (chain_of u k) x ∷ [] else []) w)
    broken_if true x s w f = record { nodes = f.nodes; descriptions = f.descriptions; slots = f.slots; descriptors = f.descriptors; buffers = f.buffers; chains = breaks_chain s.broken w.broken x f.chains }
    broken_if false x s w f = f

    pub breaks_alike : (e : Entry) (fails : Bool) (s w : World) → Follows v u first s w → Follows v u first (apply_all (breaks (role v k) e fails) s) (apply_all (breaks (role u k) e fails) w)
    breaks_alike e fails s w f =
        subst (λ c. Follows v u first (apply_all (breaks (role v k) e fails) s) (apply_all (breaks c e fails) w)) (role_same stands k from lt)
        (broken_if (fails && not (has e.sqe.flags io_hardlink) && ltb ((role v k).member + 1) (role v k).length) (if has e.sqe.flags skip_success then quiet else loud) s w f)
