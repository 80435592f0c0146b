-- Places of one chain, and barriers with the places of their queue, collide in every world.
use Rattle.std.proofs.Common.{◌≡◌, ℕ, zero, suc, ◌+◌, ◌<◌, ◌≤◌, Bool, true, false, if◌then◌else◌, List, [], ◌∷◌, length, length-append, refl, sym, ap, subst, ◌∙◌, arith, inl, inr}
use Rattle.std.specs.Prelude.{T, leb, ◌&&◌, ◌==◌}
use Rattle.std.specs.List.{list_any}
use Rattle.std.proofs.lemmas.Bool.{le-leb, cases_eq, cond-true, cond-false, cond_both}
use lib.Dec.{eqb_refl}
use Rattle.recording.specs.declared.recording.Recording.{Recording}
use Rattle.recording.specs.Steps.{places}
use Rattle.chain_plan.specs.Chain.{chain_of, role}
use Rattle.chain_plan.proofs.Walk.{below, below_here, below_other}
use Rattle.world_parts.specs.World.{World}
use Rattle.world_parts.specs.Items.{Atom, chain_flag, ring_order, one, member_of, Use, writes, Footprint, has_atom, writes_atom, collide}
use Rattle.world_parts.proofs.Collision.{both, either_left, either_right, true_of, first_writes-collide, second_writes-collide, writes-has}
use Rattle.world_parts.proofs.Sharing.{holds_true}
use Rattle.foot_print.specs.Footprint.{footprint}
use Rattle.op_meaning.specs.Step.{queue_at}
use Rattle.foot_print.specs.Reach.{is_taken_to_run, is_met, look_of, task, order_of, running_row, accepted_row, wide_row, reach}
use Rattle.foot_print.proofs.Agreement.{in_left}
use Rattle.wave_pick.specs.Orders.{InOrder}

-- A chain has one more member with one of its places, and no fewer among more places.
one_more : (t : Recording) (c k : ℕ) → chain_of t k ≡ c → length (below t k c) + 1 ≤ length (below t (suc k) c)
one_more t c k e = subst (λ (x : ℕ). length (below t k x) + 1 ≤ length (below t (suc k) x)) e (omega (arith, ap length (below_here t k), length-append (below t k (chain_of t k)) (k ∷ [])))

members_stay : (t : Recording) (c m n : ℕ) → m ≤ n → length (below t m c) ≤ length (below t n c)
members_stay t c m zero le =
    let e : m ≡ 0 = omega arith in
    rw e (omega arith)
members_stay t c m (suc n) le = elim (cases_eq m (suc n)) [
  | inl e ↦ rw e (omega arith)
  | inr ne ↦
      let before = members_stay t c m n (omega (arith, ne)) in
      elim (cases_eq (chain_of t n) c) [ inl e ↦ omega (arith, before, one_more t c n e) | inr other ↦ omega (arith, before, ap length (below_other t n c other)) ]
]

-- A chain of two places has two members or more.
two_members : (t : Recording) (c i k : ℕ) → i < k → k < places t → chain_of t i ≡ c → chain_of t k ≡ c → leb 2 (length (below t (places t) c)) ≡ true
two_members t c i k lt within first second =
    let early = one_more t c i first in
    let between = members_stay t c (suc i) k (omega arith) in
    let late = one_more t c k second in
    let all = members_stay t c (suc k) (places t) (omega arith) in
    le-leb 2 (length (below t (places t) c)) (omega (arith, early, between, late, all))

-- What every place has, its may-access set has.
pub in_reach : (p : Use → Bool) (t : Recording) (k : ℕ) (s : World) (earlier : List Footprint) → T (list_any p (order_of t k)) → T (list_any p (reach t k s earlier))
in_reach p t k s earlier h =
    let P : Footprint → Type 0 = λ f. T (list_any p f) in
    cond_both (is_taken_to_run t k s earlier) _ _ P
    (λ _. cond_both (is_met (look_of t k s (task t k)).deciding earlier) _ _ P
    (λ _. in_left p (order_of t k) _ h)
    (λ _. cond_both (is_met (running_row t k s) earlier) _ _ P (λ _. in_left p (order_of t k) _ h) (λ _. in_left p (order_of t k) _ h)))
    (λ _. h)

-- The may-access set of a place that may run, by what earlier may-access sets write of the items that decide its others, and of its row.
module _ (t : Recording) (k : ℕ) (s : World) (earlier : List Footprint) (run : is_taken_to_run t k s earlier ≡ true) where
  pub wide_reach : is_met (look_of t k s (task t k)).deciding earlier ≡ true → reach t k s earlier ≡ wide_row t k s earlier
  wide_reach d = cond-true _ _ _ run ∙ cond-true _ _ _ d

  pub decided_reach : is_met (look_of t k s (task t k)).deciding earlier ≡ false
      → reach t k s earlier ≡ (if is_met (running_row t k s) earlier then accepted_row t k s earlier else running_row t k s)
  decided_reach d = cond-true _ _ _ run ∙ cond-false _ _ _ d

  pub accepted_reach : is_met (look_of t k s (task t k)).deciding earlier ≡ false → is_met (running_row t k s) earlier ≡ true
      → reach t k s earlier ≡ accepted_row t k s earlier
  accepted_reach d e = decided_reach d ∙ cond-true _ _ _ e

-- A member of a chain of two or more writes the chain's flag.
pub writes_chain : (t : Recording) (k : ℕ) → leb 2 (role t k).length ≡ true → T (writes_atom (order_of t k) (chain_flag (role t k).chain))
writes_chain t k two =
    let c = (role t k).chain in
    either_right _ _ (subst (λ b. T (writes_atom (if b then writes (one (chain_flag c)) ∷ [] else []) (chain_flag c))) (sym two)
    (either_left (c == c) false (eqb_refl c)))

-- Every place has the order of its queue, and a barrier writes it.
has_ring : (t : Recording) (k : ℕ) → T (has_atom (order_of t k) (ring_order (queue_at t k)))
has_ring t k = either_left _ _ (eqb_refl (queue_at t k))

writes_ring : (t : Recording) (k : ℕ) → (role t k).barrier ≡ true → T (writes_atom (order_of t k) (ring_order (queue_at t k)))
writes_ring t k e = either_left _ _ (both (role t k).barrier _ (holds_true _ e) (eqb_refl (queue_at t k)))

module _ (t : Recording) (i k : ℕ) (s : World) (earlier : List Footprint) where
  later_writes : (a : Atom) → T (writes_atom (order_of t k) a) → T (has_atom (order_of t i) a) → collide (footprint t k s) (reach t i s earlier) ≡ true
  later_writes a w h = true_of _ (first_writes-collide (footprint t k s) (reach t i s earlier) a
      (in_left (λ (u : Use). u.written && member_of u.item a) (order_of t k) _ w) (in_reach (λ (u : Use). member_of u.item a) t i s earlier h))

  earlier_writes : (a : Atom) → T (has_atom (order_of t k) a) → T (writes_atom (order_of t i) a) → collide (footprint t k s) (reach t i s earlier) ≡ true
  earlier_writes a h w = true_of _ (second_writes-collide (footprint t k s) (reach t i s earlier) a
      (in_left (λ (u : Use). member_of u.item a) (order_of t k) _ h) (in_reach (λ (u : Use). u.written && member_of u.item a) t i s earlier w))

-- The access set of the later place collides with the may-access set of the earlier one.
pub always_collide : (t : Recording) (i k : ℕ) → i < k → k < places t → InOrder t i k → (s : World) (earlier : List Footprint) → collide (footprint t k s) (reach t i s earlier) ≡ true
always_collide t i k lt within (inl same) s earlier =
    let c = (role t k).chain in
    let first : T (writes_atom (order_of t i) (chain_flag (role t i).chain)) = writes_chain t i (two_members t (chain_of t i) i k lt within refl (sym same)) in
    let there : T (has_atom (order_of t i) (chain_flag c)) = subst (λ (x : ℕ). T (has_atom (order_of t i) (chain_flag x))) same (writes-has (order_of t i) (chain_flag (role t i).chain) first) in
    later_writes t i k s earlier (chain_flag c) (writes_chain t k (two_members t c i k lt within same refl)) there
always_collide t i k lt within (inr (same, inl barrier)) s earlier =
    let written : T (writes_atom (order_of t i) (ring_order (queue_at t k))) = subst (λ (x : ℕ). T (writes_atom (order_of t i) (ring_order x))) same (writes_ring t i barrier) in
    earlier_writes t i k s earlier (ring_order (queue_at t k)) (has_ring t k) written
always_collide t i k lt within (inr (same, inr barrier)) s earlier =
    let there : T (has_atom (order_of t i) (ring_order (queue_at t k))) = subst (λ (x : ℕ). T (has_atom (order_of t i) (ring_order x))) same (has_ring t i) in
    later_writes t i k s earlier (ring_order (queue_at t k)) (writes_ring t k barrier) there
