-- Trees of names: what setting a name, and exchanging two, leaves.
use Rattle.std.specs.Prelude.{◌≡◌, ℕ, true, cond, ◌&&◌, ◌==◌, ◌⊎◌, T, List, Option, Some, None, refl, IfSome}
use Rattle.std.specs.Option.{is_some}
use Rattle.std.specs.Str.{bytes_eq}
use Rattle.std.proofs.lemmas.Bool.{cond_both}
use Rattle.std.proofs.lemmas.Slice.Eq.{bytes_eq-Decides}
use mathlib.Core.Path.{sym, subst, ap, ◌∙◌}
use mathlib.Core.Logic.{inl, inr}
use native.Mathlib.Omega.{arith}
use lib.Dec.{eqb→eq}
use Rattle.file_tree.specs.Tree.{a_directory, Target, Above, names_it, one_below, IsTree}
use Rattle.world_parts.proofs.Collision.{text_eq, left, right}

pub some_apart : {A : Type 0} {x : A} → ¬ (Some x ≡ None)
some_apart e = subst (λ o. T (is_some o)) e tt

pub some_same : {A : Type 0} (x y : A) → Some x ≡ Some y → x ≡ y
some_same x y e = ap (λ o. elim o [ Some z ↦ z | None ↦ x ]) e

abbrev pub Look : Type 0
Look = ℕ → List ℕ → Option Target

abbrev pub directory_of : ℕ → Target
directory_of i = record { node = i; kind = Some a_directory }

-- Names with one that is set, or taken away.
abbrev pub put : Look → ℕ → List ℕ → Option Target → Look
put look d n x e m = cond (e == d && bytes_eq m n) x (look e m)

-- The same place, or above.
abbrev pub UpTo : Look → ℕ → ℕ → Type 0
UpTo look e d = (e ≡ d) ⊎ Above look e d

pub above_with : (look : Look) (e d i : ℕ) (n : List ℕ) → UpTo look e d → look d n ≡ Some (directory_of i) → Above look e i
above_with look e d i n (inl q) h = subst (λ x. Above look x i) (sym q) (names_it d i n h)
above_with look e d i n (inr q) h = one_below e d i n q h

pub above_over : (look : Look) (e d i : ℕ) → UpTo look e d → Above look d i → Above look e i
above_over look e d i u (names_it _ _ n h) = above_with look e d i n u h
above_over look e d i u (one_below _ c _ n a h) = one_below e c i n (above_over look e d c u a) h

-- What is above by some names is above by others that have them.
pub above_in : (look other : Look) → ((d i : ℕ) (n : List ℕ) → look d n ≡ Some (directory_of i) → other d n ≡ Some (directory_of i)) → (e i : ℕ) → Above look e i → Above other e i
above_in look other f e i (names_it _ _ n h) = names_it e i n (f e i n h)
above_in look other f e i (one_below _ d _ n a h) = one_below e d i n (above_in look other f e d a) (f d i n h)

-- Two looks that answer alike are both trees.
pub tree_same : (look other : Look) → ((d : ℕ) (n : List ℕ) → other d n ≡ look d n) → IsTree look → IsTree other
tree_same look other h w = subst IsTree (λ i d n. sym (h d n) i) w

pub up_over : (look : Look) (e d i : ℕ) → UpTo look e d → UpTo look d i → UpTo look e i
up_over look e d i u (inl q) = subst (UpTo look e) q u
up_over look e d i u (inr a) = inr (above_over look e d i u a)

pub up_in : (look other : Look) → ((d i : ℕ) (n : List ℕ) → look d n ≡ Some (directory_of i) → other d n ≡ Some (directory_of i)) → (e i : ℕ) → UpTo look e i → UpTo other e i
up_in look other f e i (inl q) = inl q
up_in look other f e i (inr a) = inr (above_in look other f e i a)

-- Where a name may be set: to a node that is there and not the root; a directory has no other name, and the new one isn't in it or below.
pub record MayPut (look : Look) (d : ℕ) (n : List ℕ) (x : Option Target) : Type 0 where
  pub leads : IfSome x (λ t. is_some t.kind ≡ true)
  pub not_root : IfSome x (λ t. ¬ (t.node ≡ 0))
  pub alone : (t : Target) → t.kind ≡ Some a_directory → x ≡ Some t → (e : ℕ) (m : List ℕ) → look e m ≡ Some t → (e ≡ d) × (m ≡ n)
  pub not_below : (i : ℕ) → x ≡ Some (directory_of i) → ¬ (UpTo look i d)

pub may_remove_name : (look : Look) (d : ℕ) (n : List ℕ) → MayPut look d n None
may_remove_name look d n = record { leads = tt; not_root = tt; alone = λ t k q. absurd (some_apart (sym q)); not_below = λ i q. absurd (some_apart (sym q)) }

-- At the place that is set, or elsewhere.
pub here_or_not : (look : Look) (d : ℕ) (n : List ℕ) (x : Option Target) (e : ℕ) (m : List ℕ) → ((put look d n x e m ≡ x) × (e ≡ d) × (m ≡ n)) ⊎ ((put look d n x e m ≡ look e m) × ((e ≡ d) → (m ≡ n) → ⊥))
here_or_not look d n x e m = grind (arith, text_eq, bytes_eq-Decides)

module _ (look : Look) (d : ℕ) (n : List ℕ) (x : Option Target) (may : MayPut look d n x) where
  -- What is above another afterwards was so before, or goes through the new name.
  pub above_put : (e i : ℕ) → Above (put look d n x) e i → Above look e i ⊎ ((t : ℕ) × (x ≡ Some (directory_of t)) × UpTo look e d × UpTo look t i)
  above_put e i (names_it _ _ m h) = elim (here_or_not look d n x e m) [
    | inl k ↦ inr (i, sym k.0 ∙ h, inl k.1, inl refl)
    | inr k ↦ inl (names_it e i m (sym k.0 ∙ h))
  ]
  above_put e i (one_below _ c _ m a h) = elim (here_or_not look d n x c m) [
    | inl k ↦ elim (above_put e c a) [
      | inl b ↦ inr (i, sym k.0 ∙ h, inr (subst (Above look e) k.1 b), inl refl)
      | inr b ↦ absurd (may.not_below b.0 b.1 (subst (UpTo look b.0) k.1 b.3))
    ]
    | inr k ↦ elim (above_put e c a) [
      | inl b ↦ inl (one_below e c i m b (sym k.0 ∙ h))
      | inr b ↦ inr (b.0, b.1, b.2, inr (above_with look b.0 c i m b.3 (sym k.0 ∙ h)))
    ]
  ]

  -- Setting such a name leaves a tree.
  pub put_tree : IsTree look → IsTree (put look d n x)
  put_tree w = record {
    names_lead = either (λ t. is_some t.kind ≡ true) may.leads w.names_lead;
    root_unnamed = either (λ t. ¬ (t.node ≡ 0)) may.not_root w.root_unnamed;
    one_name = one_name;
    no_cycle = no_cycle;
  }
    where
      either : (P : Target → Type 0) → IfSome x P → ((e : ℕ) (m : List ℕ) → IfSome (look e m) P) → (e : ℕ) (m : List ℕ) → IfSome (put look d n x e m) P
      either P a b e m = cond_both (e == d && bytes_eq m n) x (look e m) (λ o. IfSome o P) (λ h. a) (λ h. b e m)

      one_name : (e f : ℕ) (m k : List ℕ) (t : Target) → t.kind ≡ Some a_directory → put look d n x e m ≡ Some t → put look d n x f k ≡ Some t → (e ≡ f) × (m ≡ k)
      one_name e f m k t c g h = grind (arith, here_or_not look d n x e m, here_or_not look d n x f k, may.alone t c, w.one_name e f m k t c)

      no_cycle : (i : ℕ) → ¬ (Above (put look d n x) i i)
      no_cycle i a = elim (above_put i i a) [ inl b ↦ w.no_cycle i b | inr b ↦ may.not_below b.0 b.1 (up_over look b.0 i d b.3 b.2) ]

pub remove_tree : (look : Look) (d : ℕ) (n : List ℕ) → IsTree look → IsTree (put look d n None)
remove_tree look d n w = put_tree look d n None (may_remove_name look d n) w

-- A name that is left after another is taken away was there before.
left_there : (look : Look) (d : ℕ) (n : List ℕ) (e : ℕ) (m : List ℕ) (t : Target) → put look d n None e m ≡ Some t → (look e m ≡ Some t) × ((e ≡ d) → (m ≡ n) → ⊥)
left_there look d n e m t h = grind (arith, here_or_not look d n None e m)

as_directory : (i : ℕ) (x : Target) → Some x ≡ Some (directory_of i) → (x.node ≡ i) × (x.kind ≡ Some a_directory)
as_directory i x h = grind arith

-- Moving a name: one place's target goes to another, which isn't in it or below.
module _ (look : Look) (w : IsTree look) (p q : ℕ) (n m : List ℕ) (x : Target) (at : look p n ≡ Some x) (apart : x.kind ≡ Some a_directory → ¬ (UpTo look x.node q)) where
  abbrev without : Look
  without = put look p n None

  abbrev moved : Look
  moved = put without q m (Some x)

  in_without : (d i : ℕ) (k : List ℕ) → without d k ≡ Some (directory_of i) → look d k ≡ Some (directory_of i)
  in_without d i k h = (left_there look p n d k (directory_of i) h).0

  pub may_move : MayPut without q m (Some x)
  may_move = record {
    leads = subst (λ o. IfSome o (λ t. is_some t.kind ≡ true)) at (w.names_lead p n);
    not_root = subst (λ o. IfSome o (λ t. ¬ (t.node ≡ 0))) at (w.root_unnamed p n);
    alone = λ t c h e k g.
        let old = left_there look p n e k t g in
        let o = w.one_name e p k n t c old.0 (at ∙ h) in
        absurd (old.1 o.0 o.1);
    not_below = λ i h u.
        let e = as_directory i x h in
        apart e.1 (subst (λ j. UpTo look j q) (sym e.0) (up_in without look in_without i q u));
  }

  pub move_tree : IsTree moved
  move_tree = put_tree without q m (Some x) may_move (remove_tree look p n w)

  -- Exchanging two names: the other target goes to the first place, which isn't in it or below.
  module _ (y : Target) (at_other : look q m ≡ Some y) (other : ¬ (x.node ≡ y.node)) (apart_other : y.kind ≡ Some a_directory → ¬ (UpTo look y.node p)) where
    may_exchange : MayPut moved p n (Some y)
    may_exchange = record {
      leads = subst (λ o. IfSome o (λ t. is_some t.kind ≡ true)) at_other (w.names_lead q m);
      not_root = subst (λ o. IfSome o (λ t. ¬ (t.node ≡ 0))) at_other (w.root_unnamed q m);
      alone = λ t c h e k g. absurd (nowhere t c (some_same y t h) e k g);
      not_below = λ i h. (let z = as_directory i y h in λ u. not_up z.1 (subst (λ j. UpTo moved j p) (sym z.0) u));
    }
      where
        nowhere : (t : Target) → t.kind ≡ Some a_directory → y ≡ t → (e : ℕ) (k : List ℕ) → moved e k ≡ Some t → ⊥
        nowhere t c z e k g = grind (arith, here_or_not without q m (Some x) e k, left_there look p n e k t, w.one_name e q k m t c)

        not_up : y.kind ≡ Some a_directory → ¬ (UpTo moved y.node p)
        not_up c (inl a) = apart_other c (inl a)
        not_up c (inr a) = elim (above_put without q m (Some x) may_move y.node p a) [
          | inl b ↦ apart_other c (inr (above_in without look in_without y.node p b))
          | inr b ↦
              w.no_cycle y.node
              (above_with look y.node q y.node m (up_in without look in_without y.node q b.2) (at_other ∙ (λ i. Some (record { node = y.node; kind = c i }))))
        ]

    exchanged_later : IsTree (put moved p n (Some y))
    exchanged_later = put_tree moved p n (Some y) may_exchange move_tree

    pub exchange_tree : IsTree (put (put look p n (Some y)) q m (Some x))
    exchange_tree = tree_same (put moved p n (Some y)) (put (put look p n (Some y)) q m (Some x)) same exchanged_later
      where
        same : (e : ℕ) (k : List ℕ) → put (put look p n (Some y)) q m (Some x) e k ≡ put moved p n (Some y) e k
        same e k = grind (arith, clash e k)
          where
            clash : (e : ℕ) (k : List ℕ) → T (e == q && bytes_eq k m) → T (e == p && bytes_eq k n) → ⊥
            clash e k g h =
                let one : look e k ≡ Some y = (λ i. look (eqb→eq e q (left _ _ g) i) (text_eq k m (right (e == q) _ g) i)) ∙ at_other in
                let two : look e k ≡ Some x = (λ i. look (eqb→eq e p (left _ _ h) i) (text_eq k n (right (e == p) _ h) i)) ∙ at in
                other (ap (λ (v : Target). v.node) (some_same x y (sym two ∙ one)))
