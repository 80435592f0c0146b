-- When one access set holds another, for the atoms that pass a test.
use native.Mathlib.Omega.{arith}
use Rattle.std.proofs.lemmas.List.Folds.{list_all-append, list_any-append}
use Rattle.std.specs.Prelude.{ℕ, Bool, true, false, cond, ◌&&◌, ◌||◌, T, List, [], ◌∷◌, ◌++◌, Option, Some, None, Result}
use Rattle.std.proofs.Common.{◌⊎◌, inl, inr}
use Rattle.std.specs.List.{list_any, list_all}
use Rattle.sqe_codec.specs.declared.errno.Errno.{Errno}
use Rattle.sqe_codec.specs.Answers.{each, each_ok}
use Rattle.op_meaning.specs.Meaning.{Handle, is_file}
use Rattle.world_parts.specs.Items.{Atom, Item, member_of, Use, writes, Footprint, has_atom, writes_atom}
use Rattle.foot_print.specs.Footprint.{as_reads, use_of, content_of}
use Rattle.world_parts.proofs.Collision.{both, left, right}
use Rattle.foot_print.proofs.Agreement.{in_left, in_right}

-- An access set holds another, for atoms that pass a test.
pub record Over (p : Atom → Bool) (r f : Footprint) : Type 0 where
  pub has : (a : Atom) → T (p a) → T (has_atom f a) → T (has_atom r a)
  pub writes : (a : Atom) → T (p a) → T (writes_atom f a) → T (writes_atom r a)

abbrev pub always : Atom → Bool
always a = true

pub split : {A : Type 0} (p : A → Bool) (xs ys : List A) → T (list_any p (xs ++ ys)) → T (list_any p xs) ⊎ T (list_any p ys)
split p xs ys h = let either = rw list_any-append at h in grind arith

pub drop_false : (b : Bool) → T (b || false) → T b
drop_false b h = grind arith

pub drop_unwritten : (f : Footprint) (a : Atom) → T (writes_atom (as_reads f) a) → ⊥
drop_unwritten [] a h = h
drop_unwritten (x ∷ f) a h = drop_unwritten f a h

module _ (p : Atom → Bool) where
  pub over_self : (f : Footprint) → Over p f f
  over_self f = record { has = λ a e h. h; writes = λ a e h. h }

  pub over_trans : (f g h : Footprint) → Over p f g → Over p g h → Over p f h
  over_trans f g h x y = record { has = λ a e m. x.has a e (y.has a e m); writes = λ a e m. x.writes a e (y.writes a e m) }

  pub over_nothing : (r : Footprint) → Over p r []
  over_nothing r = record { has = λ a e h. absurd h; writes = λ a e h. absurd h }

  pub over_all : (r f g : Footprint) → Over p r f → Over p r g → Over p r (f ++ g)
  over_all r f g x y = record {
    has = λ a e h. (elim (split (λ (u : Use). member_of u.item a) f g h) [ inl k ↦ x.has a e k | inr k ↦ y.has a e k ]);
    writes = λ a e h. (elim (split (λ (u : Use). u.written && member_of u.item a) f g h) [ inl k ↦ x.writes a e k | inr k ↦ y.writes a e k ]);
  }

  pub over_first : (r q f : Footprint) → Over p r f → Over p (r ++ q) f
  over_first r q f x = record { has = λ a e h. in_left _ r q (x.has a e h); writes = λ a e h. in_left _ r q (x.writes a e h) }

  pub over_second : (r q f : Footprint) → Over p q f → Over p (r ++ q) f
  over_second r q f x = record { has = λ a e h. in_right _ r q (x.has a e h); writes = λ a e h. in_right _ r q (x.writes a e h) }

  pub over_both : (r q f g : Footprint) → Over p r f → Over p q g → Over p (r ++ q) (f ++ g)
  over_both r q f g x y = over_all (r ++ q) f g (over_first r q f x) (over_second r q g y)

  pub over_more : (r f : Footprint) (u : Use) → Over p r f → Over p (u ∷ r) (u ∷ f)
  over_more r f u x = over_both (u ∷ []) r (u ∷ []) f (over_self (u ∷ [])) x

  -- A written use holds a read one, and a row holds itself as reads.
  pub over_written : (w : Bool) (x : Item) → Over p (writes x ∷ []) (use_of w x ∷ [])
  over_written true x = over_self (writes x ∷ [])
  over_written false x = record { has = λ a e h. h; writes = λ a e h. absurd h }

  pub over_reads : (f : Footprint) → Over p f (as_reads f)
  over_reads f = record { has = λ a e h. back f a h; writes = λ a e h. absurd (drop_unwritten f a h) }
    where
      back : (g : Footprint) (a : Atom) → T (has_atom (as_reads g) a) → T (has_atom g a)
      back [] a h = h
      back (x ∷ g) a h = elim (member_of x.item a) as (λ b. T (b || has_atom (as_reads g) a) → T (b || has_atom g a)) [ true ↦ λ k. tt | false ↦ λ k. back g a k ] h

  pub over_taken : (r : Footprint) (b : Bool) (f : Footprint) → Over p r f → Over p r (cond b f (as_reads f))
  over_taken r true f x = x
  over_taken r false f x = over_trans r f (as_reads f) x (over_reads f)

  -- Each use is held.
  pub over_uses : (r : Footprint) (test : Use → Bool) → ((u : Use) → T (test u) → Over p r (u ∷ [])) → (f : Footprint) → T (list_all test f) → Over p r f
  over_uses r test g [] h = over_nothing r
  over_uses r test g (u ∷ f) h = over_all r (u ∷ []) f (g u (left (test u) _ h)) (over_uses r test g f (right (test u) _ h))

  -- What an operation has of what is open is held where its content is.
  pub over_content : (c d : ℕ → Handle → Footprint) → ((i : ℕ) (h : Handle) → Over p (c i h) (d i h)) → (x : Option Handle) → Over p (content_of c x) (content_of d x)
  over_content c d x None = over_nothing []
  over_content c d x (Some h) = elim (is_file h.opened) as (λ b. Over p (cond b (c h.opened.target.node h) []) (cond b (d h.opened.target.node h) [])) [ true ↦ x h.opened.target.node h | false ↦ over_nothing [] ]

pub all_append : {A : Type 0} (test : A → Bool) (xs ys : List A) → T (list_all test xs) → T (list_all test ys) → T (list_all test (xs ++ ys))
all_append test xs ys h k = rw list_all-append (both _ _ h k)

pub all_each : {A : Type 0} (test : Use → Bool) (f : A → Footprint) (o : Option A) → ((x : A) → T (list_all test (f x))) → T (list_all test (each f o))
all_each test f o h = grind arith

pub all_each_ok : {A : Type 0} (test : Use → Bool) (f : A → Footprint) (o : Result A Errno) → ((x : A) → T (list_all test (f x))) → T (list_all test (each_ok f o))
all_each_ok test f o h = grind arith
