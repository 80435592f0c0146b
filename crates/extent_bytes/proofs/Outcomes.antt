-- What is known of a value by its variant.
use Rattle.std.proofs.Common.{◌≡◌, ◌⊎◌, inl, inr, List, sym, ◌∙◌, subst, refl, Some, None, false, true}
use Rattle.std.specs.Prelude.{OnOk, OnErr, IsSome, Result, Ok, Err, Option}
use Rattle.std.specs.Prelude.{is_ok, if◌then◌else◌, Bool, IsTrue}

pub err_of : {T E : Type 0} {P : Type 0} (r : Result T E) → P → OnErr r P
err_of (Ok x) h = tt
err_of (Err e) h = h

pub ok_of : {T E : Type 0} {P : Type 0} (r : Result T E) → P → OnOk r P
ok_of (Ok x) h = h
ok_of (Err e) h = tt

pub on_ok_both : {T E P Q S : Type 0} (r : Result T E) → (P → Q → S) → OnOk r P → OnOk r Q → OnOk r S
on_ok_both (Ok x) f p q = f p q
on_ok_both (Err e) f p q = tt

pub some_or_none : {X : Type 0} (o : Option X) → IsSome o ⊎ (o ≡ None)
some_or_none None = inr refl
some_or_none (Some x) = inl refl

pub some_is : {X : Type 0} (o : Option X) (v : X) → o ≡ Some v → IsSome o
some_is o v e = let P : Option _ → Type 0 = λ u. IsSome u in subst P (sym e) refl

pub none_is : {X : Type 0} (o : Option X) → (IsSome o → ⊥) → o ≡ None
none_is None h = refl
none_is (Some x) h = absurd (h refl)

pub some_not_none : {X : Type 0} {P : Type 0} (o : Option X) → IsSome o → o ≡ None → P
some_not_none None h e = absurd (cc h)
some_not_none (Some x) h e = absurd (cc e)

-- what an append leaves where it succeeds
pub ok_items : {T E X : Type 0} (r : Result T E) (xs ys zs ws : List X) → zs ≡ (if is_ok r then ys else xs) → ys ≡ ws → OnOk r (zs ≡ ws)
ok_items (Ok x) xs ys zs ws h e = h ∙ e
ok_items (Err e) xs ys zs ws h d = tt

-- no test is both true and false
pub not_both : {P : Type 0} (b : Bool) → IsTrue b → b ≡ false → P
not_both true t e = absurd (cc e)
not_both false t e = absurd (cc t)
