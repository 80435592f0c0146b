-- What an accepted answer says of its tests, and where access sets hold others.
use native.Mathlib.Omega.{arith}
use Rattle.std.specs.Prelude.{◌≡◌, Bool, ◌&&◌, T, ◌++◌, Option, Some, Result, Ok, Err, ok_or, is_ok, refl}
use mathlib.Core.Path.{sym, subst, ap}
use Rattle.sqe_codec.specs.declared.errno.Errno.{Errno}
use Rattle.sqe_codec.specs.Answers.{◌>>=◌, ◌>>◌, require, each_ok}
use Rattle.world_parts.specs.World.{World}
use Rattle.op_meaning.specs.Meaning.{Effect}
use Rattle.world_parts.specs.Items.{member_of, Use, Footprint, Holds}
use Rattle.foot_print.proofs.Agreement.{in_left, in_right}
use Rattle.foot_print.proofs.CoverChanges.{SupportsAll}

pub err_apart : {A : Type 0} {e : Errno} {x : A} → Err e ≡ Ok x → ⊥
err_apart h = subst (λ r. T (is_ok r)) (sym h) tt

pub ok_same : {A : Type 0} (x y : A) → ◌≡◌ {A = Result A Errno} (Ok x) (Ok y) → x ≡ y
ok_same x y e = ap (λ r. elim r [ Ok z ↦ z | Err e ↦ x ]) e

pub ok_bind : {A B : Type 0} (r : Result A Errno) (f : A → Result B Errno) (y : B) → (r >>= f) ≡ Ok y → (x : A) × (r ≡ Ok x) × (f x ≡ Ok y)
ok_bind (Ok x) f y h = (x, refl, h)
ok_bind (Err e) f y h = absurd (err_apart h)

pub ok_then : {A B : Type 0} (r : Result A Errno) (f : Result B Errno) (y : B) → (r >> f) ≡ Ok y → (f ≡ Ok y) × T (is_ok r)
ok_then r f y h = grind arith

pub ok_require : {A : Type 0} (b : Bool) (e : Errno) (r : Result A Errno) (y : A) → (require b e >> r) ≡ Ok y → (r ≡ Ok y) × T b
ok_require b e r y h = grind arith

pub ok_some : {A : Type 0} (o : Option A) (e : Errno) (x : A) → ok_or o e ≡ Ok x → o ≡ Some x
ok_some o e x h = grind arith

-- What stands behind a test is the same where it is so once the test is passed.
pub after_require : {A : Type 0} (b : Bool) (e : Errno) (x y : Result A Errno) → (T b → x ≡ y) → (require b e >> x) ≡ (require b e >> y)
after_require b e x y h = grind arith

-- What an accepted answer changes is supported where that of its effect is.
pub supports_effect : (g : Footprint) (u : World) (x y : Effect) → ◌≡◌ {A = Result Effect Errno} (Ok x) (Ok y) → SupportsAll g u x.changes → SupportsAll g u y.changes
supports_effect g u x y e h = subst (λ z. SupportsAll g u z.changes) (ok_same x y e) h

pub holds_left : (f g : Footprint) → Holds (f ++ g) f
holds_left f g = record { has = λ a m. in_left (λ (u : Use). member_of u.item a) f g m; writes = λ a m. in_left (λ (u : Use). u.written && member_of u.item a) f g m }

pub holds_right : (f g : Footprint) → Holds (f ++ g) g
holds_right f g = record { has = λ a m. in_right (λ (u : Use). member_of u.item a) f g m; writes = λ a m. in_right (λ (u : Use). u.written && member_of u.item a) f g m }

pub holds_over : (f g h : Footprint) → Holds f g → Holds g h → Holds f h
holds_over f g h a b = record { has = λ x m. a.has x (b.has x m); writes = λ x m. a.writes x (b.writes x m) }

-- What is used at an accepted value.
pub holds_ok : {A : Type 0} (f : A → Footprint) (r : Result A Errno) (x : A) → r ≡ Ok x → Holds (each_ok f r) (f x)
holds_ok f r x h = subst (λ q. Holds (each_ok f q) (f x)) (sym h) (record { has = λ a m. m; writes = λ a m. m })
