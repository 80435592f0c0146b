-- What holds of the value of steps that may fail.
use Rattle.std.proofs.Common.{◌≡◌, Bool, true, false, refl}
use Rattle.std.specs.Prelude.{Result, Ok, Err, IfOk}
use Rattle.sqe_codec.specs.declared.errno.Errno.{Errno}
use Rattle.sqe_codec.specs.Answers.{◌>>=◌, ◌>>◌, require}

-- It holds of the whole if it holds of the last step, whatever the first gave, or whatever the first gave that has a property.
pub and_then : {A B : Type 0} (P : B → Type 0) (r : Result A Errno) (f : A → Result B Errno) → ((a : A) → IfOk (f a) P) → IfOk (r >>= f) P
and_then P (Ok a) f h = h a
and_then P (Err e) f h = tt

pub and_so : {A B : Type 0} (Q : A → Type 0) (P : B → Type 0) (r : Result A Errno) (f : A → Result B Errno) → IfOk r Q → ((a : A) → Q a → IfOk (f a) P) → IfOk (r >>= f) P
and_so Q P (Ok a) f q h = h a q
and_so Q P (Err e) f q h = tt

-- The same behind a test, and behind a test that is passed.
pub after : {A B : Type 0} (P : B → Type 0) (r : Result A Errno) (x : Result B Errno) → IfOk x P → IfOk (r >> x) P
after P (Ok a) x h = h
after P (Err e) x h = tt

pub after_so : {B : Type 0} (P : B → Type 0) (b : Bool) (e : Errno) (x : Result B Errno) → (b ≡ true → IfOk x P) → IfOk (require b e >> x) P
after_so P true e x h = h refl
after_so P false e x h = tt
