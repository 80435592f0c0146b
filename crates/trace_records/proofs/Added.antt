-- What was added where a call gave Ok, said otherwise.
use Rattle.std.proofs.Common.{◌≡◌, ◌∙◌, Result, Ok, Err, OnOk}

pub on_ok : {T E A : Type 0} (r : Result T E) (x y z : A) → OnOk r (x ≡ y) → y ≡ z → OnOk r (x ≡ z)
on_ok (Ok t) x y z h e = h ∙ e
on_ok (Err t) x y z h e = tt
