-- Bytes that came behind those that are held.
use Rattle.std.proofs.Common.{◌≡◌, ◌∙◌, ◌+◌, ◌<◌, ◌≤◌, ◌++◌, ◌⊎◌, [], ℕ, Bool, true, false, List, length, drop, take, Option, Some, Result, Ok, Err, IsErrAnd, IfErr, refl, sym, ap, subst, inl, inr, append_assoc, length-append, arith}
use Rattle.std.specs.Io.KnownBytes.{Consumes}
use Rattle.std.proofs.KnownBytes.{Consumes-nil, Consumes-trans}
use Rattle.std.proofs.lemmas.List.{append-nil, length-take-le, take-append-drop}
use Rattle.byte_transfer.specs.Transfer.{Takes}
use Rattle.trace_format.specs.Grammar.{Grammar, Breaks, Spells, fault}
use Rattle.trace_format.specs.declared.fault.TraceFault.{TraceFault}
use Rattle.trace_format.specs.declared.fault.Kind.TheVariants.{Memory}
use Rattle.trace_stream.specs.declared.fault.StreamFault.{StreamFault}
use Rattle.trace_stream.specs.declared.fault.StreamFault.TheVariants.{Trace, Read}
use Rattle.trace_stream.specs.Held.{Held, grown, Gains, Uses, Reads, Tries, Fails, Stops, IsOutside, failed, failed_of}

-- what was taken, and then more
pub takes_on : (a b c : Option (List ℕ)) → Takes a b → Takes b c → Takes a c
takes_on a b c before more = (before.0 ++ more.0, Consumes-trans a b c before.0 more.0 before.1 more.1)

-- what the reader lost came behind
pub record Grows (h h' : Held) (left left' : Option (List ℕ)) : Type 0 where
  pub more : List ℕ
  pub taken : Consumes left left' more
  pub is : h' ≡ grown h more

abbrev pub none_yet : (h : Held) (left : Option (List ℕ)) → Grows h h left left
none_yet h left =
    record { more = []; taken = Consumes-nil left; is = ap (λ (r : List ℕ). grown (record { rest = []; place = h.place }) r) (sym (append-nil h.rest)) }

pub joined : (h h1 h2 : Held) (more rest : List ℕ) → h1 ≡ grown h more → h2 ≡ grown h1 rest → h2 ≡ grown h (more ++ rest)
joined h h1 h2 more rest a b =
    b ∙ ap (λ (k : Held). grown k rest) a ∙ ap (λ (r : List ℕ). grown (record { rest = []; place = h.place }) r) (append_assoc h.rest more rest)

abbrev pub grows_on : (some : Bool) (h h1 h2 : Held) (a b c : Option (List ℕ)) → Grows h h1 a b → Gains some h1 h2 b c → Grows h h2 a c
grows_on some h h1 h2 a b c g m =
    record { more = g.more ++ m.0; taken = Consumes-trans a b c g.more m.0 g.taken m.1; is = joined h h1 h2 g.more m.0 g.is m.2 }

-- and whether any came
pub record Grew (h h' : Held) (left left' : Option (List ℕ)) (some : Bool) : Type 0 where
  pub grows : Grows h h' left left'
  pub came : some ≡ true → 0 < length grows.more
  pub none : some ≡ false → grows.more ≡ []

pub none_came : (h : Held) (left : Option (List ℕ)) → Grew h h left left false
none_came h left = record { grows = none_yet h left; came = λ e. absurd (cc); none = λ e. refl }

pub came_on : (some : Bool) (h h1 h2 : Held) (a b c : Option (List ℕ)) → Grew h h1 a b some → Gains true h1 h2 b c → Grew h h2 a c true
came_on some h h1 h2 a b c g m = record {
  grows = grows_on true h h1 h2 a b c g.grows m;
  came = λ e. omega (arith, length-append g.grows.more m.0, m.3);
  none = λ e. absurd (cc);
}

-- the reader is at its end
pub came_last : (some : Bool) (h h1 h2 : Held) (a b c : Option (List ℕ)) → Grew h h1 a b some → Gains false h1 h2 b c → Gains some h h2 a c
came_last true h h1 h2 a b c g m =
    let all = grows_on false h h1 h2 a b c g.grows m in (all.more, all.taken, all.is, omega (arith, length-append g.grows.more m.0, g.came refl))
came_last false h h1 h2 a b c g m =
    let all = grows_on false h h1 h2 a b c g.grows m in
    let none : g.grows.more ++ m.0 ≡ [] = ap (λ (x : List ℕ). x ++ m.0) (g.none refl) ∙ m.3.0 in
    (all.more, all.taken, all.is, (none, m.3.1))

-- some bytes came
pub came_some : (some : Bool) (h h1 : Held) (a b : Option (List ℕ)) → Grew h h1 a b some → some ≡ true → Gains true h h1 a b
came_some some h h1 a b g is = (g.grows.more, g.grows.taken, g.grows.is, g.came is)

-- ---- parts that are read there

consumes_on : (a b c : Option (List ℕ)) (more : List ℕ) → Consumes a b more → Consumes b c [] → Consumes a c more
consumes_on a b c more x y = subst (Consumes a c) (append-nil more) (Consumes-trans a b c more [] x y)

pub reads_out : {A : Type 0} (g : Grammar A) (h h1 h2 : Held) (a b c : Option (List ℕ)) (x : A) → Grows h h1 a b → Tries g h1 h2 b c (Some x) → Reads g h h2 a c x
reads_out g h h1 h2 a b c x so_far t =
    (so_far.more, consumes_on a b c so_far.more so_far.taken t.1, subst (λ (k : Held). Uses g k h2 x) so_far.is t.0)

pub fails_out : {A : Type 0} (g : Grammar A) (h h1 : Held) (a b c : Option (List ℕ)) (e : StreamFault) → Grows h h1 a b → Fails g h1 b c e → Fails g h a c e
fails_out g h h1 a b c Read so_far f = tt
fails_out g h h1 a b c (Trace f) so_far (inl memory) = inl memory
fails_out g h h1 a b c (Trace f) so_far (inr t) =
    let at : Breaks g h.place ((h.rest ++ so_far.more) ++ t.0) f = subst (λ (k : Held). Breaks g k.place (k.rest ++ t.0) f) so_far.is t.2 in
    inr (so_far.more ++ t.0, Consumes-trans a b c so_far.more t.0 so_far.taken t.1, subst (λ (x : List ℕ). Breaks g h.place x f) (append_assoc h.rest so_far.more t.0) at, t.3)

-- the value is read from the first bytes that are held
pub uses_taken : {A : Type 0} (g : Grammar A) (h h' : Held) (bytes : List ℕ) (place n : ℕ) (x y : A) → bytes ≡ h.rest → place ≡ h.place → n ≤ length bytes → Spells g place (take n bytes) y → y ≡ x
    → h'.rest ≡ drop n h.rest → h'.place ≡ h.place + n → Uses g h h' x
uses_taken g h h' bytes place n x y same at le spells is rest on = (
  take n bytes,
  sym (take-append-drop n h.rest) ∙ ap (λ (b : List ℕ). take n b ++ drop n h.rest) (sym same) ∙ ap (λ (r : List ℕ). take n bytes ++ r) (sym rest),
  subst (λ (p : ℕ). Spells g p (take n bytes) x) at (subst (λ z. Spells g place (take n bytes) z) is spells),
  on ∙ ap (λ (k : ℕ). h.place + k) (sym (length-take-le n bytes le)),
)

pub reads_held : {A : Type 0} (g : Grammar A) (h h' : Held) (left : Option (List ℕ)) (x : A) → Uses g h h' x → Reads g h h' left left x
reads_held g h h' left x uses = reads_out g h h h' left left left x (none_yet h left) (uses, Consumes-nil left)

-- a fault of the bytes that are held is told where it stops
pub stops_there : {A : Type 0} (g : Grammar A) (h : Held) (a b : Option (List ℕ)) (f : TraceFault) (e : StreamFault)
    → (f ≡ fault Memory 0) ⊎ Breaks g h.place h.rest f → Stops f a b e → Fails g h a b e
stops_there g h a b f Read why s = tt
stops_there g h a b f (Trace t) why (inl memory) = inl memory
stops_there g h a b f (Trace t) (inl memory) (inr s) = inl (s.0 ∙ memory)
stops_there g h a b f (Trace t) (inr breaks) (inr s) =
    let here : Breaks g h.place (h.rest ++ []) f = subst (λ (x : List ℕ). Breaks g h.place x f) (sym (append-nil h.rest)) breaks in
    inr ([], s.1, subst (λ (x : TraceFault). Breaks g h.place (h.rest ++ []) x) (sym s.0) here, s.2)

-- what stood in the way of a part stands in the way of the whole
pub out_of : {X : Type 0} (out : Result X StreamFault) (e : StreamFault) (P Q : StreamFault → Type 0) → IsErrAnd out (λ y. y ≡ e) → P e → ((y : StreamFault) → P y → Q y) → IfErr out Q
out_of (Ok x) e P Q h p on = absurd h
out_of (Err y) e P Q h p on = subst Q (sym h) (on e p)

pub failures_out : {X : Type 0} (out : Result X StreamFault) (e : StreamFault) (old new : ℕ) → IsErrAnd out (λ y. y ≡ e) → new ≡ old + failed_of e → new ≡ old + failed out
failures_out (Ok x) e old new h is = absurd h
failures_out (Err y) e old new h is = is ∙ ap (λ (z : StreamFault). old + failed_of z) (sym h)

pub outside_stops : (f : TraceFault) (a b : Option (List ℕ)) (e : StreamFault) → IsOutside e → Stops f a b e
outside_stops f a b Read o = tt
outside_stops f a b (Trace t) o = inl o
