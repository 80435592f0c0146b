-- Repeated steps, from one state of what is read to another.
use Rattle.std.proofs.Common.{◌≡◌, ℕ, zero, suc, ◌+◌, ◌-◌, ◌<◌, ◌≤◌, Option, None, Some, Result, Ok, refl, ◌∙◌, arith}
use Rattle.text_words.specs.Read.{repeated}

-- So many steps lead from a state, with so many bytes left, to another one with fewer, one for each step at least.
pub record Leads {S F : Type 0} (step : S → Option (Result S F)) (s t : S) (a b : ℕ) : Type 0 where
  pub count : ℕ
  pub on : (m : ℕ) → repeated (count + m) step s ≡ repeated m step t
  pub less : count + b ≤ a

pub leads_none : {S F : Type 0} (step : S → Option (Result S F)) (s : S) (a : ℕ) → Leads step s s a a
leads_none step s a = record {
  count = 0;
  on = λ m. let e : 0 + m ≡ m = omega arith in rw e refl;
  less = omega arith;
}

pub leads_one : {S F : Type 0} (step : S → Option (Result S F)) (s t : S) (a b : ℕ) → step s ≡ Some (Ok t) → b < a → Leads step s t a b
leads_one step s t a b one lt = record {
  count = 1;
  on = λ m. let e : 1 + m ≡ suc m = omega arith in rw (e, repeated, one) refl;
  less = omega (arith, lt);
}

pub leads_then : {S F : Type 0} {step : S → Option (Result S F)} {s t u : S} {a b c : ℕ} → Leads step s t a b → Leads step t u b c → Leads step s u a c
leads_then {step = step} {s = s} f g = record {
  count = f.count + g.count;
  on = λ m. let e : f.count + g.count + m ≡ f.count + (g.count + m) = omega arith in rw e (f.on (g.count + m) ∙ g.on m);
  less = omega (arith, f.less, g.less);
}

pub stops_at : {S F : Type 0} (step : S → Option (Result S F)) (n : ℕ) (state : S) → step state ≡ None → repeated n step state ≡ Ok state
stops_at step zero state none = refl
stops_at step (suc n) state none = rw (repeated, none) refl

-- where no step is left, the state is what all give
pub leads_to : {S F : Type 0} {step : S → Option (Result S F)} {s t : S} {a b : ℕ} → Leads step s t a b → step t ≡ None → repeated a step s ≡ Ok t
leads_to {step = step} {t = t} {a = a} f none =
    let e : a ≡ f.count + (a - f.count) = omega (arith, f.less) in
    rw e (f.on (a - f.count) ∙ stops_at step (a - f.count) t none)
