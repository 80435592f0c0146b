use Rattle.std.proofs.Common.{◌≡◌, ℕ, suc, ◌+◌, ◌++◌, ◌∙◌, sym, ap, subst, arith}
use Rattle.std.specs.BTreeMap.{get}
use Rattle.std.specs.List.{AllByRecursion}
use Rattle.std.specs.Ordering.{nat_cmp}
use Rattle.dependencies.specs.Rule.{foot_at}
use Rattle.foot_waits.specs.Rule.{IsFirstUse}
use Rattle.foot_waits.specs.Told.{IsAt}
use Rattle.depend_log.specs.Shared.{IsWithin, waits_of}
use Rattle.depend_log.specs.Waits.{AreWaits}
use Rattle.depend_log.proofs.Told.{are_waits, entries_within}
use Rattle.depend_log.proofs.run.Dependencies.waits_for.Goals as goal

pub add_waits-requires : goal.add_waits-requires
add_waits-requires c =
    let t = c.args.trace.now in
    let d = c.args.self.now in
    let f = c.args.footprint.now in
    let at = c.requires.run.waits in
    let here : IsAt d.waits (foot_at t) d.waits.place = subst (λ n. IsAt d.waits (foot_at t) n) (sym at.place) at in
    let mine : foot_at t d.waits.place ≡ f = ap (foot_at t) at.place ∙ sym c.requires.footprint in
    let found = c.in_ok-found.found in
    let first : (j : ℕ) → IsFirstUse (foot_at t) d.place j (get nat_cmp found j) =
    subst (λ n. (j : ℕ) → IsFirstUse (foot_at t) n j (get nat_cmp found j)) at.place (c.in_ok-found.ensures.first (foot_at t) mine here) in
    subst (λ feet. AllByRecursion (IsWithin f feet) found.entries) (sym c.as_slice.ensures.value)
    (entries_within t d.place f d.feet.items c.requires.footprint c.requires.run.feet found c.len.ensures.ordered first)

pub returns-clause-waits : goal.returns-clause-waits
returns-clause-waits c =
    let t = c.args.trace.now in
    let d = c.args.self.now in
    let f = c.args.footprint.now in
    let at = c.requires.run.waits in
    let here : IsAt d.waits (foot_at t) d.waits.place = subst (λ n. IsAt d.waits (foot_at t) n) (sym at.place) at in
    let mine : foot_at t d.waits.place ≡ f = ap (foot_at t) at.place ∙ sym c.requires.footprint in
    let found = c.in_ok-found.found in
    let first : (j : ℕ) → IsFirstUse (foot_at t) d.place j (get nat_cmp found j) =
    subst (λ n. (j : ℕ) → IsFirstUse (foot_at t) n j (get nat_cmp found j)) at.place (c.in_ok-found.ensures.first (foot_at t) mine here) in
    subst (λ ws. AreWaits t d.place ws) (sym (c.in_ok-add_waits.ensures ∙ (λ i. c.in_ok-waits.ensures.items i ++ waits_of f (c.as_slice.ensures.value i) found.entries)))
    (are_waits t d.place f d.feet.items c.requires.footprint c.requires.run.feet found c.len.ensures.ordered first)

pub returns-clause-known : goal.returns-clause-known
returns-clause-known c =
    let t = c.args.trace.now in
    let d = c.args.self.now in
    let at = c.requires.run.waits in
    let here : IsAt d.waits (foot_at t) d.waits.place = subst (λ n. IsAt d.waits (foot_at t) n) (sym at.place) at in
    let mine : foot_at t d.waits.place ≡ c.args.footprint.now = ap (foot_at t) at.place ∙ sym c.requires.footprint in
    let next : suc d.waits.place ≡ d.place + 1 = omega (arith, at.place) in
    subst (λ n. IsAt c.next.new.self (foot_at t) n) next (c.in_ok-found.ensures.at (foot_at t) mine here)
