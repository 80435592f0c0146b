use Rattle.std.proofs.Common.{◌≡◌, suc, ◌<◌, ◌≤◌, ◌++◌, ◌∷◌, [], map, drop, length, ap, sym, subst, ◌∙◌, refl, arith, Some, List}
use Rattle.std.specs.Prelude.{slice_get, Option}
use Rattle.std.specs.Option.{option_map}
use Rattle.std.proofs.Math.ListN.{set, length-set}
use Rattle.std.proofs.lemmas.List.{length_push, length-map, map-set, drop_all}
use Rattle.std.proofs.lemmas.Option.{slice_get_read, slice_get-map, get_or_from_slice_get}
use Rattle.std.proofs.lemmas.Iterator.Adapters.{YieldsList-from_vec}
use Rattle.std.proofs.lemmas.Iterator.Consumers.{YieldsList-turn, YieldsList-end}
use Rattle.round_scheduler.specs.Telling.{held_meant}
use Rattle.round_scheduler.specs.declared.telling.Held.{Held}
use Rattle.replay_core.specs.declared.round_log.WaitedFor.{WaitedFor}
use Rattle.replay_core.specs.Waits.{waited_meant}
use Rattle.replay_core.specs.Noted.{noted}
use Rattle.replay_core.proofs.Lists.{drop-here}
use Rattle.replay_core.proofs.round_log.write_held.Goals.{In-Some, In-None}
use Rattle.replay_core.proofs.round_log.write_held.Goals as goal

-- the place of this turn
is_next : (c : In-Some) → (length c.loop-found.yielded < length c.args.held) × (slice_get c.args.held (length c.loop-found.yielded) ≡ Some c.in-Some.found)
is_next c =
    let begin = c.into_iter-found-iterator.ensures.into_iter_gives in
    let turn = YieldsList-turn (YieldsList-from_vec {s = c.into_iter-found-iterator.result} c.into_vec-found-items.result.items begin.0 (begin.1 ∙ c.into_vec-found-items.result.ok.0)) c.loop-found.yielded c.loop-found.found-iterator c.loop-found.yielded_by c.next.result c.next.new.self c.in-Some.found c.in-Some.is c.next.ensures.steps in
    let here : slice_get c.into_vec-found-items.result.items (length c.loop-found.yielded) ≡ Some c.in-Some.found = slice_get_read c.into_vec-found-items.result.items (length c.into_vec-found-items.result.items) (length c.loop-found.yielded) c.in-Some.found refl turn.0 turn.1 in
    (subst (λ (hs : List Held). length c.loop-found.yielded < length hs) c.into_vec-found-items.ensures turn.0, ap (λ hs. slice_get hs (length c.loop-found.yielded)) (sym c.into_vec-found-items.ensures) ∙ here)

within : (c : In-Some) → c.in-Some.found.place < length c.args.waits.now.items
within c =
    let n = is_next c in
    subst (λ (h : Held). h.place < length c.args.waits.now.items) (get_or_from_slice_get c.args.held (length c.loop-found.yielded) c.in-Some.found c.in-Some.found n.1) (c.requires (length c.loop-found.yielded) c.in-Some.found n.0)

pub index_mut-requires : goal.index_mut-requires
index_mut-requires c =
    let d = (goal.at.index_mut-requires c).In-Some in
    omega (arith, within d, c.loop-found.invariant.many, c.loop-found.waits.ok.0)

-- what is written in it
wait : (c : In-Some) → Option WaitedFor
wait c = Some (record { place = c.in-Some.found.holder; item = c.in-Some.found.item })

written : (c : In-Some) → noted (map (option_map waited_meant) (set c.loop-found.waits.items c.in-Some.found.place (wait c))) (drop (length (c.loop-found.yielded ++ c.in-Some.found ∷ [])) (map held_meant c.args.held))
    ≡ noted (map (option_map waited_meant) c.args.waits.now.items) (map held_meant c.args.held)
unfolding wait
written c =
    let n = length c.loop-found.yielded in
    let hs = map held_meant c.args.held in
    let ws = c.loop-found.waits.items in
    let count : suc n ≡ length (c.loop-found.yielded ++ c.in-Some.found ∷ []) = omega (arith, length_push c.loop-found.yielded c.in-Some.found) in
    let here : drop n hs ≡ held_meant c.in-Some.found ∷ drop (suc n) hs = drop-here hs n (held_meant c.in-Some.found) (slice_get-map held_meant c.args.held n ∙ ap (option_map held_meant) (is_next c).1) in
    (λ i. noted (map-set (option_map waited_meant) ws c.in-Some.found.place (wait c) i) (drop (sym count i) hs))
    ∙ ap (noted (map (option_map waited_meant) ws)) (sym here) ∙ c.loop-found.invariant.rest

many : (c : In-Some) → length (set c.loop-found.waits.items c.in-Some.found.place (wait c)) ≡ length c.args.waits.now.items
many c = length-set c.loop-found.waits.items c.in-Some.found.place (wait c) ∙ c.loop-found.invariant.many

pub loop-found-preserved : goal.loop-found-preserved
unfolding wait
loop-found-preserved c = let d = (goal.at.loop-found-preserved c).In-Some in record { next = tt; finite = tt; many = many d; rest = written d }

pub loop-found-preserved-in-Some : goal.loop-found-preserved-in-Some
unfolding wait
loop-found-preserved-in-Some c = let d = (goal.at.loop-found-preserved-in-Some c).In-Some in record { next = tt; finite = tt; many = many d; rest = written d }

pub loop-found-preserved-in-Some-2 : goal.loop-found-preserved-in-Some-2
unfolding wait
loop-found-preserved-in-Some-2 c = let d = (goal.at.loop-found-preserved-in-Some-2 c).In-Some in record { next = tt; finite = tt; many = many d; rest = written d }

pub returns-clause-noted : goal.returns-clause-noted
returns-clause-noted c =
    let d = (goal.at.returns-clause-noted c).In-None in
    let begin = c.into_iter-found-iterator.ensures.into_iter_gives in
    let end = YieldsList-end (YieldsList-from_vec {s = c.into_iter-found-iterator.result} c.into_vec-found-items.result.items begin.0 (begin.1 ∙ c.into_vec-found-items.result.ok.0)) c.loop-found.yielded c.loop-found.found-iterator c.loop-found.yielded_by c.next.result c.next.new.self c.in-None.is c.next.ensures.steps in
    let hs = map held_meant c.args.held in
    let few : length hs ≤ length c.loop-found.yielded = omega (arith, end.1, length-map c.args.held held_meant, ap length c.into_vec-found-items.ensures) in
    ap (noted (map (option_map waited_meant) c.loop-found.waits.items)) (sym (drop_all (length c.loop-found.yielded) hs few)) ∙ c.loop-found.invariant.rest
