-- Texts that were put together in pieces, and what is read of a log.
use Rattle.std.proofs.Common.{◌≡◌, ℕ, zero, suc, ◌-◌, ◌<◌, ◌≤◌, ◌++◌, ◌∷◌, [], List, Option, None, length, map, get_or, codes, refl, sym, ap, ◌∙◌, append_assoc, arith}
use Rattle.std.specs.Prelude.{slice_index_or}
use Rattle.std.specs.Fmt.{decimal}
use Rattle.std.specs.Option.{option_map}
use Rattle.std.proofs.lemmas.List.{get_or-map}
use Rattle.std.proofs.lemmas.Option.{slice_get_past}
use Rattle.recording.specs.declared.recording.Recording.{Recording}
use Rattle.trace_records.specs.declared.start.Item as initial
use Rattle.replay_core.specs.Waits.{waited_meant}
use Rattle.replay_core.specs.declared.round_log.WaitedFor.{WaitedFor}
use Rattle.round_report.specs.Naming.{node_text}

pub arrow_pieces : (t a b c d e q f : List ℕ) → t ++ (a ++ (b ++ (c ++ (d ++ e)))) ++ q ++ (f ++ 10 ∷ []) ≡ t ++ (a ++ b ++ c ++ d ++ e ++ q ++ f ++ 10 ∷ [])
arrow_pieces t a b c d e q f = simp append_assoc

-- a node that no item of the trace is
pub made_node : (t : Recording) (node index : ℕ) (items : List initial.Item) → 1 ≤ node → index ≡ node - 1 → items ≡ t.items → length items ≤ index
    → codes "node of place " ++ decimal (index - length items) ≡ node_text t node
made_node t zero index items some e same past = absurd (omega (arith, some))
made_node t (suc n) index items some e same past =
    let at : index ≡ n = omega (arith, e) in
    rw (slice_get_past t.items n (omega (arith, past, at, ap length same)), at, same) refl

-- what a place waited for, as it is read
pub wait_read : (waits : List (Option WaitedFor)) (place : ℕ) (wait : Option WaitedFor) → place < length waits → wait ≡ get_or waits place wait
    → option_map waited_meant wait ≡ slice_index_or (map (option_map waited_meant) waits) place None
wait_read waits place wait lt e = ap (option_map waited_meant) e ∙ sym (get_or-map (option_map waited_meant) waits place wait None lt)
