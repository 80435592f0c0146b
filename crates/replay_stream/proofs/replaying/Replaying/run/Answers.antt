use Rattle.std.proofs.Common.{◌≡◌, ◌-◌, ℕ, ap, length, subst, sym, ◌∙◌}
use Rattle.trace_records.specs.declared.record.Record.{Record}
use Rattle.recording.specs.declared.recording.Recording.{Recording}
use Rattle.recording.specs.Growing.{HasRoom, grown_in, let_go, with_next}
use Rattle.recording.specs.Steps.{places}
use Rattle.stream_laws.specs.Streamed.{replies_from, world_from}
use Rattle.replay_stream.specs.Replayed.{MayRun}
use Rattle.replay_stream.specs.declared.replaying.Replaying.{Replaying}
use Rattle.replay_stream.proofs.Onward.{IsReady, goes_on, has_room, ready}
use Rattle.replay_stream.proofs.replaying.Replaying.run.Goals as goal

pub with_record-requires : goal.with_record-requires
with_record-requires c =
    let m = c.requires in
    subst (λ (t : Recording). HasRoom (grown_in t) c.args.next) (sym c.let_go.ensures) (has_room m.0 m.1 c.args.next c.args.self m.2 m.3)

-- the places of the record may run
is_ready : (p : Replaying) (r : Record) (gone v : Recording) (first : ℕ) → MayRun p r → gone ≡ let_go p.recording → v ≡ with_next gone r → first ≡ places gone → IsReady v first
is_ready p r gone v first m let_gone grown from =
    ready m.0 m.1 r p m.2 m.3 v first (grown ∙ ap (λ t. with_next t r) let_gone) (from ∙ ap places let_gone)

pub add_new_ring-requires : goal.add_new_ring-requires
add_new_ring-requires c =
    (is_ready c.args.self c.args.next _ c.in_ok-recording.recording c.places-first.result c.requires c.let_go.ensures c.in_ok-recording.ensures c.places-first.ensures).accepted

pub replies_from-requires-clause-accepted : goal.replies_from-requires-clause-accepted
replies_from-requires-clause-accepted c =
    (is_ready c.args.self c.args.next _ c.in_ok-recording.recording c.places-first.result c.requires c.let_go.ensures c.in_ok-recording.ensures c.places-first.ensures).accepted

pub replies_from-requires-clause-within : goal.replies_from-requires-clause-within
replies_from-requires-clause-within c =
    (is_ready c.args.self c.args.next _ c.in_ok-recording.recording c.places-first.result c.requires c.let_go.ensures c.in_ok-recording.ensures c.places-first.ensures).within

pub replies_from-requires-clause-apart : goal.replies_from-requires-clause-apart
replies_from-requires-clause-apart c =
    (is_ready c.args.self c.args.next _ c.in_ok-recording.recording c.places-first.result c.requires c.let_go.ensures c.in_ok-recording.ensures c.places-first.ensures).apart

pub replies_from-requires-clause-chains : goal.replies_from-requires-clause-chains
replies_from-requires-clause-chains c =
    (is_ready c.args.self c.args.next _ c.in_ok-recording.recording c.places-first.result c.requires c.let_go.ensures c.in_ok-recording.ensures c.places-first.ensures).chains

pub returns : goal.returns
returns c = λ b front run spelled.
    let t = c.in_ok-recording.recording in
    let first = c.places-first.result in
    goes_on b front c.args.next c.args.self run spelled _ _
    (c.in_ok-recording.ensures ∙ ap (λ t. with_next t c.args.next) c.let_go.ensures)
    (c.places-first.ensures ∙ ap places c.let_go.ensures)
    (ap length c.as_slice-rings.ensures ∙ ap (λ (t : Recording). length t.rings) c.let_go.ensures)
    (c.in_ok-replies_from.ensures.world ∙ ap (world_from t first (places t - first)) c.in_ok-add_new_ring.ensures)
    (c.in_ok-replies_from.ensures.replies ∙ ap (replies_from t first (places t - first)) c.in_ok-add_new_ring.ensures)
