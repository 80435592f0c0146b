use Rattle.std.proofs.Common.{◌≡◌, ◌++◌, ◌∙◌, map, length, None, refl, rules}
use Rattle.std.specs.Int.{w32, to_le_bytes}
use Rattle.sqe_codec.specs.Fields.{entry_of}
use Rattle.trace_format.specs.Entries.{IsInside, entry_at}
use Rattle.trace_format.proofs.Lasting.{Added, kept, on_err}
use Rattle.trace_format.proofs.Spotted.{added, spot_lasts}
use Rattle.trace_format.proofs.entries.EntriesBuilder.push.Goals as goal

pub invariant_of-self : goal.invariant_of-self
invariant_of-self c = (kept spot_lasts _ _ _ c.in_err-add_text.ensures.kept c.self.invariant).inside

pub invariant_of-self-in_err-push : goal.invariant_of-self-in_err-push
invariant_of-self-in_err-push c = rw c.in_err-push.ensures.items (kept spot_lasts _ _ _ c.in_ok-add_text.ensures.kept c.self.invariant).inside

pub returns-in_err-push-clause-kept : goal.returns-in_err-push-clause-kept
returns-in_err-push-clause-kept c =
    let same : map (entry_at c.add_text.new.text.items) c.push.new.self.items ≡ c.args.self.now =
    rw c.in_err-push.ensures.items ((kept spot_lasts _ _ _ c.in_ok-add_text.ensures.kept c.self.invariant).same ∙ c.self.view_is) in
    on_err _ same

pub returns-in_err-add_text-clause-kept : goal.returns-in_err-add_text-clause-kept
returns-in_err-add_text-clause-kept c = on_err _ ((kept spot_lasts _ _ _ c.in_err-add_text.ensures.kept c.self.invariant).same ∙ c.self.view_is)

-- the text and the spots with the new entry
new_entry : (c : goal.In_ok-push) → Added entry_at IsInside c.self.inside.text.items (((c.self.inside.text.items ++ c.pack.result) ++ to_le_bytes w32 (length c.args.side.now)) ++ c.args.side.now) c.self.inside.spots.items (record { at = c.len-at.result; len = length c.args.side.now }) (record { sqe = entry_of c.pack.result; side = c.args.side.now; given = None })
new_entry c =
    let end : c.len-at.result ≡ length c.self.inside.text.items = search rules in
    let fields : length c.pack.result ≡ 64 = search rules in
    added _ _ _ _ (to_le_bytes w32 (length c.args.side.now)) _ c.self.invariant end fields refl refl

pub invariant_of-self-2 : goal.invariant_of-self-2
invariant_of-self-2 c = rw (c.in_ok-push.ensures.items, c.in_ok-add_text.ensures.added) (new_entry c).inside

pub returns-clause-added : goal.returns-clause-added
returns-clause-added c =
    rw (c.in_ok-push.ensures.items, c.in_ok-add_text.ensures.added) ((new_entry c).same ∙ rw (c.pack.ensures.fields, c.self.view_is) refl)
