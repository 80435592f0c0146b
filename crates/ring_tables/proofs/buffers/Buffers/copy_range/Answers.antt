use Rattle.std.proofs.Common.{◌≡◌, ◌≤◌, ℕ, List, length, ap, subst, sym, ◌∙◌}
use Rattle.std.proofs.lemmas.Result.{on_ok_weaker}
use Rattle.extent_bytes.specs.Bytes.{overwritten, range_of}
use Rattle.finite_maps.specs.Table.{pair_keys}
use Rattle.finite_maps.proofs.Maps.{rewritten_through, rewritten_none, rewritten_err, rewritten-same}
use Rattle.ring_tables.specs.Contents.{bytes_at, rewritten_at}
use Rattle.ring_tables.proofs.Looked.{bytes_at-absent, bytes_at-found}
use Rattle.ring_tables.proofs.buffers.Buffers.copy_range.Goals as goal
use Rattle.extent_bytes.proofs.Lists.{none_put}

-- the change that the range is
abbrev change : ℕ → ℕ → List ℕ → List ℕ → List ℕ
change lo hi bytes old = overwritten old lo (range_of bytes lo hi)

pub returns-in_default-clause-ok : goal.returns-in_default-clause-ok
returns-in_default-clause-ok c =
    let none = bytes_at-absent _ _ c.args.ring c.args.index c.source.view_is c.in_default.ensures.value in
    let empty : c.args.hi ≤ 0 = subst (λ (bs : List ℕ). c.args.hi ≤ length bs) none c.requires.there in
    rewritten-same pair_keys c.args.self.now (c.args.ring, c.args.index) (change c.args.lo c.args.hi (bytes_at c.args.source.now c.args.ring c.args.index))
    (subst (λ xs. (bs : List ℕ) → change c.args.lo c.args.hi xs bs ≡ bs) (sym none) (none_put c.args.lo c.args.hi c.requires.forward empty))

pub returns-in_default-get_mut-clause-ok : goal.returns-in_default-get_mut-clause-ok
returns-in_default-get_mut-clause-ok c =
    rewritten_none pair_keys c.self.inside.entries c.get_mut.follows.lender-at-none c.args.self.now (c.args.ring, c.args.index) c.self.view_is (change c.args.lo c.args.hi (bytes_at c.args.source.now c.args.ring c.args.index)) c.get_mut.follows.holds-at-none c.in_default-get_mut.ensures.value

pub copy_range-requires-clause-there : goal.copy_range-requires-clause-there
copy_range-requires-clause-there c =
    let found = bytes_at-found _ _ c.args.ring c.args.index _ c.source.view_is c.in-Some.ensures.value in
    rw found at c.requires.there

pub copy_range-requires-clause-inside : goal.copy_range-requires-clause-inside
copy_range-requires-clause-inside c =
    let found = bytes_at-found _ _ c.args.ring c.args.index _ c.self.view_is c.in-Some-get_mut.ensures.value in
    rw found at c.requires.inside

pub returns-clause-ok : goal.returns-clause-ok
returns-clause-ok c =
    let w = c.copy_range.new.self in
    let there = bytes_at-found _ _ c.args.ring c.args.index _ c.source.view_is c.in-Some.ensures.value in
    on_ok_weaker c.copy_range.result
    (λ e.
    rewritten_through pair_keys (change c.args.lo c.args.hi c.in-Some.bytes.now) c.self.inside.entries (c.get_mut.follows.lender w) c.args.self.now (c.args.ring, c.args.index) c.in-Some-get_mut.buffer.now w c.self.view_is (c.get_mut.follows.holds w) c.in-Some-get_mut.ensures.value e
    ∙ ap (λ bs. rewritten_at (change c.args.lo c.args.hi bs) c.args.self.now c.args.ring c.args.index) (sym there))
    c.copy_range.ensures.ok

pub returns-clause-err : goal.returns-clause-err
returns-clause-err c =
    let w = c.copy_range.new.self in
    rewritten_err pair_keys c.self.inside.entries (c.get_mut.follows.lender w) c.args.self.now (c.args.ring, c.args.index) c.self.view_is c.in-Some-get_mut.buffer.now w (c.get_mut.follows.holds w) c.in-Some-get_mut.ensures.value c.copy_range.result c.copy_range.ensures.err
