use Rattle.std.proofs.Common.{Ok, ap, sym}
use Rattle.op_meaning.specs.Site.{site_meant}
use Rattle.op_meaning.proofs.rows.decide_on_rest.Goals as goal

pub returns-in-Fallocate-clause-meaning : goal.returns-in-Fallocate-clause-meaning
returns-in-Fallocate-clause-meaning c = rw c.in-Fallocate.is c.allocating.ensures.meaning

pub returns-in-Fallocate-clause-limits : goal.returns-in-Fallocate-clause-limits
returns-in-Fallocate-clause-limits c = c.allocating.ensures.limits

pub returns-in-Ftruncate-clause-meaning : goal.returns-in-Ftruncate-clause-meaning
returns-in-Ftruncate-clause-meaning c = rw c.in-Ftruncate.is c.resizing.ensures.meaning

pub returns-in-Ftruncate-clause-limits : goal.returns-in-Ftruncate-clause-limits
returns-in-Ftruncate-clause-limits c = c.resizing.ensures.limits

pub returns-in-Fsync-clause-meaning : goal.returns-in-Fsync-clause-meaning
returns-in-Fsync-clause-meaning c = rw c.in-Fsync.is c.syncing.ensures.meaning

pub returns-in-Fsync-clause-limits : goal.returns-in-Fsync-clause-limits
returns-in-Fsync-clause-limits c = c.syncing.ensures.limits

pub returns-in-SyncFileRange-clause-meaning : goal.returns-in-SyncFileRange-clause-meaning
returns-in-SyncFileRange-clause-meaning c = rw c.in-SyncFileRange.is c.syncing_range.ensures.meaning

pub returns-in-SyncFileRange-clause-limits : goal.returns-in-SyncFileRange-clause-limits
returns-in-SyncFileRange-clause-limits c = c.syncing_range.ensures.limits

pub returns-in-Fadvise-clause-meaning : goal.returns-in-Fadvise-clause-meaning
returns-in-Fadvise-clause-meaning c = rw c.in-Fadvise.is c.advising.ensures.meaning

pub returns-in-Fadvise-clause-limits : goal.returns-in-Fadvise-clause-limits
returns-in-Fadvise-clause-limits c = c.advising.ensures.limits

pub returns-in-Close-clause-meaning : goal.returns-in-Close-clause-meaning
returns-in-Close-clause-meaning c = rw c.in-Close.is c.closing.ensures.meaning

pub returns-in-Close-clause-limits : goal.returns-in-Close-clause-limits
returns-in-Close-clause-limits c = c.closing.ensures.limits

pub returns-in-Openat-clause-meaning : goal.returns-in-Openat-clause-meaning
returns-in-Openat-clause-meaning c = rw c.in-Openat.is c.find_opening.ensures.meaning

pub returns-in-Openat-clause-limits : goal.returns-in-Openat-clause-limits
returns-in-Openat-clause-limits c = c.find_opening.ensures.limits

pub returns-in-Mkdirat-clause-meaning : goal.returns-in-Mkdirat-clause-meaning
returns-in-Mkdirat-clause-meaning c = rw c.in-Mkdirat.is c.making.ensures.meaning

pub returns-in-Mkdirat-clause-limits : goal.returns-in-Mkdirat-clause-limits
returns-in-Mkdirat-clause-limits c = c.making.ensures.limits

pub returns-in-Unlinkat-clause-meaning : goal.returns-in-Unlinkat-clause-meaning
returns-in-Unlinkat-clause-meaning c =
    rw c.in-Unlinkat.is (rw c.unlinking.ensures at (c.changing-in-Unlinkat.ensures.meaning (site_meant c.args.site) c.args.state.now))

pub returns-in-Unlinkat-clause-limits : goal.returns-in-Unlinkat-clause-limits
returns-in-Unlinkat-clause-limits c = c.changing-in-Unlinkat.ensures.limits c.args.state.now c.args.site.ring

pub returns-in-Linkat-clause-meaning : goal.returns-in-Linkat-clause-meaning
returns-in-Linkat-clause-meaning c =
    rw c.in-Linkat.is (rw c.linking.ensures at (c.changing-in-Linkat.ensures.meaning (site_meant c.args.site) c.args.state.now))

pub returns-in-Linkat-clause-limits : goal.returns-in-Linkat-clause-limits
returns-in-Linkat-clause-limits c = c.changing-in-Linkat.ensures.limits c.args.state.now c.args.site.ring

pub returns-in-Renameat-clause-meaning : goal.returns-in-Renameat-clause-meaning
returns-in-Renameat-clause-meaning c =
    rw c.in-Renameat.is (rw c.renaming.ensures at (c.changing.ensures.meaning (site_meant c.args.site) c.args.state.now))

pub returns-in-Renameat-clause-limits : goal.returns-in-Renameat-clause-limits
returns-in-Renameat-clause-limits c = c.changing.ensures.limits c.args.state.now c.args.site.ring

pub returns-in-Statx-clause-meaning : goal.returns-in-Statx-clause-meaning
returns-in-Statx-clause-meaning c = rw c.in-Statx.is c.measuring.ensures.meaning

pub returns-in-Statx-clause-limits : goal.returns-in-Statx-clause-limits
returns-in-Statx-clause-limits c = c.measuring.ensures.limits

pub returns-in-StatxFile-clause-meaning : goal.returns-in-StatxFile-clause-meaning
returns-in-StatxFile-clause-meaning c = rw c.in-StatxFile.is c.measuring_open.ensures.meaning

pub returns-in-StatxFile-clause-limits : goal.returns-in-StatxFile-clause-limits
returns-in-StatxFile-clause-limits c = c.measuring_open.ensures.limits

pub returns-in-HoldPath-clause-meaning : goal.returns-in-HoldPath-clause-meaning
returns-in-HoldPath-clause-meaning c = rw c.in-HoldPath.is (ap Ok (sym c.holding_path.ensures.meaning))

pub returns-in-HoldPath-clause-limits : goal.returns-in-HoldPath-clause-limits
returns-in-HoldPath-clause-limits c = c.holding_path.ensures.limits

pub returns-in-Seek-clause-meaning : goal.returns-in-Seek-clause-meaning
returns-in-Seek-clause-meaning c = rw c.in-Seek.is (ap Ok (sym c.seeking.ensures.meaning))

pub returns-in-Seek-clause-limits : goal.returns-in-Seek-clause-limits
returns-in-Seek-clause-limits c = c.seeking.ensures.limits
