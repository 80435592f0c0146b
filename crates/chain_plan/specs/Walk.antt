-- A view of code: what a walk over the steps of a trace keeps of each, to find their roles.
use Rattle.std.specs.Prelude.{ℕ, ◌+◌, ◌-◌, ◌==◌, Bool, false, ◌&&◌, ◌||◌, leb, nat_lt, List, [], ◌∷◌, ◌++◌, length, Option, Some, None, is_err, if◌then◌else◌}
use Rattle.std.proofs.Common.{get_or}
use Rattle.std.proofs.Math.ListN.{set}
use Rattle.trace_format.specs.declared.version.Version.{Version}
use Rattle.chain_plan.specs.declared.role.Role.{Role}
use Rattle.recording.specs.Steps.{Step}
use Rattle.entry_checks.specs.Check.{check, has, io_drain, skip_success}
use Rattle.chain_plan.specs.Chain.{action_passes, has_link}
use Rattle.chain_plan.specs.declared.stretch.Member.{Member}
use Rattle.chain_plan.specs.declared.stretch.Chain.{Chain}
use Rattle.chain_plan.specs.declared.stretch.Marks.{Marks}
use Rattle.chain_plan.specs.declared.stretch.Linked.{Linked}

-- What a walk asks of a step. Whether it fails its tests matters where it follows another one or is linked to the next.
abbrev pub marks_of : Version → Bool → Step → Marks
marks_of v follows s =
    record {
      links = action_passes has_link (Some s);
      skips = action_passes (λ e. has e.sqe.flags skip_success) (Some s);
      drains = action_passes (λ e. has e.sqe.flags io_drain) (Some s);
      fails = (action_passes has_link (Some s) || follows) && action_passes (λ e. is_err (check v e)) (Some s);
    }

-- The member that a step of a record follows, if the step before it links to it.
abbrev pub followed : Option Linked → ℕ → Option Member
followed None r = None
followed (Some l) r = if l.record_number == r then Some l.member else None

-- A member behind another, or the head of the next chain.
abbrev pub member_after : Option Member → ℕ → Bool → Member
member_after (Some m) next skips = record { chain = m.chain; ahead = m.ahead + 1; quiet = m.quiet }
member_after None next skips = record { chain = next; ahead = 0; quiet = skips }

-- A chain without members.
abbrev pub no_members : Chain
no_members = record { length = 0; doomed = false; barrier = false }

-- A chain with one member more.
abbrev pub with_member : Chain → Marks → Chain
with_member c m = record { length = c.length + 1; doomed = c.doomed || m.fails; barrier = c.barrier || m.drains }

-- The chains after one member more of the chain of a number, which is one of them or the next.
abbrev pub counted : List Chain → ℕ → Marks → List Chain
counted chains c m =
    if nat_lt c (length chains) then set chains c (with_member (get_or chains c no_members) m) else chains ++ with_member no_members m ∷ []

-- The role that a member has in its chain, which is one of those that begin behind so many others.
abbrev pub joined : ℕ → List Chain → Member → Role
joined before chains m =
    let c = get_or chains (m.chain - before) no_members in
    record { chain = m.chain; member = m.ahead; length = c.length; doomed = leb 2 c.length && c.doomed; quiet = m.quiet; barrier = c.barrier }

-- What the next step may follow: a member with a link flag.
abbrev pub link_from : Member → ℕ → Bool → Option Linked
link_from m r links = if links then Some (record { member = m; record_number = r }) else None
