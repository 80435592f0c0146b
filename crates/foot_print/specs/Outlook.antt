-- A view of code: the may-access set of a place behind others, and the items by which it waits for them.
use Rattle.std.specs.Prelude.{◌≡◌, ◌⊎◌, ℕ, Bool, true, false, ◌∷◌, ◌++◌, [], Option, Some, None, IfSome, is_some}
use Rattle.recording.specs.declared.recording.Recording.{Recording}
use Rattle.chain_plan.specs.declared.role.Role.{Role}
use Rattle.entry_checks.specs.Operation.{Operation, openat}
use Rattle.world_parts.specs.World.{World, broken}
use Rattle.world_parts.specs.Items.{Item, one, chain_flag, Use, Footprint}
use Rattle.foot_print.specs.Footprint.{row_in}
use Rattle.op_meaning.specs.Meaning.{Site}
use Rattle.op_meaning.specs.Step.{Turn, called, runs}
use Rattle.foot_print.specs.Reach.{seen, look_of, task, running_row}
use Rattle.foot_print.specs.Foreseen.{meets_written, may_run, member_runs, reach_given}
use Rattle.foot_print.specs.declared.reaching.Awaited.{Awaited}
use Rattle.foot_print.specs.declared.reaching.Awaited.TheVariants.{Reach, Items, Untold}
use Rattle.foot_print.specs.declared.reaching.Outlook.{Outlook}

-- Whether a turn takes the lowest free descriptor.
abbrev pub takes_lowest : Operation → Bool
takes_lowest (openat p g None) = true
takes_lowest _ = false

abbrev pub turn_takes_lowest : Option Turn → Bool
turn_takes_lowest (Some (runs r e o)) = takes_lowest o
turn_takes_lowest (Some (called r o)) = takes_lowest o
turn_takes_lowest _ = false

-- Of the items that decide which others a place uses, those up to the first one that is written.
pub record IsFirstWritten (w : Item → Bool) (deciding f : Footprint) : Type 0 where
  pub known : Footprint
  pub first : Use
  pub rest : Footprint
  pub all : deciding ≡ known ++ first ∷ rest
  pub unwritten : meets_written w known ≡ false
  pub written : w first.item ≡ true
  pub here : f ≡ known ++ first ∷ []

-- The items by which a place that may run waits: those that decide its others, up to the first one that is written; else those of its row.
pub record WaitsBy (t : Recording) (k : ℕ) (s : World) (w : Item → Bool) (f : Footprint) : Type 0 where
  pub runs : may_run t k s w ≡ true
  pub by : IsFirstWritten w (look_of t k s (task t k)).deciding f ⊎ ((meets_written w (look_of t k s (task t k)).deciding ≡ false) × (f ≡ running_row t k s))

-- The items by which a place with a may-access set waits, where they are told.
abbrev pub items_awaited : Awaited → Footprint → Option Footprint
items_awaited Reach f = Some f
items_awaited (Items g) f = Some g
items_awaited Untold f = None

-- The may-access set of a place, and the items by which it waits, which are told where it may run.
pub record IsOutlook (t : Recording) (k : ℕ) (s : World) (w : Item → Bool) (o : Outlook) : Type 0 where
  pub reach : o.reach ≡ reach_given t k s w
  pub by : IfSome (items_awaited o.waits_by o.reach) (λ f. WaitsBy t k s w f)
  pub told : is_some (items_awaited o.waits_by o.reach) ≡ may_run t k s w
  pub lowest : o.takes_lowest ≡ turn_takes_lowest (task t k)

-- The same by the items that decide its others, its row, whether it may run, and whether it takes the lowest free descriptor.
pub record Awaits (w : Item → Bool) (deciding row : Footprint) (may takes : Bool) (o : Outlook) : Type 0 where
  pub by : IfSome (items_awaited o.waits_by o.reach) (λ f. IsFirstWritten w deciding f ⊎ ((meets_written w deciding ≡ false) × (f ≡ row)))
  pub told : is_some (items_awaited o.waits_by o.reach) ≡ may
  pub lowest : o.takes_lowest ≡ takes

-- Of a place that has an operation, behind its order.
abbrev pub AwaitsAsOperation : Site → World → Footprint → (Item → Bool) → Operation → Bool → Outlook → Type 0
AwaitsAsOperation site s order w p may o = Awaits w (seen site s p) (order ++ row_in site s p) may (takes_lowest p) o

-- Of a member of a chain that isn't doomed, by whether it may run.
abbrev pub MemberAwaits : Site → World → Footprint → (Item → Bool) → Role → Operation → Outlook → Type 0
MemberAwaits site s order w c p o = AwaitsAsOperation site s order w p (member_runs c (broken s c.chain) (w (one (chain_flag c.chain)))) o
