-- A place does the same on a world within another as on the other.
use Rattle.std.proofs.Common.{◌≡◌, ℕ, List, [], ◌∷◌, ◌++◌, map, length, Option, Some, None, refl, sym, ap, subst, ◌∙◌, arith}
use Rattle.std.specs.Prelude.{All, Result, IfSome, IsSome}
use Rattle.std.specs.List.{AllByRecursion}
use Rattle.std.specs.Option.{option_map}
use Rattle.std.proofs.lemmas.List.Elements.{recursion_from_All}
use Rattle.sqe_codec.specs.declared.errno.Errno.{Errno}
use Rattle.sqe_codec.specs.Answers.{each}
use Rattle.trace_format.specs.declared.entry.Entry.{Entry}
use Rattle.trace_records.specs.declared.record.FullSlot.{FullSlot}
use Rattle.trace_records.specs.declared.record.Holder.{Holder}
use Rattle.trace_records.specs.declared.record.Holder.TheVariants.{Slot, Descriptor, Description}
use Rattle.recording.specs.declared.recording.Recording.{Recording}
use Rattle.recording.specs.Steps.{Step, Action, submit, fill, register, set as set_file, seek as seek_file, step_at}
use Rattle.entry_checks.specs.Operation.{Operation, seek}
use Rattle.entry_checks.specs.Check.{check}
use Rattle.chain_plan.specs.declared.role.Role.{Role}
use Rattle.chain_plan.specs.Chain.{role}
use Rattle.finite_maps.specs.Table.{Table, get, pair_cmp}
use Rattle.std.specs.Ordering.{nat_cmp}
use Rattle.world_parts.specs.World.{World, Broken, Opened, broken, set_slot, apply_all}
use Rattle.op_meaning.specs.Site.{sited}
use Rattle.op_meaning.specs.Meaning.{made_node, made_description}
use Rattle.op_meaning.specs.Step.{Turn, filled, registered, called, refused, canceled, runs, entry_turn, turn, turn_under, reply_of, run_reply, changes_in, changes_of, breaks, failed, held_by, filled_slot, file_in, set_operation, step_changes, step_world}
use Rattle.foot_print.specs.Laws.{Awaits}
use Rattle.foot_print.proofs.Keep.{steps_keep_worlds}
use Rattle.sweep_laws.specs.Holding.{HolderFits, ActionHolds, PlaceHolds}
use Rattle.sweep_laws.specs.Laws.{PlacesAreSame}
use Rattle.sweep_laws.specs.Within.{IsWithin}
use Rattle.sweep_laws.proofs.Alike.{opened_same}
use Rattle.sweep_laws.proofs.Changes.{Shares, shares, is_within, changes_shared}
use Rattle.sweep_laws.proofs.Means.{means_same}

-- What a turn tells of the slots of a new ring.
abbrev TurnHolds : ℕ → Turn → Type 0
TurnHolds n (registered r slots) = All (λ (x : FullSlot). HolderFits n x.holds) slots
TurnHolds n _ = Unit {0}

entry_holds : (n r : ℕ) (e : Entry) (c : Role) (b : Option Broken) (x : Result Operation Errno) → TurnHolds n (entry_turn r e c b x)
entry_holds n r e c b x = grind arith

turn_holds : (t : Recording) (k : ℕ) (b : Option Broken) → PlaceHolds t k → IfSome (turn_under t k b) (TurnHolds (length t.descriptions))
turn_holds t k b = at (step_at t k)
  where
    of : ℕ → Action → Turn
    of r (fill buffer p new) = filled r buffer p new
    of r (register slots) = registered r slots
    of r (set_file file content) = called r (set_operation file content)
    of r (seek_file file position) = called r (seek (file_in file) position)
    of r (submit e) = entry_turn r e (role t k) b (check t.version e)

    act : (r : ℕ) (x : Action) → ActionHolds (length t.descriptions) x → TurnHolds (length t.descriptions) (of r x)
    act r (fill buffer p new) h = tt
    act r (register slots) h = h
    act r (set_file file content) h = tt
    act r (seek_file file position) h = tt
    act r (submit e) h = entry_holds (length t.descriptions) r e (role t k) b (check t.version e)

    at : (x : Option Step) → ((y : Step) → x ≡ Some y → ActionHolds (length t.descriptions) y.action) → IfSome (option_map (λ (y : Step). of y.ring y.action) x) (TurnHolds (length t.descriptions))
    at None h = tt
    at (Some y) h = act y.ring y.action (h y refl)

-- A number that is free in a world is free in one within it.
free_there : {X : Type 0} (some all : Option X) → (IsSome some → some ≡ all) → all ≡ None → some ≡ None
free_there None all same e = refl
free_there (Some x) all same e = same refl ∙ e

module _ (t : Recording) (k : ℕ) (s w : World) (h : IsWithin (length t.descriptions) s w) where
  abbrev started : ℕ
  started = length t.descriptions

  turn_same : turn t k w ≡ turn t k s
  turn_same = ap (λ (m : Table nat_cmp Broken). turn_under t k (get m (role t k).chain)) h.broken

  held_same : (x : Holder) → HolderFits started x → held_by w x ≡ held_by s x
  held_same (Slot ring number) fits = ap (λ (m : Table pair_cmp ℕ). get m (ring, number)) h.slots
  held_same (Descriptor number) fits = ap (λ (m : Table nat_cmp ℕ). get m number) h.descriptors
  held_same (Description number) fits = ap (λ (o : Option Opened). option_map (λ _. number) o) (opened_same s w h number (h.first_descriptions number fits))

  slots_same : (r : ℕ) (xs : List FullSlot) → AllByRecursion (λ (x : FullSlot). HolderFits started x.holds) xs → map (filled_slot r w) xs ≡ map (filled_slot r s) xs
  slots_same r [] fits = refl
  slots_same r (x ∷ xs) fits = λ i. set_slot r x.number (held_same x.holds fits.0 i) ∷ slots_same r xs fits.1 i

  reply_same : (x : Option Turn) → option_map (reply_of t k w) x ≡ option_map (reply_of t k s) x
  reply_same None = refl
  reply_same (Some (filled r b at new)) = refl
  reply_same (Some (registered r slots)) = refl
  reply_same (Some (called r o)) = refl
  reply_same (Some (refused e posted)) = refl
  reply_same (Some (canceled posted)) = refl
  reply_same (Some (runs r e o)) = ap (λ m. Some (run_reply e o m)) (means_same s w h (sited t k r) o)

  changes_same : (x : Option Turn) → IfSome x (TurnHolds started) → each (changes_in t k w) x ≡ each (changes_in t k s) x
  changes_same None fits = refl
  changes_same (Some (filled r b at new)) fits = refl
  changes_same (Some (registered r slots)) fits = slots_same r slots (recursion_from_All (λ (x : FullSlot). HolderFits started x.holds) slots fits)
  changes_same (Some (called r o)) fits = ap changes_of (means_same s w h (sited t k r) o)
  changes_same (Some (refused e posted)) fits = refl
  changes_same (Some (canceled posted)) fits = refl
  changes_same (Some (runs r e o)) fits = ap (λ m. changes_of m ++ breaks (role t k) e (failed o m)) (means_same s w h (sited t k r) o)

  all_changes_same : PlaceHolds t k → step_changes t k w ≡ step_changes t k s
  all_changes_same holds = changes_same (turn t k w) (turn_holds t k (broken w (role t k).chain) holds) ∙ ap (each (changes_in t k s)) turn_same

  awaits_there : Awaits t k s → Awaits t k w
  awaits_there a = record {
    is_world = h.is_world;
    no_node = free_there (get w.nodes (made_node t k)) (get s.nodes (made_node t k)) (h.nodes (made_node t k)) a.no_node;
    no_description = free_there (get w.descriptions (made_description t k)) (get s.descriptions (made_description t k)) (h.descriptions (made_description t k)) a.no_description;
  }

  step_within : PlaceHolds t k → Awaits t k s → IsWithin started (step_world t k s) (step_world t k w)
  step_within holds a =
      is_within started (step_world t k s) (step_world t k w) (steps_keep_worlds t k w (awaits_there a)).0
      (subst (λ cs. Shares started (step_world t k s) (apply_all cs w)) (sym (all_changes_same holds)) (changes_shared started (step_changes t k s) s w (shares started s w h)))

pub places_are_same : PlacesAreSame
places_are_same t k s w holds a h = record {
  reply = reply_same t k s w h (turn t k w) ∙ ap (option_map (reply_of t k s)) (turn_same t k s w h);
  within = step_within t k s w h holds a;
}
