-- The laws of every operation, so every access set covers its place.
use native.Mathlib.Omega.{arith}
use Rattle.std.specs.Prelude.{◌≡◌, ℕ, min, Ok}
use Rattle.recording.specs.declared.recording.Recording.{Recording}
use Rattle.trace_format.specs.Sides.{most_moved}
use Rattle.entry_checks.specs.Operation.{Operation, nop, readv, writev, fsync, read_fixed, write_fixed, fallocate, openat, close, read, write, renameat, unlinkat, mkdirat, linkat, ftruncate, sync_file_range, fadvise, statx, statx_file, statx_root, given, hold_nothing, hold_path, hold_copy, hold_other, seek}
use Rattle.world_parts.specs.World.{World, IsWorld}
use Rattle.op_meaning.specs.Site.{in_ring, sited}
use Rattle.file_tree.specs.Walk.{walk}
use Rattle.op_meaning.specs.Meaning.{Effect, handle, meaning, reply, span_destination, span_bytes}
use Rattle.foot_print.specs.Laws.{Awaits, FootprintsCover}
use Rattle.foot_print.proofs.CoverOperation.{Owes, owed_covers}
use Rattle.foot_print.proofs.CoverTurn.{footprints_cover}
use Rattle.foot_print.proofs.CoverHandles.{nop_owes, fsync_owes, close_owes, sync_file_range_owes, fadvise_owes, given_owes, hold_nothing_owes, hold_copy_owes, seek_owes}
use Rattle.foot_print.proofs.CoverMeasures.{statx_owes, statx_file_owes, statx_root_owes}
use Rattle.foot_print.proofs.CoverSizes.{fallocate_owes, ftruncate_owes}
use Rattle.foot_print.proofs.CoverReads.{read_owes, readv_owes, read_fixed_owes}
use Rattle.foot_print.proofs.CoverWrites.{write_owes, writev_owes, write_fixed_owes}
use Rattle.foot_print.proofs.CoverNames.{unlinkat_owes, renameat_owes, mkdirat_owes, linkat_owes}
use Rattle.foot_print.proofs.CoverOpen.{openat_owes, hold_path_owes, hold_other_owes}
use Rattle.foot_print.proofs.KeepNames.{Keeps, mkdirat_keeps, linkat_keeps, unlinkat_keeps}
use Rattle.foot_print.proofs.KeepRenames.{renameat_keeps}
use Rattle.foot_print.proofs.KeepOpen.{openat_keeps}
use Rattle.foot_print.proofs.KeepHolding.{hold_nothing_keeps, hold_path_keeps, hold_copy_keeps, hold_other_keeps, seek_keeps}
use Rattle.foot_print.proofs.KeepContents.{AllOfContents, contents_leave, read_contents, write_contents, fallocate_contents, ftruncate_contents, close_contents, statx_contents, statx_file_contents}

-- What an operation owes in a world: what it uses tells what it does and supports it, and it keeps a world.
pub record OpLaws (t : Recording) (k r : ℕ) (s : World) (o : Operation) : Type 0 where
  pub owes : Owes t k r o s
  pub keeps : Keeps t k r s o

-- An operation that only changes contents keeps a world.
of_contents : (t : Recording) (k r : ℕ) (s : World) (o : Operation) → Owes t k r o s → IsWorld s → ((x : Effect) → meaning (sited t k r) s o ≡ Ok x → AllOfContents x.changes) → OpLaws t k r s o
of_contents t k r s o owes w c = record { owes = owes; keeps = λ x e. contents_leave t k s x.changes (c x e) w }

-- The laws of each operation.
pub laws : (t : Recording) (k r : ℕ) (o : Operation) (s : World) → Awaits t k s → OpLaws t k r s o
laws t k r nop s w = of_contents t k r s nop (nop_owes t k r s w) w.is_world (λ x e. grind arith)
laws t k r (readv f o n) s w = of_contents t k r s (readv f o n) (readv_owes t k r s f o n w) w.is_world (read_contents t s r f o (min n most_moved) (Ok reply))
laws t k r (writev f o new) s w = of_contents t k r s (writev f o new) (writev_owes t k r s f o new w) w.is_world (write_contents t s r f o (Ok new))
laws t k r (fsync f) s w = of_contents t k r s (fsync f) (fsync_owes t k r s f w) w.is_world (λ x e. grind arith)
laws t k r (read_fixed f o z) s w = of_contents t k r s (read_fixed f o z) (read_fixed_owes t k r s f o z w) w.is_world (read_contents t s r f o (min z.length most_moved) (span_destination (in_ring t r) z))
laws t k r (write_fixed f o z) s w = of_contents t k r s (write_fixed f o z) (write_fixed_owes t k r s f o z w) w.is_world (write_contents t s r f o (span_bytes (in_ring t r) s z))
laws t k r (fallocate f o n mode) s w = of_contents t k r s (fallocate f o n mode) (fallocate_owes t k r s f o n mode w) w.is_world (λ x e. fallocate_contents t s r f o n mode x w.is_world e)
laws t k r (openat p g asked) s w = record { owes = openat_owes t k r s p g asked w; keeps = openat_keeps t k r s p g asked w }
laws t k r (close f) s w = of_contents t k r s (close f) (close_owes t k r s f w) w.is_world (close_contents t s r f)
laws t k r (read f o n) s w = of_contents t k r s (read f o n) (read_owes t k r s f o n w) w.is_world (read_contents t s r f o (min n most_moved) (Ok reply))
laws t k r (write f o new) s w = of_contents t k r s (write f o new) (write_owes t k r s f o new w) w.is_world (write_contents t s r f o (Ok new))
laws t k r (renameat old new flags) s w = record { owes = renameat_owes t k r s old new flags w; keeps = renameat_keeps t k r s old new flags w.is_world }
laws t k r (unlinkat p removes) s w = record { owes = unlinkat_owes t k r s p removes w; keeps = unlinkat_keeps t k r s p removes w.is_world }
laws t k r (mkdirat p) s w = record { owes = mkdirat_owes t k r s p w; keeps = mkdirat_keeps t k r s p w }
laws t k r (linkat old new) s w = record { owes = linkat_owes t k r s old new w; keeps = linkat_keeps t k r s old new w.is_world }
laws t k r (sync_file_range f o n flags) s w = of_contents t k r s (sync_file_range f o n flags) (sync_file_range_owes t k r s f o n flags w) w.is_world (λ x e. grind arith)
laws t k r (fadvise f n advice) s w = of_contents t k r s (fadvise f n advice) (fadvise_owes t k r s f n advice w) w.is_world (λ x e. grind arith)
laws t k r (statx p) s w = of_contents t k r s (statx p) (statx_owes t k r s p w) w.is_world (statx_contents s (walk s.nodes p))
laws t k r (statx_file f) s w = of_contents t k r s (statx_file f) (statx_file_owes t k r s f w) w.is_world (statx_file_contents s (handle (in_ring t r) s f))
laws t k r statx_root s w = of_contents t k r s statx_root (statx_root_owes t k r s w) w.is_world (λ x e. grind arith)
laws t k r (given q fails) s w = of_contents t k r s (given q fails) (given_owes t k r s q fails w) w.is_world (λ x e. grind arith)
laws t k r (hold_nothing f) s w = record { owes = hold_nothing_owes t k r s f w; keeps = hold_nothing_keeps t k r s f w.is_world }
laws t k r (hold_path f p g at) s w = record { owes = hold_path_owes t k r s f p g at w; keeps = hold_path_keeps t k r s f p g at w }
laws t k r (hold_copy f q source) s w = record { owes = hold_copy_owes t k r s f q source w; keeps = hold_copy_keeps t k r s f q source w.is_world }
laws t k r (hold_other f) s w = record { owes = hold_other_owes t k r s f w; keeps = hold_other_keeps t k r s f w }
laws t k r (seek f at) s w = record { owes = seek_owes t k r s f at w; keeps = seek_keeps t k r s f at w.is_world }
laws t k r (ftruncate f n) s w = of_contents t k r s (ftruncate f n) (ftruncate_owes t k r s f n w) w.is_world (ftruncate_contents t s r f n)

-- Every access set covers its place.
pub all_covered : FootprintsCover
all_covered = footprints_cover (λ o. owed_covers o (λ t k r s w. (laws t k r o s w).owes))
