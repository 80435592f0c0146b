-- Worlds that agree on what an operation reads where it looks find the same there.
use Rattle.std.specs.Prelude.{◌≡◌, ℕ, [], ◌∷◌, ◌++◌, None, Err, refl}
use mathlib.Core.Path.{ap, ◌∙◌}
use Rattle.std.proofs.Common.{append_assoc}
use Rattle.sqe_codec.specs.declared.errno.Errno.TheVariants.{ENOENT}
use Rattle.sqe_codec.specs.Answers.{each}
use Rattle.recording.specs.declared.recording.Recording.{Recording}
use Rattle.world_parts.specs.World.{World}
use Rattle.world_parts.specs.Items.{description_at, one, reads, Footprint, Agree}
use Rattle.op_meaning.specs.Site.{in_ring}
use Rattle.op_meaning.specs.Lookups.{Finds, found_meant}
use Rattle.op_meaning.specs.Meaning.{Found, found}
use Rattle.op_meaning.specs.Shape.{Look, at_nothing, at_file, at_path, at_paths}
use Rattle.op_meaning.specs.declared.lookup.Lookup.{Lookup}
use Rattle.foot_print.specs.Footprint.{file_reads, path_reads, look_reads}
use Rattle.foot_print.proofs.Agreement.{agree_left, agree_right, held_same, handle_same}
use Rattle.foot_print.proofs.CoverWalk.{walk_same, path_reads_same}

module _ (t : Recording) (r : ℕ) (s u : World) where
  pub found_same : (l : Look) → Agree (look_reads (in_ring t r) s l) s u → found (in_ring t r) u l ≡ found (in_ring t r) s l
  found_same at_nothing a = refl
  found_same (at_file f) a = λ i. record { file = handle_same t s u r f a i; place = Err ENOENT; new_place = Err ENOENT }
  found_same (at_path p) a = λ i. record { file = None; place = walk_same s u p a i; new_place = Err ENOENT }
  found_same (at_paths old new) a = λ i. record { file = None; place = walk_same s u old (agree_left s u _ _ a) i; new_place = walk_same s u new (agree_right s u (path_reads s old) _ a) i }

  -- What it reads there is the same too.
  pub looks_same : (l : Look) → Agree (look_reads (in_ring t r) s l) s u → look_reads (in_ring t r) u l ≡ look_reads (in_ring t r) s l
  looks_same at_nothing a = refl
  looks_same (at_file f) a = λ i. file_reads (in_ring t r) f ++ each (λ d. reads (one (description_at d)) ∷ []) (held_same t s u r f (agree_left s u _ _ a) i)
  looks_same (at_path p) a = path_reads_same s u p a
  looks_same (at_paths old new) a = λ i. path_reads_same s u old (agree_left s u _ _ a) i ++ path_reads_same s u new (agree_right s u (path_reads s old) _ a) i

-- Uses by what was found, behind what was read there.
pub behind_looks : (order known looks : Footprint) (uses : Found → Footprint) (z y : Found) → known ≡ order ++ looks → z ≡ y → known ++ uses z ≡ order ++ (looks ++ uses y)
behind_looks order known looks uses z y is finds = (λ i. is i ++ uses (finds i)) ∙ append_assoc order looks (uses y)

-- What was found is right for the operation that looked.
pub finds : (t : Recording) (r : ℕ) (s : World) (l : Look) (x : Lookup) → found_meant s x ≡ found (in_ring t r) s l → Finds (in_ring t r) s l x
finds t r s at_nothing x e = tt
finds t r s (at_file f) x e = ap (λ (z : Found). z.file) e
finds t r s (at_path p) x e = ap (λ (z : Found). z.place) e
finds t r s (at_paths old new) x e = (ap (λ (z : Found). z.place) e, ap (λ (z : Found). z.new_place) e)
