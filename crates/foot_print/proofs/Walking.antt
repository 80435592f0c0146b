-- The steps of a walk: the names that they look up, and where the last one leads.
use Rattle.std.proofs.Common.{◌≡◌, List, [], ◌∷◌, map, Some, None, Result, Err, refl}
use Rattle.std.specs.Prelude.{unwrap_or}
use Rattle.std.specs.List.{last_or}
use Rattle.sqe_codec.specs.declared.errno.Errno.{Errno}
use Rattle.sqe_codec.specs.declared.errno.Errno.TheVariants.{ENOENT}
use Rattle.file_tree.specs.Walk.{Place}
use Rattle.file_tree.proofs.Walks.{names_of}
use Rattle.world_parts.specs.Items.{Footprint, one, name_at, reads}

abbrev pub names_read : List (Result Place Errno) → Footprint
names_read ss = map (λ e. reads (one (name_at e.0 e.1))) (names_of ss)

-- where a walk leads that has come somewhere, or met an error
abbrev pub leads : Result Place Errno → List (Result Place Errno) → Result Place Errno
leads r ss = unwrap_or (last_or (Some r) ss) (Err ENOENT)

-- where one leads that has come nowhere yet
pub led : (ss : List (Result Place Errno)) → leads (Err ENOENT) ss ≡ unwrap_or (last_or None ss) (Err ENOENT)
led [] = refl
led (s ∷ ss) = refl
