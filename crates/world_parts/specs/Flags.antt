-- A helper: whether two chains broke in the same way.
use Rattle.std.specs.Prelude.{◌≡◌, Bool, true, false, refl}
use Rattle.std.specs.Bool.{Decides}
use Rattle.std.specs.Cmp.{IsPartialEquivalence}
use mathlib.Core.Bool.{true≢false}
use mathlib.Core.Path.{sym, ap}
use Rattle.file_tree.specs.Same.{decided}
use Rattle.world_parts.specs.World.{Broken, loud, quiet}

is_loud : Broken → Bool
is_loud loud = true
is_loud quiet = false

abbrev pub same_flag : Broken → Broken → Bool
same_flag loud loud = true
same_flag quiet quiet = true
same_flag loud quiet = false
same_flag quiet loud = false

pub same_flag_decides : (x y : Broken) → Decides (same_flag x y) (x ≡ y)
unfolding is_loud
same_flag_decides loud loud = (λ h. refl, λ h. refl)
same_flag_decides quiet quiet = (λ h. refl, λ h. refl)
same_flag_decides loud quiet = (λ h. absurd (true≢false (sym h)), λ h. absurd (true≢false (ap is_loud h)))
same_flag_decides quiet loud = (λ h. absurd (true≢false (sym h)), λ h. absurd (true≢false (sym (ap is_loud h))))

pub same_flag_laws : IsPartialEquivalence same_flag
same_flag_laws = decided same_flag_decides
