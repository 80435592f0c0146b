-- The model: the limits of the numbers that the words may ask for.
use Rattle.std.specs.Prelude.{◌≤◌, ⊤, ℕ}
use Rattle.program_words.specs.declared.words.Mode.{Mode}
use Rattle.program_words.specs.declared.words.Mode.TheVariants.{Serial, Run, Compare, Rounds, Depends, Check}

-- The numbers of workers and of places are within their limits.
abbrev pub IsWindow : ℕ → Type 0
IsWindow window = (1 ≤ window) × (window ≤ 4096)

abbrev pub AreServed : ℕ → ℕ → Type 0
AreServed workers window = (1 ≤ workers) × (workers ≤ 64) × (1 ≤ window) × (window ≤ 4096)

-- The numbers that a mode asks for are within their limits.
abbrev pub IsServed : Mode → Type 0
IsServed Serial = ⊤
IsServed (Run workers window eager) = AreServed workers window
IsServed (Compare workers window eager) = AreServed workers window
IsServed (Rounds window dot) = IsWindow window
IsServed (Depends dot) = ⊤
IsServed Check = ⊤
