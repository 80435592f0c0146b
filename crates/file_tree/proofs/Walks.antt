-- The steps of a walk: the last leads where the walk does, and they look its names up.
use native.Mathlib.Omega.{arith}
use Rattle.std.proofs.Common.{◌≡◌, ℕ, Bool, true, false, List, [], ◌∷◌, length, Option, Some, None, Result, Ok, Err, ◌∙◌, ap, refl}
use Rattle.std.specs.Prelude.{if◌then◌else◌, unwrap_or}
use Rattle.std.specs.List.{filter_map, last_or}
use Rattle.std.specs.Option.{option_map}
use Rattle.std.specs.Result.{result_ok}
use Rattle.std.proofs.lemmas.Iterator.{YieldsList}
use Rattle.std.proofs.lemmas.Iterator.Splits.{YieldsList-from_shown_while}
use Rattle.sqe_codec.specs.declared.errno.Errno.{Errno}
use Rattle.sqe_codec.specs.declared.errno.Errno.TheVariants.{ENOENT, EBADF, ENAMETOOLONG}
use Rattle.sqe_codec.specs.Answers.{◌>>◌, require, each_ok}
use Rattle.trace_format.specs.Paths.{Path, components}
use Rattle.file_tree.specs.Tree.{Tree, name}
use Rattle.file_tree.specs.Found.{walk_meant}
use Rattle.file_tree.specs.Steps.{GivesStep, steps, steps_from, steps_left}
use Rattle.file_tree.specs.declared.steps.Steps.{Steps}
use Rattle.file_tree.specs.Walk.{Place, directory_at, starts_at_root, names_from, names_on, walk, walk_from}

-- the names that steps look up, each with its directory
abbrev pub names_of : List (Result Place Errno) → List (ℕ × List ℕ)
names_of ss = filter_map (λ s. option_map (λ (p : Place). (p.parent, p.name)) (result_ok s)) ss

-- what is yielded is the steps that are left
pub steps_yielded : (s : Steps) → YieldsList GivesStep (walk_meant s.tree.now) s (steps_left s)
steps_yielded s =
    YieldsList-from_shown_while GivesStep (walk_meant s.tree.now) steps_left (λ t. t.tree.now ≡ s.tree.now) (λ t u same e. ap length e.0) (λ t x u same e. (e.2 ∙ same, e.0 ∙ ap (λ tree. walk_meant tree x ∷ steps_left u) same)) s refl

module _ (tree : Tree) where
  -- a step in a directory, by whether the name is short enough
  abbrev stepped : ℕ → List ℕ → Bool → Result Place Errno
  stepped d n fits = require fits ENAMETOOLONG >> Ok (record { parent = d; name = n; target = name tree d n })

  abbrev further : List (List ℕ) → Result Place Errno → List (Result Place Errno)
  further ns s = each_ok (λ (p : Place). steps_from tree (directory_at p.target) ns) s

  last_step : (ns : List (List ℕ)) (d : ℕ) (n : List ℕ) (o : Option (Result Place Errno)) → last_or o (steps_from tree (Ok d) (n ∷ ns)) ≡ Some (walk_from tree d (n ∷ ns))
  last_step [] d n o = grind arith
  last_step (m ∷ ns) d n o =
      let down = λ (e : ℕ). last_step ns e m (Some (stepped d n true)) in
      grind (arith, down)

  names_stepped : (ns : List (List ℕ)) (r : Result ℕ Errno) → names_of (steps_from tree r ns) ≡ each_ok (λ d. names_from tree d ns) r
  names_stepped [] (Ok d) = refl
  names_stepped [] (Err e) = refl
  names_stepped (n ∷ ns) (Err e) = refl
  names_stepped (n ∷ ns) (Ok d) = grind (arith, names_stepped ns (directory_at (name tree d n)))

  pub last_of_steps : (p : Path) → unwrap_or (last_or None (steps tree p)) (Err ENOENT) ≡ walk tree p
  last_of_steps p = by (starts_at_root p) (components p.text)
    where
      by : (b : Bool) (ns : List (List ℕ)) → unwrap_or (last_or None (if b then steps_from tree (Ok 0) ns else (Err EBADF ∷ []))) (Err ENOENT) ≡ (require b EBADF >> walk_from tree 0 ns)
      by true [] = refl
      by true (n ∷ ns) = ap (λ o. unwrap_or o (Err ENOENT)) (last_step ns 0 n None)
      by false ns = refl

  pub names_of_steps : (p : Path) → names_of (steps tree p) ≡ names_on tree p
  names_of_steps p = let stepped = names_stepped (components p.text) (Ok 0) in grind (arith, stepped)
