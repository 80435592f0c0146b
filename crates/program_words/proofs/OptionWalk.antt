-- The parser's walk to a subcommand, and over the words behind it.
use Rattle.std.proofs.Common.{◌≡◌, ◌∙◌, true, false, List, [], ◌∷◌, ◌++◌, Some, refl, sym, ap, append_assoc}
use Rattle.std.specs.Prelude.{◌&&◌, fold, is_some}
use Rattle.std.specs.List.{list_all}
use Rattle.std.proofs.lemmas.List.{append-nil}
use Rattle.clap.specs.Walk.{Names, Rule, Text, Walk, walk, walked, walk_from, finished, nothing_held}
use Rattle.clap.specs.Simple.{App, Shape, entered, names_of}
use Rattle.clap.specs.Takes.{built_takes, default_passes, entered_passes, is_valid, level_passes, settle_passes, walk_passes}

-- behind the name of a subcommand the walk takes every word as it is
abbrev pub stopped_at : Text → List Text → Walk → Walk
stopped_at name words w = record w { stopped = Some (name, words) }

pub stopped_walk : (c : List Rule) (names : Names) (w : Walk) (name : Text) (before words : List Text) → fold (walked c names) (stopped_at name before w) words ≡ stopped_at name (before ++ words) w
unfolding walked
stopped_walk c names w name before [] = ap (λ ws. stopped_at name ws w) (sym (append-nil before))
stopped_walk c names w name before (x ∷ words) = stopped_walk c names w name (before ++ x ∷ []) words ∙ ap (λ ws. stopped_at name ws w) (append_assoc before (x ∷ []) words)

pub stopped_passes : (s : Shape) (names : Names) (w : Walk) (name : Text) (before words : List Text) → walk_passes s names (stopped_at name before w) words ≡ true
unfolding walked walk_passes
stopped_passes s names w name before [] = refl
stopped_passes s names w name before (x ∷ words) = stopped_passes s names w name (before ++ x ∷ []) words

-- a command takes the words where each of its parts passes
pub takes_by_parts : (a : App) (words : List Text) (w : Walk) → walk a.top.rules (names_of a) nothing_held words ≡ w → walk_passes a.top (names_of a) (walk_from nothing_held) words ≡ true
    → (entered_passes a w.stopped && (settle_passes a.top.rules a.top.args_override_self w.held && (list_all default_passes a.top.rules && is_valid a.top (finished a.top.rules w.held) (is_some (entered a w.stopped))))) ≡ true
    → built_takes a nothing_held words ≡ true
takes_by_parts a words w walk passes rest = rw (walk, passes) rest

-- and so a subcommand
pub level_by_parts : (s : Shape) (words : List Text) (w : Walk) → walk s.rules [] nothing_held words ≡ w → walk_passes s [] (walk_from nothing_held) words ≡ true
    → (settle_passes s.rules s.args_override_self w.held && (list_all default_passes s.rules && is_valid s (finished s.rules w.held) false)) ≡ true
    → level_passes s [] nothing_held words false ≡ true
level_by_parts s words w walk passes rest = rw (walk, passes) rest
