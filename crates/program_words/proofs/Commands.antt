-- What the parser makes of a command with uses of its options.
use Rattle.std.proofs.Common.{◌≡◌, ◌∙◌, true, false, List, [], ◌∷◌, ◌++◌, map, Some, refl, ap}
use Rattle.std.specs.Prelude.{◌&&◌, find, fold, slice_get, unwrap_or}
use Rattle.std.specs.List.{list_all}
use Rattle.clap.specs.Simple.{Shape, built, entered, filled, help_rule, label_of, names_of}
use Rattle.clap.specs.Takes.{default_passes, is_valid, level_passes, turn_passes, walk_passes}
use Rattle.clap.specs.Walk.{Row, Walk, answers_to, finished, nothing_held, row_text, walk, walk_from, walked}
use Rattle.clap.specs.Words.{subcommand_of, takes}
use Rattle.clap.proofs.OnLiterals.{clap_on_literals}
use Rattle.program_words.specs.Options.{AreUses, CommandName, Use, check, compare, depends, diff, make, name_of, options_of, rounds, run, serial, show, words_of}
use Rattle.program_words.specs.Words.{IsFound, command_shape, replayer}
use Rattle.program_words.proofs.OptionWalk.{level_by_parts, stopped_at, stopped_passes, stopped_walk, takes_by_parts}
use Rattle.program_words.proofs.UseRows.{Reads, are_options, fitted, reads_text, text_given}
use Rattle.program_words.proofs.UseWalk.{Ends, Stands, all_walked, at, built_of}

-- a command as the parser has built it
leaf : CommandName → Shape
leaf c = unwrap_or (find (λ s. answers_to (name_of c) (label_of s)) (built replayer).subs) (command_shape c)

record IsBuilt (c : CommandName) : Type 0 where
  rules : (leaf c).rules ≡ map built_of (options_of c) ++ filled help_rule ∷ []
  are : are_options (options_of c) ≡ true
  rest : (rows : List Row) → (list_all default_passes (leaf c).rules && is_valid (leaf c) rows false) ≡ true
  sub : find (λ s. answers_to (name_of c) (label_of s)) (built replayer).subs ≡ Some (leaf c)
  name : (leaf c).name ≡ name_of c
  first : walked (built replayer).top.rules (names_of (built replayer)) (walk_from nothing_held) (name_of c) ≡ stopped_at (name_of c) [] (walk_from nothing_held)
  turn : turn_passes (built replayer).top (names_of (built replayer)) (walk_from nothing_held) (name_of c) ≡ true

is_built : (c : CommandName) → IsBuilt c
unfolding clap_on_literals leaf
is_built serial = record { rules = refl; are = refl; rest = λ rows. refl; sub = refl; name = refl; first = refl; turn = refl }
is_built run = record { rules = refl; are = refl; rest = λ rows. refl; sub = refl; name = refl; first = refl; turn = refl }
is_built compare = record { rules = refl; are = refl; rest = λ rows. refl; sub = refl; name = refl; first = refl; turn = refl }
is_built rounds = record { rules = refl; are = refl; rest = λ rows. refl; sub = refl; name = refl; first = refl; turn = refl }
is_built depends = record { rules = refl; are = refl; rest = λ rows. refl; sub = refl; name = refl; first = refl; turn = refl }
is_built check = record { rules = refl; are = refl; rest = λ rows. refl; sub = refl; name = refl; first = refl; turn = refl }
is_built show = record { rules = refl; are = refl; rest = λ rows. refl; sub = refl; name = refl; first = refl; turn = refl }
is_built make = record { rules = refl; are = refl; rest = λ rows. refl; sub = refl; name = refl; first = refl; turn = refl }
is_built diff = record { rules = refl; are = refl; rest = λ rows. refl; sub = refl; name = refl; first = refl; turn = refl }

as_it_stands : Reads (λ r. slice_get r.values 0)
as_it_stands = record { default = λ k o text is plain. refl; used = λ k o text is small. refl }

module _ (c : CommandName) (uses : List Use) (are : AreUses (options_of c) 1 [] uses) where
  ends : Ends (leaf c) 1 [] uses nothing_held
  ends =
      let b = is_built c in
      let start : Stands (leaf c) [] nothing_held = record { rows = refl; ready = refl } in
      all_walked (leaf c) (options_of c) uses 1 [] nothing_held (fitted (leaf c) (options_of c) (filled help_rule ∷ []) b.rules b.are) start are

  stops : walk (built replayer).top.rules (names_of (built replayer)) nothing_held (name_of c ∷ words_of uses) ≡ stopped_at (name_of c) (words_of uses) (walk_from nothing_held)
  stops =
      ap (λ (w : Walk). fold (walked (built replayer).top.rules (names_of (built replayer))) w (words_of uses)) (is_built c).first
      ∙ stopped_walk (built replayer).top.rules (names_of (built replayer)) (walk_from nothing_held) (name_of c) [] (words_of uses)

  enters : subcommand_of replayer (name_of c ∷ words_of uses) ≡ Some (name_of c, finished (leaf c).rules ends.end)
  enters =
      let b = is_built c in
      ap (λ (w : Walk). entered (built replayer) w.stopped) stops ∙ rw (b.sub, b.name, ends.walked) refl

  pub command_taken : takes replayer (name_of c ∷ words_of uses) ≡ true
  unfolding walk_passes
  command_taken =
      let b = is_built c in
      let level : level_passes (leaf c) [] nothing_held (words_of uses) false ≡ true =
      level_by_parts (leaf c) (words_of uses) (at ends.end ends.last) ends.walked ends.passes (rw ends.stands.ready (b.rest (finished (leaf c).rules ends.end))) in
      takes_by_parts (built replayer) (name_of c ∷ words_of uses) (stopped_at (name_of c) (words_of uses) (walk_from nothing_held)) stops
      (rw (b.turn, b.first) (stopped_passes (built replayer).top (names_of (built replayer)) (walk_from nothing_held) (name_of c) [] (words_of uses)))
      (rw (b.sub, level) refl)

  pub command_found : IsFound c uses (subcommand_of replayer (name_of c ∷ words_of uses))
  command_found =
      let b = is_built c in record {
        named = rw enters refl;
        texts = record { are = are; texts = λ word. rw enters (text_given row_text reads_text (leaf c) (options_of c) (filled help_rule ∷ []) b.rules b.are (λ id. refl) uses are ends.end ends.stands word) };
        names = record { are = are; texts = λ word. rw enters (text_given (λ r. slice_get r.values 0) as_it_stands (leaf c) (options_of c) (filled help_rule ∷ []) b.rules b.are (λ id. refl) uses are ends.end ends.stands word) };
      }
