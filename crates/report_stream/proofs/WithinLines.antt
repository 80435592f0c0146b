-- A world within another shows the same.
use Rattle.std.proofs.Common.{◌≡◌, ◌++◌, [], ◌∷◌, ℕ, List, refl, ap, ◌∙◌, inl, inr}
use Rattle.std.specs.Prelude.{codes, unwrap_or, if◌then◌else◌}
use Rattle.std.specs.Fmt.{decimal}
use Rattle.std.specs.List.{AllByRecursion, flat_map}
use Rattle.std.proofs.lemmas.List.Elements.{All-from_recursion}
use Rattle.sqe_codec.specs.Answers.{each}
use Rattle.finite_maps.specs.Table.{get}
use Rattle.file_tree.specs.Tree.{bytes_of_node}
use Rattle.std.specs.Option.{option_and_then}
use Rattle.recording.specs.declared.recording.Ring.{Ring}
use Rattle.world_parts.specs.Image.{image_of}
use Rattle.world_parts.specs.World.{World, IsWorld}
use Rattle.world_parts.proofs.Members.{In}
use Rattle.world_parts.specs.declared.image.BufferEntry.{BufferEntry}
use Rattle.world_parts.specs.declared.image.Image.{Image}
use Rattle.world_parts.specs.declared.image.NameEntry.{NameEntry}
use Rattle.sweep_laws.specs.Within.{IsWithin}
use Rattle.sweep_laws.proofs.Images.{flat_map_same, image_same, names_alike}
use Rattle.replay_report.specs.Report.{buffer_shown, buffer_sum, descriptor_line, file_sum, has_ended, line, name_line, named_line, slot_shown, world_lines}
use Rattle.replay_report.specs.declared.showing.SumsShown.{SumsShown}

-- what holds of each member holds of all
of_members : {A : Type 0} (P : A → Type 0) (xs : List A) → ((x : A) → In x xs → P x) → AllByRecursion P xs
of_members P [] h = tt
of_members P (x ∷ xs) h = (h x (inl refl), of_members P xs (λ y there. h y (inr there)))

module _ (started : ℕ) (s w : World) (is : IsWorld s) (h : IsWithin started s w) (rings : List Ring) (shown : SumsShown) where
  -- the line of a name that leads to a node that both have
  name_same : (e : NameEntry) → get w.nodes e.node ≡ get s.nodes e.node → name_line w shown e ≡ name_line s shown e
  name_same e there = ap (λ x. named_line e.path e.node e.size (each (file_sum shown) (option_and_then bytes_of_node x))) there

  names_same : flat_map (name_line w shown) (image_of w).names ≡ flat_map (name_line s shown) (image_of s).names
  names_same =
      let HasNode = λ (e : NameEntry). get w.nodes e.node ≡ get s.nodes e.node in
      let names = (image_of w).names in
      flat_map_same HasNode (name_line w shown) (name_line s shown) names (All-from_recursion HasNode names (of_members HasNode names (names_alike started s w h))) name_same
      ∙ ap (λ (x : Image). flat_map (name_line s shown) x.names) (image_same started s w is h)

  buffers_same : flat_map (buffer_shown rings w shown) (image_of w).buffers ≡ flat_map (buffer_shown rings s shown) (image_of s).buffers
  buffers_same =
      (λ i. flat_map (λ (e : BufferEntry). if has_ended rings e.ring then [] else line (codes "buffer " ++ decimal e.ring ++ codes " " ++ decimal e.index ++ codes " len=" ++ decimal e.len ++ buffer_sum shown (unwrap_or (get (h.buffers i) (e.ring, e.index)) []))) (image_of w).buffers)
      ∙ ap (λ (x : Image). flat_map (buffer_shown rings s shown) x.buffers) (image_same started s w is h)

  pub lines_within : world_lines rings w shown ≡ world_lines rings s shown
  lines_within = λ i.
      line (codes "tree") ++ names_same i
      ++ line (codes "slots") ++ flat_map (slot_shown rings) (image_same started s w is h i).slots ++ flat_map descriptor_line (image_same started s w is h i).descriptors
      ++ line (codes "buffers") ++ buffers_same i
