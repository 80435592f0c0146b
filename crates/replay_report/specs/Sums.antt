-- The model: what has a sum.
use Rattle.std.specs.Prelude.{◌≡◌, ⊤, ℕ, List, [], ◌∷◌, ◌++◌, Option, None, Some, nat_lt, unwrap_or, if◌then◌else◌}
use Rattle.std.specs.List.{All, Contains, filter_map, flat_map}
use Rattle.sha2.specs.Sha256.{sha256}
use Rattle.world_parts.specs.World.{World, bytes, buffer}
use Rattle.world_parts.specs.declared.image.Image.{Image}
use Rattle.world_parts.specs.declared.image.NameEntry.{NameEntry}
use Rattle.world_parts.specs.declared.image.BufferEntry.{BufferEntry}
use Rattle.replay_report.specs.TreeSum.{most_summed, tree_sum}
use Rattle.replay_report.specs.declared.tree_sums.TreeSums.{TreeSums}
use Rattle.replay_report.specs.declared.made.Made.{Made}
use Rattle.replay_report.specs.declared.made.Made.TheVariants as made
use Rattle.replay_report.specs.declared.showing.SumsShown.{SumsShown}
use Rattle.replay_report.specs.declared.showing.SumsShown.TheVariants as shows
use Rattle.replay_report.specs.declared.sums.Holder.{Holder}
use Rattle.replay_report.specs.declared.sums.Holder.TheVariants.{File, Buffer}
use Rattle.replay_report.specs.declared.sums.Summed.{Summed}
use Rattle.replay_report.specs.declared.sums.Sums.{Sums}

-- The bytes of a file or a buffer, where it is there.
abbrev pub held : World → Holder → Option (List ℕ)
held s (File node) = bytes s node
held s (Buffer ring index) = buffer s ring index

-- A sum is that of the bytes of its file or buffer.
abbrev pub IsSum : World → Summed → Type 0
IsSum s it = it.sum ≡ sha256 (unwrap_or (held s it.holder) [])

-- So is each sum that is known.
abbrev pub AreSumsOf : World → Sums → Type 0
AreSumsOf s sums = All (λ e. IsSum s (record { holder = e.0; sum = e.1 })) sums.known.entries

-- So is each sum that is known of a large file.
abbrev pub IsTreeSum : World → ℕ × List ℕ → Type 0
IsTreeSum s e = e.1 ≡ tree_sum (unwrap_or (bytes s e.0) [])

abbrev pub AreTreeSums : World → TreeSums → Type 0
AreTreeSums s sums = All (IsTreeSum s) sums.known.entries

-- Which sums a report shows, by those that were made for it.
abbrev pub shown_of : Made → SumsShown
shown_of made.None = shows.None
shown_of (made.Small sums) = shows.Small
shown_of (made.All sums trees) = shows.All

abbrev pub AreMade : World → Made → Type 0
AreMade s made.None = ⊤
AreMade s (made.Small sums) = AreSumsOf s sums.now
AreMade s (made.All sums trees) = AreSumsOf s sums.now × AreTreeSums s trees.now

-- A file behind its size; none where it is too large for a sum, or is no file.
abbrev pub sized_file : ℕ → Option ℕ → Option (ℕ × Holder)
sized_file node None = None
sized_file node (Some size) = if nat_lt most_summed size then None else Some (size, File node)

-- The file of a name that has a sum.
abbrev pub file_to_sum : NameEntry → Option (ℕ × Holder)
file_to_sum name = sized_file name.node name.size

-- A buffer, behind its length.
abbrev pub buffer_to_sum : BufferEntry → List (ℕ × Holder)
buffer_to_sum b = (b.len, Buffer b.ring b.index) ∷ []

-- The files and buffers that have a sum in an image, each behind its size or length.
abbrev pub shown : Image → List (ℕ × Holder)
shown image = filter_map file_to_sum image.names ++ flat_map buffer_to_sum image.buffers

-- Two lists have the same elements.
abbrev pub HaveSame : {X : Type 0} → List X → List X → Type 0
HaveSame xs ys = All (Contains ys) xs × All (Contains xs) ys
