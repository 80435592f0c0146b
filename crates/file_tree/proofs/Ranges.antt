-- Ranges of bytes, as far as there are bytes.
use Rattle.std.proofs.Common.{◌≡◌, ℕ, ◌+◌, ◌-◌, ◌<◌, ◌≤◌, List, [], length, drop, sym, ◌∙◌, ap, refl, inl, inr, arith}
use Rattle.std.specs.Prelude.{◌⊎◌, min, replicate, Option, IfSome, unwrap_or}
use Rattle.std.proofs.lemmas.Bool.{cases_lt}
use Rattle.std.proofs.lemmas.List.{take_min, drop_min, length-drop, take-append-drop}
use Rattle.extent_bytes.specs.Bytes.{overwritten, range_of, zeroed}
use Rattle.extent_bytes.proofs.Lists.{none_put}
use Rattle.file_tree.specs.Tree.{Node, directory, file, rewritten_node}
use Rattle.std.specs.Option.{option_map}

module _ (bytes : List ℕ) (lo hi : ℕ) where
  abbrev end : ℕ
  end = min hi (length bytes)

  pub range_of-within : range_of bytes (min lo end) end ≡ range_of bytes lo hi
  unfolding range_of
  range_of-within =
      let count = length-drop lo bytes in
      grind (arith, drop_min lo bytes, take_min (hi - lo) (drop lo bytes))

  -- nothing is put over the bytes
  overwritten-none : (at : ℕ) → at ≤ length bytes → overwritten bytes at [] ≡ bytes
  unfolding overwritten
  overwritten-none at h =
      let no_gap : at - length bytes ≡ 0 = omega (arith, h) in
      let same : at + 0 ≡ at = omega arith in
      rw (no_gap, same) (take-append-drop at bytes)

  pub zeroed-within : zeroed bytes (min lo end) end ≡ zeroed bytes lo hi
  zeroed-within = by_order (cases_lt end lo)
    where
      by_order : (end < lo) ⊎ (lo ≤ end) → zeroed bytes (min lo end) end ≡ zeroed bytes lo hi
      by_order (inl h) =
          let none : min end (length bytes) - min lo end ≡ 0 = omega (arith, h) in
          let none_too : min hi (length bytes) - lo ≡ 0 = omega (arith, h) in
          ap (λ n. overwritten bytes (min (min lo end) (length bytes)) (replicate n 0)) none
          ∙ overwritten-none (min (min lo end) (length bytes)) (omega arith)
          ∙ sym (ap (λ n. overwritten bytes (min lo (length bytes)) (replicate n 0)) none_too ∙ overwritten-none (min lo (length bytes)) (omega arith))
      by_order (inr h) =
          let first : min lo end ≡ lo = omega (arith, h) in
          let last : min end (length bytes) ≡ end = omega (arith) in
          rw (first, last) refl

-- the bytes of a range, of what may be no file
abbrev pub held : ℕ → ℕ → Option (List ℕ) → List ℕ
held lo hi o = range_of (unwrap_or o []) lo hi

-- what fits by the length of what may be no file fits it
pub fits : (end : ℕ) (o : Option (List ℕ)) → IfSome (option_map length o) (λ size. end ≤ size) → IfSome o (λ bytes. end ≤ length bytes)
fits limit o h = grind arith

-- a range of none that is put over a node
pub nothing_put : (lo hi : ℕ) → lo ≤ hi → hi ≤ 0 → (x : Node) → rewritten_node (λ old. overwritten old lo (range_of [] lo hi)) x ≡ x
nothing_put lo hi h l (directory ns others) = refl
nothing_put lo hi h l (file bytes) = ap (λ bs. file bs) (none_put lo hi h l bytes)
