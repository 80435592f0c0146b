-- A view of code: the names of a directory, kept as short ones and long ones.
use Rattle.std.specs.Prelude.{◌≡◌, ℕ, Bool, true, false, ◌≤◌, ◌<◌, List, [], ◌∷◌, ◌++◌, length, Option, Some, None, IfNone, Vec}
use Rattle.std.specs.Borrow.{Bor}
use Rattle.std.specs.declared.alloc.Global.{Global}
use Rattle.std.specs.List.{AllByRecursion}
use Rattle.std.specs.List.Sorted.{IsStrictlySortedBy}
use Rattle.std.specs.Map.{keys_of}
use Rattle.std.specs.Ordering.{nat_cmp, is_gt}
use Rattle.std.specs.Cmp.Lexicographic.{slice_cmp}
use Rattle.finite_maps.specs.Table.{text_keys}
use Rattle.finite_maps.specs.Maps.{table_of}
use Rattle.file_tree.specs.Tree.{Names}

-- the bytes of a long name, with the number of its node
abbrev pub as_name : Vec ℕ Global × ℕ → List ℕ × ℕ
as_name e = (e.0.items, e.1)

-- the names in two lists
abbrev pub names_in : List (List ℕ × ℕ) → List (List ℕ × ℕ) → Names
names_in short long = table_of text_keys.total (short ++ long)

-- short names have at most fifteen bytes, and long ones more
abbrev pub AreShort : List (List ℕ × ℕ) → Type 0
AreShort es = AllByRecursion (λ k. length k ≤ 15) (keys_of es)

abbrev pub AreLong : List (List ℕ × ℕ) → Type 0
AreLong es = AllByRecursion (λ k. 15 < length k) (keys_of es)

-- a list of the one name that there is, or of none
abbrev pub listed : Option (Bor (List ℕ) × ℕ) → List (List ℕ × ℕ)
listed None = []
listed (Some e) = (e.0.now, e.1) ∷ []

-- names in their order, and the last one of them apart, if there is one
abbrev pub EndAt : List (List ℕ × ℕ) → Option (Bor (List ℕ) × ℕ) → Type 0
EndAt es last = IsStrictlySortedBy (slice_cmp nat_cmp) (keys_of (es ++ listed last)) × IfNone last (es ≡ [])

-- short names and long ones, each in their order
abbrev pub AreListed : List (List ℕ × ℕ) → List (List ℕ × ℕ) → Type 0
AreListed short long = AreShort short × AreLong long × IsStrictlySortedBy (slice_cmp nat_cmp) (keys_of short) × IsStrictlySortedBy (slice_cmp nat_cmp) (keys_of long)

-- the same, the last ones apart
abbrev pub AreLeft : List (List ℕ × ℕ) → Option (Bor (List ℕ) × ℕ) → List (List ℕ × ℕ) → Option (Bor (List ℕ) × ℕ) → Type 0
AreLeft shorts short longs long = AreShort (shorts ++ listed short) × AreLong (longs ++ listed long) × EndAt shorts short × EndAt longs long

-- whether the first of two names is there, and comes behind the second or alone
abbrev pub comes_behind : Option (Bor (List ℕ) × ℕ) → Option (Bor (List ℕ) × ℕ) → Bool
comes_behind None other = false
comes_behind (Some e) None = true
comes_behind (Some e) (Some f) = is_gt (slice_cmp nat_cmp e.0.now f.0.now)

-- a call gave the last of the names, or `None` where none was left
abbrev pub TakesLast : Names → Option (Bor (List ℕ) × ℕ) → Names → Type 0
TakesLast old None new = (old.entries ≡ []) × (new.entries ≡ [])
TakesLast old (Some e) new = old.entries ≡ new.entries ++ (e.0.now, e.1) ∷ []
