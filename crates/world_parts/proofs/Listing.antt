-- A loop that lists the names of a tree: what it has listed, and what the pending names stand for, are all paths.
use Rattle.std.proofs.Common.{◌≡◌, ℕ, suc, ◌<◌, List, [], ◌∷◌, ◌++◌, length, take, drop, Some, ap, sym, subst, ◌∙◌, arith, append_assoc}
use Rattle.std.specs.List.{flat_map}
use Rattle.std.specs.List.Sorted.{IsPermutation}
use Rattle.std.proofs.lemmas.Grind.{flat_map-append}
use Rattle.std.proofs.lemmas.List.{append-nil, take-append-drop}
use Rattle.std.proofs.lemmas.List.Sorted.{length_permutation, IsPermutation-trans, IsPermutation-cons, IsPermutation-append_left, IsPermutation-append_right, IsPermutation-append_comm}
use Rattle.sqe_codec.specs.Answers.{each}
use Rattle.file_tree.specs.Tree.{Tree, Names, names}
use Rattle.world_parts.specs.Image.{paths_below}
use Rattle.world_parts.specs.declared.imaging.Pending.{Pending}
use Rattle.world_parts.specs.Pending.{AddsPaths, paths_at, paths_of, paths_pending}

pub paths_below-names : (levels below : ℕ) (tree : Tree) (path : List ℕ) (d : ℕ) (ns : Names) → levels ≡ suc below → names tree d ≡ Some ns
    → paths_below levels tree path d ≡ flat_map (paths_at below tree path) ns.entries
paths_below-names levels below tree path d ns e f =
    ap (λ n. paths_below n tree path d) e ∙ ap (λ x. flat_map (paths_at below tree path) (each (λ (ns : Names). ns.entries) x)) f

module _ (tree : Tree) where
  pub paths_pending-push : (ps : List Pending) (p : Pending) → paths_pending tree (ps ++ p ∷ []) ≡ paths_of tree p ++ paths_pending tree ps
  paths_pending-push [] p = sym (append-nil (paths_of tree p))
  paths_pending-push (q ∷ ps) p = ap (λ xs. xs ++ paths_of tree q) (paths_pending-push ps p) ∙ append_assoc (paths_of tree p) (paths_pending tree ps) (paths_of tree q)

  -- the last name of a directory that is left becomes the next one that is pending
  pub one_pushed : {A : Type 0} (f : A → List (List ℕ × ℕ)) (left rest : List A) (x : A) (before after : List Pending) (whole : List (List ℕ × ℕ))
      → left ≡ rest ++ x ∷ [] → AddsPaths tree before after (f x) → flat_map f left ++ paths_pending tree before ≡ whole → flat_map f rest ++ paths_pending tree after ≡ whole
  one_pushed f left rest x before after whole e h inv =
      let last : flat_map f (rest ++ x ∷ []) ≡ flat_map f rest ++ f x = flat_map-append f rest (x ∷ []) ∙ ap (λ y. flat_map f rest ++ y) (append-nil (f x)) in
      ap (λ y. flat_map f rest ++ y) h
      ∙ sym (append_assoc (flat_map f rest) (f x) (paths_pending tree before))
      ∙ ap (λ y. y ++ paths_pending tree before) (sym last ∙ ap (flat_map f) (sym e))
      ∙ inv

  -- the next name that is pending gives its path, and the names below it become pending
  pub one_listed : (old popped pushed : List Pending) (p : Pending) → old ≡ popped ++ p ∷ [] → paths_pending tree pushed ≡ paths_below p.levels tree p.path.items p.node ++ paths_pending tree popped
      → paths_pending tree old ≡ (p.path.items, p.node) ∷ paths_pending tree pushed
  one_listed old popped pushed p e h = ap (paths_pending tree) e ∙ paths_pending-push popped p ∙ ap (λ y. (p.path.items, p.node) ∷ y) (sym h)

pub fewer : {A : Type 0} (xs ys : List A) (x : A) → xs ≡ x ∷ ys → length ys < length xs
fewer xs ys x e = omega (arith, ap length e)

module _ {X E : Type 0} (f : X → List E) where
  -- a list gets what one element more stands for
  pub listed_one : (left rest : List X) (x : X) (before after part whole : List E) → left ≡ x ∷ rest → f x ≡ part → after ≡ before ++ part
      → before ++ flat_map f left ≡ whole → after ++ flat_map f rest ≡ whole
  listed_one left rest x before after part whole e h a inv =
      ap (λ y. y ++ flat_map f rest) (a ∙ ap (λ p. before ++ p) (sym h))
      ∙ append_assoc before (f x) (flat_map f rest)
      ∙ ap (λ xs. before ++ flat_map f xs) (sym e)
      ∙ inv

  -- an element that stands for nothing
  pub listed_none : (left rest : List X) (x : X) (before whole : List E) → left ≡ x ∷ rest → f x ≡ [] → before ++ flat_map f left ≡ whole → before ++ flat_map f rest ≡ whole
  listed_none left rest x before whole e h inv =
      ap (λ p. before ++ (p ++ flat_map f rest)) (sym h) ∙ ap (λ xs. before ++ flat_map f xs) (sym e) ∙ inv

  -- no element is left
  pub all_listed : (left : List X) (before whole : List E) → left ≡ [] → before ++ flat_map f left ≡ whole → before ≡ whole
  all_listed left before whole e inv = sym (append-nil before) ∙ ap (λ xs. before ++ flat_map f xs) (sym e) ∙ inv

module _ (tree : Tree) where
  paths_pending-append : (ps qs : List Pending) → paths_pending tree (ps ++ qs) ≡ paths_pending tree qs ++ paths_pending tree ps
  paths_pending-append [] qs = sym (append-nil (paths_pending tree qs))
  paths_pending-append (p ∷ ps) qs = ap (λ l. l ++ paths_of tree p) (paths_pending-append ps qs) ∙ append_assoc (paths_pending tree qs) (paths_pending tree ps) (paths_of tree p)

  -- pending names of which the last ones are turned stand for the same paths in another order
  pub turned : (first last : ℕ) (ps qs : List Pending) → qs ≡ take first ps ++ (drop last (drop first ps) ++ take last (drop first ps)) → IsPermutation (paths_pending tree ps) (paths_pending tree qs)
  turned first last ps qs e =
      let pp : List Pending → List (List ℕ × ℕ) = paths_pending tree in
      let a = take first ps in
      let ys = drop first ps in
      let b = take last ys in
      let c = drop last ys in
      let old : pp ps ≡ (pp c ++ pp b) ++ pp a = ap pp (sym (take-append-drop first ps)) ∙ paths_pending-append a ys ∙ ap (λ l. l ++ pp a) (ap pp (sym (take-append-drop last ys)) ∙ paths_pending-append b c) in
      let new : pp qs ≡ (pp b ++ pp c) ++ pp a = ap pp e ∙ paths_pending-append a (c ++ b) ∙ ap (λ l. l ++ pp a) (paths_pending-append c b) in
      subst (λ l. IsPermutation l (pp qs)) (sym old) (subst (λ l. IsPermutation ((pp c ++ pp b) ++ pp a) l) (sym new) (IsPermutation-append_left (pp a) (pp c ++ pp b) (pp b ++ pp c) (IsPermutation-append_comm (pp c) (pp b))))

-- one of the paths that are left is listed, and others take its place
pub listed_more : {A : Type 0} (whole listed below old new : List A) (x : A) → IsPermutation whole (listed ++ x ∷ (below ++ old)) → IsPermutation (below ++ old) new → IsPermutation whole ((listed ++ x ∷ []) ++ new)
listed_more whole listed below old new x h k =
    subst (IsPermutation whole) (sym (append_assoc listed (x ∷ []) new))
    (IsPermutation-trans whole (listed ++ x ∷ (below ++ old)) (listed ++ x ∷ new) h (IsPermutation-append_right listed (x ∷ (below ++ old)) (x ∷ new) (IsPermutation-cons x (below ++ old) new k)))

-- the next name that is pending stands for its path and for those below it
pub next_stands : (tree : Tree) (old popped : List Pending) (p : Pending) → old ≡ popped ++ p ∷ [] → paths_pending tree old ≡ (p.path.items, p.node) ∷ (paths_below p.levels tree p.path.items p.node ++ paths_pending tree popped)
next_stands tree old popped p e = ap (paths_pending tree) e ∙ paths_pending-push tree popped p

-- others in place of those below it are fewer
pub fewer_left : {A : Type 0} (old rest new : List A) (x : A) → old ≡ x ∷ rest → IsPermutation rest new → length new < length old
fewer_left old rest new x e h = omega (arith, ap length e, length_permutation rest new h)
