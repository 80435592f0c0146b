-- What a world within another finds is what the other finds.
use Rattle.std.proofs.Common.{◌≡◌, ℕ, List, [], ◌∷◌, true, false, cond, Option, Some, None, refl, ap, ◌∙◌}
use Rattle.std.specs.Prelude.{Result, Ok, Err, IfOk, IfSome, IsSome, is_some}
use Rattle.std.specs.Option.{option_map, option_and_then}
use Rattle.sqe_codec.specs.declared.errno.Errno.{Errno}
use Rattle.sqe_codec.specs.declared.errno.Errno.TheVariants.{EBADF, ENAMETOOLONG, ENOTDIR}
use Rattle.sqe_codec.specs.Answers.{◌>>=◌, ◌>>◌, require, each_ok}
use Rattle.trace_format.specs.Paths.{Path, components}
use Rattle.finite_maps.specs.Table.{get}
use Rattle.file_tree.specs.Tree.{Names, Target, target, kind_of_node, names_of_node}
use Rattle.file_tree.specs.Walk.{Place, walk, walk_from, names_from, names_on, directory_at, fits_name, starts_at_root, is_directory}
use Rattle.world_parts.specs.World.{World, Description, Opened, kind, name, names, opened, opened_by}
use Rattle.sweep_laws.specs.Within.{IsWithin}

-- what there is stays there when it is seen by a function
some_of_map : {A B : Type 0} (f : A → B) (o : Option A) → IsSome (option_map f o) → IsSome o
some_of_map f None h = h
some_of_map f (Some x) h = refl

module _ {started : ℕ} (s w : World) (h : IsWithin started s w) where
  -- both have a node, or a description, alike
  abbrev pub HasNode : ℕ → Type 0
  HasNode i = get w.nodes i ≡ get s.nodes i

  abbrev pub HasDescription : ℕ → Type 0
  HasDescription d = get w.descriptions d ≡ get s.descriptions d

  pub node_there : (i : ℕ) → IsSome (kind w i) → HasNode i
  node_there i there = h.nodes i (some_of_map kind_of_node (get w.nodes i) there)

  pub root_there : HasNode 0
  root_there = node_there 0 (ap is_some h.is_world.root)

  kind_same : (i : ℕ) → HasNode i → kind w i ≡ kind s i
  kind_same i e = ap (option_map kind_of_node) e

  target_same : (i : ℕ) → HasNode i → target w.nodes i ≡ target s.nodes i
  target_same i e = λ j. record { node = i; kind = kind_same i e j }

  -- what a name leads to
  leads_same : (y : Option ℕ) → IfSome (option_map (target w.nodes) y) (λ (g : Target). IsSome g.kind) → option_map (target w.nodes) y ≡ option_map (target s.nodes) y
  leads_same None l = refl
  leads_same (Some i) l = ap Some (target_same i (node_there i l))

  names_same : (d : ℕ) → HasNode d → names w d ≡ names s d
  names_same d e = ap (option_and_then names_of_node) e

  pub name_same : (d : ℕ) (n : List ℕ) → HasNode d → name w d n ≡ name s d n
  name_same d n e =
      leads_same (option_and_then (λ (m : Names). get m n) (names w d)) (h.is_world.tree.names_lead d n)
      ∙ ap (λ (x : Option Names). option_map (target s.nodes) (option_and_then (λ (m : Names). get m n) x)) (names_same d e)

  -- a component leads to a directory that both have, or to an error
  leads_down : (P : Result ℕ Errno → Type 0) → ((e : Errno) → P (Err e)) → ((i : ℕ) → HasNode i → P (Ok i))
      → (y : Option ℕ) → IfSome (option_map (target w.nodes) y) (λ (g : Target). IsSome g.kind) → P (directory_at (option_map (target w.nodes) y))
  leads_down P fails next None l = fails _
  leads_down P fails next (Some i) l =
      elim (is_directory (kind w i)) as (λ b. P (cond b (Ok i) (Err ENOTDIR))) [ true ↦ next i (node_there i l) | false ↦ fails _ ]

  abbrev looked : ℕ → List ℕ → Option ℕ
  looked d n = option_and_then (λ (m : Names). get m n) (names w d)

  walk_from_same : (ns : List (List ℕ)) (d : ℕ) → HasNode d → walk_from w.nodes d ns ≡ walk_from s.nodes d ns
  walk_from_same [] d e = refl
  walk_from_same (n ∷ []) d e = ap (λ (x : Option Target). require (fits_name n) ENAMETOOLONG >> Ok (record { parent = d; name = n; target = x })) (name_same d n e)
  walk_from_same (n ∷ m ∷ ns) d e =
      ap (λ x. require (fits_name n) ENAMETOOLONG >> x)
      (leads_down (λ r. (r >>= λ x. walk_from w.nodes x (m ∷ ns)) ≡ (r >>= λ x. walk_from s.nodes x (m ∷ ns))) (λ x. refl) (walk_from_same (m ∷ ns)) (looked d n) (h.is_world.tree.names_lead d n)
      ∙ ap (λ (x : Option Target). directory_at x >>= λ y. walk_from s.nodes y (m ∷ ns)) (name_same d n e))

  pub walk_same : (p : Path) → walk w.nodes p ≡ walk s.nodes p
  walk_same p = ap (λ x. require (starts_at_root p) EBADF >> x) (walk_from_same (components p.text) 0 root_there)

  names_from_same : (ns : List (List ℕ)) (d : ℕ) → HasNode d → names_from w.nodes d ns ≡ names_from s.nodes d ns
  names_from_same [] d e = refl
  names_from_same (n ∷ ns) d e =
      ap (λ (x : List (ℕ × List ℕ)). cond (fits_name n) ((d, n) ∷ x) [])
      (leads_down (λ r. each_ok (λ x. names_from w.nodes x ns) r ≡ each_ok (λ x. names_from s.nodes x ns) r) (λ x. refl) (names_from_same ns) (looked d n) (h.is_world.tree.names_lead d n)
      ∙ ap (λ (x : Option Target). each_ok (λ y. names_from s.nodes y ns) (directory_at x)) (name_same d n e))

  pub names_on_same : (p : Path) → names_on w.nodes p ≡ names_on s.nodes p
  names_on_same p = ap (λ (x : List (ℕ × List ℕ)). cond (starts_at_root p) x []) (names_from_same (components p.text) 0 root_there)

  -- both have what a place leads to
  abbrev pub HasTarget : Option Target → Type 0
  HasTarget x = IfSome x (λ (y : Target). HasNode y.node)

  abbrev pub HasPlace : Result Place Errno → Type 0
  HasPlace r = IfOk r (λ (q : Place). HasTarget q.target)

  has_leads : (y : Option ℕ) → IfSome (option_map (target w.nodes) y) (λ (g : Target). IsSome g.kind) → HasTarget (option_map (target w.nodes) y)
  has_leads None l = tt
  has_leads (Some i) l = node_there i l

  placed_from : (ns : List (List ℕ)) (d : ℕ) → HasPlace (walk_from w.nodes d ns)
  placed_from [] d = tt
  placed_from (n ∷ []) d =
      elim (fits_name n) as (λ b. HasPlace (require b ENAMETOOLONG >> Ok (record { parent = d; name = n; target = name w d n }))) [
        | true ↦ has_leads (looked d n) (h.is_world.tree.names_lead d n)
        | false ↦ tt
      ]
  placed_from (n ∷ m ∷ ns) d =
      elim (fits_name n) as (λ b. HasPlace (require b ENAMETOOLONG >> (directory_at (name w d n) >>= λ x. walk_from w.nodes x (m ∷ ns)))) [
        | true ↦ down (placed_from (m ∷ ns)) (directory_at (name w d n))
        | false ↦ tt
      ]
    where
      down : ((x : ℕ) → HasPlace (walk_from w.nodes x (m ∷ ns))) → (r : Result ℕ Errno) → HasPlace (r >>= λ x. walk_from w.nodes x (m ∷ ns))
      down f (Ok x) = f x
      down f (Err e) = tt

  pub placed : (p : Path) → HasPlace (walk w.nodes p)
  placed p = elim (starts_at_root p) as (λ b. HasPlace (require b EBADF >> walk_from w.nodes 0 (components p.text))) [ true ↦ placed_from (components p.text) 0 | false ↦ tt ]

  -- what a description says, where both have it
  pub opened_same : (d : ℕ) → HasDescription d → opened w d ≡ opened s d
  opened_same d e = at (get w.descriptions d) (h.is_world.descriptions_lead d) ∙ ap (option_map (opened_by s)) e
    where
      at : (x : Option Description) → IfSome (option_map (opened_by w) x) (λ (o : Opened). IsSome o.target.kind) → option_map (opened_by w) x ≡ option_map (opened_by s) x
      at None l = refl
      at (Some x) l = λ i. Some (record { target = target_same x.node (node_there x.node l) i; access = x.access; append = x.append })

  pub description_there : (d : ℕ) → IsSome (opened w d) → HasDescription d
  description_there d there = h.descriptions d (some_of_map (opened_by w) (get w.descriptions d) there)
