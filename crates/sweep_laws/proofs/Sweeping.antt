-- A world without what nothing leads to is a world, within the one before.
use Rattle.std.proofs.Common.{◌≡◌, ℕ, List, Bool, true, false, cond, Option, Some, None, refl, sym, ap, subst, ◌∙◌}
use Rattle.std.specs.Prelude.{◌==◌, ◌||◌, ◌≤◌, ltb, length, IfSome, IsSome, is_some, T}
use Rattle.std.specs.Option.{option_map, option_and_then}
use Rattle.std.specs.Ordering.{nat_cmp}
use lib.Dec.{eqb_refl, lt→ltb}
use Rattle.trace_format.specs.declared.trace.Access.{Access}
use Rattle.entry_checks.specs.Operation.{file_limit}
use Rattle.finite_maps.specs.Table.{Table, empty, get, number_keys}
use Rattle.finite_maps.specs.Sifted.{only, get-only, has_value-get}
use Rattle.file_tree.specs.Named.{is_named, names_it as has_name_for}
use Rattle.file_tree.specs.Tree.{Above, IsTree, Names, Node, Target, a_directory, bytes_of_node, directory, file, kind_of_node, names_of_node, others_of_node, target}
use Rattle.world_parts.specs.Sweeping.{is_held, is_open, swept}
use Rattle.world_parts.specs.World.{World, IsWorld, Description, Opened, descriptor, name, names, opened, opened_by, slot}
use Rattle.sweep_laws.specs.Within.{IsWithin}

if_some : {A : Type 0} (P : A → Type 0) (o : Option A) → ((x : A) → o ≡ Some x → P x) → IfSome o P
if_some P None h = tt
if_some P (Some x) h = h x refl

of_if_some : {A : Type 0} (P : A → Type 0) (o : Option A) (x : A) → IfSome o P → o ≡ Some x → P x
of_if_some P o x h e = subst (λ y. IfSome y P) e h

some_at : {A : Type 0} (o : Option A) (x : A) → o ≡ Some x → IsSome o
some_at o x e = ap is_some e

some_apart : {A : Type 0} {x : A} → ◌≡◌ {A = Option A} None (Some x) → ⊥
some_apart e = subst (λ o. T (is_some o)) (sym e) tt

-- a value that is there under a test is there, and the test holds
under : {A : Type 0} (b : Bool) (o : Option A) (x : A) → cond b o None ≡ Some x → T b × (o ≡ Some x)
under true o x e = (tt, e)
under false o x e = absurd (some_apart e)

passed : {A : Type 0} (b : Bool) (o : Option A) → T b → cond b o None ≡ o
passed true o h = refl
passed false o h = absurd h

left_is : (a b : Bool) → T a → T (a || b)
left_is true b h = tt
left_is false b h = absurd h

right_is : (a b : Bool) → T b → T (a || b)
right_is true b h = tt
right_is false b h = h

-- the value of a function of what is there
mapped : {A B : Type 0} (f : A → B) (o : Option A) (y : B) → option_map f o ≡ Some y → (x : A) × (o ≡ Some x) × (Some (f x) ≡ Some y)
mapped f None y e = absurd (some_apart e)
mapped f (Some x) y e = (x, refl, e)

gone_through : {A B : Type 0} (f : A → Option B) (o : Option A) (y : B) → option_and_then f o ≡ Some y → (x : A) × (o ≡ Some x) × (f x ≡ Some y)
gone_through f None y e = absurd (some_apart e)
gone_through f (Some x) y e = (x, refl, e)

-- the names of a node lead to what is named
node_names : (n : List ℕ) (i : ℕ) (node : Node) (ns : Names) → names_of_node node ≡ Some ns → get ns n ≡ Some i → T (has_name_for i node)
node_names n i (directory m o) ns e f =
    let same : m ≡ ns = ap (λ x. elim x [ Some y ↦ y | None ↦ m ]) e in
    has_value-get (λ x. x == i) m n i (ap (λ (x : Names). get x n) same ∙ f) (eqb_refl i)
node_names n i (file bs) ns e f = absurd (some_apart e)

module _ (started : ℕ) (s : World) (is : IsWorld s) where
  abbrev w : World
  w = swept started s

  abbrev stays : ℕ → Bool
  stays d = ltb d started || is_held s d

  abbrev kept : Table nat_cmp Description
  kept = only stays s.descriptions

  abbrev led : ℕ → Bool
  led i = i == 0 || is_named s.nodes i || is_open kept i

  description_at : (d : ℕ) → get w.descriptions d ≡ cond (stays d) (get s.descriptions d) None
  description_at d = get-only number_keys stays s.descriptions d

  node_at : (i : ℕ) → get w.nodes i ≡ cond (led i) (get s.nodes i) None
  node_at i = get-only number_keys led s.nodes i

  description_stays : (d : ℕ) → T (stays d) → get w.descriptions d ≡ get s.descriptions d
  description_stays d h = description_at d ∙ passed (stays d) (get s.descriptions d) h

  node_stays : (i : ℕ) → T (led i) → get w.nodes i ≡ get s.nodes i
  node_stays i h = node_at i ∙ passed (led i) (get s.nodes i) h

  -- What is there was there.
  description_was : (d : ℕ) (e : Description) → get w.descriptions d ≡ Some e → get s.descriptions d ≡ Some e
  description_was d e h = (under (stays d) (get s.descriptions d) e (sym (description_at d) ∙ h)).1

  node_was : (i : ℕ) (node : Node) → get w.nodes i ≡ Some node → get s.nodes i ≡ Some node
  node_was i node h = (under (led i) (get s.nodes i) node (sym (node_at i) ∙ h)).1

  abbrev looked : World → ℕ → List ℕ → Option ℕ
  looked z d n = option_and_then (λ (m : Names). get m n) (names z d)

  -- What a name leads to stays.
  named_stays : (d : ℕ) (n : List ℕ) (i : ℕ) → looked w d n ≡ Some i → (looked s d n ≡ Some i) × (get w.nodes i ≡ get s.nodes i)
  named_stays d n i e =
      let ns = gone_through (λ (m : Names). get m n) (names w d) i e in
      let node = gone_through names_of_node (get w.nodes d) ns.0 ns.1 in
      let was : get s.nodes d ≡ Some node.0 = node_was d node.0 node.1 in
      let here : T (is_named s.nodes i) = has_value-get (has_name_for i) s.nodes d node.0 was (node_names n i node.0 ns.0 node.2 ns.2) in
      let there : names s d ≡ Some ns.0 = ap (option_and_then names_of_node) was ∙ node.2 in
      (ap (option_and_then (λ (m : Names). get m n)) there ∙ ns.2, node_stays i (left_is (i == 0 || is_named s.nodes i) (is_open kept i) (right_is (i == 0) (is_named s.nodes i) here)))

  name_was : (d : ℕ) (n : List ℕ) (x : Target) → name w d n ≡ Some x → name s d n ≡ Some x
  name_was d n x e =
      let i = mapped (target w.nodes) (looked w d n) x e in
      let here = named_stays d n i.0 i.1 in
      let same : target s.nodes i.0 ≡ target w.nodes i.0 = sym (ap (λ x. record { node = i.0; kind = option_map kind_of_node x }) here.1) in
      ap (option_map (target s.nodes)) here.0 ∙ ap Some same ∙ i.2

  above_was : (d e : ℕ) → Above (name w) d e → Above (name s) d e
  above_was d e (Above.names_it _ _ n h) = Above.names_it d e n (name_was d n _ h)
  above_was d e (Above.one_below _ f _ n a h) = Above.one_below d f e n (above_was d f a) (name_was f n _ h)

  tree : IsTree (name w)
  tree = record {
    names_lead = λ d n. if_some (λ (x : Target). IsSome x.kind) (name w d n) (λ x e. of_if_some (λ (y : Target). IsSome y.kind) (name s d n) x (is.tree.names_lead d n) (name_was d n x e));
    root_unnamed = λ d n. if_some (λ (x : Target). ¬ (x.node ≡ 0)) (name w d n) (λ x e. of_if_some (λ (y : Target). ¬ (y.node ≡ 0)) (name s d n) x (is.tree.root_unnamed d n) (name_was d n x e));
    one_name = λ d e n m x k f g. is.tree.one_name d e n m x k (name_was d n x f) (name_was e m x g);
    no_cycle = λ d a. is.tree.no_cycle d (above_was d d a);
  }

  -- So does what a description leads to that stays.
  opened_was : (d : ℕ) (o : Opened) → opened w d ≡ Some o → opened s d ≡ Some o
  opened_was d o e =
      let x = mapped (opened_by w) (get w.descriptions d) o e in
      let was = description_was d x.0 x.1 in
      let here : T (is_open kept x.0.node) = has_value-get (λ (y : Description). y.node == x.0.node) kept d x.0 x.1 (eqb_refl x.0.node) in
      let stays_there = node_stays x.0.node (right_is (x.0.node == 0 || is_named s.nodes x.0.node) (is_open kept x.0.node) here) in
      let same : opened_by s x.0 ≡ opened_by w x.0 = sym (ap (λ y. record { target = record { node = x.0.node; kind = option_map kind_of_node y }; access = x.0.access; append = x.0.append }) stays_there) in
      ap (option_map (opened_by s)) was ∙ ap Some same ∙ x.2

  -- What is held is there.
  held_leads : (d : ℕ) → T (is_held s d) → IsSome (opened s d) → IsSome (opened w d)
  held_leads d h there =
      let same = description_stays d (right_is (ltb d started) (is_held s d) h) in
      through (get w.descriptions d) (get s.descriptions d) same there
    where
      through : (x y : Option Description) → x ≡ y → IsSome (option_map (opened_by s) y) → IsSome (option_map (opened_by w) x)
      through (Some x) y e there = refl
      through None y e there = subst (λ z. IsSome (option_map (opened_by s) z)) (sym e) there

  by_node : (P : Option Node → Type 0) → P None → ((i : ℕ) → P (get s.nodes i)) → (i : ℕ) → P (get w.nodes i)
  by_node P none some i = subst P (sym (node_at i)) (elim (led i) as (λ b. P (cond b (get s.nodes i) None)) [ true ↦ some i | false ↦ none ])

  pub swept_is_world : IsWorld w
  swept_is_world = record {
    root = ap (option_map kind_of_node) (node_stays 0 tt) ∙ is.root;
    tree = tree;
    descriptions_lead = λ d. if_some (λ (o : Opened). IsSome o.target.kind) (opened w d) (λ o e. of_if_some (λ (z : Opened). IsSome z.target.kind) (opened s d) o (is.descriptions_lead d) (opened_was d o e));
    slots_lead = λ r n. if_some (λ d. IsSome (opened w d)) (slot w r n) (λ d e.
        held_leads d (left_is _ _ (has_value-get (λ x. x == d) s.slots (r, n) d e (eqb_refl d))) (of_if_some (λ x. IsSome (opened s x)) (slot s r n) d (is.slots_lead r n) e));
    descriptors_lead = λ n. if_some (λ d. IsSome (opened w d)) (descriptor w n) (λ d e.
        held_leads d (right_is _ _ (has_value-get (λ x. x == d) s.descriptors n d e (eqb_refl d))) (of_if_some (λ x. IsSome (opened s x)) (descriptor s n) d (is.descriptors_lead n) e));
    files_fit = by_node (λ x. IfSome (option_map length (option_and_then bytes_of_node x)) (λ n. n ≤ file_limit)) tt is.files_fit;
    directories_are_read = λ d. if_some (λ (o : Opened). o.target.kind ≡ Some a_directory → o.access ≡ Access.Read) (opened w d) (λ o e.
        of_if_some (λ (z : Opened). z.target.kind ≡ Some a_directory → z.access ≡ Access.Read) (opened s d) o (is.directories_are_read d) (opened_was d o e));
    all_shown = by_node (λ x. IfSome (option_and_then others_of_node x) (λ n. n ≡ 0)) tt is.all_shown;
  }

-- What is there was there, through two worlds.
was_there : {X : Type 0} (new old : Option X) → ((x : X) → new ≡ Some x → old ≡ Some x) → IsSome new → new ≡ old
was_there (Some x) old h there = sym (h x refl)
was_there None old h there = absurd (subst T (sym there) tt)

still_there : {X : Type 0} (new old : Option X) → new ≡ old → IsSome new → IsSome old
still_there new old e there = subst IsSome e there

pub swept_is_within : (started : ℕ) (s w : World) → IsWithin started s w → IsWithin started (record s { broken = empty }) (swept started w)
swept_is_within started s w h =
    let v = swept started w in
    let node = λ (i : ℕ) (there : IsSome (get v.nodes i)). was_there (get v.nodes i) (get w.nodes i) (node_was started w h.is_world i) there in
    let description = λ (d : ℕ) (there : IsSome (get v.descriptions d)). was_there (get v.descriptions d) (get w.descriptions d) (description_was started w h.is_world d) there in
    record {
      is_world = swept_is_world started w h.is_world;
      nodes = λ i there. node i there ∙ h.nodes i (still_there _ _ (node i there) there);
      descriptions = λ d there. description d there ∙ h.descriptions d (still_there _ _ (description d there) there);
      first_descriptions = λ d lt. description_stays started w h.is_world d (left_is (ltb d started) _ (lt→ltb d started lt)) ∙ h.first_descriptions d lt;
      slots = h.slots;
      descriptors = h.descriptors;
      buffers = h.buffers;
      broken = refl;
    }
