-- A walk is decided by the names on the path.
use native.Mathlib.Omega.{arith}
use Rattle.std.specs.Prelude.{◌≡◌, ℕ, true, false, cond, List, [], ◌∷◌, map, Option, Result, Ok, Err, refl}
use mathlib.Core.Path.{sym, subst, ap, ◌∙◌}
use Rattle.sqe_codec.specs.declared.errno.Errno.{Errno}
use Rattle.sqe_codec.specs.declared.errno.Errno.TheVariants.{EBADF, ENAMETOOLONG}
use Rattle.sqe_codec.specs.Answers.{◌>>=◌, ◌>>◌, require, each_ok}
use Rattle.entry_checks.specs.Operation.{Path}
use Rattle.trace_format.specs.Paths.{components}
use Rattle.world_parts.specs.World.{World, name}
use Rattle.file_tree.specs.Tree.{Target}
use Rattle.file_tree.specs.Walk.{Place, walk, walk_from, names_from, names_on, directory_at, fits_name, starts_at_root}
use Rattle.world_parts.specs.Items.{name_at, one, Use, reads, Footprint, Agree}
use Rattle.foot_print.specs.Footprint.{path_reads}
use Rattle.foot_print.proofs.Agreement.{agree_head, agree_tail}
use Rattle.world_parts.proofs.ChangesOfNames.{Leads}
use Rattle.foot_print.proofs.Accepted.{err_apart, ok_require}

abbrev look : ℕ × List ℕ → Use
look e = reads (one (name_at e.0 e.1))

abbrev looked : World → ℕ → List (List ℕ) → Footprint
looked s d ns = map look (names_from s.nodes d ns)

abbrev found : ℕ → List ℕ → Option Target → Result Place Errno
found d n x = Ok (record { parent = d; name = n; target = x })

walk_from_same : (s u : World) (d : ℕ) (ns : List (List ℕ)) → Agree (looked s d ns) s u → walk_from u.nodes d ns ≡ walk_from s.nodes d ns
walk_from_same s u d [] a = refl
walk_from_same s u d (n ∷ []) a =
    elim (fits_name n) as (λ b. Agree (map look (cond b ((d, n) ∷ each_ok (λ e. names_from s.nodes e []) (directory_at (name s d n))) [])) s u
    → (require b ENAMETOOLONG >> found d n (name u d n)) ≡ (require b ENAMETOOLONG >> found d n (name s d n))) [
      | true ↦ λ k. ap (found d n) (sym (agree_head s u (name_at d n) false _ k))
      | false ↦ λ k. refl
    ] a
walk_from_same s u d (n ∷ m ∷ ns) a =
    elim (fits_name n) as (λ b. Agree (map look (cond b ((d, n) ∷ each_ok (λ e. names_from s.nodes e (m ∷ ns)) (directory_at (name s d n))) [])) s u
    → (require b ENAMETOOLONG >> (directory_at (name u d n) >>= λ e. walk_from u.nodes e (m ∷ ns))) ≡ (require b ENAMETOOLONG >> (directory_at (name s d n) >>= λ e. walk_from s.nodes e (m ∷ ns)))) [
      | true ↦ λ k. ap (λ x. directory_at x >>= λ e. walk_from u.nodes e (m ∷ ns)) (sym (agree_head s u (name_at d n) false _ k))
          ∙ further (λ e. walk_from_same s u e (m ∷ ns)) (directory_at (name s d n)) (agree_tail s u (look (d, n)) _ k)
      | false ↦ λ k. refl
    ] a
  where
    further : ((e : ℕ) → Agree (looked s e (m ∷ ns)) s u → walk_from u.nodes e (m ∷ ns) ≡ walk_from s.nodes e (m ∷ ns)) → (r : Result ℕ Errno) → Agree (map look (each_ok (λ e. names_from s.nodes e (m ∷ ns)) r)) s u → (r >>= λ e. walk_from u.nodes e (m ∷ ns)) ≡ (r >>= λ e. walk_from s.nodes e (m ∷ ns))
    further f (Ok e) k = f e k
    further f (Err x) k = refl

-- The names that a walk looks up are the same too.
names_from_same : (s u : World) (d : ℕ) (ns : List (List ℕ)) → Agree (looked s d ns) s u → names_from u.nodes d ns ≡ names_from s.nodes d ns
names_from_same s u d [] a = refl
names_from_same s u d (n ∷ ns) a =
    elim (fits_name n) as (λ b. Agree (map look (cond b ((d, n) ∷ each_ok (λ e. names_from s.nodes e ns) (directory_at (name s d n))) [])) s u
    → ◌≡◌ {A = List (ℕ × List ℕ)} (cond b ((d, n) ∷ each_ok (λ e. names_from u.nodes e ns) (directory_at (name u d n))) []) (cond b ((d, n) ∷ each_ok (λ e. names_from s.nodes e ns) (directory_at (name s d n))) [])) [
      | true ↦ λ k. ap (λ x. (d, n) ∷ each_ok (λ e. names_from u.nodes e ns) (directory_at x)) (sym (agree_head s u (name_at d n) false _ k))
          ∙ ap (λ x. (d, n) ∷ x) (further (λ e. names_from_same s u e ns) (directory_at (name s d n)) (agree_tail s u (look (d, n)) _ k))
      | false ↦ λ k. refl
    ] a
  where
    further : ((e : ℕ) → Agree (looked s e ns) s u → names_from u.nodes e ns ≡ names_from s.nodes e ns) → (r : Result ℕ Errno) → Agree (map look (each_ok (λ e. names_from s.nodes e ns) r)) s u → each_ok (λ e. names_from u.nodes e ns) r ≡ each_ok (λ e. names_from s.nodes e ns) r
    further f (Ok e) k = f e k
    further f (Err x) k = refl

pub walk_same : (s u : World) (p : Path) → Agree (path_reads s p) s u → walk u.nodes p ≡ walk s.nodes p
walk_same s u p a = let walked = walk_from_same s u 0 (components p.text) in grind (arith, walked)

pub names_on_same : (s u : World) (p : Path) → Agree (path_reads s p) s u → names_on u.nodes p ≡ names_on s.nodes p
names_on_same s u p a = let looked_up = names_from_same s u 0 (components p.text) in grind (arith, looked_up)

pub path_reads_same : (s u : World) (p : Path) → Agree (path_reads s p) s u → path_reads u p ≡ path_reads s p
path_reads_same s u p a = ap (map look) (names_on_same s u p a)

-- What a walk finds is what its last name leads to.
walk_from_finds : (s : World) (d : ℕ) (ns : List (List ℕ)) (q : Place) → walk_from s.nodes d ns ≡ Ok q → q.target ≡ name s q.parent q.name
walk_from_finds s d [] q h = absurd (err_apart h)
walk_from_finds s d (n ∷ []) q h = grind arith
walk_from_finds s d (n ∷ m ∷ ns) q h = let rest = λ (e : ℕ). walk_from_finds s e (m ∷ ns) q in grind (arith, rest)

pub walk_finds : (s : World) (p : Path) (q : Place) → walk s.nodes p ≡ Ok q → q.target ≡ name s q.parent q.name
walk_finds s p q h = walk_from_finds s 0 (components p.text) q (ok_require (starts_at_root p) EBADF (walk_from s.nodes 0 (components p.text)) q h).0

-- What a name leads to is of the kind that it says.
pub name_leads : (s : World) (d : ℕ) (n : List ℕ) → Leads s (name s d n)
name_leads s d n = grind arith

-- So is what a walk finds.
pub walk_leads : (s : World) (p : Path) (q : Place) → walk s.nodes p ≡ Ok q → Leads s q.target
walk_leads s p q h = subst (Leads s) (sym (walk_finds s p q h)) (name_leads s q.parent q.name)
