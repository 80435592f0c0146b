-- Failures, replies and changes of an operation that ran, by what it answers.
use Rattle.std.proofs.Common.{◌≡◌, ℕ, ℤ, Bool, List, [], ◌∷◌, ◌++◌, Option, Some, None, refl, sym, ap, ◌∙◌, arith}
use Rattle.std.specs.Prelude.{◌<◌, ◌≤◌, ◌^◌, ◌||◌, not, Result, Ok, Err, IfOk}
use Rattle.sqe_codec.specs.declared.errno.Errno.{Errno}
use Rattle.trace_format.specs.declared.entry.Entry.{Entry}
use Rattle.chain_plan.specs.declared.role.Role.{Role}
use Rattle.entry_checks.specs.Operation.{Operation, asked, told}
use Rattle.world_parts.specs.World.{World, Change, apply, apply_all}
use Rattle.trace_format.specs.Sides.{most_moved}
use Rattle.op_meaning.specs.declared.outcome.Done.{Done}
use Rattle.op_meaning.specs.Meaning.{Effect}
use Rattle.op_meaning.specs.Outcomes.{answered, answer_of, fails_as, reply_with}
use Rattle.op_meaning.specs.Step.{failed, breaks, result_of, bytes_of, changes_of, run_reply}
use Rattle.op_meaning.specs.declared.reply.Reply.{Reply}
use Rattle.entry_checks.specs.Check.{has, skip_success}

-- An operation fails by its answer alone.
pub fails : (o : Operation) (x : Result Effect Errno) → fails_as (told o) (asked o) (answer_of x) ≡ failed o x
fails o (Ok x) = by (told o) (asked o) refl refl
  where
    by : (g : Option (ℤ × Bool)) (a : Option ℕ) → told o ≡ g → asked o ≡ a → fails_as (told o) (asked o) (Ok (x.count, x.bytes)) ≡ failed o (Ok x)
    by (Some g) a given is = rw given refl
    by None None given is = rw (given, is) refl
    by None (Some n) given is = rw (given, is) refl
fails o (Err e) = refl

-- Its reply too.
pub replies : (o : Operation) (posted : Bool) (x : Result Effect Errno) → reply_with (told o) posted (answer_of x) ≡ record { res = result_of o x; bytes = bytes_of x; posted = posted }
replies o posted (Ok x) = by (told o) refl
  where
    by : (g : Option (ℤ × Bool)) → told o ≡ g → reply_with (told o) posted (Ok (x.count, x.bytes)) ≡ record { res = result_of o (Ok x); bytes = x.bytes; posted = posted }
    by (Some g) is = rw is refl
    by None is = rw is refl
replies o posted (Err e) = by (told o)
  where
    by : (g : Option (ℤ × Bool)) → reply_with g posted (Err e) ≡ record { res = result_of o (Err e); bytes = []; posted = posted }
    by (Some g) = refl
    by None = refl

-- So is the reply of one that ran, by whether it posts.
pub replied : (e : Entry) (o : Operation) (x : Result Effect Errno) (reply : Reply) (posted f : Bool) (d : Result (ℕ × List ℕ) Errno) → reply ≡ reply_with (told o) posted d → d ≡ answer_of x → posted ≡ (not (has e.sqe.flags skip_success) || f) → f ≡ failed o x → reply ≡ run_reply e o x
replied e o x reply posted f d is answers posts failure =
    is ∙ ap (reply_with (told o) posted) answers ∙ replies o posted x
    ∙ ap (λ (p : Bool). record { res = result_of o x; bytes = bytes_of x; posted = p }) (posts ∙ ap (λ b. not (has e.sqe.flags skip_success) || b) failure)

-- An outcome's count is small where its answer's is.
pub small_outcome : (d : Result Done Errno) (x : Result Effect Errno) → answered d ≡ answer_of x → IfOk x (λ y. y.count ≤ most_moved) → IfOk d (λ y. y.count < 2 ^ 31)
small_outcome (Ok d) (Ok x) is le =
    let pair : ◌≡◌ {A = ℕ × List ℕ} (d.count, d.bytes) (x.count, x.bytes) = cc in
    let same : d.count ≡ x.count = ap (λ (p : ℕ × List ℕ). p.0) pair in
    omega arith
small_outcome (Ok d) (Err e) is le = absurd (cc)
small_outcome (Err e) x is le = tt

-- Changes one after the other.
pub apply_all-append : (xs ys : List Change) (s : World) → apply_all (xs ++ ys) s ≡ apply_all ys (apply_all xs s)
apply_all-append [] ys s = refl
apply_all-append (x ∷ xs) ys s = apply_all-append xs ys (apply x s)

-- What an operation changes, and what it breaks where it fails.
pub changed : (s w v : World) (c : Role) (e : Entry) (x : Result Effect Errno) (b f : Bool) → w ≡ apply_all (changes_of x) s → v ≡ apply_all (breaks c e b) w → b ≡ f → v ≡ apply_all (changes_of x ++ breaks c e f) s
changed s w v c e x b f h g is = g ∙ (λ i. apply_all (breaks c e (is i)) (h i)) ∙ sym (apply_all-append (changes_of x) (breaks c e f) s)
