-- The counts of findings, with one more.
use Rattle.std.proofs.Common.{◌≡◌, ◌+◌, ◌==◌, ◌&&◌, Bool, if◌then◌else◌, List, [], ◌∷◌, ◌++◌, refl, arith}
use Rattle.std.specs.List.{count_by}
use Rattle.std.proofs.lemmas.Bool.Decides.{nat_tests}
use Rattle.std.proofs.lemmas.List.Sums.{sum_by-append, sum_by-cons}
use Rattle.report_diff.specs.declared.lines.Section.{Section}
use Rattle.report_diff.specs.declared.lines.Section.TheVariants.{Entries, Tree, Slots, Buffers}
use Rattle.report_diff.specs.declared.telling.Outcome.{Outcome}
use Rattle.report_diff.specs.declared.telling.Outcome.TheVariants.{Equal, Different, Unchecked, Given}
use Rattle.report_diff.specs.declared.telling.Finding.{Finding}
use Rattle.report_diff.specs.Differences.{count, is_of, no_difference}

pub count_more : (all : List Finding) (f : Finding) (section : Section) (outcome : Outcome)
    → count (all ++ f ∷ []) section outcome ≡ count all section outcome + (if is_of section outcome f then 1 else 0)
unfolding count
count_more all f section outcome = rw sum_by-append (grind arith)

pub more_bytes : (all : List Finding) (f : Finding) → count_by (λ g. g.bytes) (all ++ f ∷ []) ≡ count_by (λ g. g.bytes) all + (if f.bytes then 1 else 0)
more_bytes all f = rw sum_by-append (grind arith)

pub more_sums : (all : List Finding) (f : Finding) → count_by (λ g. g.sum) (all ++ f ∷ []) ≡ count_by (λ g. g.sum) all + (if f.sum then 1 else 0)
more_sums all f = rw sum_by-append (grind arith)

pub more_large : (all : List Finding) (f : Finding) → count_by (λ g. g.large) (all ++ f ∷ []) ≡ count_by (λ g. g.large) all + (if f.large then 1 else 0)
more_large all f = rw sum_by-append (grind arith)

count_cons : (f : Finding) (all : List Finding) (section : Section) (outcome : Outcome)
    → count (f ∷ all) section outcome ≡ (if is_of section outcome f then 1 else 0) + count all section outcome
unfolding count
count_cons f all section outcome = sum_by-cons (λ g. if is_of section outcome g then 1 else 0) f all

-- no line differs where none does of any section
abbrev none_of : List Finding → Bool
none_of all = count all Entries Different == 0 && (count all Tree Different == 0 && (count all Slots Different == 0 && count all Buffers Different == 0))

step : (f : Finding) (section : Section) (outcome : Outcome) (all : List Finding) → f.section ≡ section → f.outcome ≡ outcome → none_of all ≡ no_difference all
    → none_of (f ∷ all) ≡ no_difference (f ∷ all)
unfolding no_difference
step f Entries Equal all is its e = rw (count_cons f all Entries Different, count_cons f all Tree Different, count_cons f all Slots Different, count_cons f all Buffers Different, is, its) (grind (arith, nat_tests, e))
step f Entries Different all is its e = rw (count_cons f all Entries Different, count_cons f all Tree Different, count_cons f all Slots Different, count_cons f all Buffers Different, is, its) (grind (arith, nat_tests, e))
step f Entries Unchecked all is its e = rw (count_cons f all Entries Different, count_cons f all Tree Different, count_cons f all Slots Different, count_cons f all Buffers Different, is, its) (grind (arith, nat_tests, e))
step f Entries Given all is its e = rw (count_cons f all Entries Different, count_cons f all Tree Different, count_cons f all Slots Different, count_cons f all Buffers Different, is, its) (grind (arith, nat_tests, e))
step f Tree Equal all is its e = rw (count_cons f all Entries Different, count_cons f all Tree Different, count_cons f all Slots Different, count_cons f all Buffers Different, is, its) (grind (arith, nat_tests, e))
step f Tree Different all is its e = rw (count_cons f all Entries Different, count_cons f all Tree Different, count_cons f all Slots Different, count_cons f all Buffers Different, is, its) (grind (arith, nat_tests, e))
step f Tree Unchecked all is its e = rw (count_cons f all Entries Different, count_cons f all Tree Different, count_cons f all Slots Different, count_cons f all Buffers Different, is, its) (grind (arith, nat_tests, e))
step f Tree Given all is its e = rw (count_cons f all Entries Different, count_cons f all Tree Different, count_cons f all Slots Different, count_cons f all Buffers Different, is, its) (grind (arith, nat_tests, e))
step f Slots Equal all is its e = rw (count_cons f all Entries Different, count_cons f all Tree Different, count_cons f all Slots Different, count_cons f all Buffers Different, is, its) (grind (arith, nat_tests, e))
step f Slots Different all is its e = rw (count_cons f all Entries Different, count_cons f all Tree Different, count_cons f all Slots Different, count_cons f all Buffers Different, is, its) (grind (arith, nat_tests, e))
step f Slots Unchecked all is its e = rw (count_cons f all Entries Different, count_cons f all Tree Different, count_cons f all Slots Different, count_cons f all Buffers Different, is, its) (grind (arith, nat_tests, e))
step f Slots Given all is its e = rw (count_cons f all Entries Different, count_cons f all Tree Different, count_cons f all Slots Different, count_cons f all Buffers Different, is, its) (grind (arith, nat_tests, e))
step f Buffers Equal all is its e = rw (count_cons f all Entries Different, count_cons f all Tree Different, count_cons f all Slots Different, count_cons f all Buffers Different, is, its) (grind (arith, nat_tests, e))
step f Buffers Different all is its e = rw (count_cons f all Entries Different, count_cons f all Tree Different, count_cons f all Slots Different, count_cons f all Buffers Different, is, its) (grind (arith, nat_tests, e))
step f Buffers Unchecked all is its e = rw (count_cons f all Entries Different, count_cons f all Tree Different, count_cons f all Slots Different, count_cons f all Buffers Different, is, its) (grind (arith, nat_tests, e))
step f Buffers Given all is its e = rw (count_cons f all Entries Different, count_cons f all Tree Different, count_cons f all Slots Different, count_cons f all Buffers Different, is, its) (grind (arith, nat_tests, e))

pub nowhere : (all : List Finding)
    → (count all Entries Different == 0 && (count all Tree Different == 0 && (count all Slots Different == 0 && count all Buffers Different == 0))) ≡ no_difference all
unfolding count no_difference
nowhere [] = refl
nowhere (f ∷ all) = step f f.section f.outcome all refl refl (nowhere all)
