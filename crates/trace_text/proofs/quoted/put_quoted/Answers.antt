use Rattle.std.proofs.Common.{◌≡◌, ℕ, ◌+◌, ◌<◌, List, [], ◌∷◌, ◌++◌, length, take, drop, get_or, sym, ap, ◌∙◌, append-nil, arith}
use Rattle.std.specs.List.{flat_map}
use Rattle.std.proofs.lemmas.Grind.{flat_map-append}
use Rattle.std.proofs.lemmas.List.{take_more}
use Rattle.std.proofs.Math.Seq.{take-add}
use Rattle.text_forms.specs.Strings.{quoted_byte}
use Rattle.trace_text.proofs.quoted.put_quoted.Goals as goal

some_more : (f : ℕ → List ℕ) (xs text next : List ℕ) (at run : ℕ) → next ≡ text ++ flat_map f (take run (drop at xs)) → text ≡ flat_map f (take at xs)
    → next ≡ flat_map f (take (at + run) xs)
some_more f xs text next at run e h =
    e ∙ ap (λ (l : List ℕ). l ++ flat_map f (take run (drop at xs))) h ∙ sym (flat_map-append f (take at xs) (take run (drop at xs)))
    ∙ ap (flat_map f) (sym (take-add at run xs))

one_more : (f : ℕ → List ℕ) (xs text next : List ℕ) (i : ℕ) → i < length xs → next ≡ text ++ f (get_or xs i 0) → text ≡ flat_map f (take i xs)
    → next ≡ flat_map f (take (i + 1) xs)
one_more f xs text next i lt e h =
    e ∙ ap (λ (l : List ℕ). l ++ f (get_or xs i 0)) h ∙ ap (λ (l : List ℕ). flat_map f (take i xs) ++ l) (sym (append-nil (f (get_or xs i 0))))
    ∙ sym (flat_map-append f (take i xs) (get_or xs i 0 ∷ [])) ∙ ap (flat_map f) (sym (take_more xs i 0 lt))

pub loop-at-preserved-then-at-count : goal.loop-at-preserved-then-at-count
loop-at-preserved-then-at-count c =
    let h = c.loop-at.invariant in
    let run = c.put_run-run.ensures in
    let byte = c.put_byte-used.ensures in
    let before = some_more quoted_byte c.args.bytes.now _ _ c.loop-at.at c.put_run-run.result run.copied h.quoted in
    record {
      within = omega (arith, c.if-at-count.true);
      few = omega (arith, h.few, byte.few);
      quoted = one_more quoted_byte c.args.bytes.now _ _ (c.loop-at.at + c.put_run-run.result) (omega (arith, c.if-at-count.true, c.requires.within)) byte.written before;
    }

pub loop-at-preserved : goal.loop-at-preserved
loop-at-preserved c =
    let h = c.loop-at.invariant in
    let run = c.put_run-run.ensures in
    record {
      within = omega (arith, run.few, c.loop-at-test.true);
      few = omega (arith, h.few);
      quoted = some_more quoted_byte c.args.bytes.now _ _ c.loop-at.at c.put_run-run.result run.copied h.quoted;
    }
