-- What is known of the places of a trace, one place more.
use Rattle.std.specs.Prelude.{◌≡◌, ℕ, zero, suc, pos, ◌+◌, ◌<◌, List, [], ◌∷◌, ◌++◌, length, refl, Option, Some, slice_index_or}
use Rattle.std.specs.Option.{option_map, unwrap_or}
use Rattle.std.proofs.Common.{sym, ap, ◌∙◌, subst, arith, inl, inr}
use Rattle.std.proofs.lemmas.Bool.{cases_eq}
use Rattle.recording.specs.declared.recording.Recording.{Recording}
use Rattle.world_parts.specs.Items.{Footprint}
use Rattle.op_meaning.specs.declared.reply.Reply.{Reply}
use Rattle.op_meaning.specs.Step.{Turn, turn, reply_of, step_reply, run_world}
use Rattle.dependencies.specs.Rule.{foot_at}
use Rattle.depend_log.specs.Running.{AreFeet}
use Rattle.depend_log.specs.Waits.{moved_at, moved_by}

pub no_feet : (t : Recording) → AreFeet t 0 []
no_feet t = record { many = refl; each = λ j lt. absurd (omega arith) }

length_more : (feet : List Footprint) (f : Footprint) → length (feet ++ f ∷ []) ≡ length feet + 1
length_more [] f = refl
length_more (g ∷ feet) f = let e = length_more feet f in omega arith

kept : (feet : List Footprint) (f : Footprint) (j : ℕ) → j < length feet → slice_index_or (feet ++ f ∷ []) j [] ≡ slice_index_or feet j []
kept [] f j lt = absurd (omega arith)
kept (g ∷ feet) f zero lt = refl
kept (g ∷ feet) f (suc j) lt = kept feet f j (omega arith)

last : (feet : List Footprint) (f : Footprint) → slice_index_or (feet ++ f ∷ []) (length feet) [] ≡ f
last [] f = refl
last (g ∷ feet) f = last feet f

pub feet_more : (t : Recording) (k : ℕ) (feet more : List Footprint) (f : Footprint) → AreFeet t k feet → f ≡ foot_at t k → more ≡ feet ++ f ∷ [] → AreFeet t (k + 1) more
feet_more t k feet more f are is m = subst (λ gs. AreFeet t (k + 1) gs) (sym m) (record {
  many = let e = length_more feet f in omega (arith, are.many);
  each = λ j lt. elim (cases_eq j k) [
    | inl e ↦
        let at : j ≡ length feet = e ∙ sym are.many in
        ap (λ n. slice_index_or (feet ++ f ∷ []) n []) at ∙ last feet f ∙ is ∙ ap (foot_at t) (sym e)
    | inr ne ↦
        let less : j < k = omega (arith, lt, ne) in
        kept feet f j (omega (arith, less, are.many)) ∙ are.each j less
  ];
})

-- the bytes that a place moves, by its turn and its reply
pub moved_is : (t : Recording) (k : ℕ) (u : Turn) (r : Reply) → Some u ≡ turn t k (run_world t k) → Some r ≡ step_reply t k (run_world t k) → moved_by u r.res ≡ moved_at t k
moved_is t k u r e f =
    let res_is : r.res ≡ (reply_of t k (run_world t k) u).res = ap (λ (o : Option Reply). unwrap_or (option_map (λ (x : Reply). x.res) o) (pos 0)) (f ∙ ap (λ (o : Option Turn). option_map (reply_of t k (run_world t k)) o) (sym e)) in
    ap (moved_by u) res_is ∙ ap (λ (o : Option Turn). unwrap_or (option_map (λ (x : Turn). moved_by x (reply_of t k (run_world t k) x).res) o) 0) e
