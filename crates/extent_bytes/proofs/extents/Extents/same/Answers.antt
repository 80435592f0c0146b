-- Equal lists agree on their stored bytes, and others do not.
use Rattle.std.proofs.Common.{◌+◌, ℕ, length, ap, sym, subst, ◌∙◌, refl, false}
use Rattle.extent_bytes.specs.Kept.{pages_in}
use Rattle.extent_bytes.specs.Pages.{bytes_of, byte_at, StoredAgree}
use Rattle.extent_bytes.proofs.ExtentFacts.{agree_if_equal, length_seen, stored_of_equal}
use Rattle.extent_bytes.proofs.Outcomes.{not_both}
use Rattle.extent_bytes.proofs.extents.Extents.same.Goals as goal

pub returns-then-self-other : goal.returns-then-self-other
returns-then-self-other c =
    let a = length_seen (pages_in c.self.inside.stored) c.self.inside.start c.self.inside.len c.args.self.now c.self.view_is in
    let b = length_seen (pages_in c.other.inside.stored) c.other.inside.start c.other.inside.len c.args.other.now c.other.view_is in
    ((λ e. not_both false e refl), (λ e. absurd (c.if-self-other.true (sym a ∙ ap length e ∙ b))))

pub returns-then-not-stored_agree : goal.returns-then-not-stored_agree
returns-then-not-stored_agree c =
    let m = c.pages-pages.result.now in
    let n = c.pages-others.result.now in
    let s = c.self.inside.start in
    let t = c.other.inside.start in
    let len = c.self.inside.len in
    let k = c.other.inside.len in
    let mine = ap (λ q. bytes_of q s len) c.pages-pages.ensures ∙ c.self.view_is in
    let theirs = ap (λ q. bytes_of q t k) c.pages-others.ensures ∙ c.other.view_is in
    let no = c.if-not-stored_agree.true in (
      (λ e. not_both false e refl),
      (λ e. sym no ∙ c.stored_agree.ensures.1 (stored_of_equal m n s t len k c.if-self-other.false (mine ∙ e ∙ sym theirs))),
    )

pub returns-then-self-other-2 : goal.returns-then-self-other-2
returns-then-self-other-2 c =
    let m = c.pages-pages.result.now in
    let n = c.pages-others.result.now in
    let s = c.self.inside.start in
    let t = c.other.inside.start in
    let len = c.self.inside.len in
    let k = c.other.inside.len in
    let mine = ap (λ q. bytes_of q s len) c.pages-pages.ensures ∙ c.self.view_is in
    let theirs = ap (λ q. bytes_of q t k) c.pages-others.ensures ∙ c.other.view_is in
    let P = λ (q : ℕ). StoredAgree n t (t + k) (byte_at m) q in
    let equal = agree_if_equal m n s t len k c.args.self.now c.args.other.now c.if-self-other.false mine theirs (c.stored_agree.ensures.0 c.if-not-stored_agree.false) in (
      (λ e. equal.0 (subst P (sym c.if-self-other-2.true) (c.rest_agrees.ensures.0 e))),
      (λ e. c.rest_agrees.ensures.1 (subst P c.if-self-other-2.true (equal.1 e))),
    )

pub returns : goal.returns
returns c =
    let m = c.pages-pages.result.now in
    let n = c.pages-others.result.now in
    let s = c.self.inside.start in
    let t = c.other.inside.start in
    let len = c.self.inside.len in
    let k = c.other.inside.len in
    let mine = ap (λ q. bytes_of q s len) c.pages-pages.ensures ∙ c.self.view_is in
    let theirs = ap (λ q. bytes_of q t k) c.pages-others.ensures ∙ c.other.view_is in
    let equal = agree_if_equal m n s t len k c.args.self.now c.args.other.now c.if-self-other.false mine theirs (c.stored_agree.ensures.0 c.if-not-stored_agree.false) in
    ((λ e. equal.0 (c.stored_agree-2.ensures.0 e)), (λ e. c.stored_agree-2.ensures.1 (equal.1 e)))
