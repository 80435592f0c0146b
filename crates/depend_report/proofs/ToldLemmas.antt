-- What is told and drawn of places, as it grows with each.
use Rattle.std.proofs.Common.{◌≡◌, ℕ, ◌+◌, List, [], ◌∷◌, ◌++◌, length, codes, refl, sym, ap, ap₂, ◌∙◌, append-nil, append_assoc, arith, length-append}
use Rattle.std.specs.List.{enumerate_from, flat_map}
use Rattle.std.proofs.lemmas.List.Sums.{sum_by_push}
use Rattle.std.proofs.lemmas.Grind.{flat_map-append}
use Rattle.recording.specs.declared.recording.Recording.{Recording}
use Rattle.replay_report.specs.Report.{line}
use Rattle.depend_log.specs.Waits.{Waited}
use Rattle.depend_log.specs.declared.wait.PlaceWaits.{PlaceWaits}
use Rattle.depend_report.specs.Depends.{all_lines, bytes_moved, count_line, depends_text, pair_count, path_lines, place_lines, place_node}
use Rattle.depend_report.specs.Paths.{heaviest_before, loads, path_weights, spans}
use Rattle.depend_report.specs.Told.{Drawn, Told, drawn, ending, told}

-- one element more, with its number
enumerate_more : {X : Type 0} (n : ℕ) (xs : List X) (x : X) → enumerate_from n (xs ++ x ∷ []) ≡ enumerate_from n xs ++ (n + length xs, x) ∷ []
enumerate_more n [] x = let same : n + 0 ≡ n = omega arith in rw same refl
enumerate_more n (y ∷ ys) x =
    let rest = enumerate_more (n + 1) ys x in
    let same : n + 1 + length ys ≡ n + length (y ∷ ys) = omega arith in
    ap (λ zs. (n, y) ∷ zs) (rest ∙ ap (λ k. enumerate_from (n + 1) ys ++ (k, x) ∷ []) same)

-- the lines at the end, one after another
pub five_pieces : (t a b c d e : List ℕ) → t ++ a ++ b ++ c ++ d ++ e ≡ t ++ (a ++ b ++ c ++ d ++ e)
five_pieces t a b c d e = simp append_assoc

-- a text that has a piece for each element, and one element more
pieces_more : {X : Type 0} (f : ℕ × X → List ℕ) (head : List ℕ) (xs : List X) (x : X) → (head ++ flat_map f (enumerate_from 0 xs)) ++ f (length xs, x) ≡ head ++ flat_map f (enumerate_from 0 (xs ++ x ∷ []))
pieces_more f head xs x =
    let last : 0 + length xs ≡ length xs = omega arith in
    let more = ap (flat_map f) (enumerate_more 0 xs x ∙ ap (λ k. enumerate_from 0 xs ++ (k, x) ∷ []) last) ∙ flat_map-append f (enumerate_from 0 xs) ((length xs, x) ∷ []) in
    let alone : flat_map f ((length xs, x) ∷ []) ≡ f (length xs, x) = simp append-nil in
    append_assoc head (flat_map f (enumerate_from 0 xs)) (f (length xs, x)) ∙ ap (λ ys. head ++ ys) (ap (λ ys. flat_map f (enumerate_from 0 xs) ++ ys) (sym alone) ∙ sym more)

-- the path to one place more
weights_more : (weight : PlaceWaits → ℕ) (ws : List ℕ) (ps : List PlaceWaits) (p : PlaceWaits)
    → path_weights weight ws ps ++ (weight p + heaviest_before (path_weights weight ws ps) p.waits) ∷ [] ≡ path_weights weight ws (ps ++ p ∷ [])
weights_more weight ws [] p = refl
weights_more weight ws (q ∷ ps) p = weights_more weight (ws ++ (weight q + heaviest_before ws q.waits) ∷ []) ps p

-- one path for each place
weights_long : (weight : PlaceWaits → ℕ) (ws : List ℕ) (ps : List PlaceWaits) → length (path_weights weight ws ps) ≡ length ws + length ps
weights_long weight ws [] = omega arith
weights_long weight ws (p ∷ ps) =
    let more = weight p + heaviest_before ws p.waits in
    let rest = weights_long weight (ws ++ more ∷ []) ps in
    let here = length-append ws (more ∷ []) in
    omega (arith, rest, here)

pub spans_long : (ps : List PlaceWaits) → length (spans ps) ≡ length ps
spans_long ps = let long = weights_long (λ p. 1) [] ps in omega (arith, long)

-- what one place more makes of what is told
abbrev pub told_after : Recording → Told → PlaceWaits → Told
told_after t d p = record {
  text = d.text ++ place_lines t (length d.spans) p.waits;
  spans = d.spans ++ (1 + heaviest_before d.spans p.waits) ∷ [];
  loads = d.loads ++ (p.moved + heaviest_before d.loads p.waits) ∷ [];
  pairs = d.pairs + length p.waits;
  bytes = d.bytes + p.moved;
}

abbrev pub tell : List ℕ → List ℕ → List ℕ → ℕ → ℕ → Told
tell text spans loads pairs bytes = record { text = text; spans = spans; loads = loads; pairs = pairs; bytes = bytes }

told_by : {a x : List ℕ} {b y : List ℕ} {d z : List ℕ} {m n : ℕ} {p q : ℕ} → a ≡ x → b ≡ y → d ≡ z → m ≡ n → p ≡ q → tell a b d m p ≡ tell x y z n q
told_by e f g h i = rw (e, f, g, h, i) refl

told_more : (t : Recording) (ps : List PlaceWaits) (p : PlaceWaits) → told_after t (told t ps) p ≡ told t (ps ++ p ∷ [])
told_more t ps p =
    let head = line (codes "uring-depends 1") in
    let text = ap (λ k. (head ++ all_lines t ps) ++ place_lines t k p.waits) (spans_long ps) ∙ pieces_more (λ q. place_lines t q.0 q.1.waits) head ps p in
    told_by text (weights_more (λ q. 1) [] ps p) (weights_more (λ q. q.moved) [] ps p) (sym (sum_by_push (λ q. length q.waits) ps p)) (sym (sum_by_push (λ q. q.moved) ps p))

-- a text that tells of some places, and then of one more
pub told_grows : (t : Recording) (ps : List PlaceWaits) (p : PlaceWaits) (d : Told) (k : ℕ) (ws : List Waited) (moved : ℕ) (text spans loads : List ℕ) → d ≡ told t ps → k ≡ length d.spans → ws ≡ p.waits → moved ≡ p.moved
    → text ≡ d.text ++ place_lines t k ws → spans ≡ d.spans ++ (1 + heaviest_before d.spans ws) ∷ [] → loads ≡ d.loads ++ (p.moved + heaviest_before d.loads ws) ∷ []
    → tell text spans loads (d.pairs + length ws) (d.bytes + moved) ≡ told t (ps ++ p ∷ [])
told_grows t ps p d k ws moved text spans loads is at waits bytes text_is spans_is loads_is =
    let lines = text_is ∙ ap₂ (λ n vs. d.text ++ place_lines t n vs) at waits in
    let longer = spans_is ∙ ap (λ vs. d.spans ++ (1 + heaviest_before d.spans vs) ∷ []) waits in
    let heavier = loads_is ∙ ap (λ vs. d.loads ++ (p.moved + heaviest_before d.loads vs) ∷ []) waits in
    told_by lines longer heavier (ap (λ vs. d.pairs + length vs) waits) (ap (λ n. d.bytes + n) bytes) ∙ ap (λ e. told_after t e p) is ∙ told_more t ps p

-- the lines at the end are those of the places that are told of
ending_told : (ps : List PlaceWaits) (pairs bytes : ℕ) → ending (spans ps) (loads ps) pairs bytes ≡ count_line (codes "places") (length ps) ++ count_line (codes "pairs") pairs ++ path_lines (codes "span") (codes "parallelism") (length ps) (spans ps)
    ++ count_line (codes "bytes") bytes ++ path_lines (codes "span-bytes") (codes "parallelism-bytes") bytes (loads ps)
ending_told ps pairs bytes =
    ap (λ n. count_line (codes "places") n ++ count_line (codes "pairs") pairs ++ path_lines (codes "span") (codes "parallelism") n (spans ps) ++ count_line (codes "bytes") bytes ++ path_lines (codes "span-bytes") (codes "parallelism-bytes") bytes (loads ps))
    (spans_long ps)

-- a text of some places, with its end
pub told_whole : (t : Recording) (ps : List PlaceWaits) (d : Told) (text : List ℕ) → d ≡ told t ps → text ≡ (d.text ++ ending d.spans d.loads d.pairs d.bytes) ++ line (codes "end") → text ≡ depends_text t ps
told_whole t ps d text is text_is =
    text_is ∙ ap (λ e. (e.text ++ ending e.spans e.loads e.pairs e.bytes) ++ line (codes "end")) is
    ∙ ap (λ end. ((line (codes "uring-depends 1") ++ all_lines t ps) ++ end) ++ line (codes "end")) (ending_told ps (pair_count ps) (bytes_moved ps))

-- what one place more makes of what is drawn
abbrev pub drawn_after : Recording → Drawn → PlaceWaits → Drawn
drawn_after t d p = record { text = d.text ++ place_node t d.places p.waits; places = d.places + 1 }

abbrev pub draw : List ℕ → ℕ → Drawn
draw text places = record { text = text; places = places }

drawn_by : {a x : List ℕ} {m n : ℕ} → a ≡ x → m ≡ n → draw a m ≡ draw x n
drawn_by e f = rw (e, f) refl

drawn_more : (t : Recording) (ps : List PlaceWaits) (p : PlaceWaits) → drawn_after t (drawn t ps) p ≡ drawn t (ps ++ p ∷ [])
drawn_more t ps p = drawn_by (pieces_more (λ q. place_node t q.0 q.1.waits) (line (codes "digraph depends {")) ps p) (sym (length-append ps (p ∷ [])))

-- a graph of some places, and of one more
pub drawn_grows : (t : Recording) (ps : List PlaceWaits) (p : PlaceWaits) (d : Drawn) (ws : List Waited) (text : List ℕ) → d ≡ drawn t ps → ws ≡ p.waits → text ≡ d.text ++ place_node t d.places ws → draw text (d.places + 1) ≡ drawn t (ps ++ p ∷ [])
drawn_grows t ps p d ws text is waits text_is = drawn_by (text_is ∙ ap (λ vs. d.text ++ place_node t d.places vs) waits) refl ∙ ap (λ e. drawn_after t e p) is ∙ drawn_more t ps p
