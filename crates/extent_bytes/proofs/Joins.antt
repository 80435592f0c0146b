-- Trees of pages turned, cut and put side by side.
use Rattle.std.proofs.Common.{◌≡◌, ℕ, ◌+◌, ◌-◌, ◌<◌, ◌≤◌, arith}
use Rattle.std.proofs.lemmas.Bool.Decides.{nat_tests}
use Rattle.extent_bytes.specs.Pages.{PageMap, page_of, IsJoined, Replaced, SamePages}

-- the second side is two higher, and its first part higher than its last
pub turned_left : (left first second last middle right lower upper whole : PageMap) (width half near : ℕ) → half ≤ near
    → IsJoined middle near last right → IsJoined first half second middle
    → IsJoined left width first lower → IsJoined second (near - half) last upper → IsJoined lower (width + half) upper whole
    → IsJoined left width right whole
turned_left left first second last middle right lower upper whole width half near h r m a b w = λ j.
    grind (arith, nat_tests, r (j - width), m (j - width), a j, b (j - (width + half)), w j)

-- the first side is two higher, and its last part higher than its first
pub turned_right : (first second last right middle left lower upper whole : PageMap) (width half near : ℕ) → near ≤ width → half ≤ width - near
    → IsJoined first near middle left → IsJoined second half last middle
    → IsJoined first near second lower → IsJoined last (width - near - half) right upper → IsJoined lower (near + half) upper whole
    → IsJoined left width right whole
turned_right first second last right middle left lower upper whole width half near g h l m a b w = λ j.
    grind (arith, nat_tests, l j, m (j - near), a j, b (j - (near + half)), w j)

-- a patch is put between what lies before and behind it
pub spliced : (m s front back patch part whole new : PageMap) (first end : ℕ) → first ≤ end → SamePages m s
    → ((j : ℕ) → j < first → page_of front j ≡ page_of s j) → ((j : ℕ) → page_of back j ≡ page_of s (end + j))
    → IsJoined front first patch part → IsJoined part end back whole → SamePages whole new → Replaced m new first end patch
spliced m s front back patch part whole new first end h same f b p w n = record {
  taken = λ j l. grind (arith, nat_tests, p (first + j), w (first + j), n (first + j));
  below = λ j l. grind (arith, nat_tests, same j, f j, p j, w j, n j);
  above = λ j l. grind (arith, nat_tests, same j, b (j - end), w j, n j);
}
