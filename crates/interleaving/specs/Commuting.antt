-- A law: steps of places that are apart commute.
use Rattle.std.specs.Prelude.{◌≡◌, ◌≢◌, ℕ}
use Rattle.interleaving.specs.System.{System, Apart}

-- two steps give the same world and the same replies in either order
pub record Commutes (m : System) (j k : ℕ) (s : m.World) : Type 0 where
  pub world : m.step k (m.step j s) ≡ m.step j (m.step k s)
  pub reply_first : m.reply j (m.step k s) ≡ m.reply j s
  pub reply_second : m.reply k (m.step j s) ≡ m.reply k s

-- places whose access sets are apart commute
abbrev pub ApartCommute : System → Type 0
ApartCommute m = (j k : ℕ) (s : m.World) → m.IsWorld s → m.Unused j s → m.Unused k s → j ≢ k
    → Apart m (m.foot j s) (m.foot k s) → Commutes m j k s
