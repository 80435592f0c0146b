-- A copy of some bytes.
use Rattle.std.proofs.Common.{◌≡◌, ℕ, List, ◌∙◌, map-id}
use Rattle.std.specs.List.{AllZip}
use Rattle.std.proofs.lemmas.Slice.Zip.{AllZip-map}

-- a copy has the same bytes
pub is_same : (bytes copy : List ℕ) → AllZip (λ x y. y ≡ x) bytes copy → copy ≡ bytes
is_same bytes copy each = AllZip-map (λ x. x) bytes copy each ∙ map-id bytes
