-- Members of two sets.
use Rattle.std.proofs.Common.{◌≡◌, ◌&&◌, Bool, true, arith}

-- a member of both is a member of each, and the other way round
pub pair_of : (a b c : Bool) → c ≡ (a && b) → c ≡ true → (a ≡ true) × (b ≡ true)
pair_of a b c h i = (grind (arith, h, i), grind (arith, h, i))

pub pair_from : (a b c : Bool) → c ≡ (a && b) → a ≡ true → b ≡ true → c ≡ true
pair_from a b c h i j = grind (arith, h, i, j)
