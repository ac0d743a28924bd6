-- Numbers that pack bits.
use Rattle.std.specs.Prelude.{ℕ, zero, suc, ◌^◌, Bool, if◌then◌else◌, bit_or}

-- the mask of the numbers below n that pass a test
unfoldable pub mask_of : (ℕ → Bool) → ℕ → ℕ
mask_of t zero = 0
mask_of t (suc n) = bit_or (mask_of t n) (if t n then 2 ^ n else 0)
