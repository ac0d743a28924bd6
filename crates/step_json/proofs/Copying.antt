-- A list of 0 alone has 0 everywhere.
use Rattle.std.proofs.Common.{◌≡◌, ℕ, zero, suc, replicate, get_or, refl}

-- each entry of zeros is 0, and so is what stands for one past the end
pub blank_everywhere : (n k : ℕ) → ◌≡◌ {A = ℕ} (get_or (replicate n 0) k 0) 0
blank_everywhere zero zero = refl
blank_everywhere zero (suc k) = refl
blank_everywhere (suc n) zero = refl
blank_everywhere (suc n) (suc k) = blank_everywhere n k
