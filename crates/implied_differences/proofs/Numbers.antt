-- Steps between numbers, over plain variables: inside larger terms `omega` would read all that they are made of.
use Rattle.std.proofs.Common.{ℕ, ◌<◌, ◌≤◌, arith}

pub through : (x y z : ℕ) → x ≤ y → y ≤ z → x ≤ z
through x y z p q = omega arith

pub below_through : (x y z : ℕ) → x ≤ y → y < z → x < z
below_through x y z p q = omega arith
