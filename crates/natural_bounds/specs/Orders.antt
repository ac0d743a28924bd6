-- Fractions in order, and the greatest and the least of those at the points of a box.
use Rattle.std.specs.Prelude.{ℕ, zero, suc, ◌*◌, ◌≡◌, ◌<◌, ◌≤◌, ◌⊎◌, Bool, if◌then◌else◌, nat_le, IsTrue}
use Rattle.finite_models.specs.Vocabulary.{set_at}
use Rattle.fractions.specs.Vocabulary.{Fraction, over}
use Rattle.natural_bounds.specs.declared.ends.End.{End}
use Rattle.natural_bounds.specs.declared.ends.End.TheVariants.{AtLeast, AtMost}

-- f is at most h, as numbers
pub record IsAtMost (f h : Fraction) : Type 0 where
  pub left_bottom : 1 ≤ f.bottom
  pub right_bottom : 1 ≤ h.bottom
  pub products : f.top * h.bottom ≤ h.top * f.bottom

-- f bounds h from below, or from above
abbrev pub Bounds : End → (f h : Fraction) → Type 0
Bounds AtLeast f h = IsAtMost f h
Bounds AtMost f h = IsAtMost h f

-- what bounds each probability
abbrev pub trivial : End → Fraction
trivial AtLeast = over 0 1
trivial AtMost = over 1 1

-- the tighter of two bounds: the greater of what an effect is at least, the less of what it is at most
abbrev pub tighter : End → (f h : Fraction) → Fraction
tighter AtLeast f h = if nat_le (f.top * h.bottom) (h.top * f.bottom) then h else f
tighter AtMost f h = if nat_le (h.top * f.bottom) (f.top * h.bottom) then h else f

-- the tightest of f 0, .., f (k - 1) and the trivial bound
abbrev pub tightest_below : End → ℕ → (ℕ → Fraction) → Fraction
tightest_below end zero f = trivial end
tightest_below end (suc k) f = tighter end (tightest_below end k f) (f k)

-- the tightest of the bounds f at all points that differ from b at most in the coordinates i below n with u i, such a coordinate ranging below s i
abbrev pub tightest_over : End → (ℕ → Bool) → (ℕ → ℕ) → ℕ → ((ℕ → ℕ) → Fraction) → (ℕ → ℕ) → Fraction
tightest_over end u s zero f b = f b
tightest_over end u s (suc n) f b = if u n then (tightest_below end (s n) (λ x. tightest_over end u s n f (set_at b n x))) else tightest_over end u s n f b

-- r differs from b at most in the coordinates i below n with u i, each of which has a value below s i
pub record IsIn (u : ℕ → Bool) (s : ℕ → ℕ) (n : ℕ) (b r : ℕ → ℕ) : Type 0 where
  pub outside : (v : ℕ) → (v < n → IsTrue (u v) → ⊥) → r v ≡ b v
  pub inside : (v : ℕ) → v < n → IsTrue (u v) → r v < s v

-- the tightest bound is as tight as each
abbrev pub TightestIsTightest : Type 0
TightestIsTightest = (end : End) (u : ℕ → Bool) (s : ℕ → ℕ) (n : ℕ) (f : (ℕ → ℕ) → Fraction) (b r : ℕ → ℕ) → ((t : ℕ → ℕ) → 1 ≤ (f t).bottom)
    → IsIn u s n b r → Bounds end (f r) (tightest_over end u s n f b)

-- and is one of them, or the trivial bound
abbrev pub TightestIsOne : Type 0
TightestIsOne = (end : End) (u : ℕ → Bool) (s : ℕ → ℕ) (n : ℕ) (f : (ℕ → ℕ) → Fraction) (b : ℕ → ℕ)
    → (tightest_over end u s n f b ≡ trivial end) ⊎ ((r : ℕ → ℕ) × IsIn u s n b r × (tightest_over end u s n f b ≡ f r))
