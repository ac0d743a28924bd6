-- Two different roles as two sets with a member in common.
use Rattle.std.proofs.Common.{◌≡◌, ◌≢◌, ℕ, Bool, true, false, refl, sym, ◌∙◌, arith}
use Rattle.std.specs.Prelude.{◌||◌, ◌&&◌}
use Rattle.dag_reader.specs.declared.marks.Role.{Role}
use Rattle.dag_reader.specs.declared.marks.Role.TheVariants.{Exposure, Outcome, Adjusted, Latent}
use Rattle.dag_reader.specs.Passes.{HasTwo, IsRoleClash}

-- two of four tests hold
abbrev pub two_of : (e o a l : Bool) → Bool
two_of e o a l = (e && o) || ((e || o) && a) || ((e || o || a) && l)

eo : (e o a l : Bool) → e ≡ true → o ≡ true → two_of e o a l ≡ true
eo e o a l h k = grind arith

ea : (e o a l : Bool) → e ≡ true → a ≡ true → two_of e o a l ≡ true
ea e o a l h k = grind arith

el : (e o a l : Bool) → e ≡ true → l ≡ true → two_of e o a l ≡ true
el e o a l h k = grind arith

oa : (e o a l : Bool) → o ≡ true → a ≡ true → two_of e o a l ≡ true
oa e o a l h k = grind arith

ol : (e o a l : Bool) → o ≡ true → l ≡ true → two_of e o a l ≡ true
ol e o a l h k = grind arith

al : (e o a l : Bool) → a ≡ true → l ≡ true → two_of e o a l ≡ true
al e o a l h k = grind arith

pub two_hold : (is : Role → Bool) (first second : Role) → first ≢ second → is first ≡ true → is second ≡ true
    → two_of (is Exposure) (is Outcome) (is Adjusted) (is Latent) ≡ true
two_hold is Exposure Exposure d h k = absurd (d refl)
two_hold is Outcome Outcome d h k = absurd (d refl)
two_hold is Adjusted Adjusted d h k = absurd (d refl)
two_hold is Latent Latent d h k = absurd (d refl)
two_hold is Exposure Outcome d h k = eo (is Exposure) (is Outcome) (is Adjusted) (is Latent) h k
two_hold is Exposure Adjusted d h k = ea (is Exposure) (is Outcome) (is Adjusted) (is Latent) h k
two_hold is Exposure Latent d h k = el (is Exposure) (is Outcome) (is Adjusted) (is Latent) h k
two_hold is Outcome Exposure d h k = eo (is Exposure) (is Outcome) (is Adjusted) (is Latent) k h
two_hold is Outcome Adjusted d h k = oa (is Exposure) (is Outcome) (is Adjusted) (is Latent) h k
two_hold is Outcome Latent d h k = ol (is Exposure) (is Outcome) (is Adjusted) (is Latent) h k
two_hold is Adjusted Exposure d h k = ea (is Exposure) (is Outcome) (is Adjusted) (is Latent) k h
two_hold is Adjusted Outcome d h k = oa (is Exposure) (is Outcome) (is Adjusted) (is Latent) k h
two_hold is Adjusted Latent d h k = al (is Exposure) (is Outcome) (is Adjusted) (is Latent) h k
two_hold is Latent Exposure d h k = el (is Exposure) (is Outcome) (is Adjusted) (is Latent) k h
two_hold is Latent Outcome d h k = ol (is Exposure) (is Outcome) (is Adjusted) (is Latent) k h
two_hold is Latent Adjusted d h k = al (is Exposure) (is Outcome) (is Adjusted) (is Latent) k h

-- where no two of the four hold, there are no two roles
pub none_of_two : (is : Role → ℕ → Bool) (v : ℕ) → two_of (is Exposure v) (is Outcome v) (is Adjusted v) (is Latent v) ≡ false → HasTwo is v → ⊥
none_of_two is v h two =
    let t = two_hold (λ r. is r v) two.first two.second two.differ two.has_first two.has_second in cc

-- the same under tests that agree
pub two_same : (p q : Role → ℕ → Bool) → ((r : Role) (v : ℕ) → p r v ≡ q r v) → (v : ℕ) → HasTwo p v → HasTwo q v
two_same p q is v t = record {
  first = t.first;
  second = t.second;
  differ = t.differ;
  has_first = sym (is t.first v) ∙ t.has_first;
  has_second = sym (is t.second v) ∙ t.has_second;
}

pub clash_same : (p q : Role → ℕ → Bool) → ((r : Role) (v : ℕ) → p r v ≡ q r v) → (v : ℕ) → IsRoleClash p v → IsRoleClash q v
clash_same p q is v c = record {
  two = two_same p q is v c.two;
  lowest = λ u h t. c.lowest u h (two_same q p (λ r w. sym (is r w)) u t);
}
