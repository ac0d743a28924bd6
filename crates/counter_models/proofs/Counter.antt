-- The two counter-models of a hedge, and the parity of the event under the intervention.
use Rattle.std.proofs.Common.{ℕ, zero, suc, ◌*◌, ◌/◌, ◌%◌, ◌≡◌, ◌<◌, Bool, true, false, cond, eqb, refl, sym, ◌∙◌, ◌&&◌, arith, eqb-true}
use Rattle.std.proofs.lemmas.Bool.{false_from_ne_true}
use Rattle.finite_models.specs.Vocabulary.{product_below, odd_below}
use Rattle.finite_models.proofs.Bools.{and_first, and_second}
use Rattle.counter_models.specs.Parities.{bit}
use Rattle.counter_models.specs.ParityPairs.{value}
use Rattle.counter_models.proofs.ParityLaws.{odd-congr, odd-false, odd-one, incidences}

-- ---- bits and values
pub hedge_of : (b h k : Bool) → bit (value true b h k % 2) ≡ h
hedge_of true true true = refl
hedge_of true true false = refl
hedge_of true false true = refl
hedge_of true false false = refl
hedge_of false true k = refl
hedge_of false false k = refl

pub carried_of : (a h k : Bool) → cond a (bit (value a true h k / 2)) (bit (value a true h k)) ≡ k
carried_of true true true = refl
carried_of true true false = refl
carried_of true false true = refl
carried_of true false false = refl
carried_of false h true = refl
carried_of false h false = refl

-- ---- a sum of causes named by vertices, by causes
pub pushed : (n m : ℕ) (A : ℕ → Bool) (f : ℕ → ℕ) (w : ℕ → Bool) → ((v : ℕ) → A v ≡ true → f v < m)
    → odd_below n (λ v. A v && w (f v)) ≡ odd_below m (λ j. odd_below n (λ v. A v && eqb j (f v)) && w j)
pushed n m A f w low =
    odd-congr n (λ v. A v && w (f v)) (λ v. A v && odd_below m (λ j. eqb j (f v) && w j)) (λ v lt. at v (A v) refl)
    ∙ incidences n m A (λ v j. eqb j (f v)) w
  where
    at : (v : ℕ) (c : Bool) → A v ≡ c → (A v && w (f v)) ≡ (A v && odd_below m (λ j. eqb j (f v) && w j))
    at v true e = rw (odd-one m (f v) w (low v e)) refl
    at v false e = rw e refl

-- where f gives j for no member of A, it gives j for an even number of them
pub odd_none : (n : ℕ) (A : ℕ → Bool) (f : ℕ → ℕ) (j : ℕ) → ((v : ℕ) → A v ≡ true → f v ≡ j → ⊥) → odd_below n (λ v. A v && eqb j (f v)) ≡ false
odd_none n A f j h = odd-congr n (λ v. A v && eqb j (f v)) (λ v. false)
    (λ v lt. false_from_ne_true (A v && eqb j (f v)) (λ e. h v (and_first (A v) (eqb j (f v)) e) (sym (eqb-true j (f v) (and_second (A v) (eqb j (f v)) e)))))
    ∙ odd-false n

pub product_zero : (k : ℕ) (f : ℕ → ℕ) (i : ℕ) → i < k → f i ≡ 0 → product_below k f ≡ 0
product_zero zero f i lt e = absurd (omega arith)
product_zero (suc k) f i lt e = go (eqb i k) refl (λ l. product_zero k f i l e)
  where
    go : (c : Bool) → eqb i k ≡ c → (i < k → product_below k f ≡ 0) → product_below k f * f k ≡ 0
    go true q ih = rw (sym (eqb-true i k q)) (rw e (omega arith))
    go false q ih = rw (ih (let ne : i ≡ k → ⊥ = λ s. absurd (grind (arith, s, q)) in omega arith)) (omega arith)
