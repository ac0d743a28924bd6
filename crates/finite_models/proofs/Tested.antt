-- What may be used as if it were decided, in the proof of an equation of numbers.
use Rattle.std.proofs.Common.{ℕ, zero, suc, ◌≡◌, ◌<◌, Bool, true, false, cond, eqb, refl, sym, arith, eqb-true}

-- the vertices below n of which P holds, as a test
pub record Test (P : ℕ → Type 0) (n : ℕ) : Type 0 where
  pub test : ℕ → Bool
  pub sound : (v : ℕ) → test v ≡ true → P v
  pub complete : (v : ℕ) → v < n → P v → test v ≡ true

-- No property of finitely many numbers can fail to have a test, so an equation of numbers may be proved as if it had one.
pub tested : (P : ℕ → Type 0) (n : ℕ) → (Test P n → ⊥) → ⊥
tested P zero none = none (record { test = λ v. false; sound = λ v e. absurd (grind (arith, e)); complete = λ v lt p. absurd (omega arith) })
tested P (suc n) none = tested P n (λ t. out t (λ p. none (grown t p)))
  where
    grown : Test P n → P n → Test P (suc n)
    grown t p = record {
      test = λ v. cond (eqb v n) true (t.test v);
      sound = λ v e. sound v (eqb v n) refl e;
      complete = λ v lt q. complete v lt q (eqb v n) refl;
    }
      where
        sound : (v : ℕ) (c : Bool) → eqb v n ≡ c → cond c true (t.test v) ≡ true → P v
        sound v true same e = rw (eqb-true v n same) p
        sound v false ne e = t.sound v e

        complete : (v : ℕ) → v < suc n → P v → (c : Bool) → eqb v n ≡ c → cond c true (t.test v) ≡ true
        complete v lt q true same = refl
        complete v lt q false ne = t.complete v (let d : v ≡ n → ⊥ = λ s. absurd (grind (arith, s, ne)) in omega arith) q

    out : Test P n → (P n → ⊥) → ⊥
    out t np = none (record { test = t.test; sound = t.sound; complete = λ v lt q. t.complete v (let d : v ≡ n → ⊥ = λ s. np (rw (sym s) q) in omega arith) q })

-- two numbers that cannot differ are equal
pub stable : (a b : ℕ) → ((a ≡ b → ⊥) → ⊥) → a ≡ b
stable a b h = go (eqb a b) refl
  where
    go : (c : Bool) → eqb a b ≡ c → a ≡ b
    go true e = eqb-true a b e
    go false e = absurd (h (λ s. absurd (grind (arith, s, e))))

-- tests of a relation, for each second place below k
pub record Tests (R : ℕ → ℕ → Type 0) (n k : ℕ) : Type 0 where
  pub test : ℕ → ℕ → Bool
  pub sound : (u w : ℕ) → u < k → test u w ≡ true → R w u
  pub complete : (u w : ℕ) → u < k → w < n → R w u → test u w ≡ true

pub tested_each : (R : ℕ → ℕ → Type 0) (n k : ℕ) → (Tests R n k → ⊥) → ⊥
tested_each R n zero none = none (record { test = λ u w. false; sound = λ u w lt e. absurd (omega arith); complete = λ u w lt l r. absurd (omega arith) })
tested_each R n (suc k) none = tested_each R n k (λ ts. tested (λ w. R w k) n (λ t. none (grown ts t)))
  where
    grown : Tests R n k → Test (λ w. R w k) n → Tests R n (suc k)
    grown ts t = record {
      test = λ u w. cond (eqb u k) (t.test w) (ts.test u w);
      sound = λ u w lt e. sound u w lt (eqb u k) refl e;
      complete = λ u w lt l r. complete u w lt l r (eqb u k) refl;
    }
      where
        less : (u : ℕ) → u < suc k → eqb u k ≡ false → u < k
        less u lt e = let d : u ≡ k → ⊥ = λ s. absurd (grind (arith, s, e)) in omega arith

        sound : (u w : ℕ) → u < suc k → (c : Bool) → eqb u k ≡ c → cond c (t.test w) (ts.test u w) ≡ true → R w u
        sound u w lt true q e = rw (eqb-true u k q) (t.sound w e)
        sound u w lt false q e = ts.sound u w (less u lt q) e

        complete : (u w : ℕ) → u < suc k → w < n → R w u → (c : Bool) → eqb u k ≡ c → cond c (t.test w) (ts.test u w) ≡ true
        complete u w lt l r true q = t.complete w l (rw (sym (eqb-true u k q)) r)
        complete u w lt l r false q = ts.complete u w (less u lt q) l r
