-- Laws of parities.
use Rattle.std.proofs.Common.{ℕ, zero, suc, ◌≡◌, ◌<◌, ◌≤◌, Bool, true, false, eqb, refl, sym, ap, ◌∙◌, ◌&&◌, arith, ne_eqb, eqb-true}
use Rattle.finite_models.specs.Vocabulary.{differ, odd_below}

-- exclusive or with false changes no bit
pub differ-false : (a : Bool) → differ a false ≡ a
differ-false true = refl
differ-false false = refl

pub differ-comm : (a b : Bool) → differ a b ≡ differ b a
differ-comm true true = refl
differ-comm true false = refl
differ-comm false true = refl
differ-comm false false = refl

-- exclusive or may be bracketed either way
pub differ-assoc : (a b c : Bool) → differ (differ a b) c ≡ differ a (differ b c)
differ-assoc true true true = refl
differ-assoc true true false = refl
differ-assoc true false c = refl
differ-assoc false b c = refl

pub differ-self : (a : Bool) → differ a a ≡ false
differ-self true = refl
differ-self false = refl

pub differ-swap : (a b c d : Bool) → differ (differ a b) (differ c d) ≡ differ (differ a c) (differ b d)
differ-swap a b c d = differ-assoc a b (differ c d) ∙ ap (differ a) (sym (differ-assoc b c d) ∙ ap (λ r. differ r d) (differ-comm b c) ∙ differ-assoc c b d)
    ∙ sym (differ-assoc a c (differ b d))

-- bits that are equal below n have one parity
pub odd-congr : (n : ℕ) (p q : ℕ → Bool) → ((i : ℕ) → i < n → p i ≡ q i) → odd_below n p ≡ odd_below n q
odd-congr zero p q h = refl
odd-congr (suc n) p q h = ap (λ r. differ r (p n)) (odd-congr n p q (λ i lt. h i (omega arith))) ∙ ap (differ (odd_below n q)) (h n (omega arith))

pub odd-false : (n : ℕ) → odd_below n (λ i. false) ≡ false
odd-false zero = refl
odd-false (suc n) = differ-false (odd_below n (λ i. false)) ∙ odd-false n

pub odd-differ : (n : ℕ) (p q : ℕ → Bool) → odd_below n (λ i. differ (p i) (q i)) ≡ differ (odd_below n p) (odd_below n q)
odd-differ zero p q = refl
odd-differ (suc n) p q = ap (λ r. differ r (differ (p n) (q n))) (odd-differ n p q) ∙ differ-swap (odd_below n p) (odd_below n q) (p n) (q n)

pub odd-swap : (n m : ℕ) (p : ℕ → ℕ → Bool) → odd_below n (λ i. odd_below m (λ j. p i j)) ≡ odd_below m (λ j. odd_below n (λ i. p i j))
odd-swap zero m p = sym (odd-false m)
odd-swap (suc n) m p = ap (λ r. differ r (odd_below m (λ j. p n j))) (odd-swap n m p) ∙ sym (odd-differ m (λ j. odd_below n (λ i. p i j)) (λ j. p n j))

pub odd-and : (n : ℕ) (a : Bool) (p : ℕ → Bool) → odd_below n (λ i. a && p i) ≡ (a && odd_below n p)
odd-and n true p = refl
odd-and n false p = odd-false n

-- one term alone
pub odd-none : (n k : ℕ) (p : ℕ → Bool) → n ≤ k → odd_below n (λ i. eqb i k && p i) ≡ false
odd-none n k p le = odd-congr n (λ i. eqb i k && p i) (λ i. false) (λ i lt. rw (ne_eqb i k (omega arith)) refl) ∙ odd-false n

-- the parity of the one bit k is that bit
pub odd-one : (n k : ℕ) (p : ℕ → Bool) → k < n → odd_below n (λ i. eqb i k && p i) ≡ p k
odd-one zero k p lt = absurd (omega arith)
odd-one (suc n) k p lt = go (eqb n k) refl (λ l. odd-one n k p l)
  where
    go : (c : Bool) → eqb n k ≡ c → (k < n → odd_below n (λ i. eqb i k && p i) ≡ p k) → differ (odd_below n (λ i. eqb i k && p i)) (eqb n k && p n) ≡ p k
    go true e ih = let same : n ≡ k = eqb-true n k e in rw (odd-none n k p (omega (arith, same)), e) (ap p same)
    go false e ih = rw e (differ-false (odd_below n (λ i. eqb i k && p i)) ∙ ih (let d : n ≡ k → ⊥ = λ s. absurd (grind (arith, s, e)) in omega arith))

-- ---- fibres and incidences
pub and-assoc : (a b c : Bool) → (a && (b && c)) ≡ ((a && b) && c)
and-assoc true b c = refl
and-assoc false b c = refl

pub and-comm : (a b : Bool) → (a && b) ≡ (b && a)
and-comm true true = refl
and-comm true false = refl
and-comm false true = refl
and-comm false false = refl

turn : (a c e h : Bool) → (a && (c && (e && h))) ≡ ((c && h) && (e && a))
turn true true true true = refl
turn true true true false = refl
turn true true false true = refl
turn true true false false = refl
turn true false e h = refl
turn false true true true = refl
turn false true true false = refl
turn false true false true = refl
turn false true false false = refl
turn false false e h = refl

-- each u in C is counted at the vertex that it chose
pub fibres : (n : ℕ) (G C : ℕ → Bool) (choice : ℕ → ℕ) (h : ℕ → Bool) → ((u : ℕ) → C u ≡ true → choice u < n)
    → odd_below n (λ v. G v && odd_below n (λ u. C u && (eqb v (choice u) && h u))) ≡ odd_below n (λ u. C u && (G (choice u) && h u))
fibres n G C choice h low =
    odd-congr n (λ v. G v && odd_below n (λ u. C u && (eqb v (choice u) && h u))) (λ v. odd_below n (λ u. G v && (C u && (eqb v (choice u) && h u))))
    (λ v lt. sym (odd-and n (G v) (λ u. C u && (eqb v (choice u) && h u))))
    ∙ odd-swap n n (λ v u. G v && (C u && (eqb v (choice u) && h u)))
    ∙ odd-congr n (λ u. odd_below n (λ v. G v && (C u && (eqb v (choice u) && h u)))) (λ u. C u && (G (choice u) && h u))
    (λ u lt. odd-congr n (λ v. G v && (C u && (eqb v (choice u) && h u))) (λ v. (C u && h u) && (eqb v (choice u) && G v))
    (λ v l. turn (G v) (C u) (eqb v (choice u)) (h u))
    ∙ odd-and n (C u && h u) (λ v. eqb v (choice u) && G v)
    ∙ at u (C u) refl)
  where
    at : (u : ℕ) (c : Bool) → C u ≡ c → ((C u && h u) && odd_below n (λ v. eqb v (choice u) && G v)) ≡ (C u && (G (choice u) && h u))
    at u true e = rw (odd-one n (choice u) G (low u e)) (rw e (and-comm (h u) (G (choice u))))
    at u false e = rw e refl

-- each cause is counted at the vertices of G at which it stands
pub incidences : (n m : ℕ) (G : ℕ → Bool) (inc : ℕ → ℕ → Bool) (w : ℕ → Bool)
    → odd_below n (λ v. G v && odd_below m (λ j. inc v j && w j)) ≡ odd_below m (λ j. odd_below n (λ v. G v && inc v j) && w j)
incidences n m G inc w =
    odd-congr n (λ v. G v && odd_below m (λ j. inc v j && w j)) (λ v. odd_below m (λ j. G v && (inc v j && w j)))
    (λ v lt. sym (odd-and m (G v) (λ j. inc v j && w j)))
    ∙ odd-swap n m (λ v j. G v && (inc v j && w j))
    ∙ odd-congr m (λ j. odd_below n (λ v. G v && (inc v j && w j))) (λ j. odd_below n (λ v. G v && inc v j) && w j)
    (λ j lt. odd-congr n (λ v. G v && (inc v j && w j)) (λ v. w j && (G v && inc v j))
    (λ v l. and-assoc (G v) (inc v j) (w j) ∙ and-comm (G v && inc v j) (w j))
    ∙ odd-and n (w j) (λ v. G v && inc v j) ∙ and-comm (w j) (odd_below n (λ v. G v && inc v j)))

pub and-differ : (a b c : Bool) → (a && differ b c) ≡ differ (a && b) (a && c)
and-differ true b c = refl
and-differ false b c = refl

-- the equations of the vertices in G, summed
pub group_equation : (n m : ℕ) (G C : ℕ → Bool) (choice : ℕ → ℕ) (h : ℕ → Bool) (inc : ℕ → ℕ → Bool) (w : ℕ → Bool) → ((u : ℕ) → C u ≡ true → choice u < n)
    → ((v : ℕ) → v < n → G v ≡ true → h v ≡ differ (odd_below n (λ u. C u && (eqb v (choice u) && h u))) (odd_below m (λ j. inc v j && w j)))
    → odd_below n (λ v. G v && h v) ≡ differ (odd_below n (λ u. C u && (G (choice u) && h u))) (odd_below m (λ j. odd_below n (λ v. G v && inc v j) && w j))
group_equation n m G C choice h inc w low eq =
    odd-congr n (λ v. G v && h v) (λ v. differ (G v && odd_below n (λ u. C u && (eqb v (choice u) && h u))) (G v && odd_below m (λ j. inc v j && w j)))
    (λ v lt. at v lt (G v) refl ∙ and-differ (G v) (odd_below n (λ u. C u && (eqb v (choice u) && h u))) (odd_below m (λ j. inc v j && w j)))
    ∙ odd-differ n (λ v. G v && odd_below n (λ u. C u && (eqb v (choice u) && h u))) (λ v. G v && odd_below m (λ j. inc v j && w j))
    ∙ ap (λ r. differ r (odd_below n (λ v. G v && odd_below m (λ j. inc v j && w j)))) (fibres n G C choice h low)
    ∙ ap (differ (odd_below n (λ u. C u && (G (choice u) && h u)))) (incidences n m G inc w)
  where
    at : (v : ℕ) → v < n → (c : Bool) → G v ≡ c → (G v && h v) ≡ (G v && differ (odd_below n (λ u. C u && (eqb v (choice u) && h u)))
        (odd_below m (λ j. inc v j && w j)))
    at v lt true e = rw e (eq v lt e)
    at v lt false e = rw e refl
