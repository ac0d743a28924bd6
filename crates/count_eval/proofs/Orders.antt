-- Sums over boxes, the lowest vertex outermost or the highest: over any commutative operation they are the same.
use Rattle.std.proofs.Common.{ℕ, zero, suc, ◌+◌, ◌≡◌, ◌<◌, Bool, true, false, cond, refl, sym, ap, ap₂, ◌∙◌, arith}
use Rattle.finite_models.specs.Vocabulary.{set_at}
use Rattle.finite_models.proofs.SumLaws.{set_at-swap}

module _ {A : Type 0} (op : A → A → A) (e : A) where
  abbrev pub big : ℕ → (ℕ → A) → A
  big zero f = e
  big (suc k) f = op (big k f) (f k)

  -- the highest vertex outermost
  abbrev pub down : (ℕ → Bool) → (ℕ → ℕ) → ℕ → ((ℕ → ℕ) → A) → (ℕ → ℕ) → A
  down U s zero F b = F b
  down U s (suc n) F b = cond (U n) (big (s n) (λ x. down U s n F (set_at b n x))) (down U s n F b)

  -- the lowest, of the k vertices from v on
  abbrev pub up : (ℕ → Bool) → (ℕ → ℕ) → ℕ → ℕ → ((ℕ → ℕ) → A) → (ℕ → ℕ) → A
  up U s zero v F b = F b
  up U s (suc k) v F b = cond (U v) (big (s v) (λ x. up U s k (suc v) F (set_at b v x))) (up U s k (suc v) F b)

  abbrev pub one : Bool → ℕ → ℕ → ((ℕ → ℕ) → A) → (ℕ → ℕ) → A
  one p k v F b = cond p (big k (λ x. F (set_at b v x))) (F b)

  pub big-congr : (n : ℕ) (f g : ℕ → A) → ((x : ℕ) → f x ≡ g x) → big n f ≡ big n g
  big-congr zero f g h = refl
  big-congr (suc n) f g h = ap₂ op (big-congr n f g h) (h n)

  -- sizes of vertices that aren't summed over don't matter
  pub same_down : (U : ℕ → Bool) (s t : ℕ → ℕ) (n : ℕ) → ((v : ℕ) → v < n → U v ≡ true → s v ≡ t v) → (F G : (ℕ → ℕ) → A) → ((c : ℕ → ℕ) → F c ≡ G c)
      → (b : ℕ → ℕ) → down U s n F b ≡ down U t n G b
  same_down U s t zero sizes F G h b = h b
  same_down U s t (suc n) sizes F G h b = go (U n) refl (λ c. same_down U s t n (λ v lt u. sizes v (omega (arith, lt)) u) F G h c)
    where
      go : (p : Bool) → U n ≡ p → ((c : ℕ → ℕ) → down U s n F c ≡ down U t n G c)
          → cond p (big (s n) (λ x. down U s n F (set_at b n x))) (down U s n F b) ≡ cond p (big (t n) (λ x. down U t n G (set_at b n x))) (down U t n G b)
      go true e ih = ap (λ k. big k (λ x. down U s n F (set_at b n x))) (sizes n (omega arith) e)
          ∙ big-congr (t n) (λ x. down U s n F (set_at b n x)) (λ x. down U t n G (set_at b n x)) (λ x. ih (set_at b n x))
      go false e ih = ih b

  -- what is made by the same steps is the same
  module _ (below : ℕ → (ℕ → A) → A) (none : (f : ℕ → A) → below zero f ≡ e) (more : (k : ℕ) (f : ℕ → A) → below (suc k) f ≡ op (below k f) (f k))
      (over : (ℕ → Bool) → (ℕ → ℕ) → ℕ → ((ℕ → ℕ) → A) → (ℕ → ℕ) → A) (over_none : (U : ℕ → Bool) (s : ℕ → ℕ) (F : (ℕ → ℕ) → A) (b : ℕ → ℕ)
      → over U s zero F b ≡ F b)
      (over_more : (U : ℕ → Bool) (s : ℕ → ℕ) (n : ℕ) (F : (ℕ → ℕ) → A) (b : ℕ → ℕ) → over U s (suc n) F b
      ≡ cond (U n) (below (s n) (λ x. over U s n F (set_at b n x))) (over U s n F b)) where
    big_is : (k : ℕ) (f g : ℕ → A) → ((x : ℕ) → f x ≡ g x) → big k f ≡ below k g
    big_is zero f g h = sym (none g)
    big_is (suc k) f g h = ap₂ op (big_is k f g h) (h k) ∙ sym (more k g)

    pub down_is : (U : ℕ → Bool) (s : ℕ → ℕ) (n : ℕ) (F : (ℕ → ℕ) → A) (b : ℕ → ℕ) → down U s n F b ≡ over U s n F b
    down_is U s zero F b = sym (over_none U s F b)
    down_is U s (suc n) F b = go (U n) (s n) (λ c. down_is U s n F c) ∙ sym (over_more U s n F b)
      where
        go : (p : Bool) (k : ℕ) → ((c : ℕ → ℕ) → down U s n F c ≡ over U s n F c)
            → cond p (big k (λ x. down U s n F (set_at b n x))) (down U s n F b) ≡ cond p (below k (λ x. over U s n F (set_at b n x))) (over U s n F b)
        go true k ih = big_is k (λ x. down U s n F (set_at b n x)) (λ x. over U s n F (set_at b n x)) (λ x. ih (set_at b n x))
        go false k ih = ih b

module _ {A : Type 0} (op : A → A → A) (e : A) (comm : (a b : A) → op a b ≡ op b a) (assoc : (a b c : A) → op a (op b c) ≡ op (op a b) c)
    (unit : (a : A) → op e a ≡ a) where
  big-unit : (n : ℕ) → big op e n (λ x. e) ≡ e
  big-unit zero = refl
  big-unit (suc n) = ap (λ a. op a e) (big-unit n) ∙ unit e

  four : (a b c d : A) → op (op a b) (op c d) ≡ op (op a c) (op b d)
  four a b c d = assoc (op a b) c d ∙ ap (λ x. op x d) (sym (assoc a b c) ∙ ap (λ x. op a x) (comm b c) ∙ assoc a c b) ∙ sym (assoc (op a c) b d)

  big-op : (n : ℕ) (f g : ℕ → A) → big op e n (λ x. op (f x) (g x)) ≡ op (big op e n f) (big op e n g)
  big-op zero f g = sym (unit e)
  big-op (suc n) f g = ap (λ a. op a (op (f n) (g n))) (big-op n f g) ∙ four (big op e n f) (big op e n g) (f n) (g n)

  big-swap : (n m : ℕ) (G : ℕ → ℕ → A) → big op e n (λ x. big op e m (λ y. G x y)) ≡ big op e m (λ y. big op e n (λ x. G x y))
  big-swap zero m G = sym (big-unit m)
  big-swap (suc n) m G = ap (λ a. op a (big op e m (λ y. G n y))) (big-swap n m G) ∙ sym (big-op m (λ y. big op e n (λ x. G x y)) (λ y. G n y))

  one-congr : (p : Bool) (k v : ℕ) (F G : (ℕ → ℕ) → A) (b : ℕ → ℕ) → ((c : ℕ → ℕ) → F c ≡ G c) → one op e p k v F b ≡ one op e p k v G b
  one-congr true k v F G b h = big-congr op e k (λ x. F (set_at b v x)) (λ x. G (set_at b v x)) (λ x. h (set_at b v x))
  one-congr false k v F G b h = h b

  one-swap : (p q : Bool) (k l i j : ℕ) (F : (ℕ → ℕ) → A) (b : ℕ → ℕ) → (i ≡ j → ⊥) → one op e p k i (one op e q l j F) b ≡ one op e q l j (one op e p k i F) b
  one-swap true true k l i j F b ne =
      big-swap k l (λ x y. F (set_at (set_at b i x) j y))
      ∙ big-congr op e l (λ y. big op e k (λ x. F (set_at (set_at b i x) j y))) (λ y. big op e k (λ x. F (set_at (set_at b j y) i x)))
      (λ y. big-congr op e k (λ x. F (set_at (set_at b i x) j y)) (λ x. F (set_at (set_at b j y) i x)) (λ x. ap F (set_at-swap b i j x y ne)))
  one-swap true false k l i j F b ne = refl
  one-swap false true k l i j F b ne = refl
  one-swap false false k l i j F b ne = refl

  -- the last vertex may come first
  last : (U : ℕ → Bool) (s : ℕ → ℕ) (k v j : ℕ) (F : (ℕ → ℕ) → A) (b : ℕ → ℕ) → j ≡ v + k → up op e U s (suc k) v F b
      ≡ one op e (U j) (s j) j (up op e U s k v F) b
  last U s zero v j F b at = ap (λ i. one op e (U i) (s i) i F b) (let r : v ≡ j = omega arith in r)
  last U s (suc k) v j F b at =
      one-congr (U v) (s v) v (up op e U s (suc k) (suc v) F) (one op e (U j) (s j) j (up op e U s k (suc v) F)) b (λ c. last U s k (suc v) j F c (omega arith))
      ∙ one-swap (U v) (U j) (s v) (s j) v j (up op e U s k (suc v) F) b (λ h. absurd (omega arith))

  pub up_down : (U : ℕ → Bool) (s : ℕ → ℕ) (n : ℕ) (F : (ℕ → ℕ) → A) (b : ℕ → ℕ) → up op e U s n 0 F b ≡ down op e U s n F b
  up_down U s zero F b = refl
  up_down U s (suc n) F b = last U s n 0 n F b (omega arith) ∙ one-congr (U n) (s n) n (up op e U s n 0 F) (down op e U s n F) b (λ c. up_down U s n F c)
