-- The used vertices of an implication, in three parts around the pair.
use Rattle.std.proofs.Common.{ℕ, zero, suc, ◌≡◌, ◌<◌, ◌≤◌, Bool, true, false, ◌&&◌, ◌||◌, not, cond, ltb, List, [], ◌∷◌, ◌++◌, length, get_or, All}
use Rattle.std.proofs.Common.{refl, sym, ap, ◌∙◌, inl, inr, arith}
use Rattle.std.specs.List.{AllPairs, filter}
use Rattle.std.proofs.lemmas.Bool.{cases_lt, cases_eq, lt-ltb, le-ltb, eq-eqb, ne_eqb}
use Rattle.std.proofs.lemmas.List.Elements.{All-head, All-tail, filter_agree}
use Rattle.mixed_graph.specs.Vocabulary.{has}
use Rattle.implications.specs.declared.pairs.Implication.{Implication}
use Rattle.implications.specs.Vocabulary.{only}
use Rattle.implied_differences.specs.Differences.{whole_of}
use Rattle.implied_differences.specs.Layouts.{between_pair, behind_pair}

-- the given vertices before the pair
abbrev pub before_pair : Implication → ℕ → Bool
before_pair i v = (has i.given.bits v && ltb v i.b) && ltb v i.a

filter_alike : (p q : ℕ → Bool) (vs : List ℕ) → All (λ v. p v ≡ q v) vs → filter p vs ≡ filter q vs
filter_alike p q [] h = refl
filter_alike p q (v ∷ vs) h =
    ap (λ b. cond b (v ∷ filter p vs) (filter p vs)) (All-head (λ u. p u ≡ q u) v vs h)
    ∙ ap (λ (l : List ℕ). cond (q v) (v ∷ l) l) (filter_alike p q vs (All-tail (λ u. p u ≡ q u) v vs h))

filter_none : (p : ℕ → Bool) (vs : List ℕ) → All (λ v. p v ≡ false) vs → filter p vs ≡ []
filter_none p [] h = refl
filter_none p (v ∷ vs) h =
    ap (λ b. cond b (v ∷ filter p vs) (filter p vs)) (All-head (λ u. p u ≡ false) v vs h) ∙ filter_none p vs (All-tail (λ u. p u ≡ false) v vs h)

pub ascending_tail : (v : ℕ) (vs : List ℕ) → AllPairs (λ a b. a < b) (v ∷ vs) → AllPairs (λ a b. a < b) vs
ascending_tail v vs h i j d less long = h (suc i) (suc j) d (omega arith) (omega arith)

ascending_head : (v : ℕ) (vs : List ℕ) → AllPairs (λ a b. a < b) (v ∷ vs) → All (λ u. v < u) vs
ascending_head v vs h i d lt = h zero (suc i) d (omega arith) (omega arith)

and_false : (b : Bool) → (b && false) ≡ false
and_false true = refl
and_false false = refl

and_true : (b : Bool) → (b && true) ≡ b
and_true true = refl
and_true false = refl

-- those below a number, and then the others
cut : (f : ℕ → Bool) (k : ℕ) (vs : List ℕ) → AllPairs (λ a b. a < b) vs → filter f vs ≡ filter (λ u. f u && ltb u k) vs ++ filter (λ u. f u && not (ltb u k)) vs
cut f k [] up = refl
cut f k (v ∷ vs) up = elim (cases_lt v k) [
  | inl lt ↦
      ap (λ (l : List ℕ). cond (f v) (v ∷ l) l) (cut f k vs (ascending_tail v vs up))
      ∙ below (f v) (ltb v k) (lt-ltb v k lt) (filter (λ u. f u && ltb u k) vs) (filter (λ u. f u && not (ltb u k)) vs)
  | inr le ↦
      let none = filter_none (λ u. f u && ltb u k) vs (λ i d less. ap (λ b. f (get_or vs i d) && b)
      (le-ltb (get_or vs i d) k (above v (get_or vs i d) le (ascending_head v vs up i d less)))
      ∙ and_false (f (get_or vs i d))) in
      ap (λ (l : List ℕ). cond (f v) (v ∷ l) l) (cut f k vs (ascending_tail v vs up))
      ∙ others (f v) (ltb v k) (le-ltb v k le) (filter (λ u. f u && ltb u k) vs) (filter (λ u. f u && not (ltb u k)) vs) none
]
  where
    above : (m n : ℕ) → k ≤ m → m < n → k ≤ n
    above m n p q = omega arith

    below : (b c : Bool) → c ≡ true → (xs ys : List ℕ)
        → ◌≡◌ {A = List ℕ} (cond b (v ∷ (xs ++ ys)) (xs ++ ys)) (cond (b && c) (v ∷ xs) xs ++ cond (b && not c) (v ∷ ys) ys)
    below b true e xs ys = go b
      where
        go : (d : Bool) → ◌≡◌ {A = List ℕ} (cond d (v ∷ (xs ++ ys)) (xs ++ ys)) (cond (d && true) (v ∷ xs) xs ++ cond (d && false) (v ∷ ys) ys)
        go true = refl
        go false = refl
    below b false e xs ys = absurd (cc e)

    others : (b c : Bool) → c ≡ false → (xs ys : List ℕ) → xs ≡ []
        → ◌≡◌ {A = List ℕ} (cond b (v ∷ (xs ++ ys)) (xs ++ ys)) (cond (b && c) (v ∷ xs) xs ++ cond (b && not c) (v ∷ ys) ys)
    others b true e xs ys none = absurd (cc e)
    others b false e xs ys none = rw none (go b)
      where
        go : (d : Bool) → ◌≡◌ {A = List ℕ} (cond d (v ∷ ys) ys) (cond (d && false) (v ∷ []) [] ++ cond (d && true) (v ∷ ys) ys)
        go true = refl
        go false = refl

-- the one that is at least v stands first, where v is one
first : (f : ℕ → Bool) (v : ℕ) (vs : List ℕ) (j : ℕ) → AllPairs (λ a b. a < b) vs → j < length vs → get_or vs j 0 ≡ v → f v ≡ true
    → filter (λ u. f u && not (ltb u v)) vs ≡ v ∷ filter (λ u. f u && not (ltb u (suc v))) vs
first f v [] j up lt e t = absurd (omega arith)
first f v (u ∷ us) zero up lt e t =
    let here : (f u && not (ltb u v)) ≡ true = ap (λ b. f u && not b) (le-ltb u v (omega arith)) ∙ and_true (f u) ∙ ap f e ∙ t in
    let there : (f u && not (ltb u (suc v))) ≡ false = ap (λ b. f u && not b) (lt-ltb u (suc v) (omega arith)) ∙ and_false (f u) in
    let rest = filter_alike (λ w. f w && not (ltb w v)) (λ w. f w && not (ltb w (suc v))) us (λ i d less.
    (let up' = ascending_head u us up i d less in
    ap (λ b. f (get_or us i d) && not b) (le-ltb (get_or us i d) v (most (get_or us i d) e up')
    ∙ sym (le-ltb (get_or us i d) (suc v) (more (get_or us i d) e up'))))) in
    ap (λ b. cond b (u ∷ filter (λ w. f w && not (ltb w v)) us) (filter (λ w. f w && not (ltb w v)) us)) here
    ∙ ap (λ n. n ∷ filter (λ w. f w && not (ltb w v)) us) e ∙ ap (λ (l : List ℕ). v ∷ l) rest
    ∙ sym (ap (λ b. v ∷ cond b (u ∷ filter (λ w. f w && not (ltb w (suc v))) us) (filter (λ w. f w && not (ltb w (suc v))) us)) there)
  where
    most : (n : ℕ) → u ≡ v → u < n → v ≤ n
    most n same less = omega arith

    more : (n : ℕ) → u ≡ v → u < n → suc v ≤ n
    more n same less = omega arith
first f v (u ∷ us) (suc j) up lt e t =
    let less : u < v = lower (get_or us j 0) e (up zero (suc j) 0 (omega arith) (omega arith)) in
    let here : (f u && not (ltb u v)) ≡ false = ap (λ b. f u && not b) (lt-ltb u v less) ∙ and_false (f u) in
    let there : (f u && not (ltb u (suc v))) ≡ false = ap (λ b. f u && not b) (lt-ltb u (suc v) (omega arith)) ∙ and_false (f u) in
    ap (λ b. cond b (u ∷ filter (λ w. f w && not (ltb w v)) us) (filter (λ w. f w && not (ltb w v)) us)) here
    ∙ first f v us j (ascending_tail u us up) (omega arith) e t
    ∙ sym (ap (λ b. v ∷ cond b (u ∷ filter (λ w. f w && not (ltb w (suc v))) us) (filter (λ w. f w && not (ltb w (suc v))) us)) there)
  where
    lower : (n : ℕ) → n ≡ v → u < n → u < v
    lower n same less = omega arith

-- ---- the parts of an implication

module _ (i : Implication) (vs : List ℕ) (up : AllPairs (λ u v. u < v) vs) where
  pub given_parts : filter (has i.given.bits) vs ≡ (filter (before_pair i) vs ++ filter (between_pair i) vs) ++ filter (behind_pair i) vs
  given_parts =
      cut (has i.given.bits) i.b vs up
      ∙ ap (λ (l : List ℕ). l ++ filter (behind_pair i) vs) (cut (λ u. has i.given.bits u && ltb u i.b) i.a vs up)

  module _ (order : i.a < i.b) (a_apart : has i.given.bits i.a ≡ false) (b_apart : has i.given.bits i.b ≡ false) (j k : ℕ)
      (j_in : j < length vs) (j_is : get_or vs j 0 ≡ i.a) (k_in : k < length vs) (k_is : get_or vs k 0 ≡ i.b) where
    whole_a : (whole_of i i.a && ltb i.a i.b) ≡ true
    whole_a = ap (λ b. (b || (only i.b i.a || has i.given.bits i.a)) && ltb i.a i.b) (eq-eqb i.a i.a refl) ∙ lt-ltb i.a i.b order

    whole_b : whole_of i i.b ≡ true
    whole_b = ap (λ b. only i.a i.b || (b || has i.given.bits i.b)) (eq-eqb i.b i.b refl) ∙ always (only i.a i.b)
      where
        always : (b : Bool) → (b || true) ≡ true
        always true = refl
        always false = refl

    -- another vertex is in the whole exactly if it is given
    other : (v : ℕ) → (v ≡ i.a → ⊥) → (v ≡ i.b → ⊥) → whole_of i v ≡ has i.given.bits v
    other v na nb = ap (λ b. b || (only i.b v || has i.given.bits v)) (ne_eqb v i.a na) ∙ ap (λ b. b || has i.given.bits v) (ne_eqb v i.b nb)

    last_same : (v : ℕ) → (whole_of i v && not (ltb v (suc i.b))) ≡ behind_pair i v
    last_same v = elim (cases_lt v i.b) [
      | inl lt ↦
          ap (λ b. whole_of i v && not b) (lt-ltb v (suc i.b) (omega arith)) ∙ and_false (whole_of i v)
          ∙ sym (ap (λ b. has i.given.bits v && not b) (lt-ltb v i.b lt) ∙ and_false (has i.given.bits v))
      | inr le ↦ elim (cases_eq v i.b) [
        | inl e ↦
            ap (λ b. whole_of i v && not b) (lt-ltb v (suc i.b) (omega arith)) ∙ and_false (whole_of i v)
            ∙ sym (ap (λ b. b && not (ltb v i.b)) (ap (has i.given.bits) e ∙ b_apart))
        | inr ne ↦
            ap (λ b. whole_of i v && not b) (le-ltb v (suc i.b) (omega (arith, ne)))
            ∙ ap (λ b. b && true) (other v (λ e. omega (arith, e, order)) ne)
            ∙ sym (ap (λ b. has i.given.bits v && not b) (le-ltb v i.b le))
      ]
    ]

    middle_same : (v : ℕ) → ((whole_of i v && ltb v i.b) && not (ltb v (suc i.a))) ≡ between_pair i v
    middle_same v = elim (cases_lt v i.a) [
      | inl lt ↦
          ap (λ b. (whole_of i v && ltb v i.b) && not b) (lt-ltb v (suc i.a) (omega arith)) ∙ and_false (whole_of i v && ltb v i.b)
          ∙ sym (ap (λ b. (has i.given.bits v && ltb v i.b) && not b) (lt-ltb v i.a lt) ∙ and_false (has i.given.bits v && ltb v i.b))
      | inr le ↦ elim (cases_eq v i.a) [
        | inl e ↦
            ap (λ b. (whole_of i v && ltb v i.b) && not b) (lt-ltb v (suc i.a) (omega arith)) ∙ and_false (whole_of i v && ltb v i.b)
            ∙ sym (ap (λ b. (b && ltb v i.b) && not (ltb v i.a)) (ap (has i.given.bits) e ∙ a_apart))
        | inr ne ↦ elim (cases_lt v i.b) [
          | inl less ↦
              ap (λ b. (whole_of i v && ltb v i.b) && not b) (le-ltb v (suc i.a) (omega (arith, ne)))
              ∙ ap (λ b. (b && ltb v i.b) && true) (other v ne (λ e. omega (arith, e, less)))
              ∙ sym (ap (λ b. (has i.given.bits v && ltb v i.b) && not b) (le-ltb v i.a le))
          | inr more ↦
              ap (λ b. (whole_of i v && b) && not (ltb v (suc i.a))) (le-ltb v i.b more) ∙ ap (λ b. b && not (ltb v (suc i.a))) (and_false (whole_of i v))
              ∙ sym (ap (λ b. (has i.given.bits v && b) && not (ltb v i.a)) (le-ltb v i.b more)
              ∙ ap (λ b. b && not (ltb v i.a)) (and_false (has i.given.bits v)))
        ]
      ]
    ]

    front_same : (v : ℕ) → ((whole_of i v && ltb v i.b) && ltb v i.a) ≡ before_pair i v
    front_same v = elim (cases_lt v i.a) [
      | inl lt ↦ ap (λ b. (b && ltb v i.b) && ltb v i.a) (other v (λ e. omega (arith, e, lt)) (λ e. omega (arith, e, lt, order)))
      | inr le ↦
          ap (λ b. (whole_of i v && ltb v i.b) && b) (le-ltb v i.a le) ∙ and_false (whole_of i v && ltb v i.b)
          ∙ sym (ap (λ b. (has i.given.bits v && ltb v i.b) && b) (le-ltb v i.a le) ∙ and_false (has i.given.bits v && ltb v i.b))
    ]

    pub whole_parts : filter (whole_of i) vs ≡ (filter (before_pair i) vs ++ i.a ∷ filter (between_pair i) vs) ++ i.b ∷ filter (behind_pair i) vs
    whole_parts =
        let front = filter_agree (λ v. (whole_of i v && ltb v i.b) && ltb v i.a) (before_pair i) front_same vs in
        let middle = first (λ v. whole_of i v && ltb v i.b) i.a vs j up j_in j_is whole_a
        ∙ ap (λ (l : List ℕ). i.a ∷ l) (filter_agree (λ v. (whole_of i v && ltb v i.b) && not (ltb v (suc i.a))) (between_pair i) middle_same vs) in
        let last = first (whole_of i) i.b vs k up k_in k_is whole_b
        ∙ ap (λ (l : List ℕ). i.b ∷ l) (filter_agree (λ v. whole_of i v && not (ltb v (suc i.b))) (behind_pair i) last_same vs) in
        cut (whole_of i) i.b vs up
        ∙ ap (λ (l : List ℕ). l ++ filter (λ v. whole_of i v && not (ltb v i.b)) vs) (cut (λ v. whole_of i v && ltb v i.b) i.a vs up ∙ two front middle)
        ∙ ap (λ (l : List ℕ). (filter (before_pair i) vs ++ i.a ∷ filter (between_pair i) vs) ++ l) last
      where
        two : {xs xs' ys ys' : List ℕ} → xs ≡ xs' → ys ≡ ys' → xs ++ ys ≡ xs' ++ ys'
        two {xs} {xs'} {ys} {ys'} e f = ap (λ (l : List ℕ). l ++ ys) e ∙ ap (λ (l : List ℕ). xs' ++ l) f
