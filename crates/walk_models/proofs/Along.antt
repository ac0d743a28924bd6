-- In a world in which all colliders have the bit 0, one bit goes along the whole walk.
use Rattle.std.proofs.Common.{ℕ, zero, suc, ◌≡◌, ◌<◌, ◌≤◌, Bool, true, false, ltb, not, ◌&&◌, ◌||◌, refl, sym, ap, ◌∙◌, subst, arith, lt-ltb, le-ltb, inl, inr}
use Rattle.std.proofs.lemmas.Bool.{cases_lt}
use Rattle.m_separation.specs.declared.marks.Mark.{Mark}
use Rattle.m_separation.specs.declared.marks.Mark.TheVariants.{Out, Into, Both}
use Rattle.m_separation.specs.Vocabulary.{heads_first, heads_second}
use Rattle.walk_models.specs.Visits.{Walk, head_before, is_collider}
use Rattle.finite_models.specs.Vocabulary.{differ}
use Rattle.walk_models.specs.WalkModels.{coin, is_both, sent_on, sent_back, has_own, has_coin, bit_of, new_bit}

-- the bit that goes along an edge
abbrev pub edge_bit : Mark → (first second c : Bool) → Bool
edge_bit Out a b c = a
edge_bit Into a b c = b
edge_bit Both a b c = c

abbrev pub along : Walk → (t u : ℕ → ℕ) → ℕ → Bool
along p t u i = edge_bit (p.mark i) (bit_of p t i) (bit_of p t (suc i)) (coin u i)

one_side : (a v : Bool) → v ≡ differ a (differ false false) → a ≡ v
one_side true v is = sym is
one_side false v is = sym is

other_side : (e v : Bool) → v ≡ differ false (differ e false) → v ≡ e
other_side true v is = is
other_side false v is = is

both_sides : (a e v : Bool) → v ≡ differ a (differ e false) → v ≡ false → a ≡ e
both_sides true true v is z = refl
both_sides true false v is z = sym is ∙ z
both_sides false true v is z = sym z ∙ is
both_sides false false v is z = refl

-- one inner visit: the bits a, v, e of the visits before, here and after, and the coins c, d of the edges; f: a coin of its own
passes : (j k : Mark) (a v e c d f : Bool) → f ≡ false
    → v ≡ differ (sent_on j a c) (differ (sent_back k e d) ((not (heads_first k) && (not (heads_second j) || f)) && d))
    → ((heads_second j && heads_first k) ≡ true → v ≡ false) → edge_bit j a v c ≡ edge_bit k v e d
passes Out Out a v e c d false q is none = one_side a v is
passes Out Into a v e c d f q is none = both_sides a e v is (none refl)
passes Out Both a v e c d f q is none = both_sides a d v is (none refl)
passes Into Out a v e c d f q is none = refl
passes Into Into a v e c d f q is none = other_side e v is
passes Into Both a v e c d f q is none = other_side d v is
passes Both Out a v e c d false q is none = one_side c v is
passes Both Into a v e c d f q is none = both_sides c e v is (none refl)
passes Both Both a v e c d f q is none = both_sides c d v is (none refl)
passes j Out a v e c d true q is none = absurd (grind (arith, q))

module _ (p : Walk) (t u : ℕ → ℕ) where
  -- visit i + 1 passes the bit on: the edges before and after it have one bit
  pub passes_on : (i : ℕ) → suc i < p.steps → p.free (suc i) ≡ false → bit_of p t (suc i) ≡ new_bit p t u (suc i)
      → (is_collider p (suc i) ≡ true → bit_of p t (suc i) ≡ false) → along p t u i ≡ along p t u (suc i)
  passes_on i lt f is none =
      let low : ltb (suc i) p.steps ≡ true = lt-ltb (suc i) p.steps lt in
      passes (p.mark i) (p.mark (suc i)) (bit_of p t i) (bit_of p t (suc i)) (bit_of p t (suc (suc i))) (coin u i) (coin u (suc i)) (p.free (suc i)) f
      (is ∙ ap (λ q. differ (sent_on (p.mark i) (bit_of p t i) (coin u i)) (differ (q && sent_back (p.mark (suc i)) (bit_of p t (suc (suc i))) (coin u (suc i)))
      ((not (q && heads_first (p.mark (suc i))) && (not (heads_second (p.mark i)) || p.free (suc i))) && coin u (suc i)))) low)
      (λ e. none (rw low e))

  -- at the first visit, and at the last
  pub starts : 0 < p.steps → bit_of p t 0 ≡ new_bit p t u 0 → bit_of p t 0 ≡ along p t u 0
  starts lt is = go (p.mark 0) (bit_of p t 0) (bit_of p t 1) (coin u 0) (p.free 0)
      (is ∙ ap (λ q. differ false (differ (q && sent_back (p.mark 0) (bit_of p t 1) (coin u 0))
      ((not (q && heads_first (p.mark 0)) && (not false || p.free 0)) && coin u 0))) (lt-ltb 0 p.steps lt))
    where
      go : (k : Mark) (v e c f : Bool) → v ≡ differ false (differ (true && sent_back k e c) ((not (true && heads_first k) && (not false || f)) && c))
          → v ≡ edge_bit k v e c
      go Out v e c f i = refl
      go Into v e c f i = other_side e v i
      go Both v e c f i = other_side c v i

  pub arrives : (i : ℕ) → p.steps ≡ suc i → p.free (suc i) ≡ false → bit_of p t (suc i) ≡ new_bit p t u (suc i) → bit_of p t (suc i) ≡ along p t u i
  arrives i last f is = go (p.mark i) (bit_of p t i) (bit_of p t (suc i)) (coin u i) (coin u (suc i)) (p.free (suc i)) f
      (is ∙ ap (λ q. differ (sent_on (p.mark i) (bit_of p t i) (coin u i)) (differ (q && sent_back (p.mark (suc i)) (bit_of p t (suc (suc i))) (coin u (suc i)))
      ((not (q && heads_first (p.mark (suc i))) && (not (heads_second (p.mark i)) || p.free (suc i))) && coin u (suc i))))
      (le-ltb (suc i) p.steps (omega (arith, last))))
    where
      go : (k : Mark) (a v c d f : Bool) → f ≡ false → v ≡ differ (sent_on k a c) (differ false ((not false && (not (heads_second k) || f)) && d))
          → v ≡ edge_bit k a v c
      go Out a v c d false q is = sym (one_side a v is)
      go Into a v c d f q is = refl
      go Both a v c d false q is = sym (one_side c v is)
      go k a v c d true q is = absurd (grind (arith, q))

  -- a coin of its own shows in the bit of its visit
  pub own_shows : (i : ℕ) → i ≤ p.steps → p.free i ≡ false → has_own p i ≡ true → bit_of p t i ≡ new_bit p t u i → bit_of p t i ≡ coin u i
  own_shows zero le f own is = is ∙ go (ltb 0 p.steps) (p.mark 0) (bit_of p t 1) (coin u 0) own
    where
      go : (q : Bool) (k : Mark) (e c : Bool) → (not (q && heads_first k) && (not false || p.free 0)) ≡ true
          → differ false (differ (q && sent_back k e c) ((not (q && heads_first k) && (not false || p.free 0)) && c)) ≡ c
      go true Out e c h = refl
      go true Into e c h = absurd (grind (arith, h))
      go true Both e c h = absurd (grind (arith, h))
      go false k e c h = refl
  own_shows (suc i) le f own is = is ∙ go (ltb (suc i) p.steps) (p.mark i) (p.mark (suc i)) (bit_of p t i) (bit_of p t (suc (suc i))) (coin u i)
      (coin u (suc i)) (p.free (suc i)) f own
    where
      go : (q : Bool) (j k : Mark) (a e c d f : Bool) → f ≡ false → (not (q && heads_first k) && (not (heads_second j) || f)) ≡ true
          → differ (sent_on j a c) (differ (q && sent_back k e d) ((not (q && heads_first k) && (not (heads_second j) || f)) && d)) ≡ d
      go true Out k a e c d false z h = absurd (grind (arith, h))
      go true Both k a e c d false z h = absurd (grind (arith, h))
      go false Out k a e c d false z h = absurd (grind (arith, h))
      go false Both k a e c d false z h = absurd (grind (arith, h))
      go true Into Out a e c d false z h = refl
      go true Into Into a e c d false z h = absurd (grind (arith, h))
      go true Into Both a e c d false z h = absurd (grind (arith, h))
      go false Into k a e c d false z h = refl
      go q j k a e c d true z h = absurd (grind (arith, z))

  module _ (plain : (i : ℕ) → p.free i ≡ false) (is_new : (i : ℕ) → i < p.steps → bit_of p t i ≡ new_bit p t u i)
      (none : (i : ℕ) → i < p.steps → is_collider p i ≡ true → bit_of p t i ≡ false) where
    -- one bit goes along the whole walk
    pub one_bit : (i : ℕ) → i < p.steps → along p t u i ≡ bit_of p t 0
    one_bit zero lt = sym (starts lt (is_new 0 lt))
    one_bit (suc i) lt = sym (passes_on i lt (plain (suc i)) (is_new (suc i) lt) (none (suc i) lt)) ∙ one_bit i (omega (arith, lt))

    own_before : (i : ℕ) → i < p.steps → has_own p i ≡ true → coin u i ≡ bit_of p t 0
    own_before i lt own = sym (own_shows i (omega (arith, lt)) (plain i) own (is_new i lt))
        ∙ sym (tail (p.mark i) (bit_of p t i) (bit_of p t (suc i)) (coin u i)
        (no_head (ltb i p.steps) (heads_first (p.mark i)) (not (head_before p i) || p.free i) own (lt-ltb i p.steps lt))) ∙ one_bit i lt
      where
        tail : (k : Mark) (v e c : Bool) → heads_first k ≡ false → edge_bit k v e c ≡ v
        tail Out v e c h = refl
        tail Into v e c h = absurd (grind (arith, h))
        tail Both v e c h = absurd (grind (arith, h))

        no_head : (q r s : Bool) → (not (q && r) && s) ≡ true → q ≡ true → r ≡ false
        no_head true true s h e = absurd (grind (arith, h))
        no_head true false s h e = refl
        no_head false r s h e = absurd (grind (arith, e))

    -- and so has each coin before the last visit
    pub coins_before : (i : ℕ) → i < p.steps → has_coin p i ≡ true → coin u i ≡ bit_of p t 0
    coins_before i lt e = go (ltb i p.steps) (is_both (p.mark i)) refl refl e
      where
        both : (k : Mark) (v e c : Bool) → is_both k ≡ true → edge_bit k v e c ≡ c
        both Out v e c h = absurd (grind (arith, h))
        both Into v e c h = absurd (grind (arith, h))
        both Both v e c h = refl

        go : (q r : Bool) → ltb i p.steps ≡ q → is_both (p.mark i) ≡ r → ((q && r) || has_own p i) ≡ true → coin u i ≡ bit_of p t 0
        go true true l b h = sym (both (p.mark i) (bit_of p t i) (bit_of p t (suc i)) (coin u i) b) ∙ one_bit i lt
        go true false l b h = own_before i lt h
        go false r l b h = own_before i lt h

    module _ (is_last : bit_of p t p.steps ≡ new_bit p t u p.steps) where
      pub last_bit : (i : ℕ) → p.steps ≡ i → bit_of p t i ≡ bit_of p t 0
      last_bit zero e = refl
      last_bit (suc i) e = arrives i e (plain (suc i)) (subst (λ k. bit_of p t k ≡ new_bit p t u k) e is_last) ∙ one_bit i (omega (arith, e))

      -- and each coin
      pub coins : (i : ℕ) → i ≤ p.steps → has_coin p i ≡ true → coin u i ≡ bit_of p t 0
      coins i le e = elim (cases_lt i p.steps) [
        | inl lt ↦ coins_before i lt e
        | inr ge ↦ (let same : p.steps ≡ i = omega (arith, le, ge) in
            sym (own_shows i le (plain i) (own i ge e) (subst (λ k. bit_of p t k ≡ new_bit p t u k) same is_last)) ∙ last_bit i same)
      ]
        where
          own : (i : ℕ) → p.steps ≤ i → has_coin p i ≡ true → has_own p i ≡ true
          own i ge h = subst (λ q. ((q && is_both (p.mark i)) || has_own p i) ≡ true) (le-ltb i p.steps ge) h
