-- The two models of a hedge are a leaf pair for its target, where all members of small in the target are roots.
use Rattle.std.proofs.Common.{ℕ, zero, suc, ◌/◌, ◌%◌, ◌≡◌, ◌<◌, Bool, true, false, cond, eqb, not, refl, sym, ap, ap₂, ◌∙◌, ◌&&◌, subst, arith, eqb-true}
use Rattle.std.proofs.lemmas.Bool.{and_from, false_from_ne_true}
use Rattle.mixed_graph.specs.Vocabulary.{MixedGraph, IsMixedGraph}
use Rattle.finite_models.specs.Vocabulary.{set_at, FiniteModel, IsAssignment, solution, intervene, differ}
use Rattle.finite_models.proofs.Bools.{and_first, and_second, not_both}
use Rattle.finite_models.proofs.Following.{follows_of, follows_intervene}
use Rattle.finite_models.proofs.Indicators.{number}
use Rattle.finite_models.proofs.Ranks.{with_rank}
use Rattle.finite_models.proofs.Solutions.{IsRanked, solution_is}
use Rattle.counter_models.specs.Vocabulary.{bit, chosen, ParityHedge, IsWholeHedge, outsider, value, hedge_bit, carried_bit, world_bit, at_first, at_second, chooses, first_bit, second_bit, carries, top_bit, first_mechanism, second_mechanism, first_model, size_of}
use Rattle.counter_models.proofs.Counter.{hedge_of}
use Rattle.counter_models.proofs.ParityLaws.{odd-congr}
use Rattle.counter_models.proofs.Truths.{not_true}
use Rattle.counter_models.proofs.Witness.{fit_one, fit_two, positive_one, positive_two, agree_observed}
use Rattle.conditional_id.proofs.Served.{parity_two}
use Rattle.conditional_id.specs.HedgeLaws.{with_mechanism, IsLeafPair}

-- the bit of a value that other vertices read
abbrev pub read_bit : ParityHedge → ℕ → ℕ → Bool
read_bit d v a = outsider d v && bit (a % 2)

-- what is chosen counts alone
chosen_same : (n : ℕ) (C : ℕ → Bool) (choice : ℕ → ℕ) (p r : ℕ → Bool) (v : ℕ) → ((u : ℕ) → u < n → C u ≡ true → eqb v (choice u) ≡ true → p u ≡ r u)
    → chosen n C choice p v ≡ chosen n C choice r v
chosen_same n C choice p r v h = odd-congr n (λ u. C u && (eqb v (choice u) && p u)) (λ u. C u && (eqb v (choice u) && r u))
    (λ u lt. go (C u) (eqb v (choice u)) (h u lt))
  where
    go : (a b : Bool) {p r : Bool} → (a ≡ true → b ≡ true → p ≡ r) → (a && (b && p)) ≡ (a && (b && r))
    go true true h = h refl refl
    go true false h = refl
    go false b h = refl

same_numbers : (p r : Bool) → number p ≡ number r → p ≡ r
same_numbers true true e = refl
same_numbers true false e = absurd (omega (arith, e))
same_numbers false true e = absurd (omega (arith, e))
same_numbers false false e = refl

module _ (g : MixedGraph) (ok : IsMixedGraph g) (x : ℕ → Bool) (d : ParityHedge) (whole : IsWholeHedge g x d)
    (all_roots : (v : ℕ) → d.small v ≡ true → d.target v ≡ true → d.roots v ≡ true) where
  abbrev One : FiniteModel
  One = first_model g.vertices d

  abbrev Two : FiniteModel
  Two = with_mechanism (first_model g.vertices d) (second_mechanism g.vertices d)

  module _ (w a b : ℕ) (inside : d.target w ≡ true) (same : read_bit d w a ≡ read_bit d w b) (s u : ℕ → ℕ) where
    -- a member of the target that chooses is outside small
    chooser : (A : ℕ → Bool) → ((v : ℕ) → A v ≡ true → d.big v ≡ true) → (v : ℕ) → chooses d A v ≡ true
        → hedge_bit d (set_at s w a) v ≡ hedge_bit d (set_at s w b) v
    chooser A low v e = go (eqb v w) refl
      where
        roots : d.roots v ≡ false
        roots = not_true (d.roots v) (and_second (A v) (not (d.roots v)) e)

        small : v ≡ w → d.small v ≡ false
        small k = false_from_ne_true (d.small v) (λ i. not_both (d.roots v) (all_roots v i (ap d.target k ∙ inside)) roots)

        out : v ≡ w → outsider d v ≡ true
        out k = and_from (d.big v) (not (d.small v)) (low v (and_first (A v) (not (d.roots v)) e)) (rw (small k) refl)

        go : (p : Bool) → eqb v w ≡ p → bit (cond (eqb v w) a (s v) % 2) ≡ bit (cond (eqb v w) b (s v) % 2)
        go true f = let k : v ≡ w = eqb-true v w f in rw f (bits (outsider d w) (ap (outsider d) (sym k) ∙ out k) same)
          where
            bits : (p : Bool) → p ≡ true → (p && bit (a % 2)) ≡ (p && bit (b % 2)) → bit (a % 2) ≡ bit (b % 2)
            bits true e h = h
            bits false e h = absurd (grind (arith, e))
        go false f = rw f refl

    carrier : (v : ℕ) → carries d v ≡ true → carried_bit d (set_at s w a) v ≡ carried_bit d (set_at s w b) v
    carrier v e = go (eqb v w) refl
      where
        go : (p : Bool) → eqb v w ≡ p
            → cond (d.big v) (bit (cond (eqb v w) a (s v) / 2)) (bit (cond (eqb v w) a (s v))) ≡ cond (d.big v) (bit (cond (eqb v w) b (s v) / 2))
            (bit (cond (eqb v w) b (s v)))
        go true f = absurd (not_both (d.target v) (ap d.target (eqb-true v w f) ∙ inside) (not_true (d.target v) (and_second (d.kept v) (not (d.target v)) e)))
        go false f = rw f refl

    top_same : (v : ℕ) (h : Bool) → top_bit g.vertices d (set_at s w a) u h v ≡ top_bit g.vertices d (set_at s w b) u h v
    top_same v h = ap (λ k. differ k (differ (d.roots v && h) (world_bit u (d.kept_cause v))))
        (chosen_same g.vertices (carries d) d.carry (carried_bit d (set_at s w a)) (carried_bit d (set_at s w b)) v (λ i lt e f. carrier i e))

    first_same : (v : ℕ) → first_bit g.vertices d (set_at s w a) u v ≡ first_bit g.vertices d (set_at s w b) u v
    first_same v = ap (λ k. differ k (at_first d (world_bit u) v))
        (chosen_same g.vertices (chooses d d.big) d.choice (hedge_bit d (set_at s w a)) (hedge_bit d (set_at s w b)) v
        (λ i lt e f. chooser d.big (λ j k. k) i e))

    second_same : (v : ℕ) → second_bit g.vertices d (set_at s w a) u v ≡ second_bit g.vertices d (set_at s w b) u v
    second_same v = ap₂ (λ i j. cond (d.small v) i j)
        (ap (λ k. differ k (at_second d (world_bit u) v))
        (chosen_same g.vertices (chooses d d.small) d.choice (hedge_bit d (set_at s w a)) (hedge_bit d (set_at s w b)) v
        (λ i lt e f. chooser d.small whole.hedge.small_big i e)))
        (first_same v)

    pub first_values : (v : ℕ) → first_mechanism g.vertices d v (set_at s w a) u ≡ first_mechanism g.vertices d v (set_at s w b) u
    first_values v = ap₂ (λ i j. value (d.big v) (d.kept v) i j) (first_same v)
        (top_same v (first_bit g.vertices d (set_at s w a) u v) ∙ ap (λ k. top_bit g.vertices d (set_at s w b) u k v) (first_same v))

    pub second_values : (v : ℕ) → second_mechanism g.vertices d v (set_at s w a) u ≡ second_mechanism g.vertices d v (set_at s w b) u
    second_values v = ap₂ (λ i j. value (d.big v) (d.kept v) i j) (second_same v)
        (top_same v (second_bit g.vertices d (set_at s w a) u v) ∙ ap (λ k. top_bit g.vertices d (set_at s w b) u k v) (second_same v))

  -- the hedge bits of big outside small are the same in both models
  module _ (s u : ℕ → ℕ) (within : IsAssignment g.vertices (size_of d) s) (rank : ℕ → ℕ) (ranked : IsRanked g rank) where
    abbrev one : ℕ → ℕ
    one = solution (intervene One x s) u

    abbrev two : ℕ → ℕ
    two = solution (intervene Two x s) u

    one_is : (v : ℕ) → v < g.vertices → one v ≡ cond (x v) (s v) (first_mechanism g.vertices d v one u)
    one_is v lt = solution_is g (intervene One x s) rank ranked (follows_intervene g One x s within (follows_of g One (fit_one g ok x d whole))) u v lt

    two_is : (v : ℕ) → v < g.vertices → two v ≡ cond (x v) (s v) (second_mechanism g.vertices d v two u)
    two_is v lt = solution_is g (intervene Two x s) rank ranked (follows_intervene g Two x s within (follows_of g Two (fit_two g ok x d whole))) u v lt

    outsiders : (k v : ℕ) → v < g.vertices → rank v < k → outsider d v ≡ true → hedge_bit d one v ≡ hedge_bit d two v
    outsiders zero v low lt e = absurd (omega (arith, lt))
    outsiders (suc k) v low lt e = go (x v) refl (λ i il l o. outsiders k i il l o)
      where
        big : d.big v ≡ true
        big = and_first (d.big v) (not (d.small v)) e

        small : d.small v ≡ false
        small = not_true (d.small v) (and_second (d.big v) (not (d.small v)) e)

        bit_of : (q : Bool) → q ≡ true → (i j l : Bool) → bit (value q i j l % 2) ≡ j
        bit_of true f i j l = hedge_of i j l
        bit_of false f i j l = absurd (grind (arith, f))

        chosen_alike : ((i : ℕ) → i < g.vertices → rank i < k → outsider d i ≡ true → hedge_bit d one i ≡ hedge_bit d two i)
            → first_bit g.vertices d one u v ≡ first_bit g.vertices d two u v
        chosen_alike ih = ap (λ i. differ i (at_first d (world_bit u) v))
            (chosen_same g.vertices (chooses d d.big) d.choice (hedge_bit d one) (hedge_bit d two) v (λ i il c f. earlier i il c (eqb-true v (d.choice i) f)))
          where
            earlier : (i : ℕ) → i < g.vertices → chooses d d.big i ≡ true → v ≡ d.choice i → hedge_bit d one i ≡ hedge_bit d two i
            earlier i il c same =
                let b : d.big i ≡ true = and_first (d.big i) (not (d.roots i)) c in
                let r : d.roots i ≡ false = not_true (d.roots i) (and_second (d.big i) (not (d.roots i)) c) in
                let n : d.small i ≡ false = false_from_ne_true (d.small i)
                (λ f. not_both (d.small v) (ap d.small same ∙ whole.hedge.choice_small i f r) small) in
                let up : rank i < rank (d.choice i) = ranked.rises i (d.choice i) (whole.hedge.choice_arrow i b r) in
                ih i il (omega (arith, lt, subst (λ j. rank i < rank j) (sym same) up)) (and_from (d.big i) (not (d.small i)) b (rw n refl))

        value_one : x v ≡ false → one v ≡ first_mechanism g.vertices d v one u
        value_one f = one_is v low ∙ (rw f refl)

        value_two : x v ≡ false → two v ≡ second_mechanism g.vertices d v two u
        value_two f = two_is v low ∙ (rw f refl)

        done_one : x v ≡ true → one v ≡ s v
        done_one f = one_is v low ∙ (rw f refl)

        done_two : x v ≡ true → two v ≡ s v
        done_two f = two_is v low ∙ (rw f refl)

        second_is : second_bit g.vertices d two u v ≡ first_bit g.vertices d two u v
        second_is = rw small refl

        go : (q : Bool) → x v ≡ q → ((i : ℕ) → i < g.vertices → rank i < k → outsider d i ≡ true → hedge_bit d one i ≡ hedge_bit d two i)
            → hedge_bit d one v ≡ hedge_bit d two v
        go true f ih = ap (λ i. bit (i % 2)) (done_one f ∙ sym (done_two f))
        go false f ih = ap (λ i. bit (i % 2)) (value_one f)
            ∙ bit_of (d.big v) big (d.kept v) (first_bit g.vertices d one u v) (top_bit g.vertices d one u (first_bit g.vertices d one u v) v)
            ∙ chosen_alike ih ∙ sym second_is
            ∙ sym (ap (λ i. bit (i % 2)) (value_two f) ∙ bit_of (d.big v) big (d.kept v) (second_bit g.vertices d two u v)
            (top_bit g.vertices d two u (second_bit g.vertices d two u v) v))

  same_classes : (s u : ℕ → ℕ) → IsAssignment g.vertices (size_of d) s → (v : ℕ) → v < g.vertices
      → read_bit d v (solution (intervene One x s) u v) ≡ read_bit d v (solution (intervene Two x s) u v)
  same_classes s u within v lt = same_numbers (read_bit d v (solution (intervene One x s) u v)) (read_bit d v (solution (intervene Two x s) u v))
      (with_rank g ok (number (read_bit d v (solution (intervene One x s) u v))) (number (read_bit d v (solution (intervene Two x s) u v)))
      (λ rank ranked. ap number (go (outsider d v) refl (λ e. outsiders s u within rank ranked (suc (rank v)) v lt (omega arith) e))))
    where
      go : (p : Bool) → outsider d v ≡ p → {i j : Bool} → (outsider d v ≡ true → i ≡ j) → (outsider d v && i) ≡ (outsider d v && j)
      go true e h = ap (λ k. outsider d v && k) (h e)
      go false e h = rw e refl

  pub leaf_pair : IsLeafPair g x d.target (first_model g.vertices d) (second_mechanism g.vertices d) (read_bit d)
  leaf_pair = record {
    first_fits = fit_one g ok x d whole;
    second_fits = fit_two g ok x d whole;
    first_positive = positive_one g ok x d whole;
    second_positive = positive_two g ok x d whole;
    two = parity_two g ok x d whole;
    observed = agree_observed g ok x d whole;
    first_alike = λ w a b i al bl same v s u lt. first_values w a b i same s u v;
    second_alike = λ w a b i al bl same v s u lt. second_values w a b i same s u v;
    classes = λ s u within v lt i. same_classes s u within v lt;
  }
