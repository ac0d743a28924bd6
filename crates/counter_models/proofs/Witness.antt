-- An assignment at which the effects differ.
use Rattle.std.proofs.Common.{ℕ, zero, suc, ◌+◌, ◌-◌, ◌*◌, ◌/◌, ◌^◌, ◌≡◌, ◌<◌, ◌≤◌, inl, inr, Bool, true, false, cond, eqb, not, refl, sym, ap, ap₂}
use Rattle.std.proofs.Common.{◌∙◌, arith, eqb-true, eq-eqb}
use Rattle.std.proofs.Math.Nat.{mul-div_cancel}
use native.Mathlib.Nat.{pow-zero, pow-suc}
use Rattle.mixed_graph.specs.Vocabulary.{MixedGraph, IsMixedGraph}
use Rattle.finite_models.specs.Vocabulary.{sum_over, FiniteModel, IsAssignment, IsPositiveModel, event_weight, weight_of, total, Fits, AgreeObserved, AgreeUnder}
use Rattle.finite_models.proofs.Following.{Follows}
use Rattle.finite_models.proofs.Bools.{not_both}
use Rattle.finite_models.proofs.Indicators.{number}
use Rattle.finite_models.proofs.Ranks.{with_rank}
use Rattle.finite_models.proofs.SumLaws.{over-base, over-term}
use Rattle.counter_models.specs.Hedges.{ParityHedge, IsWholeHedge, links_of, noise_of}
use Rattle.counter_models.specs.ParityPairs.{first_model, second_model, first_mechanism, second_mechanism, serves_of, size_of, event_even}
use Rattle.counter_models.specs.ParityExperiments.{IsHarmless}
use Rattle.counter_models.specs.ParityLaws.{DifferAt, DifferAtEach}
use Rattle.counter_models.proofs.Under.{LeavesAgreement, under_agrees}
use Rattle.counter_models.proofs.CounterFits.{first_fits, second_fits}
use Rattle.counter_models.proofs.CounterPositive.{second_positive}
use Rattle.counter_models.proofs.Differs.{effects_differ}
use Rattle.counter_models.proofs.Effects.{first_event, second_event}
use Rattle.counter_models.proofs.Ends.{Found, over-find, stated}
use Rattle.counter_models.proofs.Sound.{fits_of}
use Rattle.counter_models.proofs.Wholes.{total_whole, total_powers}

product_positive : (a b : ℕ) → 1 ≤ a → 1 ≤ b → 1 ≤ a * b
product_positive zero b la lb = absurd (omega arith)
product_positive (suc a) b la lb = let e : suc a * b ≡ b + a * b = omega arith in omega arith

power_positive : (b k : ℕ) → 1 ≤ b → 1 ≤ b ^ k
power_positive b zero h = rw (pow-zero b) (omega arith)
power_positive b (suc k) h = rw (pow-suc b k) (product_positive (b ^ k) b (power_positive b k h) h)

unequal : (p q : ℕ) → 1 ≤ number (not (eqb p q)) → p ≡ q → ⊥
unequal p q some e = let t : eqb p q ≡ true = eq-eqb p q e in let z : number (not (eqb p q)) ≡ 0 = rw t refl in omega (arith, z, some)

module _ (g : MixedGraph) (is_graph : IsMixedGraph g) (x : ℕ → Bool) (d : ParityHedge) (ok : IsWholeHedge g x d) where
  abbrev One : FiniteModel
  One = first_model g.vertices d

  abbrev Two : FiniteModel
  Two = second_model g.vertices d

  follows_one : Follows g One
  follows_one = first_fits g x d ok.hedge ok.numbered is_graph ok.inner_joined ok.outer_joined

  follows_two : Follows g Two
  follows_two = second_fits g x d ok.hedge ok.numbered is_graph ok.inner_joined ok.outer_joined

  -- the first model fits the graph
  pub fit_one : Fits g One
  fit_one = fits_of g x d ok (first_mechanism g.vertices d) follows_one

  -- the second model fits the graph
  pub fit_two : Fits g Two
  fit_two = fits_of g x d ok (second_mechanism g.vertices d) follows_two

  under : (z : ℕ → Bool) (root : ℕ) → LeavesAgreement d z root → (s : ℕ → ℕ) → IsAssignment g.vertices (size_of d) s
      → weight_of One z (λ v. true) s ≡ weight_of Two z (λ v. true) s
  under z root leaves s within = with_rank g is_graph (weight_of One z (λ v. true) s) (weight_of Two z (λ v. true) s)
      (λ rank ranked. under_agrees g x d ok.hedge ok.tree is_graph s z root leaves rank ranked (serves_of d) follows_one follows_two within)

  observed : (s : ℕ → ℕ) → IsAssignment g.vertices (size_of d) s → event_weight One (λ v. true) s ≡ event_weight Two (λ v. true) s
  observed = under (λ v. false) 0 (inl (λ v inside. refl))

  -- the two models give each observation the same probability
  pub agree_observed : AgreeObserved One Two
  agree_observed = record { vertices = refl; sizes = λ v lt. refl; weights = λ s within. ap (λ r. r * total Two) (observed s within) }

  -- and each assignment under an intervention that leaves big alone, or sets some member of small
  pub agree_under : (z : ℕ → Bool) → IsHarmless d z → AgreeUnder z One Two
  agree_under z harmless = record { vertices = refl; sizes = λ v lt. refl; weights = λ s within. ap (λ r. r * total Two) (go harmless s within) }
    where
      go : IsHarmless d z → (s : ℕ → ℕ) → IsAssignment g.vertices (size_of d) s → weight_of One z (λ v. true) s ≡ weight_of Two z (λ v. true) s
      go (inl h) = under z 0 (inl h)
      go (inr h) = under z h.0 (inr (h.1, h.2))

  -- the second model gives each assignment a positive weight
  pub positive_two : IsPositiveModel Two
  positive_two s within = from (event_weight Two (λ v. true) s)
      (with_rank g is_graph (1 - event_weight Two (λ v. true) s) 0
      (λ rank ranked. to (event_weight Two (λ v. true) s) (second_positive g x d ok.hedge ok.tree ok.numbered s within rank ranked (serves_of d) follows_two)))
    where
      from : (e : ℕ) → 1 - e ≡ 0 → 1 ≤ e
      from e h = omega arith

      to : (e : ℕ) → 1 ≤ e → 1 - e ≡ 0
      to e h = omega arith

  -- the first model gives each assignment a positive weight
  pub positive_one : IsPositiveModel One
  positive_one s within = rw (observed s within) (positive_two s within)

  module _ (a : ℕ → ℕ) (within : IsAssignment g.vertices (size_of d) a) where
    -- under do(x) the carried bits in the target have an even sum with probability 1 / 2 in the first model
    pub half : 2 * event_even One d x a ≡ total One
    half = with_rank g is_graph (2 * event_even One d x a) (total One)
        (λ rank ranked. first_event g x d ok.hedge rank is_graph ranked (serves_of d) a within follows_one
        ∙ sym (total_whole g.vertices d (serves_of d) (first_mechanism g.vertices d)))

    -- and with probability 1 / 2 + 1 / 2 ^ (noise + 1) in the second
    pub more : 2 ^ (noise_of d + 1) * event_even Two d x a ≡ (2 ^ noise_of d + 1) * total Two
    more = with_rank g is_graph (2 ^ (noise_of d + 1) * event_even Two d x a) ((2 ^ noise_of d + 1) * total Two)
        (λ rank ranked. stated (links_of d) (noise_of d) (event_even Two d x a) (total Two)
        (total_powers g.vertices d (serves_of d) (second_mechanism g.vertices d) ok.hedge.links_low)
        (second_event g x d ok.hedge rank is_graph ranked (serves_of d) a within follows_two ok.once
        ∙ ap₂ (λ p q. p + 2 ^ q) (sym (total_whole g.vertices d (serves_of d) (second_mechanism g.vertices d)))
        (let l = ok.hedge.links_low in let e : d.causes ≡ links_of d + noise_of d = omega arith in e)))

    abbrev unlike : (ℕ → ℕ) → ℕ
    unlike s = number (not (eqb (weight_of One x d.target s) (weight_of Two x d.target s)))

    some_unlike : 1 ≤ sum_over d.target (size_of d) g.vertices unlike a
    some_unlike = go (sum_over d.target (size_of d) g.vertices unlike a) refl
      where
        alike : (p q : ℕ) → number (not (eqb p q)) ≤ 0 → p ≡ q
        alike p q le = at (eqb p q) refl
          where
            at : (b : Bool) → eqb p q ≡ b → p ≡ q
            at true e = eqb-true p q e
            at false e = let z : number (not (eqb p q)) ≡ 1 = rw e refl in absurd (omega (arith, z, le))

        none : sum_over d.target (size_of d) g.vertices unlike a ≡ 0 → (s : ℕ → ℕ) → ((i : ℕ) → i < g.vertices → d.target i ≡ true → s i < size_of d i)
            → ((i : ℕ) → (i < g.vertices → d.target i ≡ true → ⊥) → s i ≡ a i)
            → weight_of One x d.target s ≡ weight_of Two x d.target s
        none z s inside same = alike (weight_of One x d.target s) (weight_of Two x d.target s)
            (let t = over-term d.target (size_of d) g.vertices unlike s inside in
            let e : sum_over d.target (size_of d) g.vertices unlike s ≡ 0 = over-base d.target (size_of d) g.vertices unlike s a same ∙ z in
            omega (arith, t, e))

        go : (k : ℕ) → sum_over d.target (size_of d) g.vertices unlike a ≡ k → 1 ≤ sum_over d.target (size_of d) g.vertices unlike a
        go zero z = absurd (let wrong : 0 ≡ 1 = with_rank g is_graph 0 1 (λ rank ranked.
            absurd (effects_differ g x d ok.hedge rank is_graph ranked (serves_of d) follows_one follows_two ok.once ok.target_outside a within (none z))) in
            omega arith)
        go (suc k) z = rw z (omega arith)

    found : Found d.target (size_of d) g.vertices unlike a
    found = over-find d.target (size_of d) g.vertices unlike a some_unlike

    pub differ_at : DifferAt One Two x d.target
    differ_at = record {
      at = found.point;
      within = λ v lt. low v lt (d.target v) refl;
      unequal = λ e. apart (weight_of One x d.target found.point) (weight_of Two x d.target found.point) (total Two) total_positive found.some e;
    }
      where
        low : (v : ℕ) → v < g.vertices → (c : Bool) → d.target v ≡ c → found.point v < size_of d v
        low v lt true e = found.inside v lt e
        low v lt false e = rw (found.same v (λ l t. absurd (grind (arith, t, e)))) (within v lt)

        total_positive : 1 ≤ total Two
        total_positive = rw (total_powers g.vertices d (serves_of d) (second_mechanism g.vertices d) ok.hedge.links_low)
            (product_positive (2 ^ links_of d) (4 ^ noise_of d) (power_positive 2 (links_of d) (omega arith)) (power_positive 4 (noise_of d) (omega arith)))

        apart : (p q t : ℕ) → 1 ≤ t → 1 ≤ number (not (eqb p q)) → p * t ≡ q * t → ⊥
        apart p q t pos some e = unequal p q some (sym (mul-div_cancel p pos) ∙ ap (λ r. r / t) e ∙ mul-div_cancel q pos)

  -- the assignment that is found agrees with a outside the target, and so on x
  pub effects_each : DifferAtEach One Two x d.target
  unfolding differ_at
  effects_each a within = (differ_at a within, λ v e. (found a within).same v (λ l t. not_both (x v) e (ok.target_outside v t)))

  -- the effects of x on the target differ at some assignment
  pub effects : DifferAt One Two x d.target
  effects = differ_at (λ v. 0) (λ v lt. positive (d.big v) (d.kept v))
    where
      positive : (p q : Bool) → 0 < cond p (cond q 4 2) (cond q 2 1)
      positive true true = omega arith
      positive true false = omega arith
      positive false true = omega arith
      positive false false = omega arith
