-- The two counter-models differ on the effect.
use Rattle.std.proofs.Common.{ℕ, zero, suc, ◌*◌, ◌^◌, ◌/◌, ◌≡◌, ◌<◌, ◌≤◌, Bool, true, false, cond, not, refl, sym, ap, ◌∙◌, ◌&&◌, arith}
use native.Mathlib.Nat.{pow-suc}
use Rattle.mixed_graph.specs.Vocabulary.{MixedGraph, IsMixedGraph}
use Rattle.finite_models.specs.Vocabulary.{sum_over, FiniteModel, IsAssignment, solution, intervene, world_weight, event_weight, weight_of, agree}
use Rattle.finite_models.proofs.Following.{Follows, follows_intervene, intervene_alike}
use Rattle.finite_models.proofs.Indicators.{number, matches, agree-matches, over-matches}
use Rattle.finite_models.proofs.Bools.{and_second, not_both}
use Rattle.finite_models.proofs.SumLaws.{over-congr, over-congr_within, over-swap, over-mul, over-mul-right}
use Rattle.finite_models.proofs.Solutions.{IsRanked, solution_within, agree_gives}
use Rattle.finite_models.proofs.Factors.{weight_by_matches}
use Rattle.counter_models.specs.Parities.{bit}
use Rattle.counter_models.specs.Hedges.{ParityHedge, IsParityHedge, links_of, privates}
use Rattle.counter_models.specs.ParityPairs.{first_mechanism, second_mechanism, carried_bit, event_odd, counter_model, event_even}
use Rattle.counter_models.proofs.ParityLaws.{odd-congr}
use Rattle.counter_models.proofs.Counting.{over-congr_box}
use Rattle.counter_models.proofs.Effects.{first_event, second_event}

none_asked : (n : ℕ) (t b : ℕ → ℕ) → matches n (λ v. false) t b ≡ 1
none_asked zero t b = refl
none_asked (suc n) t b = ap (λ r. r * 1) (none_asked n t b)

-- where the points match, the factor may be read at either
matched : (n : ℕ) (A : ℕ → Bool) (F : (ℕ → ℕ) → ℕ) (t c : ℕ → ℕ) → (((v : ℕ) → v < n → A v ≡ true → t v ≡ c v) → F c ≡ F t) → matches n A t c * F c
    ≡ F t * matches n A t c
matched n A F t c h = ap (λ r. r * F c) (sym (agree-matches n A t c)) ∙ go (agree n A t c) refl ∙ ap (λ r. F t * r) (agree-matches n A t c)
  where
    go : (b : Bool) → agree n A t c ≡ b → number (agree n A t c) * F c ≡ F t * number (agree n A t c)
    go true e = rw e (omega (arith, h (agree_gives n A t c e)))
    go false e = rw e (omega arith)

-- the sum over the cells of A of a factor that reads A alone is the sum over the worlds of the factor at the solution
pub by_cells : (g : MixedGraph) (m : FiniteModel) (rank : ℕ → ℕ) → IsRanked g rank → Follows g m → (A : ℕ → Bool) (F : (ℕ → ℕ) → ℕ) (a : ℕ → ℕ)
    → ((t c : ℕ → ℕ) → ((v : ℕ) → v < m.vertices → A v ≡ true → t v ≡ c v) → F c ≡ F t)
    → sum_over A m.size m.vertices (λ s. event_weight m A s * F s) a ≡ sum_over (λ j. true) m.values m.causes (λ u. world_weight m u * F (solution m u))
    (λ j. 0)
by_cells g m rank ranked fit A F a reads =
    over-congr A m.size m.vertices (λ s. event_weight m A s * F s) (λ s. sum_over (λ j. true) m.values m.causes
    (λ u. (world_weight m u * matches m.vertices A (solution m u) s) * F s) (λ j. 0)) a
    (λ s. ap (λ r. r * F s) (weight_by_matches g m rank ranked fit A s)
    ∙ sym (over-mul-right (λ j. true) m.values m.causes (λ u. world_weight m u * matches m.vertices A (solution m u) s) (λ u. F s) (λ j. 0)
    (λ b i x lt e. refl)))
    ∙ over-swap A (λ j. true) m.size m.values m.vertices m.causes (λ s u. (world_weight m u * matches m.vertices A (solution m u) s) * F s) a (λ j. 0)
    ∙ over-congr_within (λ j. true) m.values m.causes (λ u. sum_over A m.size m.vertices
    (λ s. (world_weight m u * matches m.vertices A (solution m u) s) * F s) a) (λ u. world_weight m u * F (solution m u)) (λ j. 0)
    (λ u inside same.
    over-congr A m.size m.vertices (λ s. (world_weight m u * matches m.vertices A (solution m u) s) * F s)
    (λ s. (world_weight m u * F (solution m u)) * matches m.vertices A (solution m u) s) a
    (λ s. turn (world_weight m u) (matches m.vertices A (solution m u) s) (F s) (F (solution m u))
    (matched m.vertices A F (solution m u) s (reads (solution m u) s)))
    ∙ over-mul A m.size m.vertices (λ s. world_weight m u * F (solution m u)) (matches m.vertices A (solution m u)) a (λ b i x lt e. refl)
    ∙ ap (λ r. (world_weight m u * F (solution m u)) * r) (over-matches A (λ v. false) m.size (solution m u) m.vertices a
    (solution_within g m fit u (λ j jl. inside j jl refl)) (λ v e q. absurd (grind (arith, e))) ∙ none_asked m.vertices (solution m u) a)
    ∙ (let e : (world_weight m u * F (solution m u)) * 1 ≡ world_weight m u * F (solution m u) = omega arith in e))
  where
    turn : (w k f t : ℕ) → k * f ≡ t * k → (w * k) * f ≡ (w * t) * k
    turn w k f t e = let l : (w * k) * f ≡ w * (k * f) = omega arith in let r : w * (t * k) ≡ (w * t) * k = omega arith in l ∙ ap (λ q. w * q) e ∙ r

module _ (g : MixedGraph) (x : ℕ → Bool) (d : ParityHedge) (ok : IsParityHedge g x d) (rank : ℕ → ℕ) (is_graph : IsMixedGraph g) (ranked : IsRanked g rank)
    (serves : ℕ → ℕ → Bool)
    (fit₁ : Follows g (counter_model g.vertices d serves (first_mechanism g.vertices d)))
    (fit₂ : Follows g (counter_model g.vertices d serves (second_mechanism g.vertices d)))
    (once : (j : ℕ) → links_of d ≤ j → j < d.causes → privates g.vertices d j ≡ true)
    (y_x : (v : ℕ) → d.target v ≡ true → x v ≡ false)
    (a : ℕ → ℕ) (within : IsAssignment g.vertices (λ v. cond (d.big v) (cond (d.kept v) 4 2) (cond (d.kept v) 2 1)) a) where
  abbrev sizes : ℕ → ℕ
  sizes v = cond (d.big v) (cond (d.kept v) 4 2) (cond (d.kept v) 2 1)

  abbrev even : (ℕ → ℕ) → ℕ
  even s = number (not (event_odd g.vertices d s))

  even_reads : (t c : ℕ → ℕ) → ((v : ℕ) → v < g.vertices → d.target v ≡ true → t v ≡ c v) → even c ≡ even t
  even_reads t c h = ap (λ r. number (not r)) (odd-congr g.vertices (λ v. (d.kept v && d.target v) && carried_bit d c v)
      (λ v. (d.kept v && d.target v) && carried_bit d t v)
      (λ v lt. at v lt (d.kept v && d.target v) (λ e. and_second (d.kept v) (d.target v) e)))
    where
      at : (v : ℕ) → v < g.vertices → (p : Bool) → (p ≡ true → d.target v ≡ true) → (p && carried_bit d c v) ≡ (p && carried_bit d t v)
      at v lt true k = ap (λ r. cond (d.big v) (bit (r / 2)) (bit r)) (sym (h v lt (k refl)))
      at v lt false k = refl

  cells : (m : FiniteModel) → Follows g m → sum_over d.target m.size m.vertices (λ s. event_weight m d.target s * even s) a
      ≡ sum_over (λ j. true) m.values m.causes (λ u. world_weight m u * even (solution m u)) (λ j. 0)
  cells m fit = by_cells g m rank ranked fit d.target even a (λ t c h. even_reads t c (λ v lt e. h v (rw fit.vertices lt) e))

  abbrev One : FiniteModel
  One = counter_model g.vertices d serves (first_mechanism g.vertices d)

  abbrev Two : FiniteModel
  Two = counter_model g.vertices d serves (second_mechanism g.vertices d)

  -- with equal effects at every assignment the events would have the same weight
  same_event : ((s : ℕ → ℕ) → ((i : ℕ) → i < g.vertices → d.target i ≡ true → s i < sizes i)
      → ((i : ℕ) → (i < g.vertices → d.target i ≡ true → ⊥) → s i ≡ a i) → weight_of One x d.target s ≡ weight_of Two x d.target s)
      → event_even One d x a ≡ event_even Two d x a
  same_event h =
      sym (cells (intervene One x a) (follows_intervene g One x a within fit₁))
      ∙ over-congr_box d.target sizes g.vertices (λ s. event_weight (intervene One x a) d.target s * even s)
      (λ s. event_weight (intervene Two x a) d.target s * even s) a
      (λ s inside same. let q = alike s same in
      ap (λ r. r * even s) (ap (λ m. event_weight m d.target s) (sym (intervene_alike One x s a q)) ∙ h s inside same
      ∙ ap (λ m. event_weight m d.target s) (intervene_alike Two x s a q)))
      ∙ cells (intervene Two x a) (follows_intervene g Two x a within fit₂)
    where
      alike : (s : ℕ → ℕ) → ((i : ℕ) → (i < g.vertices → d.target i ≡ true → ⊥) → s i ≡ a i) → (v : ℕ) → x v ≡ true → s v ≡ a v
      alike s same v e = same v (λ lt t. not_both (x v) e (y_x v t))

  power_pos : (k : ℕ) → 1 ≤ 2 ^ k
  power_pos zero = omega arith
  power_pos (suc k) = omega (arith, pow-suc 2 k, power_pos k)

  -- the effects are not the same at all assignments that differ from a on the target alone
  pub effects_differ : ((s : ℕ → ℕ) → ((i : ℕ) → i < g.vertices → d.target i ≡ true → s i < sizes i)
      → ((i : ℕ) → (i < g.vertices → d.target i ≡ true → ⊥) → s i ≡ a i) → weight_of One x d.target s ≡ weight_of Two x d.target s) → ⊥
  effects_differ h =
      omega (
        arith,
        first_event g x d ok rank is_graph ranked serves a within fit₁,
        second_event g x d ok rank is_graph ranked serves a within fit₂ once,
        same_event h,
        power_pos d.causes,
      )
