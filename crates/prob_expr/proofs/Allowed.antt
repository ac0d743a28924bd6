-- Formulas whose terms are observed or under experiments have equal values in models that these don't tell apart.
use Rattle.std.proofs.Common.{ℕ, ◌*◌, ◌≡◌, ◌<◌, ◌≤◌, Bool, true, false, not, cond, refl, ap, ◌∙◌, ◌||◌, ◌⊎◌, inl, inr, sym, subst, List, arith, mul-pos}
use mathlib.Core.Path.{fun_ext}
use Rattle.std.proofs.lemmas.Bool.{or_cases}
use Rattle.mixed_graph.specs.Vocabulary.{has, MixedGraph, IsMixedGraph, is_empty}
use Rattle.mixed_graph.proofs.MaskLaws.{empty_has}
use Rattle.fractions.specs.Vocabulary.{IsEqual}
use Rattle.fractions.proofs.FractionLaws.{equal_sym, equal_trans}
use Rattle.finite_models.specs.Vocabulary.{AgreeObserved, AgreeUnder, FiniteModel, Fits, IsAssignment, IsPositiveModel, solution, agree, event_weight, intervene, weight_of, world_weight, total, sum_over}
use Rattle.finite_models.proofs.Bools.{and_first, and_second, same_truth}
use Rattle.finite_models.proofs.Factors.{marginal}
use Rattle.finite_models.proofs.Following.{Follows, follows_of, follows_intervene, intervene_alike}
use Rattle.finite_models.proofs.Positive.{positive_weight}
use Rattle.finite_models.proofs.Ranks.{with_rank}
use Rattle.finite_models.proofs.Solutions.{IsRanked, solution_is, agree_gives, agree_from}
use Rattle.finite_models.proofs.SumLaws.{over-mul-right, over-congr, set_at-other}
use Rattle.finite_models.proofs.Weights.{weight-none, weight_of-none}
use Rattle.prob_expr.specs.Experiments.{AgreeUnderAll, ExperimentsFixValue}
use Rattle.prob_expr.specs.Terms.{all_under, is_under, is_allowed, is_listed}
use Rattle.prob_expr.specs.Tree.{PlainFormula, PlainTarget}
use Rattle.prob_expr.specs.Values.{weights_of, value_of, effect, EqualsEffect}
use Rattle.prob_expr.proofs.Alike.{UnderOne, asks_under, all_ask_under, formula_alike}
use Rattle.prob_expr.proofs.Boxes.{assignment_set, sum_over_equal}

module _ (g : MixedGraph) (ok : IsMixedGraph g) (m : FiniteModel) (fit : Fits g m) (b a : ℕ → Bool) (s : ℕ → ℕ) (hs : IsAssignment m.vertices m.size s) where
  follows : Follows g (intervene m b s)
  follows = follows_intervene g m b s hs (follows_of g m fit)

  abbrev wide : ℕ → Bool
  wide v = a v || b v

  -- what is set has its values anyhow
  widened : (rank : ℕ → ℕ) → IsRanked g rank → weight_of m b a s ≡ weight_of m b wide s
  widened rank ranked = over-congr (λ j. true) m.values m.causes
      (λ u. cond (agree m.vertices a (solution (intervene m b s) u) s) (world_weight m u) 0)
      (λ u. cond (agree m.vertices wide (solution (intervene m b s) u) s) (world_weight m u) 0) (λ j. 0)
      (λ u. ap (λ q. cond q (world_weight m u) 0) (same_truth (agree m.vertices a (solution (intervene m b s) u) s)
      (agree m.vertices wide (solution (intervene m b s) u) s)
      (λ h. agree_from m.vertices wide (solution (intervene m b s) u) s (λ v vl e. go u v vl h (or_cases (a v) (b v) e)))
      (λ h. agree_from m.vertices a (solution (intervene m b s) u) s (λ v vl e. agree_gives m.vertices wide (solution (intervene m b s) u) s h v vl
      (rw e refl)))))
    where
      go : (u : ℕ → ℕ) (v : ℕ) → v < m.vertices → agree m.vertices a (solution (intervene m b s) u) s ≡ true → (a v ≡ true) ⊎ (b v ≡ true)
          → solution (intervene m b s) u v ≡ s v
      go u v vl h (inl e) = agree_gives m.vertices a (solution (intervene m b s) u) s h v vl e
      go u v vl h (inr e) = solution_is g (intervene m b s) rank ranked follows u v vl ∙ rw e refl

  -- an event's weight is the sum of the weights of the assignments that agree with it and with what is set
  pub by_assignments : sum_over (λ v. not (wide v)) m.size m.vertices (event_weight (intervene m b s) (λ v. true)) s ≡ weight_of m b a s
  by_assignments = with_rank g ok (sum_over (λ v. not (wide v)) m.size m.vertices (event_weight (intervene m b s) (λ v. true)) s) (weight_of m b a s)
      (λ rank ranked.
      ap (λ e. sum_over (λ v. not (wide v)) m.size m.vertices (event_weight (intervene m b s) e) s) (sym (fun_ext (λ v. either_way (wide v))))
      ∙ marginal g (intervene m b s) rank ranked follows wide (λ v. not (wide v)) s (λ v e h. absurd (grind (arith, ap not e, h)))
      ∙ sym (widened rank ranked))
    where
      either_way : (p : Bool) → (p || not p) ≡ true
      either_way true = refl
      either_way false = refl

-- an assignment of a model is one of another of the same sizes
pub in_second : (m₁ m₂ : FiniteModel) → m₁.vertices ≡ m₂.vertices → ((v : ℕ) → v < m₁.vertices → m₁.size v ≡ m₂.size v)
    → (s : ℕ → ℕ) → IsAssignment m₁.vertices m₁.size s → IsAssignment m₂.vertices m₂.size s
in_second m₁ m₂ same sizes s hs v vl = let lt = subst (λ n. v < n) (sym same) vl in subst (λ n. s v < n) (sizes v lt) (hs v lt)

module _ (g : MixedGraph) (ok : IsMixedGraph g) (m₁ m₂ : FiniteModel) (f₁ : Fits g m₁) (f₂ : Fits g m₂) (b : ℕ → Bool) (agreed : AgreeUnder b m₁ m₂) where
  -- agreement on all vertices is agreement on each event
  pub events_under : (a : ℕ → Bool) (s : ℕ → ℕ) → IsAssignment m₁.vertices m₁.size s → weight_of m₁ b a s * total m₂ ≡ weight_of m₂ b a s * total m₁
  events_under a s hs =
      ap (λ n. n * total m₂) (sym (by_assignments g ok m₁ f₁ b a s hs))
      ∙ sym (over-mul-right (λ v. not (a v || b v)) m₁.size m₁.vertices (event_weight (intervene m₁ b s) (λ v. true)) (λ c. total m₂) s (λ c i x lt e. refl))
      ∙ sum_over_equal (λ v. not (a v || b v)) m₁.size Kept m₁.vertices m₂.size (λ c. event_weight (intervene m₁ b s) (λ v. true) c * total m₂)
      (λ c. event_weight (intervene m₂ b s) (λ v. true) c * total m₁) s agreed.sizes
      (λ c i x lt ui xl p. (assignment_set m₁.vertices m₁.size c i x xl p.0, λ v e. set_at-other c i x v (λ q. not_set i ui (ap b (sym q) ∙ e)) ∙ p.1 v e))
      (hs, λ v e. refl)
      (λ c p. ap (λ r. event_weight r (λ v. true) c * total m₂) (intervene_alike m₁ b s c (λ v e. sym (p.1 v e))) ∙ agreed.weights c p.0
      ∙ ap (λ r. event_weight r (λ v. true) c * total m₁) (sym (intervene_alike m₂ b s c (λ v e. sym (p.1 v e)))))
      ∙ over-mul-right (λ v. not (a v || b v)) m₂.size m₁.vertices (event_weight (intervene m₂ b s) (λ v. true)) (λ c. total m₁) s (λ c i x lt e. refl)
      ∙ ap (λ n. n * total m₁) (ap (λ n. sum_over (λ v. not (a v || b v)) m₂.size n (event_weight (intervene m₂ b s) (λ v. true)) s) agreed.vertices
      ∙ by_assignments g ok m₂ f₂ b a s (in_second m₁ m₂ agreed.vertices agreed.sizes s hs))
    where
      Kept : (ℕ → ℕ) → Type 0
      Kept c = IsAssignment m₁.vertices m₁.size c × ((v : ℕ) → b v ≡ true → c v ≡ s v)

      not_set : (i : ℕ) → not (a i || b i) ≡ true → b i ≡ true → ⊥
      not_set i e h = absurd (grind (arith, e, h))

-- the weights of all worlds of a positive model have a positive sum
total_positive : (g : MixedGraph) → IsMixedGraph g → (m : FiniteModel) → Fits g m → IsPositiveModel m → (s : ℕ → ℕ) → IsAssignment m.vertices m.size s
    → 1 ≤ total m
total_positive g ok m fit p s hs =
    subst (λ n. 1 ≤ n) (weight_of-none m (λ v. false) (λ v. false) s (λ v. refl) ∙ weight-none m (λ v. false) s (λ v. refl))
    (positive_weight g m ok (follows_of g m fit) p (λ v. false) (λ v. false) s hs)

module _ (g : MixedGraph) (ok : IsMixedGraph g) (m₁ m₂ : FiniteModel) (f₁ : Fits g m₁) (f₂ : Fits g m₂) (p₁ : IsPositiveModel m₁) (p₂ : IsPositiveModel m₂)
    (agreed : AgreeObserved m₁ m₂) (zs : List ℕ) (under : AgreeUnderAll zs m₁ m₂) where
  into : (s : ℕ → ℕ) → IsAssignment m₁.vertices m₁.size s → IsAssignment m₂.vertices m₂.size s
  into = in_second m₁ m₂ agreed.vertices agreed.sizes

  -- what is observed is what is seen under no intervention
  under_one : (b : ℕ) → UnderOne zs b (λ v. true) → AgreeUnder (has b) m₁ m₂
  under_one b e = go (or_cases (is_empty b) (is_listed b zs) e)
    where
      go : (is_empty b ≡ true) ⊎ (is_listed b zs ≡ true) → AgreeUnder (has b) m₁ m₂
      go (inl e) = subst (λ c. AgreeUnder c m₁ m₂) (sym (fun_ext (λ v. empty_has b v e)))
          (record { vertices = agreed.vertices; sizes = agreed.sizes; weights = agreed.weights })
      go (inr e) = under b e

  pub same_value : (f : PlainFormula) → is_allowed zs f ≡ true → (s : ℕ → ℕ) → IsAssignment m₁.vertices m₁.size s
      → IsEqual (value_of (weights_of m₁) f s) (value_of (weights_of m₂) f s)
  same_value f u s hs =
      formula_alike (weights_of m₁) (weights_of m₂) agreed.vertices agreed.sizes f₁.positive_size (total m₁) (total m₂)
      (mul-pos (total_positive g ok m₁ f₁ p₁ s hs) (total_positive g ok m₂ f₂ p₂ s (into s hs))) (UnderOne zs)
      (λ b a e c hc. positive_weight g m₁ ok (follows_of g m₁ f₁) p₁ (has b) a c hc)
      (λ b a e c hc. events_under g ok m₁ m₂ f₁ f₂ (has b) (under_one b e) a c hc)
      f (all_ask_under zs f.defs (and_first (all_under zs f.defs) (is_under zs f.main) u))
      (asks_under zs f.main (and_second (all_under zs f.defs) (is_under zs f.main) u)) s hs

  -- so an effect that such a formula equals is one in both models
  pub same_effect : (t : PlainTarget) (f : PlainFormula) → is_allowed zs f ≡ true → EqualsEffect g t f → (s : ℕ → ℕ) → IsAssignment m₁.vertices m₁.size s
      → IsEqual (effect m₁ t s) (effect m₂ t s)
  same_effect t f u h s hs =
      equal_trans (effect m₁ t s) (value_of (weights_of m₁) f s) (effect m₂ t s) (equal_sym (value_of (weights_of m₁) f s) (effect m₁ t s) (h m₁ f₁ p₁ s hs))
      (equal_trans (value_of (weights_of m₁) f s) (value_of (weights_of m₂) f s) (effect m₂ t s) (same_value f u s hs) (h m₂ f₂ p₂ s (into s hs)))

pub experiments_fix_value : ExperimentsFixValue
experiments_fix_value = λ g ok m₁ m₂ f₁ f₂ p₁ p₂ agreed zs under f u s hs. same_value g ok m₁ m₂ f₁ f₂ p₁ p₂ agreed zs under f u s hs
