-- Equations between the probabilities of terms, at an assignment in a positive model of the graph.
use Rattle.std.proofs.Common.{ℕ, ◌*◌, ◌≡◌, ◌≤◌, Bool, true, false, cond, eqb, not, refl, sym, ap, ◌∙◌, ◌||◌, ◌&&◌, subst, List, [], ◌∷◌, arith}
use Rattle.std.proofs.Common.{eqb-true, mul-pos}
use Rattle.std.proofs.Math.Bool.{or_comm, or_assoc}
use Rattle.std.proofs.lemmas.Bool.{or_from}
use mathlib.Core.Path.{fun_ext}
use Rattle.mixed_graph.specs.Vocabulary.{has, MixedGraph, IsMixedGraph, union, minus, one}
use Rattle.fractions.specs.Vocabulary.{Fraction, over, IsEqual, mul, div}
use Rattle.fractions.proofs.FractionLaws.{equal_refl, equal_trans, mul_equal}
use Rattle.finite_models.specs.Vocabulary.{all_below, sum_over, FiniteModel, Fits, IsAssignment, IsPositiveModel, solution, agree, event_weight, world_weight, intervene, weight_of, probability}
use Rattle.finite_models.proofs.Bools.{and_first, and_second, or_false}
use Rattle.finite_models.proofs.SumLaws.{over-congr, set_at-other}
use Rattle.finite_models.proofs.Following.{follows_of, follows_intervene}
use Rattle.finite_models.proofs.Ranks.{with_rank}
use Rattle.finite_models.proofs.Factors.{marginal}
use Rattle.finite_models.proofs.Positive.{positive_weight}
use Rattle.do_rules.specs.declared.rules.Rule.TheVariants.{One, Two, Three}
use Rattle.do_rules.specs.Vocabulary.{IsBlockedFor}
use Rattle.do_rules.proofs.Holds.{rule_holds}
use Rattle.prob_expr.specs.Tree.{prob, sum}
use Rattle.prob_expr.specs.Vocabulary.{weights_of, term_value, value, product_value, add_over}
use Rattle.mixed_graph.proofs.MaskLaws.{has_join, has_minus, has_none, has_one, empty_has}
use Rattle.do_derivation.specs.Shapes.{is_list_of, chained}
use Rattle.prob_expr.proofs.Boxes.{add_over_whole}
use Rattle.do_derivation.proofs.TermSets.{IsTerm, IsNew, apart_back, four_sets}

pub weight_same : (m : FiniteModel) (B A A' : ℕ → Bool) (s : ℕ → ℕ) → ((v : ℕ) → A v ≡ A' v) → weight_of m B A s ≡ weight_of m B A' s
weight_same m B A A' s h = ap (λ C. weight_of m B C s) (fun_ext h)

-- an event's weight does not depend on the values that the event does not name
pub event_same : (m : FiniteModel) (A : ℕ → Bool) (s t : ℕ → ℕ) → ((v : ℕ) → A v ≡ true → t v ≡ s v) → event_weight m A t ≡ event_weight m A s
event_same m A s t h =
    over-congr (λ j. true) m.values m.causes (λ u. cond (agree m.vertices A (solution m u) t) (world_weight m u) 0)
    (λ u. cond (agree m.vertices A (solution m u) s) (world_weight m u) 0) (λ j. 0)
    (λ u. ap (λ c. cond c (world_weight m u) 0) (read u))
  where
    alike : (a : Bool) (x p r : ℕ) → (a ≡ true → p ≡ r) → cond a (eqb x p) true ≡ cond a (eqb x r) true
    alike true x p r e = ap (λ z. eqb x z) (e refl)
    alike false x p r e = refl

    read : (u : ℕ → ℕ) → agree m.vertices A (solution m u) t ≡ agree m.vertices A (solution m u) s
    read u = ap (λ p. all_below m.vertices p) (fun_ext (λ v. alike (A v) (solution m u v) (t v) (s v) (h v)))

-- nor does an intervention on those that it does not set
pub intervene_same : (m : FiniteModel) (B : ℕ → Bool) (s t : ℕ → ℕ) → ((v : ℕ) → B v ≡ true → t v ≡ s v) → intervene m B t ≡ intervene m B s
intervene_same m B s t h =
    ap (λ (f : ℕ → (ℕ → ℕ) → (ℕ → ℕ) → ℕ). let h : FiniteModel = record m { serves = λ j v. m.serves j v && not (B v); mechanism = f } in h)
    (fun_ext (λ v. fun_ext (λ x. fun_ext (λ u. alike (B v) (t v) (s v) (m.mechanism v x u) (h v)))))
  where
    alike : (b : Bool) (p r y : ℕ) → (b ≡ true → p ≡ r) → cond b p y ≡ cond b r y
    alike true p r y e = e refl
    alike false p r y e = refl

product_numbers : (n d e e' n' : ℕ) → e' ≡ e → n' ≡ n → n * (d * e) ≡ (e' * n') * d
product_numbers n d e e' n' p q = rw (p, q) (omega arith)

split_numbers : (n c z : ℕ) → n * (z * c) ≡ (n * z) * c
split_numbers n c z = omega arith

spread : (p q r : Bool) → (q ≡ true → p ≡ true) → ((p && not q) || (r || q)) ≡ (p || r)
spread true true r h = or_comm r true
spread true false r h = refl
spread false true r h = absurd (grind (arith, h refl))
spread false false r h = or_comm r false

module _ (g : MixedGraph) (ok : IsMixedGraph g) (m : FiniteModel) (fit : Fits g m) (positive : IsPositiveModel m) (s : ℕ → ℕ)
    (within : IsAssignment m.vertices m.size s) where
  pub weight_positive : (B C : ℕ → Bool) → 1 ≤ weight_of m B C s
  weight_positive B C = positive_weight g m ok (follows_of g m fit) positive B C s within

  -- ---- the three rules
  turned : (c z : ℕ) → (λ v. has z v || has c v) ≡ has (union c z)
  turned c z = fun_ext (λ v. or_comm (has z v) (has c v) ∙ sym (has_join c z v))

  joined_sets : (b z : ℕ) → (λ v. has b v || has z v) ≡ has (union b z)
  joined_sets b z = fun_ext (λ v. sym (has_join b z v))

  pub law_1 : (a b z c : ℕ) → IsTerm g.vertices a b c → IsNew g.vertices z a b c → IsBlockedFor One g (has b) (has a) (has z) (has c)
      → IsEqual (term_value (weights_of m) a b (union c z) s) (term_value (weights_of m) a b c s)
  law_1 a b z c t k h =
      subst (λ C. IsEqual (probability m (has b) (has a) C s) (probability m (has b) (has a) (has c) s)) (turned c z)
      (rule_holds g ok (has b) (has a) (has z) (has c) (four_sets g.vertices a b z c t k) One h m fit positive s within)

  pub law_2 : (a b z c : ℕ) → IsTerm g.vertices a b c → IsNew g.vertices z a b c → IsBlockedFor Two g (has b) (has a) (has z) (has c)
      → IsEqual (term_value (weights_of m) a (union b z) c s) (term_value (weights_of m) a b (union c z) s)
  law_2 a b z c t k h =
      subst (λ C. IsEqual (probability m (has (union b z)) (has a) (has c) s) (probability m (has b) (has a) C s)) (turned c z)
      (subst (λ B. IsEqual (probability m B (has a) (has c) s) (probability m (has b) (has a) (λ v. has z v || has c v) s)) (joined_sets b z)
      (rule_holds g ok (has b) (has a) (has z) (has c) (four_sets g.vertices a b z c t k) Two h m fit positive s within))

  pub law_3 : (a b z c : ℕ) → IsTerm g.vertices a b c → IsNew g.vertices z a b c → IsBlockedFor Three g (has b) (has a) (has z) (has c)
      → IsEqual (term_value (weights_of m) a (union b z) c s) (term_value (weights_of m) a b c s)
  law_3 a b z c t k h =
      subst (λ B. IsEqual (probability m B (has a) (has c) s) (probability m (has b) (has a) (has c) s)) (joined_sets b z)
      (rule_holds g ok (has b) (has a) (has z) (has c) (four_sets g.vertices a b z c t k) Three h m fit positive s within)

  -- ---- products of conditionals
  pub product_rule : (a a₁ a₂ b c c' : ℕ) → ((v : ℕ) → (has a₂ v || has c' v) ≡ (has a v || has c v)) → ((v : ℕ) → has c' v ≡ (has a₁ v || has c v))
      → IsEqual (term_value (weights_of m) a b c s) (mul (term_value (weights_of m) a₁ b c s) (term_value (weights_of m) a₂ b c' s))
  product_rule a a₁ a₂ b c c' h k = record {
    left_bottom = weight_positive (has b) (has c);
    right_bottom = mul-pos (weight_positive (has b) (has c)) (weight_positive (has b) (has c'));
    products =
        product_numbers (weight_of m (has b) (λ v. has a v || has c v) s) (weight_of m (has b) (has c) s) (weight_of m (has b) (has c') s)
        (weight_of m (has b) (λ v. has a₁ v || has c v) s) (weight_of m (has b) (λ v. has a₂ v || has c' v) s)
        (sym (weight_same m (has b) (has c') (λ v. has a₁ v || has c v) s k)) (weight_same m (has b) (λ v. has a₂ v || has c' v) (λ v. has a v || has c v) s h);
  }

  chain_end : (a b c : ℕ) → ((v : ℕ) → has a v ≡ false) → IsEqual (term_value (weights_of m) a b c s) (over 1 1)
  chain_end a b c none = record {
    left_bottom = weight_positive (has b) (has c);
    right_bottom = (omega arith);
    products = (let r : (n d : ℕ) → n ≡ d → n * 1 ≡ 1 * d = λ n d p. omega (arith, p) in
        r (weight_of m (has b) (λ v. has a v || has c v) s) (weight_of m (has b) (has c) s)
        (weight_same m (has b) (λ v. has a v || has c v) (has c) s (λ v. or_false (has a v) (has c v) (none v))));
  }

  pub chain_law : (q : ℕ → (ℕ → ℕ) → Fraction) (o : List ℕ) (a b c : ℕ) → is_list_of o a ≡ true
      → IsEqual (term_value (weights_of m) a b c s) (product_value (weights_of m) q (chained b c o) s)
  chain_law q [] a b c e = chain_end a b c (λ v. empty_has a v e)
  chain_law q (v ∷ o) a b c e =
      equal_trans (term_value (weights_of m) a b c s) (mul (term_value (weights_of m) (one v) b c s)
      (term_value (weights_of m) (minus a (one v)) b (union c (one v)) s))
      (mul (term_value (weights_of m) (one v) b c s) (product_value (weights_of m) q (chained b (union c (one v)) o) s))
      (product_rule a (one v) (minus a (one v)) b c (union c (one v))
      (λ w. ap (λ p. p || has (union c (one v)) w) (has_minus a (one v) w) ∙ ap (λ p. (has a w && not (has (one v) w)) || p) (has_join c (one v) w)
      ∙ spread (has a w) (has (one v) w) (has c w) (λ i. subst (λ x. has a x ≡ true) (sym (eqb-true w v (sym (has_one v w) ∙ i)))
      (and_first (has a v) (is_list_of o (minus a (one v))) e)))
      (λ w. has_join c (one v) w ∙ or_comm (has c w) (has (one v) w)))
      (mul_equal (term_value (weights_of m) (one v) b c s) (term_value (weights_of m) (one v) b c s)
      (term_value (weights_of m) (minus a (one v)) b (union c (one v)) s) (product_value (weights_of m) q (chained b (union c (one v)) o) s)
      (equal_refl (term_value (weights_of m) (one v) b c s) (weight_positive (has b) (has c)))
      (chain_law q o (minus a (one v)) b (union c (one v)) (and_second (has a v) (is_list_of o (minus a (one v))) e)))

  pub split_law : (a b c : ℕ) → IsEqual (term_value (weights_of m) a b c s)
      (div (term_value (weights_of m) (union a c) b 0 s) (term_value (weights_of m) c b 0 s))
  split_law a b c = record {
    left_bottom = weight_positive (has b) (has c);
    right_bottom = mul-pos (weight_positive (has b) (has 0)) (weight_positive (has b) (λ v. has c v || has 0 v));
    products =
        rw (
          weight_same m (has b) (λ v. has (union a c) v || has 0 v) (λ v. has a v || has c v) s
              (λ v. ap (λ p. has (union a c) v || p) (has_none v) ∙ or_comm (has (union a c) v) false ∙ has_join a c v),
          weight_same m (has b) (λ v. has c v || has 0 v) (has c) s (λ v. ap (λ p. has c v || p) (has_none v) ∙ or_comm (has c v) false),
        )
        (split_numbers (weight_of m (has b) (λ v. has a v || has c v) s) (weight_of m (has b) (has c) s) (weight_of m (has b) (has 0) s));
  }

  -- ---- marginals
  module _ (a b u c : ℕ) (k : IsNew g.vertices u a b c) where
    model : (t : ℕ → ℕ) → ((v : ℕ) → has u v ≡ false → t v ≡ s v) → intervene m (has b) t ≡ intervene m (has b) s
    model t p = intervene_same m (has b) s t (λ v e. p v (apart_back (has u) (has b) k.apart_doing v e))

    tops : (t : ℕ → ℕ) → ((v : ℕ) → has u v ≡ false → t v ≡ s v) → weight_of m (has b) (λ v. has (union a u) v || has c v) t
        ≡ event_weight (intervene m (has b) s) (λ v. (has a v || has c v) || has u v) t
    tops t p =
        ap (λ x. event_weight x (λ v. has (union a u) v || has c v) t) (model t p)
        ∙ ap (λ A. event_weight (intervene m (has b) s) A t) (fun_ext (λ v. ap (λ x. x || has c v) (has_join a u v) ∙ or_assoc (has a v) (has u v) (has c v)
        ∙ ap (λ x. has a v || x) (or_comm (has u v) (has c v)) ∙ sym (or_assoc (has a v) (has c v) (has u v))))

    bottoms : (t : ℕ → ℕ) → ((v : ℕ) → has u v ≡ false → t v ≡ s v) → weight_of m (has b) (has c) t ≡ weight_of m (has b) (has c) s
    bottoms t p = ap (λ x. event_weight x (has c) t) (model t p) ∙ event_same (intervene m (has b) s) (has c) s t
        (λ v e. p v (apart_back (has u) (has c) k.apart_given v e))

    summed : sum_over (has u) m.size m.vertices (event_weight (intervene m (has b) s) (λ v. (has a v || has c v) || has u v)) s
        ≡ weight_of m (has b) (λ v. has a v || has c v) s
    summed =
        with_rank g ok (sum_over (has u) m.size m.vertices (event_weight (intervene m (has b) s) (λ v. (has a v || has c v) || has u v)) s)
        (weight_of m (has b) (λ v. has a v || has c v) s)
        (λ rank ranked. marginal g (intervene m (has b) s) rank ranked (follows_intervene g m (has b) s within (follows_of g m fit)) (λ v. has a v || has c v)
        (has u) s
        (λ v e i. absurd (grind (arith, e, or_from (has a v) (has c v) (k.apart_of v i) (k.apart_given v i)))))

    term_at : (t : ℕ → ℕ) → ((v : ℕ) → has u v ≡ false → t v ≡ s v)
        → IsEqual (term_value (weights_of m) (union a u) b c t) (over (event_weight (intervene m (has b) s) (λ v. (has a v || has c v) || has u v) t)
        (weight_of m (has b) (has c) s))
    term_at t p = record {
      left_bottom = (let e = bottoms t p in let l = weight_positive (has b) (has c) in rw e l);
      right_bottom = weight_positive (has b) (has c);
      products = ap (λ r. r * weight_of m (has b) (has c) s) (tops t p)
          ∙ ap (λ r. event_weight (intervene m (has b) s) (λ v. (has a v || has c v) || has u v) t * r) (sym (bottoms t p));
    }

    pub sum_law : (q : ℕ → (ℕ → ℕ) → Fraction) → IsEqual (value (weights_of m) q (sum u (prob (union a u) b c)) s) (term_value (weights_of m) a b c s)
    sum_law q =
        subst (λ x. IsEqual (add_over (has u) m.size m.vertices (term_value (weights_of m) (union a u) b c) s) (over x (weight_of m (has b) (has c) s))) summed
        (add_over_whole (has u) m.size (λ t. (v : ℕ) → has u v ≡ false → t v ≡ s v) m.vertices (weight_of m (has b) (has c) s)
        (term_value (weights_of m) (union a u) b c)
        (event_weight (intervene m (has b) s) (λ v. (has a v || has c v) || has u v)) s (weight_positive (has b) (has c))
        (λ t i x lt ui xl p v o. set_at-other t i x v (λ same. absurd (grind (arith, ui, o, ap (has u) same))) ∙ p v o)
        (λ v o. refl)
        term_at)
