-- What the value of a bound covers, and what it says of models.
use Rattle.std.proofs.Common.{ℕ, zero, suc, ◌≡◌, ◌<◌, ◌≤◌, Bool, true, false, cond, eqb, refl, sym, ◌∙◌, subst, Result, Ok, Err, arith}
use Rattle.fractions.specs.Vocabulary.{Fraction, over, add, add_below, mul}
use Rattle.finite_models.specs.Vocabulary.{set_at}
use Rattle.prob_expr.specs.Vocabulary.{Weights, add_over}
use Rattle.quantity.specs.Kinds.{Pair}
use Rattle.quantity.specs.declared.fault.QuantityFault.{QuantityFault}
use Rattle.quantity.specs.Vocabulary.{Kind, gives, Keeps}
use Rattle.natural_bounds.specs.declared.ends.End.{End}
use Rattle.natural_bounds.specs.Vocabulary.{Asked, joint, treated, share, condition, BoundsHold, trivial, BoundsEffect}
use Rattle.natural_bounds.proofs.Orders.{trivial_bottom}
use Rattle.natural_bounds.proofs.Strata.{stratum_bottom}
use Rattle.crossed_bounds.specs.Vocabulary.{PairedBoundsHold}
use Rattle.crossed_bounds.proofs.Sharper.{paired_bottom}
use Rattle.adjusted_bounds.specs.Vocabulary.{adjusted_at, AdjustedBoundsHold}
use Rattle.mixed_graph.specs.Vocabulary.{MixedGraph, IsMixedGraph, Apart}
use Rattle.finite_models.proofs.Bools.{not_both}
use Rattle.count_eval.proofs.TableLaws.{counted_local}
use Rattle.std.proofs.Common.{IfOk}
use Rattle.count_rows.specs.Vocabulary.{Table}
use Rattle.count_table.specs.Vocabulary.{total}
use Rattle.count_eval.specs.Vocabulary.{weights_in, is_used}
use Rattle.bound_values.specs.declared.questions.Method.{Method}
use Rattle.bound_values.specs.declared.questions.Method.TheVariants.{Instruments, LevelPairs, Adjustment}
use Rattle.bound_values.specs.Questions.{HasPairs}
use Rattle.bound_values.specs.Values.{plus, total_below, total_over, bound_by, bound_of, MayBeUsed, term_value, bound_value, BoundsInModels}

-- ---- the bound of a stratum
adjusted_bottom : (end : End) (n : Weights) (q : Asked) (s : ℕ → ℕ) → 1 ≤ (adjusted_at end n q s).bottom
adjusted_bottom end n q s = go (eqb (treated n q s) 0) refl
  where
    go : (c : Bool) → eqb (treated n q s) 0 ≡ c → 1 ≤ (cond c (trivial end) (over (joint n q s) (treated n q s))).bottom
    go true e = trivial_bottom end
    go false e = let d : treated n q s ≡ 0 → ⊥ = λ z. absurd (grind (arith, z, e)) in omega arith

pub bound_bottom : (method : Method) (end : End) (n : Weights) (q : Asked) (s : ℕ → ℕ) → 1 ≤ (bound_by method end n q s).bottom
bound_bottom Instruments end n q s = stratum_bottom end n q s
bound_bottom LevelPairs end n q s = paired_bottom end n q s
bound_bottom Adjustment end n q s = adjusted_bottom end n q s

-- the bound of an effect is the sum over the strata
sum_is : (method : Method) (end : End) (n : Weights) (q : Asked) (s : ℕ → ℕ)
    → bound_of method end n q s ≡ add_over q.u n.size n.vertices (λ t. mul (share n q t) (bound_by method end n q t)) s
sum_is Instruments end n q s = refl
sum_is LevelPairs end n q s = refl
sum_is Adjustment end n q s = refl

-- ---- values
module _ (kind : Kind) (covers : Pair → Fraction → Type 0) (keeps : Keeps kind covers) where
  added : (a b : Result Pair QuantityFault) (p : Pair) (f h : Fraction) → ((r : Pair) → a ≡ Ok r → covers r f) → ((r : Pair) → b ≡ Ok r → covers r h)
      → plus kind a b ≡ Ok p → covers p (add f h)
  added (Ok a) (Ok b) p f h ca cb e = keeps.add a b p f h (ca a refl) (cb b refl) e
  added (Ok a) (Err x) p f h ca cb e = absurd (cc)
  added (Err x) b p f h ca cb e = absurd (cc)

  below_covered : (k : ℕ) (f : ℕ → Result Pair QuantityFault) (h : ℕ → Fraction) → ((i : ℕ) (r : Pair) → i < k → f i ≡ Ok r → covers r (h i)) → (p : Pair)
      → total_below kind k f ≡ Ok p → covers p (add_below k h)
  below_covered zero f h each p e = subst (λ n. covers n (over 0 1)) (let s : kind.from_ratio 0 1 ≡ p = cc in s) (keeps.ratio 0 1 (omega arith))
  below_covered (suc k) f h each p e = added (total_below kind k f) (f k) p (add_below k h) (h k)
      (λ r same. below_covered k f h (λ i r lt. each i r (omega arith)) r same) (λ r same. each k r (omega arith) same) e

  -- a sum covers the sum of what its terms cover
  over_covered : (u : ℕ → Bool) (s : ℕ → ℕ) (P : (ℕ → ℕ) → Type 0) (n : ℕ) (f : (ℕ → ℕ) → Result Pair QuantityFault) (h : (ℕ → ℕ) → Fraction) (b : ℕ → ℕ)
      → ((c : ℕ → ℕ) (i x : ℕ) → u i ≡ true → P c → P (set_at c i x)) → P b → ((c : ℕ → ℕ) (r : Pair) → P c → f c ≡ Ok r → covers r (h c)) → (p : Pair)
      → total_over kind u s n f b ≡ Ok p → covers p (add_over u s n h b)
  over_covered u s P zero f h b stays pb each p e = each b p pb e
  over_covered u s P (suc n) f h b stays pb each p e = go (u n) refl (λ c pc r k. over_covered u s P n f h c stays pc each r k) e
    where
      go : (v : Bool) → u n ≡ v → ((c : ℕ → ℕ) → P c → (r : Pair) → total_over kind u s n f c ≡ Ok r → covers r (add_over u s n h c))
          → cond v (total_below kind (s n) (λ x. total_over kind u s n f (set_at b n x))) (total_over kind u s n f b) ≡ Ok p
          → covers p (cond v (add_below (s n) (λ x. add_over u s n h (set_at b n x))) (add_over u s n h b))
      go true is_in ih k = below_covered (s n) (λ x. total_over kind u s n f (set_at b n x)) (λ x. add_over u s n h (set_at b n x))
          (λ i r lt. ih (set_at b n i) (stays b n i is_in pb) r) p k
      go false out ih k = ih b pb p k

  -- the value of a bound covers it
  pub bound_covered : (method : Method) (end : End) (n : Weights) (q : Asked) (s : ℕ → ℕ) (P : (ℕ → ℕ) → Type 0)
      → ((c : ℕ → ℕ) (i x : ℕ) → q.u i ≡ true → P c → P (set_at c i x)) → P s → ((c : ℕ → ℕ) → P c → 1 ≤ condition n q c) → (p : Pair)
      → bound_value kind method end n q s ≡ Ok p → covers p (bound_of method end n q s)
  bound_covered method end n q s P stays ps some p e = subst (covers p) (sym (sum_is method end n q s))
      (over_covered q.u n.size P n.vertices (term_value kind method end n q) (λ t. mul (share n q t) (bound_by method end n q t)) s stays ps
      (λ c r pc k. keeps.mul (kind.from_ratio (share n q c).top (share n q c).bottom)
      (kind.from_ratio (bound_by method end n q c).top (bound_by method end n q c).bottom) r (share n q c) (bound_by method end n q c)
      (keeps.ratio (share n q c).top (share n q c).bottom (some c pc))
      (keeps.ratio (bound_by method end n q c).top (bound_by method end n q c).bottom (bound_bottom method end n q c)) k) p e)

-- ---- the condition in the strata
pub condition_stays : (n : ℕ) (t : Table) (q : Asked) (k : ℕ) → Apart q.c q.u → (c : ℕ → ℕ) (i x : ℕ) → q.u i ≡ true → k ≡ condition (weights_in n t) q c
    → k ≡ condition (weights_in n t) q (set_at c i x)
condition_stays n t q k apart c i x free h = h ∙ sym (counted_local t.vertices t.rows q.c (set_at c i x) c (λ v given. other v given (eqb v i) refl))
  where
    other : (v : ℕ) → q.c v ≡ true → (b : Bool) → eqb v i ≡ b → cond b x (c v) ≡ c v
    other v given false e = refl
    other v given true e = absurd (not_both (q.u v) (subst (λ j. q.u j ≡ true) (let s : i ≡ v = grind (arith, e) in s) free) (apart v given))

-- ---- in models
pub bound_holds : BoundsHold → PairedBoundsHold → AdjustedBoundsHold → (method : Method) (end : End) (n : ℕ) (t : Table) (q : Asked) (s : ℕ → ℕ)
    → (method ≡ LevelPairs → HasPairs n t q) → 1 ≤ condition (weights_in n t) q s
    → (g : MixedGraph) → IsMixedGraph g → MayBeUsed method g (is_used t) q
    → BoundsEffect end g q.x q.y q.c (is_used t) (weights_in n t) (total t.rows) s (bound_of method end (weights_in n t) q s)
bound_holds law paired adjusted Instruments end n t q s pairs some g ok may = law end g ok (is_used t) q may (weights_in n t) (total t.rows) s some
bound_holds law paired adjusted LevelPairs end n t q s pairs some g ok may =
    paired end g ok (is_used t) q may (weights_in n t) (pairs refl).two_valued (total t.rows) s some
bound_holds law paired adjusted Adjustment end n t q s pairs some g ok may = adjusted end g ok (is_used t) q may (weights_in n t) (total t.rows) s

-- what an outcome says of models
pub bounds_in_models : {Q : Type 0} (numbers : Q → Pair) (kind : Kind) (covers : Pair → Fraction → Type 0) → Keeps kind covers → BoundsHold → PairedBoundsHold
    → AdjustedBoundsHold → (method : Method) (end : End) (n : ℕ) (t : Table) (q : Asked) (s : ℕ → ℕ) → (method ≡ LevelPairs → HasPairs n t q) → Apart q.c q.u → 1 ≤ condition (weights_in n t) q s
    → (r : Result Q QuantityFault) → gives numbers r ≡ bound_value kind method end (weights_in n t) q s
    → IfOk r (λ v. BoundsInModels covers method end n t q s (numbers v))
bounds_in_models numbers kind covers keeps law paired adjusted method end n t q s pairs apart some (Ok v) e =
    let w = weights_in n t in record {
      covered = bound_covered kind covers keeps method end w q s (λ c. condition w q s ≡ condition w q c)
          (condition_stays n t q (condition w q s) apart) refl
          (λ c same. subst (λ k. 1 ≤ k) same some) (numbers v) (sym e);
      bounds = bound_holds law paired adjusted method end n t q s pairs some;
    }
bounds_in_models numbers kind covers keeps law paired adjusted method end n t q s pairs apart some (Err fault) e = tt
