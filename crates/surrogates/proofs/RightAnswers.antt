-- What the procedure over experiments answers is a right answer.
use Rattle.std.proofs.Common.{ℕ, ◌≡◌, ◌≤◌, ◌↔◌, true, false, inl, inr, refl, sym, subst, List, Option, Some, None, IsTrue}
use Rattle.std.specs.Prelude.{Result, IfOk, IfSome}
use Rattle.mixed_graph.specs.declared.sets.VSet.{VSet}
use Rattle.mixed_graph.specs.Vocabulary.{has, MixedGraph, IsMixedGraph, Apart}
use Rattle.finite_models.specs.Vocabulary.{meaning}
use Rattle.prob_expr.specs.Vocabulary.{AgreeUnderAll, PlainFormula, effect_on, formula_view}
use Rattle.prob_expr.proofs.Excluded.{experiments_exclude_formula}
use Rattle.do_derivation.specs.Vocabulary.{are_sets, PlainDerivation, derivation_view}
use Rattle.do_derivation.proofs.Accepted.{accepted_is_effect}
use Rattle.identification_theory.proofs.Bools.{clash}
use Rattle.identification_theory.specs.Vocabulary.{IsTarget, IsIdentified}
use Rattle.counter_models.proofs.Excluded.{differ_on}
use Rattle.counter_models.proofs.Final.{agree_harmless}
use Rattle.counter_models.specs.declared.counter_pair.CounterPair.{CounterPair}
use Rattle.counter_models.specs.Vocabulary.{IsPairOf}
use Rattle.hedge.specs.declared.hedge.Hedge.{Hedge}
use Rattle.hedge.specs.Vocabulary.{IsHedge}
use Rattle.identify.proofs.RightAnswers.{if_ok, right_hedge, target_term}
use Rattle.identify.specs.Vocabulary.{AreShallowSteps, IsShallowFormula, IsHedgeOf}
use Rattle.surrogates.proofs.Answered.{derived_is_surrogate, surrogate_is_accepted, stop_is_first_blocked, blocked_excludes_formula, one_surrogate}
use Rattle.surrogates.proofs.Answered.{plain_comes_first}
use Rattle.surrogates.proofs.Around.{around_is_apart, each_is_harmless}
use Rattle.surrogates.proofs.Blocked.{stop_under_has_hedge}
use Rattle.surrogates.proofs.Shallow.{surrogate_is_shallow}
use Rattle.surrogates.proofs.Unique.{first_blocked_one}
use Rattle.surrogates.specs.Common.{around}
use Rattle.surrogates.specs.Surrogates.{IsAmong, IsBlocked, IsFirstBlocked, IsFirstBlockedFor, IsStoppedUnder, IsStoppedWith, IsSurrogateBySteps, SomeBlocked}
use Rattle.surrogates.specs.Answers.{IsAnswerWith, IsRightWith, IsRightBlock, IfFormula, IfStopped, IfCommon, IsStopShown, IsBlockShown}
use Rattle.surrogates.specs.Answers.{IsCommonShown, IsBlockedTogether, is_stopped, HasCommon}
use Rattle.surrogates.specs.declared.answer.CommonHedge.{CommonHedge}
use Rattle.surrogates.specs.declared.answer.Surrogate.{Surrogate}
use Rattle.surrogates.specs.declared.answer.Surrogate.TheVariants.{Formula, Stopped}

-- the first blocked one is among them, and blocked
among_first : (g : MixedGraph) (zs : List ℕ) (c : ℕ) (cs : List ℕ) → IsFirstBlocked g zs c cs → IsAmong c cs
among_first g zs c _ (IsFirstBlocked.here b) = inl refl
among_first g zs c _ (IsFirstBlocked.after {cs = cs} n r) = inr (among_first g zs c cs r)

blocked_first : (g : MixedGraph) (zs : List ℕ) (c : ℕ) (cs : List ℕ) → IsFirstBlocked g zs c cs → IsBlocked g zs c
blocked_first g zs c _ (IsFirstBlocked.here b) = b
blocked_first g zs c _ (IsFirstBlocked.after {cs = cs} n r) = blocked_first g zs c cs r

-- where a district is the first that is blocked, some district is
pub some_blocked : (g : MixedGraph) (zs : List ℕ) (x y c : ℕ) → IsFirstBlockedFor g zs x y c → SomeBlocked g zs x y
some_blocked g zs x y c f = record {
  district = c;
  is_district = record {
    order = f.order;
    is_order = f.is_order;
    split = f.split;
    among = among_first g zs c f.split.districts f.first;
  };
  blocked = blocked_first g zs c f.split.districts f.first;
}

-- where the procedure stops, with the hedge that was made for it
pub stop_shown : (g : MixedGraph) → IsMixedGraph g → (zs : List ℕ) (x y : ℕ) → IsTarget g x y → (small big : VSet)
    → IsStoppedWith g zs x y small.bits big.bits → (h : Hedge) (pair : CounterPair)
    → h.small ≡ small → h.big ≡ big → IsHedgeOf g h → IsHedge g x y h → IsPairOf g x y h pair → IsStopShown g zs x y small h pair
stop_shown g valid zs x y tgt small big stop h pair s b made is models = record {
  stop = subst (λ (w : VSet). IsStoppedWith g zs x y small.bits w.bits) (sym b) stop;
  first = stop_is_first_blocked g valid zs x y small.bits big.bits h.roots.bits tgt stop
      (subst (λ (w : VSet). Rattle.identification_theory.specs.AnswerLaws.AreRoots g w.bits h.roots.bits) s made.roots);
  small = s;
  built = made;
  hedge = is;
  models = models;
}

-- where it stops under all experiments that leave the district alone at once, with the hedge that was made for it
pub block_shown : (g : MixedGraph) → IsMixedGraph g → (zs : List ℕ) (x y : ℕ) → IsTarget g x y → (small first big : VSet)
    → IsStoppedWith g zs x y small.bits first.bits
    → IsStoppedUnder g (around small.bits zs) small.bits big.bits → (h : Hedge) (pair : CounterPair)
    → h.small ≡ small → h.big ≡ big → IsHedgeOf g h → IsHedge g x y h → IsPairOf g x y h pair → IsBlockShown g zs x y small h pair
block_shown g valid zs x y tgt small first big stop together h pair s b made is models =
    let roots = subst (λ (w : VSet). Rattle.identification_theory.specs.AnswerLaws.AreRoots g w.bits h.roots.bits) s made.roots in
    record {
      first = stop_is_first_blocked g valid zs x y small.bits first.bits h.roots.bits tgt stop roots;
      stop = subst (λ (w : VSet). IsStoppedUnder g (around small.bits zs) small.bits w.bits) (sym b) together;
      apart = subst (λ (w : VSet). Apart (has w.bits) (has (around small.bits zs))) (sym b)
          (stop_under_has_hedge g valid zs x y small.bits first.bits h.roots.bits tgt stop roots (around small.bits zs) big.bits
          (around_is_apart small.bits zs) together).apart;
      small = s;
      built = made;
      hedge = is;
      models = models;
    }

-- what is true of each formula with its derivation is true of the answer
pub if_formula : {E : Type 0} (g : MixedGraph) (zs : List ℕ) (x y : ℕ) (r : Result Surrogate E) (P : PlainFormula → PlainDerivation → Type 0)
    → ((f : PlainFormula) (t : PlainDerivation) → IsSurrogateBySteps g zs x y f t → P f t)
    → IfOk r (IsAnswerWith g zs x y) → IfOk r (λ a. IfFormula a P)
if_formula g zs x y r P holds found = if_ok r (IsAnswerWith g zs x y) (λ a. IfFormula a P) each found
  where
    each : (a : Surrogate) → IsAnswerWith g zs x y a → IfFormula a P
    each (Formula f t) i = holds (formula_view f) (derivation_view t) i
    each (Stopped district h pair common) i = tt

-- steps of its derivation nest little
pub shallow_steps : (g : MixedGraph) → IsMixedGraph g → (zs : List ℕ) → are_sets g.vertices zs ≡ true → (x y : ℕ) → IsTarget g x y
    → (f : PlainFormula) (t : PlainDerivation) → IsSurrogateBySteps g zs x y f t → AreShallowSteps t
shallow_steps g valid zs sets x y target f t i =
    let k = surrogate_is_accepted g valid zs sets x y target f t i in
    record { main = k.main_deep; lemmas = k.lemmas_deep }

-- and so do its nodes
pub shallow_formula : (g : MixedGraph) (zs : List ℕ) (x y : ℕ) (f : PlainFormula) (t : PlainDerivation) → IsSurrogateBySteps g zs x y f t → IsShallowFormula f
shallow_formula g zs x y f t i =
    let k = surrogate_is_shallow g zs x y f (derived_is_surrogate g zs x y f t i) in
    record { main = k.1; defs = k.0 }

-- a district that is answered is the one at which the procedure stops
pub stopped : (g : MixedGraph) (zs : List ℕ) (x y : ℕ) (a : Surrogate) → IsAnswerWith g zs x y a → IfStopped a (IsStopShown g zs x y)
stopped g zs x y (Formula f t) i = tt
stopped g zs x y (Stopped district h pair common) i = i.0

-- and its common hedge is that under all experiments that leave it alone
pub blocked : (g : MixedGraph) (zs : List ℕ) (x y : ℕ) (a : Surrogate) → IsAnswerWith g zs x y a → IfCommon a (IsBlockShown g zs x y)
blocked g zs x y (Formula f t) i = tt
blocked g zs x y (Stopped district h pair (Some common)) i = i.1
blocked g zs x y (Stopped district h pair None) i = tt

module _ (g : MixedGraph) (valid : IsMixedGraph g) (few : g.vertices ≤ 64) (x y : ℕ) (target : IsTarget g x y) (off : Apart (has x) (has y)) (zs : List ℕ)
    (sets : are_sets g.vertices zs ≡ true) where
  -- the models of a common hedge agree under each experiment
  agree_under : (district : VSet) (h : Hedge) (pair : CounterPair) → IsBlockShown g zs x y district h pair
      → AgreeUnderAll zs (meaning g pair.first) (meaning g pair.second)
  agree_under district h pair i = λ z listed. agree_harmless g valid few x y h i.hedge off pair i.models z
      (each_is_harmless g.vertices few zs sets h.small.bits h.big.bits
      (subst (λ (w : VSet). Apart (has h.big.bits) (has (around w.bits zs))) (sym i.small) i.apart) z listed)

  right_block : (district : VSet) (h : Hedge) (pair : CounterPair) → IsBlockShown g zs x y district h pair → IsRightBlock g zs x y h pair
  right_block district h pair i =
      let is = right_hedge g valid few x y target off h pair i.hedge i.models in
      record {
        hedge = is;
        under = agree_under district h pair i;
        no_formula = experiments_exclude_formula g valid (meaning g pair.first) (meaning g pair.second) is.counter.first.fits is.counter.second.fits
            is.counter.first.positive is.counter.second.positive is.counter.observed zs (agree_under district h pair i) (effect_on x y)
            (differ_on g valid x y pair is.counter);
      }

  right_common : (district : VSet) (common : Option CommonHedge) → IsCommonShown g zs x y district common
      → IfSome common (λ k. IsRightBlock g zs x y k.hedge k.pair)
  right_common district (Some k) i = right_block district k.hedge k.pair i
  right_common district None i = tt

  pub right : (a : Surrogate) → IsAnswerWith g zs x y a → IsRightWith g zs x y a
  right (Formula f t) i = let a = (surrogate_is_accepted g valid zs sets x y target (formula_view f) (derivation_view t) i).accepted in
      record {
        allowed = a.listed;
        accepted = a;
        effect = (accepted_is_effect g valid zs (effect_on x y) (formula_view f) (derivation_view t) (target_term g x y target) a).1;
      }
  right (Stopped district h pair common) i = (right_hedge g valid few x y target off h pair i.0.hedge i.0.models, right_common district common i.1)

  pub exact : (a : Surrogate) → IsAnswerWith g zs x y a → IsTrue (is_stopped a) ↔ SomeBlocked g zs x y
  exact (Formula f t) i = (
    λ e. absurd (clash false e refl),
    λ b. absurd
        (blocked_excludes_formula g valid zs x y target b (formula_view f) (derived_is_surrogate g zs x y (formula_view f) (derivation_view t) i)),
  )
  exact (Stopped district h pair common) i = (λ e. some_blocked g zs x y district.bits i.0.first, λ b. refl)

  -- there is a common hedge where the first blocked district stops under all that leave it alone at once
  pub common : (a : Surrogate) → IsAnswerWith g zs x y a → HasCommon a ↔ IsBlockedTogether g zs x y
  common (Formula f t) i = (
    λ e. absurd e,
    λ b. absurd
        (blocked_excludes_formula g valid zs x y target (some_blocked g zs x y b.district b.first) (formula_view f)
        (derived_is_surrogate g zs x y (formula_view f) (derivation_view t) i)),
  )
  common (Stopped district h pair None) i = (
    λ e. absurd (clash false e refl),
    λ b. absurd
        (i.1 b.big (subst (λ c. IsStoppedUnder g (around c zs) c b.big) (first_blocked_one g x y zs b.district district.bits b.first i.0.first) b.stop)),
  )
  common (Stopped district h pair (Some k)) i = (
    λ e. record { district = district.bits; first = i.0.first; big = k.hedge.big.bits; stop = i.1.stop },
    λ b. refl,
  )

  pub plain : (f : PlainFormula) → IsIdentified g x y f → (a : Surrogate) → IsAnswerWith g zs x y a → (is_stopped a ≡ true → ⊥) × IfFormula a (λ h t. h ≡ f)
  plain f s (Formula h t) i = (
    λ e. clash false e refl,
    one_surrogate g zs x y (formula_view h) f
        (derived_is_surrogate g zs x y (formula_view h) (derivation_view t) i) (plain_comes_first g valid zs x y f s),
  )
  plain f s (Stopped district h pair common) i = absurd
      (blocked_excludes_formula g valid zs x y target (some_blocked g zs x y district.bits i.0.first) f (plain_comes_first g valid zs x y f s))
