-- What the procedure answers is a right answer.
use Rattle.std.proofs.Common.{ℕ, ◌^◌, ◌≡◌, ◌<◌, ◌≤◌, ◌↔◌, true, refl, sym, subst, List, [], length, IsTrue, arith}
use Rattle.std.specs.Prelude.{Result, Ok, Err, IfOk}
use Rattle.mixed_graph.specs.declared.sets.VSet.{VSet}
use Rattle.mixed_graph.specs.Vocabulary.{has, MixedGraph, IsMixedGraph, IsOrder, Within, Apart, all, is_apart, is_below, is_empty, minus}
use Rattle.mixed_graph.proofs.Masks.{has-zero, some_member}
use Rattle.hedge.specs.declared.hedge.Hedge.{Hedge as HedgeData}
use Rattle.hedge.specs.Vocabulary.{AreDistricts, IsHedge}
use Rattle.prob_expr.specs.Vocabulary.{is_term, PlainFormula, effect_on, formula_view}
use Rattle.do_derivation.specs.Vocabulary.{PlainDerivation, derivation_view}
use Rattle.do_derivation.proofs.Accepted.{accepted_is_effect}
use Rattle.identification_theory.proofs.Bools.{both_true, clash, not_i}
use Rattle.identification_theory.proofs.Sets.{below, apart, not_empty}
use Rattle.identification_theory.specs.Vocabulary.{IsDerived, AreAncestorsIn, IsTarget, IsUnidentified, Split, StopsAt}
use Rattle.hedge.proofs.Shaping.{sets_form_hedge}
use Rattle.counter_models.specs.declared.counter_pair.CounterPair.{CounterPair}
use Rattle.counter_models.specs.Vocabulary.{IsPairOf}
use Rattle.counter_models.proofs.Excluded.{no_formula}
use Rattle.identify.specs.declared.wanted.Wanted.TheVariants.{Derivation}
use Rattle.identify.specs.Answers.{IsAnswerOf, IsStopHedge, IsRight, IsRightFormula, IsRightHedge, IfFormula, IfHedge, is_hedge, AreShallowSteps}
use Rattle.identify.specs.Answers.{IsShallowFormula}
use Rattle.identify.specs.declared.answer.Answer.{Answer}
use Rattle.identify.specs.declared.answer.Answer.TheVariants.{Formula, Hedge}
use Rattle.identification_theory.proofs.Answered.{formula_names_ancestors, formula_is_formed, formula_is_shallow, derived_is_identified, derivation_is_accepted}
use Rattle.counter_models.proofs.Final.{counter}
use Rattle.counter_models.proofs.HedgePair.{pair as pair_of, is_pair}

-- sets of vertices without a common member ask for an effect, where y has a member
pub target_of : (g : MixedGraph) (x y : ℕ) → Within g.vertices (has x) → Within g.vertices (has y) → Apart (has x) (has y) → (v : ℕ) × IsTrue (has y v)
    → IsTarget g x y
target_of g x y x_low y_low off some = record { x_low = x_low; y_low = y_low; off = λ u i j. clash (has y u) j (off u i); some = some.0; some_in = some.1 }

-- the same where y isn't empty
pub target_from : (g : MixedGraph) (x y : ℕ) → Within g.vertices (has x) → Within g.vertices (has y) → Apart (has x) (has y) → 0 < y → y < 2 ^ 64
    → IsTarget g x y
target_from g x y x_low y_low off some fits = target_of g x y x_low y_low off (some_member y (λ e. absurd (omega (arith, e, some))) fits)

-- the sets of a target are those of a term
pub target_term : (g : MixedGraph) (x y : ℕ) → IsTarget g x y → is_term g.vertices y x 0 ≡ true
target_term g x y target = both_true _ _ (both_true _ _ (both_true _ _ (below g.vertices y target.y_low)
    (both_true _ _ (below g.vertices x target.x_low) zero_low))
    (both_true _ _ (apart y x (λ v i j. target.off v j i)) (both_true _ _ (zero_apart y) (zero_apart x))))
    (not_i (is_empty y) (not_empty y target.some target.some_in))
  where
    zero_low : is_below g.vertices 0 ≡ true
    zero_low = below g.vertices 0 (λ v e. absurd (clash (has 0 v) e (has-zero v)))

    zero_apart : (a : ℕ) → is_apart a 0 ≡ true
    zero_apart a = apart a 0 (λ v e i. clash (has 0 v) i (has-zero v))

-- what is true of each answer is true of the answer
pub if_ok : {A E : Type 0} (r : Result A E) (P Q : A → Type 0) → ((a : A) → P a → Q a) → IfOk r P → IfOk r Q
if_ok (Ok a) P Q h p = h a p
if_ok (Err e) P Q h p = p

-- what is true of each formula with its derivation is true of the answer
pub if_formula : {E : Type 0} (g : MixedGraph) (x y : ℕ) (r : Result Answer E) (P : PlainFormula → PlainDerivation → Type 0)
    → ((f : PlainFormula) (d : PlainDerivation) → IsDerived g x y f d → P f d)
    → IfOk r (IsAnswerOf Derivation g x y) → IfOk r (λ a. IfFormula a P)
if_formula g x y r P holds found = if_ok r (IsAnswerOf Derivation g x y) (λ a. IfFormula a P) each found
  where
    each : (a : Answer) → IsAnswerOf Derivation g x y a → IfFormula a P
    each (Formula f d) i = holds (formula_view f) (derivation_view d) (i.1 refl)
    each (Hedge h pair) i = tt

-- what is true of each hedge with its two models is true of the answer
pub if_hedge : {E : Type 0} (g : MixedGraph) (x y : ℕ) (r : Result Answer E) (P : HedgeData → CounterPair → Type 0)
    → ((h : HedgeData) (pair : CounterPair) → IsStopHedge g x y h pair → P h pair)
    → IfOk r (IsAnswerOf Derivation g x y) → IfOk r (λ a. IfHedge a P)
if_hedge g x y r P holds found = if_ok r (IsAnswerOf Derivation g x y) (λ a. IfHedge a P) each found
  where
    each : (a : Answer) → IsAnswerOf Derivation g x y a → IfHedge a P
    each (Formula f d) i = tt
    each (Hedge h pair) i = holds h pair i

-- the formula and its derivation nest little
pub shallow_steps : (g : MixedGraph) → IsMixedGraph g → (x y : ℕ) → IsTarget g x y → (f : PlainFormula) (d : PlainDerivation) → IsDerived g x y f d
    → AreShallowSteps d
shallow_steps g valid x y target f d i = let k = derivation_is_accepted g valid x y target f d i in record { main = k.main_deep; lemmas = k.lemmas_deep }

pub shallow_formula : (g : MixedGraph) (x y : ℕ) (f : PlainFormula) (d : PlainDerivation) → IsDerived g x y f d → IsShallowFormula f
shallow_formula g x y f d i = let k = formula_is_shallow g x y f (derived_is_identified g x y f d i) in record { main = k.1; defs = k.0 }

-- where the factor of a district stops, so does the procedure
pub unidentified : (g : MixedGraph) (order ts : List ℕ) (x y d small big : ℕ) → IsOrder g order (length order)
    → AreAncestorsIn g (minus (all g.vertices) x) y d → AreDistricts g d 0 order ts → StopsAt g order 0 ts small big → IsUnidentified g x y small big
unidentified g order ts x y d small big is_order is_d districts stops =
    let split : Split g order x y = record { d = d; is_d = is_d; districts = ts; are_districts = districts } in
    record { order = order; is_order = is_order; stop = record { split = split; stops = stops } }

-- the same of a hedge of these sets
pub unidentified_at : (g : MixedGraph) (x y : ℕ) (small big : VSet) (h : HedgeData) → h.small ≡ small → h.big ≡ big → IsUnidentified g x y small.bits big.bits
    → IsUnidentified g x y h.small.bits h.big.bits
unidentified_at g x y small big h s b u = subst (λ (z : VSet). IsUnidentified g x y z.bits h.big.bits) (sym s)
    (subst (λ (z : VSet). IsUnidentified g x y small.bits z.bits) (sym b) u)

-- a formula with its derivation is right
pub right_formula : (g : MixedGraph) → IsMixedGraph g → (x y : ℕ) → IsTarget g x y → (f : PlainFormula) (d : PlainDerivation) → IsDerived g x y f d
    → IsRightFormula g x y f d
right_formula g valid x y target f d i =
    let is = derived_is_identified g x y f d i in
    let a = derivation_is_accepted g valid x y target f d i in
    record {
      formed = formula_is_formed g valid x y target f is;
      do_free = a.accepted.listed;
      names = formula_names_ancestors g valid x y target f is;
      accepted = a.accepted;
      effect = (accepted_is_effect g valid [] (effect_on x y) f d (target_term g x y target) a.accepted).1;
    }

module _ (g : MixedGraph) (valid : IsMixedGraph g) (few : g.vertices ≤ 64) (x y : ℕ) (target : IsTarget g x y) (off : Apart (has x) (has y)) where
  -- a hedge with its two models is right
  pub right_hedge : (h : HedgeData) (pair : CounterPair) → IsHedge g x y h → IsPairOf g x y h pair → IsRightHedge g x y h pair
  right_hedge h pair is models = let two = counter g valid few x y h is off pair models in record {
    hedge = sets_form_hedge g x y h valid few is;
    counter = two;
    no_formula = no_formula g valid x y pair two;
  }

  pub right : (a : Answer) → IsAnswerOf Derivation g x y a → IsRight g x y a
  right (Formula f d) i = right_formula g valid x y target (formula_view f) (derivation_view d) (i.1 refl)
  right (Hedge h pair) i = right_hedge h pair i.2 i.3

  -- a formula and a hedge never exist together
  pub never_both : (f : PlainFormula) (d : PlainDerivation) → IsDerived g x y f d → (h : HedgeData) → IsHedge g x y h → ⊥
  never_both f d i h is =
      let found = right_formula g valid x y target f d i in
      let two = pair_of g valid few x y h is in
      (right_hedge h two is (is_pair g valid few x y h is)).no_formula f found.do_free found.effect

  pub exact : (a : Answer) → IsAnswerOf Derivation g x y a → IsTrue (is_hedge a) ↔ ((h : HedgeData) × IsHedge g x y h)
  exact (Formula f d) i = (λ t. absurd (grind (arith, t)), λ p. absurd (never_both (formula_view f) (derivation_view d) (i.1 refl) p.0 p.1))
  exact (Hedge h pair) i = (λ t. (h, i.2), λ p. refl)
