-- A factor that doesn't stop is there, and so is the formula of all factors.
use Rattle.std.specs.Prelude.{Option, Some, None, IfSome, IfNone}
use Rattle.std.proofs.Common.{ℕ, suc, ◌+◌, ◌≡◌, ◌≢◌, ◌≤◌, ◌↔◌, Bool, true, false, List, [], ◌∷◌, ◌++◌, length, IsTrue, inl, inr, refl, ap, ◌∙◌, subst, not}
use Rattle.mixed_graph.specs.Vocabulary.{has, MixedGraph, IsMixedGraph, all, minus, IsOrder, Apart}
use Rattle.finite_models.specs.Vocabulary.{meaning}
use Rattle.hedge.specs.declared.hedge.Hedge.{Hedge}
use Rattle.hedge.specs.Vocabulary.{IsDistrict, AreDistricts, AreDistrictsOf, AreSetsOfHedge, IsHedge}
use Rattle.prob_expr.specs.Tree.{Tree, tree, sum, prob}
use Rattle.prob_expr.specs.Vocabulary.{Trees, no_trees, PlainFormula, effect_on, DifferOnTarget}
use Rattle.prob_expr.proofs.Excluded.{unequal_weights, difference_excludes_formula}
use Rattle.identification_theory.specs.Vocabulary.{AreAncestorsIn, Source, IsFactor, IsStopped, AreFactored, StopsAt, product_of, sum_if, IsTarget, IsIdentified, AreRoots}
use Rattle.identification_theory.proofs.Answered.{stop_is_hedge}
use Rattle.identification_theory.proofs.Formulas.{formula_is_accepted}
use Rattle.counter_models.proofs.HedgePair.{pair as pair_of, is_pair}
use Rattle.identify.specs.Deciding.{IsIdentifiable, IsNotIdentifiable, HasRightFormula, HasModels, HasRightHedge, IsExpressible, IsStoppedFrom, AreFactorable}
use Rattle.std.proofs.lemmas.Bool.{cases_eq}
use Rattle.std.specs.Option.{is_some}
use Rattle.identify.proofs.Links.{body_of}
use Rattle.identify.proofs.RightAnswers.{right_formula, right_hedge, unidentified}

-- what comes to a factor from the set a, or to a stop, comes to it from the first set
pub record Approaching (g : MixedGraph) (c first a : ℕ) : Type 0 where
  pub expressed : IsExpressible g c a → IsExpressible g c first
  pub stopped : (big : ℕ) → IsStopped g c a big → IsStopped g c first big

pub approaching_none : (g : MixedGraph) (c a : ℕ) → Approaching g c a a
approaching_none g c a = record { expressed = λ e. e; stopped = λ big s. s }

module _ (g : MixedGraph) (valid : IsMixedGraph g) (few : g.vertices ≤ 64) (c : ℕ) where
  pub whole : (a t : ℕ) → IsDistrict g a c t → t ≡ c → IsExpressible g c a
  whole a t d e order from k = let d' = subst (IsDistrict g a c) e d in let b = body_of g valid few from a c order in ([], b.0, IsFactor.whole d' b.1)

  pub summed : (a t a2 : ℕ) → IsDistrict g a c t → t ≢ c → AreAncestorsIn g t c a2 → a2 ≡ c → IsExpressible g c a
  summed a t a2 d larger leads e order from k =
      let b = body_of g valid few from a t order in ([], sum (minus t c) b.0, IsFactor.summed d larger (subst (AreAncestorsIn g t c) e leads) b.1)

  pub approaching_further : (first a t a2 : ℕ) → IsDistrict g a c t → t ≢ c → AreAncestorsIn g t c a2 → a2 ≢ t → a2 ≢ c → Approaching g c first a
      → Approaching g c first a2
  approaching_further first a t a2 d larger leads smaller more is = record {
    expressed = λ e. is.expressed (λ order from k. let b = body_of g valid few from a t order in let r = e order (Source.Defined k) (suc k) in
        (sum (minus t a2) b.0 ∷ r.0, r.1, IsFactor.further d larger leads smaller more b.1 r.2));
    stopped = λ big s. is.stopped big (IsStopped.later d larger leads smaller more s);
  }

module _ (g : MixedGraph) where
  pub factorable_append : (ts us : List ℕ) → AreFactorable g ts → AreFactorable g us → AreFactorable g (ts ++ us)
  factorable_append [] us a b = b
  factorable_append (t ∷ ts) us a b = (a.0, factorable_append ts us a.1 b)

  -- the factors of all districts
  pub factored : (order : List ℕ) (k : ℕ) (ts : List ℕ) → AreFactorable g ts → (es : List Tree) × (fs : Trees) × AreFactored g order k ts es fs
  factored order k [] are = ([], no_trees, AreFactored.none)
  factored order k (c ∷ cs) are =
      let f = are.0.factor order (Source.Under 0) k in
      let r = factored order (k + length f.0) cs are.1 in
      (f.0 ++ r.0, tree f.1 r.1, AreFactored.next are.0.ancestors f.2 r.2)

  -- the first district whose factor stops
  pub stops_behind : (order : List ℕ) (k : ℕ) (ts rest : List ℕ) (c big : ℕ) → AreFactorable g ts → IsStoppedFrom g c big → StopsAt g order k (ts ++ c ∷ rest) c big
  stops_behind order k [] rest c big are s = StopsAt.first s.ancestors s.stops
  stops_behind order k (t ∷ ts) rest c big are s =
      let f = are.0.factor order (Source.Under 0) k in
      StopsAt.after are.0.ancestors f.2 (stops_behind order (k + length f.0) ts rest c big are.1 s)

module _ (g : MixedGraph) (valid : IsMixedGraph g) (few : g.vertices ≤ 64) (x y : ℕ) (target : IsTarget g x y) (off : Apart (has x) (has y)) where
  -- what the procedure identifies has a right formula
  pub identified : (f : PlainFormula) → IsIdentified g x y f → HasRightFormula g x y
  identified f is = let k = formula_is_accepted g valid x y target f is in
      record { formula = f; derivation = k.0; right = right_formula g valid x y target f k.0 k.1 }

  identified_plainly : (order : List ℕ) → IsOrder g order (length order) → x ≡ 0 → HasRightFormula g x y
  identified_plainly order is_order none = identified (record { defs = []; main = prob y 0 0 })
      (record { order = order; is_order = is_order; answer = inl (none, refl) })

  composed : (order : List ℕ) → IsOrder g order (length order) → x ≢ 0 → (d : ℕ) → AreAncestorsIn g (minus (all g.vertices) x) y d → (ts : List ℕ)
      → AreDistricts g d 0 order ts → AreFactorable g ts → HasRightFormula g x y
  composed order is_order some d is_d ts districts are = let r = factored g order 0 ts are in
      identified (record { defs = r.0; main = sum_if (minus d y) (product_of r.1) }) (record {
        order = order;
        is_order = is_order;
        answer = inr (
          some,
          record {
            split = record { d = d; is_d = is_d; districts = ts; are_districts = districts };
            factors = r.1;
            are_factored = r.2;
            main = refl;
          },
        );
      })

  -- where no district stops there is a right formula
  pub never_stopped : (d : ℕ) → AreAncestorsIn g (minus (all g.vertices) x) y d → (ts : List ℕ) → AreDistrictsOf g d ts → AreFactorable g ts
      → HasRightFormula g x y
  never_stopped d is_d ts districts are = elim (cases_eq x 0) [
    | inl none ↦ identified_plainly districts.order districts.is_order none
    | inr some ↦ composed districts.order districts.is_order some d is_d ts districts.districts are
  ]

  -- and where one does, the two sets are those of a hedge
  pub stopped_sets : (d : ℕ) → AreAncestorsIn g (minus (all g.vertices) x) y d → (ts : List ℕ) → AreDistrictsOf g d ts → (small big : ℕ)
      → ((order : List ℕ) → StopsAt g order 0 ts small big) → (roots : ℕ) → AreRoots g small roots → AreSetsOfHedge g x y big small roots
  stopped_sets d is_d ts districts small big stops roots are = stop_is_hedge g valid x y small big roots target
      (unidentified g districts.order ts x y d small big districts.is_order is_d districts.districts (stops districts.order)) are

  -- each hedge has two models
  pub with_models : (h : Hedge) → IsHedge g x y h → HasModels g x y h
  with_models h is = record { pair = pair_of g valid few x y h is; right = right_hedge g valid few x y target off h _ is (is_pair g valid few x y h is) }

-- a right formula is one, and the two models of a right hedge are two
pub is_identifiable : (g : MixedGraph) (x y : ℕ) → HasRightFormula g x y → IsIdentifiable g x y
is_identifiable g x y f = record { formula = f.formula; do_free = f.right.do_free; effect = f.right.effect }

pub is_not : (g : MixedGraph) (x y : ℕ) → HasRightHedge g x y → IsNotIdentifiable g x y
is_not g x y h = let two = h.models.right.counter in record {
  first = meaning g h.models.pair.first;
  second = meaning g h.models.pair.second;
  first_fits = two.first.fits;
  second_fits = two.second.fits;
  first_positive = two.first.positive;
  second_positive = two.second.positive;
  observed = two.observed;
  differ = two.each;
}

-- never both
pub never_both : (g : MixedGraph) → IsMixedGraph g → (x y : ℕ) → IsIdentifiable g x y → IsNotIdentifiable g x y → ⊥
never_both g valid x y f n = difference_excludes_formula g valid n.first n.second n.first_fits n.second_fits n.first_positive n.second_positive n.observed
    (effect_on x y) differ_on f.formula f.do_free f.effect
  where
    differ_on : DifferOnTarget n.first n.second (effect_on x y)
    differ_on a within =
        let d = n.differ a within in (
          record { at = d.0.at; within = d.0.within; unequal = unequal_weights n.first n.second x y d.0.at d.0.unequal },
          d.1,
        )

-- where there is always one of the two, a test that tells which is exact
module _ (g : MixedGraph) (valid : IsMixedGraph g) (x y : ℕ) (b : Bool) (yes : b ≡ true → HasRightFormula g x y) (no : b ≡ false → HasRightHedge g x y) where
  pub exact_yes : IsTrue b ↔ IsIdentifiable g x y
  exact_yes = (λ e. is_identifiable g x y (yes e), go b refl)
    where
      go : (c : Bool) → b ≡ c → IsIdentifiable g x y → b ≡ true
      go true e f = e
      go false e f = absurd (never_both g valid x y f (is_not g x y (no e)))

  pub exact_no : (b ≡ false) ↔ IsNotIdentifiable g x y
  exact_no = (λ e. is_not g x y (no e), go b refl)
    where
      go : (c : Bool) → b ≡ c → IsNotIdentifiable g x y → b ≡ false
      go false e n = e
      go true e n = absurd (never_both g valid x y (is_identifiable g x y (yes e)) n)

-- what is known of a hedge that may be there
module _ (g : MixedGraph) (x y : ℕ) (o : Option Hedge) (b : Bool) (is : is_some o ≡ not b) where
  pub has_hedge : IfSome o (HasModels g x y) → b ≡ false → HasRightHedge g x y
  has_hedge models e = go o models (is ∙ ap not e)
    where
      go : (r : Option Hedge) → IfSome r (HasModels g x y) → is_some r ≡ true → HasRightHedge g x y
      go (Some h) m i = record { hedge = h; models = m }
      go None m i = absurd (let k = i in cc)

  pub has_formula : IfNone o (HasRightFormula g x y) → b ≡ true → HasRightFormula g x y
  has_formula formula e = go o formula (is ∙ ap not e)
    where
      go : (r : Option Hedge) → IfNone r (HasRightFormula g x y) → is_some r ≡ false → HasRightFormula g x y
      go None f i = f
      go (Some h) f i = absurd (let k = i in cc)
