-- Where a path is open some model has its ends dependent, and the equation of its rule fails there.
use Rattle.std.proofs.Common.{ℕ, suc, ◌+◌, ◌-◌, ◌*◌, ◌≡◌, ◌≢◌, ◌<◌, ◌≤◌, ◌⊎◌, inl, inr, Bool, true, false, not, ◌&&◌, ◌||◌, List, [], ◌∷◌, length}
use Rattle.std.proofs.Common.{slice_index, refl, sym, ap, ap₂, ◌∙◌, subst, arith}
use Rattle.std.proofs.lemmas.Bool.{cases_lt, not-true}
use Rattle.mixed_graph.specs.Vocabulary.{MixedGraph, IsMixedGraph, IsAncestor, IsDirectedPath}
use Rattle.do_rules.specs.Cuts.{cut_into, cut_out}
use Rattle.do_rules.proofs.Fewer.{HasFewer, fewer_into, fewer_out, graph_into, path_of_fewer}
use Rattle.m_separation.specs.declared.marks.Mark.{Mark}
use Rattle.m_separation.specs.declared.marks.Mark.TheVariants.{Out, Into, Both}
use Rattle.m_separation.specs.declared.paths.OpenPath.{OpenPath}
use Rattle.m_separation.specs.Vocabulary.{IsJoined, HasOpenWalk, heads_second, IsOpenPath, steps_from}
use Rattle.finite_models.specs.Vocabulary.{event_weight, weight_of}
use Rattle.finite_models.proofs.Bools.{and_second, not_both}
use Rattle.finite_models.proofs.Weights.{weight_of-none}
use Rattle.walk_models.specs.Vocabulary.{Walk, is_collider, IsBelowSomewhere, IsWalkTo, event}
use Rattle.walk_models.proofs.Stricts.{open_walks_depend}
use Rattle.walk_models.proofs.Told.{seen_ends_tell}
use Rattle.walk_models.proofs.Done.{done_ends_tell}
use Rattle.walk_models.proofs.Free.{done_ends_are_free, given_ends_tell}
use Rattle.do_rules.specs.Rules.{AreFourSets, AreDependent, DifferSomewhere, IsRuleGraph, IsFarPart, Side, left_of, right_of, OpenRulesFail}
use Rattle.do_rules.specs.Rules.{IndependenceIsSeparation, PositiveIndependenceIsSeparation, RuleIsSeparation}
use Rattle.do_rules.specs.declared.rules.Rule.{Rule}
use Rattle.do_rules.specs.declared.rules.Rule.TheVariants.{One, Two, Three}
use Rattle.do_rules.proofs.Holds.{independent_holds, rule_holds}
use Rattle.do_rules.proofs.RuleGraphs.{cut_graph}
use Rattle.do_rules.proofs.RuleWalks.{Arrival, arrives, walk_to, fewer_twice, joined_more, leads_more, extended, at_low, at_high, mark_low, mark_high}
use Rattle.do_rules.proofs.RuleWalks.{collider_low, collider_high, walk_on, path_at, path_end, path_outside}

less_differs : (a b : ℕ) → a < b → b ≡ a → ⊥
less_differs a b lt e = absurd (omega (arith, lt, e))

-- ---- independence
pub dependent : (g : MixedGraph) → IsMixedGraph g → (x y w : ℕ → Bool) → HasOpenWalk g x y w → AreDependent g x y w
dependent g ok x y w walk =
    let d = open_walks_depend g ok x y w walk in
    let seen = λ (a : ℕ → Bool). weight_of-none d.model (λ v. false) a d.at (λ v. refl) in
    record {
      model = d.model;
      fits = d.fits;
      positive = d.positive;
      two = d.two;
      at = d.at;
      within = d.less.within;
      unequal = λ e. less_differs (event_weight d.model (λ v. x v || w v) d.at * event_weight d.model (λ v. y v || w v) d.at)
          (event_weight d.model (λ v. x v || (y v || w v)) d.at * event_weight d.model w d.at)
          (subst (λ n. n < event_weight d.model (λ v. x v || (y v || w v)) d.at * event_weight d.model w d.at)
          (ap₂ (λ a b. a * b) (seen (λ v. x v || w v)) (seen (λ v. y v || w v)))
          (subst (λ n. weight_of d.model (λ v. false) (λ v. x v || w v) d.at * weight_of d.model (λ v. false) (λ v. y v || w v) d.at < n)
          (ap₂ (λ a b. a * b) (seen (λ v. x v || (y v || w v))) (seen w)) d.less.below))
          e;
    }

-- ---- the rules
-- a side's probability is above another's where the products say so
above : (g : MixedGraph) (left right : Side)
    → IsBelowSomewhere g (event right.doing (λ v. right.of v || right.given v)) (event left.doing left.given)
    (event left.doing (λ v. left.of v || left.given v)) (event right.doing right.given)
    → DifferSomewhere g left right
above g left right d =
    record {
      model = d.model;
      fits = d.fits;
      positive = d.positive;
      two = d.two;
      at = d.at;
      within = d.less.within;
      unequal = λ e. absurd
          (omega (arith, e.products, d.less.below));
    }

-- and below it
below : (g : MixedGraph) (left right : Side)
    → IsBelowSomewhere g (event left.doing (λ v. left.of v || left.given v)) (event right.doing right.given)
    (event right.doing (λ v. right.of v || right.given v)) (event left.doing left.given)
    → DifferSomewhere g left right
below g left right d =
    record {
      model = d.model;
      fits = d.fits;
      positive = d.positive;
      two = d.two;
      at = d.at;
      within = d.less.within;
      unequal = λ e. absurd
          (omega (arith, e.products, d.less.below));
    }

-- no edge has an arrowhead at a member of x, once those are cut
pub headless_into : (g : MixedGraph) (x : ℕ → Bool) (k : Mark) (u v : ℕ) → IsJoined (cut_into g x) u k v → heads_second k ≡ true → x v ≡ false
headless_into g x Out u v j e = not-true (x v) (and_second (g.arrow u v) (not (x v)) j)
headless_into g x Into u v j e = absurd (grind (arith, e))
headless_into g x Both u v j e = not-true (x v) (and_second (not (x u)) (not (x v)) (and_second (g.both u v) (not (x u) && not (x v)) j))

module _ (g : MixedGraph) (ok : IsMixedGraph g) (x y z w : ℕ → Bool) (sets : AreFourSets g.vertices x y z w) where
  abbrev cut : MixedGraph
  cut = cut_into g x

  cut_ok : IsMixedGraph cut
  cut_ok = graph_into g x ok

  -- ---- rule 1
  one : HasOpenWalk cut y z (λ v. x v || w v) → DifferSomewhere g (left_of One x y z w) (right_of One x y z w)
  one walk =
      let p = walk_to cut cut_ok x (headless_into g x) w y z walk in
      above g (left_of One x y z w) (right_of One x y z w) (seen_ends_tell g ok p.0 x w y z (leads_more cut g (fewer_into g x ok) p.0 x w y z p.1))

  -- the walk of an open one in a graph with fewer edges still, up to its first visit in z
  arrival : (h : MixedGraph) → HasFewer h cut → IsMixedGraph h → HasOpenWalk h y z (λ v. x v || w v) → Arrival h x w y z
  arrival h fewer h_ok walk =
      let p = walk_to h h_ok x (λ k u v j e. headless_into g x k u v (joined_more h cut fewer u k v j) e) w y z walk in
      arrives h p.0 x w y z sets.y_z sets.z_w p.1

  whole : (h : MixedGraph) → HasFewer h cut → (a : Arrival h x w y z) → IsWalkTo g a.walk x w y z
  whole h fewer a = leads_more h g (fewer_twice h cut g fewer (fewer_into g x ok)) a.walk x w y z a.leads

  last_step : (h : MixedGraph) (a : Arrival h x w y z) → IsJoined h (a.walk.at a.before) (a.walk.mark a.before) (a.walk.at (suc a.before))
  last_step h a = a.leads.walk.joined a.before (let e = a.steps in omega (arith, e))

  arrived : (h : MixedGraph) (a : Arrival h x w y z) → z (a.walk.at (suc a.before)) ≡ true
  arrived h a = subst (λ n. z (a.walk.at n) ≡ true) a.steps a.leads.ends

  -- ---- rule 2: no arrow leaves z
  two : HasOpenWalk (cut_out cut z) y z (λ v. x v || w v) → DifferSomewhere g (left_of Two x y z w) (right_of Two x y z w)
  two walk =
      let fewer = fewer_out cut z cut_ok in
      let a = arrival (cut_out cut z) fewer ((cut_graph Two g ok x z w (cut_out cut z) refl).0) walk in
      below g (left_of Two x y z w) (right_of Two x y z w)
      (done_ends_are_free g ok a.walk x w y z a.before (whole (cut_out cut z) fewer a) a.first a.steps
      (λ e. out (a.walk.at a.before) (a.walk.mark a.before) (a.walk.at (suc a.before)) e (last_step (cut_out cut z) a) (arrived (cut_out cut z) a)))
    where
      out : (u : ℕ) (k : Mark) (v : ℕ) → k ≡ Into → IsJoined (cut_out cut z) u k v → z v ≡ true → ⊥
      out u Into v e j i = not_both (z v) i (not-true (z v) (and_second (cut.arrow v u) (not (z v)) j))
      out u Out v e j i = absurd (cc)
      out u Both v e j i = absurd (cc)

  -- ---- rule 3
  -- behind its first visit in z the walk goes on by a directed path to w
  module _ (h : MixedGraph) (fewer : HasFewer h cut) (a : Arrival h x w y z) (above_w : IsAncestor cut w (a.walk.at (suc a.before))) where
    abbrev n : ℕ
    n = suc a.before

    abbrev path : List ℕ
    path = above_w.path

    abbrev on : Walk
    on = extended a.walk n path

    leads : IsWalkTo g a.walk x w y z
    leads = whole h fewer a

    low : n ≤ a.walk.steps
    low = let e = a.steps in omega (arith, e)

    inside : z (a.walk.at n) ≡ true
    inside = arrived h a

    some : (r : List ℕ) → IsDirectedPath cut (a.walk.at n) r above_w.end → 0 < length r
    some [] d = absurd (not_both (w (a.walk.at n)) (ap w d ∙ above_w.inside) (sets.z_w (a.walk.at n) inside))
    some (v ∷ r) d = omega arith

    longer : n < n + length path
    longer = let s = some path above_w.leads in omega (arith, s)

    strict : (i : ℕ) → i ≤ n → (i < n) ⊎ (n ≤ i) → w (on.at i) ≡ is_collider on i
    strict i le (inl lt) = ap w (at_low a.walk n path i le) ∙ leads.strict i (omega (arith, le, low)) ∙ sym (collider_low a.walk n path low i lt)
    strict i le (inr ge) = subst (λ j. w (on.at j) ≡ is_collider on j) (let same : n ≡ i = omega (arith, le, ge) in same)
        (ap w (at_low a.walk n path n (omega arith)) ∙ sets.z_w (a.walk.at n) inside ∙ sym (collider_high a.walk n path))

    outside : (i : ℕ) → (i < n) ⊎ (n ≤ i) → x (on.at i) ≡ false
    outside i (inl lt) = ap x (at_low a.walk n path i (omega (arith, lt))) ∙ leads.outside i (omega (arith, lt, low))
    outside i (inr ge) = ap x (at_high a.walk n path i ge) ∙ path_outside g x (a.walk.at n) path above_w.end (leads.outside n low) above_w.leads (i - n)

    ends : w (on.at (n + length path)) ≡ true
    ends = ap w (at_high a.walk n path (n + length path) (omega arith)
        ∙ ap (path_at (a.walk.at n) path) (let e : (n + length path) - n ≡ length path = omega arith in e)
        ∙ path_end cut (a.walk.at n) path above_w.end above_w.leads) ∙ above_w.inside

    given : a.walk.mark a.before ≢ Into → DifferSomewhere g (left_of Three x y z w) (right_of Three x y z w)
    given head = below g (left_of Three x y z w) (right_of Three x y z w)
        (given_ends_tell g ok on x w y z a.before
        (walk_on a.walk n path g ok leads.walk low above_w.end (path_of_fewer cut g (fewer_into g x ok) (a.walk.at n) path above_w.end above_w.leads))
        (λ i. refl) longer (λ e. head (sym (mark_low a.walk n path a.before (omega arith)) ∙ e))
        (λ i lt le. mark_high a.walk n path i lt) (λ i le. strict i le (cases_lt i n)) (λ i le. outside i (cases_lt i n))
        (ap y (at_low a.walk n path 0 (omega arith)) ∙ leads.begins) ends (ap z (at_low a.walk n path n (omega arith)) ∙ inside)
        (λ i le. ap z (at_low a.walk n path i (omega (arith, le))) ∙ a.first i (let e = a.steps in omega (arith, le, e))))

  module _ (far : ℕ → Bool) (part : IsFarPart g x z w far) where
    abbrev less : MixedGraph
    less = cut_into cut far

    fewer_far : HasFewer less cut
    fewer_far = fewer_into cut far cut_ok

    told : (a : Arrival less x w y z) → a.walk.mark a.before ≡ Into → DifferSomewhere g (left_of Three x y z w) (right_of Three x y z w)
    told a e = above g (left_of Three x y z w) (right_of Three x y z w) (done_ends_tell g ok a.walk x w y z a.before (whole less fewer_far a) a.first a.steps e)

    -- where an arrowhead points there, that member of z is near
    near : (a : Arrival less x w y z) → heads_second (a.walk.mark a.before) ≡ true → a.walk.mark a.before ≢ Into
        → DifferSomewhere g (left_of Three x y z w) (right_of Three x y z w)
    near a e = given less fewer_far a (part.complete (a.walk.at (suc a.before)) (arrived less a)
        (headless_into cut far (a.walk.mark a.before) (a.walk.at a.before) (a.walk.at (suc a.before)) (last_step less a) e))

    three : HasOpenWalk less y z (λ v. x v || w v) → DifferSomewhere g (left_of Three x y z w) (right_of Three x y z w)
    three walk = let a = arrival less fewer_far (graph_into cut far cut_ok) walk in go a (a.walk.mark a.before) refl
      where
        go : (a : Arrival less x w y z) (k : Mark) → a.walk.mark a.before ≡ k → DifferSomewhere g (left_of Three x y z w) (right_of Three x y z w)
        go a Into e = told a e
        go a Out e = near a (ap heads_second e) (λ i. absurd (cc))
        go a Both e = near a (ap heads_second e) (λ i. absurd (cc))

  pub rule_fails : (r : Rule) (h : MixedGraph) → IsRuleGraph r g x z w h → HasOpenWalk h y z (λ v. x v || w v)
      → DifferSomewhere g (left_of r x y z w) (right_of r x y z w)
  rule_fails One h is walk = one (subst (λ k. HasOpenWalk k y z (λ v. x v || w v)) is walk)
  rule_fails Two h is walk = two (subst (λ k. HasOpenWalk k y z (λ v. x v || w v)) is walk)
  rule_fails Three h is walk = three is.0 is.1 (subst (λ k. HasOpenWalk k y z (λ v. x v || w v)) is.2 walk)

-- ---- paths as arrays hold them, and the laws
pub open_walk : (g : MixedGraph) (x y w : ℕ → Bool) (p : OpenPath) → IsOpenPath g x y w p.vertices p.marks p.count → HasOpenWalk g x y w
open_walk g x y w p o = (slice_index p.vertices 0, steps_from p.vertices p.marks 0 (p.count - 1), o.walk)

pub open_rules_fail : OpenRulesFail
open_rules_fail = λ r g ok x y z w sets p o. rule_fails g ok x y z w sets r o.graph o.is_graph (open_walk o.graph y z (λ v. x v || w v) p o.path)

pub independence_is_separation : IndependenceIsSeparation
independence_is_separation =
    λ g ok x y w sets. (independent_holds g ok x y w sets, λ all v r o. let d = dependent g ok x y w (v, r, o) in d.unequal (all d.model d.fits d.at))

pub positive_independence_is_separation : PositiveIndependenceIsSeparation
positive_independence_is_separation = λ g ok x y w sets. (
  λ apart m fits positive. independent_holds g ok x y w sets apart m fits,
  λ all v r o. let d = dependent g ok x y w (v, r, o) in d.unequal (all d.model d.fits d.positive d.at),
)

pub rule_is_separation : RuleIsSeparation
rule_is_separation = λ r g ok x y z w sets h is. (
  λ apart. rule_holds g ok x y z w sets r (record { graph = h; is_graph = is; separated = apart }),
  λ all v s o. let d = rule_fails g ok x y z w sets r h is (v, s, o) in d.unequal (all d.model d.fits d.positive d.at d.within),
)
