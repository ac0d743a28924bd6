-- Observations that turn into interventions one after the other: what the rest turns into, all turns into.
use Rattle.std.proofs.Common.{ℕ, ◌+◌, ◌≡◌, ◌<◌, Bool, true, false, not, refl, sym, ap, subst, ◌∙◌, ◌&&◌, ◌||◌, inl, inr, List, [], ◌∷◌, ◌++◌, append_assoc}
use Rattle.std.proofs.Common.{append-nil, arith}
use Rattle.std.proofs.lemmas.Bool.{cases_lt}
use Rattle.conditional_id.specs.HedgeLaws.{HasOpenWalkTo, HaveOpenWalks}
use Rattle.conditional_id.specs.Moves.{AreMoved, IsLowestTurning}
use Rattle.conditional_id.specs.declared.answer.Turned.{Turned}
use Rattle.conditional_id.proofs.TurningLaw.{moved_target, targeted}
use Rattle.conditional_id.specs.Conditionals.AreTurned.{move, still}
use Rattle.conditional_id.specs.Conditionals.{AreTurned, IsConditionalTarget, IsTurning, turned_steps}
use Rattle.do_derivation.proofs.StepViews.{step-Make}
use Rattle.do_derivation.specs.Plans.{Move, Plan, Plans, plan}
use Rattle.do_derivation.specs.declared.steps.Step.{Step}
use Rattle.do_derivation.specs.declared.steps.Step.{Make}
use Rattle.do_derivation.specs.declared.moves.Move.TheVariants.{WithSet}
use Rattle.do_derivation.specs.declared.moves.SetMove.TheVariants as set_move
use Rattle.do_rules.specs.declared.rules.Rule.TheVariants.{Two}
use Rattle.do_rules.specs.Vocabulary.{AreFourSets, AreThreeSets, IsBlockedFor, IsOpenFor, cut_into, cut_out}
use Rattle.do_rules.proofs.Failing.{open_walk}
use Rattle.identify.proofs.Steps.{onto_more}
use Rattle.identify.specs.Vocabulary.{onto}
use Rattle.identification_theory.proofs.Bools.{and_l, clash, not_e, and_r}
use Rattle.identification_theory.proofs.Sets.{has-minus, one-is, one-self, smaller}
use Rattle.m_separation.specs.declared.paths.OpenPath.{OpenPath}
use Rattle.m_separation.specs.Vocabulary.{IsOpenPath, IsSeparated}
use Rattle.mixed_graph.specs.declared.sets.VSet.{VSet}
use Rattle.mixed_graph.specs.Vocabulary.{has, MixedGraph, union, minus, one}

-- ---- the sets of a rule
not_true : (p : Bool) → (p ≡ true → ⊥) → p ≡ false
not_true true h = absurd (h refl)
not_true false h = refl

-- v and the rest of z in place of z
pub four_sets : (n x y z v : ℕ) → AreThreeSets n (has x) (has y) (has z) → has z v ≡ true → AreFourSets n (has x) (has y) (has (one v)) (has (minus z (one v)))
four_sets n x y z v k i = record {
  x_within = k.x_within;
  y_within = k.y_within;
  z_within = λ u e. k.w_within u (rw (one-is v u e) i);
  w_within = λ u e. k.w_within u (rest u e).0;
  x_y = k.x_y;
  x_z = λ u e. not_true (has (one v) u) (λ j. clash (has z u) (rw (one-is v u j) i) (k.x_w u e));
  x_w = λ u e. not_true (has (minus z (one v)) u) (λ j. clash (has z u) (rest u j).0 (k.x_w u e));
  y_z = λ u e. not_true (has (one v) u) (λ j. clash (has z u) (rw (one-is v u j) i) (k.y_w u e));
  y_w = λ u e. not_true (has (minus z (one v)) u) (λ j. clash (has z u) (rest u j).0 (k.y_w u e));
  z_w = λ u e. not_true (has (minus z (one v)) u) (λ j. clash (has (one v) u) e (rest u j).1);
}
  where
    rest : (u : ℕ) → has (minus z (one v)) u ≡ true → (has z u ≡ true) × (has (one v) u ≡ false)
    rest u e =
        let q : (has z u && not (has (one v) u)) ≡ true = rw (has-minus z (one v) u) at e in
        (and_l (has z u) (not (has (one v) u)) q, not_e (has (one v) u) (and_r (has z u) (not (has (one v) u)) q))

-- the same of sets that are made so
pub four_of : (n x y z v alone rest : ℕ) → alone ≡ one v → rest ≡ minus z alone → AreThreeSets n (has x) (has y) (has z) → has z v ≡ true
    → AreFourSets n (has x) (has y) (has alone) (has rest)
four_of n x y z v alone rest e f k i = subst (λ r. AreFourSets n (has x) (has y) (has alone) (has r)) (sym (f ∙ ap (minus z) e))
    (subst (λ a. AreFourSets n (has x) (has y) (has a) (has (minus z (one v)))) (sym e) (four_sets n x y z v k i))

pub blocked_to : (g : MixedGraph) (x y z v alone rest : ℕ) → alone ≡ one v → rest ≡ minus z alone → IsBlockedFor Two g (has x) (has y) (has alone) (has rest)
    → IsTurning g x y z v
blocked_to g x y z v alone rest e f h = subst (λ r. IsBlockedFor Two g (has x) (has y) (has (one v)) (has r)) (f ∙ ap (minus z) e)
    (subst (λ a. IsBlockedFor Two g (has x) (has y) (has a) (has rest)) e h)

pub open_to : (g : MixedGraph) (x y z v alone rest : ℕ) (p : OpenPath) → alone ≡ one v → rest ≡ minus z alone
    → IsOpenFor Two g (has x) (has y) (has alone) (has rest) p → IsOpenFor Two g (has x) (has y) (has (one v)) (has (minus z (one v))) p
open_to g x y z v alone rest p e f h = subst (λ r. IsOpenFor Two g (has x) (has y) (has (one v)) (has r) p) (f ∙ ap (minus z) e)
    (subst (λ a. IsOpenFor Two g (has x) (has y) (has a) (has rest) p) e h)

-- a path that is open for rule 2 is an open walk
pub walk_of : (g : MixedGraph) (x y z v : ℕ) (p : OpenPath) → IsOpenFor Two g (has x) (has y) (has (one v)) (has (minus z (one v))) p
    → HasOpenWalkTo g x y z v
walk_of g x y z v p o = open_walk (cut_out (cut_into g (has x)) (has (one v))) (has y) (has (one v)) (λ u. has x u || has (minus z (one v)) u) p
    (subst (λ h. IsOpenPath h (has y) (has (one v)) (λ u. has x u || has (minus z (one v)) u) p.vertices p.marks p.count) o.is_graph o.path)

-- and excludes that the observation turns
pub walk_excludes : (g : MixedGraph) (x y z v : ℕ) → HasOpenWalkTo g x y z v → IsTurning g x y z v → ⊥
walk_excludes g x y z v walk turns =
    let separated = subst (λ h. IsSeparated h (has y) (has (one v)) (λ u. has x u || has (minus z (one v)) u)) turns.is_graph turns.separated in
    separated walk.0 walk.1 walk.2

-- what a move leaves is a smaller number
pub move_smaller : (z v : ℕ) → has z v ≡ true → minus z (one v) < z
move_smaller z v i = smaller (minus z (one v)) z (λ u e. and_l (has z u) (not (has (one v) u)) (rw (has-minus z (one v) u) at e))
    (λ same. clash (has (minus z (one v)) v) (ap (λ w. has w v) same ∙ i) (has-minus z (one v) v ∙ rw (one-self v) (bools (has z v))))
  where
    bools : (b : Bool) → (b && not true) ≡ false
    bools b = grind arith

-- all below v + 1 have P where all below v have it, and v
pub all_more : (P : ℕ → Type 0) (v : ℕ) → ((u : ℕ) → u < v → P u) → P v → (u : ℕ) → u < v + 1 → P u
all_more P v h k u lt = elim (cases_lt u v) [
  | inl less ↦ h u less
  | inr more ↦ subst P (let e : v ≡ u = omega (arith, more, lt) in e) k
]

-- ---- the moves
abbrev pub MovesTo : MixedGraph → (y x z : ℕ) → List ℕ → (x1 z1 : ℕ) → Type 0
MovesTo g y x z done x1 z1 = (x' z' : ℕ) (vs : List ℕ) → AreTurned g y x1 z1 x' z' vs → AreTurned g y x z x' z' (done ++ vs)

steps_more : (done : List ℕ) (v : ℕ) (rest : Plans) → turned_steps (done ++ v ∷ []) rest ≡ turned_steps done (plan (Plan.Make (Move.WithSet set_move.Rule2Do (one v))) rest)
steps_more [] v rest = refl
steps_more (u ∷ done) v rest = ap (λ p. plan (Plan.Make (Move.WithSet set_move.Rule2Do (one u))) p) (steps_more done v rest)

-- these vertices moved, by these steps, which left x1 and z1
pub record Moving (g : MixedGraph) (y x z x1 z1 : ℕ) (steps : List Step) : Type 0 where
  pub done : List ℕ
  pub moves : MovesTo g y x z done x1 z1
  pub are : (rest : Plans) → onto steps rest ≡ turned_steps done rest
  pub target : IsConditionalTarget g (targeted x1 y z1)

pub moving_none : (g : MixedGraph) (y x z : ℕ) → IsConditionalTarget g (targeted x y z) → (steps : List Step) → steps ≡ [] → Moving g y x z x z steps
moving_none g y x z k steps e = record { done = []; moves = λ x' z' vs t. t; are = λ rest. ap (λ l. onto l rest) e; target = k }

moving_one : (g : MixedGraph) (y x z x1 z1 v : ℕ) (steps : List Step) (alone : VSet) → alone.bits ≡ one v → Moving g y x z x1 z1 steps
    → IsLowestTurning g x1 y z1 v
    → Moving g y x z (union x1 (one v)) (minus z1 (one v)) (steps ++ Make (WithSet set_move.Rule2Do alone) ∷ [])
moving_one g y x z x1 z1 v steps alone e m l = record {
  done = m.done ++ v ∷ [];
  moves = λ x' z' vs r. subst (λ w. AreTurned g y x z x' z' w) (sym (append_assoc m.done (v ∷ []) vs))
      (m.moves x' z' (v ∷ vs) (move l.member l.turns l.lowest r));
  are = λ rest. onto_more steps (Make (WithSet set_move.Rule2Do alone)) rest ∙ (ap (λ p. onto steps (plan p rest)) (step-Make (WithSet set_move.Rule2Do alone) ∙ ap (λ w. Plan.Make (Move.WithSet set_move.Rule2Do w)) e)
      ∙ (m.are (plan (Plan.Make (Move.WithSet set_move.Rule2Do (one v))) rest) ∙ sym (steps_more m.done v rest)));
  target = moved_target g y x1 z1 v l.member m.target;
}

pub moving_more : (g : MixedGraph) (y x z x1 z1 v : ℕ) (steps : List Step) (alone : VSet) → alone.bits ≡ one v → Moving g y x z x1 z1 steps
    → IsLowestTurning g x1 y z1 v
    → (x2 z2 : ℕ) (more : List Step) → x2 ≡ union x1 alone.bits → z2 ≡ minus z1 alone.bits → more ≡ steps ++ Make (WithSet set_move.Rule2Do alone) ∷ [] → Moving g y x z x2 z2 more
moving_more g y x z x1 z1 v steps alone e m l x2 z2 more a b d =
    subst (λ u. Moving g y x z u z2 more) (sym (a ∙ ap (union x1) e)) (subst (λ u. Moving g y x z (union x1 (one v)) u more) (sym (b ∙ ap (minus z1) e))
    (subst (λ u. Moving g y x z (union x1 (one v)) (minus z1 (one v)) u) (sym d) (moving_one g y x z x1 z1 v steps alone e m l)))

pub moving_all : (g : MixedGraph) (y x z : ℕ) (r : Turned) → Moving g y x z r.doing.bits r.left.bits r.steps.items → HaveOpenWalks g r.doing.bits y r.left.bits
    → AreMoved g y x z r
moving_all g y x z r m walks = record {
  moved = m.done;
  turned = subst (λ w. AreTurned g y x z r.doing.bits r.left.bits w) (append-nil m.done) (m.moves r.doing.bits r.left.bits []
      (still (λ v member turns. walk_excludes g r.doing.bits y r.left.bits v (walks v member) turns)));
  steps = m.are;
  walks = walks;
}
