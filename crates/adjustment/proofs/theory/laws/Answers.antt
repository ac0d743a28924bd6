use Rattle.std.proofs.Common.{ℕ, ◌↔◌, Bool, IsTrue, sym, refl, ◌∙◌, subst}
use mathlib.Core.Path.{fun_ext}
use Rattle.std.proofs.lemmas.Bool.{eq-eqb}
use Rattle.mixed_graph.specs.Vocabulary.{has, MixedGraph, IsMixedGraph}
use Rattle.mixed_graph.proofs.Masks.{has-pow}
use Rattle.m_separation.specs.Vocabulary.{IsOpenWalk, IsSeparated}
use Rattle.do_rules.specs.Vocabulary.{cut_out, AreThreeSets}
use Rattle.finite_models.proofs.Tested.{Test, tested}
use Rattle.adjustment.specs.Proper.{IsBetween}
use Rattle.adjustment.proofs.Causal.{below_from}
use Rattle.adjustment.proofs.FirstEdges.{back_door_graph_is}
use Rattle.adjustment.proofs.Separating.{separated_from, admissible_from, back_door_separated, back_door_from}
use Rattle.adjustment.proofs.Effects.{admissible_adjusts, unconfounded_adjusts}
use Rattle.adjustment.proofs.FaultWalks.{faults_fail, adjusts_exactly}
use Rattle.adjustment.proofs.theory.laws.Goals as goal

test_is : (g : MixedGraph) → IsMixedGraph g → (x y z : ℕ → Bool) → AreThreeSets g.vertices x y z → (t : Test (IsBetween g x y) g.vertices) → (v : ℕ)
    → IsTrue (t.test v) ↔ IsBetween g x y v
test_is g ok x y z sets t v = (t.sound v, λ b. t.complete v (below_from g ok x y sets.x_within v b).vertex b)

pub returns-clause-admissible : goal.returns-clause-admissible
returns-clause-admissible c = λ g h ok x y z sets k. (
  λ a. (
    a.clear,
    λ v r o. tested (IsBetween g x y) g.vertices (λ t. let b = test_is g ok x y z sets t in
        separated_from g ok x y sets.x_within sets.x_y t.test b z sets.x_w a v r
        (subst (λ q. IsOpenWalk q x y z v r) (back_door_graph_is g ok x y sets.x_within t.test b h k) o)),
  ),
  λ p. record {
    clear = p.0;
    blocked = λ v r q n o. tested (IsBetween g x y) g.vertices (λ t. let b = test_is g ok x y z sets t in
        (admissible_from g ok x y sets.x_within sets.x_y t.test b z p.0
        (subst (λ q. IsSeparated q x y z) (back_door_graph_is g ok x y sets.x_within t.test b h k) p.1)).blocked v r q n o);
  },
)

pub returns-clause-back_door : goal.returns-clause-back_door
returns-clause-back_door c = λ g ok x y z sets. let out = sets.x_y x (eq-eqb x x refl) in
    ((λ k. (k.clear, back_door_separated g ok x z y out k)), (λ p. back_door_from g ok x z y out p.0 p.1))

pub returns-clause-adjusts : goal.returns-clause-adjusts
returns-clause-adjusts c = λ g ok x y z sets a. admissible_adjusts g ok x y z sets a

pub returns-clause-back_door_adjusts : goal.returns-clause-back_door_adjusts
returns-clause-back_door_adjusts c = λ g ok x y z sets k.
    unconfounded_adjusts g ok x y z sets k.clear
    (subst (λ t. IsSeparated (cut_out g t) t (has y) (has z)) (sym (fun_ext (has-pow x)))
    (back_door_separated g ok x (has z) (has y) (sets.x_y x (has-pow x x ∙ eq-eqb x x refl)) k))

pub returns-clause-fails : goal.returns-clause-fails
returns-clause-fails c = faults_fail

pub returns-clause-exact : goal.returns-clause-exact
returns-clause-exact c = adjusts_exactly
