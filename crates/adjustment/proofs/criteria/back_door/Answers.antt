use Rattle.std.proofs.Common.{ℕ, ◌≡◌, refl, sym, subst}
use mathlib.Core.Path.{fun_ext}
use Rattle.std.proofs.lemmas.Bool.{eq-eqb}
use Rattle.mixed_graph.specs.Vocabulary.{has, IsDescendant, graph_of, one}
use Rattle.mixed_graph.proofs.Masks.{has-pow}
use Rattle.m_separation.specs.Vocabulary.{IsOpenPath, IsSeparated}
use Rattle.do_rules.specs.Vocabulary.{cut_out, AreThreeSets}
use Rattle.adjustment.specs.Faults.{IsClearOf}
use Rattle.adjustment.proofs.Effects.{unconfounded_adjusts}
use Rattle.adjustment.proofs.Separating.{only, back_door_from, back_door_path}
use Rattle.adjustment.proofs.criteria.back_door.Goals as goal
use Rattle.adjustment.proofs.criteria.back_door.Goals.{After-open_path}

exposure_is : (c : After-open_path) → has c.one-exposure.result.bits ≡ only c.args.x
exposure_is c = fun_ext c.one-exposure.ensures.members

clear : (c : After-open_path) → IsClearOf (IsDescendant (graph_of c.args.g.now) (only c.args.x)) (has c.args.z.bits)
clear c = let none = c.in_default.ensures.none in
    λ v zv d. none v zv ((c.descendants.ensures v).1 (subst (λ t. IsDescendant (graph_of c.args.g.now) t v) (sym (exposure_is c)) d))

separates : (c : After-open_path) → IsSeparated (graph_of c.cut_out.result) (has c.one-exposure.result.bits) (has c.args.y.bits) (has c.args.z.bits)
    → IsSeparated (cut_out (graph_of c.args.g.now) (only c.args.x)) (only c.args.x) (has c.args.y.bits) (has c.args.z.bits)
separates c sep =
    subst (λ t. IsSeparated (cut_out (graph_of c.args.g.now) t) t (has c.args.y.bits) (has c.args.z.bits)) (exposure_is c)
    (subst (λ h. IsSeparated h (has c.one-exposure.result.bits) (has c.args.y.bits) (has c.args.z.bits)) c.cut_out.ensures sep)

bit_is : (x : ℕ) → only x ≡ has (one x)
bit_is x = sym (fun_ext (has-pow x))

pub returns-in-None-clause-meets : goal.returns-in-None-clause-meets
returns-in-None-clause-meets c = let a = (goal.at.returns-in-None-clause-meets c).After-open_path in
    back_door_from (graph_of c.args.g.now) c.args.g.now.valid c.args.x (has c.args.z.bits) (has c.args.y.bits)
    (c.requires.sets.x_y c.args.x (eq-eqb c.args.x c.args.x refl)) (clear a) (separates a c.in-None.ensures.none)

pub returns-in-None-clause-effect : goal.returns-in-None-clause-effect
returns-in-None-clause-effect c = let a = (goal.at.returns-in-None-clause-effect c).After-open_path in
    unconfounded_adjusts (graph_of c.args.g.now) c.args.g.now.valid c.args.x c.args.y.bits c.args.z.bits
    (subst (λ t. AreThreeSets c.args.g.now.n t (has c.args.y.bits) (has c.args.z.bits)) (bit_is c.args.x) c.requires.sets) (clear a)
    (subst (λ t. IsSeparated (cut_out (graph_of c.args.g.now) t) t (has c.args.y.bits) (has c.args.z.bits)) (bit_is c.args.x)
    (separates a c.in-None.ensures.none))

pub returns-in-Some-open_path-clause-fault : goal.returns-in-Some-open_path-clause-fault
returns-in-Some-open_path-clause-fault c = let a = (goal.at.returns-in-Some-open_path-clause-fault c).After-open_path in (
  clear a,
  back_door_path (graph_of c.args.g.now) c.args.g.now.valid c.args.x (has c.args.z.bits) (has c.args.y.bits)
      (c.requires.sets.x_y c.args.x (eq-eqb c.args.x c.args.x refl)) c.in-Some-open_path.path
      (subst (λ t. IsOpenPath (cut_out (graph_of c.args.g.now) t) t (has c.args.y.bits) (has c.args.z.bits)
      c.in-Some-open_path.path.vertices c.in-Some-open_path.path.marks c.in-Some-open_path.path.count) (exposure_is a)
      (subst (λ h. IsOpenPath h (has c.one-exposure.result.bits) (has c.args.y.bits) (has c.args.z.bits)
      c.in-Some-open_path.path.vertices c.in-Some-open_path.path.marks c.in-Some-open_path.path.count) c.cut_out.ensures
      c.in-Some-open_path.ensures.found)),
)
