use Rattle.std.proofs.Common.{ℕ, ◌≡◌, ◌↔◌, IsTrue, subst}
use Rattle.mixed_graph.specs.Vocabulary.{has, graph_of}
use Rattle.m_separation.specs.declared.paths.OpenPath.{OpenPath}
use Rattle.m_separation.specs.Vocabulary.{IsOpenPath, IsSeparated}
use Rattle.adjustment.proofs.Causal.{below_from}
use Rattle.adjustment.proofs.FirstEdges.{cut_arrows, firsts, back_door_graph_is}
use Rattle.adjustment.specs.Criteria.{IsForbidden}
use Rattle.adjustment.specs.declared.criteria.AdjFault.TheVariants.{Forbidden, Unblocked}
use Rattle.adjustment.specs.Faults.{IsClearOf, IsLowestIn, IsAdjustmentFault}
use Rattle.adjustment.specs.Parts.{IsLastPart}
use Rattle.adjustment.proofs.FaultWalks.{faults_fail}
use Rattle.adjustment.proofs.Effects.{separating_adjusts}
use Rattle.adjustment.proofs.PathParts.{path_begins, part_unblocked}
use Rattle.adjustment.proofs.Separating.{forbidden_is, admissible_from}
use Rattle.adjustment.proofs.criteria.adjusts.Goals as goal
use Rattle.adjustment.proofs.criteria.adjusts.Goals.{After-descendants-forbidden, After-open_path}

pub descendants-forbidden-requires : goal.descendants-forbidden-requires
descendants-forbidden-requires c = λ v e.
    (below_from (graph_of c.args.g.now) c.args.g.now.valid (has c.args.x.bits) (has c.args.y.bits) c.requires.x_within v
    ((c.proper_causal.ensures v).0 e)).vertex

forbidden : (c : After-descendants-forbidden) → (v : ℕ) → IsTrue (has c.descendants-forbidden.result.bits v)
    ↔ IsForbidden (graph_of c.args.g.now) (has c.args.x.bits) (has c.args.y.bits) v
forbidden c = forbidden_is (graph_of c.args.g.now) c.args.g.now.valid (has c.args.x.bits) (has c.args.y.bits) c.requires.x_within
    (has c.proper_causal.result.bits) (has c.descendants-forbidden.result.bits)
    c.proper_causal.ensures c.descendants-forbidden.ensures

lowest : (c : After-descendants-forbidden) (v : ℕ) → IsLowestIn (λ u. IsTrue (has c.descendants-forbidden.result.bits u)) (has c.args.z.bits) v
    → IsAdjustmentFault (graph_of c.args.g.now) (has c.args.x.bits) (has c.args.y.bits) (has c.args.z.bits) (Forbidden v)
lowest c v l = record { member = l.member; holds = (forbidden c v).0 l.holds; lowest = λ u zu k. l.lowest u zu ((forbidden c u).1 k) }

pub returns-in-Some-clause-fault : goal.returns-in-Some-clause-fault
returns-in-Some-clause-fault c = lowest (goal.at.returns-in-Some-clause-fault c).After-descendants-forbidden c.in-Some.v c.in-Some.ensures.found

pub returns-in-Some-clause-fails : goal.returns-in-Some-clause-fails
returns-in-Some-clause-fails c =
    faults_fail (graph_of c.args.g.now) c.args.g.now.valid c.args.x.bits c.args.y.bits c.args.z.bits c.requires (Forbidden c.in-Some.v)
    (lowest (goal.at.returns-in-Some-clause-fails c).After-descendants-forbidden c.in-Some.v c.in-Some.ensures.found)

-- no member of z is forbidden
clear : (c : After-open_path) → IsClearOf (IsForbidden (graph_of c.args.g.now) (has c.args.x.bits) (has c.args.y.bits)) (has c.args.z.bits)
clear c = let none = c.in_default.ensures.none in
    λ v zv e. none v zv ((forbidden_is (graph_of c.args.g.now) c.args.g.now.valid (has c.args.x.bits) (has c.args.y.bits) c.requires.x_within
    (has c.proper_causal.result.bits) (has c.descendants-forbidden.result.bits)
    c.proper_causal.ensures c.descendants-forbidden.ensures v).1 e)

-- the back-door graph is g without the arrows from x to the vertices between
graph_is : (c : After-open_path) → graph_of c.back_door_graph.result ≡ cut_arrows (graph_of c.args.g.now)
    (firsts (has c.args.x.bits) (has c.proper_causal.result.bits))
graph_is c = back_door_graph_is (graph_of c.args.g.now) c.args.g.now.valid (has c.args.x.bits) (has c.args.y.bits) c.requires.x_within
    (has c.proper_causal.result.bits) c.proper_causal.ensures
    (graph_of c.back_door_graph.result) c.back_door_graph.ensures

separates : (c : After-open_path) → IsSeparated (graph_of c.back_door_graph.result) (has c.args.x.bits) (has c.args.y.bits) (has c.args.z.bits)
    → IsSeparated (cut_arrows (graph_of c.args.g.now) (firsts (has c.args.x.bits) (has c.proper_causal.result.bits))) (has c.args.x.bits) (has c.args.y.bits)
    (has c.args.z.bits)
separates c sep = subst (λ h. IsSeparated h (has c.args.x.bits) (has c.args.y.bits) (has c.args.z.bits)) (graph_is c) sep

pub last_part-requires : goal.last_part-requires
last_part-requires c =
    path_begins (graph_of c.back_door_graph.result) c.back_door_graph.result.valid c.back_door_graph.result.small (has c.args.x.bits) (has c.args.y.bits)
    (has c.args.z.bits) c.in-Some-open_path.path c.in-Some-open_path.ensures.found

pub returns-in-None-clause-admissible : goal.returns-in-None-clause-admissible
returns-in-None-clause-admissible c = let a = (goal.at.returns-in-None-clause-admissible c).After-open_path in
    admissible_from (graph_of c.args.g.now) c.args.g.now.valid (has c.args.x.bits) (has c.args.y.bits) c.requires.x_within c.requires.x_y
    (has c.proper_causal.result.bits) c.proper_causal.ensures (has c.args.z.bits)
    (clear a) (separates a c.in-None.ensures.none)

pub returns-in-None-clause-effect : goal.returns-in-None-clause-effect
returns-in-None-clause-effect c = let a = (goal.at.returns-in-None-clause-effect c).After-open_path in
    separating_adjusts (graph_of c.args.g.now) c.args.g.now.valid c.args.x.bits c.args.y.bits c.args.z.bits c.requires (has c.proper_causal.result.bits)
    c.proper_causal.ensures (clear a) (separates a c.in-None.ensures.none)

unblocked : (c : After-open_path) (path part : OpenPath)
    → IsOpenPath (graph_of c.back_door_graph.result) (has c.args.x.bits) (has c.args.y.bits) (has c.args.z.bits) path.vertices path.marks path.count
    → IsLastPart (has c.args.x.bits) path part
    → IsAdjustmentFault (graph_of c.args.g.now) (has c.args.x.bits) (has c.args.y.bits) (has c.args.z.bits) (Unblocked part)
unblocked c path part found last = (
  clear c,
  part_unblocked (graph_of c.args.g.now) c.args.g.now.valid (has c.args.x.bits) (has c.args.y.bits) c.requires.x_within c.requires.x_y
      (has c.proper_causal.result.bits) c.proper_causal.ensures (has c.args.z.bits) c.requires.x_w path part
      (subst (λ h. IsOpenPath h (has c.args.x.bits) (has c.args.y.bits) (has c.args.z.bits) path.vertices path.marks path.count) (graph_is c) found) last,
)

pub returns-in-Some-open_path-clause-fault : goal.returns-in-Some-open_path-clause-fault
returns-in-Some-open_path-clause-fault c =
    unblocked (goal.at.returns-in-Some-open_path-clause-fault c).After-open_path c.in-Some-open_path.path c.last_part.result c.in-Some-open_path.ensures.found
    c.last_part.ensures

pub returns-in-Some-open_path-clause-fails : goal.returns-in-Some-open_path-clause-fails
returns-in-Some-open_path-clause-fails c =
    faults_fail (graph_of c.args.g.now) c.args.g.now.valid c.args.x.bits c.args.y.bits c.args.z.bits c.requires (Unblocked c.last_part.result)
    (unblocked (goal.at.returns-in-Some-open_path-clause-fails c).After-open_path c.in-Some-open_path.path c.last_part.result
    c.in-Some-open_path.ensures.found c.last_part.ensures)
