use Rattle.std.proofs.Common.{refl, arith}
use Rattle.mixed_graph.specs.Vocabulary.{has, graph_of}
use Rattle.markov_equivalence.proofs.Independences.{same_independences, differ_in_models}
use Rattle.markov_equivalence.proofs.Separations.{same_separations, differs}
use Rattle.markov_equivalence.proofs.path_carry.imply_the_same.Goals as goal

pub returns-in-Same-clause-separations : goal.returns-in-Same-clause-separations
returns-in-Same-clause-separations c = (
  λ _. same_separations (graph_of c.args.g.now) (graph_of c.args.h.now)
      c.args.g.now.valid c.args.h.now.valid c.requires.size c.requires.first c.requires.second (c.in-Same.ensures).compared,
  λ _. refl,
)

pub returns-in-Edge-clause-separations : goal.returns-in-Edge-clause-separations
returns-in-Edge-clause-separations c = (
  λ no. absurd (grind (arith, no)),
  λ same. let d = c.in-Edge.field-0 in absurd (differs (graph_of c.args.g.now) (graph_of c.args.h.now) d.holds_in d.a d.b (has d.given.bits)
      (c.in-Edge.ensures).shown same),
)

pub returns-in-Collider-clause-separations : goal.returns-in-Collider-clause-separations
returns-in-Collider-clause-separations c = (
  λ no. absurd (grind (arith, no)),
  λ same. let d = c.in-Collider.field-0 in absurd (differs (graph_of c.args.g.now) (graph_of c.args.h.now) d.holds_in d.a d.b (has d.given.bits)
      (c.in-Collider.ensures).shown same),
)

pub returns-in-Same-clause-independences : goal.returns-in-Same-clause-independences
returns-in-Same-clause-independences c =
    let g = graph_of c.args.g.now in let h = graph_of c.args.h.now in let gok = c.args.g.now.valid in let hok = c.args.h.now.valid in (
      λ _. same_independences g h gok hok c.requires.size (same_separations g h gok hok c.requires.size c.requires.first c.requires.second
          (c.in-Same.ensures).compared),
      λ _. refl,
    )

pub returns-in-Edge-clause-independences : goal.returns-in-Edge-clause-independences
returns-in-Edge-clause-independences c =
    let d = c.in-Edge.field-0 in let named = (c.in-Edge.ensures).vertices in (
      λ no. absurd (grind (arith, no)),
      λ same. absurd (differ_in_models (graph_of c.args.g.now) (graph_of c.args.h.now)
          c.args.g.now.valid c.args.h.now.valid c.requires.size d.holds_in d.a d.b (has d.given.bits)
          named.a named.b named.given (c.in-Edge.ensures).shown same),
    )

pub returns-in-Collider-clause-independences : goal.returns-in-Collider-clause-independences
returns-in-Collider-clause-independences c =
    let d = c.in-Collider.field-0 in let named = (c.in-Collider.ensures).vertices.0 in (
      λ no. absurd (grind (arith, no)),
      λ same. absurd (differ_in_models (graph_of c.args.g.now) (graph_of c.args.h.now)
          c.args.g.now.valid c.args.h.now.valid c.requires.size d.holds_in d.a d.b (has d.given.bits)
          named.a named.b named.given (c.in-Collider.ensures).shown same),
    )
