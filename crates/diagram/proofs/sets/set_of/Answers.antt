use Rattle.std.proofs.Common.{◌≡◌, ◌<◌, IfErr, OnOk, None, sym, ap, subst, ◌∙◌, IfOk, length}
use Rattle.mixed_graph.specs.Vocabulary.{has, Within}
use Rattle.targets.specs.Vocabulary.{first_fault, walked_in, listed, IsListedSet, IsNameFault}
use Rattle.diagram.specs.Sets.{lent, names_or}
use Rattle.diagram.proofs.Defaults.{default_names, marked_inside}
use Rattle.diagram.proofs.Asking.{given_set}
use Rattle.diagram.proofs.sets.set_of.Goals as goal
use Rattle.diagram.proofs.sets.set_of.Goals.{After-apart_from, After-vertices_of}

-- the names of the marked vertices are those of their set
abbrev same : (c : After-apart_from) → names_or c.args.diagram.now.read c.args.mark (lent c.args.list)
    ≡ listed c.args.diagram.now.observed.names c.vertices_of.result.bits None
same c = ap (λ l. names_or c.args.diagram.now.read c.args.mark (lent l)) c.in-None.is
    ∙ default_names c.args.diagram.now c.args.mark c.vertices_of.result.bits c.vertices_of.ensures

pub apart_from-requires : goal.apart_from-requires
apart_from-requires c = marked_inside c.args.diagram.now c.args.mark c.vertices_of.result.bits c.vertices_of.ensures

pub returns-in-None-clause-none : goal.returns-in-None-clause-none
returns-in-None-clause-none c =
    let d = c.args.diagram.now in
    subst (λ ns. OnOk c.apart_from.result (first_fault d.read.names d.observed.names (walked_in d.observed.names c.args.walked.bits) ns ≡ None)) (sym (same c))
    c.apart_from.ensures.none

pub returns-in-None-clause-set : goal.returns-in-None-clause-set
returns-in-None-clause-set c =
    let d = c.args.diagram.now in
    subst (λ ns. IfOk c.apart_from.result (λ s. IsListedSet d.observed.names ns s.bits)) (sym (same c))
    (given_set d.observed.names d.observed.named c.vertices_of.result.bits
    (marked_inside d c.args.mark c.vertices_of.result.bits c.vertices_of.ensures) c.apart_from.result c.apart_from.ensures.set)

pub returns-in-None-clause-fault : goal.returns-in-None-clause-fault
returns-in-None-clause-fault c =
    let d = c.args.diagram.now in
    subst (λ ns. IfErr c.apart_from.result (IsNameFault (first_fault d.read.names d.observed.names (walked_in d.observed.names c.args.walked.bits) ns)))
    (sym (same c)) c.apart_from.ensures.fault
