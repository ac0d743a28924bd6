use Rattle.std.proofs.Common.{◌+◌, List, sym, ap, subst, ◌∙◌, refl, arith}
use Rattle.std.specs.Global.{Vec}
use Rattle.mixed_graph.specs.Vocabulary.{graph_of}
use Rattle.implications.specs.declared.pairs.Implication.{Implication}
use Rattle.implications.specs.Steps.{AreBefore}
use Rattle.implications.proofs.Listing.{skipped, pushed}
use Rattle.implications.proofs.pairs.add_pairs.Goals as goal
use Rattle.implications.proofs.pairs.add_pairs.Goals.{in-Some+in_ok-push, in_default}

pub partners-preserved : goal.partners-preserved
partners-preserved c = elim c.match-given_set.branch [
  | in-Some+in_ok-push w ↦
      subst (λ (l : List Implication). AreBefore (graph_of c.args.g.now) c.args.a (c.partners.b + 1) l)
      (sym (ap (λ (x : Vec Implication). x.items) w.list-is ∙ w.in_ok-push.ensures.items))
      (pushed (graph_of c.args.g.now) c.args.a c.partners.b c.partners.list.items (record { a = c.args.a; b = c.partners.b; given = w.in-Some.given }) refl refl
      (record { order = omega arith; vertex = omega (arith, c.partners-test.true); given = w.in-Some.ensures.given }) c.partners.invariant)
  | in_default w ↦
      subst (λ (l : List Implication). AreBefore (graph_of c.args.g.now) c.args.a (c.partners.b + 1) l) (sym (ap (λ (x : Vec Implication). x.items) w.list-is))
      (skipped (graph_of c.args.g.now) c.args.a c.partners.b c.partners.list.items w.in_default.ensures.none c.partners.invariant)
]
