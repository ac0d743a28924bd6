use Rattle.std.proofs.Common.{ℕ, ◌≡◌, ◌∙◌, List, length, Option, ap, refl, sym, subst}
use Rattle.std.proofs.lemmas.List.{length-map}
use Rattle.mixed_graph.specs.Vocabulary.{has, MixedGraph, graph_of}
use Rattle.markov_equivalence.specs.Vocabulary.{IsEdgeDifference, IsColliderDifference, HasArrowsAlone}
use Rattle.markov_equivalence.proofs.Independences.{same_independences, differ_in_models}
use Rattle.markov_equivalence.proofs.Separations.{same_separations}
use Rattle.targets.specs.declared.query.Sets.{Sets}
use Rattle.equivalent_command.specs.Numbers.{places, on_names}
use Rattle.equivalent_command.specs.Right.{AreAlike, AreDistinguished, Agrees, Decides}
use Rattle.equivalent_command.specs.declared.answer.Answer.{Answer}
use Rattle.equivalent_command.specs.declared.answer.Answer.TheVariants.{Edge, Collider, Alike, Separated, Connected}
use Rattle.equivalent_command.proofs.Placing.{renumbered_arrows}
use Rattle.equivalent_command.proofs.reply.compared.Goals as goal

-- the second graph on the numbers of the first one's names has as many vertices
same_size : (names others : List (List ℕ)) (n : ℕ) (g q : MixedGraph) → length names ≡ n → q ≡ on_names names others g → n ≡ q.vertices
same_size names others n g q named is =
    let len : length (places names others) ≡ length names = simp length-map refl in sym named ∙ sym len ∙ sym (ap (λ (m : MixedGraph). m.vertices) is)

-- what graphs that are alike say is their answer
decided : (p q : MixedGraph) (s : Option Sets) (a : Answer) → AreAlike p q → Agrees p q s a → Decides p q s a
decided p q s Alike alike agrees = (alike, agrees)
decided p q s (Separated of) alike agrees = (alike, agrees)
decided p q s (Connected of first second) alike agrees = (alike, agrees)
decided p q s (Edge d) alike agrees = absurd agrees
decided p q s (Collider d m) alike agrees = absurd agrees

pub compare-requires-clause-second : goal.compare-requires-clause-second
compare-requires-clause-second c = subst HasArrowsAlone (sym c.graph_on-moved.ensures)
    (renumbered_arrows (graph_of c.args.second.now.graph) (places c.args.first.now.names c.args.second.now.names) c.requires.comparable.second_arrows)

pub agreement-requires-clause-second_arrows : goal.agreement-requires-clause-second_arrows
agreement-requires-clause-second_arrows c = subst HasArrowsAlone (sym c.graph_on-moved.ensures)
    (renumbered_arrows (graph_of c.args.second.now.graph) (places c.args.first.now.names c.args.second.now.names) c.requires.comparable.second_arrows)

pub returns-in-Edge : goal.returns-in-Edge
returns-in-Edge c =
    let p = c.args.first.now.graph in let q = c.graph_on-moved.result in let d = c.in-Edge.d in let named = c.in-Edge.ensures.vertices in
    let size : p.n ≡ q.n = same_size c.args.first.now.names c.args.second.now.names p.n (graph_of c.args.second.now.graph) (graph_of q)
    c.args.first.now.sized c.graph_on-moved.ensures in
    subst (λ (m : MixedGraph). IsEdgeDifference (graph_of p) m d × AreDistinguished (graph_of p) m d) c.graph_on-moved.ensures (
      c.in-Edge.ensures.compared,
      record {
        shown = c.in-Edge.ensures.shown;
        independences = differ_in_models (graph_of p) (graph_of q) p.valid q.valid size d.holds_in d.a d.b (has d.given.bits)
            named.a named.b named.given c.in-Edge.ensures.shown;
      },
    )

pub returns-in-Collider : goal.returns-in-Collider
returns-in-Collider c =
    let p = c.args.first.now.graph in let q = c.graph_on-moved.result in let d = c.in-Collider.d in let named = c.in-Collider.ensures.vertices.0 in
    let size : p.n ≡ q.n = same_size c.args.first.now.names c.args.second.now.names p.n (graph_of c.args.second.now.graph) (graph_of q)
    c.args.first.now.sized c.graph_on-moved.ensures in
    subst (λ (m : MixedGraph). IsColliderDifference (graph_of p) m d c.in-Collider.m × AreDistinguished (graph_of p) m d) c.graph_on-moved.ensures (
      c.in-Collider.ensures.compared,
      record {
        shown = c.in-Collider.ensures.shown;
        independences = differ_in_models (graph_of p) (graph_of q) p.valid q.valid size d.holds_in d.a d.b (has d.given.bits)
            named.a named.b named.given c.in-Collider.ensures.shown;
      },
    )

pub returns-in-Same : goal.returns-in-Same
returns-in-Same c =
    let p = c.args.first.now.graph in let q = c.graph_on-moved.result in
    let arrows = subst HasArrowsAlone (sym c.graph_on-moved.ensures)
    (renumbered_arrows (graph_of c.args.second.now.graph) (places c.args.first.now.names c.args.second.now.names) c.requires.comparable.second_arrows) in
    let size : p.n ≡ q.n = same_size c.args.first.now.names c.args.second.now.names p.n (graph_of c.args.second.now.graph) (graph_of q)
    c.args.first.now.sized c.graph_on-moved.ensures in
    let same = same_separations (graph_of p) (graph_of q) p.valid q.valid size c.requires.comparable.first_arrows arrows c.in-Same.ensures.compared in
    subst (λ (m : MixedGraph). Decides (graph_of p) m c.args.sets c.agreement.result) c.graph_on-moved.ensures
    (decided (graph_of p) (graph_of q) c.args.sets c.agreement.result (record {
      equivalent = c.in-Same.ensures.compared;
      separations = same;
      independences = same_independences (graph_of p) (graph_of q) p.valid q.valid size same;
    }) c.agreement.ensures)
