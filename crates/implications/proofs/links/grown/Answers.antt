use Rattle.std.proofs.Common.{ℕ, ◌||◌, ◌↔◌, ◌∙◌, ap, subst, IsTrue}
use Rattle.mixed_graph.specs.Vocabulary.{has, graph_of}
use Rattle.mixed_graph.specs.Reached.{Reached}
use Rattle.implications.specs.Links.{is_link}
use Rattle.implications.proofs.LinkLaws.{same_side, grown_side}
use Rattle.implications.proofs.Thinning.{rest_is}
use Rattle.implications.proofs.links.grown.Goals as goal

pub returns-then-not-is_next_to : goal.returns-then-not-is_next_to
returns-then-not-is_next_to c = same_side (graph_of c.args.g.now) c.args.g.now.valid (has c.args.within.bits) (has c.args.w.bits) c.args.a c.args.v
    (has c.args.side.bits) c.requires.side c.if-not-is_next_to.ensures.away

pub returns : goal.returns
returns c = grown_side (graph_of c.args.g.now) c.args.g.now.valid (has c.args.within.bits) (has c.args.w.bits) c.args.a c.args.v
    (has c.args.side.bits) c.requires.side c.if-not-is_next_to.ensures.next c.requires.inside
    (has c.one-one.result.bits) (has c.union-free.result.bits) (has c.reached_by_links.result.bits) (has c.union.result.bits) c.one-one.ensures.members
    (λ x. c.union-free.ensures.members x ∙ ap (λ t. t || has c.one-one.result.bits x) (c.difference.ensures.members x))
    (subst (λ f. (x : ℕ) → IsTrue (has c.reached_by_links.result.bits x)
    ↔ Reached (is_link (graph_of c.args.g.now) f) (has c.one-one.result.bits) (has c.union-free.result.bits) x)
    (rest_is (has c.args.w.bits) (has c.difference-2.result.bits) (has c.one-one.result.bits) c.args.v c.difference-2.ensures.members
    c.one-one.ensures.members) c.reached_by_links.ensures) c.union.ensures.members
