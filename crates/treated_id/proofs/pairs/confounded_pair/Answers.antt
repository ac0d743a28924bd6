use Rattle.std.proofs.Common.{◌≡◌, Bool, true, ◌&&◌, sym, ◌∙◌, subst, arith}
use Rattle.mixed_graph.specs.Vocabulary.{has, graph_of}
use Rattle.mixed_graph.proofs.Masks.{positive_from_has}
use Rattle.mixed_graph.proofs.MemberLists.{AreMembers}
use Rattle.finite_models.proofs.Bools.{and_first, and_second}
use Rattle.treated_id.proofs.Joined.{searching_none, searching_more, of_district}
use Rattle.treated_id.proofs.pairs.confounded_pair.Goals as goal

pub treatments-init : goal.treatments-init
treatments-init c = searching_none (graph_of c.args.g.now) c.args.x.bits c.args.s.bits c.into_iter-p-iterator.result (omega arith)
    (c.into_iter-p-iterator.ensures.into_iter_gives ∙ c.iter-p-items.ensures)

pub returns-then-not-is_empty : goal.returns-then-not-is_empty
returns-then-not-is_empty c =
    let both = sym (c.intersection-joined.ensures.members c.lowest.result) ∙ c.lowest.ensures.member in
    record {
      treated = (subst (AreMembers (has c.args.x.bits) 64) c.in-Some.ensures.steps c.treatments.invariant.are).1;
      arrow = sym (c.children.ensures.members c.lowest.result) ∙ and_first (has c.children.result.bits c.lowest.result)
          (has c.district_of.result.bits c.lowest.result) both;
      linked = of_district (graph_of c.args.g.now) c.args.s.bits c.in-Some.p c.district_of.result.bits c.lowest.result c.district_of.ensures.district
          (and_second (has c.children.result.bits c.lowest.result) (has c.district_of.result.bits c.lowest.result) both);
    }

pub treatments-preserved : goal.treatments-preserved
treatments-preserved c = searching_more (graph_of c.args.g.now) c.args.x.bits c.args.s.bits c.in-Some.p c.district_of.result.bits c.treatments.p-iterator
    c.next.new.self c.in-Some.ensures.steps c.district_of.ensures.district
    (λ v arrow i. absurd (
    let some = positive_from_has c.intersection-joined.result.bits v (c.intersection-joined.ensures.members v
    ∙ pair (has c.children.result.bits v) (has c.district_of.result.bits v) (c.children.ensures.members v ∙ arrow) i) in
    let none = c.if-not-is_empty.ensures.none in
    let test = c.if-not-is_empty.false in
    grind (arith, some, none, test)
    ))
    c.treatments.invariant
  where
    pair : (p q : Bool) → p ≡ true → q ≡ true → (p && q) ≡ true
    pair p q h j = grind (arith, h, j)
