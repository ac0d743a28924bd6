use Rattle.std.proofs.Common.{◌≡◌, true, refl, sym, ◌∙◌, subst}
use Rattle.std.proofs.lemmas.Bool.{eqb-true, eq-eqb}
use Rattle.mixed_graph.specs.Vocabulary.{has}
use Rattle.mixed_graph.proofs.Masks.{has-pow}
use Rattle.hedge.specs.Vocabulary.{at}
use Rattle.graph_cases.proofs.district_sets.links_at.Goals as goal

-- small holds the vertex alone, which is in big
pub links-requires-clause-inside : goal.links-requires-clause-inside
links-requires-clause-inside c = λ u i.
    let v = c.args.v in
    let e = eqb-true u v (sym (c.one-alone.ensures.members u) ∙ c.district_of-small.ensures.maximal.inside u i) in
    subst (λ w. has c.district_of-big.result.bits w ≡ true) (sym e) (c.district_of-big.ensures.district.complete v (at (has-pow v v ∙ eq-eqb v v refl)))
