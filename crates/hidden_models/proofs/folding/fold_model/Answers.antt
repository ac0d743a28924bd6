use Rattle.std.proofs.Common.{◌∙◌, ℕ, not, length, List, ap, arith}
use Rattle.mixed_graph.specs.Vocabulary.{has, graph_of}
use Rattle.mixed_graph.proofs.Members.{length-members-le}
use Rattle.hidden_models.proofs.Compose.{is_accepted, folds, causes_folded}
use Rattle.hidden_models.proofs.ListLaws.{members-within}
use Rattle.hidden_models.proofs.TooLarge.{first_too_large, all_small}
use Rattle.hidden_models.proofs.folding.fold_model.Goals as goal

pub first_large-requires-clause-few : goal.first_large-requires-clause-few
first_large-requires-clause-few c =
    let e = ap (λ (xs : List ℕ). length xs) (c.deref.ensures.value ∙ c.in-Ok-observed_vertices.ensures) in
    let b = length-members-le (λ v. not (has c.args.latent.bits v)) c.args.g.now.n in let s = c.args.g.now.small in omega (arith, e, b, s)

pub first_large-requires-clause-below : goal.first_large-requires-clause-below
first_large-requires-clause-below c k lt =
    let b = members-within (λ v. not (has c.args.latent.bits v)) c.args.g.now.n c.deref.result.now (c.deref.ensures.value ∙ c.in-Ok-observed_vertices.ensures)
    k lt in let s = c.args.g.now.small in omega (arith, b, s)

pub returns-in-Some-clause-fault : goal.returns-in-Some-clause-fault
returns-in-Some-clause-fault c = first_too_large (graph_of c.args.g.now) c.args.g.now.valid (has c.args.latent.bits)
    c.args.m.now c.requires c.in-Ok.parts.reached.items c.in-Ok.ensures.reached (graph_of c.in-Ok.parts.projection) c.in-Ok.ensures.projects
    c.deref.result.now (c.deref.ensures.value ∙ c.in-Ok-observed_vertices.ensures) c.in-Some.k c.in-Some.ensures.large

pub returns-in-Ok-folded-clause-fits : goal.returns-in-Ok-folded-clause-fits
returns-in-Ok-folded-clause-fits c q is = is_accepted (graph_of c.args.g.now) c.args.g.now.valid (has c.args.latent.bits)
    c.args.m.now c.requires c.in-Ok.parts.reached.items c.in-Ok.ensures.reached q is (graph_of c.in-Ok.parts.projection)
    c.in-Ok.ensures.projects c.in-Ok-folded.model c.in-Ok-folded.ensures

pub returns-in-Ok-folded-clause-folds : goal.returns-in-Ok-folded-clause-folds
returns-in-Ok-folded-clause-folds c q is = folds (graph_of c.args.g.now) c.args.g.now.valid (has c.args.latent.bits)
    c.args.m.now c.requires c.in-Ok.parts.reached.items c.in-Ok.ensures.reached q is (graph_of c.in-Ok.parts.projection)
    c.in-Ok.ensures.projects c.in-Ok-folded.model c.in-Ok-folded.ensures

pub returns-in-Ok-folded-clause-causes : goal.returns-in-Ok-folded-clause-causes
returns-in-Ok-folded-clause-causes c = causes_folded (graph_of c.args.g.now) c.args.g.now.valid (has c.args.latent.bits)
    c.args.m.now c.requires c.in-Ok.parts.reached.items c.in-Ok.ensures.reached (graph_of c.in-Ok.parts.projection) c.in-Ok-folded.model c.in-Ok-folded.ensures

pub returns-in-Ok-folded-clause-small : goal.returns-in-Ok-folded-clause-small
returns-in-Ok-folded-clause-small c = all_small (graph_of c.args.g.now) c.args.g.now.valid (has c.args.latent.bits)
    c.args.m.now c.requires c.in-Ok.parts.reached.items c.in-Ok.ensures.reached (graph_of c.in-Ok.parts.projection) c.in-Ok.ensures.projects
    c.deref.result.now (c.deref.ensures.value ∙ c.in-Ok-observed_vertices.ensures) c.in_default-first_large.ensures.small
