use Rattle.std.proofs.Common.{Option, Some, option_map, refl, sym, subst}
use Rattle.mixed_graph.specs.Vocabulary.{graph_of}
use Rattle.derivation_steps.specs.Asked.{IsAskedIn}
use Rattle.derivation_steps.specs.Questions.{asked_of}
use Rattle.derivation_steps.specs.declared.questions.AskedRule.{AskedRule}
use Rattle.derivation_steps.specs.declared.questions.Question.{Question}
use Rattle.derivation_steps.proofs.questions.asked_in.Goals as goal

pub returns-in-Some : goal.returns-in-Some
returns-in-Some c =
    let found : AskedRule = record { question = c.in-Some.question; graph = c.graph.result } in
    subst (λ (q : Option Question). IsAskedIn (graph_of c.args.g.now) (option_map asked_of q) (Some found)) (sym c.in-Some.is)
    (record { found = found; is = refl; asks = record { question = refl; graph = c.graph.ensures.cut } })
