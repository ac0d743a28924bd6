-- A command on a certificate is lawful where its right answers on one observed graph end alike.
use Rattle.std.proofs.Common.{◌≡◌, ℕ, List, Result, Ok, Err, refl, sym, ◌∙◌, subst}
use Rattle.std.specs.Prelude.{codes}
use Rattle.std.proofs.lemmas.Option.{same_Some}
use Rattle.mixed_graph.specs.Vocabulary.{MixedGraph, graph_of}
use Rattle.command_words.specs.Vocabulary.{Use, value_of}
use Rattle.targets.specs.declared.fault.TargetFault.{TargetFault}
use Rattle.diagram.specs.declared.diagram.Diagram.{Diagram}
use Rattle.diagram.proofs.OneDiagram.{AreSameDiagrams, same_drawing}
use Rattle.experiment_lists.specs.Vocabulary.{experiments_fault, AreExperimentSets, Lists}
use Rattle.experiment_lists.proofs.NoFault.{no_experiments_fault}
use Rattle.experiment_lists.proofs.OneSet.{one_by_one}
use Rattle.experiment_lists.proofs.OneWord.{one_optional}
use Rattle.replies.specs.Vocabulary.{IsAnswered}
use Rattle.replies.proofs.Commands.{IsLawful}
use Rattle.told.specs.Telling.{Telling}
use Rattle.told.specs.Vocabulary.{Refusal, target_refusal, outcome_in}
use Rattle.told.proofs.ToldOnBoth.{lawful_told_on_both}
use Rattle.check_command.specs.Command.{on_certificate}
use Rattle.check_command.specs.Requests.{Request, IsRequest}
use Rattle.check_command.specs.Right.{AreExperimentsOn, IsForFirst}
use Rattle.check_command.specs.Telling.{check_telling}
use Rattle.check_command.specs.declared.answer.Answer.{Answer}
use Rattle.check_command.specs.declared.answer.Answer.TheVariants.{AcceptedFormula, RefusedDerivation, AcceptedHedge, RefusedHedge, MetHedge}

-- the uses ask for one request
one_request : (uses : List Use) (q r : Request) → IsRequest uses q → IsRequest uses r → r ≡ q
one_request uses q r a b = λ i. record {
  file = same_Some r.file q.file (sym b.file ∙ a.file) i;
  certificate = same_Some r.certificate q.certificate (sym b.certificate ∙ a.certificate) i;
  experiments = one_optional (value_of uses (codes "experiments")) q.experiments r.experiments a.experiments b.experiments i;
  format = (b.format ∙ sym a.format) i;
}

-- each answer on a formula or a hedge is an outcome of a run
pub answered : (a : Answer) → IsAnswered (check_telling.outcome a)
answered (AcceptedFormula f) = tt
answered (RefusedDerivation lemmas fault) = tt
answered (AcceptedHedge s h over) = tt
answered (RefusedHedge fault) = tt
answered MetHedge = tt

-- a diagram on which a name of the lists is at fault isn't accepted for them
first_alone : {A : Type 0} (d e : Diagram) → AreSameDiagrams d e → (experiments : Lists) (a : Result A TargetFault) (zs : List ℕ) → IsForFirst d experiments a
    → AreExperimentsOn e.read.names e.observed.names experiments zs → ⊥
first_alone d e same experiments (Ok a) zs f are = f
first_alone d e same experiments (Err fault) zs f are =
    let moved : experiments_fault e.read.names e.observed.names experiments ≡ experiments_fault d.read.names d.observed.names experiments =
    λ i. experiments_fault (same.read.names i) (same.observed.names i) experiments in
    no_experiments_fault d.read.names d.observed.names experiments fault (sym moved ∙ are.no_fault) f

module _ {A F : Type 0} (t : Telling A) (f : Refusal F) (right : MixedGraph → List (List ℕ) → (zs bytes : List ℕ) → Result A F → Type 0)
    (alike : (g : MixedGraph) (names : List (List ℕ)) (zs bytes : List ℕ) (a b : Result A F) → right g names zs bytes a → right g names zs bytes b
    → outcome_in t f a ≡ outcome_in t f b) where
  -- a name at fault ends alike
  first_alike : (d e : Diagram) (experiments : Lists) (a b : Result A TargetFault) → IsForFirst d experiments a → IsForFirst e experiments b
      → outcome_in t target_refusal a ≡ outcome_in t target_refusal b
  first_alike d e experiments (Ok a) b x y = absurd x
  first_alike d e experiments (Err fault) (Ok b) x y = absurd y
  first_alike d e experiments (Err fault) (Err other) x y = refl

  -- and so do right answers on diagrams that are the same
  second_alike : (d e : Diagram) → AreSameDiagrams d e → (experiments : Lists) (zs ws : List ℕ) → AreExperimentsOn d.read.names d.observed.names experiments zs
      → AreExperimentsOn e.read.names e.observed.names experiments ws → (bytes : List ℕ) (a b : Result A F)
      → right (graph_of d.observed.graph) d.observed.names zs bytes a → right (graph_of e.observed.graph) e.observed.names ws bytes b
      → outcome_in t f a ≡ outcome_in t f b
  second_alike d e same experiments zs ws n m bytes a b x y =
      let seen = d.observed.names in
      let others : AreExperimentSets seen experiments ws = subst (λ (ns : List (List ℕ)). AreExperimentSets ns experiments ws) same.observed.names m.sets in
      alike (graph_of d.observed.graph) seen zs bytes a b x
      (subst (λ (vs : List ℕ). right (graph_of d.observed.graph) seen vs bytes b) (one_by_one seen experiments zs ws n.sets others)
      (subst (λ (ns : List (List ℕ)). right (graph_of d.observed.graph) ns ws bytes b) same.observed.names
      (subst (λ (g : MixedGraph). right g e.observed.names ws bytes b) (sym (same_drawing d e same)) y)))

  -- what holds of each command holds of it
  pub lawful_on_certificate : ((a : A) → IsAnswered (t.outcome a)) → ((fault : F) → IsAnswered (f.outcome fault)) → IsLawful (on_certificate t f right)
  lawful_on_certificate answers refuses = lawful_told_on_both t f one_request answers refuses
      (λ q d. IsForFirst d q.experiments) (λ q d. AreExperimentsOn d.read.names d.observed.names q.experiments)
      (λ q d. right (graph_of d.observed.graph) d.observed.names)
      (λ q d e same back. first_alike d e q.experiments)
      (λ q d e same back zs ws n m. second_alike d e same q.experiments zs ws n m)
      (λ q name d e same named a zs. first_alone d e same q.experiments a zs)
