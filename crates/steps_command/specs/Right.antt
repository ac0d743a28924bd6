-- Which answers of `steps` are right: the right answer of `check`, and where that accepts a formula, its derivation move by move.
use Rattle.std.specs.Prelude.{ℕ, ◌≡◌, true, List, Some, Result, Ok, Err}
use Rattle.mixed_graph.specs.Vocabulary.{MixedGraph}
use Rattle.prob_expr.specs.Vocabulary.{is_term, PlainFormula, PlainTarget}
use Rattle.do_derivation.specs.Vocabulary.{PlainDerivation}
use Rattle.derivation_steps.specs.Vocabulary.{Explains, IsDerived}
use Rattle.derivation_steps.specs.declared.parts.Part.{Part}
use Rattle.certificate.specs.Vocabulary.{formula}
use Rattle.targets.specs.declared.fault.TargetFault.{TargetFault}
use Rattle.diagram.specs.declared.diagram.Diagram.{Diagram}
use Rattle.experiment_lists.specs.Vocabulary.{Lists}
use Rattle.effect_answers.specs.declared.formulas.EffectFormula.{EffectFormula}
use Rattle.effect_answers.specs.Vocabulary.{formula_certificate}
use Rattle.check_command.specs.Vocabulary.{IsCertificateFault, IsForText}
use Rattle.check_command.specs.Vocabulary as checks
use Rattle.check_command.specs.declared.answer.Answer.{Answer as CheckAnswer}
use Rattle.check_command.specs.declared.answer.Answer.TheVariants.{AcceptedFormula}
use Rattle.check_command.specs.declared.fault.CertificateFault.{CertificateFault}
use Rattle.steps_command.specs.declared.answer.Answer.{Answer}
use Rattle.steps_command.specs.declared.answer.Answer.TheVariants.{Explained, Checked}

-- ---- on the diagram alone

-- the diagram alone has no answer, as for `check`
abbrev pub IsForFirst : Diagram → Lists → Result Answer TargetFault → Type 0
IsForFirst = checks.IsForFirst

-- ---- for a certificate in the observed graph q, with experiments on the sets zs

-- the answer of `check` of which this one tells
abbrev pub checked_of : Answer → CheckAnswer
checked_of (Explained f parts) = AcceptedFormula f
checked_of (Checked a) = a

-- The formula stands with its derivation, and these are the parts of that: of each lemma and then of the formula the expression from which its moves start,
-- and what each of them makes in turn, with the rule for which it asks.
pub record IsExplained (q : MixedGraph) (e : EffectFormula) (parts : List Part) : Type 0 where
  pub target : PlainTarget
  pub main : PlainFormula
  pub derivation : PlainDerivation
  pub certificate : formula_certificate e ≡ Some (formula target main derivation)
  pub explains : Explains q target derivation main parts

-- The formula stands with its derivation, which makes it of the target. A word for code inside this crate.
pub record IsDerivable (q : MixedGraph) (e : EffectFormula) : Type 0 where
  pub target : PlainTarget
  pub main : PlainFormula
  pub derivation : PlainDerivation
  pub certificate : formula_certificate e ≡ Some (formula target main derivation)
  pub term : is_term q.vertices target.y target.x target.given ≡ true
  pub derived : IsDerived q target derivation main

-- an accepted formula is explained; any other answer is told as `check` tells it
abbrev pub IsTold : MixedGraph → Answer → Type 0
IsTold q (Explained f parts) = IsExplained q f parts.items
IsTold q (Checked (AcceptedFormula f)) = ⊥
IsTold q (Checked a) = Unit {0}

-- the answer of `check` on the bytes of a certificate is right, and this tells of it
pub record IsForSteps (q : MixedGraph) (names : List (List ℕ)) (zs bytes : List ℕ) (a : Answer) : Type 0 where
  pub checked : IsForText q names zs bytes (checked_of a)
  pub told : IsTold q a

-- that answer, or what is wrong with the bytes
abbrev pub IsForCertificate : MixedGraph → (names : List (List ℕ)) → (zs bytes : List ℕ) → Result Answer CertificateFault → Type 0
IsForCertificate q names zs bytes (Ok a) = IsForSteps q names zs bytes a
IsForCertificate q names zs bytes (Err fault) = IsCertificateFault names bytes fault
