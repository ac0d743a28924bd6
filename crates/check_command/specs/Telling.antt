-- What is told of a certificate.
use Rattle.std.specs.Prelude.{ℕ, List}
use Rattle.json.specs.Json.{Json}
use Rattle.prob_expr.specs.Vocabulary.{target_view, formula_view}
use Rattle.answer_text.specs.declared.signs.Notation.TheVariants.{Plain}
use Rattle.identify_text.specs.Vocabulary.{answer_in}
use Rattle.check_json.specs.Vocabulary.{derivation_members, hedge_fault_members, met_members}
use Rattle.replies.specs.declared.outcome.Outcome.{Outcome}
use Rattle.replies.specs.declared.outcome.Outcome.TheVariants.{Yes, No}
use Rattle.told.specs.Telling.{Telling}
use Rattle.check_command.specs.Lines.{accepted_text, derivation_text, heading, hedge_text, met_text}
use Rattle.check_command.specs.Objects.{formula_answer, hedge_answer}
use Rattle.check_command.specs.declared.answer.Answer.{Answer}
use Rattle.check_command.specs.declared.answer.Answer.TheVariants.{AcceptedFormula, RefusedDerivation, AcceptedHedge, RefusedHedge, MetHedge}

-- yes where it is accepted
abbrev pub outcome_of : Answer → Outcome
outcome_of (AcceptedFormula f) = Yes
outcome_of (RefusedDerivation lemmas fault) = No
outcome_of (AcceptedHedge s h over) = Yes
outcome_of (RefusedHedge fault) = No
outcome_of MetHedge = No

-- the lines
abbrev pub answer_text : List (List ℕ) → Answer → List ℕ
answer_text names (AcceptedFormula f) = accepted_text (answer_in Plain names (target_view f.target) (formula_view f.formula))
answer_text names (RefusedDerivation lemmas fault) = derivation_text names lemmas fault
answer_text names (AcceptedHedge s h over) = accepted_text (heading over names s.x.bits s.y.bits h)
answer_text names (RefusedHedge fault) = hedge_text names fault
answer_text names MetHedge = met_text

-- the members of the object
abbrev pub answer_members : List (List ℕ) → Answer → List (List ℕ × Json)
answer_members names (AcceptedFormula f) = formula_answer names (target_view f.target) (formula_view f.formula)
answer_members names (RefusedDerivation lemmas fault) = derivation_members names lemmas fault
answer_members names (AcceptedHedge s h over) = hedge_answer names s.x.bits s.y.bits h
answer_members names (RefusedHedge fault) = hedge_fault_members names fault
answer_members names MetHedge = met_members

-- all of these
abbrev pub check_telling : Telling Answer
check_telling = record { outcome = outcome_of; text = λ w. answer_text; members = λ w. answer_members }
