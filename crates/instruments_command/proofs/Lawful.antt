-- The command's words ask for one request, and its right answers end alike.
use Rattle.std.proofs.Common.{◌≡◌, ℕ, List, [], Some, Ok, Err, refl, sym, ◌∙◌}
use Rattle.std.specs.Prelude.{codes}
use Rattle.mixed_graph.specs.Vocabulary.{has, MixedGraph}
use Rattle.command_words.specs.Vocabulary.{Use, value_of}
use Rattle.command_words.proofs.OneValue.{one_number_or}
use Rattle.targets.specs.declared.fault.TargetFault.{TargetFault}
use Rattle.targets.specs.Vocabulary.{Lists, AreSets, IsTargetFault}
use Rattle.diagram.specs.Vocabulary.{query_lists}
use Rattle.diagram.proofs.OneDiagram.{same_query_lists}
use Rattle.replies.specs.Vocabulary.{IsAnswered}
use Rattle.replies.proofs.Commands.{IsLawful}
use Rattle.replies.proofs.OneTarget.{no_fault_of, same_three}
use Rattle.told.proofs.OneSubject.{one_subject}
use Rattle.told.specs.Vocabulary.{target_refusal}
use Rattle.told.proofs.ToldOnce.{EndAlike, lawful_told}
use Rattle.instruments_command.specs.declared.answer.Answer.{Answer}
use Rattle.instruments_command.specs.declared.answer.Answer.TheVariants.{Listed, NoInstrument}
use Rattle.instruments_command.specs.Requests.{Request, IsRequest, instruments_row}
use Rattle.instruments_command.specs.Command.{instruments_command}
use Rattle.instruments_command.specs.Telling.{instruments_telling}
use Rattle.instruments_command.specs.Right.{HasNoInstrument, IsForLists, IsForNames}
use Rattle.instruments_command.proofs.NoStrata.{strata_show}

-- the uses ask for one request
one_request : (uses : List Use) (q r : Request) → IsRequest uses q → IsRequest uses r → r ≡ q
one_request uses q r a b = let s = one_subject instruments_row uses q.file r.file q.x q.y r.x r.y a.subject b.subject in λ i. record {
  file = s.0 i;
  x = s.1 i;
  y = s.2 i;
  most = one_number_or 100 (value_of uses (codes "most")) 1 10000 q.most r.most a.most b.most i;
  format = (b.format ∙ sym a.format) i;
}

module _ (most : ℕ) (q : MixedGraph) (l : Lists) where
  -- lists that name sets have no fault
  named_no_fault : (x y given : ℕ) (fault : TargetFault) → AreSets l x y given → IsTargetFault l fault → ⊥
  named_no_fault x y given fault s f = no_fault_of _ l.y l.x fault s.no_fault s.some_y s.some_x f

  -- some vertex is an instrument, or none is
  apart : (a b : Answer) → IsForLists most q l a → IsForLists most q l b → instruments_telling.outcome a ≡ instruments_telling.outcome b
  apart (Listed s list) (Listed t others) f g = refl
  apart (NoInstrument s) (NoInstrument t) f g = refl
  apart (Listed s list) (NoInstrument t) f g = absurd (strata_show q (has f.sets.x.bits) (has f.sets.y.bits) most list.items f.listed.1.strata f.listed.2
      (same_three (λ x y w. HasNoInstrument q (has x) (has y)) l f.sets.x.bits f.sets.y.bits f.sets.given.bits g.sets.x.bits g.sets.y.bits g.sets.given.bits
      f.named g.named g.listed.1))
  apart (NoInstrument s) (Listed t list) f g = absurd (strata_show q (has g.sets.x.bits) (has g.sets.y.bits) most list.items g.listed.1.strata g.listed.2
      (same_three (λ x y w. HasNoInstrument q (has x) (has y)) l g.sets.x.bits g.sets.y.bits g.sets.given.bits f.sets.x.bits f.sets.y.bits f.sets.given.bits
      g.named f.named f.listed.1))

alike : (most : ℕ) → EndAlike instruments_telling target_refusal (IsForNames most)
alike most q l (Ok a) (Ok b) f g = apart most q l a b f g
alike most q l (Ok a) (Err fault) f g = absurd (named_no_fault most q l f.sets.x.bits f.sets.y.bits f.sets.given.bits fault f.named g)
alike most q l (Err fault) (Ok b) f g = absurd (named_no_fault most q l g.sets.x.bits g.sets.y.bits g.sets.given.bits fault g.named f)
alike most q l (Err fault) (Err other) f g = refl

answered : (a : Answer) → IsAnswered (instruments_telling.outcome a)
answered (Listed s list) = tt
answered (NoInstrument s) = tt

-- what holds of each command holds of it
pub instruments_lawful : IsLawful instruments_command
instruments_lawful = lawful_told instruments_telling one_request answered (λ q d. query_lists d.read d.observed.names q.x q.y (Some []))
    (λ q. same_query_lists q.x q.y (Some [])) (λ q. IsForNames q.most) (λ q. alike q.most)
