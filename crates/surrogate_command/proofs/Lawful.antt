-- The command's words ask for one request, and its right answers end alike.
use Rattle.std.proofs.Common.{◌≡◌, ℕ, Bool, List, Ok, Err, refl, sym, subst, ◌∙◌}
use Rattle.std.specs.Prelude.{codes}
use Rattle.std.proofs.lemmas.Option.{same_Some}
use Rattle.mixed_graph.specs.Vocabulary.{MixedGraph}
use Rattle.prob_expr.specs.Vocabulary.{masks_of}
use Rattle.command_words.specs.Vocabulary.{Use, value_of}
use Rattle.experiment_lists.proofs.OneSet.{one_by_one}
use Rattle.experiment_lists.proofs.OneWord.{one_word}
use Rattle.targets.specs.declared.fault.TargetFault.{TargetFault}
use Rattle.targets.specs.declared.fault.TargetFault.TheVariants.{EmptyX}
use Rattle.targets.specs.Vocabulary.{IsFaultOfTarget}
use Rattle.surrogates.specs.Vocabulary.{SomeBlocked}
use Rattle.surrogates.proofs.RightAnswers.{some_blocked}
use Rattle.replies.specs.Vocabulary.{IsAnswered}
use Rattle.replies.proofs.Commands.{IsLawful}
use Rattle.replies.proofs.OneTarget.{same_two, no_fault_of, some_list, is_some_list}
use Rattle.told.proofs.OneSubject.{one_subject}
use Rattle.told.specs.Vocabulary.{target_refusal}
use Rattle.told.proofs.ToldOnce.{EndAlike, lawful_told}
use Rattle.surrogate_command.specs.declared.sets.SurrogateSets.{SurrogateSets}
use Rattle.surrogate_command.specs.declared.answer.Answer.{Answer}
use Rattle.surrogate_command.specs.declared.answer.Answer.TheVariants.{Formula, Unfound, Blocked}
use Rattle.surrogate_command.specs.Forms.{wants_common}
use Rattle.surrogate_command.specs.Requests.{Request, IsRequest, surrogate_row}
use Rattle.surrogate_command.specs.Command.{surrogate_command}
use Rattle.surrogate_command.specs.Right.{IsStop, IsForLists, IsForNames}
use Rattle.surrogate_command.specs.Sets.{SurrogateLists, surrogate_lists, surrogate_fault, AreSurrogateSets, IsSurrogateFault}
use Rattle.surrogate_command.specs.Telling.{surrogate_telling}
use Rattle.surrogate_command.proofs.Exclusive.{same_surrogate_lists}

-- the uses ask for one request
one_request : (uses : List Use) (q r : Request) → IsRequest uses q → IsRequest uses r → r ≡ q
one_request uses q r a b = let s = one_subject surrogate_row uses q.file r.file q.x q.y r.x r.y a.subject b.subject in λ i. record {
  file = s.0 i;
  x = s.1 i;
  y = s.2 i;
  experiments = one_word (value_of uses (codes "experiments")) q.experiments r.experiments a.experiments b.experiments i;
  form = same_Some r.form q.form (sym b.form ∙ a.form) i;
}

module _ (wanted : Bool) (q : MixedGraph) (l : SurrogateLists) where
  -- a district that stops the procedure is blocked, and then there is no formula of it
  formula_or_stop : (s t : SurrogateSets) (a : Answer) → AreSurrogateSets l s.x.bits s.y.bits (masks_of s.experiments.items)
      → AreSurrogateSets l t.x.bits t.y.bits (masks_of t.experiments.items)
      → (SomeBlocked q (masks_of s.experiments.items) s.x.bits s.y.bits → ⊥) → IsStop wanted q t a → ⊥
  formula_or_stop s t a n m unblocked b =
      let there = some_blocked q (masks_of t.experiments.items) t.x.bits t.y.bits b.district.bits b.stop.first in
      unblocked (subst (λ (zs : List ℕ). SomeBlocked q zs s.x.bits s.y.bits)
      (one_by_one l.effect.observed l.experiments (masks_of s.experiments.items) (masks_of t.experiments.items) n.experiments m.experiments)
      (same_two (λ u v. SomeBlocked q (masks_of t.experiments.items) u v) l.effect s.x.bits s.y.bits t.x.bits t.y.bits n.effect m.effect there))

  -- right answers end alike
  same_kind : (a b : Answer) → IsForLists wanted q l a → IsForLists wanted q l b → surrogate_telling.outcome a ≡ surrogate_telling.outcome b
  same_kind (Formula s f) (Formula t h) a b = refl
  same_kind (Formula s f) (Unfound t d h) a b = absurd (formula_or_stop a.sets b.sets (Unfound t d h) a.named b.named a.decided.1.unblocked b.decided)
  same_kind (Formula s f) (Blocked t d h) a b = absurd (formula_or_stop a.sets b.sets (Blocked t d h) a.named b.named a.decided.1.unblocked b.decided)
  same_kind (Unfound t d h) (Formula s f) a b = absurd (formula_or_stop b.sets a.sets (Unfound t d h) b.named a.named b.decided.1.unblocked a.decided)
  same_kind (Blocked t d h) (Formula s f) a b = absurd (formula_or_stop b.sets a.sets (Blocked t d h) b.named a.named b.decided.1.unblocked a.decided)
  same_kind (Unfound s d f) (Unfound t e h) a b = refl
  same_kind (Unfound s d f) (Blocked t e h) a b = refl
  same_kind (Blocked s d f) (Unfound t e h) a b = refl
  same_kind (Blocked s d f) (Blocked t e h) a b = refl

  fault_of : (f : TargetFault) → IsSurrogateFault l f → IsFaultOfTarget (surrogate_fault l) l.effect.y some_list f
  fault_of EmptyX h = absurd h
  fault_of f h = h

  -- lists that name sets have no fault
  no_fault : (a : Answer) (fault : TargetFault) → IsForLists wanted q l a → IsSurrogateFault l fault → ⊥
  no_fault a fault h is = no_fault_of (surrogate_fault l) l.effect.y some_list fault h.named.no_fault h.named.effect.some_y is_some_list (fault_of fault is)

alike : (wanted : Bool) → EndAlike surrogate_telling target_refusal (IsForNames wanted)
alike wanted q l (Ok a) (Ok b) f g = same_kind wanted q l a b f g
alike wanted q l (Ok a) (Err fault) f g = absurd (no_fault wanted q l a fault f g)
alike wanted q l (Err fault) (Ok a) f g = absurd (no_fault wanted q l a fault g f)
alike wanted q l (Err fault) (Err other) f g = refl

answered : (a : Answer) → IsAnswered (surrogate_telling.outcome a)
answered (Formula s f) = tt
answered (Unfound s d h) = tt
answered (Blocked s d h) = tt

-- what holds of each command holds of it
pub surrogate_lawful : IsLawful surrogate_command
surrogate_lawful = lawful_told surrogate_telling one_request answered (λ q d. surrogate_lists d.read d.observed.names q.x q.y q.experiments)
    (λ q. same_surrogate_lists q.x q.y q.experiments) (λ q. IsForNames (wants_common q.form.writing)) (λ q. alike (wants_common q.form.writing))
