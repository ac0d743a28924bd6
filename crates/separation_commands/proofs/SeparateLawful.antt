-- The command's words ask for one request, and its right answers end alike.
use Rattle.std.proofs.Common.{◌≡◌, ◌-◌, ℕ, List, Ok, Err, refl, sym, ◌∙◌}
use Rattle.std.specs.Prelude.{codes, slice_index}
use Rattle.mixed_graph.specs.Vocabulary.{has, MixedGraph}
use Rattle.m_separation.specs.declared.paths.OpenPath.{OpenPath}
use Rattle.m_separation.specs.Vocabulary.{steps_from, IsOpenPath}
use Rattle.do_rules.specs.Vocabulary.{AreDependent}
use Rattle.command_words.specs.Vocabulary.{Use, value_of}
use Rattle.command_words.proofs.OneValue.{one_listed}
use Rattle.targets.specs.declared.query.Sets.{Sets}
use Rattle.targets.specs.declared.fault.TargetFault.{TargetFault}
use Rattle.targets.specs.Vocabulary.{Lists, AreSets, IsTargetFault}
use Rattle.diagram.specs.Vocabulary.{query_lists}
use Rattle.diagram.proofs.OneDiagram.{same_query_lists}
use Rattle.replies.specs.Vocabulary.{IsAnswered}
use Rattle.replies.proofs.Commands.{IsLawful}
use Rattle.replies.proofs.OneTarget.{no_fault_of, same_three}
use Rattle.told.proofs.OneSubject.{one_subject}
use Rattle.told.specs.Vocabulary.{target_refusal}
use Rattle.told.proofs.ToldOnce.{EndAlike, lawful_told}
use Rattle.separation_commands.specs.declared.separate.answer.Answer.{Answer}
use Rattle.separation_commands.specs.declared.separate.answer.Answer.TheVariants.{Separated, Connected}
use Rattle.separation_commands.specs.SeparateRequests.{Request, IsRequest, separate_row}
use Rattle.separation_commands.specs.SeparateCommand.{separate_command}
use Rattle.separation_commands.specs.SeparateTelling.{separate_telling}
use Rattle.separation_commands.specs.SeparateRight.{AreSeparated, AreConnected, IsForLists, IsForNames}

-- the uses ask for one request
one_request : (uses : List Use) (q r : Request) → IsRequest uses q → IsRequest uses r → r ≡ q
one_request uses q r a b = let s = one_subject separate_row uses q.file r.file q.x q.y r.x r.y a.subject b.subject in λ i. record {
  file = s.0 i;
  x = s.1 i;
  y = s.2 i;
  given = one_listed (value_of uses (codes "given")) q.given r.given a.given b.given i;
  format = (b.format ∙ sym a.format) i;
}

-- an open path is an open walk
apart_or_open : (q : MixedGraph) (l : Lists) (s t : Sets) (path : OpenPath) → AreSets l s.x.bits s.y.bits s.given.bits
    → AreSets l t.x.bits t.y.bits t.given.bits → AreSeparated q s → AreConnected q t path → ⊥
apart_or_open q l s t path n m a b =
    a.apart (slice_index path.vertices 0) (steps_from path.vertices path.marks 0 (path.count - 1)) same.open_path.walk
  where
    same : AreConnected q s path
    same = record {
      open_path = same_three (λ x y w. IsOpenPath q (has x) (has y) (has w) path.vertices path.marks path.count) l
          s.x.bits s.y.bits s.given.bits t.x.bits t.y.bits t.given.bits n m b.open_path;
      dependent = same_three (λ x y w. AreDependent q (has x) (has y) (has w)) l
          s.x.bits s.y.bits s.given.bits t.x.bits t.y.bits t.given.bits n m b.dependent;
    }

-- lists that name sets have no fault
named_no_fault : (l : Lists) (x y given : ℕ) (fault : TargetFault) → AreSets l x y given → IsTargetFault l fault → ⊥
named_no_fault l x y given fault s f = no_fault_of _ l.y l.x fault s.no_fault s.some_y s.some_x f

-- right answers end alike
same_kind : (q : MixedGraph) (l : Lists) (a b : Answer) → IsForLists q l a → IsForLists q l b → separate_telling.outcome a ≡ separate_telling.outcome b
same_kind q l (Separated s) (Separated t) f g = refl
same_kind q l (Separated s) (Connected t path) f g = absurd (apart_or_open q l f.sets g.sets path f.named g.named f.decided.1 g.decided.1)
same_kind q l (Connected s path) (Separated t) f g = absurd (apart_or_open q l g.sets f.sets path g.named f.named g.decided.1 f.decided.1)
same_kind q l (Connected s path) (Connected t other) f g = refl

alike : EndAlike separate_telling target_refusal IsForNames
alike q l (Ok a) (Ok b) f g = same_kind q l a b f g
alike q l (Ok a) (Err fault) f g = absurd (named_no_fault l f.sets.x.bits f.sets.y.bits f.sets.given.bits fault f.named g)
alike q l (Err fault) (Ok b) f g = absurd (named_no_fault l g.sets.x.bits g.sets.y.bits g.sets.given.bits fault g.named f)
alike q l (Err fault) (Err other) f g = refl

answered : (a : Answer) → IsAnswered (separate_telling.outcome a)
answered (Separated s) = tt
answered (Connected s path) = tt

-- what holds of each command holds of it
pub separate_lawful : IsLawful separate_command
separate_lawful = lawful_told separate_telling one_request answered (λ q d. query_lists d.read d.observed.names q.x q.y q.given)
    (λ q. same_query_lists q.x q.y q.given) (λ q. IsForNames) (λ q. alike)
