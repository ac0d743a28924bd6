-- The command's words ask for one request, and its right answers end alike.
use Rattle.std.proofs.Common.{◌≡◌, List, Option, Some, None, refl, sym, ◌∙◌}
use Rattle.std.specs.Prelude.{codes}
use Rattle.std.proofs.lemmas.Option.{none-some, same_Some}
use Rattle.command_words.specs.Vocabulary.{Text, Use, value_of, IsRequiredList}
use Rattle.command_words.proofs.OneValue.{one_listed_or_empty, one_needed_list}
use Rattle.equivalent_command.specs.Requests.{Query, IsQuery}
use Rattle.replies.specs.Vocabulary.{IsAnswered}
use Rattle.replies.proofs.Commands.{IsLawful}
use Rattle.told.proofs.ToldOnBoth.{lawful_told_on_both}
use Rattle.equivalent_command.specs.Command.{equivalent_command}
use Rattle.equivalent_command.specs.Requests.{Request, IsRequest}
use Rattle.equivalent_command.specs.Right.{IsForFirst, IsAcceptedFirst, IsForSecond}
use Rattle.equivalent_command.specs.SecondFaults.{second_refusal}
use Rattle.equivalent_command.specs.Telling.{equivalent_telling}
use Rattle.equivalent_command.specs.declared.answer.Answer.{Answer}
use Rattle.equivalent_command.specs.declared.answer.Answer.TheVariants.{Alike, Separated, Connected, Edge, Collider}
use Rattle.equivalent_command.proofs.Exclusive.{first_alone, first_alike, second_alike}

-- lists that aren't there are no query
no_query : (x : Option Text) (names : List Text) → x ≡ None → IsRequiredList x names → ⊥
no_query None names e h = h
no_query (Some text) names e h = none-some text (sym e)

one_query : (x y given : Option Text) (q r : Option Query) → IsQuery x y given q → IsQuery x y given r → r ≡ q
one_query x y given None None a b = refl
one_query x y given None (Some r) a b = absurd (no_query x r.x a.0 b.0)
one_query x y given (Some q) None a b = absurd (no_query x q.x b.0 a.0)
one_query x y given (Some q) (Some r) a b =
    λ i. let w : Query = record {
      x = one_needed_list x q.x r.x a.0 b.0 i;
      y = one_needed_list y q.y r.y a.1 b.1 i;
      given = one_listed_or_empty given q.given r.given a.2 b.2 i;
    } in Some w

-- the uses ask for one request
one_request : (uses : List Use) (q r : Request) → IsRequest uses q → IsRequest uses r → r ≡ q
one_request uses q r a b = λ i. record {
  file = same_Some r.file q.file (sym b.file ∙ a.file) i;
  second = same_Some r.second q.second (sym b.second ∙ a.second) i;
  query = one_query (value_of uses (codes "x")) (value_of uses (codes "y")) (value_of uses (codes "given")) q.query r.query a.query b.query i;
  format = (b.format ∙ sym a.format) i;
}

answered : (a : Answer) → IsAnswered (equivalent_telling.outcome a)
answered Alike = tt
answered (Separated sets) = tt
answered (Connected sets first second) = tt
answered (Edge d) = tt
answered (Collider d m) = tt

-- what holds of each command holds of it
pub equivalent_lawful : IsLawful equivalent_command
equivalent_lawful = lawful_told_on_both equivalent_telling second_refusal one_request answered (λ fault. tt)
    (λ q d. IsForFirst d q.query) (λ q d. IsAcceptedFirst d q.query) (λ q d s. IsForSecond d.observed s)
    (λ q d e same back. first_alike d e q.query)
    (λ q d e same back s t is_s is_t. second_alike d e same back s t)
    (λ q name d e same named a s. first_alone d e same q.query a s)
