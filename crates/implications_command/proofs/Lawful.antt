-- The command's words ask for one request, and its right answers end alike.
use Rattle.std.proofs.Common.{◌≡◌, List, sym, ◌∙◌}
use Rattle.std.proofs.lemmas.Option.{same_Some}
use Rattle.command_words.specs.Vocabulary.{Use}
use Rattle.replies.specs.Vocabulary.{IsAnswered}
use Rattle.replies.proofs.Commands.{IsLawful}
use Rattle.told.proofs.ToldOnBoth.{lawful_told_on_both}
use Rattle.implications_command.specs.Command.{implications_command}
use Rattle.implications_command.specs.CountsFaults.{counts_refusal}
use Rattle.implications_command.specs.Pairs.{ArePairs, pairs_in}
use Rattle.implications_command.specs.Requests.{Request, IsRequest}
use Rattle.implications_command.specs.Right.{IsForGraph, IsForCounts}
use Rattle.implications_command.specs.Telling.{implications_telling}
use Rattle.implications_command.specs.declared.answer.Answer.{Answer}
use Rattle.implications_command.specs.declared.answer.Answer.TheVariants.{NoPairs, Pairs, Differences}
use Rattle.implications_command.proofs.Exclusive.{first_alike, counts_alike, named_alone}

-- the uses ask for one request
one_request : (uses : List Use) (q r : Request) → IsRequest uses q → IsRequest uses r → r ≡ q
one_request uses q r a b = λ i. record {
  file = same_Some r.file q.file (sym b.file ∙ a.file) i;
  counts = (sym b.counts ∙ a.counts) i;
  count = (sym b.count ∙ a.count) i;
  format = (b.format ∙ sym a.format) i;
}

answered : (a : Answer) → IsAnswered (implications_telling.outcome a)
answered NoPairs = tt
answered (Pairs list) = tt
answered (Differences t measured) = tt

-- what holds of each command holds of it
pub implications_lawful : IsLawful implications_command
implications_lawful = lawful_told_on_both implications_telling counts_refusal one_request answered (λ fault. tt)
    (λ q d. IsForGraph q.counts d.observed) (λ q d list. ArePairs (pairs_in d.observed list)) (λ q d list. IsForCounts (pairs_in d.observed list) q.count)
    (λ q. first_alike q.counts)
    (λ q d e s back list others a b. counts_alike d e s back list others a b q.count)
    (λ q name d e s named. named_alone d e s q.counts name named)
