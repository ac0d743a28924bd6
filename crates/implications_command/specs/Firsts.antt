-- What is known before counts are read.
use Rattle.std.specs.Prelude.{Some}
use Rattle.command_words.specs.Vocabulary.{Text}
use Rattle.replies.specs.declared.format.Format.{Format}
use Rattle.replies.specs.Vocabulary.{told_of}
use Rattle.dag_reader.specs.declared.graph.ReadGraph.{ReadGraph}
use Rattle.told.specs.Vocabulary.{plain_form, target_refusal, Tells}
use Rattle.implications_command.specs.Pairs.{ArePairs, pairs_in}
use Rattle.implications_command.specs.Right.{IsForGraph}
use Rattle.implications_command.specs.Telling.{implications_telling}
use Rattle.implications_command.specs.declared.listing.PairsOrReply.{PairsOrReply}
use Rattle.implications_command.specs.declared.listing.PairsOrReply.TheVariants as first

-- the answer that there is no pair in the observed graph, or its pairs
abbrev pub IsPairsOrReply : Format → ReadGraph → PairsOrReply → Type 0
IsPairsOrReply format seen (first.Replied reply) = (counts : Text)
    → Tells implications_telling target_refusal (IsForGraph (Some counts) seen) (plain_form format) seen.names reply.outcome (told_of reply)
IsPairsOrReply format seen (first.Pairs list) = ArePairs (pairs_in seen list.items)
