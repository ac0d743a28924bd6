use Rattle.std.proofs.Common.{sym, ◌∙◌}
use Rattle.std.proofs.lemmas.List.{length-map}
use Rattle.do_derivation.specs.Vocabulary.{lemma_view}
use Rattle.part_check_command.proofs.counting.lemmas_of.Goals as goal

pub returns : goal.returns
returns c =
    let lemmas = c.args.part.now.derivation.lemmas in c.len.ensures ∙ lemmas.ok.0 ∙ sym (length-map lemmas.items lemma_view)
