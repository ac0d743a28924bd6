use Rattle.std.proofs.Common.{sym, ◌∙◌}
use Rattle.std.proofs.lemmas.Bool.{both_ways}
use Rattle.prob_expr.specs.Vocabulary.{masks_of}
use Rattle.check_command.specs.Replies.{is_harmless}
use Rattle.check_command.proofs.Harmless.{is_harmless_to, one_meets}
use Rattle.check_command.proofs.hedge_data.decide_over.Goals as goal

pub returns : goal.returns
returns c =
    let h = c.args.hedge.now in
    let m = one_meets h (masks_of c.args.experiments.now) (sym c.are_harmless.ensures ∙ c.if-are_harmless.false) in
    record {
      evidence = c.requires.hedge;
      experiment = m.0;
      listed = m.1;
      meets = λ is. absurd (both_ways (is_harmless h m.0) m.2 (is_harmless_to h m.0 is));
    }
