use Rattle.prob_expr.specs.Vocabulary.{target_view}
use Rattle.short_formulas.proofs.Usable.{target_term}
use Rattle.short_formulas.proofs.shortening.shortened.Goals as goal

pub shortest-requires : goal.shortest-requires
shortest-requires c = record { target = target_term c.args.g.now.n (target_view c.args.t.now) c.requires.sets c.requires.some }
