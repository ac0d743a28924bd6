use Rattle.std.proofs.Common.{refl}
use Rattle.causal_cli.proofs.Lawful.{lawful}
use Rattle.causal_cli.proofs.CallAnswers.{gave}
use Rattle.causal_cli.proofs.Headlines.{headline}
use Rattle.causal_cli.proofs.DrawnRuns.{right_as_drawn_of}
use Rattle.causal_cli.proofs.sure.run_surely.Goals as goal

pub run_surely-requires : goal.run_surely-requires
run_surely-requires g c κs = ((refl, tt), lawful)

pub returns-clause-drawn : goal.returns-clause-drawn
returns-clause-drawn g c = let e = c.run_surely.ensures.ended in right_as_drawn_of _ _ e.outcome e.told e.status (gave _ _ e.outcome e.told e.status e.ends)

pub returns-clause-headline : goal.returns-clause-headline
returns-clause-headline g c = let e = c.run_surely.ensures.ended in headline _ _
    (right_as_drawn_of _ _ e.outcome e.told e.status (gave _ _ e.outcome e.told e.status e.ends)) c.run_surely.ensures.complete
