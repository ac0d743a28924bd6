use Rattle.std.proofs.Common.{refl, arith}
use Rattle.command_run.proofs.NeverFails.{sure_end}
use Rattle.command_run.proofs.sure.run_surely.Goals as goal

pub returns-clause-read : goal.returns-clause-read
returns-clause-read g c = (sure_end g.R.Request.commands _ _ _ (λ name. refl) refl c.run.ensures.ended).0

pub returns-clause-write : goal.returns-clause-write
returns-clause-write g c = (sure_end g.R.Request.commands _ _ _ (λ name. refl) refl c.run.ensures.ended).1

pub returns-clause-exact : goal.returns-clause-exact
returns-clause-exact g c = c.run.ensures.complete.exact (λ q asks name is_read there. (_, refl))
    (record { reads = λ q asks name is_read rose. absurd (omega (arith, rose)); writes = λ rose. absurd (omega (arith, rose)) })
