use Rattle.causal_c.proofs.causal_keep.Goals as goal

pub returns-in-Err-clause-refused : goal.returns-in-Err-clause-refused
returns-in-Err-clause-refused c = λ three. c.in-Err.ensures.refused (c.status_of.ensures.refused three)
