use Rattle.std.proofs.Common.{refl, sym, arith}
use Rattle.mixed_graph.proofs.Masks.{below_64}
use Rattle.finite_models.proofs.causes.are_joined.Goals as goal

pub returns : goal.returns
returns c = (λ t u v i j d. c.loop-v.invariant u (let b = below_64 c.args.children.bits u (omega arith) i in omega arith) i v j (λ e. d (sym e)), λ h. refl)
