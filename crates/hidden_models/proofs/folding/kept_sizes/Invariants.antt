use Rattle.std.proofs.Common.{◌≡◌, get_or}
use Rattle.hidden_models.specs.Lists.{AreListed}
use Rattle.hidden_models.proofs.folding.kept_sizes.Given as goal

abbrev pub invariant-loop-k : goal.invariant-loop-k
invariant-loop-k l = AreListed (λ k x. x ≡ get_or l.m.sizes.items (get_or l.kept k 0) 0) l.sizes.items l.k
