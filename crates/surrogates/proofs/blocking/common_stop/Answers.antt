use Rattle.std.proofs.Common.{◌≡◌, true, sym, subst, ◌∙◌}
use Rattle.mixed_graph.specs.Vocabulary.{is_apart, graph_of}
use Rattle.prob_expr.specs.Vocabulary.{masks_of}
use Rattle.surrogates.proofs.Around.{around_is_apart}
use Rattle.surrogates.specs.Surrogates.{IsStoppedUnder}
use Rattle.surrogates.proofs.Together.{freed}
use Rattle.surrogates.proofs.blocking.common_stop.Goals as goal
use Rattle.surrogates.proofs.blocking.common_stop.Goals.{in-Ok, in-Err-Stopped, in-Err-NoMemory}

pub returns-then-is_empty : goal.returns-then-is_empty
returns-then-is_empty c = subst (λ u. IsStoppedUnder (graph_of c.args.g.now) u c.args.c.bits c.args.big.bits)
    (sym (c.is_empty.ensures.none.0 c.if-is_empty.true) ∙ c.around-together.ensures) c.requires.stopped

pub factor_without-requires-clause-apart : goal.factor_without-requires-clause-apart
factor_without-requires-clause-apart c = subst (λ u. is_apart u c.args.c.bits
    ≡ true) (sym c.around-together.ensures) (around_is_apart c.args.c.bits (masks_of c.args.experiments.now))

-- what is tried under the experiments together tells whether the factor stops under them
pub returns : goal.returns
returns c =
    let g = graph_of c.args.g.now in
    let zs = masks_of c.args.experiments.now in
    let k = c.args.c.bits in
    elim c.match-factor_without.branch [
      | in-Ok w ↦ rw w.result-is (λ big stop. freed g c.around-together.result.bits k 0 w.in-Ok.field-0 w.in-Ok.ensures.tried big
          (subst (λ u. IsStoppedUnder g u k big) (sym c.around-together.ensures) stop))
      | in-Err-Stopped w ↦ rw w.result-is (subst (λ u. IsStoppedUnder g u k w.in-Err-Stopped.common.bits) c.around-together.ensures
          (rw w.in-Err-Stopped.field-0-is at w.in-Err-Stopped.ensures.fault))
      | in-Err-NoMemory w ↦ rw w.result-is tt
    ]
