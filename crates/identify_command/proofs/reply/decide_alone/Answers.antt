use Rattle.std.proofs.Common.{refl, subst}
use Rattle.std.proofs.lemmas.Bool.{false≢true}
use Rattle.mixed_graph.specs.Vocabulary.{graph_of}
use Rattle.identify.specs.Vocabulary.{IsRightAlone}
use Rattle.effect_answers.proofs.Found.{found_alone}
use Rattle.effect_answers.proofs.ReadBack.{hedge_back}
use Rattle.effect_answers.proofs.Writing.{bare_target}
use Rattle.identify_command.proofs.reply.decide_alone.Goals as goal

pub returns-in-Formula : goal.returns-in-Formula
returns-in-Formula c =
    let q = graph_of c.args.g.now in
    let right = subst (IsRightAlone q c.args.sets.x.bits c.args.sets.y.bits) c.in-Formula.is c.in_ok-formula.ensures.right in record {
      target = c.target_of-target.ensures;
      derivation = right.derivation;
      right = right.right;
      derived = right.derived;
      kept = refl;
      reads_back = λ e. absurd (false≢true e);
    }

pub returns-in-Hedge : goal.returns-in-Hedge
returns-in-Hedge c =
    let e = c.in_ok-formula.ensures in
    let q = graph_of c.args.g.now in
    let x = c.args.sets.x.bits in
    let y = c.args.sets.y.bits in
    let found = found_alone q x y c.in-Hedge.hedge c.in-Hedge.pair c.in-Hedge.is e.right e.hedge e.stop e.data e.pair in (
      refl,
      record {
        found = found;
        arrays = c.has_arrays.ensures;
        reads_back = hedge_back q x y c.in-Hedge.hedge (bare_target q.vertices x y c.requires.x c.requires.y c.requires.apart c.requires.some)
            c.has_arrays.ensures found.evidence;
      },
    )
