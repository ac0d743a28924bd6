use Rattle.std.proofs.Common.{arith, sym, ◌∙◌}
use Rattle.dag_reader.specs.Bytes.{in_class}
use Rattle.dag_reader.proofs.TextForm.{length-behind, run_stays, run_goes}
use Rattle.dag_reader.proofs.tokens.run_len.Goals as goal

pub loop-rest-preserved : goal.loop-rest-preserved
loop-rest-preserved c =
    let goes = run_goes (in_class c.args.class) c.loop-rest.rest.now c.in-len1-up.len_at_least (sym c.is_in.ensures ∙ c.if-not-is_in.false) in
    let shorter = length-behind c.loop-rest.rest.now c.in-len1-up.len_at_least in
    let before = c.loop-rest.invariant.within in
    let run = c.loop-rest.invariant.run in
    record {
      within = omega (arith, shorter, before);
      run = omega (arith, goes, shorter, run);
    }

pub returns-then-not-is_in-clause-run : goal.returns-then-not-is_in-clause-run
returns-then-not-is_in-clause-run c =
    let stays = run_stays (in_class c.args.class) c.loop-rest.rest.now c.in-len1-up.len_at_least (sym c.is_in.ensures ∙ c.if-not-is_in.true) in
    let before = c.loop-rest.invariant.within in
    let run = c.loop-rest.invariant.run in
    omega (arith, stays, run, before)
