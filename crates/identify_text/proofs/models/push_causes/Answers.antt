use Rattle.std.proofs.Common.{◌+◌, drop, arith}
use Rattle.identify_text.specs.ModelLines.{cause_line, cause_lines}
use Rattle.identify_text.proofs.Lines.{causes_step, step_written}
use Rattle.identify_text.proofs.models.push_causes.Goals as goal

pub loop-cause-preserved : goal.loop-cause-preserved
loop-cause-preserved c =
    let names = c.args.names.now in let causes = c.args.causes.now in
    let i = c.loop-cause.cause-index in let j = c.loop-cause.j in
    record {
      index = omega arith;
      told = step_written (cause_line names j c.cause-item.result) (cause_lines names j (drop i causes)) (cause_lines names (j + 1) (drop (i + 1) causes))
          c.args.out.now.items c.loop-cause.out.items _
          (cause_lines names 0 causes) (causes_step names j i causes c.cause-item.result (omega arith) c.cause-item.is)
          c.loop-cause.invariant.told c.in_ok-push_cause.ensures;
    }
