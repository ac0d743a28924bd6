use Rattle.std.proofs.Common.{arith}
use Rattle.certificate_json.specs.Certificates.{choices_from}
use Rattle.certificate_json.proofs.Pairs.{choice_listed, choices_listed}
use Rattle.certificate_json.proofs.hedges.choices_of.Goals as goal

pub loop-v-preserved : goal.loop-v-preserved
loop-v-preserved c = (
  choice_listed c.args.choice.now.next c.loop-v.v c.loop-v.all.items c.push_choice.new.all.items (choices_from 0 c.args.choice.now.next)
      (omega (arith, c.loop-v.invariant.1)) c.in_ok-push_choice.ensures c.loop-v.invariant.0,
  c.loop-v.invariant.1,
)

pub returns-clause-pairs : goal.returns-clause-pairs
returns-clause-pairs c = choices_listed c.args.choice.now.next c.loop-v.v c.loop-v.all.items (choices_from 0 c.args.choice.now.next)
    (omega (arith, c.loop-v.invariant.1)) c.loop-v.invariant.0
