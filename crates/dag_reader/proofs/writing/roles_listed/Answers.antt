use Rattle.dag_reader.specs.Written.{role_at}
use Rattle.dag_reader.proofs.WrittenLines.{listed_begin, listed_more}
use Rattle.dag_reader.proofs.writing.roles_listed.Goals as goal

pub loop-v-init : goal.loop-v-init
loop-v-init c = listed_begin c.new-roles.result.items (role_at c.args.g.now) c.new-roles.ensures.items

pub loop-v-preserved : goal.loop-v-preserved
loop-v-preserved c = listed_more c.loop-v.roles.items c.push.new.self.items (role_at c.args.g.now)
    c.loop-v.v c.role_at.result c.loop-v.invariant c.role_at.ensures c.in_ok-push.ensures.items
