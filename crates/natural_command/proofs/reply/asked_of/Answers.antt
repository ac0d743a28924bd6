use Rattle.std.proofs.Common.{◌≡◌, false, not, refl, arith}
use Rattle.mixed_graph.specs.Vocabulary.{has, graph_of}
use Rattle.nested_models.specs.Vocabulary.{LeadsThrough, LeadsPast, HasNoIndirectPath, HasNoDirectPath}
use Rattle.nested_models.proofs.Effects.{no_indirect_path_is_effect, no_direct_path_is_effect}
use Rattle.natural_command.proofs.Naming.{turned}
use Rattle.natural_command.proofs.Ways.{some_way, no_way, some_flag, no_flag, target_of}
use Rattle.natural_command.proofs.reply.asked_of.Goals as goal
use Rattle.natural_command.proofs.reply.asked_of.Goals.{After-is_empty-2}

pub leading_past-past-requires-clause-y_off_x : goal.leading_past-past-requires-clause-y_off_x
leading_past-past-requires-clause-y_off_x c = turned (has c.args.question.x.bits) (has c.args.question.y.bits) c.requires.sets.x_y

pub leading_through-indirect-requires-clause-m_off_x : goal.leading_through-indirect-requires-clause-m_off_x
leading_through-indirect-requires-clause-m_off_x c = turned (has c.args.question.x.bits) (has c.args.question.through.bits) c.requires.sets.x_z

-- no way leads through the mediators
indirect : (c : After-is_empty-2) → not c.is_empty.result ≡ false
    → HasNoIndirectPath (graph_of c.args.g.now) (has c.args.question.x.bits) (has c.args.question.through.bits) (has c.args.question.y.bits)
indirect c e =
    let q = c.args.question in let g = graph_of c.args.g.now in
    no_way g q.x.bits c.joined-children.result.bits c.leading_through-indirect.result.bits c.intersection.result.bits
    (LeadsThrough g (has q.x.bits) (has q.through.bits) (has q.y.bits)) c.leading_through-indirect.ensures c.joined-children.ensures
    c.intersection.ensures.members (no_flag c.is_empty.result c.intersection.result.bits c.is_empty.ensures.none e)

-- no way leads past them
direct : (c : After-is_empty-2) → not c.is_empty-2.result ≡ false
    → HasNoDirectPath (graph_of c.args.g.now) (has c.args.question.x.bits) (has c.args.question.through.bits) (has c.args.question.y.bits)
direct c e =
    let q = c.args.question in let g = graph_of c.args.g.now in
    no_way g q.x.bits c.joined-children.result.bits c.leading_past-past.result.bits c.intersection-2.result.bits
    (LeadsPast g (has q.x.bits) (has q.through.bits) (has q.y.bits)) c.leading_past-past.ensures c.joined-children.ensures
    c.intersection-2.ensures.members (no_flag c.is_empty-2.result c.intersection-2.result.bits c.is_empty-2.ensures.none e)

pub returns : goal.returns
returns c =
    let q = c.args.question in let g = graph_of c.args.g.now in
    let at = (goal.at.returns c).After-is_empty-2 in
    let target = target_of g q c.requires.sets c.requires.before in
    record {
      question = refl;
      primes = c.names_of.ensures;
      some_indirect = λ e. some_way g q.x.bits c.joined-children.result.bits c.leading_through-indirect.result.bits c.intersection.result.bits
          (LeadsThrough g (has q.x.bits) (has q.through.bits) (has q.y.bits)) c.leading_through-indirect.ensures c.joined-children.ensures
          c.intersection.ensures.members (some_flag c.is_empty.result c.intersection.result.bits c.is_empty.ensures.none e) (omega arith);
      no_indirect = indirect at;
      some_direct = λ e. some_way g q.x.bits c.joined-children.result.bits c.leading_past-past.result.bits c.intersection-2.result.bits
          (LeadsPast g (has q.x.bits) (has q.through.bits) (has q.y.bits)) c.leading_past-past.ensures c.joined-children.ensures
          c.intersection-2.ensures.members (some_flag c.is_empty-2.result c.intersection-2.result.bits c.is_empty-2.ensures.none e) (omega arith);
      no_direct = direct at;
      indirect_nil = λ e w fit s t hs ht. no_indirect_path_is_effect g c.args.g.now.valid w fit (has q.x.bits) (has q.through.bits) (has q.y.bits)
          (has q.given.bits) target.asked (indirect at e) s t hs ht;
      direct_nil = λ e w fit s t hs ht. no_direct_path_is_effect g c.args.g.now.valid w fit (has q.x.bits) (has q.through.bits) (has q.y.bits)
          (has q.given.bits) target.asked (direct at e) s t hs ht;
    }
