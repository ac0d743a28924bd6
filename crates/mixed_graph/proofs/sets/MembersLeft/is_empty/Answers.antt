use Rattle.std.proofs.Common.{◌∙◌, sym, arith}
use Rattle.std.proofs.lemmas.Bool.{eq-eqb, eqb-true}
use Rattle.mixed_graph.proofs.FirstMembers.{members-empty, empty-members}
use Rattle.mixed_graph.proofs.sets.MembersLeft.is_empty.Goals as goal

pub returns : goal.returns
returns c = (
  λ t. sym c.self.view_is ∙ members-empty c.self.inside.rest.bits (eqb-true _ 0 t),
  λ e. eq-eqb _ 0 (empty-members c.self.inside.rest.bits (omega arith) (c.self.view_is ∙ e)),
)
