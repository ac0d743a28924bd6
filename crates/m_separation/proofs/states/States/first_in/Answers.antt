use Rattle.std.proofs.Common.{◌≡◌, ℕ, Bool, true, false, IsTrue}
use Rattle.mixed_graph.specs.Vocabulary.{has}
use Rattle.mixed_graph.proofs.Masks.{apart_from_meet}
use Rattle.m_separation.specs.States.{mask_of}
use Rattle.m_separation.proofs.states.States.first_in.Goals as goal

pub returns-clause-none : goal.returns-clause-none
returns-clause-none c = apart
  where
    apart : (h : Bool) (v : ℕ) → IsTrue (has (mask_of c.args.self h) v) → has c.args.set.bits v ≡ false
    apart true = apart_from_meet c.intersection-heads.result.bits c.args.self.heads.bits c.args.set.bits c.intersection-heads.ensures.members
        (c.is_empty-2.ensures.none.0 c.if-not-is_empty-2.false)
    apart false = apart_from_meet c.intersection-tails.result.bits c.args.self.tails.bits c.args.set.bits c.intersection-tails.ensures.members
        (c.is_empty.ensures.none.0 c.if-not-is_empty.false)
