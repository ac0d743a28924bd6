use Rattle.std.proofs.Common.{◌≡◌, Bool, true, false, ◌&&◌, refl, ◌∙◌}
use Rattle.mixed_graph.specs.Vocabulary.{has}
use Rattle.mixed_graph.proofs.Masks.{apart_from_meet, zero_from_empty}
use Rattle.caller_memory.proofs.kept.asking.are_apart.Goals as goal

meets_not : (p q : Bool) → (p ≡ true → q ≡ false) → (p && q) ≡ false
meets_not true q h = h refl
meets_not false q h = refl

pub returns : goal.returns
returns c = (
  λ empty. apart_from_meet c.intersection.result.bits c.args.s.bits c.args.t.bits c.intersection.ensures.members (c.is_empty.ensures.none.0 empty),
  λ apart. c.is_empty.ensures.none.1 (zero_from_empty c.intersection.result.bits
      (λ v. c.intersection.ensures.members v ∙ meets_not (has c.args.s.bits v) (has c.args.t.bits v) (apart v))),
)
