use Rattle.std.proofs.Common.{Bool, ◌∙◌, ◌≡◌, ◌||◌, ◌&&◌, nat_lt, ap, ap₂, arith}
use Rattle.mixed_graph.specs.Vocabulary.{has}
use Rattle.named_factors.proofs.names.vertices_of.Goals as goal

turned : (p q : Bool) → (p && q) ≡ (q && p)
turned p q = grind arith

pub returns : goal.returns
returns c = λ v. c.union.ensures.members v
    ∙ ap₂ (λ i j. i || j) (c.intersection.ensures.members v ∙ ap (λ b. has c.args.names.bits v && b) (c.below.ensures.members v)
    ∙ turned (has c.args.names.bits v) (nat_lt v c.args.n)) (c.seen_of.ensures v)
