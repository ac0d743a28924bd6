use Rattle.std.proofs.Common.{◌≡◌, ◌∙◌, sym, false, get_or, inl, inr, arith}
use Rattle.std.proofs.lemmas.Bool.{cases_eq}
use Rattle.mixed_graph.specs.Vocabulary.{has}
use Rattle.mixed_graph.proofs.Masks.{has-zero}
use Rattle.equivalent_command.proofs.faults.first_bidirected.Goals as goal

pub loop-a-preserved : goal.loop-a-preserved
loop-a-preserved c = λ x y h.
    let none : has (get_or c.args.g.now.spouses c.loop-a.a 0) y ≡ false = sym (c.spouses-spouses.ensures.members y)
    ∙ (rw (c.is_empty.ensures.none.0 c.if-not-is_empty.false) (has-zero y)) in
    elim (cases_eq x c.loop-a.a) [
      | inl e ↦ rw e none
      | inr d ↦ c.loop-a.invariant x y (omega arith)
    ]
