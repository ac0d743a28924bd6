use Rattle.std.proofs.Common.{rules, ◌≡◌, ◌≢◌, ◌∙◌, true, refl, sym, ap}
use Rattle.bound_values.specs.declared.questions.Method.{Method}
use Rattle.bound_values.specs.declared.questions.Method.TheVariants.{Instruments, LevelPairs, Adjustment}
use Rattle.bound_values.specs.Values.{in_place}
use Rattle.bound_values.proofs.methods.method_over.Goals as goal

-- where pairs are used, they take the place of levels
pairs_in_place : (method : Method) → method ≢ Adjustment → LevelPairs ≡ in_place method true
pairs_in_place Instruments other = refl
pairs_in_place LevelPairs other = refl
pairs_in_place Adjustment other = absurd (other refl)

pub returns-then-branch : goal.returns-then-branch
returns-then-branch c =
    let other : c.args.question.method ≢ Adjustment = search rules in
    record {
      value = pairs_in_place c.args.question.method other
          ∙ ap (in_place c.args.question.method) (sym c.if-branch.true ∙ c.in_ok-has_pairs-in-Instruments.ensures.value);
      pairs = λ n same. c.in_ok-has_pairs-in-Instruments.ensures.pairs n c.if-branch.true;
    }
