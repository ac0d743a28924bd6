-- Data of the right form that means a model that fits the graph is sound.
use Rattle.std.proofs.Common.{ℕ, zero, suc, ◌≡◌, ◌<◌, ◌≤◌, subst, length, get_or, arith}
use Rattle.mixed_graph.specs.Vocabulary.{has, MixedGraph}
use Rattle.finite_models.specs.Sums.{sum_below}
use Rattle.finite_models.specs.Data.{value_by, weights_of, children_of}
use Rattle.finite_models.specs.Inputs.{HasInputs, HasValues, HasPartSize}
use Rattle.finite_models.specs.Faults.{IsWellFormed, IsSoundModel}
use Rattle.finite_models.specs.Laws.{FittingDataIsSound}
use Rattle.finite_models.proofs.DataFits.{value_at}
use Rattle.finite_models.proofs.Digits.{placed}
use Rattle.finite_models.specs.declared.model.Model.{Model}
use Rattle.finite_models.specs.declared.model.Mechanism.{Mechanism}
use Rattle.finite_models.specs.declared.model.Mechanism.TheVariants.{Table, Parity}

some_value : (n : ℕ) (f : ℕ → ℕ) → 1 ≤ sum_below n f → 0 < n
some_value zero f h = absurd (omega arith)
some_value (suc n) f h = omega arith

module _ (g : MixedGraph) (m : Model) (v size : ℕ) (sizes : (p : ℕ) → p < g.vertices → 0 < get_or m.sizes.items p 0)
    (values : (j : ℕ) → j < length m.causes.items → 0 < length (weights_of m.causes.items j)) where
  values_from : (k : Mechanism) → HasInputs g m v k → HasPartSize size k
      → ((s u : ℕ → ℕ) → ((p : ℕ) → p < g.vertices → s p < get_or m.sizes.items p 0)
      → ((j : ℕ) → j < length m.causes.items → u j < length (weights_of m.causes.items j)) → value_by g m v s u k < size)
      → HasValues size k
  values_from (Table outputs) h f below = λ i l.
      let w = placed g.vertices (length m.causes.items) (λ p. g.arrow p v) (λ j. has (children_of m.causes.items j) v)
      (λ p. get_or m.sizes.items p 0) (λ j. length (weights_of m.causes.items j)) sizes values i (along l h) in
      subst (λ x. get_or outputs.items x 0 < size) w.is (below w.parents w.causes w.parents_below w.causes_below)
    where
      along : {x y z : ℕ} → x < y → y ≡ z → x < z
      along l e = omega arith
  values_from (Parity h c) i f below = f

pub data_sound : FittingDataIsSound
data_sound g m sizes mechanisms form fit = record {
  causes = λ j lt. record {
    positive = fit.positive_weight j lt;
    child = fit.some_child j lt;
    below = λ v h. fit.child_below j v lt h;
    joined = λ u v h k d. fit.joined j u v lt h k d;
  };
  inputs = form.inputs;
  values = λ v lt past. (
      let l : v < length m.mechanisms.items = omega arith in
      values_from g m v (get_or m.sizes.items v 0) fit.positive_size (λ j k. some_value _ _ (fit.positive_weight j k)) (get_or m.mechanisms.items v past)
      (form.inputs v lt past) (form.part_sizes v lt past)
      (λ s u hs hu. subst (λ x. x < get_or m.sizes.items v 0) (value_at g m v past l s u) (fit.below v lt s u hs hu)));
}

-- sound data has the form
part_size : (size : ℕ) (k : Mechanism) → HasValues size k → HasPartSize size k
part_size size (Table outputs) h = tt
part_size size (Parity a b) h = h

pub form_of : (g : MixedGraph) (m : Model) → IsSoundModel g m → IsWellFormed g m
form_of g m s =
    record { inputs = s.inputs; part_sizes = λ v lt past. part_size (get_or m.sizes.items v 0) (get_or m.mechanisms.items v past) (s.values v lt past) }
