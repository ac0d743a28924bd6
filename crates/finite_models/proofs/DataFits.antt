-- Sound data means a model that fits the graph.
use Rattle.std.proofs.Common.{ℕ, ◌≡◌, ◌<◌, refl, sym, subst, ◌∙◌, List, [], ◌∷◌, length, get_or, arith}
use Rattle.std.proofs.lemmas.List.{get_or-map}
use Rattle.finite_models.specs.Data.{meaning, value_by}
use Rattle.finite_models.specs.Laws.{SoundDataFits}
use Rattle.mixed_graph.specs.Vocabulary.{MixedGraph}
use Rattle.finite_models.proofs.DataReads.{reads_same, value_below}
use Rattle.finite_models.specs.declared.model.Model.{Model}
use Rattle.finite_models.specs.declared.model.Mechanism.{Mechanism}

some_of : (xs : List Mechanism) (i : ℕ) → i < length xs → Mechanism
some_of [] i lt = absurd (omega arith)
some_of (x ∷ xs) i lt = x

-- a vertex's mechanism in the model that the data means gives the value by its entry in the list
pub value_at : (g : MixedGraph) (m : Model) (v : ℕ) (d : Mechanism) → v < length m.mechanisms.items → (s u : ℕ → ℕ) → (meaning g m).mechanism v s u
    ≡ value_by g m v s u (get_or m.mechanisms.items v d)
value_at g m v d lt s u = get_or-map (value_by g m v s u) m.mechanisms.items v d 0 lt

-- sound data, with a positive size and a mechanism for each vertex, means a model that fits the graph
pub data_fits : SoundDataFits
data_fits g m sizes mechanisms positive sound = record {
  vertices = refl;
  positive_size = λ v lt. positive v (omega arith);
  positive_weight = λ j lt. (sound.causes j lt).positive;
  some_child = λ j lt. (sound.causes j lt).child;
  child_below = λ j v lt h. (sound.causes j lt).below v h;
  joined = λ j u v lt h k d. (sound.causes j lt).joined u v h k d;
  reads = λ v lt s t u w hs hu. (
      let l : v < length m.mechanisms.items = omega arith in
      let d = some_of m.mechanisms.items v l in
      value_at g m v d l s u ∙ reads_same g m v s t u w hs hu (get_or m.mechanisms.items v d) (sound.inputs v lt d) ∙ sym (value_at g m v d l t w));
  below = λ v lt s u hs hu. (
      let l : v < length m.mechanisms.items = omega arith in
      let d = some_of m.mechanisms.items v l in
      subst (λ x. x < get_or m.sizes.items v 0) (sym (value_at g m v d l s u))
      (value_below g m v s u hs hu (get_or m.mechanisms.items v d) (sound.inputs v lt d) (sound.values v lt d)));
}
