-- Lowest differences come in ascending pairs.
use Rattle.std.proofs.Common.{ℕ, ◌≡◌, ◌≢◌, ◌<◌, inl, inr, ◌∙◌, arith}
use Rattle.std.proofs.lemmas.Bool.{cases_order}
use Rattle.mixed_graph.specs.Vocabulary.{MixedGraph, IsMixedGraph}
use Rattle.markov_equivalence.specs.Skeletons.{is_adjacent}
use Rattle.markov_equivalence.proofs.Shows.{no_loop, turned}

-- where all pairs with a lower first vertex agree, a pair that differs ascends
pub ascending : (g h : MixedGraph) → IsMixedGraph g → IsMixedGraph h → (a b : ℕ) → ((x y : ℕ) → x < a → is_adjacent g x y ≡ is_adjacent h x y)
    → is_adjacent g a b ≢ is_adjacent h a b → a < b
ascending g h gv hv a b before differs = elim (cases_order a b) [
  | inl e ↦ absurd (differs (rw e (let p = no_loop g gv b in let q = no_loop h hv b in grind arith)))
  | inr (inl lt) ↦ lt
  | inr (inr gt) ↦ absurd (differs (turned g a b ∙ before b a gt ∙ turned h b a))
]
