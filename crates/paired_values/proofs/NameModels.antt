-- A cell of names in a model that has the counts.
use Rattle.std.proofs.Common.{◌<◌, ℕ, List, inl, inr, subst, sym, arith}
use Rattle.std.proofs.lemmas.Bool.{cases_Bool}
use Rattle.mixed_graph.specs.Vocabulary.{MixedGraph}
use Rattle.finite_models.specs.Vocabulary.{FiniteModel, Fits, IsAssignment}
use Rattle.count_rows.specs.Vocabulary.{Table}
use Rattle.count_table.specs.Vocabulary.{total}
use Rattle.count_eval.specs.Vocabulary.{IsMatched, cell_of, is_used, weights_in}
use Rattle.treated_models.specs.Vocabulary.{as_observed, name_count, vertex_of, with_primes}
use Rattle.treated_models.proofs.NamedOnce.{vertex_low}
use Rattle.treated_models.proofs.Primes.{plain_within, observed_within}
use Rattle.paired_values.specs.Cells.{IsNameCell}

module _ (g : MixedGraph) (x : ℕ) (t : Table) (cell : List ℕ) (is : IsNameCell g.vertices x t cell) (m : FiniteModel) (fits : Fits g m)
    (matched : IsMatched (is_used t) (weights_in g.vertices t) (total t.rows) m) where
  -- it has a value of each name's vertex
  named : (k : ℕ) → k < name_count g.vertices x → cell_of cell k < m.size (vertex_of g.vertices x k)
  named k lt =
      let v = vertex_of g.vertices x k in
      let there : v < m.vertices = subst (λ n. v < n) (sym fits.vertices) (vertex_low g.vertices x k lt) in
      elim (cases_Bool (is_used t v)) [
        | inl h ↦ (let l = is.levels k lt h in let s = matched.sizes v there h in omega (arith, l, s))
        | inr h ↦ (let z = is.others k lt h in let p = fits.positive_size v there in omega (arith, z, p))
      ]

  -- so its levels are an assignment of names
  pub assigned : IsAssignment (with_primes m x).vertices (with_primes m x).size (cell_of cell)
  assigned = subst (λ n. (k : ℕ) → k < name_count n x → cell_of cell k < m.size (vertex_of n x k)) (sym fits.vertices) named

  -- and its first and its second levels are assignments
  pub first_within : IsAssignment m.vertices m.size (cell_of cell)
  first_within = subst (λ n. IsAssignment n m.size (cell_of cell)) (sym fits.vertices) (plain_within g.vertices x m.size (cell_of cell) named)

  pub second_within : IsAssignment m.vertices m.size (as_observed g.vertices x (cell_of cell))
  second_within = subst (λ n. IsAssignment n m.size (as_observed g.vertices x (cell_of cell))) (sym fits.vertices)
      (observed_within g.vertices x m.size (cell_of cell) named)
