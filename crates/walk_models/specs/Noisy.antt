-- A model with noise at each vertex: it is positive, and near the model where the noise is rare.
use Rattle.std.specs.Prelude.{ℕ, ◌+◌, ◌-◌, ◌*◌, ◌≤◌, ◌≡◌, Bool, if◌then◌else◌, ◌==◌, ltb}
use Rattle.mixed_graph.specs.Vocabulary.{MixedGraph}
use Rattle.finite_models.specs.Vocabulary.{FiniteModel, Fits, IsAssignment, IsPositiveModel, weight_of, ServesTwo}

-- Each vertex v gets a cause of its own, number causes + v.
-- With value 0, of weight k, v follows its mechanism; with value i + 1, of weight 1, it has the value i.
abbrev pub noisy : ℕ → FiniteModel → FiniteModel
noisy k m = record m {
  causes = m.causes + m.vertices;
  values = λ j. if ltb j m.causes then m.values j else (m.size (j - m.causes) + 1);
  weight = λ j i. if ltb j m.causes then m.weight j i else (if i == 0 then k else 1);
  serves = λ j v. if ltb j m.causes then m.serves j v else (v == j - m.causes);
  mechanism = λ v s u. if u (m.causes + v) == 0 then m.mechanism v s u else (u (m.causes + v) - 1);
}

-- m with noise: a positive model of the same sizes that fits the graph; causes serve two vertices at most where those of m do.
-- Each of its weights is, up to one scale, that of m or more by at most extra / k.
pub record IsNear (g : MixedGraph) (m : FiniteModel) (k extra : ℕ) (p : FiniteModel) : Type 0 where
  pub fits : Fits g p
  pub positive : IsPositiveModel p
  pub two : ServesTwo m → ServesTwo p
  pub vertices : p.vertices ≡ m.vertices
  pub size : (v : ℕ) → p.size v ≡ m.size v
  pub scale : ℕ
  pub some : 1 ≤ scale
  pub least : (b a : ℕ → Bool) (s : ℕ → ℕ) → IsAssignment m.vertices m.size s → scale * weight_of m b a s ≤ weight_of p b a s
  pub most : (b a : ℕ → Bool) (s : ℕ → ℕ) → IsAssignment m.vertices m.size s → k * weight_of p b a s ≤ scale * (k * weight_of m b a s + extra)
