-- The two models of a path of bidirected edges from a child of a treatment to the treatment. Each visit of the path has a bit, which the arrows that
-- aren't out of x carry on; in the first model the bit of the child has the treatment's, too.
use Rattle.std.proofs.Common.{ℕ, zero, suc, ◌+◌, ◌-◌, ◌^◌, Bool, false, cond, eqb, ltb, not, ◌&&◌, ◌||◌}
use Rattle.mixed_graph.specs.Vocabulary.{has, MixedGraph}
use Rattle.finite_models.specs.Vocabulary.{FiniteModel, mask_of, differ}
use Rattle.finite_models.proofs.Factors.{any_below}

-- visit i of the path is at w i, for i up to k, and its last edge leads to the treatment, w (k + 1)
module _ (g : MixedGraph) (x : ℕ → Bool) (k : ℕ) (w : ℕ → ℕ) where
  -- the treatment
  abbrev pub end : ℕ
  end = w (suc k)

  -- a bit for each visit, and one that is the treatment's own
  abbrev pub bits : ℕ
  bits = suc (suc k)

  -- the coin of the edge behind visit i
  abbrev pub coin : (u : ℕ → ℕ) → ℕ → Bool
  coin u i = eqb (u (g.vertices + i)) 1

  -- as it is read at the visits: in the second model the last one isn't
  abbrev pub coin_in : (first : Bool) (u : ℕ → ℕ) → ℕ → Bool
  coin_in first u i = (first || ltb i k) && coin u i

  -- what is read of the edge before visit i: its coin, or, in the first model, the treatment's bit
  abbrev pub before : (first : Bool) (s u : ℕ → ℕ) → ℕ → Bool
  before first s u zero = first && has (s end) (suc k)
  before first s u (suc i) = coin_in first u i

  -- the bit of visit i
  abbrev pub own : (first : Bool) (s u : ℕ → ℕ) → ℕ → Bool
  own first s u i = differ (before first s u i) (coin_in first u i)

  -- bit i of a parent of v outside x
  abbrev pub carried : (s : ℕ → ℕ) → (v i : ℕ) → Bool
  carried s v i = any_below g.vertices (λ q. (g.arrow q v && not (x q)) && has (s q) i)

  -- bit i of v without noise
  abbrev pub calm_bit : (first : Bool) (s u : ℕ → ℕ) → (v i : ℕ) → Bool
  calm_bit first s u v i = cond (eqb i (suc k)) false (cond (eqb v (w i)) (own first s u i) (carried s v i))

  -- bit i of v: the treatment's own is the last coin; else, where the noise of v is j + 1, that of j
  abbrev pub new_bit : (first : Bool) (s u : ℕ → ℕ) → (v i : ℕ) → Bool
  new_bit first s u v i =
      cond (eqb v end && eqb i (suc k)) (coin u k) (cond (eqb (u v) 0) (calm_bit first s u v i) (has (u v - 1) i))

  -- the weight of a cause's value: no noise has the weight `many`
  abbrev pub weight_in : (many : ℕ) → ℕ → ℕ → ℕ
  weight_in many j i = cond (ltb j g.vertices && eqb i 0) many 1

  -- the noises of the vertices, and the coins of the edges
  abbrev pub path_model : (first : Bool) (many : ℕ) → FiniteModel
  path_model first many = record {
    vertices = g.vertices;
    size = λ v. 2 ^ bits;
    causes = g.vertices + suc k;
    values = λ j. cond (ltb j g.vertices) (2 ^ bits + 1) 2;
    weight = weight_in many;
    serves = λ j v. cond (ltb j g.vertices) (eqb v j) (eqb v (w (j - g.vertices)) || eqb v (w (suc (j - g.vertices))));
    mechanism = λ v s u. mask_of (new_bit first s u v) bits;
  }
