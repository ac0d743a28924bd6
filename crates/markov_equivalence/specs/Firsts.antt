-- The first difference of two skeletons, and of two collections of unshielded colliders.
use Rattle.std.specs.Prelude.{ℕ, ◌≡◌, ◌≢◌, ◌<◌}
use Rattle.mixed_graph.specs.Vocabulary.{MixedGraph}
use Rattle.markov_equivalence.specs.Skeletons.{is_adjacent, is_unshielded_collider}

-- a < b are joined in one of the graphs alone, and no pair with a lower first vertex, or with first vertex a and a lower second one, is
pub record IsFirstDifference (g h : MixedGraph) (a b : ℕ) : Type 0 where
  pub ascends : a < b
  pub differs : is_adjacent g a b ≢ is_adjacent h a b
  pub before_a : (x y : ℕ) → x < y → x < a → is_adjacent g x y ≡ is_adjacent h x y
  pub before_b : (y : ℕ) → a < y → y < b → is_adjacent g a y ≡ is_adjacent h a y

-- m is an unshielded collider between a < b in one of the graphs alone, and with this a no lower b has one, and this b no lower m
pub record IsFirstFrom (g h : MixedGraph) (a b m : ℕ) : Type 0 where
  pub ascends : a < b
  pub differs : is_unshielded_collider g a m b ≢ is_unshielded_collider h a m b
  pub before_b : (y k : ℕ) → a < y → y < b → is_unshielded_collider g a k y ≡ is_unshielded_collider h a k y
  pub before_m : (k : ℕ) → k < m → is_unshielded_collider g a k b ≡ is_unshielded_collider h a k b

-- the same, and no pair with a lower first vertex has one
pub record IsFirstCollider (g h : MixedGraph) (a b m : ℕ) : Type 0 where
  pub here : IsFirstFrom g h a b m
  pub before_a : (x y k : ℕ) → x < y → x < a → is_unshielded_collider g x k y ≡ is_unshielded_collider h x k y
