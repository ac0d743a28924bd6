-- Districts that read both values of one treatment.
use Rattle.std.specs.Prelude.{ℕ, IsTrue}
use Rattle.mixed_graph.specs.Vocabulary.{has, MixedGraph, IsAncestor, induced, union, minus, all}
use Rattle.hedge.specs.Vocabulary.{IsMaximalJoined, IsSetOf}
use Rattle.nested_models.specs.Nested.{LeadsPast, LeadsThrough}

-- A district t of the ancestors of y and z outside x has two children of the treatment p: v leads to y past m, and w leads there through m (Shpitser 2013).
pub record IsSplitDistrict (g : MixedGraph) (x m y z : ℕ) (p t v w : ℕ) : Type 0 where
  pub from_x : IsTrue (has x p)
  pub d : ℕ
  pub ancestors : IsSetOf d (IsAncestor (induced g (has (minus (all g.vertices) x))) (has (union y z)))
  pub district : IsMaximalJoined g d t
  pub first_in : IsTrue (has t v)
  pub first_child : IsTrue (g.arrow p v)
  pub past : LeadsPast g (has x) (has m) (has y) v
  pub second_in : IsTrue (has t w)
  pub second_child : IsTrue (g.arrow p w)
  pub through : LeadsThrough g (has x) (has m) (has y) w
