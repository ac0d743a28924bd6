-- When an effect among the treated is confounded: the criterion (Shpitser and Pearl 2009).
use Rattle.std.specs.Prelude.{ℕ, ◌∷◌, ◌==◌, List, IsTrue}
use Rattle.mixed_graph.specs.Vocabulary.{has, MixedGraph, IsAncestor, IsDirectedPath, union}
use Rattle.hedge.specs.Vocabulary.{IsLinked, IsSetOf}

-- a directed path of two or more vertices leads from a member of x to v
pub record IsAfter (g : MixedGraph) (x : ℕ) (v : ℕ) : Type 0 where
  pub start : ℕ
  pub next : ℕ
  pub path : List ℕ
  pub inside : IsTrue (has x start)
  pub leads : IsDirectedPath g start (next ∷ path) v

-- no member of x or z comes after a member of x
abbrev pub AreBefore : MixedGraph → (x z : ℕ) → Type 0
AreBefore g x z = (v : ℕ) → IsTrue (has (union x z) v) → IsAfter g x v → ⊥

-- s is the set of the ancestors of y, x and z
abbrev pub AreAncestors : MixedGraph → (x y z s : ℕ) → Type 0
AreAncestors g x y z s = IsSetOf s (IsAncestor g (has (union (union x z) y)))

-- Among the ancestors of y, x and z, a member of x is joined by bidirected edges to a child of its own.
pub record IsConfounded (g : MixedGraph) (x y z : ℕ) : Type 0 where
  pub ancestors : ℕ
  pub are : AreAncestors g x y z ancestors
  pub treatment : ℕ
  pub child : ℕ
  pub treated : IsTrue (has x treatment)
  pub arrow : IsTrue (g.arrow treatment child)
  pub linked : IsLinked g (has ancestors) (λ v. v == treatment) child
