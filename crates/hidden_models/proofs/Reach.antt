-- Descendants along arrows out of hidden vertices alone are what is reached.
use Rattle.std.proofs.Common.{ℕ, ◌≡◌, ◌<◌, Bool, true, false, ◌&&◌, List, [], ◌∷◌, sym}
use Rattle.std.proofs.lemmas.Bool.{and_from}
use Rattle.mixed_graph.specs.Vocabulary.{MixedGraph, IsMixedGraph, IsDirectedPath, IsDescendant, restricted}
use Rattle.latent_projection.specs.Vocabulary.{AreBefore}
use Rattle.latent_projection.proofs.Treks.{left_true, right_true}
use Rattle.hidden_models.specs.Reaching.{IsReachedFrom}

-- the graph with the arrows out of hidden vertices alone
abbrev pub past : MixedGraph → (tails heads ends : ℕ → Bool) → MixedGraph
past g tails heads ends = restricted g tails heads ends

module _ (g : MixedGraph) (ok : IsMixedGraph g) (l heads ends : ℕ → Bool) (all : (v : ℕ) → v < g.vertices → heads v ≡ true) where
  pub leads_back : (v : ℕ) (xs : List ℕ) (u : ℕ) → IsDirectedPath (restricted g l heads ends) v xs u → IsDirectedPath g v xs u
  leads_back v [] u p = p
  leads_back v (x ∷ xs) u p = (left_true (g.arrow v x) (l v && heads x) p.0, leads_back x xs u p.1)

  pub hidden_before : (v : ℕ) (xs : List ℕ) (u : ℕ) → IsDirectedPath (restricted g l heads ends) v xs u → AreBefore l v xs
  hidden_before v [] u p = tt
  hidden_before v (x ∷ xs) u p = (left_true (l v) (heads x) (right_true (g.arrow v x) (l v && heads x) p.0), hidden_before x xs u p.1)

  pub leads_past : (v : ℕ) (xs : List ℕ) (u : ℕ) → IsDirectedPath g v xs u → AreBefore l v xs → IsDirectedPath (restricted g l heads ends) v xs u
  leads_past v [] u p b = p
  leads_past v (x ∷ xs) u p b = (
    and_from (g.arrow v x) (l v && heads x) p.0 (and_from (l v) (heads x) b.0 (all x (ok.head_below v x p.0))),
    leads_past x xs u p.1 b.1,
  )

  end_below : (s : ℕ → Bool) → ((v : ℕ) → s v ≡ true → v < g.vertices) → (v : ℕ) (xs : List ℕ) (u : ℕ) → v < g.vertices → IsDirectedPath g v xs u
      → u < g.vertices
  end_below s low v [] u lt p = rw (sym p) lt
  end_below s low v (x ∷ xs) u lt p = end_below s low x xs u (ok.head_below v x p.0) p.1

  module _ (s : ℕ → Bool) (low : (v : ℕ) → s v ≡ true → v < g.vertices) where
    pub reached_of : (v : ℕ) → IsDescendant (restricted g l heads ends) s v → l v ≡ false → IsReachedFrom g l s v
    reached_of v d o = record {
      start = d.start;
      path = d.path;
      inside = d.inside;
      leads = leads_back d.start d.path v d.leads;
      before = hidden_before d.start d.path v d.leads;
      observed = o;
    }

    pub of_reached : (v : ℕ) → IsReachedFrom g l s v → IsDescendant (restricted g l heads ends) s v
    of_reached v r = record {
      vertex = end_below s low r.start r.path v (low r.start r.inside) r.leads;
      path = r.path;
      start = r.start;
      leads = leads_past r.start r.path v r.leads r.before;
      inside = r.inside;
    }
