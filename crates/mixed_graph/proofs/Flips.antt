use Rattle.std.proofs.Common.{ℕ, Bool, List, [], ◌∷◌, ◌++◌, sym}
use Rattle.mixed_graph.specs.Graphs.{MixedGraph, IsDirectedPath, IsAncestor, IsDescendant}
use Rattle.mixed_graph.proofs.Paths.{path_push}

-- the graph with its arrows turned
abbrev pub flip : MixedGraph → MixedGraph
flip g = record g { arrow = λ a b. g.arrow b a }

-- a directed path read backwards
pub path_back : (g : MixedGraph) (a b : ℕ) (path : List ℕ) → IsDirectedPath (flip g) a path b → (back : List ℕ) × IsDirectedPath g b back a
path_back g a b [] p = ([], sym p)
path_back g a b (c ∷ rest) p = let k = path_back g c b rest p.1 in (k.0 ++ a ∷ [], path_push g b c a k.0 k.1 p.0)

pub descendant_from : (g : MixedGraph) (s : ℕ → Bool) (v : ℕ) → IsAncestor (flip g) s v → IsDescendant g s v
descendant_from g s v a = let k = path_back g v a.end a.path a.leads in
    record { vertex = a.vertex; path = k.0; start = a.end; leads = k.1; inside = a.inside }

pub from_descendant : (g : MixedGraph) (s : ℕ → Bool) (v : ℕ) → IsDescendant g s v → IsAncestor (flip g) s v
from_descendant g s v d = let k = path_back (flip g) d.start v d.path d.leads in
    record { vertex = d.vertex; path = k.0; end = d.start; leads = k.1; inside = d.inside }
