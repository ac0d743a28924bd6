-- The sets of a query are sets of vertices, and an open path has its own ends.
use Rattle.std.proofs.Common.{◌≡◌, ℕ, ◌+◌, ◌-◌, Bool, List, length, Option, Some, None, zero, suc, refl, ap, ◌∙◌, arith, eq-eqb}
use Rattle.std.specs.Prelude.{IfSome, slice_index}
use Rattle.std.specs.Global.{Vec}
use Rattle.mixed_graph.specs.Vocabulary.{MixedGraph, texts}
use Rattle.m_separation.specs.declared.marks.Mark.{Mark}
use Rattle.m_separation.specs.declared.paths.OpenPath.{OpenPath}
use Rattle.m_separation.specs.Vocabulary.{last, IsOpenPath, steps_from}
use Rattle.targets.specs.declared.query.Sets.{Sets}
use Rattle.targets.proofs.Queries.{set_within}
use Rattle.markov_equivalence.specs.Vocabulary.{IsOpenWithEndsOf}
use Rattle.diagram.specs.declared.diagram.Diagram.{Diagram}
use Rattle.diagram.specs.Vocabulary.{query_lists}
use Rattle.equivalent_command.specs.Requests.{Query, query_of}
use Rattle.equivalent_command.specs.Queries.{lists_on, AreAsked, AreBelow}
use Rattle.equivalent_command.specs.declared.request.Query.{Query as CodeQuery}

-- the lists of a query, where they are lent
pub lent_query : (d : Diagram) (q : CodeQuery) (x y given : List (Vec ℕ)) → x ≡ q.x.items → y ≡ q.y.items → given ≡ q.given.items
    → query_lists d.read d.observed.names (Some (texts x)) (Some (texts y)) (Some (texts given)) ≡ lists_on d (query_of q)
lent_query d q x y given e f g = λ i. query_lists d.read d.observed.names (Some (texts (e i))) (Some (texts (f i))) (Some (texts (g i)))

-- the sets that lists name are sets of the observed vertices
pub asked_below : (d : Diagram) (l : Option Query) (s : Option Sets) → AreAsked d l s → IfSome s (AreBelow (length d.observed.names))
asked_below d None None a = tt
asked_below d None (Some s) a = absurd a
asked_below d (Some q) None a = absurd a
asked_below d (Some q) (Some s) a = record {
  x = set_within d.observed.names q.x s.x.bits a.set_x;
  y = set_within d.observed.names q.y s.y.bits a.set_y;
  given = set_within d.observed.names q.given s.given.bits a.set_given;
}

-- where the steps of a path lead
last_of_steps : (vertices : List ℕ) (marks : List Mark) (i k : ℕ) → last (slice_index vertices i) (steps_from vertices marks i k) ≡ slice_index vertices (i + k)
last_of_steps vertices marks i zero = ap (slice_index vertices) (let e : i ≡ i + 0 = omega arith in e)
last_of_steps vertices marks i (suc k) = last_of_steps vertices marks (i + 1) k ∙ ap (slice_index vertices) (let e : i + 1 + k ≡ i + suc k = omega arith in e)

-- an open path has its own ends
pub own_ends : (g : MixedGraph) (x y w : ℕ → Bool) (p : OpenPath) → IsOpenPath g x y w p.vertices p.marks p.count → IsOpenWithEndsOf g w p p
own_ends g x y w p o = record {
  some = o.some;
  few = o.few;
  path = o.path;
  walk = record {
    vertex = o.walk.vertex;
    begins = eq-eqb (slice_index p.vertices 0) (slice_index p.vertices 0) refl;
    ends = eq-eqb (last (slice_index p.vertices 0) (steps_from p.vertices p.marks 0 (p.count - 1))) (slice_index p.vertices (p.count - 1))
        (last_of_steps p.vertices p.marks 0 (p.count - 1) ∙ ap (slice_index p.vertices) (let e : 0 + (p.count - 1) ≡ p.count - 1 = omega arith in e));
    first_outside = o.walk.first_outside;
    last_outside = o.walk.last_outside;
    walk = o.walk.walk;
    passed = o.walk.passed;
  };
}
