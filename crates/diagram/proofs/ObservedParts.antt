-- The observed part of a diagram. What a diagram keeps of it says only that there is some projection; here it is made again.
use Rattle.std.proofs.Common.{◌≡◌, ℕ, ◌<◌, Bool, true, false, ◌||◌, ◌==◌, List, [], ◌∷◌, refl, sym, ap, subst, ◌∙◌, IsTrue, arith}
use Rattle.std.proofs.Math.Bool.{Bool-set}
use Rattle.std.proofs.Math.Logic.{∥∥₁_elim, ∥∥₁_map}
use Rattle.std.proofs.Math.Nat.{ℕ_set}
use Rattle.std.proofs.lemmas.Bool.{eq-eqb, ne_eqb, eqb-true, or_left, or_right}
use Rattle.std.specs.Cmp.{both_ways}
use mathlib.Core.List.{is_set as List-set}
use Rattle.mixed_graph.specs.Vocabulary.{has, members_below, MixedGraph, IsMixedGraph, Within, graph_of}
use Rattle.mixed_graph.proofs.MemberLists.{AreMembers, is_in, members-are, some-member, member-some}
use Rattle.latent_projection.specs.Vocabulary.{IsProjection, without, IsObserved, observed_below, renumbered}
use Rattle.latent_projection.proofs.Treks.{ProjectsByTreks}
use Rattle.latent_projection.proofs.Removing.{projects_up}
use Rattle.latent_projection.proofs.Removals.{graph_without, projects_itself}
use Rattle.latent_projection.proofs.Projecting.{projection_by_treks}
use Rattle.diagram.specs.Observed.{observed_names, IsObservedGraph, observed_set, IsObservedPart}
use Rattle.diagram.specs.declared.diagram.Diagram.{Diagram}
use Rattle.diagram.proofs.OneObserved.{one_projection}

-- what is in the list of the members below n is a member
pub is_in_within : (s : ℕ → Bool) (n : ℕ) → Within n s → (u : ℕ) → is_in (members_below s n) u ≡ s u
is_in_within s n within u = both_ways _ _
    (λ h. let e = some-member s (λ v. u == v) n h in ap s (eqb-true u e.0 e.2) ∙ e.1)
    (λ h. member-some s (λ v. u == v) n u (within u h) h (eq-eqb u u refl))

-- a projection, from which one hidden vertex after the other was removed
a_projection : (s : ℕ → Bool) (n : ℕ) (vs : List ℕ) → AreMembers s n vs → (g : MixedGraph) → IsMixedGraph g → (p : MixedGraph) × ProjectsByTreks g (is_in vs) p
a_projection s n [] are g valid = (g, projects_itself g (is_in []) (λ v. refl) valid)
a_projection s n (k ∷ vs) are g valid =
    let rest = a_projection s n vs are.3 (without g k) (graph_without g k valid) in (
      rest.0,
      projects_up g k (is_in (k ∷ vs)) (is_in vs) valid
          (or_left (k == k) (is_in vs k) (eq-eqb k k refl))
          are.2
          (λ v h. or_right (v == k) (is_in vs v) h)
          (λ v d h. (let e : (v == k) ≡ false = ne_eqb v k d in grind arith))
          rest.0 rest.1,
    )

-- each graph has a projection
projected : (g : MixedGraph) → IsMixedGraph g → (l : ℕ → Bool) (n : ℕ) → Within n l → (p : MixedGraph) × IsProjection g l p
projected g valid l n within =
    let made = a_projection l n (members_below l n) (members-are l n) g valid in
    let by_treks = subst (λ (m : ℕ → Bool). ProjectsByTreks g m made.0) (λ i u. is_in_within l n within u i) made.1 in
    (made.0, projection_by_treks g made.0 l by_treks)

-- graphs are a set, and so are lists of names
graphs_set : IsSet MixedGraph
graphs_set = hlevel (ℕ_set, Bool-set)

names_set : IsSet (List (List ℕ))
names_set = List-set (List-set ℕ_set)

-- where there is some projection of which a graph is the observed part, it is that of each
observed_again : (g : MixedGraph) → IsMixedGraph g → (l : ℕ → Bool) (n : ℕ) → Within n l → (q : MixedGraph) → ∥ IsObserved g l q ∥₁ → IsObserved g l q
observed_again g valid l n within q some =
    let p = projected g valid l n within in record {
      projection = p.0;
      projects = p.1;
      renumbers = ∥∥₁_elim some (graphs_set q (renumbered p.0 (observed_below l g.vertices)))
          (λ a. a.renumbers ∙ ap (λ (m : MixedGraph). renumbered m (observed_below l g.vertices)) (one_projection g l a.projection p.0 a.projects p.1));
    }

-- the observed graph of a diagram is that of the graph that was read
pub part_of : (d : Diagram) → IsObservedPart d.read d.observed
part_of d = record {
  names = ∥∥₁_elim d.part (hlevel names_set) (λ p. p.names);
  graph = observed_again (graph_of d.read.graph) d.read.graph.valid (has d.read.latent.bits) d.read.graph.n d.read.marked.latent_below
      (graph_of d.observed.graph) (∥∥₁_map d.part (λ p. p.graph));
  exposures = ∥∥₁_elim d.part (hlevel Bool-set) (λ p. p.exposures);
  outcomes = ∥∥₁_elim d.part (hlevel Bool-set) (λ p. p.outcomes);
  adjusted = ∥∥₁_elim d.part (hlevel Bool-set) (λ p. p.adjusted);
  no_latent = ∥∥₁_elim d.part (hlevel Bool-set) (λ p. p.no_latent);
}

-- what is so of the observed graph of a diagram and of its names is so of an observed graph of the graph that was read, with its observed names
pub as_read : (d : Diagram) (P : MixedGraph → List (List ℕ) → Type 0) → P (graph_of d.observed.graph) d.observed.names
    → (q : MixedGraph) × IsObservedGraph d.read q × P q (observed_names d.read)
as_read d P h = (graph_of d.observed.graph, (part_of d).graph, subst (P (graph_of d.observed.graph)) (part_of d).names h)
