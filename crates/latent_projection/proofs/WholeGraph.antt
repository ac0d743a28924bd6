-- A graph without latent vertices is its own observed graph.
use Rattle.std.proofs.Common.{ℕ, zero, suc, ◌<◌, ◌≡◌, Bool, true, false, not, ◌&&◌, List, length, get_or, inl, inr, refl, sym, ap, ◌∙◌, arith, nat_lt}
use Rattle.std.proofs.lemmas.Bool.{cases_lt, lt-ltb, le-ltb, false_from_ne_true}
use Rattle.mixed_graph.specs.Vocabulary.{members_below, MixedGraph, IsMixedGraph}
use Rattle.mixed_graph.proofs.Members.{one_if, length-members-suc, length-members-zero}
use Rattle.mixed_graph.proofs.Restricting.{same_graph}
use Rattle.latent_projection.specs.Renumbering.{renumbered_set, renumbered, IsObserved}
use Rattle.latent_projection.proofs.Removals.{projects_itself}
use Rattle.latent_projection.proofs.Projecting.{projection_by_treks}
use Rattle.latent_projection.proofs.Numbering.{at_place}

length-all : (s : ℕ → Bool) → ((v : ℕ) → s v ≡ true) → (n : ℕ) → length (members_below s n) ≡ n
length-all s all zero = length-members-zero s
length-all s all (suc n) =
    let one : one_if (s n) ≡ 1 = ap (λ b. one_if b) (all n) in
    omega (arith, length-members-suc s n, length-all s all n, one)

entry-all : (s : ℕ → Bool) → ((v : ℕ) → s v ≡ true) → (n v : ℕ) → v < n → get_or (members_below s n) v 0 ≡ v
entry-all s all n v below =
    ap (λ k. get_or (members_below s n) k 0) (sym (length-all s all v)) ∙ (at_place s n v below (all v)).entry

-- where each number below n is listed at its own place, the edges of the listed ones are all edges
own_edges : (n : ℕ) (vs : List ℕ) (e : ℕ → ℕ → Bool) → length vs ≡ n → ((v : ℕ) → v < n → get_or vs v 0 ≡ v) → ((a b : ℕ) → e a b ≡ true → (a < n) × (b < n))
    → (a b : ℕ) → e a b ≡ (nat_lt a (length vs) && renumbered_set vs (e (get_or vs a 0)) b)
own_edges n vs e size at ends a b = elim (cases_lt a n) [
  | inl x ↦ elim (cases_lt b n) [
    | inl y ↦ rw (size, lt-ltb a n x, lt-ltb b n y, at a x, at b y) refl
    | inr y ↦ rw (size, lt-ltb a n x, le-ltb b n y) (false_from_ne_true (e a b) (λ t. absurd (omega (arith, (ends a b t).1))))
  ]
  | inr x ↦ rw (size, le-ltb a n x) (false_from_ne_true (e a b) (λ t. absurd (omega (arith, (ends a b t).0))))
]

pub observed_whole : (g : MixedGraph) (l : ℕ → Bool) → IsMixedGraph g → ((v : ℕ) → l v ≡ false) → IsObserved g l g
observed_whole g l ok none =
    let s : ℕ → Bool = λ v. not (l v) in
    let all : (v : ℕ) → s v ≡ true = λ v. ap not (none v) in
    let vs = members_below s g.vertices in
    let size = length-all s all g.vertices in
    let at : (v : ℕ) → v < g.vertices → get_or vs v 0 ≡ v = λ v below. entry-all s all g.vertices v below in
    record {
      projection = g;
      projects = projection_by_treks g g l (projects_itself g l none ok);
      renumbers =
          same_graph g.vertices g.arrow (renumbered g vs).arrow g.both (renumbered g vs).both
          (own_edges g.vertices vs g.arrow size at (λ a b e. (ok.tail_below a b e, ok.head_below a b e)))
          (own_edges g.vertices vs g.both size at (λ a b e. (ok.both_below a b e, ok.both_below b a (ok.symmetric a b e))))
          ∙ ap (λ n. let q : MixedGraph = record { vertices = n; arrow = (renumbered g vs).arrow; both = (renumbered g vs).both } in q) (sym size);
    }
