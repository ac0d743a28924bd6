-- What is left of a graph without one vertex is a graph, and a graph without latent vertices is its own projection.
use Rattle.std.proofs.Common.{ℕ, ◌≡◌, ◌<◌, Bool, true, false, not, ◌&&◌, ◌||◌, ◌==◌, List, [], ◌∷◌, ◌⊎◌, inl, inr, refl, sym, ◌∙◌, arith, subst}
use mathlib.Core.Path.{fun_ext}
use Rattle.std.proofs.lemmas.Bool.{eqb-true, eq-eqb, or_cases, false_from_ne_true}
use Rattle.mixed_graph.specs.Vocabulary.{MixedGraph, IsMixedGraph, IsDirectedPath}
use Rattle.latent_projection.specs.Projection.{AreBefore}
use Rattle.latent_projection.specs.Removal.{through, without}
use Rattle.latent_projection.proofs.Treks.{IsTrek, fork, edge, ProjectsByTreks, clash, left_true, right_true, here}

module _ (g : MixedGraph) (k : ℕ) (ok : IsMixedGraph g) where
  arrow_of : (a b : ℕ) → (without g k).arrow a b ≡ true → (g.arrow a b ≡ true) ⊎ ((g.arrow a k && g.arrow k b) ≡ true)
  arrow_of a b e = or_cases (g.arrow a b) (g.arrow a k && g.arrow k b)
      (right_true (not (b == k)) (g.arrow a b || (g.arrow a k && g.arrow k b))
      (right_true (not (a == k)) (not (b == k) && (g.arrow a b || (g.arrow a k && g.arrow k b))) e))

  core : (a b : ℕ) → (without g k).both a b ≡ true → (g.both a b || (not (a == b) && through g k a b)) ≡ true
  core a b e = right_true (not (b == k)) (g.both a b || (not (a == b) && through g k a b))
      (right_true (not (a == k)) (not (b == k) && (g.both a b || (not (a == b) && through g k a b))) e)

  tail_of : (a b : ℕ) → (g.arrow a b ≡ true) ⊎ ((g.arrow a k && g.arrow k b) ≡ true) → a < g.vertices
  tail_of a b (inl e) = ok.tail_below a b e
  tail_of a b (inr e) = ok.tail_below a k (left_true (g.arrow a k) (g.arrow k b) e)

  head_of : (a b : ℕ) → (g.arrow a b ≡ true) ⊎ ((g.arrow a k && g.arrow k b) ≡ true) → b < g.vertices
  head_of a b (inl e) = ok.head_below a b e
  head_of a b (inr e) = ok.head_below k b (right_true (g.arrow a k) (g.arrow k b) e)

  through_below : (a b : ℕ) → through g k a b ≡ true → a < g.vertices
  through_below a b e = go (or_cases (g.arrow k a && g.arrow k b) ((g.arrow k a && g.both k b) || (g.both a k && g.arrow k b)) e)
    where
      more : ((g.arrow k a && g.both k b) ≡ true) ⊎ ((g.both a k && g.arrow k b) ≡ true) → a < g.vertices
      more (inl f) = ok.head_below k a (left_true (g.arrow k a) (g.both k b) f)
      more (inr f) = ok.both_below a k (left_true (g.both a k) (g.arrow k b) f)

      go : ((g.arrow k a && g.arrow k b) ≡ true) ⊎ (((g.arrow k a && g.both k b) || (g.both a k && g.arrow k b)) ≡ true) → a < g.vertices
      go (inl f) = ok.head_below k a (left_true (g.arrow k a) (g.arrow k b) f)
      go (inr f) = more (or_cases (g.arrow k a && g.both k b) (g.both a k && g.arrow k b) f)

  both_side : (a b : ℕ) → (g.both a b ≡ true) ⊎ ((not (a == b) && through g k a b) ≡ true) → a < g.vertices
  both_side a b (inl e) = ok.both_below a b e
  both_side a b (inr e) = through_below a b (right_true (not (a == b)) (through g k a b) e)

  flip_both : (a b : ℕ) → g.both a b ≡ g.both b a
  flip_both a b = go (g.both a b) (g.both b a) refl refl
    where
      go : (p q : Bool) → g.both a b ≡ p → g.both b a ≡ q → g.both a b ≡ g.both b a
      go true q e f = e ∙ sym (ok.symmetric a b e)
      go false true e f = ok.symmetric b a f ∙ sym f
      go false false e f = e ∙ sym f

  flip_through : (a b : ℕ) → through g k a b ≡ through g k b a
  flip_through a b = rw (flip_both a k, flip_both b k) (turn (g.arrow k a) (g.arrow k b) (g.both k a) (g.both k b))
    where
      turn : (p q r s : Bool) → ((p && q) || ((p && s) || (r && q))) ≡ ((q && p) || ((q && r) || (s && p)))
      turn p q r s = grind arith

  flip_eqb : (a b : ℕ) → (a == b) ≡ (b == a)
  flip_eqb a b = go (a == b) (b == a) refl refl
    where
      go : (p q : Bool) → (a == b) ≡ p → (b == a) ≡ q → (a == b) ≡ (b == a)
      go true true e f = e ∙ sym f
      go true false e f = clash (b == a) (eq-eqb b a (sym (eqb-true a b e))) f
      go false true e f = clash (a == b) (eq-eqb a b (sym (eqb-true b a f))) e
      go false false e f = e ∙ sym f

  flip_without : (a b : ℕ) → (without g k).both a b ≡ (without g k).both b a
  flip_without a b = rw (flip_both a b, flip_eqb a b, flip_through a b) (turn (not (a == k)) (not (b == k)) (g.both b a || (not (b == a) && through g k b a)))
    where
      turn : (p q r : Bool) → (p && (q && r)) ≡ (q && (p && r))
      turn p q r = grind arith

  -- the path with k put back
  rest_of : (v : ℕ) (xs : List ℕ) (t : ℕ) → IsDirectedPath (without g k) v xs t → (ys : List ℕ) × IsDirectedPath g v ys t
  rest_of v [] t p = ([], p)
  rest_of v (x ∷ xs) t p = go (arrow_of v x p.0) (rest_of x xs t p.1)
    where
      go : (g.arrow v x ≡ true) ⊎ ((g.arrow v k && g.arrow k x) ≡ true) → ((ys : List ℕ) × IsDirectedPath g x ys t) → (ys : List ℕ) × IsDirectedPath g v ys t
      go (inl e) r = (x ∷ r.0, (e, r.1))
      go (inr e) r = (k ∷ x ∷ r.0, (left_true (g.arrow v k) (g.arrow k x) e, (right_true (g.arrow v k) (g.arrow k x) e, r.1)))

  no_loop_without : (v : ℕ) → (without g k).both v v ≡ false
  no_loop_without a = false_from_ne_true ((without g k).both a a) (λ e. go (or_cases (g.both a a) (not (a == a) && through g k a a) (core a a e)))
    where
      go : (g.both a a ≡ true) ⊎ ((not (a == a) && through g k a a) ≡ true) → ⊥
      go (inl e) = clash (g.both a a) e (ok.no_loop a)
      go (inr e) = let s : (a == a) ≡ true = eq-eqb a a refl in let f = left_true (not (a == a)) (through g k a a) e in absurd (grind (arith, s, f))

  pub graph_without : IsMixedGraph (without g k)
  graph_without = record {
    tail_below = λ a b e. tail_of a b (arrow_of a b e);
    head_below = λ a b e. head_of a b (arrow_of a b e);
    both_below = λ a b e. both_side a b (or_cases (g.both a b) (not (a == b) && through g k a b) (core a b e));
    symmetric = λ a b e. sym (flip_without a b) ∙ e;
    no_loop = no_loop_without;
    acyclic = λ v x xs p. round v x (arrow_of v x p.0) (rest_of x xs v p.1);
  }
    where
      round : (v x : ℕ) → (g.arrow v x ≡ true) ⊎ ((g.arrow v k && g.arrow k x) ≡ true) → ((ys : List ℕ) × IsDirectedPath g x ys v) → ⊥
      round v x (inl e) r = ok.acyclic v x r.0 (e, r.1)
      round v x (inr e) r = ok.acyclic v k (x ∷ r.0) (left_true (g.arrow v k) (g.arrow k x) e, (right_true (g.arrow v k) (g.arrow k x) e, r.1))

-- a graph without latent vertices is its own projection
alone : (g : MixedGraph) → IsMixedGraph g → ProjectsByTreks g (λ v. false) g
alone g ok = record {
  vertices = refl;
  led = λ a b e. record { next = b; first = e; rest = here g (λ v. false) b };
  led_back = λ a b x y r. rw (whole r.next b r.rest.path r.rest.leads r.rest.before) at r.first;
  trek = λ a b e. edge a b e (here g (λ v. false) a) (here g (λ v. false) b);
  trek_back = λ a b x y ne t. top a b t;
  apart = ok.no_loop;
  tail_observed = λ a b e. refl;
  head_observed = λ a b e. refl;
  both_observed = λ a b e. (refl, refl);
}
  where
    whole : (c v : ℕ) (xs : List ℕ) → IsDirectedPath g c xs v → AreBefore (λ v. false) c xs → c ≡ v
    whole c v [] p b = p
    whole c v (x ∷ xs) p b = absurd (let e : false ≡ true = b.0 in grind (arith, e))

    top : (a b : ℕ) → IsTrek g (λ v. false) a b → g.both a b ≡ true
    top a b (fork c e x y) = absurd (grind (arith, e))
    top a b (edge c d e x y) = rw (whole c a x.path x.leads x.before, whole d b y.path y.leads y.before) at e

-- the same, where no vertex is said to be latent
pub projects_itself : (g : MixedGraph) (l : ℕ → Bool) → ((v : ℕ) → l v ≡ false) → IsMixedGraph g → ProjectsByTreks g l g
projects_itself g l none ok =
    let P : (ℕ → Bool) → Type 0 = λ m. ProjectsByTreks g m g in
    subst P (sym (fun_ext none)) (alone g ok)
