-- A model of the latent projection comes from one of the graph: its hidden vertices are put back one after the other.
use Rattle.std.proofs.Common.{ℕ, zero, suc, ◌≡◌, ◌<◌, ◌≤◌, Bool, true, false, not, cond, ◌&&◌, ◌==◌, List, [], ◌∷◌, refl, sym, ap, ◌∙◌, arith, eq-eqb, ne_eqb, subst}
use Rattle.std.proofs.lemmas.Bool.{and_from, false_from_ne_true}
use Rattle.mixed_graph.specs.Vocabulary.{MixedGraph, IsMixedGraph, IsDirectedPath, Apart}
use Rattle.finite_models.specs.Vocabulary.{FiniteModel, Fits, IsAssignment, solution, intervene, weight_of, total, ServesTwo}
use Rattle.finite_models.proofs.Ranks.{with_rank}
use Rattle.latent_projection.specs.Vocabulary.{AreBefore, without}
use Rattle.latent_projection.proofs.Treks.{LeadsOn, IsTrek, fork, edge, ProjectsByTreks, clash, left_true, right_true}
use Rattle.latent_projection.proofs.Removals.{graph_without}
use Rattle.latent_projection.proofs.Removing.{led_down, led_up, trek_down, trek_up}
use Rattle.hidden_models.proofs.Unfold.{arrow_of, both_of, codes, put_back, two_put_back, fits_back}
use Rattle.hidden_models.proofs.Unfolded.{back_at, two_weight, back_weighs, back_two}

-- the hidden vertices but k
abbrev pub but : (ℕ → Bool) → ℕ → ℕ → Bool
but l k v = l v && not (v == k)

-- ---- a projection of the whole is one of what is left without k
module _ (g p : MixedGraph) (k : ℕ) (l : ℕ → Bool) (ok : IsMixedGraph g) (lk : l k ≡ true) (is : ProjectsByTreks g l p) where
  gone : but l k k ≡ false
  gone = let e : (k == k) ≡ true = eq-eqb k k refl in rw e (at (l k))
    where
      at : (c : Bool) → (c && false) ≡ false
      at true = refl
      at false = refl

  up : (v : ℕ) → but l k v ≡ true → l v ≡ true
  up v e = left_true (l v) (not (v == k)) e

  down : (v : ℕ) → (v ≡ k → ⊥) → l v ≡ true → but l k v ≡ true
  down v d e = let f : (v == k) ≡ false = ne_eqb v k d in and_from (l v) (not (v == k)) e (rw f refl)

  observed_up : (v : ℕ) → l v ≡ false → but l k v ≡ false
  observed_up v e = rw e refl

  observed_down : (v : ℕ) → (v ≡ k → ⊥) → but l k v ≡ false → l v ≡ false
  observed_down v d e = false_from_ne_true (l v) (λ h. clash (but l k v) (down v d h) e)

  not_k : (v : ℕ) → l v ≡ false → v ≡ k → ⊥
  not_k v e s = clash (l k) lk (ap l (sym s) ∙ e)

  -- a path without k doesn't end at k
  end_not_k : (v c : ℕ) (xs : List ℕ) → (c ≡ k → ⊥) → IsDirectedPath (without g k) c xs v → v ≡ k → ⊥
  end_not_k v c [] d q s = d (q ∙ s)
  end_not_k v c (x ∷ xs) d q s = end_not_k v x xs (arrow_of g k c x q.0).head q.1 s

  led_ends : (a b : ℕ) → LeadsOn (without g k) (but l k) a b → (a ≡ k → ⊥) × (b ≡ k → ⊥)
  led_ends a b r = let w = arrow_of g k a r.next r.first in (w.tail, end_not_k b r.next r.rest.path w.head r.rest.leads)

  trek_ends : (a b : ℕ) → IsTrek (without g k) (but l k) a b → (a ≡ k → ⊥) × (b ≡ k → ⊥)
  trek_ends a b (fork c e x y) = let d : c ≡ k → ⊥ = λ s. clash (but l k k) (ap (but l k) (sym s) ∙ e) gone in
      (end_not_k a c x.path d x.leads, end_not_k b c y.path d y.leads)
  trek_ends a b (edge c d e x y) = let f = both_of g k c d e in (end_not_k a c x.path f.first x.leads, end_not_k b d y.path f.second y.leads)

  pub projects_down : ProjectsByTreks (without g k) (but l k) p
  projects_down = record {
    vertices = is.vertices;
    led = λ a b e. led_down g k l (but l k) ok lk gone up down a b (not_k a (is.tail_observed a b e)) (not_k b (is.head_observed a b e)) (is.led a b e);
    led_back = λ a b x y r. let d = led_ends a b r in is.led_back a b (observed_down a d.0 x) (observed_down b d.1 y)
        (led_up g k l (but l k) ok lk gone up down a b r);
    trek = λ a b e. let o = is.both_observed a b e in trek_down g k l (but l k) ok lk gone up down a b (not_k a o.0) (not_k b o.1)
        (λ s. clash (p.both a a) (ap (p.both a) s ∙ e) (is.apart a)) (is.trek a b e);
    trek_back = λ a b x y ne t. let d = trek_ends a b t in is.trek_back a b (observed_down a d.0 x) (observed_down b d.1 y) ne
        (trek_up g k l (but l k) ok lk gone up down a b t);
    apart = is.apart;
    tail_observed = λ a b e. observed_up a (is.tail_observed a b e);
    head_observed = λ a b e. observed_up b (is.head_observed a b e);
    both_observed = λ a b e. let o = is.both_observed a b e in (observed_up a o.0, observed_up b o.1);
  }

-- ---- a model fits a graph with more edges
pub fits_more : (p g : MixedGraph) (m : FiniteModel) → p.vertices ≡ g.vertices → ((a b : ℕ) → p.arrow a b ≡ true → g.arrow a b ≡ true)
    → ((a b : ℕ) → p.both a b ≡ true → g.both a b ≡ true) → Fits p m → Fits g m
fits_more p g m n arrows boths fit = record {
  vertices = fit.vertices ∙ n;
  positive_size = fit.positive_size;
  positive_weight = fit.positive_weight;
  some_child = fit.some_child;
  child_below = fit.child_below;
  joined = λ j u v jl e f d. boths u v (fit.joined j u v jl e f d);
  reads = λ v vl s t u w hp hc. fit.reads v vl s t u w (λ q a. hp q (arrows q v a)) hc;
  below = fit.below;
}

-- where no vertex of the graph is hidden the projection has no edge beside the graph's
module _ (g p : MixedGraph) (l : ℕ → Bool) (ok : IsMixedGraph g) (none : (v : ℕ) → l v ≡ true → v < g.vertices → ⊥) (is : ProjectsByTreks g l p) where
  whole : (c v : ℕ) (xs : List ℕ) → IsDirectedPath g c xs v → AreBefore l c xs → c ≡ v
  whole c v [] q b = q
  whole c v (x ∷ xs) q b = absurd (none c b.0 (ok.tail_below c x q.0))

  arrow_stays : (a b : ℕ) → p.arrow a b ≡ true → g.arrow a b ≡ true
  arrow_stays a b e = let r = is.led a b e in ap (g.arrow a) (sym (whole r.next b r.rest.path r.rest.leads r.rest.before)) ∙ r.first

  both_stays : (a b : ℕ) → p.both a b ≡ true → g.both a b ≡ true
  both_stays a b e = go (is.trek a b e)
    where
      go : IsTrek g l a b → g.both a b ≡ true
      go (fork c h x y) = clash (l a) (ap l (sym (whole c a x.path x.leads x.before)) ∙ h) (is.both_observed a b e).0
      go (edge c d h x y) = rw (whole c a x.path x.leads x.before, whole d b y.path y.leads y.before) at h

  pub fits_itself : (m : FiniteModel) → Fits p m → Fits g m
  fits_itself m fit = fits_more p g m is.vertices arrow_stays both_stays fit

-- a model of the graph in which the events of observed vertices weigh what they weigh in m, and these vertices have in each world the values that they
-- have there
pub record IsUnprojected (g : MixedGraph) (l : ℕ → Bool) (m : FiniteModel) : Type 0 where
  pub model : FiniteModel
  pub fits : Fits g model
  pub two : ServesTwo model
  pub vertices : model.vertices ≡ m.vertices
  pub sizes : (v : ℕ) → l v ≡ false → model.size v ≡ m.size v
  pub total_is : total m ≡ total model
  pub causes : m.causes ≡ model.causes
  pub values : m.values ≡ model.values
  pub weight : m.weight ≡ model.weight
  pub weighs : (b a : ℕ → Bool) → Apart b l → Apart a l → (s : ℕ → ℕ) → IsAssignment m.vertices (λ v. cond (l v) 1 (m.size v)) s
      → weight_of m b a s ≡ weight_of model b a s
  pub worlds : (b : ℕ → Bool) → Apart b l → (s : ℕ → ℕ) → IsAssignment m.vertices (λ v. cond (l v) 1 (m.size v)) s → (u : ℕ → ℕ)
      → IsAssignment m.causes m.values u → (v : ℕ) → v < m.vertices → l v ≡ false
      → solution (intervene m b s) u v ≡ solution (intervene model b s) u v
  -- the same of events of two worlds
  pub weighs_two : (b a b' a' : ℕ → Bool) → Apart b l → Apart a l → Apart b' l → Apart a' l → (s t : ℕ → ℕ)
      → IsAssignment m.vertices (λ v. cond (l v) 1 (m.size v)) s → IsAssignment m.vertices (λ v. cond (l v) 1 (m.size v)) t
      → two_weight m b a b' a' s t ≡ two_weight model b a b' a' s t

module _ (g : MixedGraph) (l : ℕ → Bool) (k : ℕ) (m : FiniteModel) (ok : IsMixedGraph g) (lk : l k ≡ true) (kl : k < g.vertices)
    (some : (v : ℕ) → v < m.vertices → 0 < m.size v) (un : IsUnprojected (without g k) (but l k) m) where
  k_low : k < un.model.vertices
  k_low = rw un.fits.vertices kl

  -- one more hidden vertex
  pub one_more : IsUnprojected g l m
  one_more = record {
    model = put_back g k un.model un.two;
    fits = fits_back g k un.model un.two ok k_low un.fits;
    two = two_put_back g k un.model un.two;
    vertices = un.vertices;
    sizes = λ v e. let f : (v == k) ≡ false = ne_eqb v k (λ s. clash (l k) lk (ap l (sym s) ∙ e)) in rw f (un.sizes v (rw e refl));
    total_is = un.total_is;
    causes = un.causes;
    values = un.values;
    weight = un.weight;
    worlds = λ b bo s hs u hu v vl e.
        un.worlds b (λ w i. rw (bo w i) refl) s (λ w wl. less w (s w) wl (hs w wl) (l w) refl) u hu v vl (rw e refl)
        ∙ with_rank g ok (solution (intervene un.model b s) u v) (solution (intervene (put_back g k un.model un.two) b s) u v)
        (λ rank ranked. back_at g k un.model un.two ok k_low un.fits rank ranked b (λ w. false) (none b bo) refl s
        (λ w wl. within s hs w wl (l w) refl) (λ w wl. within' s hs w wl (l w) refl) u
        (λ j jl. subst (λ (f : ℕ → ℕ). u j < f j) un.values (hu j (subst (λ n. j < n) (sym un.causes) jl)))
        v (rw un.vertices vl) (ne_eqb v k (λ q. clash (l k) lk (ap l (sym q) ∙ e))));
    weighs = λ b a bo ao s hs.
        un.weighs b a (λ v e. rw (bo v e) refl) (λ v e. rw (ao v e) refl) s (λ v vl. less v (s v) vl (hs v vl) (l v) refl)
        ∙ back_weighs g k un.model un.two ok k_low un.fits b a (none b bo) (none a ao) s
        (λ v vl. within s hs v vl (l v) refl) (λ v vl. within' s hs v vl (l v) refl);
    weighs_two = λ b a b' a' bo ao bo' ao' s t hs ht.
        un.weighs_two b a b' a' (λ v e. rw (bo v e) refl) (λ v e. rw (ao v e) refl) (λ v e. rw (bo' v e) refl) (λ v e. rw (ao' v e) refl) s t
        (λ v vl. less v (s v) vl (hs v vl) (l v) refl) (λ v vl. less v (t v) vl (ht v vl) (l v) refl)
        ∙ back_two g k un.model un.two ok k_low un.fits b a b' a' (none b bo) (none a ao) (none b' bo') (none a' ao') s t
        (λ v vl. within s hs v vl (l v) refl) (λ v vl. within' s hs v vl (l v) refl)
        (λ v vl. within t ht v vl (l v) refl) (λ v vl. within' t ht v vl (l v) refl);
  }
    where
      none : (b : ℕ → Bool) → Apart b l → b k ≡ false
      none b bo = false_from_ne_true (b k) (λ e. clash (l k) lk (bo k e))

      less : (v x : ℕ) → v < m.vertices → x < cond (l v) 1 (m.size v) → (c : Bool) → l v ≡ c → x < cond (but l k v) 1 (m.size v)
      less v x vl h true e = let h' : x < 1 = rw e at h in rw e (go (v == k) h')
        where
          go : (c : Bool) → x < 1 → x < cond (true && not c) 1 (m.size v)
          go true q = omega (arith, q, some v vl)
          go false q = q
      less v x vl h false e = let h' : x < m.size v = rw e at h in rw e h'

      within : (s : ℕ → ℕ) → IsAssignment m.vertices (λ v. cond (l v) 1 (m.size v)) s → (v : ℕ) → v < un.model.vertices → (c : Bool) → l v ≡ c
          → s v < un.model.size v
      within s hs v vl true e = let h = hs v (rw (sym un.vertices) vl) in let h' : s v < 1 = rw e at h in omega (arith, h', un.fits.positive_size v vl)
      within s hs v vl false e = let h = hs v (rw (sym un.vertices) vl) in let h' : s v < m.size v = rw e at h in rw (un.sizes v (rw e refl)) h'

      within' : (s : ℕ → ℕ) → IsAssignment m.vertices (λ v. cond (l v) 1 (m.size v)) s → (v : ℕ) → v < un.model.vertices → (c : Bool) → l v ≡ c
          → s v < cond (v == k) (codes g k un.model un.two) (un.model.size v)
      within' s hs v vl true e = let h = hs v (rw (sym un.vertices) vl) in let h' : s v < 1 = rw e at h in omega
          (arith, h', (fits_back g k un.model un.two ok k_low un.fits).positive_size v vl)
      within' s hs v vl false e = let f : (v == k) ≡ false = ne_eqb v k (λ q. clash (l k) lk (ap l (sym q) ∙ e)) in rw f (within s hs v vl false e)

-- all hidden vertices, those of the graph being below i
pub unprojected : (i : ℕ) (g : MixedGraph) → IsMixedGraph g → (l : ℕ → Bool) → ((v : ℕ) → l v ≡ true → v < g.vertices → v < i) → i ≤ g.vertices
    → (p : MixedGraph) → ProjectsByTreks g l p
    → (m : FiniteModel) → Fits p m → ServesTwo m → IsUnprojected g l m
unprojected zero g ok l low le p is m fit two =
    record {
      model = m;
      fits = fits_itself g p l ok (λ v e vl. absurd (let h = low v e vl in omega arith)) is m fit;
      two = two;
      vertices = refl;
      sizes = λ v e. refl;
      total_is = refl;
      causes = refl;
      values = refl;
      weight = refl;
      worlds = λ b bo s hs u hu v vl e. refl;
      weighs = λ b a bo ao s hs. refl;
      weighs_two = λ b a b' a' bo ao bo' ao' s t hs ht. refl;
    }
unprojected (suc i) g ok l low le p is m fit two = go (l i) refl (λ g' ok' l' low' le' is'. unprojected i g' ok' l' low' le' p is' m fit two)
  where
    other : (v : ℕ) → v < suc i → (v ≡ i → ⊥) → v < i
    other v h d = omega arith

    lower : (v : ℕ) → v < suc i → not (v == i) ≡ true → v < i
    lower v h d = let f : v ≡ i → ⊥ = λ s. absurd (grind (arith, s, d)) in omega arith

    go : (c : Bool) → l i ≡ c
        → ((g' : MixedGraph) → IsMixedGraph g' → (l' : ℕ → Bool) → ((v : ℕ) → l' v ≡ true → v < g'.vertices → v < i) → i ≤ g'.vertices → ProjectsByTreks g' l' p
        → IsUnprojected g' l' m)
        → IsUnprojected g l m
    go false e ih = ih g ok l (λ v h vl. other v (low v h vl) (λ s. clash (l i) (ap l (sym s) ∙ h) e)) (omega arith) is
    go true e ih = one_more g l i m ok e (omega arith) fit.positive_size
        (ih (without g i) (graph_without g i ok) (but l i) (λ v h vl. lower v (low v (left_true (l v) (not (v == i)) h) vl) (right_true (l v) (not (v == i)) h))
        (omega arith) (projects_down g p i l ok e is))
