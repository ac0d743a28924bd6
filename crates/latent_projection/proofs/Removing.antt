-- Removing one latent vertex keeps what latent paths and treks join.
use Rattle.std.proofs.Common.{ℕ, ◌≡◌, Bool, true, false, not, ◌&&◌, ◌||◌, ◌==◌, List, [], ◌∷◌, ◌⊎◌, inl, inr, refl, sym, ◌∙◌, arith}
use Rattle.std.proofs.lemmas.Bool.{ne_eqb, eq-eqb, cases_eq, or_cases, or_left, or_right, and_from, false_from_ne_true}
use Rattle.mixed_graph.specs.Vocabulary.{MixedGraph, IsMixedGraph, IsDirectedPath}
use Rattle.latent_projection.specs.Projection.{AreBefore}
use Rattle.latent_projection.specs.Removal.{through, without}
use Rattle.latent_projection.proofs.Treks.{Reaches, LeadsOn, IsTrek, fork, edge, ProjectsByTreks, clash, left_true, right_true, longer}

-- not the vertex k
kept : (v k : ℕ) → (v ≡ k → ⊥) → not (v == k) ≡ true
kept v k d = let e : (v == k) ≡ false = ne_eqb v k d in rw e refl

dropped : (v k : ℕ) → not (v == k) ≡ true → v ≡ k → ⊥
dropped v k e s = absurd (grind (arith, e, s))

itself_false : (k : ℕ) → not (k == k) ≡ true → ⊥
itself_false k e = let s : (k == k) ≡ true = eq-eqb k k refl in absurd (grind (arith, e, s))

module _ (g : MixedGraph) (k : ℕ) (l l' : ℕ → Bool) (ok : IsMixedGraph g)
    (lk : l k ≡ true) (lk' : l' k ≡ false) (up : (v : ℕ) → l' v ≡ true → l v ≡ true) (down : (v : ℕ) → (v ≡ k → ⊥) → l v ≡ true → l' v ≡ true) where
  not_k : (v : ℕ) → l' v ≡ true → v ≡ k → ⊥
  not_k v e s = clash (l' k) (rw s at e) lk'

  arrow_up : (a b : ℕ) → (without g k).arrow a b ≡ true → (a ≡ k → ⊥) × (b ≡ k → ⊥) × (g.arrow a b || (g.arrow a k && g.arrow k b)) ≡ true
  arrow_up a b e = let r = right_true (not (a == k)) (not (b == k) && (g.arrow a b || (g.arrow a k && g.arrow k b))) e in (
    dropped a k (left_true (not (a == k)) (not (b == k) && (g.arrow a b || (g.arrow a k && g.arrow k b))) e),
    dropped b k (left_true (not (b == k)) (g.arrow a b || (g.arrow a k && g.arrow k b)) r),
    right_true (not (b == k)) (g.arrow a b || (g.arrow a k && g.arrow k b)) r,
  )

  arrow_down : (a b : ℕ) → (a ≡ k → ⊥) → (b ≡ k → ⊥) → (g.arrow a b || (g.arrow a k && g.arrow k b)) ≡ true → (without g k).arrow a b ≡ true
  arrow_down a b x y e = and_from (not (a == k)) (not (b == k) && (g.arrow a b || (g.arrow a k && g.arrow k b))) (kept a k x)
      (and_from (not (b == k)) (g.arrow a b || (g.arrow a k && g.arrow k b)) (kept b k y) e)

  arrow_same : (a b : ℕ) → (a ≡ k → ⊥) → (b ≡ k → ⊥) → g.arrow a b ≡ true → (without g k).arrow a b ≡ true
  arrow_same a b x y e = arrow_down a b x y (or_left (g.arrow a b) (g.arrow a k && g.arrow k b) e)

  arrow_through : (a b : ℕ) → (a ≡ k → ⊥) → (b ≡ k → ⊥) → g.arrow a k ≡ true → g.arrow k b ≡ true → (without g k).arrow a b ≡ true
  arrow_through a b x y e f = arrow_down a b x y (or_right (g.arrow a b) (g.arrow a k && g.arrow k b) (and_from (g.arrow a k) (g.arrow k b) e f))

  both_up : (a b : ℕ) → (without g k).both a b ≡ true → (a ≡ k → ⊥) × (b ≡ k → ⊥) × (g.both a b || (not (a == b) && through g k a b)) ≡ true
  both_up a b e = let r = right_true (not (a == k)) (not (b == k) && (g.both a b || (not (a == b) && through g k a b))) e in (
    dropped a k (left_true (not (a == k)) (not (b == k) && (g.both a b || (not (a == b) && through g k a b))) e),
    dropped b k (left_true (not (b == k)) (g.both a b || (not (a == b) && through g k a b)) r),
    right_true (not (b == k)) (g.both a b || (not (a == b) && through g k a b)) r,
  )

  both_down : (a b : ℕ) → (a ≡ k → ⊥) → (b ≡ k → ⊥) → (g.both a b || (not (a == b) && through g k a b)) ≡ true → (without g k).both a b ≡ true
  both_down a b x y e = and_from (not (a == k)) (not (b == k) && (g.both a b || (not (a == b) && through g k a b))) (kept a k x)
      (and_from (not (b == k)) (g.both a b || (not (a == b) && through g k a b)) (kept b k y) e)

  both_through : (a b : ℕ) → (a ≡ k → ⊥) → (b ≡ k → ⊥) → (a ≡ b → ⊥) → through g k a b ≡ true → (without g k).both a b ≡ true
  both_through a b x y d e = both_down a b x y (or_right (g.both a b) (not (a == b) && through g k a b)
      (and_from (not (a == b)) (through g k a b) (kept a b d) e))

  no_self : (a : ℕ) → g.arrow k a ≡ true → a ≡ k → ⊥
  no_self a e s = ok.acyclic k k [] (rw s at e, refl)

  -- ---- directed paths
  reach_down_path : (v : ℕ) → (v ≡ k → ⊥) → (c : ℕ) → (c ≡ k → ⊥) → (xs : List ℕ) → IsDirectedPath g c xs v → AreBefore l c xs → Reaches (without g k) l' c v
  reach_down_path v vk c ck [] p b = record { path = []; leads = p; before = tt }
  reach_down_path v vk c ck (x ∷ []) p b = record { path = x ∷ []; leads = (arrow_same c x ck (λ s. vk (sym p.1 ∙ s)) p.0, p.1); before = (down c ck b.0, tt) }
  reach_down_path v vk c ck (x ∷ y ∷ ys) p b = go (cases_eq x k) (λ d. reach_down_path v vk x d (y ∷ ys) p.1 b.1) (λ d. reach_down_path v vk y d ys p.1.1 b.1.1)
    where
      go : (x ≡ k) ⊎ (x ≡ k → ⊥) → ((x ≡ k → ⊥) → Reaches (without g k) l' x v) → ((y ≡ k → ⊥) → Reaches (without g k) l' y v) → Reaches (without g k) l' c v
      go (inr d) f h = longer (without g k) l' c x v (down c ck b.0) (arrow_same c x ck d p.0) (f d)
      go (inl s) f h =
          let ky : g.arrow k y ≡ true = rw s at p.1.0 in
          let d : y ≡ k → ⊥ = no_self y ky in
          longer (without g k) l' c y v (down c ck b.0) (arrow_through c y ck d (rw s at p.0) ky) (h d)

  reach_down : (c v : ℕ) → (c ≡ k → ⊥) → (v ≡ k → ⊥) → Reaches g l c v → Reaches (without g k) l' c v
  reach_down c v ck vk r = reach_down_path v vk c ck r.path r.leads r.before

  -- the vertex behind k on a path from k
  record Behind (v : ℕ) : Type 0 where
    next : ℕ
    first : g.arrow k next ≡ true
    differs : next ≡ k → ⊥
    rest : Reaches (without g k) l' next v

  behind : (c v : ℕ) → c ≡ k → (v ≡ k → ⊥) → Reaches g l c v → Behind v
  behind c v s vk r = go r.path r.leads r.before
    where
      go : (xs : List ℕ) → IsDirectedPath g c xs v → AreBefore l c xs → Behind v
      go [] p b = absurd (vk (sym p ∙ s))
      go (x ∷ xs) p b = let kx : g.arrow k x ≡ true = rw s at p.0 in record {
        next = x;
        first = kx;
        differs = no_self x kx;
        rest = reach_down_path v vk x (no_self x kx) xs p.1 b.1;
      }

  reach_up_path : (v c : ℕ) (xs : List ℕ) → IsDirectedPath (without g k) c xs v → AreBefore l' c xs → Reaches g l c v
  reach_up_path v c [] p b = record { path = []; leads = p; before = tt }
  reach_up_path v c (x ∷ xs) p b = go (or_cases (g.arrow c x) (g.arrow c k && g.arrow k x) (arrow_up c x p.0).2) (reach_up_path v x xs p.1 b.1)
    where
      go : (g.arrow c x ≡ true) ⊎ ((g.arrow c k && g.arrow k x) ≡ true) → Reaches g l x v → Reaches g l c v
      go (inl e) r = longer g l c x v (up c b.0) e r
      go (inr e) r = longer g l c k v (up c b.0) (left_true (g.arrow c k) (g.arrow k x) e) (longer g l k x v lk (right_true (g.arrow c k) (g.arrow k x) e) r)

  reach_up : (c v : ℕ) → Reaches (without g k) l' c v → Reaches g l c v
  reach_up c v r = reach_up_path v c r.path r.leads r.before

  pub led_down : (a b : ℕ) → (a ≡ k → ⊥) → (b ≡ k → ⊥) → LeadsOn g l a b → LeadsOn (without g k) l' a b
  led_down a b ak bk r = go (cases_eq r.next k)
    where
      go : (r.next ≡ k) ⊎ (r.next ≡ k → ⊥) → LeadsOn (without g k) l' a b
      go (inr d) = record { next = r.next; first = arrow_same a r.next ak d r.first; rest = reach_down r.next b d bk r.rest }
      go (inl s) = let t = behind r.next b s bk r.rest in record {
        next = t.next;
        first = arrow_through a t.next ak t.differs (rw s at r.first) t.first;
        rest = t.rest;
      }

  pub led_up : (a b : ℕ) → LeadsOn (without g k) l' a b → LeadsOn g l a b
  led_up a b r = go (or_cases (g.arrow a r.next) (g.arrow a k && g.arrow k r.next) (arrow_up a r.next r.first).2)
    where
      go : (g.arrow a r.next ≡ true) ⊎ ((g.arrow a k && g.arrow k r.next) ≡ true) → LeadsOn g l a b
      go (inl e) = record { next = r.next; first = e; rest = reach_up r.next b r.rest }
      go (inr e) = record {
        next = k;
        first = left_true (g.arrow a k) (g.arrow k r.next) e;
        rest = longer g l k r.next b lk (right_true (g.arrow a k) (g.arrow k r.next) e) (reach_up r.next b r.rest);
      }

  -- ---- treks
  -- two ways from one vertex to different ends: the vertex is latent, and the top of a fork
  same_top : (d a b : ℕ) → (a ≡ b → ⊥) → Reaches (without g k) l' d a → Reaches (without g k) l' d b → IsTrek (without g k) l' a b
  same_top d a b ne x y = fork d (latent x.path y.path x.leads y.leads x.before y.before) x y
    where
      latent : (xs ys : List ℕ) → IsDirectedPath (without g k) d xs a → IsDirectedPath (without g k) d ys b → AreBefore l' d xs → AreBefore l' d ys → l' d
          ≡ true
      latent [] [] p q e f = absurd (ne (sym p ∙ q))
      latent [] (z ∷ zs) p q e f = f.0
      latent (z ∷ zs) ys p q e f = e.0

  joined_top : (c d a b : ℕ) → (c ≡ k → ⊥) → (d ≡ k → ⊥) → (a ≡ b → ⊥) → through g k c d ≡ true → Reaches (without g k) l' c a → Reaches (without g k) l' d b
      → IsTrek (without g k) l' a b
  joined_top c d a b ck dk ne t x y = go (cases_eq c d)
    where
      go : (c ≡ d) ⊎ (c ≡ d → ⊥) → IsTrek (without g k) l' a b
      go (inl s) = same_top d a b ne (rw s at x) y
      go (inr e) = edge c d (both_through c d ck dk e t) x y

  pub trek_down : (a b : ℕ) → (a ≡ k → ⊥) → (b ≡ k → ⊥) → (a ≡ b → ⊥) → IsTrek g l a b → IsTrek (without g k) l' a b
  trek_down a b ak bk ne (fork c lc x y) = go (cases_eq c k)
    where
      go : (c ≡ k) ⊎ (c ≡ k → ⊥) → IsTrek (without g k) l' a b
      go (inr d) = fork c (down c d lc) (reach_down c a d ak x) (reach_down c b d bk y)
      go (inl s) = let t = behind c a s ak x in let t' = behind c b s bk y in
          joined_top t.next t'.next a b t.differs t'.differs ne
          (or_left (g.arrow k t.next && g.arrow k t'.next) ((g.arrow k t.next && g.both k t'.next) || (g.both t.next k && g.arrow k t'.next))
          (and_from (g.arrow k t.next) (g.arrow k t'.next) t.first t'.first))
          t.rest t'.rest
  trek_down a b ak bk ne (edge c d e x y) = go (cases_eq c k) (cases_eq d k)
    where
      go : (c ≡ k) ⊎ (c ≡ k → ⊥) → (d ≡ k) ⊎ (d ≡ k → ⊥) → IsTrek (without g k) l' a b
      go (inr p) (inr q) = edge c d (both_down c d p q (or_left (g.both c d) (not (c == d) && through g k c d) e)) (reach_down c a p ak x)
          (reach_down d b q bk y)
      go (inl s) (inl t) = clash (g.both k k) (rw (s, t) at e) (ok.no_loop k)
      go (inl s) (inr q) = let t = behind c a s ak x in
          joined_top t.next d a b t.differs q ne
          (or_right (g.arrow k t.next && g.arrow k d) ((g.arrow k t.next && g.both k d) || (g.both t.next k && g.arrow k d))
          (or_left (g.arrow k t.next && g.both k d) (g.both t.next k && g.arrow k d) (and_from (g.arrow k t.next) (g.both k d) t.first (rw s at e))))
          t.rest (reach_down d b q bk y)
      go (inr p) (inl s) = let t = behind d b s bk y in
          joined_top c t.next a b p t.differs ne
          (or_right (g.arrow k c && g.arrow k t.next) ((g.arrow k c && g.both k t.next) || (g.both c k && g.arrow k t.next))
          (or_right (g.arrow k c && g.both k t.next) (g.both c k && g.arrow k t.next) (and_from (g.both c k) (g.arrow k t.next) (rw s at e) t.first)))
          (reach_down c a p ak x) t.rest

  pub trek_up : (a b : ℕ) → IsTrek (without g k) l' a b → IsTrek g l a b
  trek_up a b (fork c lc x y) = fork c (up c lc) (reach_up c a x) (reach_up c b y)
  trek_up a b (edge c d e x y) = go (or_cases (g.both c d) (not (c == d) && through g k c d) (both_up c d e).2)
    where
      from_k : (v w : ℕ) → g.arrow k v ≡ true → Reaches (without g k) l' v w → Reaches g l k w
      from_k v w f r = longer g l k v w lk f (reach_up v w r)

      way : ((g.arrow k c && g.both k d) ≡ true) ⊎ ((g.both c k && g.arrow k d) ≡ true) → IsTrek g l a b
      way (inl f) = edge k d (right_true (g.arrow k c) (g.both k d) f) (from_k c a (left_true (g.arrow k c) (g.both k d) f) x) (reach_up d b y)
      way (inr f) = edge c k (left_true (g.both c k) (g.arrow k d) f) (reach_up c a x) (from_k d b (right_true (g.both c k) (g.arrow k d) f) y)

      ways : ((g.arrow k c && g.arrow k d) ≡ true) ⊎ (((g.arrow k c && g.both k d) || (g.both c k && g.arrow k d)) ≡ true) → IsTrek g l a b
      ways (inl f) = fork k lk (from_k c a (left_true (g.arrow k c) (g.arrow k d) f) x) (from_k d b (right_true (g.arrow k c) (g.arrow k d) f) y)
      ways (inr f) = way (or_cases (g.arrow k c && g.both k d) (g.both c k && g.arrow k d) f)

      go : (g.both c d ≡ true) ⊎ ((not (c == d) && through g k c d) ≡ true) → IsTrek g l a b
      go (inl f) = edge c d f (reach_up c a x) (reach_up d b y)
      go (inr f) = ways (or_cases (g.arrow k c && g.arrow k d) ((g.arrow k c && g.both k d) || (g.both c k && g.arrow k d))
          (right_true (not (c == d)) (through g k c d) f))

  -- ---- k is isolated, and stays so
  head_kept : (v : ℕ) (c : ℕ) (xs : List ℕ) → (c ≡ k → ⊥) → IsDirectedPath (without g k) c xs v → v ≡ k → ⊥
  head_kept v c [] d p s = d (p ∙ s)
  head_kept v c (x ∷ xs) d p s = head_kept v x xs (arrow_up c x p.0).1 p.1 s

  observed_down : (v : ℕ) → (v ≡ k → ⊥) → l' v ≡ false → l v ≡ false
  observed_down v d e = false_from_ne_true (l v) (λ f. clash (l' v) (down v d f) e)

  observed_up : (v : ℕ) → l v ≡ false → l' v ≡ false
  observed_up v e = false_from_ne_true (l' v) (λ f. clash (l v) (up v f) e)

  observed_not : (v : ℕ) → l v ≡ false → v ≡ k → ⊥
  observed_not v e s = clash (l k) lk (rw s at e)

  -- a projection of what is left without k is one of the whole
  pub projects_up : (p : MixedGraph) → ProjectsByTreks (without g k) l' p → ProjectsByTreks g l p
  projects_up p is = record {
    vertices = is.vertices;
    led = λ a b e. led_up a b (is.led a b e);
    led_back = λ a b x y r. is.led_back a b (observed_up a x) (observed_up b y) (led_down a b (observed_not a x) (observed_not b y) r);
    trek = λ a b e. trek_up a b (is.trek a b e);
    trek_back = λ a b x y ne t. is.trek_back a b (observed_up a x) (observed_up b y) ne (trek_down a b (observed_not a x) (observed_not b y) ne t);
    apart = is.apart;
    tail_observed = λ a b e. let r = is.led a b e in observed_down a (arrow_up a r.next r.first).0 (is.tail_observed a b e);
    head_observed = λ a b e. let r = is.led a b e in observed_down b (head_kept b r.next r.rest.path (arrow_up a r.next r.first).1 r.rest.leads)
        (is.head_observed a b e);
    both_observed = λ a b e. let o = is.both_observed a b e in let t = tops a b (is.trek a b e) in (observed_down a t.0 o.0, observed_down b t.1 o.1);
  }
    where
      tops : (a b : ℕ) → IsTrek (without g k) l' a b → (a ≡ k → ⊥) × (b ≡ k → ⊥)
      tops a b (fork c lc x y) = (head_kept a c x.path (not_k c lc) x.leads, head_kept b c y.path (not_k c lc) y.leads)
      tops a b (edge c d e x y) = let f = both_up c d e in (head_kept a c x.path f.0 x.leads, head_kept b d y.path f.1 y.leads)
