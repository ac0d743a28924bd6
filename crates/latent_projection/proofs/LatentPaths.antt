-- Treks between observed vertices are paths without colliders.
use Rattle.std.proofs.Common.{ℕ, ◌≡◌, Bool, true, false, ◌&&◌, List, [], ◌∷◌, ◌⊎◌, inl, inr, refl, sym, ◌∙◌, arith}
use Rattle.std.proofs.lemmas.Bool.{cases_eq}
use Rattle.mixed_graph.specs.Vocabulary.{MixedGraph, IsDirectedPath}
use Rattle.m_separation.specs.declared.marks.Mark.{Mark}
use Rattle.m_separation.specs.declared.marks.Mark.TheVariants.{Out, Into, Both}
use Rattle.m_separation.specs.Vocabulary.{Step, IsJoined, IsWalk, last, heads_first, heads_second, Avoids, IsPath}
use Rattle.latent_projection.specs.Projection.{AreBefore, AreLatentFrom, ends_headed, IsLatentPath}
use Rattle.latent_projection.proofs.Treks.{Reaches, IsTrek, fork, edge, clash, here, longer}

module _ (g : MixedGraph) (l : ℕ → Bool) where
  -- ---- from a walk without colliders to a trek
  -- after an arrowhead at v the walk goes down
  down : (b v : ℕ) (r : List Step) → IsWalk g v r → AreLatentFrom l true v r → last v r ≡ b → Reaches g l v b
  down b v [] k p s = record { path = []; leads = s; before = tt }
  down b v (t ∷ r) k p s = go t.mark k.0 p.1 (λ q. down b t.to r k.1 q s) p.2
    where
      go : (m : Mark) → IsJoined g v m t.to → (true && heads_first m) ≡ false → (AreLatentFrom l true t.to r → Reaches g l t.to b)
          → AreLatentFrom l (heads_second m) t.to r → Reaches g l v b
      go Out j e f q = longer g l v t.to b p.0 j (f q)
      go Into j e f q = absurd (grind (arith, e))
      go Both j e f q = absurd (grind (arith, e))

  -- v has an arrow to w, from where a latent way leads to a
  up : (a b v w : ℕ) → g.arrow v w ≡ true → Reaches g l w a → (r : List Step) → IsWalk g v r → AreLatentFrom l false v r → ends_headed false r ≡ true
      → last v r ≡ b → IsTrek g l a b
  up a b v w e x [] k p h s = absurd (grind (arith, h))
  up a b v w e x (t ∷ r) k p h s = go t.mark k.0 p.2 h (λ j q z. up a b t.to v j (longer g l v w a p.0 e x) r k.1 q z s) (λ q. down b t.to r k.1 q s)
    where
      go : (m : Mark) → IsJoined g v m t.to → AreLatentFrom l (heads_second m) t.to r → ends_headed (heads_second m) r ≡ true
          → (g.arrow t.to v ≡ true → AreLatentFrom l false t.to r → ends_headed false r ≡ true → IsTrek g l a b)
          → (AreLatentFrom l true t.to r → Reaches g l t.to b) → IsTrek g l a b
      go Out j q z f d = fork v p.0 (longer g l v w a p.0 e x) (longer g l v t.to b p.0 j (d q))
      go Into j q z f d = f j q z
      go Both j q z f d = edge v t.to j (longer g l v w a p.0 e x) (d q)

  -- a latent path gives a trek between its ends
  pub trek_of : (a b : ℕ) → IsLatentPath g l a b → IsTrek g l a b
  trek_of a b x = go x.first.mark x.walk.0 x.head_first x.latent x.head_last
    where
      go : (m : Mark) → IsJoined g a m x.first.to → heads_first m ≡ true → AreLatentFrom l (heads_second m) x.first.to x.rest
          → ends_headed (heads_second m) x.rest ≡ true → IsTrek g l a b
      go Out j e q h = absurd (grind (arith, e))
      go Into j e q h = up a b x.first.to a j (here g l a) x.rest x.walk.1 q h x.ends
      go Both j e q h = edge a x.first.to j (here g l a) (down b x.first.to x.rest x.walk.1 q x.ends)

  -- ---- no vertex need be repeated
  record Simple (h : Bool) (v b : ℕ) : Type 0 where
    steps : List Step
    walk : IsWalk g v steps
    ends : last v steps ≡ b
    head_last : ends_headed h steps ≡ true
    latent : AreLatentFrom l h v steps
    different : IsPath v steps

  -- v stands on the path, was come to with h' there, and h' is true if h is
  record Found (v b : ℕ) (h : Bool) : Type 0 where
    came : Bool
    keeps : h ≡ true → came ≡ true
    rest : Simple came v b

  found_at : (v b : ℕ) (h : Bool) (u : ℕ) (r : List Step) → IsWalk g u r → last u r ≡ b → ends_headed h r ≡ true → AreLatentFrom l h u r → IsPath u r
      → (v ≡ u) ⊎ (v ≡ u → ⊥) → Found v b h ⊎ Avoids v r
      → Found v b h ⊎ ((u ≡ v → ⊥) × Avoids v r)
  found_at v b h u r k s e p d (inl q) f = inl (record {
    came = h;
    keeps = λ z. z;
    rest = rw q (record { steps = r; walk = k; ends = s; head_last = e; latent = p; different = d });
  })
  found_at v b h u r k s e p d (inr q) (inl f) = inl f
  found_at v b h u r k s e p d (inr q) (inr a) = inr ((λ z. q (sym z)), a)

  heads_on : (h : Bool) (m : Mark) → (h && heads_first m) ≡ false → h ≡ true → heads_second m ≡ true
  heads_on true Out q z = refl
  heads_on true Into q z = absurd (grind (arith, q))
  heads_on true Both q z = refl
  heads_on false m q z = absurd (grind (arith, z))

  find : (v b : ℕ) (h : Bool) (u : ℕ) (r : List Step) → IsWalk g u r → last u r ≡ b → ends_headed h r ≡ true → AreLatentFrom l h u r → IsPath u r
      → Found v b h ⊎ ((u ≡ v → ⊥) × Avoids v r)
  find v b h u [] k s e p d = found_at v b h u [] k s e p d (cases_eq v u) (inr tt)
  find v b h u (t ∷ r) k s e p d = found_at v b h u (t ∷ r) k s e p d (cases_eq v u) (pass (find v b (heads_second t.mark) t.to r k.1 s e p.2 d.1))
    where
      pass : Found v b (heads_second t.mark) ⊎ ((t.to ≡ v → ⊥) × Avoids v r) → Found v b h ⊎ ((t.to ≡ v → ⊥) × Avoids v r)
      pass (inl f) = inl (record { came = f.came; keeps = λ z. f.keeps (heads_on h t.mark p.1 z); rest = f.rest })
      pass (inr a) = inr a

  simple : (b : ℕ) → l b ≡ false → (h : Bool) (v : ℕ) (r : List Step) → IsWalk g v r → last v r ≡ b → ends_headed h r ≡ true → AreLatentFrom l h v r
      → Simple h v b
  simple b o h v [] k s e p = record { steps = []; walk = tt; ends = s; head_last = e; latent = tt; different = tt }
  simple b o h v (t ∷ r) k s e p = choose (simple b o (heads_second t.mark) t.to r k.1 s e p.2)
    where
      again : (f : Found v b (heads_second t.mark)) → Simple h v b
      again f = go f.rest.steps f.rest.walk f.rest.ends f.rest.head_last f.rest.latent f.rest.different
        where
          less : (h c : Bool) (m : Mark) → (h ≡ true → c ≡ true) → (c && heads_first m) ≡ false → (h && heads_first m) ≡ false
          less true c m f q = rw (f refl) at q
          less false c m f q = refl

          go : (q : List Step) → IsWalk g v q → last v q ≡ b → ends_headed f.came q ≡ true → AreLatentFrom l f.came v q → IsPath v q → Simple h v b
          go [] k' s' e' p' d' = clash (l v) p.0 (rw (sym s') at o)
          go (x ∷ q) k' s' e' p' d' = record {
            steps = x ∷ q;
            walk = k';
            ends = s';
            head_last = e';
            latent = (p'.0, less h f.came x.mark (λ z. f.keeps (heads_on h t.mark p.1 z)) p'.1, p'.2);
            different = d';
          }

      choose : Simple (heads_second t.mark) t.to b → Simple h v b
      choose x = pick (find v b (heads_second t.mark) t.to x.steps x.walk x.ends x.head_last x.latent x.different)
        where
          pick : Found v b (heads_second t.mark) ⊎ ((t.to ≡ v → ⊥) × Avoids v x.steps) → Simple h v b
          pick (inl f) = again f
          pick (inr a) = record {
            steps = t ∷ x.steps;
            walk = (k.0, x.walk);
            ends = x.ends;
            head_last = x.head_last;
            latent = (p.0, p.1, x.latent);
            different = (a, x.different);
          }

  -- ---- from a trek to a walk without colliders
  record Begun (v b : ℕ) : Type 0 where
    first : Step
    rest : List Step
    walk : IsWalk g v (first ∷ rest)
    ends : last first.to rest ≡ b
    head_last : ends_headed (heads_second first.mark) rest ≡ true
    latent : AreLatentFrom l (heads_second first.mark) first.to rest

  record Headed (v b : ℕ) : Type 0 where
    begun : Begun v b
    head_first : heads_first begun.first.mark ≡ true

  climb : (a b v : ℕ) (xs : List ℕ) → IsDirectedPath g v xs a → AreBefore l v xs → (x : Begun v b) → (xs ≡ [] → heads_first x.first.mark ≡ true) → Headed a b
  climb a b v [] p q x h = rw (sym p) (record { begun = x; head_first = h refl })
  climb a b v (y ∷ ys) p q x h = climb a b y ys p.1 q.1
      (record {
        first = record { mark = Into; to = v };
        rest = x.first ∷ x.rest;
        walk = (p.0, x.walk);
        ends = x.ends;
        head_last = x.head_last;
        latent = (q.0, refl, x.latent);
      }) (λ z. refl)

  outs : List ℕ → List Step
  outs [] = []
  outs (x ∷ xs) = record { mark = Out; to = x } ∷ outs xs

  walk_outs : (v : ℕ) (xs : List ℕ) (t : ℕ) → IsDirectedPath g v xs t → IsWalk g v (outs xs)
  unfolding outs
  walk_outs v [] t p = tt
  walk_outs v (x ∷ xs) t p = (p.0, walk_outs x xs t p.1)

  last_outs : (v : ℕ) (xs : List ℕ) (t : ℕ) → IsDirectedPath g v xs t → last v (outs xs) ≡ t
  unfolding outs
  last_outs v [] t p = p
  last_outs v (x ∷ xs) t p = last_outs x xs t p.1

  latent_outs : (v : ℕ) (xs : List ℕ) → AreBefore l v xs → AreLatentFrom l true v (outs xs)
  unfolding outs
  latent_outs v [] p = tt
  latent_outs v (x ∷ xs) p = (p.0, refl, latent_outs x xs p.1)

  head_outs : (xs : List ℕ) → ends_headed true (outs xs) ≡ true
  unfolding outs
  head_outs [] = refl
  head_outs (x ∷ xs) = head_outs xs

  begun_fork : (c b : ℕ) → l c ≡ true → l b ≡ false → (ys : List ℕ) → IsDirectedPath g c ys b → AreBefore l c ys → Begun c b
  begun_fork c b e o [] p q = clash (l c) e (rw (sym p) at o)
  begun_fork c b e o (y ∷ ys) p q = record {
    first = record { mark = Out; to = y };
    rest = outs ys;
    walk = (p.0, walk_outs y ys b p.1);
    ends = last_outs y ys b p.1;
    head_last = head_outs ys;
    latent = latent_outs y ys q.1;
  }

  headed : (a b : ℕ) → l a ≡ false → l b ≡ false → IsTrek g l a b → Headed a b
  headed a b oa ob (fork c e x y) = climb a b c x.path x.leads x.before (begun_fork c b e ob y.path y.leads y.before) (λ z. top x.path x.leads z)
    where
      top : {A : Type 0} (xs : List ℕ) → IsDirectedPath g c xs a → xs ≡ [] → A
      top [] p z = clash (l c) e (rw (sym p) at oa)
      top (u ∷ us) p z = absurd (cc)
  headed a b oa ob (edge c d e x y) = climb a b c x.path x.leads x.before
      (record {
        first = record { mark = Both; to = d };
        rest = outs y.path;
        walk = (e, walk_outs d y.path b y.leads);
        ends = last_outs d y.path b y.leads;
        head_last = head_outs y.path;
        latent = latent_outs d y.path y.before;
      }) (λ z. refl)

  -- the first vertex isn't on the rest, since the inner vertices are latent
  avoided : (a b : ℕ) → l a ≡ false → (a ≡ b → ⊥) → (h : Bool) (v : ℕ) (r : List Step) → last v r ≡ b → AreLatentFrom l h v r → (v ≡ a → ⊥) × Avoids a r
  avoided a b o ne h v [] s p = ((λ q. ne (sym q ∙ s)), tt)
  avoided a b o ne h v (t ∷ r) s p = ((λ q. clash (l v) p.0 (rw (sym q) at o)), avoided a b o ne (heads_second t.mark) t.to r s p.2)

  -- a trek between two different observed vertices gives a latent path
  pub path_of : (a b : ℕ) → l a ≡ false → l b ≡ false → (a ≡ b → ⊥) → IsTrek g l a b → IsLatentPath g l a b
  path_of a b oa ob ne t = go (headed a b oa ob t)
    where
      go : Headed a b → IsLatentPath g l a b
      go x = let s = simple b ob (heads_second x.begun.first.mark) x.begun.first.to x.begun.rest x.begun.walk.1 x.begun.ends x.begun.head_last
          x.begun.latent in record {
            first = x.begun.first;
            rest = s.steps;
            walk = (x.begun.walk.0, s.walk);
            ends = s.ends;
            head_first = x.head_first;
            head_last = s.head_last;
            latent = s.latent;
            simple = (avoided a b oa ne (heads_second x.begun.first.mark) x.begun.first.to s.steps s.ends s.latent, s.different);
          }
