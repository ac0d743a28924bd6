-- With the hidden mechanisms put into the observed ones each nested event has its weight.
use Rattle.std.proofs.Common.{ℕ, ◌≡◌, ◌<◌, Bool, true, false, cond, eqb, refl, sym, ap, ap₂, ◌∙◌, ◌||◌, ◌&&◌, arith, eqb-true, eq-eqb}
use Rattle.mixed_graph.specs.Vocabulary.{MixedGraph, IsMixedGraph, Apart}
use Rattle.finite_models.specs.Vocabulary.{set_at, FiniteModel, IsAssignment, solution, agree, intervene, world_weight}
use Rattle.finite_models.proofs.Bools.{either, not_both}
use Rattle.finite_models.proofs.Following.{Follows, follows_intervene, intervene_alike}
use Rattle.finite_models.proofs.Ranks.{with_rank}
use Rattle.finite_models.proofs.Solutions.{IsRanked, solution_within, agree_from, agree_gives, agree_same}
use Rattle.finite_models.proofs.SumLaws.{over-congr_within, set_at-same, set_at-other}
use Rattle.latent_projection.proofs.Treks.{ProjectsByTreks}
use Rattle.prob_expr.proofs.Boxes.{assignment_set}
use Rattle.hidden_models.proofs.Fold.{fold_follows, same_agree}
use Rattle.hidden_models.proofs.FoldingLaw.{fold, TellsReached}
use Rattle.treated_drawn.proofs.Both.{solution_none, nothing}
use Rattle.nested_models.specs.Nested.{nested}
use Rattle.nested_models.specs.Vocabulary.{is_nested, weight_of_nested}
use Rattle.natural_drawn.proofs.Worlds.{set_value, same_rounds}

module _ (g p : MixedGraph) (l : ℕ → Bool) (w : FiniteModel) (r : ℕ → ℕ → Bool) (ok : IsMixedGraph g) (p_ok : IsMixedGraph p) (is : ProjectsByTreks g l p)
    (follows : Follows g w) (tells : TellsReached g l w r) where
  -- values of the observed vertices
  abbrev pub AreSeen : (ℕ → ℕ) → Type 0
  AreSeen s = IsAssignment w.vertices (λ v. cond (l v) 1 (w.size v)) s

  within : (s : ℕ → ℕ) → AreSeen s → IsAssignment w.vertices w.size s
  within s hs v vl = go (l v) (hs v vl) (follows.positive_size v vl)
    where
      go : (c : Bool) → s v < cond c 1 (w.size v) → 0 < w.size v → s v < w.size v
      go true h q = omega arith
      go false h q = h

  -- ---- one world
  module _ (rank : ℕ → ℕ) (ranked : IsRanked g rank) (u : ℕ → ℕ) (hu : IsAssignment w.causes w.values u) where
    in_range : (b : ℕ → Bool) (s : ℕ → ℕ) → AreSeen s → (v : ℕ) → v < w.vertices → l v ≡ false
        → solution (intervene w b s) u v < cond (l v) 1 (w.size v)
    in_range b s hs v vl e =
        let h : solution (intervene w b s) u v < w.size v =
        solution_within g (intervene w b s) (follows_intervene g w b s (within s hs) follows) u hu v vl in rw e h

    -- an observed vertex that isn't set
    module _ (b : ℕ → Bool) (bo : Apart b l) (s : ℕ → ℕ) (hs : AreSeen s) (v : ℕ) (vl : v < w.vertices) (lv : l v ≡ false) (free : b v ≡ false) where
      abbrev here : ℕ
      here = solution (intervene w b s) u v

      -- s with the value that v has
      abbrev t : ℕ → ℕ
      t = set_at s v here

      alike : (h : FiniteModel) → intervene h b t ≡ intervene h b s
      alike h = intervene_alike h b t s (λ k e. set_at-other s v here k (λ q. not_both (b k) e (ap b q ∙ free)))

      seen : agree w.vertices (λ k. eqb k v) (solution (intervene w b t) u) t ≡ true
      seen = agree_from w.vertices (λ k. eqb k v) (solution (intervene w b t) u) t (λ k kl e. let q = eqb-true k v e in
          ap (λ h. solution h u k) (alike w) ∙ ap (solution (intervene w b s) u) q ∙ sym (ap t q ∙ set_at-same s v here))

      free_same : here ≡ solution (intervene (fold w l r) b s) u v
      free_same =
          sym (agree_gives w.vertices (λ k. eqb k v) (solution (intervene (fold w l r) b t) u) t
          (sym (same_agree g p l w r ok is follows tells rank ranked b (λ k. eqb k v) bo (λ k e. ap l (eqb-true k v e) ∙ lv) t
          (assignment_set w.vertices (λ k. cond (l k) 1 (w.size k)) s v here (in_range b s hs v vl lv) hs) u hu) ∙ seen) v vl (eq-eqb v v refl)
          ∙ set_at-same s v here)
          ∙ ap (λ h. solution h u v) (alike (fold w l r))

    -- an observed vertex has one value in both, under every intervention on observed ones
    fold_at : (b : ℕ → Bool) → Apart b l → (s : ℕ → ℕ) → AreSeen s → (v : ℕ) → v < w.vertices → l v ≡ false
        → solution (intervene w b s) u v ≡ solution (intervene (fold w l r) b s) u v
    fold_at b bo s hs v vl lv = go (b v) refl
      where
        go : (c : Bool) → b v ≡ c → solution (intervene w b s) u v ≡ solution (intervene (fold w l r) b s) u v
        go true e = set_value w b s u v e w.vertices (omega (arith, vl)) ∙ sym (set_value (fold w l r) b s u v e w.vertices (omega (arith, vl)))
        go false e = free_same b bo s hs v vl lv e

    -- and without one
    given_at : (s : ℕ → ℕ) → AreSeen s → (v : ℕ) → v < w.vertices → l v ≡ false → solution w u v ≡ solution (fold w l r) u v
    given_at s hs v vl lv =
        ap (λ (f : ℕ → ℕ). f v) (sym (solution_none w (λ k. false) s u (λ k. refl)))
        ∙ fold_at (λ k. false) (nothing l) s hs v vl lv
        ∙ ap (λ (f : ℕ → ℕ). f v) (solution_none (fold w l r) (λ k. false) s u (λ k. refl))

    module _ (x m : ℕ → Bool) (xo : Apart x l) (mo : Apart m l) (s t : ℕ → ℕ) (hs : AreSeen s) (ht : AreSeen t) where
      -- the values to which x and m are set
      abbrev set_to : FiniteModel → ℕ → ℕ
      set_to h v = cond (m v) (solution (intervene h x t) u v) (s v)

      set_seen : AreSeen (set_to w)
      set_seen v vl = go (m v) refl
        where
          go : (c : Bool) → m v ≡ c → cond c (solution (intervene w x t) u v) (s v) < cond (l v) 1 (w.size v)
          go true e = in_range x t ht v vl (mo v e)
          go false e = hs v vl

      nested_at : (v : ℕ) → v < w.vertices → l v ≡ false → nested w x m s t u v ≡ nested (fold w l r) x m s t u v
      nested_at v vl lv =
          fold_at (λ k. x k || m k) (λ k e. either (x k) (m k) (l k ≡ false) e (xo k) (mo k)) (set_to w) set_seen v vl lv
          ∙ same_rounds p (fold w l r) p_ok (fold_follows g p l w r ok is follows tells) u u (λ j k jl e. refl) (λ k. x k || m k) (set_to w)
          (set_to (fold w l r)) (λ k kl e. at k kl (m k) refl) w.vertices v vl
        where
          at : (k : ℕ) → k < w.vertices → (c : Bool) → m k ≡ c
              → cond c (solution (intervene w x t) u k) (s k) ≡ cond c (solution (intervene (fold w l r) x t) u k) (s k)
          at k kl true e = fold_at x xo t ht k kl (mo k e)
          at k kl false e = refl

      same_there : (y z : ℕ → Bool) → Apart y l → Apart z l → is_nested w x m y z s t u ≡ is_nested (fold w l r) x m y z s t u
      same_there y z yo zo = ap₂ (λ a b. a && b)
          (agree_same w.vertices y y (nested w x m s t u) (nested (fold w l r) x m s t u) s
          (λ h v vl e. sym (nested_at v vl (yo v e)) ∙ h v vl e) (λ h v vl e. nested_at v vl (yo v e) ∙ h v vl e))
          (agree_same w.vertices z z (solution w u) (solution (fold w l r) u) s
          (λ h v vl e. sym (given_at s hs v vl (zo v e)) ∙ h v vl e) (λ h v vl e. given_at s hs v vl (zo v e) ∙ h v vl e))

  -- ---- all worlds
  pub fold_nested : (x m y z : ℕ → Bool) → Apart x l → Apart m l → Apart y l → Apart z l → (s t : ℕ → ℕ) → AreSeen s → AreSeen t
      → weight_of_nested w x m y z s t ≡ weight_of_nested (fold w l r) x m y z s t
  fold_nested x m y z xo mo yo zo s t hs ht =
      with_rank g ok (weight_of_nested w x m y z s t) (weight_of_nested (fold w l r) x m y z s t) (λ rank ranked.
      over-congr_within (λ j. true) w.values w.causes (λ u. cond (is_nested w x m y z s t u) (world_weight w u) 0)
      (λ u. cond (is_nested (fold w l r) x m y z s t u) (world_weight w u) 0) (λ j. 0)
      (λ u values rest. ap (λ b. cond b (world_weight w u) 0)
      (same_there rank ranked u (λ j jl. values j jl refl) x m xo mo s t hs ht y z yo zo)))
