-- A model of the observed graph that shares its worlds with one of the diagram as drawn gives each event of several worlds its probability.
use Rattle.std.proofs.Common.{ℕ, ◌*◌, ◌≡◌, ◌<◌, Bool, true, false, cond, not, refl, sym, ap, ap₂, ◌∙◌, ◌||◌, ◌&&◌, subst}
use mathlib.Core.Path.{fun_ext}
use Rattle.mixed_graph.specs.Vocabulary.{MixedGraph, IsMixedGraph}
use Rattle.finite_models.specs.Vocabulary.{sum_over, product_below, FiniteModel, Fits, IsAssignment, solution, agree, intervene, sum_worlds, world_weight, total}
use Rattle.finite_models.proofs.Following.{follows_of, follows_intervene}
use Rattle.finite_models.proofs.Solutions.{solution_within}
use Rattle.finite_models.proofs.SumLaws.{over-congr_within}
use Rattle.hidden_models.specs.Vocabulary.{Folds, new_number, set_before, values_before, SharesWorlds}
use Rattle.hidden_models.proofs.FoldingLaw.{member}
use Rattle.hidden_models.proofs.Positions.{member_is}
use Rattle.hidden_models.proofs.ReachingLaw.{observed_of}
use Rattle.treated_models.specs.Vocabulary.{is_both}
use Rattle.treated_drawn.proofs.Both.{solution_none, no_member}
use Rattle.nested_models.specs.Nested.{nested}
use Rattle.nested_models.specs.Vocabulary.{is_nested}
use Rattle.natural_drawn.specs.Drawn.{FoldsNested}
use Rattle.natural_drawn.proofs.Worlds.{set_union, agree_kept, same_rounds}

module _ (g : MixedGraph) (ok : IsMixedGraph g) (l : ℕ → Bool) (q : MixedGraph) (w w' : FiniteModel) (fit : Fits g w) (fit' : Fits q w')
    (folds : Folds l w w') (shares : SharesWorlds l w w') where
  abbrev o : ℕ → Bool
  o v = not (l v)

  -- ---- one world
  module _ (u : ℕ → ℕ) (hu : IsAssignment w'.causes w'.values u) where
    given_at : (s : ℕ → ℕ) → IsAssignment w'.vertices w'.size s → (v : ℕ) → v < w.vertices → l v ≡ false → solution w u v ≡ solution w' u (new_number l v)
    given_at s hs v vl e =
        ap (λ (f : ℕ → ℕ). f v) (sym (solution_none w (set_before l (λ k. false)) (values_before l s) u (λ k. no_member (not (l k)))))
        ∙ shares.worlds (λ k. false) s hs u hu v vl e
        ∙ ap (λ (f : ℕ → ℕ). f (new_number l v)) (solution_none w' (λ k. false) s u (λ k. refl))

    module _ (x m : ℕ → Bool) (s t : ℕ → ℕ) (hs : IsAssignment w'.vertices w'.size s) (ht : IsAssignment w'.vertices w'.size t) where
      -- the values to which x and m are set
      abbrev set_to : ℕ → ℕ
      set_to i = cond (m i) (solution (intervene w' x t) u i) (s i)

      set_within : IsAssignment w'.vertices w'.size set_to
      set_within i il = go (m i)
        where
          go : (c : Bool) → cond c (solution (intervene w' x t) u i) (s i) < w'.size i
          go true = solution_within q (intervene w' x t) (follows_intervene q w' x t ht (follows_of q w' fit')) u hu i il
          go false = hs i il

      set_old : (v : ℕ) → v < w.vertices
          → cond (set_before l m v) (solution (intervene w (set_before l x) (values_before l t)) u v) (values_before l s v) ≡ values_before l set_to v
      set_old v vl = go (l v) (m (new_number l v)) refl refl
        where
          go : (a d : Bool) → l v ≡ a → m (new_number l v) ≡ d
              → cond (set_before l m v) (solution (intervene w (set_before l x) (values_before l t)) u v) (values_before l s v) ≡ values_before l set_to v
          go true d e f = rw e refl
          go false false e f = rw (e, f) refl
          go false true e f = rw (e, f) (shares.worlds x t ht u hu v vl e)

      nested_at : (v : ℕ) → v < w.vertices → l v ≡ false
          → nested w (set_before l x) (set_before l m) (values_before l s) (values_before l t) u v ≡ nested w' x m s t u (new_number l v)
      nested_at v vl e =
          same_rounds g w ok (follows_of g w fit) u u (λ j k jl i. refl) (λ k. set_before l x k || set_before l m k)
          (λ k. cond (set_before l m k) (solution (intervene w (set_before l x) (values_before l t)) u k) (values_before l s k)) (values_before l set_to)
          (λ k kl i. set_old k kl) w.vertices v vl
          ∙ ap (λ (b : ℕ → Bool). solution (intervene w b (values_before l set_to)) u v) (fun_ext (set_union o x m))
          ∙ shares.worlds (λ k. x k || m k) set_to set_within u hu v vl e

    -- observed vertices agree with the same values
    agree_at : (s : ℕ → ℕ) (a : ℕ → Bool) (f h : ℕ → ℕ) → ((v : ℕ) → v < w.vertices → l v ≡ false → f v ≡ h (new_number l v))
        → agree w.vertices (set_before l a) f (values_before l s) ≡ agree w'.vertices a h s
    agree_at s a f h same =
        agree_kept o w.vertices s a f h (λ i il. let k = member_is o w.vertices i il in
        same (member o w.vertices i) k.below (observed_of (l (member o w.vertices i)) k.inside) ∙ ap h k.place)
        ∙ ap (λ n. agree n a h s) (sym folds.vertices)

  -- ---- all worlds
  -- a test that comes out alike in each world has one weight
  same_worlds : (c d : (ℕ → ℕ) → Bool) → ((u : ℕ → ℕ) → IsAssignment w'.causes w'.values u → c u ≡ d u)
      → sum_worlds w (λ u. cond (c u) (world_weight w u) 0) ≡ sum_worlds w' (λ u. cond (d u) (world_weight w' u) 0)
  same_worlds c d same =
      over-congr_within (λ j. true) w.values w.causes (λ u. cond (c u) (world_weight w u) 0) (λ u. cond (d u) (world_weight w' u) 0) (λ j. 0)
      (λ u values rest. ap₂ (λ b n. cond b n 0)
      (same u (λ j jl. subst (λ (f : ℕ → ℕ). u j < f j) (sym shares.values) (values j (subst (λ n. j < n) shares.causes jl) refl))) (weights u))
      ∙ ap₂ (λ (n : ℕ) (f : ℕ → ℕ). sum_over (λ j. true) f n (λ u. cond (d u) (world_weight w' u) 0) (λ j. 0)) (sym shares.causes) (sym shares.values)
    where
      weights : (u : ℕ → ℕ) → world_weight w u ≡ world_weight w' u
      weights u = ap₂ (λ (n : ℕ) (f : ℕ → ℕ → ℕ). product_below n (λ j. f j (u j))) (sym shares.causes) (sym shares.weight)

  same_total : total w ≡ total w'
  same_total = same_worlds (λ u. true) (λ u. true) (λ u hu. refl)

  pub shared_folds : FoldsNested l w w'
  shared_folds = record {
    both = record {
      folds = folds;
      both = λ x y k s t hs ht. ap₂ (λ a b. a * b) (same_worlds (is_both w (set_before l x) (set_before l y) (set_before l k) (values_before l s) (values_before l t))
          (is_both w' x y k s t) (λ u hu. ap₂ (λ a b. a && b)
          (agree_at u hu s y (solution (intervene w (set_before l x) (values_before l s)) u) (solution (intervene w' x s) u)
          (λ v vl e. shares.worlds x s hs u hu v vl e))
          (agree_at u hu t k (solution w u) (solution w' u) (given_at u hu s hs))))
          (sym same_total);
    };
    nested = λ x m y z s t hs ht. ap₂ (λ a b. a * b)
        (same_worlds (is_nested w (set_before l x) (set_before l m) (set_before l y) (set_before l z) (values_before l s) (values_before l t))
        (is_nested w' x m y z s t) (λ u hu. ap₂ (λ a b. a && b)
        (agree_at u hu s y (nested w (set_before l x) (set_before l m) (values_before l s) (values_before l t) u) (nested w' x m s t u)
        (nested_at u hu x m s t hs ht))
        (agree_at u hu s z (solution w u) (solution w' u) (given_at u hu s hs))))
        (sym same_total);
  }
