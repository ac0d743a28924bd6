-- What the values of a world rest on.
use Rattle.std.proofs.Common.{ℕ, zero, suc, ◌≡◌, ◌<◌, Bool, true, false, cond, refl, sym, ap, ◌∙◌, arith, ◌||◌, ◌&&◌}
use Rattle.mixed_graph.specs.Vocabulary.{MixedGraph, IsMixedGraph}
use Rattle.finite_models.specs.Vocabulary.{FiniteModel, rounds, solution, agree, intervene}
use Rattle.finite_models.proofs.Bools.{and_first, and_second, same_truth}
use Rattle.finite_models.proofs.Following.{Follows}
use Rattle.finite_models.proofs.Solutions.{agree_from, agree_gives}
use Rattle.hidden_models.proofs.FoldingLaw.{position, member, set_in, values_in}
use Rattle.hidden_models.proofs.Positions.{position_lt, member_position, member_is}
use Rattle.nested_models.specs.Nested.{nested}

-- what is set has the value to which it is set, from the first round on
pub set_value : (w : FiniteModel) (b : ℕ → Bool) (s u : ℕ → ℕ) (v : ℕ) → b v ≡ true → (k : ℕ) → 0 < k → rounds (intervene w b s) k u v ≡ s v
set_value w b s u v e zero lt = absurd (omega arith)
set_value w b s u v e (suc k) lt = rw e refl

-- ---- the members of a set in their new numbers
-- a set of them is that of the unions
pub set_union : (o x m : ℕ → Bool) (v : ℕ) → (set_in o x v || set_in o m v) ≡ set_in o (λ k. x k || m k) v
set_union o x m v = go (o v) (x (position o v)) (m (position o v))
  where
    go : (a b c : Bool) → ((a && b) || (a && c)) ≡ (a && (b || c))
    go true b c = refl
    go false b c = refl

-- agreement at members
pub agree_kept : (o : ℕ → Bool) (n : ℕ) (s : ℕ → ℕ) (a : ℕ → Bool) (f h : ℕ → ℕ) → ((i : ℕ) → i < position o n → f (member o n i) ≡ h i)
    → agree n (set_in o a) f (values_in o s) ≡ agree (position o n) a h s
agree_kept o n s a f h same = same_truth (agree n (set_in o a) f (values_in o s)) (agree (position o n) a h s)
    (λ e. agree_from (position o n) a h s (λ i il k. sym (same i il) ∙ there e i il k))
    (λ e. agree_from n (set_in o a) f (values_in o s) (λ v vl k. back e v vl (and_first (o v) (a (position o v)) k) (and_second (o v) (a (position o v)) k)))
  where
    there : agree n (set_in o a) f (values_in o s) ≡ true → (i : ℕ) → i < position o n → a i ≡ true → f (member o n i) ≡ s i
    there e i il k = let d = member_is o n i il in
        agree_gives n (set_in o a) f (values_in o s) e (member o n i) d.below (rw (d.inside, d.place) k) ∙ rw (d.inside, d.place) refl

    back : agree (position o n) a h s ≡ true → (v : ℕ) → v < n → o v ≡ true → a (position o v) ≡ true → f v ≡ values_in o s v
    back e v vl ov k = ap f (sym (member_position o n v vl ov)) ∙ same (position o v) (position_lt o v n vl ov)
        ∙ agree_gives (position o n) a h s e (position o v) (position_lt o v n vl ov) k
        ∙ rw ov refl

-- two worlds that agree on the causes that serve some vertex
module _ (g : MixedGraph) (w : FiniteModel) (ok : IsMixedGraph g) (follows : Follows g w) (u c : ℕ → ℕ)
    (same : (j v : ℕ) → j < w.causes → w.serves j v ≡ true → u j ≡ c j) where
  -- have under interventions on the same vertices the same values, where these are set to the same values
  pub same_rounds : (b : ℕ → Bool) (s t : ℕ → ℕ) → ((v : ℕ) → v < w.vertices → b v ≡ true → s v ≡ t v) → (k v : ℕ) → v < w.vertices
      → rounds (intervene w b s) k u v ≡ rounds (intervene w b t) k c v
  same_rounds b s t at zero v vl = refl
  same_rounds b s t at (suc k) v vl = go (b v) refl (follows.reads v vl (rounds (intervene w b s) k u) (rounds (intervene w b t) k c) u c
      (λ q e. same_rounds b s t at k q (rw follows.vertices (ok.tail_below q v e))) (λ j jl e. same j v jl e))
    where
      go : (d : Bool) → b v ≡ d → w.mechanism v (rounds (intervene w b s) k u) u ≡ w.mechanism v (rounds (intervene w b t) k c) c
          → cond (b v) (s v) (w.mechanism v (rounds (intervene w b s) k u) u) ≡ cond (b v) (t v) (w.mechanism v (rounds (intervene w b t) k c) c)
      go true e h = rw e (at v vl e)
      go false e h = rw e h

  -- and so they have nested ones, where x has the same two values
  pub same_nested : (x m : ℕ → Bool) (s s' t t' : ℕ → ℕ) → ((v : ℕ) → v < w.vertices → s v ≡ s' v) → ((v : ℕ) → v < w.vertices → x v ≡ true → t v ≡ t' v)
      → (v : ℕ) → v < w.vertices → nested w x m s t u v ≡ nested w x m s' t' c v
  same_nested x m s s' t t' at_s at_t v vl =
      same_rounds (λ v. x v || m v) (λ v. cond (m v) (solution (intervene w x t) u v) (s v)) (λ v. cond (m v) (solution (intervene w x t') c v) (s' v))
      (λ k kl e. go k kl (m k)) w.vertices v vl
    where
      go : (k : ℕ) → k < w.vertices → (d : Bool) → cond d (solution (intervene w x t) u k) (s k) ≡ cond d (solution (intervene w x t') c k) (s' k)
      go k kl true = same_rounds x t t' at_t w.vertices k kl
      go k kl false = at_s k kl
