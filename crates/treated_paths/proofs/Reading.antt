-- Without noise a vertex shows the bit of each visit from which arrows lead to it, none of them out of x.
use Rattle.std.proofs.Common.{ℕ, zero, suc, ◌-◌, ◌≡◌, ◌<◌, Bool, true, false, cond, eqb, not, ◌&&◌, refl, sym, ap, ◌∙◌, arith, ne_eqb}
use Rattle.std.proofs.lemmas.Bool.{and_from, false_from_ne_true}
use Rattle.mixed_graph.specs.Vocabulary.{has, MixedGraph}
use Rattle.finite_models.specs.Vocabulary.{mask_of}
use Rattle.finite_models.proofs.Bools.{and_first, and_second, not_both, same_truth}
use Rattle.finite_models.proofs.Factors.{any_below_from, any_below_gives}
use Rattle.finite_models.proofs.Solutions.{IsRanked}
use Rattle.finite_models.proofs.SumLaws.{eqb-refl}
use Rattle.treated_paths.proofs.Bits.{mask_has}
use Rattle.treated_paths.proofs.Models.{coin, own, carried, calm_bit, new_bit}

-- arrows lead from a to v, none of them out of x
pub data Carries (g : MixedGraph) (x : ℕ → Bool) (a : ℕ) : ℕ → Type 0 where
  here : Carries g x a a
  further : {q v : ℕ} → Carries g x a q → g.arrow q v ≡ true → x q ≡ false → Carries g x a v

-- r has the values of the mechanisms outside b, which lies in x
module _ (g : MixedGraph) (x : ℕ → Bool) (k : ℕ) (w : ℕ → ℕ) (first : Bool) (rank : ℕ → ℕ) (ranked : IsRanked g rank) (b : ℕ → Bool)
    (inside : (v : ℕ) → b v ≡ true → x v ≡ true) (r u : ℕ → ℕ) (calm : (v : ℕ) → v < g.vertices → u v ≡ 0)
    (solves : (v : ℕ) → v < g.vertices → b v ≡ false → r v ≡ mask_of (new_bit g x k w first r u v) (suc (suc k))) (i : ℕ) (low : i < suc k) where
  outside : (q : ℕ) → x q ≡ false → b q ≡ false
  outside q o = false_from_ne_true (b q) (λ e. not_both (x q) (inside q e) o)

  bit_is : (v : ℕ) → v < g.vertices → b v ≡ false → has (r v) i ≡ cond (eqb v (w i)) (own g x k w first r u i) (carried g x k w r v i)
  bit_is v lt o =
      ap (λ a. has a i) (solves v lt o)
      ∙ mask_has (new_bit g x k w first r u v) (suc (suc k)) i (omega (arith, low))
      ∙ visit (eqb v (w (suc k))) (eqb i (suc k)) (ne_eqb i (suc k) (omega (arith, low)))
      ∙ ap (λ a. cond (eqb a 0) (calm_bit g x k w first r u v i) (has (a - 1) i)) (calm v lt)
      ∙ rw (ne_eqb i (suc k) (omega (arith, low))) refl
    where
      visit : (c d : Bool) → d ≡ false → cond (c && d) (coin g x k w u k) (cond (eqb (u v) 0) (calm_bit g x k w first r u v i) (has (u v - 1) i))
          ≡ cond (eqb (u v) 0) (calm_bit g x k w first r u v i) (has (u v - 1) i)
      visit true d e = rw e refl
      visit false d e = refl

  abbrev shows : ℕ → ℕ → Bool
  shows v q = (g.arrow q v && not (x q)) && has (r q) i

  -- a bit is carried on
  carried_on : (v : ℕ) → Carries g x (w i) v → v < g.vertices → b v ≡ false → own g x k w first r u i ≡ true → has (r v) i ≡ true
  carried_on v here lt o e = bit_is (w i) lt o ∙ rw (eqb-refl (w i)) e
  carried_on v (further {q} c arrow off) lt o e =
      let ql = ranked.tail_below q v arrow in
      bit_is v lt o ∙ go (eqb v (w i))
      (any_below_from g.vertices (shows v) q ql
      (and_from (g.arrow q v && not (x q)) (has (r q) i) (and_from (g.arrow q v) (not (x q)) arrow (ap not off))
      (carried_on q c ql (outside q off) e)))
    where
      go : (c : Bool) → carried g x k w r v i ≡ true → cond c (own g x k w first r u i) (carried g x k w r v i) ≡ true
      go true h = e
      go false h = h

  -- and comes from its visit alone
  carried_from : (n v : ℕ) → v < g.vertices → rank v < n → b v ≡ false → has (r v) i ≡ true → own g x k w first r u i ≡ true
  carried_from zero v lt under o e = absurd (omega (arith, under))
  carried_from (suc n) v lt under o e = go (λ q. carried_from n q) (eqb v (w i)) (sym (bit_is v lt o) ∙ e)
    where
      no : (c : Bool) → not c ≡ true → c ≡ false
      no c h = grind (arith, h)

      go : ((q : ℕ) → q < g.vertices → rank q < n → b q ≡ false → has (r q) i ≡ true → own g x k w first r u i ≡ true) → (c : Bool)
          → cond c (own g x k w first r u i) (carried g x k w r v i) ≡ true → own g x k w first r u i ≡ true
      go ih true h = h
      go ih false h =
          let from = any_below_gives g.vertices (shows v) h in
          let parent = and_first (g.arrow from.0 v && not (x from.0)) (has (r from.0) i) from.2 in
          let arrow = and_first (g.arrow from.0 v) (not (x from.0)) parent in
          let off = no (x from.0) (and_second (g.arrow from.0 v) (not (x from.0)) parent) in
          let up = ranked.rises from.0 v arrow in
          ih from.0 from.1 (omega (arith, under, up)) (outside from.0 off)
          (and_second (g.arrow from.0 v && not (x from.0)) (has (r from.0) i) from.2)

  -- so it is the bit of the visit
  pub shown : (v : ℕ) → Carries g x (w i) v → v < g.vertices → b v ≡ false → has (r v) i ≡ own g x k w first r u i
  shown v c lt o = same_truth (has (r v) i) (own g x k w first r u i) (carried_from (suc (rank v)) v lt (omega arith) o) (carried_on v c lt o)
