use Rattle.std.proofs.Common.{◌≡◌, ℕ, zero, suc, ◌+◌, ◌<◌, Bool, false, ◌==◌, List, ◌∷◌, length, length-set, get_or, set, refl, sym, ap, ◌∙◌, IsTrue}
use Rattle.std.proofs.Common.{subst, arith}
use Rattle.std.proofs.lemmas.Bool.{eq-eqb}
use Rattle.std.proofs.lemmas.List.{get_or-set_same, get_or-set_other}
use Rattle.mixed_graph.specs.Vocabulary.{MixedGraph}
use Rattle.m_separation.specs.declared.marks.Mark.{Mark}
use Rattle.m_separation.specs.declared.marks.Mark.TheVariants.{Out}
use Rattle.m_separation.specs.Walks.{IsJoined, heads_first, heads_second, IsWalk, last, IsPassed, ArePassedFrom, IsOpenWalk}
use Rattle.m_separation.specs.Paths.{steps_from}
use Rattle.m_separation.proofs.Going.{passed_inside}

pub length-steps_from : (vertices : List ℕ) (marks : List Mark) (i k : ℕ) → length (steps_from vertices marks i k) ≡ k
length-steps_from vertices marks i zero = refl
length-steps_from vertices marks i (suc k) = ap suc (length-steps_from vertices marks (i + 1) k)

-- entries before place j don't matter from there on
steps_from-set : (vertices : List ℕ) (marks : List Mark) (i : ℕ) (u : ℕ) (m : Mark) (j k : ℕ) → i < j → steps_from (set vertices i u) (set marks i m) j k
    ≡ steps_from vertices marks j k
steps_from-set vertices marks i u m j zero lt = refl
steps_from-set vertices marks i u m j (suc k) lt =
    let rest = steps_from-set vertices marks i u m (j + 1) k (omega arith) in
    let a : get_or (set marks i m) j Out ≡ get_or marks j Out = get_or-set_other marks i j m Out (omega arith) in
    let b : get_or (set vertices i u) (j + 1) 0 ≡ get_or vertices (j + 1) 0 = get_or-set_other vertices i (j + 1) u 0 (omega arith) in cc

-- one more step at the front
steps_from-more : (vertices : List ℕ) (marks : List Mark) (i : ℕ) (u : ℕ) (m : Mark) (k : ℕ) → i < length marks →
    steps_from (set vertices i u) (set marks i m) i (suc k) ≡ record { mark = m; to = get_or vertices (i + 1) 0 } ∷ steps_from vertices marks (i + 1) k
steps_from-more vertices marks i u m k below =
    let rest = steps_from-set vertices marks i u m (i + 1) k (omega arith) in
    let a : get_or (set marks i m) i Out ≡ m = get_or-set_same marks i m Out below in
    let b : get_or (set vertices i u) (i + 1) 0 ≡ get_or vertices (i + 1) 0 = get_or-set_other vertices i (i + 1) u 0 (omega arith) in cc

-- k steps are traced back to the state (v, h) at place i
pub record Traced (g : MixedGraph) (w : ℕ → Bool) (end : ℕ) (vertices : List ℕ) (marks : List Mark) (i k v : ℕ) (h : Bool) : Type 0 where
  pub sized : length vertices ≡ 64
  pub marked : length marks ≡ 64
  pub at : get_or vertices i 0 ≡ v
  pub walk : IsWalk g v (steps_from vertices marks i k)
  pub passed : ArePassedFrom g w h v (steps_from vertices marks i k)
  pub ends : last v (steps_from vertices marks i k) ≡ end

pub traced_none : (g : MixedGraph) (w : ℕ → Bool) (vertices : List ℕ) (marks : List Mark) (i v : ℕ) (h : Bool) → length vertices ≡ 64 → length marks ≡ 64
    → i < 64 →
    Traced g w v (set vertices i v) marks i 0 v h
traced_none g w vertices marks i v h sized marked below = record {
  sized = simp length-set sized;
  marked = marked;
  at = get_or-set_same vertices i v 0 (omega (arith, sized));
  walk = tt;
  passed = tt;
  ends = refl;
}

pub traced_more : (g : MixedGraph) (w : ℕ → Bool) (end : ℕ) (vertices : List ℕ) (marks : List Mark) (i k v : ℕ) (h : Bool) (u : ℕ) (j : Bool) (m : Mark) →
    i < 64 → IsJoined g u m v → IsPassed g w u j (heads_first m) → heads_second m ≡ h →
    Traced g w end vertices marks (i + 1) k v h → Traced g w end (set vertices i u) (set marks i m) i (suc k) u j
traced_more g w end vertices marks i k v h u j m below joined passed arrives t =
    let more : steps_from (set vertices i u) (set marks i m) i (suc k) ≡ record { mark = m; to = v } ∷ steps_from vertices marks (i + 1) k =
    steps_from-more vertices marks i u m k (omega (arith, t.marked)) ∙ ap (λ z. record { mark = m; to = z } ∷ steps_from vertices marks (i + 1) k) t.at in
    record {
      sized = simp length-set t.sized;
      marked = simp length-set t.marked;
      at = get_or-set_same vertices i u 0 (omega (arith, t.sized));
      walk = subst (λ l. IsWalk g u l) (sym more) (joined, t.walk);
      passed = subst (λ l. ArePassedFrom g w j u l) (sym more) (
        passed,
        subst (λ b. ArePassedFrom g w b v (steps_from vertices marks (i + 1) k)) (sym arrives) t.passed,
      );
      ends = subst (λ l. last u l ≡ end) (sym more) t.ends;
    }

pub walk_from_trace : (g : MixedGraph) (x w : ℕ → Bool) (end : ℕ) (vertices : List ℕ) (marks : List Mark) (k v : ℕ) (h : Bool) →
    v < g.vertices → IsTrue (x v) → w v ≡ false → w end ≡ false → Traced g w end vertices marks 0 k v h →
    IsOpenWalk g x (λ z. z == end) w (get_or vertices 0 0) (steps_from vertices marks 0 k)
walk_from_trace g x w end vertices marks k v h below begins first_outside last_outside t =
    subst (λ z. IsOpenWalk g x (λ u. u == end) w z (steps_from vertices marks 0 k)) (sym t.at) (record {
      vertex = below;
      begins = begins;
      ends = eq-eqb _ end t.ends;
      first_outside = first_outside;
      last_outside = rw t.ends last_outside;
      walk = t.walk;
      passed = passed_inside g w h v (steps_from vertices marks 0 k) t.passed;
    })
