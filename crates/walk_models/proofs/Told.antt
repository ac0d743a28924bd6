-- What is seen at one end of a walk tells of the other.
use Rattle.std.proofs.Common.{ℕ, suc, ◌+◌, ◌*◌, ◌≡◌, ◌<◌, ◌≤◌, Bool, true, false, cond, not, ◌&&◌, ◌||◌, refl, sym, ap, ◌∙◌, arith}
use Rattle.std.proofs.lemmas.Bool.{or_left, or_right, false_from_ne_true}
use Rattle.mixed_graph.specs.Vocabulary.{has, MixedGraph, IsMixedGraph}
use Rattle.mixed_graph.proofs.Masks.{has-zero}
use Rattle.finite_models.specs.Vocabulary.{FiniteModel, IsWorld, solution, intervene, agree, weight_of, world_weight}
use Rattle.finite_models.proofs.Bools.{not_both, same_truth}
use Rattle.finite_models.proofs.SumLaws.{over-congr_within, over-base, over-term, over-add}
use Rattle.finite_models.proofs.Positive.{over-mono}
use Rattle.finite_models.proofs.Solutions.{agree_gives, agree_from}
use Rattle.walk_models.specs.Visits.{Walk}
use Rattle.walk_models.specs.WalkModels.{bit_of, walk_model}
use Rattle.walk_models.specs.Laws.{SeenEndsTell, IsWalkTo, IsBelowIn, event}
use Rattle.walk_models.proofs.Lifted.{times, below_is_positive}
use Rattle.walk_models.proofs.Solved.{sizes, weighs, heads, heads_world, heads_beyond}
use Rattle.walk_models.proofs.WalkFits.{walk_fits, walk_two}
use Rattle.walk_models.proofs.Worlds.{within, solved, only_one, silent, one_end, all_zero, tossed, tossed_bit, tossed_solves, tossed_blank}

-- with more vertices fewer worlds agree
pub agree_less : (n : ℕ) (a c : ℕ → Bool) (x s : ℕ → ℕ) → ((v : ℕ) → a v ≡ true → c v ≡ true) → agree n c x s ≡ true → agree n a x s ≡ true
agree_less n a c x s sub e = agree_from n a x s (λ v lt i. agree_gives n c x s e v lt (sub v i))

differing : (w : ℕ) (p q : Bool) → (p ≡ true → q ≡ true) → cond p w 0 + cond (q && not p) w 0 ≤ cond q w 0
differing w true q h = rw (h refl) (omega arith)
differing w false true h = omega arith
differing w false false h = omega arith

-- a sum grows by the weight of a world that comes in
module _ (m : FiniteModel) (b a c : ℕ → Bool) (s : ℕ → ℕ) (sub : (v : ℕ) → c v ≡ true → a v ≡ true) (u : ℕ → ℕ) (world : IsWorld m u)
    (beyond : (j : ℕ) → m.causes ≤ j → u j ≡ 0)
    (inside : agree m.vertices c (solution (intervene m b s) u) s ≡ true) (outside : agree m.vertices a (solution (intervene m b s) u) s ≡ false) (weighs : 1
    ≤ world_weight m u) where
  abbrev counts : (ℕ → Bool) → (ℕ → ℕ) → Bool
  counts d u = agree m.vertices d (solution (intervene m b s) u) s

  pub grows : weight_of m b a s < weight_of m b c s
  grows = omega (
    arith,
    over-add (λ j. true) m.values m.causes (λ u. cond (counts a u) (world_weight m u) 0) (λ u. cond (counts c u && not (counts a u)) (world_weight m u) 0)
        (λ j. 0),
    over-mono (λ j. true) m.values m.causes (λ u. cond (counts a u) (world_weight m u) 0 + cond (counts c u && not (counts a u)) (world_weight m u) 0)
        (λ u. cond (counts c u) (world_weight m u) 0) (λ j. 0)
        (λ u. differing (world_weight m u) (counts a u) (counts c u) (λ e. agree_less m.vertices c a (solution (intervene m b s) u) s sub e)),
    over-base (λ j. true) m.values m.causes (λ u. cond (counts c u && not (counts a u)) (world_weight m u) 0) u (λ j. 0)
        (λ j out. beyond j (let n = λ (l : j < m.causes). out l refl in grind (arith, n))),
    over-term (λ j. true) m.values m.causes (λ u. cond (counts c u && not (counts a u)) (world_weight m u) 0) u (λ j lt e. world j lt),
    (let h : 1 ≤ cond (counts c u && not (counts a u)) (world_weight m u) 0 = rw (inside, outside) weighs in h),
  )

-- and is at least 1 where the world of zeros counts
pub one_at_least : (m : FiniteModel) (b a : ℕ → Bool) (s : ℕ → ℕ) → ((j : ℕ) → j < m.causes → 0 < m.values j)
    → agree m.vertices a (solution (intervene m b s) (λ j. 0)) s ≡ true → 1 ≤ world_weight m (λ j. 0) → 1 ≤ weight_of m b a s
one_at_least m b a s sizes e weighs = omega (
  arith,
  over-term (λ j. true) m.values m.causes (λ u. cond (agree m.vertices a (solution (intervene m b s) u) s) (world_weight m u) 0) (λ j. 0)
      (λ j lt e. sizes j lt),
  (let h : 1 ≤ cond (agree m.vertices a (solution (intervene m b s) (λ j. 0)) s) (world_weight m (λ j. 0)) 0 = rw e weighs in h),
)

pub below_from : (a A B d : ℕ) → a < d → A ≡ B → 1 ≤ B → a * A < B * d
below_from a A B d lt e one = rw e (omega (arith, times (suc a) d B B lt (omega arith), one))

module _ (g : MixedGraph) (ok : IsMixedGraph g) (p : Walk) (b w y z : ℕ → Bool) (h : IsWalkTo g p b w y z) where
  abbrev m : FiniteModel
  m = walk_model g.vertices p 0 1

  pub one : 1 ≤ 1
  one = omega arith

  abbrev pub at : (ℕ → ℕ) → ℕ → ℕ
  at u = solved g ok p h.walk h.plain 0 1 one b u

  zeros : (v : ℕ) → v < g.vertices → at (λ j. 0) v ≡ 0
  zeros = silent g ok p h.walk h.plain 0 1 one b (λ j. 0) (λ j le. refl)

  all_from : (u : ℕ → ℕ) → IsWorld m u → agree g.vertices w (at u) (λ v. 0) ≡ true → bit_of p (at u) 0 ≡ false → (a : ℕ → Bool)
      → agree g.vertices a (at u) (λ v. 0) ≡ true
  all_from u world e z a = agree_from g.vertices a (at u) (λ v. 0) (λ v lt i. all_zero g ok p h.walk h.plain 0 1 one b w h.strict h.outside u world e z v lt)

  -- where z and w are 0, so is y
  pub sure : weight_of m b (λ v. z v || w v) (λ v. 0) ≡ weight_of m b (λ v. y v || (z v || w v)) (λ v. 0)
  sure = over-congr_within (λ j. true) m.values m.causes
      (λ u. cond (agree g.vertices (λ v. z v || w v) (at u) (λ v. 0)) (world_weight m u) 0)
      (λ u. cond (agree g.vertices (λ v. y v || (z v || w v)) (at u) (λ v. 0)) (world_weight m u) 0) (λ j. 0)
      (λ u world out. ap (λ c. cond c (world_weight m u) 0)
      (same_truth (agree g.vertices (λ v. z v || w v) (at u) (λ v. 0)) (agree g.vertices (λ v. y v || (z v || w v)) (at u) (λ v. 0))
      (λ e. all_from u (λ j lt. world j lt refl) (agree_less g.vertices w (λ v. z v || w v) (at u) (λ v. 0) (λ v i. or_right (z v) (w v) i) e)
      (sym (one_end g ok p h.walk h.plain 0 1 one b w h.strict h.outside u
      (agree_less g.vertices w (λ v. z v || w v) (at u) (λ v. 0) (λ v i. or_right (z v) (w v) i) e))
      ∙ ap (λ x. has x p.steps) (agree_gives g.vertices (λ v. z v || w v) (at u) (λ v. 0) e (p.at p.steps) (h.walk.vertex p.steps (omega arith))
      (or_left (z (p.at p.steps)) (w (p.at p.steps)) h.ends))
      ∙ has-zero p.steps) (λ v. y v || (z v || w v)))
      (λ e. agree_less g.vertices (λ v. z v || w v) (λ v. y v || (z v || w v)) (at u) (λ v. 0) (λ v i. or_right (y v) (z v || w v) i) e)))

  -- the world in which each coin is 1 has w but not y
  at_heads : (v : ℕ) → v < g.vertices → at (heads p) v ≡ tossed p v
  at_heads = only_one g ok p h.walk h.plain 0 1 one b (heads p) (tossed p)
      (tossed_solves g ok p h.walk h.plain 0 1 one b h.outside)

  abbrev coins : ℕ → ℕ
  coins = heads p

  first_one : bit_of p (at coins) 0 ≡ true
  first_one = ap (λ x. has x 0) (at_heads (p.at 0) (h.walk.vertex 0 (omega arith))) ∙ tossed_bit p 0 (omega arith)

  pub unsure : weight_of m b (λ v. y v || w v) (λ v. 0) < weight_of m b w (λ v. 0)
  unsure = grows m b (λ v. y v || w v) w (λ v. 0) (λ v i. or_right (y v) (w v) i) coins (heads_world g.vertices p 0 1) (heads_beyond p)
      (agree_from g.vertices w (at coins) (λ v. 0) (λ v lt i. at_heads v lt ∙ tossed_blank p w h.strict v i))
      (false_from_ne_true (agree g.vertices (λ v. y v || w v) (at coins) (λ v. 0))
      (λ e. not_both (bit_of p (at coins) 0) first_one (ap (λ x. has x 0)
      (agree_gives g.vertices (λ v. y v || w v) (at coins) (λ v. 0) e (p.at 0) (h.walk.vertex 0 (omega arith)) (or_left (y (p.at 0)) (w (p.at 0)) h.begins))
      ∙ has-zero 0)))
      (weighs g.vertices p 0 1 one coins)

  seen : IsBelowIn m (λ v. 0) (event b (λ v. y v || w v)) (event b (λ v. z v || w v)) (event b (λ v. y v || (z v || w v))) (event b w)
  seen = record {
    within = within g ok p h.walk h.plain 0 1 one b;
    below = below_from (weight_of m b (λ v. y v || w v) (λ v. 0)) (weight_of m b (λ v. z v || w v) (λ v. 0)) (weight_of m b (λ v. y v || (z v || w v)) (λ v. 0))
        (weight_of m b w (λ v. 0)) unsure sure
        (one_at_least m b (λ v. y v || (z v || w v)) (λ v. 0) (λ j lt. sizes g.vertices p 0 1 j)
        (agree_from g.vertices (λ v. y v || (z v || w v)) (at (λ j. 0)) (λ v. 0) (λ v lt i. zeros v lt)) (weighs g.vertices p 0 1 one (λ j. 0)));
  }

pub seen_ends_tell : SeenEndsTell
seen_ends_tell = λ g ok p b w y z h.
    below_is_positive g ok (walk_model g.vertices p 0 1) (walk_fits g ok p h.walk 0 1 (omega arith)) (walk_two g.vertices p 0 1) (λ v. 0)
    (event b (λ v. y v || w v)) (event b (λ v. z v || w v)) (event b (λ v. y v || (z v || w v))) (event b w)
    (seen g ok p b w y z h)
