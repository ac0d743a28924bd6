-- The weights of the masked model.
use Rattle.std.proofs.Common.{ℕ, zero, suc, ◌+◌, ◌-◌, ◌*◌, ◌/◌, ◌%◌, ◌≡◌, ◌<◌, ◌≤◌, Bool, true, false, cond, eqb, not, refl, sym, ap, ap₂, ◌∙◌, ◌&&◌}
use Rattle.std.proofs.Common.{subst, arith, lt-ltb, le-ltb, eqb-true, eq-eqb}
use Rattle.std.proofs.Math.Nat.{mod-lt, mod-eq_of_lt, mod-add-div'}
use Rattle.std.proofs.lemmas.Bool.{and_from}
use mathlib.Core.Path.{fun_ext}
use Rattle.mixed_graph.specs.Vocabulary.{MixedGraph, IsMixedGraph}
use Rattle.finite_models.specs.Vocabulary.{set_at, sum_over, FiniteModel, Fits, IsAssignment, IsWorld, IsPositiveModel, solution, rounds, agree, intervene, world_weight, event_weight, weight_of, total}
use Rattle.finite_models.proofs.Agreeing.{agree-congr}
use Rattle.finite_models.proofs.Bools.{same_truth, and_first, and_second, not_both}
use Rattle.finite_models.proofs.Following.{follows_of, intervene_alike}
use Rattle.finite_models.proofs.Positive.{positive_weight}
use Rattle.finite_models.proofs.Ranks.{with_rank}
use Rattle.finite_models.proofs.Solutions.{IsRanked, agree_gives, agree_from}
use Rattle.finite_models.proofs.SumLaws.{product_below-congr, over-congr_within, over-congr, eqb-refl, over-add}
use Rattle.finite_models.proofs.Weights.{weight_of-none}
use Rattle.conditional_id.specs.Masked.{swap, masked_value, code, masked, AreAlike, IsUnread}
use Rattle.conditional_id.proofs.MaskedFits.{new_within, swap_below}
use Rattle.conditional_id.proofs.MaskedWorlds.{set_at-own, without, counts, weights_split}
use Rattle.prob_expr.proofs.Boxes.{assignment_set}
use Rattle.conditional_id.proofs.Pairs.{over-pair, IsLocal}

-- the weight of t on A but w, where w has the value c; and where it has another
abbrev pub hits : FiniteModel → (x A : ℕ → Bool) (w c : ℕ) → (ℕ → ℕ) → ℕ
hits q x A w c t = sum_over (λ j. true) q.values q.causes
    (λ u. cond (agree q.vertices (without A w) (solution (intervene q x t) u) t && eqb (solution (intervene q x t) u w) c) (world_weight q u) 0) (λ j. 0)

abbrev pub misses : FiniteModel → (x A : ℕ → Bool) (w c : ℕ) → (ℕ → ℕ) → ℕ
misses q x A w c t = sum_over (λ j. true) q.values q.causes
    (λ u. cond (agree q.vertices (without A w) (solution (intervene q x t) u) t && not (eqb (solution (intervene q x t) u w) c)) (world_weight q u) 0) (λ j. 0)

-- together they are all
pub both_are : (q : FiniteModel) (x A : ℕ → Bool) (w c : ℕ) (t : ℕ → ℕ) → hits q x A w c t + misses q x A w c t ≡ weight_of q x (without A w) t
both_are q x A w c t =
    sym (over-add (λ j. true) q.values q.causes (λ u. cond
    (agree q.vertices (without A w) (solution (intervene q x t) u) t && eqb (solution (intervene q x t) u w) c) (world_weight q u) 0)
    (λ u. cond (agree q.vertices (without A w) (solution (intervene q x t) u) t && not (eqb (solution (intervene q x t) u w) c)) (world_weight q u) 0) (λ j. 0))
    ∙ over-congr (λ j. true) q.values q.causes (λ u. cond
    (agree q.vertices (without A w) (solution (intervene q x t) u) t && eqb (solution (intervene q x t) u w) c) (world_weight q u) 0
    + cond (agree q.vertices (without A w) (solution (intervene q x t) u) t && not (eqb (solution (intervene q x t) u w) c)) (world_weight q u) 0)
    (λ u. cond (agree q.vertices (without A w) (solution (intervene q x t) u) t) (world_weight q u) 0) (λ j. 0)
    (λ u. go (agree q.vertices (without A w) (solution (intervene q x t) u) t) (eqb (solution (intervene q x t) u w) c) (world_weight q u))
  where
    go : (r e : Bool) (k : ℕ) → cond (r && e) k 0 + cond (r && not e) k 0 ≡ cond r k 0
    go true true k = omega arith
    go true false k = omega arith
    go false e k = refl

-- where w is asked for with the value c, those that hit are the event
pub hits_are : (q : FiniteModel) (x A : ℕ → Bool) (w c : ℕ) (t : ℕ → ℕ) → w < q.vertices → A w ≡ true → t w ≡ c → hits q x A w c t ≡ weight_of q x A t
hits_are q x A w c t low asked same =
    over-congr (λ j. true) q.values q.causes (λ u. cond
    (agree q.vertices (without A w) (solution (intervene q x t) u) t && eqb (solution (intervene q x t) u w) c) (world_weight q u) 0)
    (λ u. cond (agree q.vertices A (solution (intervene q x t) u) t) (world_weight q u) 0) (λ j. 0)
    (λ u. ap (λ r. cond r (world_weight q u) 0) (at (solution (intervene q x t) u)))
  where
    at : (r : ℕ → ℕ) → (agree q.vertices (without A w) r t && eqb (r w) c) ≡ agree q.vertices A r t
    at r = same_truth (agree q.vertices (without A w) r t && eqb (r w) c) (agree q.vertices A r t)
        (λ e. agree_from q.vertices A r t (λ v lt i. join v lt i (and_first (agree q.vertices (without A w) r t) (eqb (r w) c) e)
        (eqb-true (r w) c (and_second (agree q.vertices (without A w) r t) (eqb (r w) c) e)) (eqb v w) refl))
        (λ e. and_from (agree q.vertices (without A w) r t) (eqb (r w) c)
        (agree_from q.vertices (without A w) r t (λ v lt i. agree_gives q.vertices A r t e v lt (and_first (A v) (not (eqb v w)) i)))
        (eq-eqb (r w) c (agree_gives q.vertices A r t e w low asked ∙ same)))
      where
        join : (v : ℕ) → v < q.vertices → A v ≡ true → agree q.vertices (without A w) r t ≡ true → r w ≡ c → (p : Bool) → eqb v w ≡ p → r v ≡ t v
        join v lt i e k true f = let s : v ≡ w = eqb-true v w f in ap r s ∙ k ∙ sym same ∙ ap t (sym s)
        join v lt i e k false f = agree_gives q.vertices (without A w) r t e v lt (and_from (A v) (not (eqb v w)) i (rw f refl))

module _ (g : MixedGraph) (ok : IsMixedGraph g) (m : FiniteModel) (fit : Fits g m) (x : ℕ → Bool) (s : ℕ → ℕ) where
  rounds_local : (k : ℕ) (u u' : ℕ → ℕ) → ((i : ℕ) → i < m.causes → u i ≡ u' i) → (v : ℕ) → v < m.vertices
      → rounds (intervene m x s) k u v ≡ rounds (intervene m x s) k u' v
  rounds_local zero u u' h v lt = refl
  rounds_local (suc k) u u' h v lt = ap (λ r. cond (x v) (s v) r)
      (fit.reads v lt (rounds (intervene m x s) k u) (rounds (intervene m x s) k u') u u'
      (λ p e. rounds_local k u u' h p (rw fit.vertices (ok.tail_below p v e))) (λ j jl e. h j jl))

  pub weight_local : IsLocal m.causes (world_weight m)
  weight_local u u' h = product_below-congr m.causes (λ j. m.weight j (u j)) (λ j. m.weight j (u' j)) (λ j lt. ap (m.weight j) (h j lt))

  pub counted_local : (A : ℕ → Bool) (r : ℕ → ℕ) → IsLocal m.causes (λ u. cond (agree m.vertices A (solution (intervene m x s) u) r) (world_weight m u) 0)
  counted_local A r u u' h =
      ap₂ (λ p k. cond p k 0) (agree-congr m.vertices A (solution (intervene m x s) u) (solution (intervene m x s) u') r
      (λ v lt. rounds_local m.vertices u u' h v lt)) (weight_local u u' h)

module _ (g : MixedGraph) (ok : IsMixedGraph g) (m q : FiniteModel) (w a b c : ℕ) (fit : Fits g m) (fit' : Fits g q) (a_low : a < m.size w)
    (b_low : b < m.size w) (alike : AreAlike m w a b) (unread : IsUnread q w) where
  abbrev M : FiniteModel
  M = masked m q w a b c

  old_values : (i : ℕ) → i < m.causes → M.values i ≡ m.values i
  old_values i lt = rw (lt-ltb i m.causes lt) refl

  new_values : (i : ℕ) → i < q.causes → M.values (m.causes + i) ≡ q.values i
  new_values i lt = rw (le-ltb (m.causes + i) m.causes (omega arith), (let e : (m.causes + i) - m.causes ≡ i = omega arith in e)) refl

  pub code_within : (s t : ℕ → ℕ) → IsAssignment m.vertices m.size s → IsAssignment q.vertices q.size t → IsAssignment m.vertices M.size (code m.size w s t)
  code_within s t s_in t_in v lt = go (eqb v w) refl
    where
      pair_low : (y z k l : ℕ) → y < k → z < l → z * k + y < l * k
      pair_low y z k l h i = grind arith

      go : (e : Bool) → eqb v w ≡ e → cond e (s v) (t v * m.size v + s v) < cond e (m.size v) (q.size v * m.size v)
      go true e = s_in v lt
      go false e = pair_low (s v) (t v) (m.size v) (q.size v) (s_in v lt) (t_in v (rw fit'.vertices (rw (sym fit.vertices) lt)))

  module _ (x : ℕ → Bool) (free : x w ≡ false) (s t : ℕ → ℕ) (s_in : IsAssignment m.vertices m.size s) (t_in : IsAssignment q.vertices q.size t)
      (A : ℕ → Bool) where
    abbrev first : (ℕ → ℕ) → (ℕ → ℕ) → ℕ
    first r u = cond (agree m.vertices A (solution (intervene m x s) u) r) (world_weight m u) 0

    abbrev hit : (ℕ → ℕ) → ℕ
    hit u = cond (agree q.vertices (without A w) (solution (intervene q x t) u) t && eqb (solution (intervene q x t) u w) c) (world_weight q u) 0

    abbrev miss : (ℕ → ℕ) → ℕ
    miss u = cond (agree q.vertices (without A w) (solution (intervene q x t) u) t && not (eqb (solution (intervene q x t) u w) c)) (world_weight q u) 0

    abbrev turned : ℕ → ℕ
    turned = set_at s w (swap a b (s w))

    each_world : (rank : ℕ → ℕ) → IsRanked g rank → (u : ℕ → ℕ) → IsWorld M u
        → cond (agree m.vertices A (solution (intervene M x (code m.size w s t)) u) (code m.size w s t)) (world_weight M u) 0
        ≡ first turned u * hit (λ i. u (m.causes + i)) + first s u * miss (λ i. u (m.causes + i))
    each_world rank ranked u world =
        ap₂ (λ p k. cond p k 0) (counts g ok m q w a b c fit fit' a_low b_low alike unread x free s t s_in t_in
        (code_within s t s_in t_in) rank ranked u world A) (weights_split m q w a b c u)
        ∙ go (eqb (solution (intervene q x t) (λ j. u (m.causes + j)) w) c)
        (agree q.vertices (without A w) (solution (intervene q x t) (λ j. u (m.causes + j))) t) (world_weight m u) (world_weight q (λ j. u (m.causes + j)))
      where
        go : (e r : Bool) (k l : ℕ) → cond (agree m.vertices A (solution (intervene m x s) u) (set_at s w (masked_value e a b (s w))) && r) (k * l) 0
            ≡ cond (agree m.vertices A (solution (intervene m x s) u) turned) k 0 * cond (r && e) l 0 + cond
            (agree m.vertices A (solution (intervene m x s) u) s) k 0 * cond (r && not e) l 0
        go true r k l = at (agree m.vertices A (solution (intervene m x s) u) turned) r (cond (agree m.vertices A (solution (intervene m x s) u) s) k 0)
          where
            at : (p r : Bool) (j : ℕ) → cond (p && r) (k * l) 0 ≡ cond p k 0 * cond (r && true) l 0 + j * cond (r && false) l 0
            at true true j = omega arith
            at true false j = omega arith
            at false true j = omega arith
            at false false j = omega arith
        go false r k l = ap (λ z. cond (agree m.vertices A (solution (intervene m x s) u) z && r) (k * l) 0) (set_at-own s w)
            ∙ at (agree m.vertices A (solution (intervene m x s) u) s) r (cond (agree m.vertices A (solution (intervene m x s) u) turned) k 0)
          where
            at : (p r : Bool) (j : ℕ) → cond (p && r) (k * l) 0 ≡ j * cond (r && false) l 0 + cond p k 0 * cond (r && true) l 0
            at true true j = omega arith
            at true false j = omega arith
            at false true j = omega arith
            at false false j = omega arith

    event_at : (y : ℕ) → event_weight (intervene m x s) A (set_at s w y) ≡ weight_of m x A (set_at s w y)
    event_at y = ap (λ k. event_weight k A (set_at s w y)) (intervene_alike m x s (set_at s w y) (λ v e. go v e (eqb v w) refl))
      where
        go : (v : ℕ) → x v ≡ true → (p : Bool) → eqb v w ≡ p → s v ≡ cond (eqb v w) y (s v)
        go v e true h = absurd (not_both (x v) e (ap x (eqb-true v w h) ∙ free))
        go v e false h = rw h refl

    -- the weight of an event in the masked model
    pub masked_weight : weight_of M x A (code m.size w s t) ≡ weight_of m x A (set_at s w
        (swap a b (s w))) * hits q x A w c t + weight_of m x A s * misses q x A w c t
    masked_weight =
        with_rank g ok (weight_of M x A (code m.size w s t))
        (sum_over (λ j. true) M.values M.causes (λ u. first turned u * hit (λ i. u (m.causes + i)) + first s u * miss (λ i. u (m.causes + i))) (λ j. 0))
        (λ rank ranked. over-congr_within (λ j. true) M.values M.causes
        (λ u. cond (agree m.vertices A (solution (intervene M x (code m.size w s t)) u) (code m.size w s t)) (world_weight M u) 0)
        (λ u. first turned u * hit (λ i. u (m.causes + i)) + first s u * miss (λ i. u (m.causes + i))) (λ j. 0)
        (λ u inside same. each_world rank ranked u (λ j jl. inside j jl refl)))
        ∙ over-add (λ j. true) M.values M.causes (λ u. first turned u * hit (λ i. u (m.causes + i))) (λ u. first s u * miss (λ i. u (m.causes + i))) (λ j. 0)
        ∙ ap₂ (λ y z. y + z)
        (over-pair M.values m.values q.values m.causes q.causes M.causes refl old_values new_values (first turned) hit (counted_local g ok m fit x s A turned)
        (λ j. 0) (λ j. 0) (λ i. refl)
        ∙ ap (λ k. k * hits q x A w c t) (event_at (swap a b (s w))))
        (over-pair M.values m.values q.values m.causes q.causes M.causes refl old_values new_values (first s) miss (counted_local g ok m fit x s A s) (λ j. 0)
        (λ j. 0) (λ i. refl))

  pub masked_total : total M ≡ total m * total q
  masked_total =
      over-congr (λ j. true) M.values M.causes (world_weight M) (λ u. world_weight m u * world_weight q (λ j. u (m.causes + j))) (λ j. 0)
      (λ u. weights_split m q w a b c u)
      ∙ over-pair M.values m.values q.values m.causes q.causes M.causes refl old_values new_values (world_weight m) (world_weight q)
      (weight_local g ok m fit (λ v. false) (λ v. 0)) (λ j. 0) (λ j. 0) (λ i. refl)

  module _ (w_low : w < m.vertices) (c_low : c < q.size w) where
    -- the two points of a point of the masked model
    abbrev pub first_of : (ℕ → ℕ) → ℕ → ℕ
    first_of S v = S v % m.size v

    abbrev pub second_of : (ℕ → ℕ) → ℕ → ℕ
    second_of S v = cond (eqb v w) c (S v / m.size v)

    pub first_in : (S : ℕ → ℕ) → IsAssignment m.vertices m.size (first_of S)
    first_in S v lt = mod-lt (S v) (fit.positive_size v lt)

    pub second_in : (S : ℕ → ℕ) → IsAssignment m.vertices M.size S → IsAssignment q.vertices q.size (second_of S)
    second_in S inside v lt = go (eqb v w) refl
      where
        go : (e : Bool) → eqb v w ≡ e → cond e c (S v / m.size v) < q.size v
        go true e = subst (λ k. c < q.size k) (sym (eqb-true v w e)) c_low
        go false e = new_within g m q w a b c fit fit' a_low b_low S inside v lt

    pub second_at : (S : ℕ → ℕ) → second_of S w ≡ c
    second_at S = rw (eqb-refl w) refl

    pub is_code : (S : ℕ → ℕ) → IsAssignment m.vertices M.size S → code m.size w (first_of S) (second_of S) ≡ S
    is_code S inside = fun_ext (λ v. go v (eqb v w) refl)
      where
        go : (v : ℕ) (e : Bool) → eqb v w ≡ e → cond (eqb v w) (S v % m.size v) (cond (eqb v w) c (S v / m.size v) * m.size v + S v % m.size v) ≡ S v
        go v true e = let same : v ≡ w = eqb-true v w e in
            rw e (subst (λ k. S k % m.size k ≡ S k) (sym same) (mod-eq_of_lt (let h = inside w w_low in at (eqb w w) (eqb-refl w) h)))
          where
            at : (p : Bool) → p ≡ true → S w < cond p (m.size w) (q.size w * m.size w) → S w < m.size w
            at true e h = h
            at false e h = absurd (grind (arith, e))
        go v false e = rw e (let k = mod-add-div' (S v) (m.size v) in omega (arith, k))

    pub masked_positive : IsPositiveModel m → IsPositiveModel q → IsPositiveModel M
    masked_positive pos pos' S inside =
        subst (λ n. 1 ≤ n) (sym (masked_weight (λ v. false) refl (first_of S) (second_of S) (first_in S) (second_in S inside) (λ v. true))
        ∙ ap (λ r. weight_of M (λ v. false) (λ v. true) r) (is_code S inside)
        ∙ weight_of-none M (λ v. false) (λ v. true) S (λ v. refl))
        (one (weight_of m (λ v. false) (λ v. true) (set_at (first_of S) w (swap a b (first_of S w)))) (hits q (λ v. false) (λ v. true) w c (second_of S))
        (weight_of m (λ v. false) (λ v. true) (first_of S) * misses q (λ v. false) (λ v. true) w c (second_of S))
        (positive_weight g m ok (follows_of g m fit) pos (λ v. false) (λ v. true) (set_at (first_of S) w (swap a b (first_of S w)))
        (assignment_set m.vertices m.size (first_of S) w (swap a b (first_of S w))
        (swap_below true a b (first_of S w) (m.size w) a_low b_low (first_in S w w_low)) (first_in S)))
        (subst (λ n. 1 ≤ n) (sym (hits_are q (λ v. false) (λ v. true) w c (second_of S) (rw fit'.vertices (rw (sym fit.vertices) w_low)) refl (second_at S)))
        (positive_weight g q ok (follows_of g q fit') pos' (λ v. false) (λ v. true) (second_of S) (second_in S inside))))
      where
        one : (p r k : ℕ) → 1 ≤ p → 1 ≤ r → 1 ≤ p * r + k
        one p r k h i = let t : 1 ≤ p * r = grind arith in omega (arith, t)
