-- What the masked model shows in a world.
use Rattle.std.proofs.Common.{ℕ, ◌+◌, ◌-◌, ◌*◌, ◌/◌, ◌%◌, ◌≡◌, ◌<◌, Bool, true, false, cond, eqb, ltb, not, refl, sym, ap, ap₂, ◌∙◌, ◌&&◌, subst}
use Rattle.std.proofs.Common.{arith, lt-ltb, eqb-true, ne_eqb}
use Rattle.std.proofs.Math.Nat.{mod-eq_of_lt}
use Rattle.std.proofs.lemmas.Nat.{div-mul-add, mod-mul-add}
use Rattle.std.proofs.lemmas.Bool.{and_from}
use mathlib.Core.Path.{fun_ext}
use Rattle.mixed_graph.specs.Vocabulary.{MixedGraph, IsMixedGraph}
use Rattle.finite_models.specs.Vocabulary.{set_at, FiniteModel, Fits, IsAssignment, IsWorld, IsSolution, solution, agree, intervene, world_weight}
use Rattle.finite_models.proofs.Agreeing.{agree-congr}
use Rattle.finite_models.proofs.Bools.{same_truth, and_first, and_second, not_both}
use Rattle.finite_models.proofs.Following.{follows_of, follows_intervene}
use Rattle.finite_models.proofs.Solutions.{IsRanked, solution_is, unique, solution_within, agree_gives, agree_from}
use Rattle.finite_models.proofs.SumLaws.{product_below-congr, set_at-same, eqb-refl, product-split}
use Rattle.conditional_id.specs.Masked.{masked_value, code_at, code, masked, AreAlike, IsUnread}
use Rattle.conditional_id.proofs.MaskedFits.{masked_fits, swap_below, swap_back, old_world}

pub set_at-own : (b : ℕ → ℕ) (n : ℕ) → set_at b n (b n) ≡ b
set_at-own b n = fun_ext (λ i. go i (eqb i n) refl)
  where
    go : (i : ℕ) (q : Bool) → eqb i n ≡ q → cond (eqb i n) (b n) (b i) ≡ b i
    go i true e = rw e (ap b (sym (eqb-true i n e)))
    go i false e = rw e refl

-- all of A but w
abbrev pub without : (ℕ → Bool) → ℕ → ℕ → Bool
without A w v = A v && not (eqb v w)

without_gives : (A : ℕ → Bool) (w v : ℕ) → without A w v ≡ true → (A v ≡ true) × (eqb v w ≡ false)
without_gives A w v e = (and_first (A v) (not (eqb v w)) e, turn (eqb v w) (and_second (A v) (not (eqb v w)) e))
  where
    turn : (p : Bool) → not p ≡ true → p ≡ false
    turn true h = absurd (grind (arith, h))
    turn false h = refl

module _ (g : MixedGraph) (ok : IsMixedGraph g) (m q : FiniteModel) (w a b c : ℕ) (fit : Fits g m) (fit' : Fits g q) (a_low : a < m.size w)
    (b_low : b < m.size w) (alike : AreAlike m w a b) (unread : IsUnread q w)
    (x : ℕ → Bool) (free : x w ≡ false) (s t : ℕ → ℕ) (s_in : IsAssignment m.vertices m.size s) (t_in : IsAssignment q.vertices q.size t)
    (code_in : IsAssignment m.vertices (masked m q w a b c).size (code m.size w s t))
    (rank : ℕ → ℕ) (ranked : IsRanked g rank) (u : ℕ → ℕ) (world : IsWorld (masked m q w a b c) u) where
  abbrev M : FiniteModel
  M = masked m q w a b c

  abbrev S : ℕ → ℕ
  S = code m.size w s t

  abbrev pub old : ℕ → ℕ
  old = solution (intervene m x s) u

  abbrev pub new : ℕ → ℕ
  new = solution (intervene q x t) (λ j. u (m.causes + j))

  count : q.vertices ≡ m.vertices
  count = fit'.vertices ∙ sym fit.vertices

  to_q : (v : ℕ) → v < m.vertices → v < q.vertices
  to_q v lt = subst (λ n. v < n) (sym count) lt

  to_m : (v : ℕ) → v < q.vertices → v < m.vertices
  to_m v lt = subst (λ n. v < n) count lt

  old_solves : (v : ℕ) → v < m.vertices → old v ≡ cond (x v) (s v) (m.mechanism v old u)
  old_solves v lt = solution_is g (intervene m x s) rank ranked (follows_intervene g m x s s_in (follows_of g m fit)) u v lt

  new_solves : (v : ℕ) → v < q.vertices → new v ≡ cond (x v) (t v) (q.mechanism v new (λ j. u (m.causes + j)))
  new_solves v lt = solution_is g (intervene q x t) rank ranked (follows_intervene g q x t t_in (follows_of g q fit')) (λ j. u (m.causes + j)) v lt

  old_in : (v : ℕ) → v < m.vertices → old v < m.size v
  old_in v lt = solution_within g (intervene m x s) (follows_intervene g m x s s_in (follows_of g m fit)) u
      (old_world g m q w a b c fit fit' a_low b_low u world) v lt

  -- what is shown
  abbrev shown : ℕ → ℕ
  shown v = code_at m.size w v (masked_value (eqb v w && eqb (new v) c) a b (old v)) (new v)

  abbrev hit : Bool
  hit = eqb (new w) c

  shown_at : shown w ≡ masked_value hit a b (old w)
  shown_at = rw (eqb-refl w) refl

  shown_other : (v : ℕ) → eqb v w ≡ false → shown v ≡ new v * m.size v + old v
  shown_other v e = rw e refl

  decode_old : (p : ℕ) → p < m.vertices → shown p % m.size p ≡ set_at old w (masked_value hit a b (old w)) p
  decode_old p lt = go (eqb p w) refl
    where
      go : (e : Bool) → eqb p w ≡ e → shown p % m.size p ≡ cond (eqb p w) (masked_value hit a b (old w)) (old p)
      go true e = let same : p ≡ w = eqb-true p w e in
          subst (λ k. shown k % m.size k ≡ set_at old w (masked_value hit a b (old w)) k) (sym same)
          (ap (λ k. k % m.size w) shown_at ∙ mod-eq_of_lt (swap_below hit a b (old w) (m.size w) a_low b_low (subst (λ k. old k < m.size k) same (old_in p lt)))
          ∙ sym (set_at-same old w (masked_value hit a b (old w))))
      go false e = rw e (mod-mul-add (new p) (m.size p) (old p) (old_in p lt))

  decode_new : (p : ℕ) → p < m.vertices → shown p / m.size p ≡ set_at new w (shown w / m.size w) p
  decode_new p lt = go (eqb p w) refl
    where
      go : (e : Bool) → eqb p w ≡ e → shown p / m.size p ≡ cond (eqb p w) (shown w / m.size w) (new p)
      go true e = let same : p ≡ w = eqb-true p w e in
          subst (λ k. shown k / m.size k ≡ set_at new w (shown w / m.size w) k) (sym same) (sym (set_at-same new w (shown w / m.size w)))
      go false e = rw e (div-mul-add (new p) (m.size p) (old p) (old_in p lt))

  -- a mask changes nothing for other mechanisms
  unseen : (e : Bool) (v : ℕ) → v < m.vertices → m.mechanism v (set_at old w (masked_value e a b (old w))) u ≡ m.mechanism v old u
  unseen false v lt = ap (λ r. m.mechanism v r u) (set_at-own old w)
  unseen true v lt = go (eqb (old w) a) refl (eqb (old w) b) refl
    where
      own : (k : ℕ) → old w ≡ k → m.mechanism v (set_at old w k) u ≡ m.mechanism v old u
      own k e = ap (λ r. m.mechanism v (set_at old w r) u) (sym e) ∙ ap (λ r. m.mechanism v r u) (set_at-own old w)

      go : (p : Bool) → eqb (old w) a ≡ p → (r : Bool) → eqb (old w) b ≡ r
          → m.mechanism v (set_at old w (cond (eqb (old w) a) b (cond (eqb (old w) b) a (old w)))) u ≡ m.mechanism v old u
      go true e r f = rw e (sym (alike v old u lt) ∙ own a (eqb-true (old w) a e))
      go false e true f = rw (e, f) (alike v old u lt ∙ own b (eqb-true (old w) b f))
      go false e false f = rw (e, f) (own (old w) refl)

  old_read : (v : ℕ) → v < m.vertices → m.mechanism v (λ p. shown p % m.size p) u ≡ m.mechanism v old u
  old_read v lt = fit.reads v lt (λ p. shown p % m.size p) (set_at old w (masked_value hit a b (old w))) u u
      (λ p e. decode_old p (rw fit.vertices (ok.tail_below p v e))) (λ j jl e. refl) ∙ unseen hit v lt

  new_read : (v : ℕ) → v < m.vertices → q.mechanism v (λ p. shown p / m.size p) (λ j. u (m.causes + j)) ≡ q.mechanism v new (λ j. u (m.causes + j))
  new_read v lt = fit'.reads v (to_q v lt) (λ p. shown p / m.size p) (set_at new w (shown w / m.size w)) (λ j. u (m.causes + j)) (λ j. u (m.causes + j))
      (λ p e. decode_new p (rw fit.vertices (ok.tail_below p v e))) (λ j jl e. refl) ∙ unread v new (λ j. u (m.causes + j)) (shown w / m.size w) (to_q v lt)

  solves : IsSolution (intervene M x S) u shown
  solves v lt = go (x v) refl
    where
      go : (e : Bool) → x v ≡ e → shown v ≡ cond (x v) (S v) (M.mechanism v shown u)
      go true e = let ne : eqb v w ≡ false = ne_eqb v w (λ k. not_both (x v) e (ap x k ∙ free)) in
          let p : old v ≡ s v = old_solves v lt ∙ (rw e refl) in let r : new v ≡ t v = new_solves v (to_q v lt) ∙ (rw e refl) in
          rw (e, ne) (ap₂ (λ y z. y * m.size v + z) r p)
      go false e =
          let p : old v ≡ m.mechanism v old u = old_solves v lt ∙ (rw e refl) in
          let r : new v ≡ q.mechanism v new (λ j. u (m.causes + j)) = new_solves v (to_q v lt) ∙ (rw e refl) in
          rw e (ap₂ (λ y z. code_at m.size w v (masked_value (eqb v w && eqb z c) a b y) z) (p ∙ sym (old_read v lt)) (r ∙ sym (new_read v lt)))

  is_shown : (v : ℕ) → v < m.vertices → solution (intervene M x S) u v ≡ shown v
  is_shown v lt =
      let k = follows_intervene g M x S code_in (follows_of g M (masked_fits g m q w a b c fit fit' a_low b_low)) in
      unique g (intervene M x S) rank ranked k u (solution (intervene M x S) u) shown (solution_is g (intervene M x S) rank ranked k u) solves v lt

  -- the point of m that is asked for
  abbrev pub asked : Bool → ℕ → ℕ
  asked e = set_at s w (masked_value e a b (s w))

  parts : (A : ℕ → Bool) → agree m.vertices A shown S ≡ (agree m.vertices A old (asked hit) && agree q.vertices (without A w) new t)
  parts A = same_truth (agree m.vertices A shown S) (agree m.vertices A old (asked hit) && agree q.vertices (without A w) new t)
      (λ e. and_from (agree m.vertices A old (asked hit)) (agree q.vertices (without A w) new t)
      (agree_from m.vertices A old (asked hit) (λ v lt i. first v lt (agree_gives m.vertices A shown S e v lt i) (eqb v w) refl))
      (agree_from q.vertices (without A w) new t (λ v lt i. let o = without_gives A w v i in second v (to_m v lt)
      (agree_gives m.vertices A shown S e v (to_m v lt) o.0) o.1)))
      (λ e. agree_from m.vertices A shown S (λ v lt i. back v lt
      (agree_gives m.vertices A old (asked hit) (and_first (agree m.vertices A old (asked hit)) (agree q.vertices (without A w) new t) e) v lt i)
      (λ ne. agree_gives q.vertices (without A w) new t (and_second (agree m.vertices A old (asked hit)) (agree q.vertices (without A w) new t) e) v (to_q v lt)
      (and_from (A v) (not (eqb v w)) i (rw ne refl)))
      (eqb v w) refl))
    where
      first : (v : ℕ) → v < m.vertices → shown v ≡ S v → (e : Bool) → eqb v w ≡ e → old v ≡ cond (eqb v w) (masked_value hit a b (s w)) (s v)
      first v lt h true e = let same : v ≡ w = eqb-true v w e in
          let k : masked_value hit a b (old w) ≡ s w = both (subst (λ i. shown i ≡ S i) same h) in
          rw (e, same) (sym (swap_back hit a b (old w)) ∙ ap (masked_value hit a b) k)
        where
          both : shown w ≡ S w → masked_value hit a b (old w) ≡ s w
          both h = sym shown_at ∙ h ∙ (rw (eqb-refl w) refl)
      first v lt h false e =
          rw e (sym (mod-mul-add (new v) (m.size v) (old v) (old_in v lt)) ∙ ap (λ k. k % m.size v) (sym (shown_other v e) ∙ h ∙ (rw e refl))
          ∙ mod-mul-add (t v) (m.size v) (s v) (s_in v lt))

      second : (v : ℕ) → v < m.vertices → shown v ≡ S v → eqb v w ≡ false → new v ≡ t v
      second v lt h e = sym (div-mul-add (new v) (m.size v) (old v) (old_in v lt)) ∙ ap (λ k. k / m.size v) (sym (shown_other v e) ∙ h ∙ (rw e refl))
          ∙ div-mul-add (t v) (m.size v) (s v) (s_in v lt)

      back : (v : ℕ) → v < m.vertices → old v ≡ asked hit v → (eqb v w ≡ false → new v ≡ t v) → (e : Bool) → eqb v w ≡ e → shown v ≡ S v
      back v lt h k true e = let same : v ≡ w = eqb-true v w e in
          let r : old w ≡ masked_value hit a b (s w) = subst (λ i. old i ≡ asked hit i) same h ∙ set_at-same s w (masked_value hit a b (s w)) in
          subst (λ i. shown i ≡ S i) (sym same) (shown_at ∙ ap (masked_value hit a b) r ∙ swap_back hit a b (s w) ∙ (rw (eqb-refl w) refl))
      back v lt h k false e = let r : old v ≡ s v = h ∙ (rw e refl) in rw e (ap₂ (λ y z. y * m.size v + z) (k e) r)

  -- what a world counts for
  pub counts : (A : ℕ → Bool) → agree m.vertices A (solution (intervene M x S) u) S ≡ (agree m.vertices A old (asked hit) && agree q.vertices
      (without A w) new t)
  counts A = agree-congr m.vertices A (solution (intervene M x S) u) shown S is_shown ∙ parts A

-- a world's weight is that of both parts
pub weights_split : (m q : FiniteModel) (w a b c : ℕ) (u : ℕ → ℕ)
    → world_weight (masked m q w a b c) u ≡ world_weight m u * world_weight q (λ j. u (m.causes + j))
weights_split m q w a b c u =
    product-split m.causes q.causes (λ j. (masked m q w a b c).weight j (u j)) (m.causes + q.causes) refl
    ∙ ap₂ (λ y z. y * z)
    (product_below-congr m.causes (λ j. (masked m q w a b c).weight j (u j)) (λ j. m.weight j (u j)) (λ j lt. rw (lt-ltb j m.causes lt) refl))
    (product_below-congr q.causes (λ j. (masked m q w a b c).weight (m.causes + j) (u (m.causes + j))) (λ j. q.weight j (u (m.causes + j)))
    (λ j lt. rw (place j, offset_of j) refl))
  where
    place : (j : ℕ) → ltb (m.causes + j) m.causes ≡ false
    place j = grind arith

    offset_of : (j : ℕ) → (m.causes + j) - m.causes ≡ j
    offset_of j = omega arith
