-- The masked model fits the graph.
use Rattle.std.proofs.Common.{ℕ, ◌+◌, ◌-◌, ◌*◌, ◌/◌, ◌%◌, ◌≡◌, ◌≢◌, ◌<◌, ◌≤◌, Bool, true, false, cond, eqb, ltb, refl, sym, ap, ap₂, ◌∙◌, ◌&&◌, subst}
use Rattle.std.proofs.Common.{IsTrue, arith, lt-ltb, le-ltb, ltb-true, eqb-true}
use Rattle.std.proofs.Math.Nat.{mod-lt, div-eq_of_lt}
use Rattle.mixed_graph.specs.Vocabulary.{MixedGraph}
use Rattle.finite_models.specs.Vocabulary.{sum_below, FiniteModel, Fits, IsAssignment, IsWorld}
use Rattle.conditional_id.specs.Masked.{swap, masked_value, code_at, masked}

pub swap_below : (e : Bool) (a b x k : ℕ) → a < k → b < k → x < k → masked_value e a b x < k
swap_below false a b x k al bl xl = xl
swap_below true a b x k al bl xl = go (eqb x a) (eqb x b)
  where
    go : (p q : Bool) → cond p b (cond q a x) < k
    go true q = bl
    go false true = al
    go false false = xl

-- exchanged twice, a value is as before
pub swap_back : (e : Bool) (a b x : ℕ) → masked_value e a b (masked_value e a b x) ≡ x
swap_back false a b x = refl
swap_back true a b x = go (eqb x a) refl (eqb x b) refl
  where
    own : (n : ℕ) → eqb n n ≡ true
    own n = grind arith

    go : (p : Bool) → eqb x a ≡ p → (q : Bool) → eqb x b ≡ q → swap a b (cond (eqb x a) b (cond (eqb x b) a x)) ≡ x
    go true e q f = rw e (at (eqb b a) refl)
      where
        at : (r : Bool) → eqb b a ≡ r → cond (eqb b a) b (cond (eqb b b) a b) ≡ x
        at true h = rw h (eqb-true b a h ∙ sym (eqb-true x a e))
        at false h = rw (h, own b) (sym (eqb-true x a e))
    go false e true f = rw (e, f, own a) (sym (eqb-true x b f))
    go false e false f = rw (e, f) (rw (e, f) refl)

divided_below : (i a d : ℕ) → 0 < d → i < a * d → i / d < a
divided_below i a d pos lt = grind arith

module _ (g : MixedGraph) (m q : FiniteModel) (w a b c : ℕ) (fit : Fits g m) (fit' : Fits g q) (a_low : a < m.size w) (b_low : b < m.size w) where
  abbrev M : FiniteModel
  M = masked m q w a b c

  count : q.vertices ≡ m.vertices
  count = fit'.vertices ∙ sym fit.vertices

  pub old_place : (j : ℕ) → ltb (m.causes + j) m.causes ≡ false
  old_place j = le-ltb (m.causes + j) m.causes (omega arith)

  pub offset : (j : ℕ) → (m.causes + j) - m.causes ≡ j
  offset j = omega arith

  later : (j : ℕ) → ltb j m.causes ≡ false → j < m.causes + q.causes → j - m.causes < q.causes
  later j e lt = let no = λ (l : j < m.causes). lt-ltb j m.causes l in let ge : m.causes ≤ j = grind (arith, no, e) in omega (arith, lt, ge)

  sizes_pos : (v : ℕ) → v < m.vertices → 0 < M.size v
  sizes_pos v lt = go (eqb v w)
    where
      times : (p r : ℕ) → 0 < p → 0 < r → 0 < p * r
      times p r h k = grind arith

      go : (e : Bool) → 0 < cond e (m.size v) (q.size v * m.size v)
      go true = fit.positive_size v lt
      go false = times (q.size v) (m.size v) (fit'.positive_size v (subst (λ n. v < n) (sym count) lt)) (fit.positive_size v lt)

  weights : (j : ℕ) → j < M.causes → 1 ≤ sum_below (M.values j) (M.weight j)
  weights j lt = go (ltb j m.causes) refl
    where
      go : (e : Bool) → ltb j m.causes ≡ e → 1 ≤ sum_below (cond e (m.values j) (q.values (j - m.causes))) (λ i. cond e (m.weight j i)
          (q.weight (j - m.causes) i))
      go true e = fit.positive_weight j (ltb-true j m.causes e)
      go false e = fit'.positive_weight (j - m.causes) (later j e lt)

  child : (j : ℕ) → j < M.causes → (v : ℕ) × IsTrue (M.serves j v)
  child j lt = go (ltb j m.causes) refl
    where
      go : (e : Bool) → ltb j m.causes ≡ e → (v : ℕ) × IsTrue (cond e (m.serves j v) (q.serves (j - m.causes) v))
      go true e = fit.some_child j (ltb-true j m.causes e)
      go false e = fit'.some_child (j - m.causes) (later j e lt)

  below_all : (j v : ℕ) → j < M.causes → IsTrue (M.serves j v) → v < m.vertices
  below_all j v lt = go (ltb j m.causes) refl
    where
      go : (e : Bool) → ltb j m.causes ≡ e → IsTrue (cond e (m.serves j v) (q.serves (j - m.causes) v)) → v < m.vertices
      go true e s = fit.child_below j v (ltb-true j m.causes e) s
      go false e s = subst (λ n. v < n) count (fit'.child_below (j - m.causes) v (later j e lt) s)

  joined_all : (j u v : ℕ) → j < M.causes → IsTrue (M.serves j u) → IsTrue (M.serves j v) → u ≢ v → IsTrue (g.both u v)
  joined_all j u v lt = go (ltb j m.causes) refl
    where
      go : (e : Bool) → ltb j m.causes ≡ e → IsTrue (cond e (m.serves j u) (q.serves (j - m.causes) u))
          → IsTrue (cond e (m.serves j v) (q.serves (j - m.causes) v)) → u ≢ v → IsTrue (g.both u v)
      go true e su sv ne = fit.joined j u v (ltb-true j m.causes e) su sv ne
      go false e su sv ne = fit'.joined (j - m.causes) u v (later j e lt) su sv ne

  served_old : (j v : ℕ) → j < m.causes → IsTrue (m.serves j v) → IsTrue (M.serves j v)
  served_old j v lt s = rw (lt-ltb j m.causes lt) s

  served_new : (j v : ℕ) → IsTrue (q.serves j v) → IsTrue (M.serves (m.causes + j) v)
  served_new j v s = rw (old_place j, offset j) s

  reads_all : (v : ℕ) → v < m.vertices → (s t u u' : ℕ → ℕ) → ((p : ℕ) → IsTrue (g.arrow p v) → s p ≡ t p)
      → ((j : ℕ) → j < M.causes → IsTrue (M.serves j v) → u j ≡ u' j)
      → M.mechanism v s u ≡ M.mechanism v t u'
  reads_all v lt s t u u' parents causes =
      ap₂ (λ x y. code_at m.size w v (masked_value ((eqb v w) && (eqb y c)) a b x) y)
      (fit.reads v lt (λ p. s p % m.size p) (λ p. t p % m.size p) u u' (λ p e. ap (λ k. k % m.size p) (parents p e))
      (λ j jl e. causes j (omega arith) (served_old j v jl e)))
      (fit'.reads v (subst (λ n. v < n) (sym count) lt) (λ p. s p / m.size p) (λ p. t p / m.size p) (λ j. u (m.causes + j)) (λ j. u' (m.causes + j))
      (λ p e. ap (λ k. k / m.size p) (parents p e))
      (λ j jl e. causes (m.causes + j) (omega arith) (served_new j v e)))

  pub old_within : (s : ℕ → ℕ) → IsAssignment m.vertices m.size (λ p. s p % m.size p)
  old_within s p lt = mod-lt (s p) (fit.positive_size p lt)

  pub new_within : (s : ℕ → ℕ) → IsAssignment m.vertices M.size s → IsAssignment q.vertices q.size (λ p. s p / m.size p)
  new_within s inside p lt = go (eqb p w) (inside p low)
    where
      low : p < m.vertices
      low = subst (λ n. p < n) count lt

      go : (e : Bool) → s p < cond e (m.size p) (q.size p * m.size p) → s p / m.size p < q.size p
      go true h = subst (λ k. k < q.size p) (sym (div-eq_of_lt h)) (fit'.positive_size p lt)
      go false h = divided_below (s p) (q.size p) (m.size p) (fit.positive_size p low) h

  pub old_world : (u : ℕ → ℕ) → IsWorld M u → IsWorld m u
  old_world u world j lt = let h = world j (omega arith) in rw (lt-ltb j m.causes lt) at h

  pub new_world : (u : ℕ → ℕ) → IsWorld M u → IsWorld q (λ j. u (m.causes + j))
  new_world u world j lt = let h = world (m.causes + j) (omega arith) in rw (old_place j, offset j) at h

  in_range : (v : ℕ) → v < m.vertices → (s u : ℕ → ℕ) → IsAssignment m.vertices M.size s → IsWorld M u → M.mechanism v s u < M.size v
  in_range v lt s u inside world = go (eqb v w) refl
    where
      old : ℕ
      old = m.mechanism v (λ p. s p % m.size p) u

      new : ℕ
      new = q.mechanism v (λ p. s p / m.size p) (λ j. u (m.causes + j))

      old_low : m.mechanism v (λ p. s p % m.size p) u < m.size v
      old_low = fit.below v lt (λ p. s p % m.size p) u (old_within s) (old_world u world)

      new_low : q.mechanism v (λ p. s p / m.size p) (λ j. u (m.causes + j)) < q.size v
      new_low = fit'.below v (subst (λ n. v < n) (sym count) lt) (λ p. s p / m.size p) (λ j. u (m.causes + j)) (new_within s inside) (new_world u world)

      pair_low : (x y k l : ℕ) → x < k → y < l → y * k + x < l * k
      pair_low x y k l h i = grind arith

      go : (e : Bool) → eqb v w ≡ e → cond e (masked_value (e && (eqb (q.mechanism v (λ p. s p / m.size p) (λ j. u (m.causes + j))) c)) a b
          (m.mechanism v (λ p. s p % m.size p) u))
          ((q.mechanism v (λ p. s p / m.size p) (λ j. u (m.causes + j))) * m.size v + masked_value
          (e && (eqb (q.mechanism v (λ p. s p / m.size p) (λ j. u (m.causes + j))) c)) a b (m.mechanism v (λ p. s p % m.size p) u))
          < cond e (m.size v) (q.size v * m.size v)
      go true e = let same = eqb-true v w e in swap_below (eqb (q.mechanism v (λ p. s p / m.size p) (λ j. u (m.causes + j))) c) a b
          (m.mechanism v (λ p. s p % m.size p) u) (m.size v)
          (subst (λ k. a < m.size k) (sym same) a_low) (subst (λ k. b < m.size k) (sym same) b_low) old_low
      go false e = pair_low (m.mechanism v (λ p. s p % m.size p) u) (q.mechanism v (λ p. s p / m.size p) (λ j. u (m.causes + j))) (m.size v)
          (q.size v) old_low new_low

  pub masked_fits : Fits g (masked m q w a b c)
  masked_fits = record {
    vertices = fit.vertices;
    positive_size = sizes_pos;
    positive_weight = weights;
    some_child = child;
    child_below = below_all;
    joined = joined_all;
    reads = reads_all;
    below = in_range;
  }
