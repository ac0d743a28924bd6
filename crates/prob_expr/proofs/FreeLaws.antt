-- A value is one at assignments that agree on the free variables.
use Rattle.std.proofs.Common.{ℕ, zero, suc, ◌≡◌, ◌<◌, Bool, true, false, cond, eqb, not, refl, sym, ap, ap₂, ◌∙◌, ◌||◌, ◌&&◌, List, [], ◌∷◌, ◌++◌}
use Rattle.std.proofs.Common.{length, get_or, arith, eqb-true}
use Rattle.std.specs.Prelude.{All}
use Rattle.std.proofs.lemmas.List.Elements.{All-head, All-tail}
use mathlib.Core.Path.{fun_ext}
use Rattle.mixed_graph.specs.Vocabulary.{has, union, is_below}
use Rattle.fractions.specs.Vocabulary.{Fraction, over, add, mul, div, add_below}
use Rattle.finite_models.specs.Vocabulary.{set_at, all_below, FiniteModel, event_weight, intervene, weight_of, sum_worlds, solution, world_weight}
use Rattle.finite_models.proofs.Bools.{and_first, and_second}
use Rattle.prob_expr.specs.Tree.{Tree, prob, sum, product, quotient, named, Trees, no_trees, tree}
use Rattle.prob_expr.specs.Terms.{are_terms, are_terms_each}
use Rattle.prob_expr.specs.Free.{free_in, free_in_any, free_in_defs}
use Rattle.prob_expr.specs.Values.{weights_of, term_value, value, product_value, values_from, add_over}
use Rattle.prob_expr.specs.Laws.{IsWhole, AgreeOn, ValueReadsFree}
use Rattle.prob_expr.proofs.Checked.{accepted_is_whole}
use Rattle.mixed_graph.proofs.MaskLaws.{has_join, has_minus, below_has}

-- ---- weights
same_at : (p : Bool) (x y z : ℕ) → (p ≡ true → x ≡ y) → cond p x z ≡ cond p y z
same_at true x y z h = h refl
same_at false x y z h = refl

same_test : (p : Bool) (x y z : ℕ) → (p ≡ true → y ≡ z) → cond p (eqb x y) true ≡ cond p (eqb x z) true
same_test true x y z h = ap (eqb x) (h refl)
same_test false x y z h = refl

pub weight_reads : (m : FiniteModel) (b a : ℕ → Bool) (s t : ℕ → ℕ) → ((v : ℕ) → b v ≡ true → s v ≡ t v) → ((v : ℕ) → a v ≡ true → s v ≡ t v)
    → weight_of m b a s ≡ weight_of m b a t
weight_reads m b a s t set seen =
    ap (λ f. event_weight (record m { serves = λ j v. m.serves j v && not (b v); mechanism = f }) a s)
    (fun_ext (λ v. fun_ext (λ x. fun_ext (λ u. same_at (b v) (s v) (t v) (m.mechanism v x u) (set v)))))
    ∙ ap (λ (f : (ℕ → ℕ) → ℕ → Bool). sum_worlds (intervene m b t) (λ u. cond (all_below m.vertices (f (solution (intervene m b t) u)))
    (world_weight (intervene m b t) u) 0))
    (fun_ext (λ x. fun_ext (λ v. same_test (a v) (x v) (s v) (t v) (seen v))))

term_reads : (m : FiniteModel) (a b c : ℕ) (s t : ℕ → ℕ) → AgreeOn (union (union a b) c) s t → term_value (weights_of m) a b c s
    ≡ term_value (weights_of m) a b c t
term_reads m a b c s t h =
    ap₂ over
    (weight_reads m (has b) (λ v. has a v || has c v) s t set (λ v e. h v (member v ∙ either (has a v) (has b v) (has c v) e)))
    (weight_reads m (has b) (has c) s t set (λ v e. h v (member v ∙ last (has a v || has b v) (has c v) e)))
  where
    member : (v : ℕ) → has (union (union a b) c) v ≡ ((has a v || has b v) || has c v)
    member v = has_join (union a b) c v ∙ ap (λ p. p || has c v) (has_join a b v)

    middle : (p q r : Bool) → q ≡ true → ((p || q) || r) ≡ true
    middle true q r e = refl
    middle false true r e = refl
    middle false false r e = cc e

    last : (p r : Bool) → r ≡ true → (p || r) ≡ true
    last true r e = refl
    last false r e = e

    either : (p q r : Bool) → (p || r) ≡ true → ((p || q) || r) ≡ true
    either true q r e = refl
    either false true r e = refl
    either false false r e = e

    set : (v : ℕ) → has b v ≡ true → s v ≡ t v
    set v e = h v (member v ∙ middle (has a v) (has b v) (has c v) e)

-- ---- sums
pub add_below_same : (k : ℕ) (f g : ℕ → Fraction) → ((i : ℕ) → f i ≡ g i) → add_below k f ≡ add_below k g
add_below_same zero f g h = refl
add_below_same (suc k) f g h = ap₂ add (add_below_same k f g h) (h k)

-- where f reads the members of a set alone, its sum over u reads those alone that aren't summed
module _ (u : ℕ → Bool) (size : ℕ → ℕ) (free : ℕ → Bool) (f : (ℕ → ℕ) → Fraction)
    (reads : (c d : ℕ → ℕ) → ((v : ℕ) → free v ≡ true → c v ≡ d v) → f c ≡ f d) where
  pub sum_reads : (n : ℕ) (b c : ℕ → ℕ) → ((v : ℕ) → free v ≡ true → (v < n → u v ≡ true → ⊥) → b v ≡ c v) → add_over u size n f b ≡ add_over u size n f c
  sum_reads zero b c h = reads b c (λ v e. h v e (λ lt w. absurd (omega (arith, lt))))
  sum_reads (suc n) b c h = go (u n) refl (sum_reads n)
    where
      other : u n ≡ false → (v : ℕ) → (v < n → u v ≡ true → ⊥) → v < suc n → u v ≡ true → ⊥
      other is_out v inner lt w = at (eqb v n) refl
        where
          at : (p : Bool) → eqb v n ≡ p → ⊥
          at true e = let z : u v ≡ false = ap u (eqb-true v n e) ∙ is_out in cc (w, z)
          at false e = inner (let d : v ≡ n → ⊥ = λ same. absurd (grind (arith, same, e)) in omega arith) w

      kept : (x v : ℕ) → free v ≡ true → (v < n → u v ≡ true → ⊥) → set_at b n x v ≡ set_at c n x v
      kept x v e inner = at (eqb v n) refl
        where
          at : (p : Bool) → eqb v n ≡ p → cond (eqb v n) x (b v) ≡ cond (eqb v n) x (c v)
          at true k = rw k refl
          at false k = rw k (h v e (λ lt w. inner (let d : v ≡ n → ⊥ = λ same. absurd (grind (arith, same, k)) in omega arith) w))

      go : (p : Bool) → u n ≡ p → ((b c : ℕ → ℕ) → ((v : ℕ) → free v ≡ true → (v < n → u v ≡ true → ⊥) → b v ≡ c v) → add_over u size n f b
          ≡ add_over u size n f c)
          → cond p (add_below (size n) (λ x. add_over u size n f (set_at b n x))) (add_over u size n f b)
          ≡ cond p (add_below (size n) (λ x. add_over u size n f (set_at c n x))) (add_over u size n f c)
      go true e ih = add_below_same (size n) (λ x. add_over u size n f (set_at b n x)) (λ x. add_over u size n f (set_at c n x))
          (λ x. ih (set_at b n x) (set_at c n x) (kept x))
      go false e ih = ih b c (λ v k inner. h v k (other e v inner))

-- ---- trees
module _ (m : FiniteModel) where
  -- each definition's value reads the members of its set alone
  abbrev pub AreRead : (ℕ → (ℕ → ℕ) → Fraction) → List ℕ → Type 0
  AreRead q sets = (k : ℕ) (s t : ℕ → ℕ) → AgreeOn (get_or sets k 0) s t → q k s ≡ q k t

  first : (a b : ℕ) (s t : ℕ → ℕ) → AgreeOn (union a b) s t → AgreeOn a s t
  first a b s t h v e = h v (has_join a b v ∙ rw e refl)

  second : (a b : ℕ) (s t : ℕ → ℕ) → AgreeOn (union a b) s t → AgreeOn b s t
  second a b s t h v e = h v (has_join a b v ∙ rw e (or_true (has a v)))
    where
      or_true : (p : Bool) → (p || true) ≡ true
      or_true true = refl
      or_true false = refl

  module _ (q : ℕ → (ℕ → ℕ) → Fraction) (sets : List ℕ) (definitions : AreRead q sets) where
    mutual
      pub value_reads : (e : Tree) → are_terms m.vertices e ≡ true → (s t : ℕ → ℕ) → AgreeOn (free_in sets e) s t → value (weights_of m) q e s
          ≡ value (weights_of m) q e t
      value_reads (prob a b c) w s t h = term_reads m a b c s t h
      value_reads (sum u e) w s t h =
          sum_reads (has u) m.size (has (free_in sets e)) (value (weights_of m) q e)
          (λ c d k. value_reads e (and_second (is_below m.vertices u) (are_terms m.vertices e) w) c d k) m.vertices s t
          (λ v k free. h v (has_minus (free_in sets e) u v ∙ out v k free (has u v) refl))
        where
          out : (v : ℕ) → has (free_in sets e) v ≡ true → (v < m.vertices → has u v ≡ true → ⊥) → (p : Bool) → has u v ≡ p
              → (has (free_in sets e) v && not (has u v)) ≡ true
          out v k free true z = absurd (free (below_has m.vertices u v (and_first (is_below m.vertices u) (are_terms m.vertices e) w) z) z)
          out v k free false z = rw (k, z) refl
      value_reads (product ts) w s t h = product_reads ts w s t h
      value_reads (quotient x y) w s t h =
          ap₂ div (value_reads x (and_first (are_terms m.vertices x) (are_terms m.vertices y) w) s t (first (free_in sets x) (free_in sets y) s t h))
          (value_reads y (and_second (are_terms m.vertices x) (are_terms m.vertices y) w) s t (second (free_in sets x) (free_in sets y) s t h))
      value_reads (named k) w s t h = definitions k s t h

      product_reads : (ts : Trees) → are_terms_each m.vertices ts ≡ true → (s t : ℕ → ℕ) → AgreeOn (free_in_any sets ts) s t
          → product_value (weights_of m) q ts s ≡ product_value (weights_of m) q ts t
      product_reads no_trees w s t h = refl
      product_reads (tree e ts) w s t h =
          ap₂ mul (value_reads e (and_first (are_terms m.vertices e) (are_terms_each m.vertices ts) w) s t (first (free_in sets e) (free_in_any sets ts) s t h))
          (product_reads ts (and_second (are_terms m.vertices e) (are_terms_each m.vertices ts) w) s t (second (free_in sets e) (free_in_any sets ts) s t h))

  get_last : (sets : List ℕ) (x : ℕ) → get_or (sets ++ x ∷ []) (length sets) 0 ≡ x
  get_last [] x = refl
  get_last (y ∷ sets) x = get_last sets x

  get_other : (sets : List ℕ) (x j : ℕ) → (j ≡ length sets → ⊥) → get_or (sets ++ x ∷ []) j 0 ≡ get_or sets j 0
  get_other [] x zero ne = absurd (ne refl)
  get_other [] x (suc j) ne = refl
  get_other (y ∷ sets) x zero ne = refl
  get_other (y ∷ sets) x (suc j) ne = get_other sets x j (λ e. ne (ap suc e))

  next_read : (q : ℕ → (ℕ → ℕ) → Fraction) (sets : List ℕ) (d : Tree) → are_terms m.vertices d ≡ true → AreRead q sets
      → AreRead (λ j s. cond (eqb j (length sets)) (value (weights_of m) q d s) (q j s)) (sets ++ free_in sets d ∷ [])
  next_read q sets d w h j s t k = go (eqb j (length sets)) refl
    where
      go : (p : Bool) → eqb j (length sets) ≡ p → cond p (value (weights_of m) q d s) (q j s) ≡ cond p (value (weights_of m) q d t) (q j t)
      go true e = value_reads q sets h d w s t (λ v z. k v (ap (λ x. has x v)
          (ap (λ i. get_or (sets ++ free_in sets d ∷ []) i 0) (eqb-true j (length sets) e) ∙ get_last sets (free_in sets d)) ∙ z))
      go false e = h j s t (λ v z. k v (ap (λ x. has x v) (get_other sets (free_in sets d) j (λ same. absurd (grind (arith, same, e)))) ∙ z))

  length_more : (sets : List ℕ) (x : ℕ) → length (sets ++ x ∷ []) ≡ suc (length sets)
  length_more [] x = refl
  length_more (y ∷ sets) x = ap suc (length_more sets x)

  definitions_read : (ds : List Tree) (k : ℕ) (q : ℕ → (ℕ → ℕ) → Fraction) (sets : List ℕ) → k ≡ length sets → All (IsWhole m.vertices) ds → AreRead q sets
      → AreRead (values_from (weights_of m) q k ds) (free_in_defs sets ds)
  definitions_read [] k q sets e w h = h
  definitions_read (d ∷ ds) k q sets e w h =
      definitions_read ds (suc k) (λ j s. cond (eqb j k) (value (weights_of m) q d s) (q j s)) (sets ++ free_in sets d ∷ [])
      (ap suc e ∙ sym (length_more sets (free_in sets d))) (All-tail (IsWhole m.vertices) d ds w)
      (rw e (next_read q sets d (All-head (IsWhole m.vertices) d ds w).terms h))

pub value_reads_free : ValueReadsFree
value_reads_free = λ m f fine s t h.
    let whole = accepted_is_whole m.vertices f fine in
    value_reads m (values_from (weights_of m) (λ j s. over 1 1) 0 f.defs) (free_in_defs [] f.defs)
    (definitions_read m f.defs 0 (λ j s. over 1 1) [] refl whole.defs (λ k s t h. refl)) f.main whole.main.terms s t h
