-- The formula has the value of the nested effect.
use Rattle.std.proofs.Common.{ℕ, zero, suc, ◌*◌, ◌^◌, ◌≡◌, ◌<◌, ◌≤◌, Bool, true, false, cond, not, refl, sym, ap, ap₂, ◌∙◌, ◌||◌, ◌&&◌, subst, arith, mul-pos}
use Rattle.std.proofs.Common.{List, [], ◌∷◌, length}
use native.Mathlib.Nat.{pow-zero, pow-suc}
use mathlib.Core.Path.{fun_ext}
use Rattle.mixed_graph.specs.Vocabulary.{has, MixedGraph, IsMixedGraph, union, minus, all}
use Rattle.mixed_graph.proofs.Masks.{has-zero}
use Rattle.mixed_graph.proofs.MaskLaws.{has_join, has_minus}
use Rattle.fractions.specs.Vocabulary.{over, div, IsEqual}
use Rattle.fractions.proofs.FractionLaws.{equal_refl, equal_trans, equal_scaled, mul_equal, div_equal}
use Rattle.finite_models.specs.Vocabulary.{sum_over, FiniteModel, Fits, IsAssignment, IsPositiveModel, solution, agree, event_weight, intervene, weight_of, world_weight, total}
use Rattle.finite_models.proofs.Bools.{same_truth}
use Rattle.finite_models.proofs.Following.{follows_of, follows_intervene}
use Rattle.finite_models.proofs.Positive.{positive_weight}
use Rattle.finite_models.proofs.Ranks.{with_rank}
use Rattle.finite_models.proofs.Solutions.{solution_is, unique, agree_from, agree_gives}
use Rattle.finite_models.proofs.SumLaws.{over-congr}
use Rattle.finite_models.proofs.Weights.{weight-none, weight_of-none}
use Rattle.prob_expr.specs.Vocabulary.{PlainFormula, effect_on, weights_of, value_of, add_over, term_value, EqualsEffect}
use Rattle.prob_expr.proofs.Boxes.{add_over_whole, assignment_set}
use Rattle.identification_theory.proofs.Sets.{all-is}
use Rattle.treated_models.specs.Vocabulary.{is_in, AreUnjoined, AreFree, read_at}
use Rattle.do_rules.specs.Vocabulary.{cut_out}
use Rattle.nested_models.specs.Vocabulary.{Reader, sets_of, ReadOneEach, weights_read, weight_of_nested, nested_effect, TellsApart}
use Rattle.nested_models.proofs.Product.{nested_is_product}
use Rattle.natural_id.specs.Parts.{PlainPart, parts_value, natural_value, AreRightParts, districts_of, IsNaturalTarget}

-- ---- what the parts read
abbrev pub reader : PlainPart → Reader
reader p = record { set = p.district; second = p.second }

abbrev pub readers : List PlainPart → List Reader
readers [] = []
readers (p ∷ ps) = reader p ∷ readers ps

pub readers_sets : (ps : List PlainPart) → sets_of (readers ps) ≡ districts_of ps
readers_sets [] = refl
readers_sets (p ∷ ps) = ap (λ l. p.district ∷ l) (readers_sets ps)

pub read_one : (g : MixedGraph) (x k : ℕ) (ps : List PlainPart) → AreRightParts g x k ps → ReadOneEach g (has x) (has k) (readers ps)
read_one g x k [] h = tt
read_one g x k (p ∷ ps) h = (h.0.reads, read_one g x k ps h.1)

-- ---- interventions on all other vertices
-- sets that agree below the number of vertices are set alike
module _ (g : MixedGraph) (ok : IsMixedGraph g) (w : FiniteModel) (fit : Fits g w) (b c a : ℕ → Bool) (same : (v : ℕ) → v < w.vertices → b v ≡ c v)
    (s : ℕ → ℕ) (within : IsAssignment w.vertices w.size s) where
  set_alike : weight_of w b a s ≡ weight_of w c a s
  set_alike = with_rank g ok (weight_of w b a s) (weight_of w c a s) (λ rank ranked.
      over-congr (λ j. true) w.values w.causes (λ u. cond (agree w.vertices a (solution (intervene w b s) u) s) (world_weight w u) 0)
      (λ u. cond (agree w.vertices a (solution (intervene w c s) u) s) (world_weight w u) 0) (λ j. 0)
      (λ u. let one : (v : ℕ) → v < w.vertices → solution (intervene w b s) u v ≡ solution (intervene w c s) u v =
      unique g (intervene w c s) rank ranked (follows_intervene g w c s within (follows_of g w fit)) u (solution (intervene w b s) u)
      (solution (intervene w c s) u)
      (λ v il. solution_is g (intervene w b s) rank ranked (follows_intervene g w b s within (follows_of g w fit)) u v il
      ∙ ap (λ i. cond i (s v) (w.mechanism v (solution (intervene w b s) u) u)) (same v il))
      (solution_is g (intervene w c s) rank ranked (follows_intervene g w c s within (follows_of g w fit)) u) in
      ap (λ i. cond i (world_weight w u) 0) (same_truth (agree w.vertices a (solution (intervene w b s) u) s)
      (agree w.vertices a (solution (intervene w c s) u) s)
      (λ e. agree_from w.vertices a (solution (intervene w c s) u) s (λ v il i. sym (one v il) ∙ agree_gives w.vertices a (solution (intervene w b s) u) s e v il i))
      (λ e. agree_from w.vertices a (solution (intervene w b s) u) s (λ v il i. one v il ∙ agree_gives w.vertices a (solution (intervene w c s) u) s e v il i)))))

module _ (g : MixedGraph) (ok : IsMixedGraph g) (w : FiniteModel) (fit : Fits g w) (positive : IsPositiveModel w) where
  pub none_is_total : (b : ℕ → Bool) (s : ℕ → ℕ) → weight_of w b (has 0) s ≡ total w
  none_is_total b s = weight-none (intervene w b s) (has 0) s (λ v. has-zero v)

  pub some_worlds : (s : ℕ → ℕ) → IsAssignment w.vertices w.size s → 1 ≤ total w
  some_worlds s within = let k = positive_weight g w ok (follows_of g w fit) positive (λ v. false) (has 0) s within in
      let e = none_is_total (λ v. false) s in omega (arith, k, e)

  pub or_none : (a : ℕ) → ◌≡◌ {A = ℕ → Bool} (λ v. has a v || has 0 v) (has a)
  or_none a = fun_ext (λ v. ap (λ b. has a v || b) (has-zero v) ∙ go (has a v))
    where
      go : (b : Bool) → (b || false) ≡ b
      go true = refl
      go false = refl

  -- a right formula of a set has its weight where all other vertices are set, over all
  pub part_is : (d : ℕ) (f : PlainFormula) → EqualsEffect g (effect_on (minus (all g.vertices) d) d) f → (c : ℕ → ℕ) → IsAssignment w.vertices w.size c
      → IsEqual (value_of (weights_of w) f c) (over (weight_of w (λ v. not (has d v)) (has d) c) (total w))
  part_is d f right c within = subst (IsEqual (value_of (weights_of w) f c)) (ap₂ over
      (ap (λ a. weight_of w (has others) a c) (or_none d)
      ∙ set_alike g ok w fit (has others) (λ v. not (has d v)) (has d)
      (λ v il. has_minus (all g.vertices) d v ∙ ap (λ b. b && not (has d v)) (all-is g.vertices v (rw (sym fit.vertices) il))) c within)
      (none_is_total (has others) c)) (right w fit positive c within)
    where
      others : ℕ
      others = minus (all g.vertices) d

  module _ (x k : ℕ) (s t : ℕ → ℕ) (hs : IsAssignment w.vertices w.size s) (ht : IsAssignment w.vertices w.size t) where
    -- where a part is read
    abbrev pub point : PlainPart → (ℕ → ℕ) → ℕ → ℕ
    point p c v = cond (has x v) (cond (has p.second v) (t v) (s v)) (c v)

    pub point_within : (p : PlainPart) (c : ℕ → ℕ) → IsAssignment w.vertices w.size c → IsAssignment w.vertices w.size (point p c)
    point_within p c hc v il = go (has x v) (has p.second v)
      where
        go : (a b : Bool) → cond a (cond b (t v) (s v)) (c v) < w.size v
        go true true = ht v il
        go true false = hs v il
        go false b = hc v il

    -- a set off x reads x outside itself
    point_is : (p : PlainPart) → ((v : ℕ) → has p.district v ≡ true → has x v ≡ false) → (c : ℕ → ℕ)
        → point p c ≡ read_at (has x) p.district (λ v. cond (has p.second v) (t v) (s v)) c
    point_is p off c = fun_ext (λ v. ap (λ b. cond b (cond (has p.second v) (t v) (s v)) (c v)) (bools (has x v) (has p.district v) (off v)))
      where
        bools : (a b : Bool) → (b ≡ true → a ≡ false) → a ≡ (a && not b)
        bools true true h = absurd (grind (arith, h refl))
        bools true false h = refl
        bools false b h = refl

    AreOff : List PlainPart → Type 0
    AreOff ps = AreFree g (has x) (districts_of ps)

    -- the product of the parts
    product_is : (ps : List PlainPart) → ((v : ℕ) → is_in (districts_of ps) v ≡ true → has x v ≡ false) → AreRightParts g x k ps → (c : ℕ → ℕ)
        → IsAssignment w.vertices w.size c
        → IsEqual (parts_value w x ps s t c) (over (weights_read w (has x) (readers ps) s t c) (total w ^ length (sets_of (readers ps))))
    product_is [] off right c hc = subst (λ n. IsEqual (over 1 1) (over 1 n)) (sym (pow-zero (total w))) (equal_refl (over 1 1) (omega arith))
    product_is (p ∷ ps) off right c hc =
        subst (λ n. IsEqual (parts_value w x (p ∷ ps) s t c) (over (weights_read w (has x) (readers (p ∷ ps)) s t c) n))
        (flipped (total w) (total w ^ length (sets_of (readers ps))) ∙ sym (pow-suc (total w) (length (sets_of (readers ps)))))
        (mul_equal (value_of (weights_of w) p.formula (point p c)) (over first (total w)) (parts_value w x ps s t c)
        (over (weights_read w (has x) (readers ps) s t c) (total w ^ length (sets_of (readers ps))))
        (subst (λ r. IsEqual (value_of (weights_of w) p.formula (point p c)) (over (weight_of w (λ v. not (has p.district v)) (has p.district) r) (total w)))
        (point_is p (λ v e. off v (or_one (has p.district v) (is_in (districts_of ps) v) e)) c)
        (part_is p.district p.formula right.0.formula (point p c) (point_within p c hc)))
        (product_is ps (λ v e. off v (or_two (has p.district v) (is_in (districts_of ps) v) e)) right.1 c hc))
      where
        first : ℕ
        first = weight_of w (λ v. not (has p.district v)) (has p.district) (read_at (has x) p.district (λ v. cond (has p.second v) (t v) (s v)) c)

        flipped : (a b : ℕ) → a * b ≡ b * a
        flipped a b = omega arith

        or_one : (a b : Bool) → a ≡ true → (a || b) ≡ true
        or_one a b h = grind (arith, h)

        or_two : (a b : Bool) → b ≡ true → (a || b) ≡ true
        or_two a b h = grind (arith, h)

    pub powers : (n : ℕ) → 1 ≤ total w → 1 ≤ total w ^ n
    powers zero h = let e = pow-zero (total w) in omega (arith, e)
    powers (suc n) h = let e = pow-suc (total w) n in let k : 1 ≤ total w ^ n * total w = mul-pos (powers n h) h in omega (arith, e, k)

    module _ (m y z d : ℕ) (target : IsNaturalTarget g x m y z) (tells : TellsApart g (has x) (has m) (has y) (has k)) (ps : List PlainPart)
        (right : AreRightParts g x k ps)
        (d_off : (v : ℕ) → has d v ≡ true → has x v ≡ false) (asked_in : (v : ℕ) → (has y v || has z v) ≡ true → has d v ≡ true)
        (closed : (p v : ℕ) → (cut_out g (has x)).arrow p v ≡ true → has d v ≡ true → has d p ≡ true)
        (are : (v : ℕ) → is_in (districts_of ps) v ≡ has d v) (unjoined : AreUnjoined g (districts_of ps)) (free : AreFree g (has x) (districts_of ps)) where
      abbrev rest : ℕ
      rest = minus d (union y z)

      abbrev bottom : ℕ
      bottom = total w ^ length (sets_of (readers ps))

      has_rest : (v : ℕ) → has rest v ≡ (has d v && not (has y v || has z v))
      has_rest v = has_minus d (union y z) v ∙ ap (λ b. has d v && not b) (has_join y z v)

      whole : (v : ℕ) → ((has y v || has z v) || has rest v) ≡ has d v
      whole v = ap (λ b. (has y v || has z v) || b) (has_rest v) ∙ bools (has y v || has z v) (has d v) (asked_in v)
        where
          bools : (a d : Bool) → (a ≡ true → d ≡ true) → (a || (d && not a)) ≡ d
          bools a d h = grind (arith, h)

      weight_is : weight_of_nested w (has x) (has m) (has y) (has z) s t * bottom
          ≡ total w * sum_over (has rest) w.size w.vertices (λ c. weights_read w (has x) (readers ps) s t c) s
      weight_is = nested_is_product g ok w fit (has x) (has m) (has y) (has z) (has k) (has rest) target.asked tells
          (λ v i j. bools (has y v || has z v) (has d v) i (sym (has_rest v) ∙ j))
          (λ p v a i. whole p ∙ closed p v a (sym (whole v) ∙ i))
          (readers ps) (λ v. ap (λ l. is_in l v) (readers_sets ps) ∙ are v ∙ sym (whole v))
          (subst (AreUnjoined g) (sym (readers_sets ps)) unjoined) (subst (AreFree g (has x)) (sym (readers_sets ps)) free)
          (read_one g x k ps right) s t hs ht
        where
          bools : (a d : Bool) → a ≡ true → (d && not a) ≡ true → ⊥
          bools a d h j = absurd (grind (arith, h, j))

      abbrev weight : ℕ
      weight = weight_of_nested w (has x) (has m) (has y) (has z) s t

      sum_is : IsEqual (add_over (has rest) w.size w.vertices (parts_value w x ps s t) s) (over weight (total w))
      sum_is = equal_trans (add_over (has rest) w.size w.vertices (parts_value w x ps s t) s) (over summed bottom) (over weight (total w))
          (add_over_whole (has rest) w.size (IsAssignment w.vertices w.size) w.vertices bottom (parts_value w x ps s t)
          (λ c. weights_read w (has x) (readers ps) s t c) s (powers (length (sets_of (readers ps))) (some_worlds s hs))
          (λ c i n il ui lt p. assignment_set w.vertices w.size c i n lt p) hs
          (λ c hc. product_is ps (λ v e. d_off v (sym (are v) ∙ e)) right c hc))
          (record {
            left_bottom = powers (length (sets_of (readers ps))) (some_worlds s hs);
            right_bottom = some_worlds s hs;
            products = (let e : summed * total w ≡ total w * summed = omega arith in e) ∙ sym weight_is;
          })
        where
          summed : ℕ
          summed = sum_over (has rest) w.size w.vertices (λ c. weights_read w (has x) (readers ps) s t c) s

      given_is : term_value (weights_of w) z 0 0 s ≡ over (event_weight w (has z) s) (total w)
      given_is = ap₂ over
          (ap (λ a. weight_of w (has 0) a s) (or_none z) ∙ weight_of-none w (has 0) (has z) s (λ v. has-zero v))
          (none_is_total (has 0) s)

      some_given : 1 ≤ event_weight w (has z) s
      some_given = let k = positive_weight g w ok (follows_of g w fit) positive (λ v. false) (has z) s hs in
          let e = weight_of-none w (λ v. false) (has z) s (λ v. refl) in omega (arith, k, e)

      pub value_is : IsEqual (natural_value w x z rest ps s t) (nested_effect w (has x) (has m) (has y) (has z) s t)
      value_is = equal_trans (natural_value w x z rest ps s t) (div (over weight (total w)) (over (event_weight w (has z) s) (total w)))
          (nested_effect w (has x) (has m) (has y) (has z) s t)
          (subst (λ f. IsEqual (div (add_over (has rest) w.size w.vertices (parts_value w x ps s t) s) f)
          (div (over weight (total w)) (over (event_weight w (has z) s) (total w)))) (sym given_is)
          (div_equal (add_over (has rest) w.size w.vertices (parts_value w x ps s t) s) (over weight (total w)) (over (event_weight w (has z) s) (total w))
          (over (event_weight w (has z) s) (total w)) some_given sum_is (equal_refl (over (event_weight w (has z) s) (total w)) (some_worlds s hs))))
          (subst (λ n. IsEqual (over n (total w * event_weight w (has z) s)) (over weight (event_weight w (has z) s)))
          (let e : total w * weight ≡ weight * total w = omega arith in e)
          (equal_scaled (total w) weight (event_weight w (has z) s) (some_worlds s hs) some_given))
