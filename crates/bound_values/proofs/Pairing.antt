-- Two levels of the instruments, each as a cell.
use Rattle.std.proofs.Common.{ℕ, zero, suc, ◌+◌, ◌-◌, ◌*◌, ◌≡◌, ◌<◌, ◌≤◌, Bool, true, false, cond, List, length, set, get_or, refl, sym, ap, ap₂, subst, ◌∙◌, inl, inr, arith}
use Rattle.std.proofs.Common.{mul-le-mul, mul-le-mul_right, get_or-set_same, get_or-set_other}
use mathlib.Core.Path.{fun_ext}
use Rattle.std.proofs.lemmas.Bool.{cases_eq, or_left, or_right, eq-eqb, ne_eqb}
use Rattle.finite_models.specs.Vocabulary.{sum_below, sum_over, set_at}
use Rattle.finite_models.proofs.Bools.{not_both}
use Rattle.count_rows.specs.Vocabulary.{Table}
use Rattle.count_table.specs.Vocabulary.{AreCounts}
use Rattle.count_eval.specs.Vocabulary.{weights_in, cell_of}
use Rattle.count_eval.proofs.CellSteps.{cell_of-set}
use Rattle.count_eval.proofs.TableLaws.{counted_local}
use Rattle.prob_expr.specs.Vocabulary.{Weights}
use Rattle.fractions.specs.Vocabulary.{over}
use Rattle.natural_bounds.specs.declared.ends.End.{End}
use Rattle.natural_bounds.specs.declared.ends.End.TheVariants.{AtLeast, AtMost}
use Rattle.natural_bounds.specs.Vocabulary.{Asked, fixed, joint, level, trivial}
use Rattle.crossed_bounds.specs.Vocabulary.{other, at_level, untaken, chosen, shown, two_levels, levels_bound}
use Rattle.bound_values.specs.Questions.{level_set, IsCounted, HasPairs, AreAlikeOutside}
use Rattle.bound_values.proofs.Outcomes.{both_most}
use Rattle.bound_values.proofs.Sums.{small}

-- ---- sums, one coordinate after the other
module _ (u : ℕ → Bool) (s : ℕ → ℕ) (f : (ℕ → ℕ) → ℕ) where
  pub sum_none : (b : ℕ → ℕ) (v : ℕ) → v ≡ 0 → f b ≡ sum_over u s v f b
  sum_none b v e = ap (λ k. sum_over u s k f b) (sym e)

  pub sum_skip : (b : ℕ → ℕ) (v k : ℕ) → v ≡ suc k → u k ≡ false → sum_over u s k f b ≡ sum_over u s v f b
  sum_skip b v k e out = sym (ap (λ j. sum_over u s j f b) e
      ∙ ap (λ c. cond c (sum_below (s k) (λ x. sum_over u s k f (set_at b k x))) (sum_over u s k f b)) out)

  pub sum_done : (cell : List ℕ) (v k : ℕ) → v ≡ suc k → u k ≡ true → k < length cell
      → sum_below (s k) (λ x. sum_over u s k f (cell_of (set cell k x))) ≡ sum_over u s v f (cell_of cell)
  sum_done cell v k e is_in low =
      ap (sum_below (s k)) (fun_ext (λ x. ap (sum_over u s k f) (cell_of-set cell k x low)))
      ∙ sym (ap (λ j. sum_over u s j f (cell_of cell)) e
      ∙ ap (λ c. cond c (sum_below (s k) (λ x. sum_over u s k f (set_at (cell_of cell) k x))) (sum_over u s k f (cell_of cell))) is_in)

-- more terms come to more
pub sum_longer : (k n : ℕ) (f : ℕ → ℕ) → k ≤ n → sum_below k f ≤ sum_below n f
sum_longer k zero f le = subst (λ j. sum_below j f ≤ 0) (let z : 0 ≡ k = omega (arith, le) in z) (omega arith)
sum_longer k (suc n) f le = elim (cases_eq k (suc n)) [
  | inl e ↦ subst (λ j. sum_below j f ≤ sum_below (suc n) f) (sym e) (let r : sum_below (suc n) f ≤ sum_below (suc n) f = omega arith in r)
  | inr d ↦ let h = sum_longer k n f (omega (arith, le, d)) in let more : sum_below (suc n) f ≡ sum_below n f + f n = refl in omega (arith, h, more)
]

-- ---- levels
pub at_own : (z : ℕ → Bool) (r : ℕ → ℕ) → at_level z r r ≡ r
at_own z r = fun_ext (λ v. go v (z v))
  where
    go : (v : ℕ) (b : Bool) → cond b (r v) (r v) ≡ r v
    go v true = refl
    go v false = refl

pub at_alike : (z : ℕ → Bool) (r t : ℕ → ℕ) → AreAlikeOutside z r t → at_level z t r ≡ t
at_alike z r t alike = fun_ext (λ v. go v (z v) refl)
  where
    go : (v : ℕ) (b : Bool) → z v ≡ b → cond b (t v) (r v) ≡ t v
    go v true e = refl
    go v false e = alike v e

at_same : (z : ℕ → Bool) (r t s : ℕ → ℕ) → ((v : ℕ) → z v ≡ true → r v ≡ t v) → at_level z r s ≡ at_level z t s
at_same z r t s same = fun_ext (λ v. go v (z v) refl)
  where
    go : (v : ℕ) (b : Bool) → z v ≡ b → cond b (r v) (s v) ≡ cond b (t v) (s v)
    go v true e = same v e
    go v false e = refl

-- what two levels have at an assignment with the other value of x
abbrev pub pair_term : End → Weights → Asked → (r t : ℕ → ℕ) → (ℕ → ℕ) → ℕ
pair_term end n q r t s = chosen end (untaken n q r t s) (untaken n q t r s)

module _ (end : End) (n : ℕ) (t : Table) (q : Asked) where
  -- it depends on the instruments and on what the stratum fixes alone
  term_same : (a b c d : ℕ → ℕ) → ((v : ℕ) → level_set q v ≡ true → a v ≡ c v) → ((v : ℕ) → level_set q v ≡ true → b v ≡ d v)
      → pair_term end (weights_in n t) q a b ≡ pair_term end (weights_in n t) q c d
  term_same a b c d left right = fun_ext (λ s. ap₂ (chosen end)
      (ap₂ (λ (x : ℕ → ℕ) (y : ℕ). joint (weights_in n t) q x * y)
      (at_same q.z a c s (λ v i. left v (or_left (q.z v) (fixed q v) i))) (counted_local t.vertices t.rows (level_set q) b d right))
      (ap₂ (λ (x : ℕ → ℕ) (y : ℕ). joint (weights_in n t) q x * y)
      (at_same q.z b d s (λ v i. right v (or_left (q.z v) (fixed q v) i))) (counted_local t.vertices t.rows (level_set q) a c left)))

  -- another value of y or of x changes nothing of a level
  pub set_same : (cell : List ℕ) (u x : ℕ) → level_set q u ≡ false → (v : ℕ) → level_set q v ≡ true → cell_of (set cell u x) v ≡ cell_of cell v
  set_same cell u x out v i = get_or-set_other cell u v x 0 (λ same. not_both (level_set q v) i (ap (level_set q) same ∙ out))

  pub set_term : (first second : List ℕ) (u x : ℕ) → level_set q u ≡ false
      → pair_term end (weights_in n t) q (cell_of (set first u x)) (cell_of (set second u x))
      ≡ pair_term end (weights_in n t) q (cell_of first) (cell_of second)
  set_term first second u x out = term_same (cell_of (set first u x)) (cell_of (set second u x)) (cell_of first) (cell_of second)
      (set_same first u x out) (set_same second u x out)

  pub set_level : (cell : List ℕ) (u x : ℕ) → level_set q u ≡ false → level (weights_in n t) q (cell_of cell) ≡ level (weights_in n t) q (cell_of (set cell u x))
  set_level cell u x out = sym (counted_local t.vertices t.rows (level_set q) (cell_of (set cell u x)) (cell_of cell) (set_same cell u x out))

  -- neither x nor y meets a level
  module _ (pairs : HasPairs n t q) where
    pub y_outside : (v : ℕ) → q.y v ≡ true → level_set q v ≡ false
    y_outside v i = pairs.apart v (or_right (q.x v) (q.y v) i)

    other_same : (r : ℕ → ℕ) (v : ℕ) → level_set q v ≡ true → other q.x r v ≡ r v
    other_same r v i = go (q.x v) refl
      where
        go : (b : Bool) → q.x v ≡ b → cond b (1 - r v) (r v) ≡ r v
        go true e = absurd (not_both (level_set q v) i (pairs.apart v (or_left (q.x v) (q.y v) e)))
        go false e = refl

    pub other_term : (r s : ℕ → ℕ) → pair_term end (weights_in n t) q (other q.x r) (other q.x s) ≡ pair_term end (weights_in n t) q r s
    other_term r s = term_same (other q.x r) (other q.x s) r s (other_same r) (other_same s)

    pub other_level : (r : ℕ → ℕ) → level (weights_in n t) q r ≡ level (weights_in n t) q (other q.x r)
    other_level r = sym (counted_local t.vertices t.rows (level_set q) (other q.x r) r (other_same r))

    pub other_alike : (r s : ℕ → ℕ) → AreAlikeOutside q.z r s → AreAlikeOutside q.z (other q.x r) (other q.x s)
    other_alike r s alike v e = go (q.x v)
      where
        go : (b : Bool) → cond b (1 - r v) (r v) ≡ cond b (1 - s v) (s v)
        go true = ap (λ k. 1 - k) (alike v e)
        go false = alike v e

    -- what two levels have is at most twice the product of their records
    pub terms_most : AreCounts t → IsCounted t q → (r s : ℕ → ℕ) (m : ℕ) → AreAlikeOutside q.z r s
        → sum_over q.y (weights_in n t).size m (pair_term end (weights_in n t) q r s) r ≤ 2 * (level (weights_in n t) q r * level (weights_in n t) q s)
    terms_most are asked r s m alike = both_most end n t q are asked pairs r s m r (λ v e i. refl) (λ v e i. alike v e)

  -- as they are counts of at most 10 ^ 15 records
  pub records_most : AreCounts t → (r s : ℕ → ℕ) → level (weights_in n t) q r * level (weights_in n t) q s ≤ 1000000000000000000000000000000
  records_most are r s = mul-le-mul (small t are (level_set q) r) (small t are (level_set q) s)

-- ---- cells
pub set_alike : (z : ℕ → Bool) (first second : List ℕ) (u x : ℕ) → u < length first → u < length second → AreAlikeOutside z (cell_of first) (cell_of second)
    → AreAlikeOutside z (cell_of (set first u x)) (cell_of (set second u x))
set_alike z first second u x low short alike v e = elim (cases_eq v u) [
  | inl same ↦ subst (λ k. get_or (set first u x) k 0 ≡ get_or (set second u x) k 0) (sym same)
      (get_or-set_same first u x 0 low ∙ sym (get_or-set_same second u x 0 short))
  | inr d ↦ get_or-set_other first u v x 0 d ∙ alike v e ∙ sym (get_or-set_other second u v x 0 d)
]

-- another level of an instrument in one of them
pub level_alike : (z : ℕ → Bool) (first second : List ℕ) (u x : ℕ) → z u ≡ true → AreAlikeOutside z (cell_of first) (cell_of second)
    → AreAlikeOutside z (cell_of first) (cell_of (set second u x))
level_alike z first second u x is_z alike v e =
    alike v e ∙ sym (get_or-set_other second u v x 0 (λ same. not_both (z v) (ap z same ∙ is_z) e))

pub level_alike_first : (z : ℕ → Bool) (first second : List ℕ) (u x : ℕ) → z u ≡ true → AreAlikeOutside z (cell_of first) (cell_of second)
    → AreAlikeOutside z (cell_of (set first u x)) (cell_of second)
level_alike_first z first second u x is_z alike v e =
    get_or-set_other first u v x 0 (λ same. not_both (z v) (ap z same ∙ is_z) e) ∙ alike v e

-- what is shown comes to at most four times the product of the records
pub shown_most : (a b r s more : ℕ) → a ≤ r → b ≤ s → more ≤ 2 * (r * s) → a * s + b * r + more ≤ 4 * (r * s)
shown_most a b r s more la lb lm =
    let one = mul-le-mul_right s la in let two = mul-le-mul_right r lb in let e : s * r ≡ r * s = omega arith in omega (arith, one, two, lm, e)

pub product_most : (a r s k : ℕ) → a ≤ k → s ≤ k → a * s ≤ k * k
product_most a r s k la ls = mul-le-mul la ls

-- levels without records say nothing
pub levels_none : (end : End) (n : Weights) (q : Asked) (r t : ℕ → ℕ) → level n q r * level n q t ≡ 0 → trivial end ≡ levels_bound end n q r t
levels_none end n q r t none = sym (ap (λ (b : Bool). cond b (trivial end) (two_levels end n q r t)) (eq-eqb (level n q r * level n q t) 0 none))

pub levels_some : (end : End) (n : Weights) (q : Asked) (r t : ℕ → ℕ) → (level n q r * level n q t ≡ 0 → ⊥) → two_levels end n q r t ≡ levels_bound end n q r t
levels_some end n q r t some = sym (ap (λ (b : Bool). cond b (trivial end) (two_levels end n q r t)) (ne_eqb (level n q r * level n q t) 0 some))

-- what two levels with records say, from what is computed
pub least_said : (end : End) (n : Weights) (q : Asked) (r t : ℕ → ℕ) (v a b k : ℕ) → end ≡ AtLeast → v ≡ shown end n q r t → a ≡ level n q r → b ≡ level n q t
    → (a * b ≡ 0 → ⊥) → k ≡ v - a * b → over k (a * b) ≡ levels_bound end n q r t
least_said AtLeast n q r t v a b k is e ea eb some ek =
    let bottom : a * b ≡ level n q r * level n q t = ap₂ (λ (x y : ℕ). x * y) ea eb in
    ap₂ over (ek ∙ ap₂ (λ (x y : ℕ). x - y) e bottom) bottom ∙ levels_some AtLeast n q r t (λ none. some (bottom ∙ none))
least_said AtMost n q r t v a b k is e ea eb some ek = absurd (cc)

pub most_said : (end : End) (n : Weights) (q : Asked) (r t : ℕ → ℕ) (v a b : ℕ) → end ≡ AtMost → v ≡ shown end n q r t → a ≡ level n q r → b ≡ level n q t
    → (a * b ≡ 0 → ⊥) → over v (a * b) ≡ levels_bound end n q r t
most_said AtLeast n q r t v a b is e ea eb some = absurd (cc)
most_said AtMost n q r t v a b is e ea eb some =
    let bottom : a * b ≡ level n q r * level n q t = ap₂ (λ (x y : ℕ). x * y) ea eb in
    ap₂ over e bottom ∙ levels_some AtMost n q r t (λ none. some (bottom ∙ none))
