-- Fractions in order, and the tightest of several bounds.
use Rattle.std.proofs.Common.{ℕ, zero, suc, ◌+◌, ◌*◌, ◌≡◌, ◌<◌, ◌≤◌, ◌⊎◌, Bool, true, false, cond, eqb, refl, sym, ap, ◌∙◌, subst, inl, inr, arith, eqb-true}
use Rattle.std.proofs.Math.Dec.{leb}
use Rattle.std.proofs.lemmas.Bool.{cases_lt, leb-true, leb-false}
use mathlib.Core.Path.{fun_ext}
use Rattle.fractions.specs.Vocabulary.{Fraction, over, IsEqual, add, add_below}
use Rattle.finite_models.specs.Vocabulary.{set_at}
use Rattle.finite_models.proofs.SumLaws.{set_at-same, set_at-other}
use Rattle.prob_expr.specs.Vocabulary.{add_over}
use Rattle.prob_expr.proofs.Boxes.{IsStable}
use Rattle.natural_bounds.specs.declared.ends.End.{End}
use Rattle.natural_bounds.specs.declared.ends.End.TheVariants.{AtLeast, AtMost}
use Rattle.natural_bounds.specs.Orders.{IsAtMost, Bounds, trivial, tighter, tightest_below, tightest_over, IsIn, TightestIsTightest, TightestIsOne}

-- ---- numbers
pub times-le : (a b c : ℕ) → a ≤ b → a * c ≤ b * c
times-le a b zero h = omega arith
times-le a b (suc c) h = let k = times-le a b c h in let p : a * suc c ≡ a * c + a = omega arith in let q : b * suc c ≡ b * c + b = omega arith in omega arith

pub positive-times : (a b : ℕ) → 1 ≤ a → 1 ≤ b → 1 ≤ a * b
positive-times zero b p q = absurd (omega arith)
positive-times (suc a) b p q = let e : suc a * b ≡ a * b + b = omega arith in omega arith

-- a positive factor may be cancelled
pub cancelled : (a b t : ℕ) → 1 ≤ t → a * t ≤ b * t → a ≤ b
cancelled a b t p h = elim (cases_lt b a) [
  | inl l ↦ let k = times-le (b + 1) a t (omega arith) in let e : (b + 1) * t ≡ b * t + t = omega arith in absurd (omega arith)
  | inr g ↦ g
]

-- p/q <= r/t and r/t <= a/c give p/q <= a/c
chained : (p q r t a c : ℕ) → 1 ≤ t → p * t ≤ r * q → r * c ≤ a * t → p * c ≤ a * q
chained p q r t a c le h e =
    cancelled (p * c) (a * q) t le
    (let k = times-le (p * t) (r * q) c h in
    let l = times-le (r * c) (a * t) q e in
    let one : (p * c) * t ≡ (p * t) * c = omega arith in
    let two : (r * q) * c ≡ (r * c) * q = omega arith in
    let three : (a * t) * q ≡ (a * q) * t = omega arith in
    omega (arith, k, l, one, two, three))

-- ---- two fractions
pub at_most_same : (f : Fraction) → 1 ≤ f.bottom → IsAtMost f f
at_most_same f p = record { left_bottom = p; right_bottom = p; products = omega arith }

pub at_most_trans : (f g h : Fraction) → IsAtMost f g → IsAtMost g h → IsAtMost f h
at_most_trans f g h p q = record {
  left_bottom = p.left_bottom;
  right_bottom = q.right_bottom;
  products = chained f.top f.bottom g.top g.bottom h.top h.bottom p.right_bottom p.products q.products;
}

pub equal_at_most : (f g : Fraction) → IsEqual f g → IsAtMost f g
equal_at_most f g e = record { left_bottom = e.left_bottom; right_bottom = e.right_bottom; products = omega (arith, e.products) }

pub equal_at_least : (f g : Fraction) → IsEqual f g → IsAtMost g f
equal_at_least f g e = record { left_bottom = e.right_bottom; right_bottom = e.left_bottom; products = omega (arith, e.products) }

pub bounds_same : (end : End) (f : Fraction) → 1 ≤ f.bottom → Bounds end f f
bounds_same AtLeast f p = at_most_same f p
bounds_same AtMost f p = at_most_same f p

pub bounds_trans : (end : End) (f g h : Fraction) → Bounds end f g → Bounds end g h → Bounds end f h
bounds_trans AtLeast f g h p q = at_most_trans f g h p q
bounds_trans AtMost f g h p q = at_most_trans h g f q p

pub bounds_equal : (end : End) (f g h : Fraction) → Bounds end f g → IsEqual g h → Bounds end f h
bounds_equal AtLeast f g h p e = at_most_trans f g h p (equal_at_most g h e)
bounds_equal AtMost f g h p e = at_most_trans h g f (equal_at_least g h e) p

-- ---- the tighter of two
pub trivial_bottom : (end : End) → 1 ≤ (trivial end).bottom
trivial_bottom AtLeast = omega arith
trivial_bottom AtMost = omega arith

chosen : (c : Bool) (f h : Fraction) (P : Fraction → Type 0) → P f → P h → P (cond c h f)
chosen true f h P p q = q
chosen false f h P p q = p

pub tighter_one : (end : End) (f h : Fraction) (P : Fraction → Type 0) → P f → P h → P (tighter end f h)
tighter_one AtLeast f h P p q = chosen (leb (f.top * h.bottom) (h.top * f.bottom)) f h P p q
tighter_one AtMost f h P p q = chosen (leb (h.top * f.bottom) (f.top * h.bottom)) f h P p q

pub tighter_first : (end : End) (f h : Fraction) → 1 ≤ f.bottom → 1 ≤ h.bottom → Bounds end f (tighter end f h)
tighter_first AtLeast f h p q = go (leb (f.top * h.bottom) (h.top * f.bottom)) refl
  where
    go : (c : Bool) → leb (f.top * h.bottom) (h.top * f.bottom) ≡ c → IsAtMost f (cond c h f)
    go true e = record { left_bottom = p; right_bottom = q; products = leb-true (f.top * h.bottom) (h.top * f.bottom) e }
    go false e = at_most_same f p
tighter_first AtMost f h p q = go (leb (h.top * f.bottom) (f.top * h.bottom)) refl
  where
    go : (c : Bool) → leb (h.top * f.bottom) (f.top * h.bottom) ≡ c → IsAtMost (cond c h f) f
    go true e = record { left_bottom = q; right_bottom = p; products = leb-true (h.top * f.bottom) (f.top * h.bottom) e }
    go false e = at_most_same f p

pub tighter_second : (end : End) (f h : Fraction) → 1 ≤ f.bottom → 1 ≤ h.bottom → Bounds end h (tighter end f h)
tighter_second AtLeast f h p q = go (leb (f.top * h.bottom) (h.top * f.bottom)) refl
  where
    go : (c : Bool) → leb (f.top * h.bottom) (h.top * f.bottom) ≡ c → IsAtMost h (cond c h f)
    go true e = at_most_same h q
    go false e = let less = leb-false (f.top * h.bottom) (h.top * f.bottom) e in
        record { left_bottom = q; right_bottom = p; products = omega (arith, less) }
tighter_second AtMost f h p q = go (leb (h.top * f.bottom) (f.top * h.bottom)) refl
  where
    go : (c : Bool) → leb (h.top * f.bottom) (f.top * h.bottom) ≡ c → IsAtMost (cond c h f) h
    go true e = at_most_same h q
    go false e = let less = leb-false (h.top * f.bottom) (f.top * h.bottom) e in
        record { left_bottom = p; right_bottom = q; products = omega (arith, less) }

-- ---- the tightest of several
pub below_bottom : (end : End) (k : ℕ) (f : ℕ → Fraction) → ((i : ℕ) → 1 ≤ (f i).bottom) → 1 ≤ (tightest_below end k f).bottom
below_bottom end zero f h = trivial_bottom end
below_bottom end (suc k) f h = tighter_one end (tightest_below end k f) (f k) (λ x. 1 ≤ x.bottom) (below_bottom end k f h) (h k)

pub tightest_bottom : (end : End) (u : ℕ → Bool) (s : ℕ → ℕ) (n : ℕ) (f : (ℕ → ℕ) → Fraction) (b : ℕ → ℕ) → ((t : ℕ → ℕ) → 1 ≤ (f t).bottom)
    → 1 ≤ (tightest_over end u s n f b).bottom
tightest_bottom end u s zero f b h = h b
tightest_bottom end u s (suc n) f b h = go (u n) (λ c. tightest_bottom end u s n f c h)
  where
    go : (p : Bool) → ((c : ℕ → ℕ) → 1 ≤ (tightest_over end u s n f c).bottom)
        → 1 ≤ (cond p (tightest_below end (s n) (λ x. tightest_over end u s n f (set_at b n x))) (tightest_over end u s n f b)).bottom
    go true ih = below_bottom end (s n) (λ x. tightest_over end u s n f (set_at b n x)) (λ i. ih (set_at b n i))
    go false ih = ih b

below_tightest : (end : End) (k : ℕ) (f : ℕ → Fraction) → ((i : ℕ) → 1 ≤ (f i).bottom) → (i : ℕ) → i < k → Bounds end (f i) (tightest_below end k f)
below_tightest end zero f h i lt = absurd (omega arith)
below_tightest end (suc k) f h i lt = go (eqb i k) refl (λ less. below_tightest end k f h i less)
  where
    go : (c : Bool) → eqb i k ≡ c → (i < k → Bounds end (f i) (tightest_below end k f)) → Bounds end (f i) (tighter end (tightest_below end k f) (f k))
    go true e ih = subst (λ j. Bounds end (f j) (tighter end (tightest_below end k f) (f k))) (sym (eqb-true i k e))
        (tighter_second end (tightest_below end k f) (f k) (below_bottom end k f h) (h k))
    go false e ih = bounds_trans end (f i) (tightest_below end k f) (tighter end (tightest_below end k f) (f k))
        (ih (let d : i ≡ k → ⊥ = λ s. absurd (grind (arith, s, e)) in omega arith))
        (tighter_first end (tightest_below end k f) (f k) (below_bottom end k f h) (h k))

below_one : (end : End) (k : ℕ) (f : ℕ → Fraction) → (tightest_below end k f ≡ trivial end) ⊎ ((i : ℕ) × (i < k) × (tightest_below end k f ≡ f i))
below_one end zero f = inl refl
below_one end (suc k) f = tighter_one end (tightest_below end k f) (f k) (λ g. (g ≡ trivial end) ⊎ ((i : ℕ) × (i < suc k) × (g ≡ f i)))
    (elim (below_one end k f) [ inl e ↦ inl e | inr h ↦ inr (h.0, omega (arith, h.1), h.2) ]) (inr (k, omega arith, refl))

-- ---- the points of a box
-- one coordinate less
pub in_box_more : (u : ℕ → Bool) (s : ℕ → ℕ) (n : ℕ) (b r : ℕ → ℕ) (x : ℕ) → u n ≡ true → x < s n → IsIn u s n (set_at b n x) r → IsIn u s (suc n) b r
in_box_more u s n b r x e lt h = record {
  outside = λ v out. h.outside v (λ vl uv. out (omega arith) uv)
      ∙ set_at-other b n x v (λ same. out (omega (arith, same)) (subst (λ j. u j ≡ true) (sym same) e));
  inside = λ v vl uv. inside v vl uv (eqb v n) refl;
}
  where
    at_n : r n ≡ x
    at_n = h.outside n (λ lt e. absurd (omega arith)) ∙ set_at-same b n x

    inside : (v : ℕ) → v < suc n → u v ≡ true → (c : Bool) → eqb v n ≡ c → r v < s v
    inside v vl uv true same = subst (λ j. r j < s j) (sym (eqb-true v n same)) (subst (λ y. y < s n) (sym at_n) lt)
    inside v vl uv false other = h.inside v (let d : v ≡ n → ⊥ = λ q. absurd (grind (arith, q, other)) in omega arith) uv

pub in_box_wide : (u : ℕ → Bool) (s : ℕ → ℕ) (n : ℕ) (b r : ℕ → ℕ) → u n ≡ false → IsIn u s n b r → IsIn u s (suc n) b r
in_box_wide u s n b r e h = record {
  outside = λ v out. h.outside v (λ vl uv. out (omega arith) uv);
  inside = λ v vl uv. h.inside v (let d : v ≡ n → ⊥ = λ q. absurd (grind (arith, e, uv, ap u q)) in omega arith) uv;
}

in_box_less : (u : ℕ → Bool) (s : ℕ → ℕ) (n : ℕ) (b r : ℕ → ℕ) → IsIn u s (suc n) b r → IsIn u s n (set_at b n (r n)) r
in_box_less u s n b r h = record {
  outside = λ v out. go v out (eqb v n) refl;
  inside = λ v vl uv. h.inside v (omega arith) uv;
}
  where
    go : (v : ℕ) → (v < n → u v ≡ true → ⊥) → (c : Bool) → eqb v n ≡ c → r v ≡ set_at b n (r n) v
    go v out true same = subst (λ j. r j ≡ set_at b n (r n) j) (sym (eqb-true v n same)) (sym (set_at-same b n (r n)))
    go v out false other = let d : v ≡ n → ⊥ = λ q. absurd (grind (arith, q, other)) in
        h.outside v (λ vl uv. out (omega arith) uv) ∙ sym (set_at-other b n (r n) v d)

in_box_narrow : (u : ℕ → Bool) (s : ℕ → ℕ) (n : ℕ) (b r : ℕ → ℕ) → u n ≡ false → IsIn u s (suc n) b r → IsIn u s n b r
in_box_narrow u s n b r e h = record {
  outside = λ v out. h.outside v (λ vl uv. out (let d : v ≡ n → ⊥ = λ q. absurd (grind (arith, e, uv, ap u q)) in omega arith) uv);
  inside = λ v vl uv. h.inside v (omega arith) uv;
}

in_no_box : (u : ℕ → Bool) (s b r : ℕ → ℕ) → IsIn u s 0 b r → r ≡ b
in_no_box u s b r h = fun_ext (λ v. h.outside v (λ lt e. absurd (omega arith)))

pub in_box_self : (u : ℕ → Bool) (s b : ℕ → ℕ) → IsIn u s 0 b b
in_box_self u s b = record { outside = λ v out. refl; inside = λ v lt e. absurd (omega arith) }

pub tightest_is_tightest : TightestIsTightest
tightest_is_tightest end u s zero f b r h i = subst (λ t. Bounds end (f t) (f b)) (sym (in_no_box u s b r i)) (bounds_same end (f b) (h b))
tightest_is_tightest end u s (suc n) f b r h i = go (u n) refl (λ c ci. tightest_is_tightest end u s n f c r h ci)
  where
    go : (p : Bool) → u n ≡ p → ((c : ℕ → ℕ) → IsIn u s n c r → Bounds end (f r) (tightest_over end u s n f c))
        → Bounds end (f r) (cond p (tightest_below end (s n) (λ x. tightest_over end u s n f (set_at b n x))) (tightest_over end u s n f b))
    go true e ih = bounds_trans end (f r) (tightest_over end u s n f (set_at b n (r n)))
        (tightest_below end (s n) (λ x. tightest_over end u s n f (set_at b n x)))
        (ih (set_at b n (r n)) (in_box_less u s n b r i))
        (below_tightest end (s n) (λ x. tightest_over end u s n f (set_at b n x)) (λ x. tightest_bottom end u s n f (set_at b n x) h) (r n)
        (i.inside n (omega arith) e))
    go false e ih = ih b (in_box_narrow u s n b r e i)

-- the tightest of several is one of them, or the trivial bound
abbrev OneOf : End → (ℕ → Bool) → (ℕ → ℕ) → ℕ → ((ℕ → ℕ) → Fraction) → (ℕ → ℕ) → Fraction → Type 0
OneOf end u s n f b g = (g ≡ trivial end) ⊎ ((r : ℕ → ℕ) × IsIn u s n b r × (g ≡ f r))

pub tightest_is_one : TightestIsOne
tightest_is_one end u s zero f b = inr (b, in_box_self u s b, refl)
tightest_is_one end u s (suc n) f b = go (u n) refl (λ c. tightest_is_one end u s n f c)
  where
    go : (p : Bool) → u n ≡ p → ((c : ℕ → ℕ) → OneOf end u s n f c (tightest_over end u s n f c))
        → OneOf end u s (suc n) f b (cond p (tightest_below end (s n) (λ x. tightest_over end u s n f (set_at b n x))) (tightest_over end u s n f b))
    go true e ih = elim (below_one end (s n) (λ x. tightest_over end u s n f (set_at b n x))) [
      | inl t ↦ inl t
      | inr h ↦ elim (ih (set_at b n h.0)) [ inl t ↦ inl (h.2 ∙ t) | inr k ↦ inr (k.0, in_box_more u s n b k.0 h.0 e h.1 k.1, h.2 ∙ k.2) ]
    ]
    go false e ih = elim (ih b) [ inl t ↦ inl t | inr k ↦ inr (k.0, in_box_wide u s n b k.0 e k.1, k.2) ]

-- ---- sums
sum_numbers : (a b c d a' b' c' d' : ℕ) → a * b' ≤ a' * b → c * d' ≤ c' * d → (a * d + c * b) * (b' * d') ≤ (a' * d' + c' * b') * (b * d)
sum_numbers a b c d a' b' c' d' p q =
    let k = times-le (a * b') (a' * b) (d * d') p in
    let l = times-le (c * d') (c' * d) (b * b') q in
    let left : (a * d + c * b) * (b' * d') ≡ (a * b') * (d * d') + (c * d') * (b * b') = omega arith in
    let right : (a' * d' + c' * b') * (b * d) ≡ (a' * b) * (d * d') + (c' * d) * (b * b') = omega arith in
    omega (arith, k, l, left, right)

add_at_most : (f f' h h' : Fraction) → IsAtMost f f' → IsAtMost h h' → IsAtMost (add f h) (add f' h')
add_at_most f f' h h' p q = record {
  left_bottom = positive-times f.bottom h.bottom p.left_bottom q.left_bottom;
  right_bottom = positive-times f'.bottom h'.bottom p.right_bottom q.right_bottom;
  products = sum_numbers f.top f.bottom h.top h.bottom f'.top f'.bottom h'.top h'.bottom p.products q.products;
}

add_bounds : (end : End) (f f' h h' : Fraction) → Bounds end f f' → Bounds end h h' → Bounds end (add f h) (add f' h')
add_bounds AtLeast f f' h h' p q = add_at_most f f' h h' p q
add_bounds AtMost f f' h h' p q = add_at_most f' f h' h p q

add_below_bounds : (end : End) (k : ℕ) (f h : ℕ → Fraction) → ((i : ℕ) → i < k → Bounds end (f i) (h i)) → Bounds end (add_below k f) (add_below k h)
add_below_bounds end zero f h le = bounds_same end (over 0 1) (omega arith)
add_below_bounds end (suc k) f h le = add_bounds end (add_below k f) (add_below k h) (f k) (h k) (add_below_bounds end k f h (λ i lt. le i (omega arith)))
    (le k (omega arith))

lower_stable : (n : ℕ) (u : ℕ → Bool) (s : ℕ → ℕ) (P : (ℕ → ℕ) → Type 0) → IsStable (suc n) u s P → IsStable n u s P
lower_stable n u s P k c i x lt = k c i x (omega arith)

-- what bounds each term bounds the sum
pub add_over_bounds : (end : End) (u : ℕ → Bool) (s : ℕ → ℕ) (P : (ℕ → ℕ) → Type 0) (n : ℕ) (f h : (ℕ → ℕ) → Fraction) (b : ℕ → ℕ) → IsStable n u s P
    → P b → ((c : ℕ → ℕ) → P c → Bounds end (f c) (h c)) → Bounds end (add_over u s n f b) (add_over u s n h b)
add_over_bounds end u s P zero f h b k p le = le b p
add_over_bounds end u s P (suc n) f h b k p le = go (u n) refl (λ c pc. add_over_bounds end u s P n f h c (lower_stable n u s P k) pc le)
  where
    go : (v : Bool) → u n ≡ v → ((c : ℕ → ℕ) → P c → Bounds end (add_over u s n f c) (add_over u s n h c))
        → Bounds end (cond v (add_below (s n) (λ x. add_over u s n f (set_at b n x))) (add_over u s n f b))
        (cond v (add_below (s n) (λ x. add_over u s n h (set_at b n x))) (add_over u s n h b))
    go true e ih = add_below_bounds end (s n) (λ x. add_over u s n f (set_at b n x)) (λ x. add_over u s n h (set_at b n x))
        (λ x lt. ih (set_at b n x) (k b n x (omega arith) e lt p))
    go false e ih = ih b p
