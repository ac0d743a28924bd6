-- Steps of the subtraction of exact fractions, over plain numbers.
use Rattle.std.proofs.Common.{ℕ, ◌*◌, ◌/◌, ◌-◌, ◌≡◌, ◌<◌, ◌≤◌, ◌&&◌, Bool, true, false, cond, leb, refl, sym, ap, ◌∙◌, subst, arith}
use Rattle.std.proofs.Common.{Option, Some, None, Result, Ok, Err}
use Rattle.quantity.specs.declared.fault.QuantityFault.{QuantityFault}
use Rattle.quantity.specs.declared.fault.QuantityFault.TheVariants.{TooWide}
use Rattle.quantity.specs.Kinds.{Pair, pair}
use Rattle.quantity.specs.Laws.Exact.{multiple_of}
use Rattle.quantity.specs.Vocabulary.{gcd_of, lowest, most}
use Rattle.differences.specs.Kinds.{difference_over_bottom}

-- what is left of the top t over l where the top u is taken off
abbrev pub left_over : (l t u : ℕ) → Result (Option Pair) QuantityFault
left_over l t u = cond (leb l most && (leb t most && leb u most)) (cond (leb u t) (Ok (Some (lowest (t - u) l))) (Ok None)) (Err TooWide)

abbrev by_tests : (i j k : Bool) → Result (Option Pair) QuantityFault → Result (Option Pair) QuantityFault
by_tests i j k r = cond (i && (j && k)) r (Err TooWide)

too_wide : (n : ℕ) → most < n → leb n most ≡ false
too_wide n h = grind (arith, h)

fits : (n m : ℕ) → n ≤ m → leb n m ≡ true
fits n m h = grind (arith, h)

less : (t u : ℕ) → t < u → leb u t ≡ false
less t u h = grind (arith, h)

-- what is refused for its width
pub wide_bottom : (l t u : ℕ) → most < l → Err TooWide ≡ left_over l t u
wide_bottom l t u h =
    sym (ap (λ i. by_tests i (leb t most) (leb u most) (cond (leb u t) (Ok (Some (lowest (t - u) l))) (Ok None))) (too_wide l h))

none_first : (i k : Bool) (r : Result (Option Pair) QuantityFault) → Err TooWide ≡ by_tests i false k r
none_first true k r = refl
none_first false k r = refl

none_second : (i j : Bool) (r : Result (Option Pair) QuantityFault) → Err TooWide ≡ by_tests i j false r
none_second true true r = refl
none_second true false r = refl
none_second false j r = refl

pub wide_first : (l t u : ℕ) → most < t → Err TooWide ≡ left_over l t u
wide_first l t u h =
    let r = cond (leb u t) (Ok (Some (lowest (t - u) l))) (Ok None) in
    none_first (leb l most) (leb u most) r ∙ sym (ap (λ j. by_tests (leb l most) j (leb u most) r) (too_wide t h))

pub wide_second : (l t u : ℕ) → most < u → Err TooWide ≡ left_over l t u
wide_second l t u h =
    let r = cond (leb u t) (Ok (Some (lowest (t - u) l))) (Ok None) in
    none_second (leb l most) (leb t most) r ∙ sym (ap (λ k. by_tests (leb l most) (leb t most) k r) (too_wide u h))

-- what fits
all_fit : (l t u : ℕ) (r : Result (Option Pair) QuantityFault) → l ≤ most → t ≤ most → u ≤ most → r ≡ by_tests (leb l most) (leb t most) (leb u most) r
all_fit l t u r hl ht hu =
    sym (ap (λ i. by_tests i (leb t most) (leb u most) r) (fits l most hl) ∙ ap (λ j. by_tests true j (leb u most) r) (fits t most ht)
    ∙ ap (λ k. by_tests true true k r) (fits u most hu))

pub nothing_left : (l t u : ℕ) → l ≤ most → t ≤ most → u ≤ most → t < u → Ok None ≡ left_over l t u
nothing_left l t u hl ht hu h =
    sym (ap (λ b. cond b (Ok (Some (lowest (t - u) l))) (Ok None)) (less t u h))
    ∙ all_fit l t u (cond (leb u t) (Ok (Some (lowest (t - u) l))) (Ok None)) hl ht hu

pub something_left : (l t u : ℕ) → l ≤ most → t ≤ most → u ≤ most → u ≤ t → Ok (Some (lowest (t - u) l)) ≡ left_over l t u
something_left l t u hl ht hu h =
    sym (ap (λ b. cond b (Ok (Some (lowest (t - u) l))) (Ok None)) (fits u t h))
    ∙ all_fit l t u (cond (leb u t) (Ok (Some (lowest (t - u) l))) (Ok None)) hl ht hu

-- the code's bottom and tops are those of the difference
pub difference_is : (p q r s : ℕ) → 1 ≤ q → 1 ≤ s
    → left_over ((q / gcd_of q s) * s) (p * (s / gcd_of q s)) (r * (q / gcd_of q s)) ≡ difference_over_bottom (q * s / gcd_of q s) p q r s
difference_is p q r s lq ls =
    let m = multiple_of q s lq ls in let l = (q / gcd_of q s) * s in
    ap (λ n. left_over l (p * n) (r * (q / gcd_of q s))) (sym m.left)
    ∙ ap (λ n. left_over l (p * (l / q)) (r * n)) (sym m.right)
    ∙ ap (λ n. difference_over_bottom n p q r s) (sym m.bottom)

-- x / y is q / s in lowest terms
pub subtracted : (p q r s x y : ℕ) → 1 ≤ q → 1 ≤ s → pair x y ≡ lowest q s
    → left_over (x * s) (p * y) (r * x) ≡ difference_over_bottom (q * s / gcd_of q s) p q r s
subtracted p q r s x y lq ls e =
    ap (λ (n : Pair). left_over (n.first * s) (p * n.second) (r * n.first)) e ∙ difference_is p q r s lq ls

pub positive_bottom : (q s x y : ℕ) → 1 ≤ q → 1 ≤ s → pair x y ≡ lowest q s → 1 ≤ x * s
positive_bottom q s x y lq ls e = subst (λ n. 1 ≤ n * s) (ap (λ (n : Pair). n.first) (sym e)) (multiple_of q s lq ls).positive

-- the same with the numbers that the code names
pub named : (l t u l' t' u' : ℕ) → l ≡ l' → t ≡ t' → u ≡ u' → left_over l t u ≡ left_over l' t' u'
named l t u l' t' u' el et eu = ap (λ n. left_over n t u) el ∙ ap (λ n. left_over l' n u) et ∙ ap (λ n. left_over l' t' n) eu
