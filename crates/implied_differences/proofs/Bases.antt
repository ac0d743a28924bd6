-- Where blocks begin, and numbers in mixed radix.
use Rattle.std.proofs.Common.{ℕ, ◌+◌, ◌*◌, ◌-◌, ◌/◌, ◌%◌, ◌≡◌, ◌<◌, ◌≤◌, refl, sym, ap, ap₂, ◌∙◌, inl, inr, arith}
use Rattle.std.proofs.lemmas.Bool.{cases_eq}
use Rattle.std.proofs.lemmas.Nat.{mul-le, div-mul-add, mod-mul-add}
use Rattle.implied_differences.specs.declared.layout.Block.{Block}
use Rattle.implied_differences.specs.declared.layout.Layout.{Layout}
use Rattle.implied_differences.specs.Layouts.{IsStepped, base_of, IsBase}

-- a number of two digits is below the number of all such
pub two_digits : (m n p q : ℕ) → m < n → q < p → m * p + q < n * p
two_digits m n p q lt less =
    let le : (m + 1) * p ≤ n * p = mul-le (m + 1) p n p (omega arith) (omega arith) in
    let e : (m + 1) * p ≡ m * p + p = grind arith in
    omega (arith, le, e)

regroup : (p n m r q : ℕ) → p * (n * r) + (m * r + q) ≡ (p * n + m) * r + q
regroup p n m r q = grind arith

pub base_is : (l : Layout) (p m q w : ℕ) → w ≡ p * (l.between * l.second_step) + (m * l.second_step + q) → m < l.between → q < l.second_step
    → base_of l w ≡ p * (l.firsts * l.first_step) + (m * (l.seconds * l.second_step) + q)
unfolding base_of
base_is l p m q w e lt less =
    let n = l.between in
    let r = l.second_step in
    let high : w / (n * r) ≡ p = ap (λ k. k / (n * r)) e ∙ div-mul-add p (n * r) (m * r + q) (two_digits m n r q lt less) in
    let same : w ≡ (p * n + m) * r + q = e ∙ regroup p n m r q in
    let low : w % r ≡ q = ap (λ k. k % r) same ∙ mod-mul-add (p * n + m) r q less in
    let middle : w / r % n ≡ m = ap (λ k. k % n) (ap (λ k. k / r) same ∙ div-mul-add (p * n + m) r q less) ∙ mod-mul-add p n m lt in
    ap₂ (λ h k. h * (l.firsts * l.first_step) + k) high (ap₂ (λ h k. h * (l.seconds * r) + k) middle low)

-- a block begins where its number says
pub begins : (l : Layout) (b : Block) → IsBase l b → b.begin ≡ base_of l b.number
begins l b (p, h) = h.begin ∙ sym (base_is l p b.between b.behind b.number h.number h.between h.behind)

pub base_first : (l : Layout) (b : Block) → IsStepped l → b.number ≡ 0 → b.begin ≡ 0 → b.between ≡ 0 → b.behind ≡ 0 → IsBase l b
base_first l b s n e f g = (
  0,
  record {
    number = n ∙ sym (ap₂ (λ x y. 0 * (l.between * l.second_step) + (x * l.second_step + y)) f g ∙ zeros (l.between * l.second_step) l.second_step);
    begin = e ∙ sym (ap₂ (λ x y. 0 * (l.firsts * l.first_step) + (x * (l.seconds * l.second_step) + y)) f g
        ∙ zeros (l.firsts * l.first_step) (l.seconds * l.second_step));
    between = below b.between l.between f s.between;
    behind = below b.behind l.second_step g s.behind;
  },
)
  where
    zeros : (x y : ℕ) → 0 * x + (0 * y + 0) ≡ 0
    zeros x y = grind arith

    below : (x y : ℕ) → x ≡ 0 → 0 < y → x < y
    below x y e lt = omega arith

-- the next block, in the same row of cells
pub base_inner : (l : Layout) (b d : Block) → IsBase l b → b.behind + 1 < l.second_step → d.number ≡ b.number + 1 → d.begin ≡ b.begin + 1 → d.between
    ≡ b.between → d.behind ≡ b.behind + 1 → IsBase l d
base_inner l b d (p, h) lt n e f g = (
  p,
  record {
    number = n ∙ ap (λ k. k + 1) h.number ∙ one (p * (l.between * l.second_step)) (b.between * l.second_step) b.behind
        ∙ sym (ap₂ (λ x y. p * (l.between * l.second_step) + (x * l.second_step + y)) f g);
    begin = e ∙ ap (λ k. k + 1) h.begin ∙ one (p * (l.firsts * l.first_step)) (b.between * (l.seconds * l.second_step)) b.behind
        ∙ sym (ap₂ (λ x y. p * (l.firsts * l.first_step) + (x * (l.seconds * l.second_step) + y)) f g);
    between = rw f h.between;
    behind = rw g lt;
  },
)
  where
    one : (x y z : ℕ) → x + (y + z) + 1 ≡ x + (y + (z + 1))
    one x y z = omega arith

last : (n m : ℕ) → n < m → (n + 1 < m → ⊥) → m ≡ n + 1
last n m lt not_yet = elim (cases_eq m (n + 1)) [
  | inl e ↦ e
  | inr ne ↦ absurd (not_yet (omega arith))
]

pub back : (n : ℕ) → 0 < n → n ≡ (n - 1) + 1
back n lt = omega arith

-- over the levels of the second vertex
pub base_middle : (l : Layout) (b d : Block) → IsStepped l → IsBase l b → (b.behind + 1 < l.second_step → ⊥) → b.between + 1 < l.between → d.number ≡ b.number
    + 1
    → d.begin ≡ b.begin + 1 + (l.seconds - 1) * l.second_step → d.between ≡ b.between + 1 → d.behind ≡ 0 → IsBase l d
base_middle l b d s (p, h) over_behind lt n e f g =
    let end = last b.behind l.second_step h.behind over_behind in (
      p,
      record {
        number = n ∙ ap (λ k. k + 1) h.number ∙ carried (p * (l.between * l.second_step)) b.between b.behind l.second_step end
            ∙ sym (ap₂ (λ x y. p * (l.between * l.second_step) + (x * l.second_step + y)) f g);
        begin = e ∙ ap (λ k. k + 1 + (l.seconds - 1) * l.second_step) h.begin
            ∙ over (p * (l.firsts * l.first_step)) b.between b.behind l.second_step (l.seconds - 1) l.seconds end (back l.seconds s.seconds)
            ∙ sym (ap₂ (λ x y. p * (l.firsts * l.first_step) + (x * (l.seconds * l.second_step) + y)) f g);
        between = rw f lt;
        behind = rw g s.behind;
      },
    )
  where
    carried : (x m q r : ℕ) → r ≡ q + 1 → x + (m * r + q) + 1 ≡ x + ((m + 1) * r + 0)
    carried x m q r e = let f : (m + 1) * r ≡ m * r + r = grind arith in omega (arith, e, f)

    over : (x m q r k c : ℕ) → r ≡ q + 1 → c ≡ k + 1 → x + (m * (c * r) + q) + 1 + k * r ≡ x + ((m + 1) * (c * r) + 0)
    over x m q r k c e f =
        let g : (m + 1) * (c * r) ≡ m * (c * r) + c * r = grind arith in
        let h : c * r ≡ k * r + r = ap (λ n. n * r) f ∙ (let i : (k + 1) * r ≡ k * r + r = grind arith in i) in
        omega (arith, e, g, h)

-- over the levels of the first vertex
pub base_outer : (l : Layout) (b d : Block) → IsStepped l → IsBase l b → (b.behind + 1 < l.second_step → ⊥) → (b.between + 1 < l.between → ⊥) → d.number
    ≡ b.number + 1
    → d.begin ≡ b.begin + 1 + (l.seconds - 1) * l.second_step + (l.firsts - 1) * l.first_step → d.between ≡ 0 → d.behind ≡ 0 → IsBase l d
base_outer l b d s (p, h) over_behind over_between n e f g =
    let end = last b.behind l.second_step h.behind over_behind in
    let ends = last b.between l.between h.between over_between in (
      p + 1,
      record {
        number = n ∙ ap (λ k. k + 1) h.number ∙ carried p b.between l.between b.behind l.second_step end ends
            ∙ sym (ap₂ (λ x y. (p + 1) * (l.between * l.second_step) + (x * l.second_step + y)) f g);
        begin = e ∙ ap (λ k. k + 1 + (l.seconds - 1) * l.second_step + (l.firsts - 1) * l.first_step) h.begin
            ∙ over p b.between l.between b.behind l.second_step (l.seconds - 1) l.seconds (l.firsts - 1) l.firsts l.first_step end ends
            (back l.seconds s.seconds) (back l.firsts s.firsts) s.first_step
            ∙ sym (ap₂ (λ x y. (p + 1) * (l.firsts * l.first_step) + (x * (l.seconds * l.second_step) + y)) f g);
        between = rw f s.between;
        behind = rw g s.behind;
      },
    )
  where
    more : (m n k : ℕ) → n ≡ m + 1 → n * k ≡ m * k + k
    more m n k e = ap (λ x. x * k) e ∙ (let f : (m + 1) * k ≡ m * k + k = grind arith in f)

    carried : (p m n q r : ℕ) → r ≡ q + 1 → n ≡ m + 1 → p * (n * r) + (m * r + q) + 1 ≡ (p + 1) * (n * r) + (0 * r + 0)
    carried p m n q r e f =
        let g = more p (p + 1) (n * r) refl in
        let h = more m n r f in
        omega (arith, e, g, h)

    over : (p m n q r k c j a t : ℕ) → r ≡ q + 1 → n ≡ m + 1 → c ≡ k + 1 → a ≡ j + 1 → t ≡ n * (c * r)
        → p * (a * t) + (m * (c * r) + q) + 1 + k * r + j * t ≡ (p + 1) * (a * t) + (0 * (c * r) + 0)
    over p m n q r k c j a t e f g h s =
        let u = more p (p + 1) (a * t) refl in
        let v = more j a t h in
        let x = more m n (c * r) f in
        let y = more k c r g in
        omega (arith, e, s, u, v, x, y)

-- ---- numbers of three digits

-- the digits of a number
pub record AreSame (p q u p' q' u' : ℕ) : Type 0 where
  pub first : p ≡ p'
  pub second : q ≡ q'
  pub third : u ≡ u'

pub same_digits : (n m p q u p' q' u' : ℕ) → q < n → q' < n → u < m → u' < m → (p * n + q) * m + u ≡ (p' * n + q') * m + u' → AreSame p q u p' q' u'
same_digits n m p q u p' q' u' lq lq' lu lu' e =
    let high : p * n + q ≡ p' * n + q' = sym (div-mul-add (p * n + q) m u lu) ∙ ap (λ k. k / m) e ∙ div-mul-add (p' * n + q') m u' lu' in
    record {
      first = sym (div-mul-add p n q lq) ∙ ap (λ k. k / n) high ∙ div-mul-add p' n q' lq';
      second = sym (mod-mul-add p n q lq) ∙ ap (λ k. k % n) high ∙ mod-mul-add p' n q' lq';
      third = sym (mod-mul-add (p * n + q) m u lu) ∙ ap (λ k. k % m) e ∙ mod-mul-add (p' * n + q') m u' lu';
    }

-- a number of three digits and what it is made of are small
pub record HasRoom (n m p q u : ℕ) : Type 0 where
  pub product : p * n ≤ 1048576
  pub sum : p * n + q ≤ 1048576
  pub times : (p * n + q) * m ≤ 1048576
  pub number : (p * n + q) * m + u ≤ 1048576

pub number_room : (a n m p q u : ℕ) → p < a → q < n → u < m → a * n * m ≤ 1048576 → HasRoom n m p q u
number_room a n m p q u lp lq lu few =
    let less = two_digits (p * n + q) (a * n) m u (two_digits p a n q lp lq) lu in
    let le : (p * n + q) * 1 ≤ (p * n + q) * m = mul-le (p * n + q) 1 (p * n + q) m (omega arith) (omega arith) in
    record {
      product = omega (arith, less, le, few);
      sum = omega (arith, less, le, few);
      times = omega (arith, less, few);
      number = omega (arith, less, few);
    }

-- the number of given cells is at most that of all cells
pub count_few : (a b n : ℕ) → 0 < a → 0 < b → a * b * n ≤ 1048576 → n ≤ 1048576
count_few a b n p q few =
    let one : 1 * 1 ≤ a * b = mul-le 1 1 a b (omega arith) (omega arith) in
    let le : 1 * n ≤ a * b * n = mul-le 1 n (a * b) n (omega (arith, one)) (omega arith) in
    omega (arith, le, few)
