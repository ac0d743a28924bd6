-- The values of a model's causes in a world, and their weights.
use Rattle.std.proofs.Common.{ℕ, zero, suc, ◌*◌, ◌/◌, ◌%◌, ◌^◌, ◌≡◌, ◌<◌, ◌≤◌, List, length, get_or, Option, None, SomeIff, sym, ap, ap₂, ◌∙◌, arith}
use Rattle.std.proofs.Math.Nat.{mod-lt}
use Rattle.std.proofs.lemmas.List.{get_or_read}
use Rattle.finite_models.specs.Sums.{sum_below, product_below}
use Rattle.finite_models.specs.Data.{weights_of}
use Rattle.finite_models.specs.Worlds.{values_of, weight_sum, value_in_world, HaveWeight}
use Rattle.finite_models.proofs.Numbering.{product_below-le, product_below-grows, term_le-sum}
use Rattle.finite_models.proofs.Places.{weights_of-at}
use Rattle.finite_models.specs.declared.model.Cause.{Cause}

-- a cause at its place
pub values_at : (causes : List Cause) (j : ℕ) (x : Cause) (n : ℕ) → j < length causes → x ≡ get_or causes j x → n ≡ length x.weights.items → n
    ≡ values_of causes j
values_at causes j x n lt is e = e ∙ ap length (sym (weights_of-at causes j x lt is))

pub sum_at : (causes : List Cause) (j : ℕ) (x : Cause) (xs : List ℕ) (n : ℕ) → j < length causes → x ≡ get_or causes j x → xs ≡ x.weights.items → n
    ≡ sum_below (length xs) (λ i. get_or xs i 0) → n ≡ weight_sum causes j
sum_at causes j x xs n lt is e s = s ∙ ap (λ (ys : List ℕ). sum_below (length ys) (λ i. get_or ys i 0)) (e ∙ sym (weights_of-at causes j x lt is))

some_value : (n : ℕ) (f : ℕ → ℕ) → 1 ≤ sum_below n f → 0 < n
some_value zero f h = absurd (omega arith)
some_value (suc n) f h = omega arith

pub positive_values : (causes : List Cause) → HaveWeight causes → (j : ℕ) → j < length causes → 0 < values_of causes j
positive_values causes h j lt = some_value (values_of causes j) (λ i. get_or (weights_of causes j) i 0) (h j lt)

pub value_below : (causes : List Cause) → HaveWeight causes → (world j : ℕ) → j < length causes → value_in_world causes world j < values_of causes j
value_below causes h world j lt = mod-lt _ (positive_values causes h j lt)

-- the product of the sums of the first causes is within that of all
pub sums_within : (causes : List Cause) → HaveWeight causes → (j : ℕ) → j < length causes
    → product_below j (weight_sum causes) * weight_sum causes j ≤ product_below (length causes) (weight_sum causes)
sums_within causes h j lt = product_below-grows (length causes) (weight_sum causes) (suc j) (omega arith) h

-- so is the product of one weight of each of the first causes
pub weights_within : (causes : List Cause) → HaveWeight causes → (world j : ℕ) → j < length causes → (a w : ℕ)
    → a ≡ product_below j (λ i. get_or (weights_of causes i) (value_in_world causes world i) 0) → w
    ≡ get_or (weights_of causes j) (value_in_world causes world j) 0
    → a * w ≤ product_below (length causes) (weight_sum causes)
weights_within causes h world j lt a w e f =
    let p : product_below (suc j) (λ i. get_or (weights_of causes i) (value_in_world causes world i) 0) ≤ product_below (suc j) (weight_sum causes) =
    product_below-le (suc j) (λ i. get_or (weights_of causes i) (value_in_world causes world i) 0) (weight_sum causes)
    (λ i l. term_le-sum (values_of causes i) (λ k. get_or (weights_of causes i) k 0) (value_in_world causes world i)
    (value_below causes h world i (omega arith))) in
    let q = sums_within causes h j lt in
    rw (e, f) (omega (arith, p, q))

-- a product that is too large to be held stays so
pub none_from : (r s : Option ℕ) (p t : ℕ) → r ≡ None → s ≡ None → SomeIff r (p < 2 ^ 128) p → p ≤ t → SomeIff s (t < 2 ^ 128) t
none_from r s p t e f h le = rw f (λ lt. (rw e at h) (omega arith))

-- the weight that the digit of what is left points to is that of the cause's value in the world
pub weight_at : (causes : List Cause) (world j : ℕ) (x : Cause) (rest n w y : ℕ) → j < length causes → x ≡ get_or causes j x → n ≡ values_of causes j
    → 0 < values_of causes j
    → rest ≡ world / product_below j (values_of causes) → w ≡ y → y ≡ get_or x.weights.items (rest % n) y → n ≡ length x.weights.items → w
    ≡ get_or (weights_of causes j) (value_in_world causes world j) 0
weight_at causes world j x rest n w y lt is e pos r f g l =
    let here : rest % n < length x.weights.items = (let q : 0 < n = omega arith in let d : rest % n < n = omega arith in omega arith) in
    f ∙ get_or_read x.weights.items (rest % n) y here g 0
    ∙ ap₂ (λ (ys : List ℕ) k. get_or ys k 0) (sym (weights_of-at causes j x lt is)) (ap₂ (λ a b. a % b) r e)
