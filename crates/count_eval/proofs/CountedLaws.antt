-- Fewer rows agree on more vertices.
use Rattle.std.proofs.Common.{ℕ, ◌≡◌, ◌≢◌, ◌≤◌, Bool, true, false, cond, not, ◌||◌, eqb, ne_eqb, List, [], ◌∷◌, Option, Result, Ok, Err, refl, sym}
use Rattle.std.proofs.Common.{ap, ap₂, subst, ◌∙◌, arith}
use mathlib.Core.Path.{fun_ext}
use Rattle.std.proofs.lemmas.Bool.{and_from, or_right}
use Rattle.std.proofs.lemmas.List.Sums.{sum_by-cons}
use Rattle.mixed_graph.specs.Vocabulary.{has, union}
use Rattle.finite_models.proofs.Bools.{and_first, and_second}
use Rattle.quantity.specs.declared.fault.QuantityFault.TheVariants.{ZeroBelow}
use Rattle.quantity.specs.Vocabulary.{Kind}
use Rattle.quantity.specs.Kinds.{Pair}
use Rattle.mixed_graph.proofs.MaskLaws.{has_join}
use Rattle.count_rows.specs.Vocabulary.{Row, agrees, counted}
use Rattle.count_table.specs.Vocabulary.{total}
use Rattle.count_eval.specs.Stops.{Stop, stop}

asked : (p q e : Bool) → (q ≡ true → p ≡ true) → (not p || e) ≡ true → (not q || e) ≡ true
asked p false e h k = refl
asked p true e h k = subst (λ (x : Bool). (not x || e) ≡ true) (h refl) k

agrees_shrinks : (vs cell : List ℕ) (a b : ℕ → Bool) (at : ℕ → ℕ) → ((v : ℕ) → b v ≡ true → a v ≡ true) → agrees vs cell a at ≡ true
    → agrees vs cell b at ≡ true
agrees_shrinks [] cell a b at h k = refl
agrees_shrinks (v ∷ vs) [] a b at h k = refl
agrees_shrinks (v ∷ vs) (x ∷ xs) a b at h k =
    and_from (not (b v) || eqb x (at v)) (agrees vs xs b at)
    (asked (a v) (b v) (eqb x (at v)) (h v) (and_first (not (a v) || eqb x (at v)) (agrees vs xs a at) k))
    (agrees_shrinks vs xs a b at h (and_second (not (a v) || eqb x (at v)) (agrees vs xs a at) k))

one_less : (p q : Bool) (n : ℕ) → (p ≡ true → q ≡ true) → cond p n 0 ≤ cond q n 0
one_less true q n h = subst (λ (x : Bool). n ≤ cond x n 0) (sym (h refl)) (let r : n ≤ n = omega arith in r)
one_less false q n h = zero_le (cond q n 0)
  where
    zero_le : (m : ℕ) → 0 ≤ m
    zero_le m = omega arith

pub counted_shrinks : (vs : List ℕ) (rows : List Row) (a b : ℕ → Bool) (at : ℕ → ℕ) → ((v : ℕ) → b v ≡ true → a v ≡ true)
    → counted vs rows a at ≤ counted vs rows b at
counted_shrinks vs [] a b at h = omega arith
counted_shrinks vs (r ∷ rows) a b at h =
    let x = one_less (agrees vs r.cell a at) (agrees vs r.cell b at) r.count (agrees_shrinks vs r.cell a b at h) in
    let y = counted_shrinks vs rows a b at h in
    let p = sum_by-cons (λ (r : Row). cond (agrees vs r.cell a at) r.count 0) r rows in
    let q = sum_by-cons (λ (r : Row). cond (agrees vs r.cell b at) r.count 0) r rows in
    omega (arith, x, y, p, q)

part : (b : Bool) (n : ℕ) → cond b n 0 ≤ n
part true n = omega arith
part false n = omega arith

-- the rows that agree count no more than all rows
pub counted_small : (vs : List ℕ) (rows : List Row) (a : ℕ → Bool) (at : ℕ → ℕ) → counted vs rows a at ≤ total rows
counted_small vs [] a at = omega arith
counted_small vs (r ∷ rows) a at =
    let x = part (agrees vs r.cell a at) r.count in
    let y = counted_small vs rows a at in
    let p = sum_by-cons (λ (r : Row). cond (agrees vs r.cell a at) r.count 0) r rows in
    let q = sum_by-cons (λ (r : Row). r.count) r rows in
    omega (arith, x, y, p, q)

-- the code of a term, over the weight W of each set
pub term_is : (k : Kind) (d : Option ℕ) (i : ℕ) (s : ℕ → ℕ) (a c : ℕ) (W : (ℕ → Bool) → ℕ) (p n : ℕ) → p ≡ W (has (union a c)) → n ≡ W (has c) → n ≢ 0
    → ◌≡◌ {A = Result Pair Stop} (Ok (k.from_ratio p n)) (cond (eqb (W (has c)) 0) (Err (stop ZeroBelow d i s))
    (Ok (k.from_ratio (W (λ v. has a v || has c v)) (W (has c)))))
term_is k d i s a c W p n ep en some =
    sym (ap (λ (t : Bool). cond {A = Result Pair Stop} t (Err (stop ZeroBelow d i s)) (Ok (k.from_ratio (W (λ v. has a v || has c v)) (W (has c)))))
    (ne_eqb (W (has c)) 0 (λ e. some (en ∙ e)))
    ∙ ap₂ (λ x y. Ok (k.from_ratio x y)) (ap W (sym (fun_ext (λ v. has_join a c v))) ∙ sym ep) (sym en))

pub given_joined : (a c v : ℕ) → has c v ≡ true → has (union a c) v ≡ true
given_joined a c v e = has_join a c v ∙ or_right (has a v) (has c v) e
