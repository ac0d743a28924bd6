-- What the definitions below a limit weigh, and what they are.
use Rattle.std.proofs.Common.{ℕ, zero, suc, ◌+◌, ◌*◌, ◌≡◌, ◌<◌, ◌≤◌, Bool, true, cond, eqb, ne_eqb, refl, sym, ap, ap₂, ◌∙◌, subst, arith, List, []}
use Rattle.std.proofs.Common.{◌∷◌, map, take, length, get_or, Some, Result, Ok}
use Rattle.std.proofs.lemmas.List.{get_or_default, length-map}
use Rattle.prob_expr.specs.Tree.{Tree, prob, sum, product, quotient, named, tree}
use Rattle.prob_expr.specs.declared.expr.Expr.{Expr}
use Rattle.prob_expr.specs.Vocabulary.{Trees, no_trees, Weights, cap}
use Rattle.prob_expr.specs.View.{view}
use Rattle.quantity.specs.Kinds.{Pair}
use Rattle.count_eval.specs.Rules.{Rule}
use Rattle.count_eval.specs.Stops.{Stop}
use Rattle.count_eval.specs.Evaluated.{evaluated, evaluated_from}
use Rattle.count_eval.specs.Laws.{IsUsed, AllUsed}
use Rattle.count_eval.specs.Programs.{IsBelow, AreOrdered, known}

-- how many nodes an expression has
abbrev mutual
  pub node_count : Tree → ℕ
  node_count (prob a b c) = 1
  node_count (sum u e) = 1 + node_count e
  node_count (product ts) = 1 + nodes_count ts
  node_count (quotient x y) = 1 + node_count x + node_count y
  node_count (named k) = 1

  pub nodes_count : Trees → ℕ
  nodes_count no_trees = 0
  nodes_count (tree e ts) = node_count e + nodes_count ts

unfoldable pub before : ℕ → List Tree → ℕ
before zero ds = 0
before (suc k) [] = 0
before (suc k) (e ∷ es) = 66 * node_count e + 1 + before k es

pub before_at : (k limit : ℕ) (ds : List Tree) (e : Tree) → k < limit → k < length ds → e ≡ get_or ds k e → before k ds + 66 * node_count e < before limit ds
unfolding before
before_at k zero ds e lt il at = absurd (omega arith)
before_at k (suc limit) [] e lt il at = absurd (omega arith)
before_at zero (suc limit) (d ∷ ds) e lt il at = let r : node_count e ≡ node_count d = ap node_count at in omega (arith, r)
before_at (suc k) (suc limit) (d ∷ ds) e lt il at = let r = before_at k limit ds e (omega arith) (omega arith) at in omega (arith, r)

pub ordered_at : (j k : ℕ) (ds : List Tree) (e : Tree) → AreOrdered j ds → k < length ds → e ≡ get_or ds k e → IsBelow (j + k) e
ordered_at j k [] e o il at = absurd (omega arith)
ordered_at j zero (d ∷ ds) e o il at = subst (IsBelow (j + 0)) (sym at) (subst (λ n. IsBelow n d) (let r : j ≡ j + 0 = omega arith in r) o.0)
ordered_at j (suc k) (d ∷ ds) e o il at = subst (λ n. IsBelow n e) (let r : suc j + k ≡ j + suc k = omega arith in r)
    (ordered_at (suc j) k ds e o.1 (omega arith) at)

pub used_at : (used : ℕ → Bool) (k : ℕ) (ds : List Tree) (e : Tree) → AllUsed used ds → k < length ds → e ≡ get_or ds k e → IsUsed used e
used_at used k [] e u il at = absurd (omega arith)
used_at used zero (d ∷ ds) e u il at = subst (IsUsed used) (sym at) u.0
used_at used (suc k) (d ∷ ds) e u il at = used_at used k ds e u.1 (omega arith) at

untouched : (k : Rule) (w : Weights) (ds : List Tree) (q : ℕ → (ℕ → ℕ) → Result Pair Stop) (n j : ℕ) (s : ℕ → ℕ) → j < n → evaluated_from k w q n ds j s ≡ q j s
untouched k w [] q n j s lt = refl
untouched k w (d ∷ ds) q n j s lt =
    untouched k w ds (λ j s. cond (eqb j n) (evaluated k w q (Some (cap n)) 0 d s) (q j s)) (suc n) j s (omega arith)
    ∙ ap (λ b. cond b (evaluated k w q (Some (cap n)) 0 d s) (q j s)) (ne_eqb j n (λ e. absurd (omega arith)))

known_from : (k : Rule) (w : Weights) (ds : List Tree) (q : ℕ → (ℕ → ℕ) → Result Pair Stop) (n j limit : ℕ) (e : Tree) (s : ℕ → ℕ) → j < limit → j < length ds
    → e ≡ get_or ds j e
    → evaluated_from k w q n (take limit ds) (n + j) s ≡ evaluated k w (evaluated_from k w q n (take j ds)) (Some (cap (n + j))) 0 e s
known_from k w [] q n j limit e s lt il at = absurd (omega arith)
known_from k w (d ∷ ds) q n j zero e s lt il at = absurd (omega arith)
known_from k w (d ∷ ds) q n zero (suc limit) e s lt il at =
    untouched k w (take limit ds) (λ j s. cond (eqb j n) (evaluated k w q (Some (cap n)) 0 d s) (q j s)) (suc n) (n + 0) s (omega arith)
    ∙ ap (λ b. cond b (evaluated k w q (Some (cap n)) 0 d s) (q (n + 0) s)) (let r : eqb (n + 0) n ≡ true = grind arith in r)
    ∙ ap₂ (λ m x. evaluated k w q (Some (cap m)) 0 x s) (let r : n ≡ n + 0 = omega arith in r) (sym at)
known_from k w (d ∷ ds) q n (suc j) (suc limit) e s lt il at =
    let q' : ℕ → (ℕ → ℕ) → Result Pair Stop = λ j s. cond (eqb j n) (evaluated k w q (Some (cap n)) 0 d s) (q j s) in
    ap (λ m. evaluated_from k w q' (suc n) (take limit ds) m s) (let r : n + suc j ≡ suc n + j = omega arith in r)
    ∙ known_from k w ds q' (suc n) j limit e s (omega arith) (omega arith) at
    ∙ ap (λ m. evaluated k w (evaluated_from k w q' (suc n) (take j ds)) (Some (cap m)) 0 e s) (let r : suc n + j ≡ n + suc j = omega arith in r)

-- a known definition has the value of its expression over the definitions before it
pub known_at : (k : Rule) (w : Weights) (ds : List Tree) (j limit : ℕ) (e : Tree) (s : ℕ → ℕ) → j < limit → j < length ds → e ≡ get_or ds j e
    → known k w ds limit j s ≡ evaluated k w (known k w ds j) (Some (cap j)) 0 e s
known_at k w ds j limit e s lt il at =
    ap (λ m. evaluated_from k w (λ j t. Ok (k.kind.from_ratio 1 1)) 0 (take limit ds) m s) (let r : j ≡ 0 + j = omega arith in r)
    ∙ known_from k w ds (λ j t. Ok (k.kind.from_ratio 1 1)) 0 j limit e s lt il at
    ∙ ap (λ m. evaluated k w (known k w ds j) (Some (cap m)) 0 e s) (let r : 0 + j ≡ j = omega arith in r)

-- an entry of what f makes of a list is what f makes of the entry, past the end too
pub get_or-map : {A B : Type 0} (f : A → B) (xs : List A) (i : ℕ) (d : A) → get_or (map f xs) i (f d) ≡ f (get_or xs i d)
get_or-map f [] i d = refl
get_or-map f (x ∷ xs) zero d = refl
get_or-map f (x ∷ xs) (suc i) d = get_or-map f xs i d

-- a definition has the same value among those below any limit above it
pub known_below : (k : Rule) (w : Weights) (ds : List Tree) (j limit : ℕ) (s : ℕ → ℕ) → j < limit → limit ≤ length ds → known k w ds limit j s
    ≡ known k w ds (length ds) j s
known_below k w ds j limit s lt le =
    let e = get_or ds j (named 0) in
    let at = get_or_default ds j (named 0) e (omega arith) in
    known_at k w ds j limit e s lt (omega arith) at ∙ sym (known_at k w ds j (length ds) e s (omega arith) (omega arith) at)

-- the tree of a definition, at its place among all
pub record IsNamed (ds : List Tree) (j : ℕ) (e : Tree) : Type 0 where
  pub within : j < length ds
  pub is : e ≡ get_or ds j e

pub named_at : (defs : List Expr) (j : ℕ) (e : Expr) → j < length defs → e ≡ get_or defs j e → IsNamed (map view defs) j (view e)
named_at defs j e lt is = let long = length-map defs view in record { within = omega (arith, long); is = ap view is ∙ sym (get_or-map view defs j e) }
