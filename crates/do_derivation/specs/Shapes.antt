-- What the moves on products and sums make, and of which expressions: `None` where they have no result.
use Rattle.std.specs.Prelude.{ℕ, zero, suc, ◌+◌, Bool, true, false, not, ◌&&◌, if◌then◌else◌, ◌==◌, ltb, leb, List, [], ◌∷◌, ◌++◌, length, Option, Some, None}
use Rattle.mixed_graph.specs.Vocabulary.{has, union, minus, one, is_empty, is_apart, is_inside}
use Rattle.finite_models.specs.Vocabulary.{all_below}
use Rattle.prob_expr.specs.Tree.{Tree, prob, sum, product, quotient, named, tree}
use Rattle.prob_expr.specs.Vocabulary.{Trees, no_trees}

-- the list holds each member of a once, and nothing else
abbrev pub is_list_of : List ℕ → ℕ → Bool
is_list_of [] a = is_empty a
is_list_of (v ∷ rest) a = has a v && is_list_of rest (minus a (one v))

-- P(v | do(b), c and the earlier ones) for each v of the list in turn
abbrev pub chained : (b c : ℕ) → List ℕ → Trees
chained b c [] = no_trees
chained b c (v ∷ rest) = tree (prob (one v) b c) (chained b (union c (one v)) rest)

-- The sets a' of terms P(a' | do(b), c and a and the earlier ones), apart from a and from each other, together with a: `None` for other factors.
abbrev pub gathered : (a b c : ℕ) → Trees → Option ℕ
gathered a b c no_trees = Some a
gathered a b c (tree (prob a' b' c') ts) = if is_apart a' a && (b' == b && c' == union c a) then gathered (union a a') b c ts else None
gathered a b c (tree (sum u e) ts) = None
gathered a b c (tree (product es) ts) = None
gathered a b c (tree (quotient p q) ts) = None
gathered a b c (tree (named k) ts) = None

-- the term with this first set, where there is one
abbrev pub term_with : (b c : ℕ) → Option ℕ → Option Tree
term_with b c (Some a) = Some (prob a b c)
term_with b c None = None

-- the one term of a product of two or more terms that are a chain
abbrev pub unchained : Tree → Option Tree
unchained (product (tree (prob a b c) (tree e ts))) = term_with b c (gathered a b c (tree e ts))
unchained _ = None

-- how many factors there are
abbrev pub count_factors : Trees → ℕ
count_factors no_trees = 0
count_factors (tree t ts) = suc (count_factors ts)

-- factor number i, from 0
abbrev pub factor_at : Trees → ℕ → Option Tree
factor_at no_trees i = None
factor_at (tree t ts) zero = Some t
factor_at (tree t ts) (suc i) = factor_at ts i

-- the factors of both lists in turn
abbrev pub appended : Trees → Trees → Trees
appended no_trees us = us
appended (tree t ts) us = tree t (appended ts us)

-- the factor, or the product of none
abbrev pub or_nothing : Option Tree → Tree
or_nothing (Some t) = t
or_nothing None = product no_trees

-- the factors with the listed numbers
abbrev pub picked : Trees → List ℕ → Trees
picked ts [] = no_trees
picked ts (i ∷ rest) = tree (or_nothing (factor_at ts i)) (picked ts rest)

-- one factor as it is, several as a product
abbrev pub as_one : Trees → Tree
as_one no_trees = product no_trees
as_one (tree t no_trees) = t
as_one (tree t (tree u ts)) = product (tree t (tree u ts))

-- each group of factors as one
abbrev pub groups_of : Trees → List (List ℕ) → Trees
groups_of ts [] = no_trees
groups_of ts (l ∷ rest) = tree (as_one (picked ts l)) (groups_of ts rest)

-- the numbers of all groups in turn
abbrev pub all_of : List (List ℕ) → List ℕ
all_of [] = []
all_of (l ∷ rest) = l ++ all_of rest

-- how often i stands in the list
abbrev pub times_in : ℕ → List ℕ → ℕ
times_in i [] = 0
times_in i (j ∷ rest) = (if i == j then 1 else 0) + times_in i rest

-- each number is below m
abbrev pub each_below : ℕ → List ℕ → Bool
each_below m [] = true
each_below m (j ∷ rest) = ltb j m && each_below m rest

-- no group is empty
abbrev pub none_empty : List (List ℕ) → Bool
none_empty [] = true
none_empty ([] ∷ rest) = false
none_empty ((i ∷ l) ∷ rest) = none_empty rest

-- two lists or more, none empty, which together hold each number below m once and no other
abbrev pub is_grouping : ℕ → List (List ℕ) → Bool
is_grouping m l = leb 2 (length l) && (none_empty l && (each_below m (all_of l) && all_below m (λ i. times_in i (all_of l) == 1)))

-- the product of the groups of a product's factors
abbrev pub grouped : List (List ℕ) → Tree → Option Tree
grouped l (product ts) = if is_grouping (count_factors ts) l then Some (product (groups_of ts l)) else None
grouped l _ = None

-- the term without the vertices over which it is summed: some of its first set and not all
abbrev pub narrowed : Tree → Option Tree
narrowed (sum u (prob a b c)) = if is_inside u a && not (u == a) then Some (prob (minus a u) b c) else None
narrowed _ = None

-- some factor is a product
abbrev pub has_product : Trees → Bool
has_product no_trees = false
has_product (tree (product es) ts) = true
has_product (tree _ ts) = has_product ts

-- each factor that is a product replaced by its factors
abbrev pub flat : Trees → Trees
flat no_trees = no_trees
flat (tree (product es) ts) = appended es (flat ts)
flat (tree (prob a b c) ts) = tree (prob a b c) (flat ts)
flat (tree (sum u e) ts) = tree (sum u e) (flat ts)
flat (tree (quotient p q) ts) = tree (quotient p q) (flat ts)
flat (tree (named k) ts) = tree (named k) (flat ts)

-- a product some factor of which is one, opened
abbrev pub unwrapped : Tree → Option Tree
unwrapped (product ts) = if has_product ts then Some (product (flat ts)) else None
unwrapped _ = None

-- the child of that number: a sum has 0, a quotient 0 (top) and 1 (bottom), a product its factors
abbrev pub child : Tree → ℕ → Option Tree
child (prob a b c) i = None
child (sum u e) zero = Some e
child (sum u e) (suc i) = None
child (product ts) i = factor_at ts i
child (quotient p q) zero = Some p
child (quotient p q) (suc zero) = Some q
child (quotient p q) (suc (suc i)) = None
child (named k) i = None

-- the factors with factor i replaced by x
abbrev pub with_factor : Trees → ℕ → Tree → Trees
with_factor no_trees i x = no_trees
with_factor (tree t ts) zero x = tree x ts
with_factor (tree t ts) (suc i) x = tree t (with_factor ts i x)

-- the expression with that child replaced by x
abbrev pub with_child : Tree → ℕ → Tree → Tree
with_child (prob a b c) i x = prob a b c
with_child (sum u e) i x = sum u x
with_child (product ts) i x = product (with_factor ts i x)
with_child (quotient p q) zero x = quotient x q
with_child (quotient p q) (suc i) x = quotient p x
with_child (named k) i x = named k
