-- An expression, read back.
use Rattle.std.proofs.Common.{◌≡◌, ℕ, zero, suc, ◌+◌, ◌^◌, ◌≤◌, true, cond, not, eqb, ◌&&◌, List, [], ◌∷◌, ◌++◌, length, drop, Some, None, Ok, refl}
use Rattle.std.proofs.Common.{sym, ap, ◌∙◌, append_assoc, append-nil, arith, codes}
use Rattle.std.proofs.lemmas.List.{length-append}
use Rattle.std.proofs.lemmas.Bool.{ltb-true}
use Rattle.std.specs.List.{prefix_len}
use Rattle.prob_expr.specs.Tree.{Tree, prob, sum, product, quotient, named, tree}
use Rattle.prob_expr.specs.Vocabulary.{Trees, no_trees, trees_of}
use Rattle.mixed_graph.specs.Vocabulary.{is_empty, is_below, has}
use Rattle.answer_text.specs.declared.signs.Notation.TheVariants.{Plain}
use Rattle.answer_text.specs.Vocabulary.{is_white, names_in, member_names}
use Rattle.expr_text.specs.Bytes.{is_digit}
use Rattle.expr_text.specs.Read.{◌>>=◌, Parse, when, bad, trim, next_is, expect, named_at, Inner, in_parentheses, operand_at, sum_at, factor_at}
use Rattle.expr_text.specs.Read.{factor_step, repeat, factors_at, bottom_at, operands_at, expr_with, inner_of, expr_of}
use Rattle.expr_text.specs.declared.writing.Place.TheVariants.{Later}
use Rattle.expr_text.specs.Write.{parenthesized, wrapped, text_of, factors_in, deeper, nesting, nesting_each}
use Rattle.expr_text.proofs.Readable.{is_readable, are_readable, readable}
use Rattle.expr_text.specs.Laws.{ReadsBack}
use Rattle.expr_text.proofs.Within.{and_true, term_parts}
use Rattle.expr_text.proofs.Known.{AreKnown, known}
use Rattle.expr_text.proofs.Listed.{text_same, term_same}
use Rattle.expr_text.proofs.Fronts.{Stops, not_true}
use Rattle.expr_text.proofs.NamesBack.{names_are_read}
use Rattle.expr_text.proofs.NumbersBack.{number_is_read}
use Rattle.expr_text.proofs.TermsBack.{positive, term_is_read}
use Rattle.expr_text.proofs.Repeats.{end_with}
use Rattle.expr_text.proofs.Inner.{inner_suc}

-- ---- a space in front

drop_one : (n : ℕ) (b : ℕ) (bytes : List ℕ) → drop (1 + n) (b ∷ bytes) ≡ drop n bytes
drop_one n b bytes = let e : 1 + n ≡ suc n = omega arith in rw e refl

trim_space : (bytes : List ℕ) → trim (32 ∷ bytes) ≡ trim bytes
unfolding trim
trim_space bytes = drop_one (prefix_len is_white bytes) 32 bytes

operand_space : (names : List (List ℕ)) (inner : Inner) (bytes : List ℕ) → operand_at names inner (32 ∷ bytes) ≡ operand_at names inner bytes
unfolding operand_at next_is
operand_space names inner bytes = rw (trim_space bytes) refl

pub expr_space : (names : List (List ℕ)) (inner : Inner) (bytes : List ℕ) → expr_with names inner (32 ∷ bytes) ≡ expr_with names inner bytes
unfolding expr_with operands_at next_is
expr_space names inner bytes = rw (trim_space bytes, operand_space names inner bytes) refl

-- ---- what an expression ends at

pub record Ends (rest : List ℕ) : Type 0 where
  pub star : next_is (codes "*") rest ≡ None
  pub slash : next_is (codes "/") rest ≡ None
  pub digit : Stops is_digit rest

ends_closed : (rest : List ℕ) → Ends (41 ∷ rest)
unfolding next_is trim
ends_closed rest = record { star = refl; slash = refl; digit = refl }

pub ends_here : Ends []
unfolding next_is trim
ends_here = record { star = refl; slash = refl; digit = tt }

abbrev pub ExprBack : List (List ℕ) → Tree → Type 0
ExprBack names t = (d : ℕ) (rest : List ℕ) → is_readable (length names) t ≡ true → nesting t ≤ d → Ends rest
    → expr_with names (inner_of names d) (text_of names t ++ rest) ≡ Ok (t, rest)

abbrev OperandBack : List (List ℕ) → Tree → Type 0
OperandBack names t = (d : ℕ) (rest : List ℕ) → is_readable (length names) t ≡ true → deeper t (nesting t) ≤ d → Stops is_digit rest
    → operand_at names (inner_of names d) (wrapped Plain t (text_of names t) ++ rest) ≡ Ok (t, rest)

-- ---- operands

term_back : (names : List (List ℕ)) (a b c : ℕ) → AreKnown names → OperandBack names (prob a b c)
unfolding operand_at next_is trim
term_back names a b c are d rest sound deep digit =
    let n = length names in
    let parts = term_parts n a b c sound in
    let la = ltb-true a (2 ^ n) parts.first in
    let lb = ltb-true b (2 ^ n) parts.second in
    let lc = ltb-true c (2 ^ n) parts.third in
    ap (λ t. operand_at names (inner_of names d) (t ++ rest)) (term_same names a b c are.few la lb lc)
    ∙ term_is_read names a b c rest are (not_true (is_empty a) parts.some) la lb lc

named_back : (names : List (List ℕ)) (k : ℕ) → OperandBack names (named k)
unfolding operand_at named_at next_is trim
named_back names k d rest sound deep digit =
    ap (λ r. r >>= λ k. Ok (named k.0, k.1)) (number_is_read k rest (ltb-true _ _ sound) digit)

in_back : (names : List (List ℕ)) (t : Tree) → ExprBack names t → (d : ℕ) (rest : List ℕ) → is_readable (length names) t ≡ true → suc (nesting t) ≤ d
    → operand_at names (inner_of names d) (parenthesized Plain (text_of names t) ++ rest) ≡ Ok (t, rest)
unfolding operand_at in_parentheses expect next_is trim
in_back names t back zero rest sound deep = absurd (omega arith)
in_back names t back (suc d) rest sound deep =
    let text = text_of names t in
    ap (λ i. when i (bad (40 ∷ ((text ++ 41 ∷ []) ++ rest))) (λ read. in_parentheses read ((text ++ 41 ∷ []) ++ rest))) (inner_suc names d)
    ∙ ap (in_parentheses (expr_with names (inner_of names d))) (append_assoc text (41 ∷ []) rest)
    ∙ ap (λ r. r >>= λ e. expect (codes ")") e.1 >>= λ rest. Ok (e.0, rest)) (back d (41 ∷ rest) sound (omega arith) (ends_closed rest))

operand_from : (names : List (List ℕ)) (t : Tree) → AreKnown names → ExprBack names t → OperandBack names t
operand_from names (prob a b c) are back d rest sound deep digit = term_back names a b c are d rest sound deep digit
operand_from names (sum u e) are back d rest sound deep digit = in_back names (sum u e) back d rest sound deep
operand_from names (product ts) are back d rest sound deep digit = in_back names (product ts) back d rest sound deep
operand_from names (quotient p q) are back d rest sound deep digit = in_back names (quotient p q) back d rest sound deep
operand_from names (named k) are back d rest sound deep digit = named_back names k d rest sound deep digit

-- ---- expressions

no_sum : (names : List (List ℕ)) (t : Tree) (rest : List ℕ) → next_is (codes "sum") (wrapped Plain t (text_of names t) ++ rest) ≡ None
unfolding next_is trim
no_sum names (prob a b c) rest = refl
no_sum names (sum u e) rest = refl
no_sum names (product ts) rest = refl
no_sum names (quotient p q) rest = refl
no_sum names (named k) rest = refl

-- a first operand, and what comes behind it
abbrev behind : List (List ℕ) → Inner → Tree × List ℕ → Parse Tree
behind names inner first =
    when (next_is (codes "*") first.1) (
    when (next_is (codes "/") first.1) (Ok first) (bottom_at names inner first.0)
    ) (factors_at names inner first.0)

first_back : (names : List (List ℕ)) (t : Tree) (d : ℕ) (rest : List ℕ) → AreKnown names → ExprBack names t → is_readable (length names) t ≡ true
    → deeper t (nesting t) ≤ d → Stops is_digit rest
    → expr_with names (inner_of names d) (wrapped Plain t (text_of names t) ++ rest) ≡ behind names (inner_of names d) (t, rest)
unfolding expr_with operands_at
first_back names t d rest are back sound deep digit =
    let inner = inner_of names d in
    let text = wrapped Plain t (text_of names t) ++ rest in
    ap (λ o. when o (operands_at names inner text) (λ rest. when inner (bad text) (λ read. sum_at names read rest))) (no_sum names t rest)
    ∙ ap (λ r. r >>= behind names inner) (operand_from names t are back d rest sound deep digit)

behind_end : (names : List (List ℕ)) (inner : Inner) (t : Tree) (rest : List ℕ) → Ends rest → behind names inner (t, rest) ≡ Ok (t, rest)
behind_end names inner t rest ends = rw (ends.star, ends.slash) refl

bottom_back : (names : List (List ℕ)) (p q : Tree) (d : ℕ) (rest : List ℕ) → AreKnown names → ExprBack names q → is_readable (length names) q ≡ true
    → deeper q (nesting q) ≤ d → Stops is_digit rest
    → behind names (inner_of names d) (p, 32 ∷ 47 ∷ 32 ∷ (wrapped Plain q (text_of names q) ++ rest)) ≡ Ok (quotient p q, rest)
unfolding bottom_at next_is trim
bottom_back names p q d rest are back sound deep digit =
    ap (λ r. r >>= λ bottom. Ok (quotient p bottom.0, bottom.1))
    (operand_space names (inner_of names d) (wrapped Plain q (text_of names q) ++ rest) ∙ operand_from names q are back d rest sound deep digit)

quotient_back : (names : List (List ℕ)) (p q : Tree) → AreKnown names → ExprBack names p → ExprBack names q → ExprBack names (quotient p q)
quotient_back names p q are bp bq d rest sound deep ends =
    let n = length names in
    let parts = and_true (is_readable n p) (is_readable n q) sound in
    let wp = wrapped Plain p (text_of names p) in
    let wq = wrapped Plain q (text_of names q) in
    ap (expr_with names (inner_of names d)) (append_assoc wp (32 ∷ 47 ∷ 32 ∷ wq) rest)
    ∙ first_back names p d (32 ∷ 47 ∷ 32 ∷ (wq ++ rest)) are bp parts.0 (omega arith) refl
    ∙ bottom_back names p q d rest are bq parts.1 (omega arith) ends.digit

sum_back : (names : List (List ℕ)) (u : ℕ) (e : Tree) → AreKnown names → ExprBack names e → ExprBack names (sum u e)
unfolding expr_with sum_at expect next_is trim
sum_back names u e are back zero rest sound deep ends = absurd (omega arith)
sum_back names u e are back (suc d) rest sound deep ends =
    let n = length names in
    let parts = and_true (not (is_empty u)) (is_below n u && is_readable n e) sound in
    let more = and_true (is_below n u) (is_readable n e) parts.1 in
    let below = ltb-true u (2 ^ n) more.0 in
    let text = text_of names e in
    let inner = expr_with names (inner_of names d) in
    let commas = names_in Plain (member_names names (has u)) in
    let bytes = ((commas ++ 125 ∷ []) ++ 32 ∷ text) ++ rest in
    let grouped : bytes ≡ commas ++ 125 ∷ 32 ∷ (text ++ rest) =
    append_assoc (commas ++ 125 ∷ []) (32 ∷ text) rest ∙ append_assoc commas (125 ∷ []) (32 ∷ (text ++ rest)) in
    ap (λ i. when i (bad (115 ∷ 117 ∷ 109 ∷ 123 ∷ bytes)) (λ read. sum_at names read (123 ∷ bytes))) (inner_suc names d)
    ∙ ap (λ t. sum_at names inner (123 ∷ t)) (grouped ∙ ap (λ t. t ++ 125 ∷ 32 ∷ (text ++ rest)) (text_same names u are.few below))
    ∙ ap (λ r. r >>= λ over. expect (codes "}") over.1 >>= λ rest. inner rest >>= λ body. Ok (sum over.0 body.0, body.1))
    (names_are_read names u (125 ∷ 32 ∷ (text ++ rest)) are (positive u (not_true (is_empty u) parts.0)) below refl refl)
    ∙ ap (λ r. r >>= λ body. Ok (sum u body.0, body.1)) (expr_space names (inner_of names d) (text ++ rest) ∙ back d rest more.1 (omega arith) ends)

-- ---- products

abbrev EachBack : List (List ℕ) → Trees → Type 0
EachBack names no_trees = Unit {0}
EachBack names (tree t ts) = ExprBack names t × EachBack names ts

abbrev list_of : Trees → List Tree
list_of no_trees = []
list_of (tree t ts) = t ∷ list_of ts

trees_again : (ts : Trees) → trees_of (list_of ts) ≡ ts
trees_again no_trees = refl
trees_again (tree t ts) = ap (tree t) (trees_again ts)

stops_factors : (names : List (List ℕ)) (ts : Trees) (rest : List ℕ) → Stops is_digit rest → Stops is_digit (factors_in Plain Later names ts ++ rest)
stops_factors names no_trees rest s = s
stops_factors names (tree t ts) rest s = refl

factor_back : (names : List (List ℕ)) (before : List Tree) (t : Tree) (ts : Trees) (d : ℕ) (rest : List ℕ) → AreKnown names → ExprBack names t
    → is_readable (length names) t ≡ true → deeper t (nesting t) ≤ d → Stops is_digit rest
    → factor_at names (inner_of names d) before (32 ∷ ((wrapped Plain t (text_of names t) ++ factors_in Plain Later names ts) ++ rest))
    ≡ Ok (before ++ t ∷ [], factors_in Plain Later names ts ++ rest)
unfolding factor_at
factor_back names before t ts d rest are back sound deep digit =
    let w = wrapped Plain t (text_of names t) in
    let more = factors_in Plain Later names ts in
    ap (λ r. r >>= λ next. Ok (before ++ next.0 ∷ [], next.1)) (
    operand_space names (inner_of names d) ((w ++ more) ++ rest)
    ∙ ap (operand_at names (inner_of names d)) (append_assoc w more rest)
    ∙ operand_from names t are back d (more ++ rest) sound deep (stops_factors names ts rest digit))

regroup : (before : List Tree) (t : Tree) (ts : List Tree) → (before ++ t ∷ []) ++ ts ≡ before ++ t ∷ ts
regroup before t ts = append_assoc before (t ∷ []) ts

more_back : (names : List (List ℕ)) (ts : Trees) (d : ℕ) (rest : List ℕ) → AreKnown names → EachBack names ts → are_readable (length names) ts ≡ true
    → nesting_each ts ≤ d → Ends rest
    → (fuel : ℕ) (before : List Tree) → length (list_of ts) ≤ fuel → repeat (factor_step names (inner_of names d)) fuel before
    (factors_in Plain Later names ts ++ rest) ≡ Ok (before ++ list_of ts, rest)
unfolding next_is trim
more_back names no_trees d rest are each sound deep ends fuel before le =
    end_with (factor_step names (inner_of names d)) before rest fuel (ap (λ o. when o None (λ r. Some (factor_at names (inner_of names d) before r))) ends.star)
    ∙ ap (λ ts. Ok (ts, rest)) (sym (append-nil before))
more_back names (tree t ts) d rest are each sound deep ends zero before le = absurd (omega arith)
more_back names (tree t ts) d rest are each sound deep ends (suc fuel) before le =
    let n = length names in
    let parts = and_true (is_readable n t) (are_readable n ts) sound in
    let step = factor_step names (inner_of names d) in
    ap (λ r. r >>= λ p. repeat step fuel p.0 p.1) (factor_back names before t ts d rest are each.0 parts.0 (omega arith) ends.digit)
    ∙ more_back names ts d rest are each.1 parts.1 (omega arith) ends fuel (before ++ t ∷ []) (omega arith)
    ∙ ap (λ ts. Ok (ts, rest)) (regroup before t (list_of ts))

fewer : (names : List (List ℕ)) (ts : Trees) (rest : List ℕ) → length (list_of ts) ≤ length (factors_in Plain Later names ts ++ rest)
fewer names no_trees rest = omega arith
fewer names (tree t ts) rest =
    let w = wrapped Plain t (text_of names t) in
    let more = factors_in Plain Later names ts in
    omega (arith, fewer names ts rest, ap length (append_assoc w more rest), length-append w (more ++ rest))

factors_back : (names : List (List ℕ)) (t u : Tree) (ts : Trees) (d : ℕ) (rest : List ℕ) → AreKnown names → ExprBack names u → EachBack names ts
    → is_readable (length names) u ≡ true → are_readable (length names) ts ≡ true
    → deeper u (nesting u) ≤ d → nesting_each ts ≤ d → Ends rest
    → factors_at names (inner_of names d) t (32 ∷ ((wrapped Plain u (text_of names u) ++ factors_in Plain Later names ts) ++ rest))
    ≡ Ok (product (tree t (tree u ts)), rest)
unfolding factors_at
factors_back names t u ts d rest are back each su ss du ds ends =
    let step = factor_step names (inner_of names d) in
    let more = factors_in Plain Later names ts in
    ap (λ r. r >>= λ two. repeat step (length two.1) two.0 two.1 >>= λ all. Ok (product (trees_of all.0), all.1))
    (factor_back names (t ∷ []) u ts d rest are back su du ends.digit)
    ∙ ap (λ r. r >>= λ all. Ok (product (trees_of all.0), all.1)) (more_back names ts d rest are each ss ds ends (length (more ++ rest)) (t ∷ u ∷ [])
    (fewer names ts rest))
    ∙ ap (λ ts. Ok (product (tree t (tree u ts)), rest)) (trees_again ts)

behind_star : (names : List (List ℕ)) (inner : Inner) (t : Tree) (bytes : List ℕ) → behind names inner (t, 32 ∷ 42 ∷ bytes) ≡ factors_at names inner t bytes
unfolding next_is trim
behind_star names inner t bytes = refl

product_back : (names : List (List ℕ)) (ts : Trees) → AreKnown names → EachBack names ts → ExprBack names (product ts)
product_back names no_trees are each d rest sound deep ends = cc sound
product_back names (tree t no_trees) are each d rest sound deep ends = cc sound
product_back names (tree t (tree u ts)) are each d rest sound deep ends =
    let n = length names in
    let one = and_true (is_readable n t) (is_readable n u && are_readable n ts) sound in
    let two = and_true (is_readable n u) (are_readable n ts) one.1 in
    let w = wrapped Plain t (text_of names t) in
    let more = wrapped Plain u (text_of names u) ++ factors_in Plain Later names ts in
    ap (expr_with names (inner_of names d)) (append_assoc w (32 ∷ 42 ∷ 32 ∷ more) rest)
    ∙ first_back names t d (32 ∷ 42 ∷ 32 ∷ (more ++ rest)) are each.0 one.0 (omega arith) refl
    ∙ behind_star names (inner_of names d) t (32 ∷ (more ++ rest))
    ∙ factors_back names t u ts d rest are each.1.0 each.1.1 two.0 two.1 (omega arith) (omega arith) ends

-- ---- every expression

-- an expression that is an operand as it stands
leaf_back : (names : List (List ℕ)) (t : Tree) (d : ℕ) (rest : List ℕ) → next_is (codes "sum") (text_of names t ++ rest) ≡ None
    → operand_at names (inner_of names d) (text_of names t ++ rest) ≡ Ok (t, rest) → Ends rest → expr_with names (inner_of names d) (text_of names t ++ rest)
    ≡ Ok (t, rest)
unfolding expr_with operands_at
leaf_back names t d rest none read ends =
    let inner = inner_of names d in
    let text = text_of names t ++ rest in
    ap (λ o. when o (operands_at names inner text) (λ rest. when inner (bad text) (λ read. sum_at names read rest))) none
    ∙ ap (λ r. r >>= behind names inner) read
    ∙ behind_end names inner t rest ends

mutual
  pub expr_back : (names : List (List ℕ)) → AreKnown names → (t : Tree) → ExprBack names t
  expr_back names are (prob a b c) d rest sound deep ends =
      leaf_back names (prob a b c) d rest (no_sum names (prob a b c) rest) (term_back names a b c are d rest sound deep ends.digit) ends
  expr_back names are (sum u e) d rest sound deep ends = sum_back names u e are (expr_back names are e) d rest sound deep ends
  expr_back names are (product ts) d rest sound deep ends = product_back names ts are (each_back names are ts) d rest sound deep ends
  expr_back names are (quotient p q) d rest sound deep ends = quotient_back names p q are (expr_back names are p) (expr_back names are q) d rest sound deep ends
  expr_back names are (named k) d rest sound deep ends =
      leaf_back names (named k) d rest (no_sum names (named k) rest) (named_back names k d rest sound deep ends.digit) ends

  each_back : (names : List (List ℕ)) → AreKnown names → (ts : Trees) → EachBack names ts
  each_back names are no_trees = tt
  each_back names are (tree t ts) = (expr_back names are t, each_back names are ts)

-- the text of a sound expression is read as that expression, where parentheses and sums nest 60 deep at most
pub reads_back : ReadsBack
unfolding expr_of trim
reads_back names t are sound numbered nests =
    ap (expr_of names) (sym (append-nil (text_of names t)))
    ∙ ap (λ r. r >>= λ e. cond (eqb (length (trim e.1)) 0) (Ok e.0) (bad e.1))
    (expr_back names (known names are) t 60 [] (readable (length names) t sound numbered) nests ends_here)
