-- What is read is of the grammar.
use Rattle.std.proofs.Common.{◌≡◌, ℕ, zero, suc, ◌+◌, Bool, true, false, cond, eqb, List, [], ◌∷◌, ◌++◌, length, Option, Some, None, Result, Ok, Err}
use Rattle.std.proofs.Common.{inl, inr, refl, sym, ap, subst, ◌∙◌, append_assoc, append-nil, arith, codes, eqb-true, ne_eqb, is_none, length-append}
use Rattle.prob_expr.specs.Vocabulary.{fault_in, trees_of, PlainFormula}
use Rattle.prob_expr.specs.Tree.{Tree, prob, sum, product, quotient, named}
use Rattle.expr_text.specs.Read.{◌>>=◌, when, bad, trim, next_is, expect, name_at, name_step, names_at, repeat, number_at, given_at, doing_at}
use Rattle.expr_text.specs.Read.{conds_at, term_at, named_at, in_parentheses, operand_at, sum_at, factor_at, factor_step, factors_at, bottom_at}
use Rattle.expr_text.specs.Read.{operands_at, expr_with, inner_of, expr_of, def_body, def_at, def_step, checked, formula_of}
use Rattle.expr_text.specs.Grammar.{Token, MoreNames, Set, Number, Conds, no_conds, given_alone, done_alone, done_and_given, Operand, term}
use Rattle.expr_text.specs.Grammar.{definition, nested, MoreFactors, Expr, summed, alone, multiplied, divided, Inside, Nested, Definitions}
use Rattle.expr_text.specs.Grammar.{IsExprText, IsFormulaText}
use Rattle.expr_text.proofs.GrammarTokens.{bind_ok, when_is, ok_parts, next_token, expect_ok, trim_is_blank, member_front}
use Rattle.expr_text.proofs.GrammarNumbers.{number_front}

-- ---- sets

more_names : (names : List (List ℕ)) (fuel have : ℕ) (bytes : List ℕ) (set : ℕ) (rest : List ℕ) → repeat (name_step names) fuel have bytes ≡ Ok (set, rest)
    → (vs : List ℕ) × MoreNames names vs have set bytes rest
more_names names zero have bytes set rest h = ([], ok_parts have set bytes rest h)
more_names names (suc fuel) have bytes set rest h = go (λ n b. more_names names fuel n b set rest) (next_is (codes ",") bytes) refl h
  where
    go : ((n : ℕ) (b : List ℕ) → repeat (name_step names) fuel n b ≡ Ok (set, rest) → (vs : List ℕ) × MoreNames names vs n set b rest) → (o : Option (List ℕ))
        → next_is (codes ",") bytes ≡ o → when (when o None (λ r. Some (name_at names have r))) (Ok (have, bytes))
        (λ r. r >>= λ p. repeat (name_step names) fuel p.0 p.1) ≡ Ok (set, rest) → (vs : List ℕ) × MoreNames names vs have set bytes rest
    go later None e h = ([], ok_parts have set bytes rest h)
    go later (Some a) e h =
        let b = bind_ok (name_at names have a) (λ p. repeat (name_step names) fuel p.0 p.1) (set, rest) h in
        let m = member_front names have a b.0.0 b.0.1 b.1 in
        let more = later b.0.0 b.0.1 b.2 in
        (m.0 ∷ more.0, (a, b.0.1, next_token (codes ",") bytes a e, m.1, subst (λ n. MoreNames names more.0 n set b.0.1 rest) (sym m.2) more.1))

set_front : (names : List (List ℕ)) (bytes : List ℕ) (set : ℕ) (rest : List ℕ) → names_at names bytes ≡ Ok (set, rest) → Set names set bytes rest
unfolding names_at
set_front names bytes set rest h =
    let b = bind_ok (name_at names 0 bytes) (λ first. repeat (name_step names) (length first.1) first.0 first.1) (set, rest) h in
    let m = member_front names 0 bytes b.0.0 b.0.1 b.1 in
    let more = more_names names (length b.0.1) b.0.0 b.0.1 set rest b.2 in
    record { first = m.0; others = more.0; behind = b.0.1; name = m.1; more = subst (λ n. MoreNames names more.0 n set b.0.1 rest) (sym m.2) more.1 }

-- ---- terms

-- what is given, read behind what is done
record GivenRead (names : List (List ℕ)) (done doing given : ℕ) (bytes rest : List ℕ) : Type 0 where
  pub doing_is : done ≡ doing
  pub set : Set names given bytes rest

given_front : (names : List (List ℕ)) (done : ℕ) (bytes : List ℕ) (doing given : ℕ) (rest : List ℕ) → given_at names done bytes ≡ Ok ((doing, given), rest)
    → GivenRead names done doing given bytes rest
unfolding given_at
given_front names done bytes doing given rest h =
    let b = bind_ok (names_at names bytes) (λ g. Ok ((done, g.0), g.1)) ((doing, given), rest) h in
    let p = ok_parts (done, b.0.0) (doing, given) b.0.1 rest b.2 in
    record {
      doing_is = ap (λ (q : ℕ × ℕ). q.0) p.0;
      set = subst (λ n. Set names n bytes rest) (ap (λ (q : ℕ × ℕ). q.1) p.0)
          (subst (λ r. Set names b.0.0 bytes r) p.1 (set_front names bytes b.0.0 b.0.1 b.1));
    }

conds_front : (names : List (List ℕ)) (bytes : List ℕ) (doing given : ℕ) (rest : List ℕ) → conds_at names bytes ≡ Ok ((doing, given), rest)
    → Conds names doing given bytes rest
unfolding conds_at doing_at
conds_front names bytes doing given rest h = elim (when_is (next_is (codes "|") bytes) (Ok ((0, 0), bytes))
    (λ rest. when (next_is (codes "do(") rest) (given_at names 0 rest) (doing_at names)) (Ok ((doing, given), rest)) h) [
      | inl n ↦
          let p = ok_parts (0, 0) (doing, given) bytes rest n.1 in
          no_conds (ap (λ (q : ℕ × ℕ). q.0) p.0) (ap (λ (q : ℕ × ℕ). q.1) p.0) p.1
      | inr s ↦
          let bar = next_token (codes "|") bytes s.0 s.1 in
          elim (when_is (next_is (codes "do(") s.0) (given_at names 0 s.0) (doing_at names) (Ok ((doing, given), rest)) s.2) [
            | inl n ↦ let g = given_front names 0 s.0 doing given rest n.1 in given_alone s.0 g.doing_is bar g.set
            | inr u ↦
                let b = bind_ok (names_at names u.0) (λ done. expect (codes ")") done.1 >>= λ rest. when (next_is (codes ",") rest) (Ok ((done.0, 0), rest))
                (given_at names done.0)) ((doing, given), rest) u.2 in
                let c = bind_ok (expect (codes ")") b.0.1) (λ rest. when (next_is (codes ",") rest) (Ok ((b.0.0, 0), rest)) (given_at names b.0.0))
                ((doing, given), rest) b.2 in
                let done = set_front names u.0 b.0.0 b.0.1 b.1 in
                let close = expect_ok (codes ")") b.0.1 c.0 c.1 in
                let word = next_token (codes "do(") s.0 u.0 u.1 in
                elim (when_is (next_is (codes ",") c.0) (Ok ((b.0.0, 0), c.0)) (given_at names b.0.0) (Ok ((doing, given), rest)) c.2) [
                  | inl n ↦
                      let p = ok_parts (b.0.0, 0) (doing, given) c.0 rest n.1 in
                      done_alone s.0 u.0 b.0.1 (ap (λ (q : ℕ × ℕ). q.1) p.0) bar word (subst (λ k. Set names k u.0 b.0.1) (ap (λ (q : ℕ × ℕ). q.0) p.0) done)
                      (subst (λ r. Token (codes ")") b.0.1 r) p.1 close)
                  | inr v ↦
                      let g = given_front names b.0.0 v.0 doing given rest v.2 in
                      done_and_given s.0 u.0 b.0.1 c.0 v.0 bar word (subst (λ k. Set names k u.0 b.0.1) g.doing_is done) close
                      (next_token (codes ",") c.0 v.0 v.1) g.set
                ]
          ]
    ]

-- ---- operands

-- what is read inside parentheses and sums is of the grammar
abbrev InsideFront : List (List ℕ) → ℕ → Type 0
InsideFront names d = (t : Tree) (bytes rest : List ℕ) → expr_with names (inner_of names d) bytes ≡ Ok (t, rest) → Expr names (Inside names d) t bytes rest

term_front : (names : List (List ℕ)) (inside : Tree → List ℕ → List ℕ → Type 0) (t : Tree) (bytes a rest : List ℕ) → Token (codes "P(") bytes a
    → term_at names a ≡ Ok (t, rest) → Operand names inside t bytes rest
unfolding term_at
term_front names inside t bytes a rest start h =
    let b = bind_ok (names_at names a) (λ first. conds_at names first.1 >>= λ conds. expect (codes ")") conds.1 >>= λ rest. Ok
    (prob first.0 conds.0.0 conds.0.1, rest)) (t, rest) h in
    let c = bind_ok (conds_at names b.0.1) (λ conds. expect (codes ")") conds.1 >>= λ rest. Ok (prob b.0.0 conds.0.0 conds.0.1, rest)) (t, rest) b.2 in
    let e = bind_ok (expect (codes ")") c.0.1) (λ rest. Ok (prob b.0.0 c.0.0.0 c.0.0.1, rest)) (t, rest) c.2 in
    let p = ok_parts (prob b.0.0 c.0.0.0 c.0.0.1) t e.0 rest e.2 in
    term b.0.0 c.0.0.0 c.0.0.1 a b.0.1 c.0.1 p.0 start (set_front names a b.0.0 b.0.1 b.1) (conds_front names b.0.1 c.0.0.0 c.0.0.1 c.0.1 c.1)
    (subst (λ r. Token (codes ")") c.0.1 r) p.1 (expect_ok (codes ")") c.0.1 e.0 e.1))

named_front : (names : List (List ℕ)) (inside : Tree → List ℕ → List ℕ → Type 0) (t : Tree) (bytes a rest : List ℕ) → Token (codes "q") bytes a → named_at a
    ≡ Ok (t, rest) → Operand names inside t bytes rest
unfolding named_at
named_front names inside t bytes a rest start h =
    let b = bind_ok (number_at a) (λ k. Ok (named k.0, k.1)) (t, rest) h in
    let p = ok_parts (named b.0.0) t b.0.1 rest b.2 in
    definition b.0.0 a p.0 start (subst (λ r. Number b.0.0 a r) p.1 (number_front a b.0.0 b.0.1 b.1))

nested_front : (names : List (List ℕ)) (d : ℕ) (t : Tree) (bytes a rest : List ℕ) → InsideFront names d → Token (codes "(") bytes a
    → in_parentheses (expr_with names (inner_of names d)) a ≡ Ok (t, rest) → Operand names (Inside names (suc d)) t bytes rest
unfolding in_parentheses
nested_front names d t bytes a rest front start h =
    let b = bind_ok (expr_with names (inner_of names d) a) (λ e. expect (codes ")") e.1 >>= λ rest. Ok (e.0, rest)) (t, rest) h in
    let c = bind_ok (expect (codes ")") b.0.1) (λ rest. Ok (b.0.0, rest)) (t, rest) b.2 in
    let p = ok_parts b.0.0 t c.0 rest c.2 in
    nested a b.0.1 start (subst (λ u. Inside names (suc d) u a b.0.1) p.0 (front b.0.0 a b.0.1 b.1))
    (subst (λ r. Token (codes ")") b.0.1 r) p.1 (expect_ok (codes ")") b.0.1 c.0 c.1))

-- behind `(`, where so many may still nest
in_front : (names : List (List ℕ)) (d : ℕ) (t : Tree) (bytes a rest : List ℕ) → ((e : ℕ) → d ≡ suc e → InsideFront names e) → Token (codes "(") bytes a
    → when (inner_of names d) (bad bytes) (λ read. in_parentheses read a) ≡ Ok (t, rest) → Operand names (Inside names d) t bytes rest
unfolding inner_of
in_front names zero t bytes a rest front start h = absurd cc
in_front names (suc d) t bytes a rest front start h = nested_front names d t bytes a rest (front d refl) start h

operand_front : (names : List (List ℕ)) (d : ℕ) (t : Tree) (bytes rest : List ℕ) → ((e : ℕ) → d ≡ suc e → InsideFront names e)
    → operand_at names (inner_of names d) bytes ≡ Ok (t, rest) → Operand names (Inside names d) t bytes rest
unfolding operand_at
operand_front names d t bytes rest front h =
    let inner = inner_of names d in
    let third : List ℕ → Result (Tree × List ℕ) ℕ = λ a. when inner (bad bytes) (λ read. in_parentheses read a) in
    let second : Result (Tree × List ℕ) ℕ = when (next_is (codes "(") bytes) (bad bytes) third in
    let first : Result (Tree × List ℕ) ℕ = when (next_is (codes "q") bytes) second named_at in
    elim (when_is (next_is (codes "P(") bytes) first (term_at names) (Ok (t, rest)) h) [
      | inr s ↦ term_front names (Inside names d) t bytes s.0 rest (next_token (codes "P(") bytes s.0 s.1) s.2
      | inl n ↦ elim (when_is (next_is (codes "q") bytes) second named_at (Ok (t, rest)) n.1) [
        | inr s ↦ named_front names (Inside names d) t bytes s.0 rest (next_token (codes "q") bytes s.0 s.1) s.2
        | inl m ↦ elim (when_is (next_is (codes "(") bytes) (bad bytes) third (Ok (t, rest)) m.1) [
          | inr s ↦ in_front names d t bytes s.0 rest front (next_token (codes "(") bytes s.0 s.1) s.2
          | inl k ↦ absurd (let e = k.1 in cc)
        ]
      ]
    ]

-- ---- expressions

-- what is read of one factor more
record FactorRead (names : List (List ℕ)) (d : ℕ) (before after : List Tree) (bytes rest : List ℕ) : Type 0 where
  pub factor : Tree
  pub operand : Operand names (Inside names d) factor bytes rest
  pub all : before ++ factor ∷ [] ≡ after

factor_front : (names : List (List ℕ)) (d : ℕ) (before : List Tree) (bytes : List ℕ) (after : List Tree) (rest : List ℕ)
    → ((e : ℕ) → d ≡ suc e → InsideFront names e)
    → factor_at names (inner_of names d) before bytes ≡ Ok (after, rest) → FactorRead names d before after bytes rest
unfolding factor_at
factor_front names d before bytes after rest front h =
    let b = bind_ok (operand_at names (inner_of names d) bytes) (λ next. Ok (before ++ next.0 ∷ [], next.1)) (after, rest) h in
    let p = ok_parts (before ++ b.0.0 ∷ []) after b.0.1 rest b.2 in
    record {
      factor = b.0.0;
      operand = subst (λ r. Operand names (Inside names d) b.0.0 bytes r) p.1 (operand_front names d b.0.0 bytes b.0.1 front b.1);
      all = p.0;
    }

-- what is read of the factors that are left
record FactorsRead (names : List (List ℕ)) (d : ℕ) (before after : List Tree) (bytes rest : List ℕ) : Type 0 where
  pub factors : List Tree
  pub more : MoreFactors names (Inside names d) factors bytes rest
  pub all : before ++ factors ≡ after

more_factors : (names : List (List ℕ)) (d fuel : ℕ) (before : List Tree) (bytes : List ℕ) (after : List Tree) (rest : List ℕ)
    → ((e : ℕ) → d ≡ suc e → InsideFront names e)
    → repeat (factor_step names (inner_of names d)) fuel before bytes ≡ Ok (after, rest) → FactorsRead names d before after bytes rest
more_factors names d zero before bytes after rest front h =
    let p = ok_parts before after bytes rest h in record { factors = []; more = p.1; all = append-nil before ∙ p.0 }
more_factors names d (suc fuel) before bytes after rest front h = go (λ ts b. more_factors names d fuel ts b after rest front) (next_is (codes "*") bytes)
    refl h
  where
    go : ((ts : List Tree) (b : List ℕ) → repeat (factor_step names (inner_of names d)) fuel ts b ≡ Ok (after, rest) → FactorsRead names d ts after b rest)
        → (o : Option (List ℕ)) → next_is (codes "*") bytes ≡ o
        → when (when o None (λ r. Some (factor_at names (inner_of names d) before r))) (Ok (before, bytes))
        (λ r. r >>= λ p. repeat (factor_step names (inner_of names d)) fuel p.0 p.1) ≡ Ok (after, rest)
        → FactorsRead names d before after bytes rest
    go later None e h = let p = ok_parts before after bytes rest h in record { factors = []; more = p.1; all = append-nil before ∙ p.0 }
    go later (Some a) e h =
        let b = bind_ok (factor_at names (inner_of names d) before a) (λ p. repeat (factor_step names (inner_of names d)) fuel p.0 p.1) (after, rest) h in
        let f = factor_front names d before a b.0.0 b.0.1 front b.1 in
        let more = later b.0.0 b.0.1 b.2 in
        record {
          factors = f.factor ∷ more.factors;
          more = (a, b.0.1, next_token (codes "*") bytes a e, f.operand, more.more);
          all = sym (append_assoc before (f.factor ∷ []) more.factors) ∙ ap (λ t. t ++ more.factors) f.all ∙ more.all;
        }

operands_front : (names : List (List ℕ)) (d : ℕ) (t : Tree) (bytes rest : List ℕ) → ((e : ℕ) → d ≡ suc e → InsideFront names e)
    → operands_at names (inner_of names d) bytes ≡ Ok (t, rest) → Expr names (Inside names d) t bytes rest
unfolding operands_at factors_at bottom_at
operands_front names d t bytes rest front h =
    let inner = inner_of names d in
    let b = bind_ok (operand_at names inner bytes) (λ first. when (next_is (codes "*") first.1)
    (when (next_is (codes "/") first.1) (Ok first) (bottom_at names inner first.0)) (factors_at names inner first.0)) (t, rest) h in
    let first = operand_front names d b.0.0 bytes b.0.1 front b.1 in
    let other : Result (Tree × List ℕ) ℕ = when (next_is (codes "/") b.0.1) (Ok b.0) (bottom_at names inner b.0.0) in
    elim (when_is (next_is (codes "*") b.0.1) other (factors_at names inner b.0.0) (Ok (t, rest)) b.2) [
      | inr s ↦
          let c = bind_ok (factor_at names inner (b.0.0 ∷ []) s.0) (λ two. repeat (factor_step names inner) (length two.1) two.0 two.1 >>= λ all. Ok
          (product (trees_of all.0), all.1)) (t, rest) s.2 in
          let e = bind_ok (repeat (factor_step names inner) (length c.0.1) c.0.0 c.0.1) (λ all. Ok (product (trees_of all.0), all.1)) (t, rest) c.2 in
          let p = ok_parts (product (trees_of e.0.0)) t e.0.1 rest e.2 in
          let f = factor_front names d (b.0.0 ∷ []) s.0 c.0.0 c.0.1 front c.1 in
          let more = more_factors names d (length c.0.1) c.0.0 c.0.1 e.0.0 e.0.1 front e.1 in
          let all : b.0.0 ∷ f.factor ∷ more.factors ≡ e.0.0 = ap (λ t. t ++ more.factors) f.all ∙ more.all in
          multiplied b.0.0 f.factor more.factors b.0.1 (ap (λ ts. product (trees_of ts)) all ∙ p.0) first
          (s.0, c.0.1, next_token (codes "*") b.0.1 s.0 s.1, f.operand, subst (λ r. MoreFactors names (Inside names d) more.factors c.0.1 r) p.1 more.more)
      | inl n ↦ elim (when_is (next_is (codes "/") b.0.1) (Ok b.0) (bottom_at names inner b.0.0) (Ok (t, rest)) n.1) [
        | inr s ↦
            let c = bind_ok (operand_at names inner s.0) (λ bottom. Ok (quotient b.0.0 bottom.0, bottom.1)) (t, rest) s.2 in
            let p = ok_parts (quotient b.0.0 c.0.0) t c.0.1 rest c.2 in
            divided b.0.0 c.0.0 b.0.1 s.0 p.0 first (next_token (codes "/") b.0.1 s.0 s.1)
            (subst (λ r. Operand names (Inside names d) c.0.0 s.0 r) p.1 (operand_front names d c.0.0 s.0 c.0.1 front c.1))
        | inl m ↦
            let p = ok_parts b.0.0 t b.0.1 rest m.1 in
            alone (subst (λ u. Operand names (Inside names d) u bytes rest) p.0 (subst (λ r. Operand names (Inside names d) b.0.0 bytes r) p.1 first))
      ]
    ]

sum_front : (names : List (List ℕ)) (d : ℕ) (t : Tree) (bytes a rest : List ℕ) → ((e : ℕ) → d ≡ suc e → InsideFront names e) → Token (codes "sum") bytes a
    → when (inner_of names d) (bad bytes) (λ read. sum_at names read a) ≡ Ok (t, rest) → Expr names (Inside names d) t bytes rest
unfolding inner_of sum_at
sum_front names zero t bytes a rest front word h = absurd cc
sum_front names (suc d) t bytes a rest front word h =
    let inner = expr_with names (inner_of names d) in
    let b = bind_ok (expect (codes "{") a) (λ start. names_at names start >>= λ over. expect (codes "}") over.1 >>= λ rest. inner rest >>= λ body. Ok
    (sum over.0 body.0, body.1)) (t, rest) h in
    let c = bind_ok (names_at names b.0) (λ over. expect (codes "}") over.1 >>= λ rest. inner rest >>= λ body. Ok (sum over.0 body.0, body.1)) (t, rest) b.2 in
    let e = bind_ok (expect (codes "}") c.0.1) (λ rest. inner rest >>= λ body. Ok (sum c.0.0 body.0, body.1)) (t, rest) c.2 in
    let f = bind_ok (inner e.0) (λ body. Ok (sum c.0.0 body.0, body.1)) (t, rest) e.2 in
    let p = ok_parts (sum c.0.0 f.0.0) t f.0.1 rest f.2 in
    summed c.0.0 f.0.0 a b.0 c.0.1 e.0 p.0 word (expect_ok (codes "{") a b.0 b.1) (set_front names b.0 c.0.0 c.0.1 c.1) (expect_ok (codes "}") c.0.1 e.0 e.1)
    (subst (λ r. Expr names (Inside names d) f.0.0 e.0 r) p.1 (front d refl f.0.0 e.0 f.0.1 f.1))

one_more : (names : List (List ℕ)) (d : ℕ) → ((e : ℕ) → d ≡ suc e → InsideFront names e) → InsideFront names d
unfolding expr_with
one_more names d front t bytes rest h =
    let inner = inner_of names d in
    elim (when_is (next_is (codes "sum") bytes) (operands_at names inner bytes) (λ a. when inner (bad bytes) (λ read. sum_at names read a)) (Ok (t, rest)) h) [
      | inl n ↦ operands_front names d t bytes rest front n.1
      | inr s ↦ sum_front names d t bytes s.0 rest front (next_token (codes "sum") bytes s.0 s.1) s.2
    ]

pub expr_front : (names : List (List ℕ)) (d : ℕ) → InsideFront names d
expr_front names zero = one_more names zero (λ e h. absurd (omega arith))
expr_front names (suc d) = one_more names (suc d) (λ e h. subst (InsideFront names) (let k : d ≡ e = omega arith in k) (expr_front names d))

-- ---- whole texts

ended : {X : Type 0} (rest : List ℕ) (x y : X) (fault : Result X ℕ) (n : ℕ) → fault ≡ Err n → cond (eqb (length (trim rest)) 0) (Ok x) fault ≡ Ok y → (x ≡ y)
    × (trim rest ≡ [])
ended rest x y fault n f h = go (trim rest) refl h
  where
    go : (t : List ℕ) → trim rest ≡ t → cond (eqb (length t) 0) (Ok x) fault ≡ Ok y → (x ≡ y) × (trim rest ≡ [])
    go [] e h = ((let k = h in cc), e)
    go (b ∷ t) e h = absurd (let k = h in let no = ne_eqb (length (b ∷ t)) 0 (λ z. omega arith) in let m : fault ≡ Ok y =
        sym (ap (λ c. cond c (Ok x) fault) no) ∙ h in let g = f in cc)

pub text_front : (names : List (List ℕ)) (t : Tree) (text : List ℕ) → expr_of names text ≡ Ok t → IsExprText names t text
unfolding expr_of
text_front names t text h =
    let b = bind_ok (expr_with names (inner_of names 60) text) (λ e. cond (eqb (length (trim e.1)) 0) (Ok e.0) (bad e.1)) t h in
    let p = ended b.0.1 b.0.0 t (bad b.0.1) (length (trim b.0.1)) refl b.2 in
    record { rest = b.0.1; expr = subst (λ u. Nested names u text b.0.1) p.0 (expr_front names 60 b.0.0 text b.0.1 b.1); end = trim_is_blank b.0.1 p.1 }

-- what is read of one definition
record DefRead (names : List (List ℕ)) (before after : List Tree) (bytes rest : List ℕ) : Type 0 where
  pub def : Tree
  pub number : List ℕ
  pub sign : List ℕ
  pub k : Number (length before) bytes number
  pub equals : Token (codes "=") number sign
  pub expr : Nested names def sign rest
  pub all : before ++ def ∷ [] ≡ after

def_front : (names : List (List ℕ)) (before : List Tree) (bytes : List ℕ) (after : List Tree) (rest : List ℕ) → def_at names before bytes ≡ Ok (after, rest)
    → DefRead names before after bytes rest
unfolding def_at def_body
def_front names before bytes after rest h =
    let b = bind_ok (number_at bytes) (λ k. cond (eqb k.0 (length before)) (def_body names before k.1) (bad bytes)) (after, rest) h in
    let at = chosen (eqb b.0.0 (length before)) (def_body names before b.0.1) (after, rest) (length (trim bytes)) b.2 in
    let c = bind_ok (expect (codes "=") b.0.1) (λ rest. expr_with names (inner_of names 60) rest >>= λ e. Ok (before ++ e.0 ∷ [], e.1)) (after, rest) at.1 in
    let e = bind_ok (expr_with names (inner_of names 60) c.0) (λ e. Ok (before ++ e.0 ∷ [], e.1)) (after, rest) c.2 in
    let p = ok_parts (before ++ e.0.0 ∷ []) after e.0.1 rest e.2 in
    record {
      def = e.0.0;
      number = b.0.1;
      sign = c.0;
      k = subst (λ k. Number k bytes b.0.1) (eqb-true b.0.0 (length before) at.0) (number_front bytes b.0.0 b.0.1 b.1);
      equals = expect_ok (codes "=") b.0.1 c.0 c.1;
      expr = subst (λ r. Nested names e.0.0 c.0 r) p.1 (expr_front names 60 e.0.0 c.0 e.0.1 e.1);
      all = p.0;
    }
  where
    chosen : {X : Type 0} (b : Bool) (r : Result X ℕ) (y : X) (n : ℕ) → cond b r (Err n) ≡ Ok y → (b ≡ true) × (r ≡ Ok y)
    chosen true r y n h = (refl, h)
    chosen false r y n h = absurd cc

-- what is read of the definitions that are left
record DefsRead (names : List (List ℕ)) (before after : List Tree) (bytes rest : List ℕ) : Type 0 where
  pub defs : List Tree
  pub more : Definitions names (length before) defs bytes rest
  pub all : before ++ defs ≡ after

more_defs : (names : List (List ℕ)) (fuel : ℕ) (before : List Tree) (bytes : List ℕ) (after : List Tree) (rest : List ℕ)
    → repeat (def_step names) fuel before bytes ≡ Ok (after, rest) → DefsRead names before after bytes rest
more_defs names zero before bytes after rest h =
    let p = ok_parts before after bytes rest h in record { defs = []; more = p.1; all = append-nil before ∙ p.0 }
more_defs names (suc fuel) before bytes after rest h = go (λ ds b. more_defs names fuel ds b after rest) (next_is (codes "q") bytes) refl h
  where
    go : ((ds : List Tree) (b : List ℕ) → repeat (def_step names) fuel ds b ≡ Ok (after, rest) → DefsRead names ds after b rest) → (o : Option (List ℕ))
        → next_is (codes "q") bytes ≡ o → when (when o None (λ r. Some (def_at names before r))) (Ok (before, bytes))
        (λ r. r >>= λ p. repeat (def_step names) fuel p.0 p.1) ≡ Ok (after, rest) → DefsRead names before after bytes rest
    go later None e h = let p = ok_parts before after bytes rest h in record { defs = []; more = p.1; all = append-nil before ∙ p.0 }
    go later (Some a) e h =
        let b = bind_ok (def_at names before a) (λ p. repeat (def_step names) fuel p.0 p.1) (after, rest) h in
        let f = def_front names before a b.0.0 b.0.1 b.1 in
        let more = later b.0.0 b.0.1 b.2 in
        let count : length b.0.0 ≡ length before + 1 = omega (arith, ap length f.all, length-append before (f.def ∷ [])) in
        record {
          defs = f.def ∷ more.defs;
          more = (
            a,
            f.number,
            f.sign,
            b.0.1,
            next_token (codes "q") bytes a e,
            f.k,
            f.equals,
            f.expr,
            subst (λ k. Definitions names k more.defs b.0.1 rest) count more.more,
          );
          all = sym (append_assoc before (f.def ∷ []) more.defs) ∙ ap (λ t. t ++ more.defs) f.all ∙ more.all;
        }

pub formula_front : (names : List (List ℕ)) (f : PlainFormula) (text : List ℕ) → formula_of names text ≡ Ok f → IsFormulaText names f text
    × (fault_in (length names) f ≡ None)
unfolding formula_of
formula_front names f text h =
    let n = length names in
    let b = bind_ok (expr_with names (inner_of names 60) text) (λ main. repeat (def_step names) (length main.1) [] main.1 >>= λ defs. cond
    (eqb (length (trim defs.1)) 0) (checked n (record { defs = defs.0; main = main.0 })) (bad defs.1)) f h in
    let c = bind_ok (repeat (def_step names) (length b.0.1) [] b.0.1) (λ defs. cond (eqb (length (trim defs.1)) 0)
    (checked n (record { defs = defs.0; main = b.0.0 })) (bad defs.1)) f b.2 in
    let d = more_defs names (length b.0.1) [] b.0.1 c.0.0 c.0.1 c.1 in
    let g : PlainFormula = record { defs = c.0.0; main = b.0.0 } in
    let e = check_ended c.0.1 g f (length (trim c.0.1)) n c.2 in
    let spelled : IsFormulaText names g text = record {
      behind = b.0.1;
      rest = c.0.1;
      main = expr_front names 60 b.0.0 text b.0.1 b.1;
      defs = subst (λ ds. Definitions names 0 ds b.0.1 c.0.1) d.all d.more;
      end = trim_is_blank c.0.1 e.2;
    } in
    (subst (λ h. IsFormulaText names h text) e.0 spelled, subst (λ h. fault_in n h ≡ None) e.0 e.1)
  where
    checked_is : (n : ℕ) (g f : PlainFormula) (o : Bool) → is_none (fault_in n g) ≡ o → cond {A = Result PlainFormula ℕ} o (Ok g) (Err 0) ≡ Ok f → (g ≡ f)
        × (is_none (fault_in n g) ≡ true)
    checked_is n g f true e h = ((let k = h in cc), e)
    checked_is n g f false e h = absurd cc

    none_is : {X : Type 0} (o : Option X) → is_none o ≡ true → o ≡ None
    none_is None h = refl
    none_is (Some x) h = absurd cc

    check_ended : (rest : List ℕ) (g f : PlainFormula) (k n : ℕ) → cond (eqb (length (trim rest)) 0) (checked n g) (Err k) ≡ Ok f → (g ≡ f)
        × (fault_in n g ≡ None) × (trim rest ≡ [])
    check_ended rest g f k n h = go (trim rest) refl h
      where
        go : (t : List ℕ) → trim rest ≡ t → cond (eqb (length t) 0) (checked n g) (Err k) ≡ Ok f → (g ≡ f) × (fault_in n g ≡ None) × (trim rest ≡ [])
        go [] e h = let p = checked_is n g f (is_none (fault_in n g)) refl h in (p.0, none_is (fault_in n g) p.1, e)
        go (b ∷ t) e h = absurd (let no = ne_eqb (length (b ∷ t)) 0 (λ z. omega arith) in let m = sym (ap (λ c. cond c (checked n g) (Err k)) no) ∙ h in cc)
