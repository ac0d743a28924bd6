-- What is of the grammar is read.
use Rattle.std.proofs.Common.{◌≡◌, ℕ, zero, suc, ◌+◌, ◌≤◌, true, cond, eqb, List, [], ◌∷◌, ◌++◌, length, Some, None, Result, Ok, Err, ◌⊎◌, inl, inr}
use Rattle.std.proofs.Common.{refl, sym, ap, subst, ◌∙◌, append_assoc, append-nil, length-append, arith, codes, decimal, is_none}
use Rattle.std.proofs.lemmas.Bool.{eq-eqb}
use Rattle.prob_expr.specs.Vocabulary.{fault_in, trees_of, PlainFormula}
use Rattle.mixed_graph.specs.Vocabulary.{union, one, name_of}
use Rattle.prob_expr.specs.Tree.{Tree, prob, sum, product, quotient, named}
use Rattle.answer_text.specs.Vocabulary.{is_white}
use Rattle.expr_text.specs.Read.{◌>>=◌, when, bad, trim, after, next_is, expect, name_at, name_step, names_at, repeat, given_at, doing_at, conds_at}
use Rattle.expr_text.specs.Read.{term_at, named_at, in_parentheses, operand_at, sum_at, factor_at, factor_step, factors_at, bottom_at, operands_at}
use Rattle.expr_text.specs.Read.{expr_with, inner_of, expr_of, def_body, def_at, def_step, checked, formula_of}
use Rattle.expr_text.specs.Grammar.{IsBlank, Token, Name, bare_name, quoted_name, MoreNames, Set, Number, Conds, no_conds, given_alone, done_alone}
use Rattle.expr_text.specs.Grammar.{done_and_given, Operand, term, definition, nested, MoreFactors, Expr, summed, alone, multiplied, divided, Inside}
use Rattle.expr_text.specs.Grammar.{Nested, Definitions, IsExprText, IsFormulaText}
use Rattle.expr_text.proofs.Inner.{inner_suc}
use Rattle.expr_text.proofs.Known.{AreKnown}
use Rattle.expr_text.proofs.Within.{and_true}
use Rattle.expr_text.proofs.Fronts.{other_byte}
use Rattle.expr_text.proofs.Repeats.{end_with}
use Rattle.expr_text.proofs.TermsBack.{IsBehind, no_do_bare, flip}
use Rattle.expr_text.proofs.GrammarTokens.{trim_token, blank_trim, next_here, next_other, next_blank, expect_here, token_len, member_read, member_len}
use Rattle.expr_text.proofs.GrammarNumbers.{number_read}

-- ---- sets

more_len : (names : List (List ℕ)) (vs : List ℕ) (have set : ℕ) (bytes rest : List ℕ) → MoreNames names vs have set bytes rest → length vs
    + length rest ≤ length bytes
more_len names [] have set bytes rest m = omega (arith, ap length m.1)
more_len names (v ∷ vs) have set bytes rest m =
    omega (arith, token_len (codes ",") bytes m.0 m.2, member_len names v have m.0 m.1 m.3, more_len names vs (union have (one v)) set m.1 rest m.4)

more_read : (names : List (List ℕ)) (vs : List ℕ) (fuel have set : ℕ) (bytes rest : List ℕ) → AreKnown names → next_is (codes ",") rest ≡ None
    → length vs ≤ fuel → MoreNames names vs have set bytes rest
    → repeat (name_step names) fuel have bytes ≡ Ok (set, rest)
more_read names [] fuel have set bytes rest are none le m =
    end_with (name_step names) have bytes fuel (ap (λ o. when o None (λ r. Some (name_at names have r))) (ap (next_is (codes ",")) m.1 ∙ none))
    ∙ ap (λ n. Ok (n, bytes)) m.0 ∙ ap (λ b. Ok (set, b)) m.1
more_read names (v ∷ vs) zero have set bytes rest are none le m = absurd (omega arith)
more_read names (v ∷ vs) (suc fuel) have set bytes rest are none le m =
    let step = name_step names in
    ap (λ o. when (when o None (λ r. Some (name_at names have r))) (Ok (have, bytes)) (λ r. r >>= λ p. repeat step fuel p.0 p.1))
    (next_here 44 [] bytes m.0 refl m.2)
    ∙ ap (λ r. r >>= λ p. repeat step fuel p.0 p.1) (member_read names v have m.0 m.1 are m.3)
    ∙ more_read names vs fuel (union have (one v)) set m.1 rest are none (omega arith) m.4

set_read : (names : List (List ℕ)) (set : ℕ) (bytes rest : List ℕ) → AreKnown names → next_is (codes ",") rest ≡ None → Set names set bytes rest
    → names_at names bytes ≡ Ok (set, rest)
unfolding names_at
set_read names set bytes rest are none s =
    ap (λ r. r >>= λ first. repeat (name_step names) (length first.1) first.0 first.1) (member_read names s.first 0 bytes s.behind are s.name)
    ∙ more_read names s.others (length s.behind) (union 0 (one s.first)) set s.behind rest are none
    (omega (arith, more_len names s.others (union 0 (one s.first)) set s.behind rest s.more)) s.more

-- ---- `do(` is no name with what stands behind it

-- what a token of one byte begins with
record Begins (c : ℕ) (bytes : List ℕ) : Type 0 where
  pub first : ℕ
  pub others : List ℕ
  pub here : bytes ≡ first ∷ others
  pub is : (is_white first ≡ true) ⊎ (first ≡ c)

begins_by : (c : ℕ) (bytes rest white : List ℕ) → IsBlank white → bytes ≡ white ++ (c ∷ rest) → Begins c bytes
begins_by c bytes rest [] blank e = record { first = c; others = rest; here = e; is = inr refl }
begins_by c bytes rest (w ∷ white) blank e = record { first = w; others = white ++ (c ∷ rest); here = e; is = inl (and_true (is_white w) _ blank).0 }

begins : (c : ℕ) (bytes rest : List ℕ) → Token (c ∷ []) bytes rest → Begins c bytes
begins c bytes rest t = begins_by c bytes rest t.white t.blank t.here

behind_white : (m : ℕ) → is_white m ≡ true → IsBehind m
behind_white m h = record { no_o = flip m 111 (other_byte is_white m 111 h refl); no_open = flip m 40 (other_byte is_white m 40 h refl) }

behind_is : (c m : ℕ) → IsBehind c → (is_white m ≡ true) ⊎ (m ≡ c) → IsBehind m
behind_is c m is (inl h) = behind_white m h
behind_is c m is (inr e) = subst IsBehind (sym e) is

no_do_name : (name bytes rest : List ℕ) (c : ℕ) → IsBehind c → Begins c rest → Name name bytes rest → next_is (codes "do(") bytes ≡ None
unfolding next_is
no_do_name name bytes rest c is b (bare_name plain ends t) =
    ap (after (codes "do(")) (trim_token name bytes rest t) ∙ ap (λ r. after (codes "do(") (trim (name ++ r))) b.here
    ∙ no_do_bare name b.first b.others plain (behind_is c b.first is b.is)
no_do_name name bytes rest c is b (quoted_name some line t) = next_other (codes "do(") 34 (name ++ 34 ∷ []) bytes rest refl refl t

comma_behind : IsBehind 44
comma_behind = record { no_o = refl; no_open = refl }

close_behind : IsBehind 41
close_behind = record { no_o = refl; no_open = refl }

no_do_by : (names : List (List ℕ)) (vs : List ℕ) (have set : ℕ) (name bytes behind rest after : List ℕ) → Token (codes ")") rest after
    → MoreNames names vs have set behind rest → Name name bytes behind → next_is (codes "do(") bytes ≡ None
no_do_by names [] have set name bytes behind rest after close more n =
    no_do_name name bytes behind 41 close_behind (subst (Begins 41) (sym more.1) (begins 41 rest after close)) n
no_do_by names (v ∷ vs) have set name bytes behind rest after close more n =
    no_do_name name bytes behind 44 comma_behind (begins 44 behind more.0 more.2) n

no_do : (names : List (List ℕ)) (set : ℕ) (bytes rest after : List ℕ) → Token (codes ")") rest after → Set names set bytes rest → next_is (codes "do(") bytes
    ≡ None
no_do names set bytes rest after close s = no_do_by names s.others (union 0 (one s.first)) set (name_of names s.first)
    bytes s.behind rest after close s.more s.name.name

-- ---- terms

no_comma : (rest after : List ℕ) → Token (codes ")") rest after → next_is (codes ",") rest ≡ None
no_comma rest after t = next_other (codes ",") 41 [] rest after refl refl t

conds_read : (names : List (List ℕ)) (doing given : ℕ) (bytes rest after : List ℕ) → AreKnown names → Token (codes ")") rest after
    → Conds names doing given bytes rest → conds_at names bytes ≡ Ok ((doing, given), rest)
unfolding conds_at doing_at given_at
conds_read names doing given bytes rest after are close (no_conds d g e) =
    ap (λ o. when o (Ok ((0, 0), bytes)) (λ rest. when (next_is (codes "do(") rest) (given_at names 0 rest) (doing_at names)))
    (ap (next_is (codes "|")) e ∙ next_other (codes "|") 41 [] rest after refl refl close)
    ∙ ap (λ k. Ok ((k, 0), bytes)) d ∙ ap (λ k. Ok ((doing, k), bytes)) g ∙ ap (λ b. Ok ((doing, given), b)) e
conds_read names doing given bytes rest after are close (given_alone a d bar s) =
    ap (λ o. when o (Ok ((0, 0), bytes)) (λ rest. when (next_is (codes "do(") rest) (given_at names 0 rest) (doing_at names)))
    (next_here 124 [] bytes a refl bar)
    ∙ ap (λ o. when o (given_at names 0 a) (doing_at names)) (no_do names given a rest after close s)
    ∙ ap (λ r. r >>= λ g. Ok ((0, g.0), g.1)) (set_read names given a rest are (no_comma rest after close) s)
    ∙ ap (λ k. Ok ((k, given), rest)) d
conds_read names doing given bytes rest after are close (done_alone a b c g bar word s end) =
    ap (λ o. when o (Ok ((0, 0), bytes)) (λ rest. when (next_is (codes "do(") rest) (given_at names 0 rest) (doing_at names)))
    (next_here 124 [] bytes a refl bar)
    ∙ ap (λ o. when o (given_at names 0 a) (doing_at names)) (next_here 100 (111 ∷ 40 ∷ []) a b refl word)
    ∙ ap (λ r. r >>= λ done. expect (codes ")") done.1 >>= λ rest. when (next_is (codes ",") rest) (Ok ((done.0, 0), rest)) (given_at names done.0))
    (set_read names doing b c are (no_comma c rest end) s)
    ∙ ap (λ r. r >>= λ rest. when (next_is (codes ",") rest) (Ok ((doing, 0), rest)) (given_at names doing)) (expect_here 41 [] c rest refl end)
    ∙ ap (λ o. when o (Ok ((doing, 0), rest)) (given_at names doing)) (no_comma rest after close)
    ∙ ap (λ k. Ok ((doing, k), rest)) g
conds_read names doing given bytes rest after are close (done_and_given a b c d e bar word s end comma t) =
    ap (λ o. when o (Ok ((0, 0), bytes)) (λ rest. when (next_is (codes "do(") rest) (given_at names 0 rest) (doing_at names)))
    (next_here 124 [] bytes a refl bar)
    ∙ ap (λ o. when o (given_at names 0 a) (doing_at names)) (next_here 100 (111 ∷ 40 ∷ []) a b refl word)
    ∙ ap (λ r. r >>= λ done. expect (codes ")") done.1 >>= λ rest. when (next_is (codes ",") rest) (Ok ((done.0, 0), rest)) (given_at names done.0))
    (set_read names doing b c are (no_comma c d end) s)
    ∙ ap (λ r. r >>= λ rest. when (next_is (codes ",") rest) (Ok ((doing, 0), rest)) (given_at names doing)) (expect_here 41 [] c d refl end)
    ∙ ap (λ o. when o (Ok ((doing, 0), d)) (given_at names doing)) (next_here 44 [] d e refl comma)
    ∙ ap (λ r. r >>= λ g. Ok ((doing, g.0), g.1)) (set_read names given e rest are (no_comma rest after close) t)

-- ---- operands

-- no star and no stroke comes next
record Closes (rest : List ℕ) : Type 0 where
  pub star : next_is (codes "*") rest ≡ None
  pub slash : next_is (codes "/") rest ≡ None

abbrev InsideRead : List (List ℕ) → ℕ → Type 0
InsideRead names d = (t : Tree) (bytes rest : List ℕ) → Closes rest → Expr names (Inside names d) t bytes rest → expr_with names (inner_of names d) bytes
    ≡ Ok (t, rest)

closes_at : (rest after : List ℕ) → Token (codes ")") rest after → Closes rest
closes_at rest after t = record { star = next_other (codes "*") 41 [] rest after refl refl t; slash = next_other (codes "/") 41 [] rest after refl refl t }

closes_blank : (rest : List ℕ) → IsBlank rest → Closes rest
closes_blank rest h = record { star = next_blank 42 [] rest h; slash = next_blank 47 [] rest h }

closes_def : (rest after : List ℕ) → Token (codes "q") rest after → Closes rest
closes_def rest after t = record { star = next_other (codes "*") 113 [] rest after refl refl t; slash = next_other (codes "/") 113 [] rest after refl refl t }

term_read : (names : List (List ℕ)) (of doing given : ℕ) (a b c rest : List ℕ) → AreKnown names → Set names of a b → Conds names doing given b c
    → Token (codes ")") c rest → next_is (codes ",") b ≡ None → term_at names a ≡ Ok (prob of doing given, rest)
unfolding term_at
term_read names of doing given a b c rest are s conds close none =
    ap (λ r. r >>= λ first. conds_at names first.1 >>= λ conds. expect (codes ")") conds.1 >>= λ rest. Ok (prob first.0 conds.0.0 conds.0.1, rest))
    (set_read names of a b are none s)
    ∙ ap (λ r. r >>= λ conds. expect (codes ")") conds.1 >>= λ rest. Ok (prob of conds.0.0 conds.0.1, rest))
    (conds_read names doing given b c rest are close conds)
    ∙ ap (λ r. r >>= λ rest. Ok (prob of doing given, rest)) (expect_here 41 [] c rest refl close)

-- behind the first set of a term stands a bar or a parenthesis
no_comma_first : (names : List (List ℕ)) (doing given : ℕ) (b c rest : List ℕ) → Token (codes ")") c rest → Conds names doing given b c
    → next_is (codes ",") b ≡ None
no_comma_first names doing given b c rest close (no_conds d g e) = ap (next_is (codes ",")) e ∙ no_comma c rest close
no_comma_first names doing given b c rest close (given_alone a d bar s) = next_other (codes ",") 124 [] b a refl refl bar
no_comma_first names doing given b c rest close (done_alone a e f g bar word s end) = next_other (codes ",") 124 [] b a refl refl bar
no_comma_first names doing given b c rest close (done_and_given a e f g h bar word s end comma t) = next_other (codes ",") 124 [] b a refl refl bar

-- what no operand begins with
no_sum : (names : List (List ℕ)) (inside : Tree → List ℕ → List ℕ → Type 0) (t : Tree) (bytes rest : List ℕ) → Operand names inside t bytes rest
    → next_is (codes "sum") bytes ≡ None
no_sum names inside t bytes rest (term of doing given a b c e start s conds close) = next_other (codes "sum") 80 (40 ∷ []) bytes a refl refl start
no_sum names inside t bytes rest (definition k a e start n) = next_other (codes "sum") 113 [] bytes a refl refl start
no_sum names inside t bytes rest (nested a b start i close) = next_other (codes "sum") 40 [] bytes a refl refl start

nested_read : (names : List (List ℕ)) (d : ℕ) (t : Tree) (bytes a b rest : List ℕ) → ((e : ℕ) → d ≡ suc e → InsideRead names e) → Inside names d t a b
    → Token (codes ")") b rest
    → when (inner_of names d) (bad bytes) (λ read. in_parentheses read a) ≡ Ok (t, rest)
unfolding in_parentheses
nested_read names zero t bytes a b rest read i close = elim i [ ]
nested_read names (suc d) t bytes a b rest read i close =
    ap (λ o. when o (bad bytes) (λ read. in_parentheses read a)) (inner_suc names d)
    ∙ ap (λ r. r >>= λ e. expect (codes ")") e.1 >>= λ rest. Ok (e.0, rest)) (read d refl t a b (closes_at b rest close) i)
    ∙ ap (λ r. r >>= λ rest. Ok (t, rest)) (expect_here 41 [] b rest refl close)

operand_read : (names : List (List ℕ)) (d : ℕ) (t : Tree) (bytes rest : List ℕ) → AreKnown names → ((e : ℕ) → d ≡ suc e → InsideRead names e)
    → Operand names (Inside names d) t bytes rest → operand_at names (inner_of names d) bytes ≡ Ok (t, rest)
unfolding operand_at named_at
operand_read names d t bytes rest are read (term of doing given a b c e start s conds close) =
    ap (λ o. when o (when (next_is (codes "q") bytes) (when (next_is (codes "(") bytes) (bad bytes)
    (λ rest. when (inner_of names d) (bad bytes) (λ read. in_parentheses read rest))) named_at) (term_at names)) (next_here 80 (40 ∷ []) bytes a refl start)
    ∙ term_read names of doing given a b c rest are s conds close (no_comma_first names doing given b c rest close conds)
    ∙ ap (λ u. Ok (u, rest)) e
operand_read names d t bytes rest are read (definition k a e start n) =
    ap (λ o. when o (when (next_is (codes "q") bytes) (when (next_is (codes "(") bytes) (bad bytes)
    (λ rest. when (inner_of names d) (bad bytes) (λ read. in_parentheses read rest))) named_at) (term_at names))
    (next_other (codes "P(") 113 [] bytes a refl refl start)
    ∙ ap (λ o. when o (when (next_is (codes "(") bytes) (bad bytes) (λ rest. when (inner_of names d) (bad bytes) (λ read. in_parentheses read rest)))
    named_at) (next_here 113 [] bytes a refl start)
    ∙ ap (λ r. r >>= λ k. Ok (named k.0, k.1)) (number_read a k rest n)
    ∙ ap (λ u. Ok (u, rest)) e
operand_read names d t bytes rest are read (nested a b start i close) =
    ap (λ o. when o (when (next_is (codes "q") bytes) (when (next_is (codes "(") bytes) (bad bytes)
    (λ rest. when (inner_of names d) (bad bytes) (λ read. in_parentheses read rest))) named_at) (term_at names))
    (next_other (codes "P(") 40 [] bytes a refl refl start)
    ∙ ap (λ o. when o (when (next_is (codes "(") bytes) (bad bytes) (λ rest. when (inner_of names d) (bad bytes) (λ read. in_parentheses read rest)))
    named_at) (next_other (codes "q") 40 [] bytes a refl refl start)
    ∙ ap (λ o. when o (bad bytes) (λ rest. when (inner_of names d) (bad bytes) (λ read. in_parentheses read rest))) (next_here 40 [] bytes a refl start)
    ∙ nested_read names d t bytes a b rest read i close

-- ---- expressions

-- what stands behind a part is no longer than what it began with
set_len : (names : List (List ℕ)) (set : ℕ) (bytes rest : List ℕ) → Set names set bytes rest → length rest ≤ length bytes
set_len names set bytes rest s =
    omega (arith, member_len names s.first 0 bytes s.behind s.name, more_len names s.others (union 0 (one s.first)) set s.behind rest s.more)

conds_len : (names : List (List ℕ)) (doing given : ℕ) (bytes rest : List ℕ) → Conds names doing given bytes rest → length rest ≤ length bytes
conds_len names doing given bytes rest (no_conds d g e) = omega (arith, ap length e)
conds_len names doing given bytes rest (given_alone a d bar s) = omega (arith, token_len (codes "|") bytes a bar, set_len names given a rest s)
conds_len names doing given bytes rest (done_alone a b c g bar word s end) =
    omega (arith, token_len (codes "|") bytes a bar, token_len (codes "do(") a b word, set_len names doing b c s, token_len (codes ")") c rest end)
conds_len names doing given bytes rest (done_and_given a b c d e bar word s end comma t) =
    omega (
      arith,
      token_len (codes "|") bytes a bar,
      token_len (codes "do(") a b word,
      set_len names doing b c s,
      token_len (codes ")") c d end,
      token_len (codes ",") d e comma,
      set_len names given e rest t,
    )

abbrev InsideLen : List (List ℕ) → ℕ → Type 0
InsideLen names d = (t : Tree) (bytes rest : List ℕ) → Inside names d t bytes rest → length rest ≤ length bytes

operand_len : (names : List (List ℕ)) (d : ℕ) (t : Tree) (bytes rest : List ℕ) → InsideLen names d → Operand names (Inside names d) t bytes rest
    → length rest ≤ length bytes
operand_len names d t bytes rest len (term of doing given a b c e start s conds close) =
    omega (arith, token_len (codes "P(") bytes a start, set_len names of a b s, conds_len names doing given b c conds, token_len (codes ")") c rest close)
operand_len names d t bytes rest len (definition k a e start n) = omega (arith, token_len (codes "q") bytes a start, token_len (decimal k) a rest n.digits)
operand_len names d t bytes rest len (nested a b start i close) = omega (
  arith,
  token_len (codes "(") bytes a start,
  len t a b i,
  token_len (codes ")") b rest close,
)

factors_len : (names : List (List ℕ)) (d : ℕ) (ts : List Tree) (bytes rest : List ℕ) → InsideLen names d → MoreFactors names (Inside names d) ts bytes rest
    → length ts + length rest ≤ length bytes
factors_len names d [] bytes rest len m = omega (arith, ap length m)
factors_len names d (t ∷ ts) bytes rest len m =
    omega (arith, token_len (codes "*") bytes m.0 m.2, operand_len names d t m.0 m.1 len m.3, factors_len names d ts m.1 rest len m.4)

expr_len : (names : List (List ℕ)) (d : ℕ) (t : Tree) (bytes rest : List ℕ) → InsideLen names d → Expr names (Inside names d) t bytes rest
    → length rest ≤ length bytes
expr_len names d t bytes rest len (summed over body a b c e is word start s close i) =
    omega (
      arith,
      token_len (codes "sum") bytes a word,
      token_len (codes "{") a b start,
      set_len names over b c s,
      token_len (codes "}") c e close,
      len body e rest i,
    )
expr_len names d t bytes rest len (alone o) = operand_len names d t bytes rest len o
expr_len names d t bytes rest len (multiplied p q ts a is o m) = omega (arith, operand_len names d p bytes a len o, factors_len names d (q ∷ ts) a rest len m)
expr_len names d t bytes rest len (divided p q a b is o slash u) =
    omega (arith, operand_len names d p bytes a len o, token_len (codes "/") a b slash, operand_len names d q b rest len u)

inside_len : (names : List (List ℕ)) (d : ℕ) → InsideLen names d
inside_len names zero t bytes rest h = elim h [ ]
inside_len names (suc d) t bytes rest h = expr_len names d t bytes rest (inside_len names d) h

abbrev Reader : List (List ℕ) → ℕ → Type 0
Reader names d = (e : ℕ) → d ≡ suc e → InsideRead names e

factor_read : (names : List (List ℕ)) (d : ℕ) (before : List Tree) (t : Tree) (bytes rest : List ℕ) → AreKnown names → Reader names d
    → Operand names (Inside names d) t bytes rest
    → factor_at names (inner_of names d) before bytes ≡ Ok (before ++ t ∷ [], rest)
unfolding factor_at
factor_read names d before t bytes rest are read o = ap (λ r. r >>= λ next. Ok (before ++ next.0 ∷ [], next.1)) (operand_read names d t bytes rest are read o)

factors_read : (names : List (List ℕ)) (d : ℕ) (ts : List Tree) (fuel : ℕ) (before : List Tree) (bytes rest : List ℕ) → AreKnown names → Reader names d
    → next_is (codes "*") rest ≡ None → length ts ≤ fuel
    → MoreFactors names (Inside names d) ts bytes rest → repeat (factor_step names (inner_of names d)) fuel before bytes ≡ Ok (before ++ ts, rest)
factors_read names d [] fuel before bytes rest are read none le m =
    end_with (factor_step names (inner_of names d)) before bytes fuel (ap (λ o. when o None (λ r. Some (factor_at names (inner_of names d) before r)))
    (ap (next_is (codes "*")) m ∙ none))
    ∙ ap (λ ts. Ok (ts, bytes)) (sym (append-nil before)) ∙ ap (λ b. Ok (before ++ [], b)) m
factors_read names d (t ∷ ts) zero before bytes rest are read none le m = absurd (omega arith)
factors_read names d (t ∷ ts) (suc fuel) before bytes rest are read none le m =
    let step = factor_step names (inner_of names d) in
    ap (λ o. when (when o None (λ r. Some (factor_at names (inner_of names d) before r))) (Ok (before, bytes)) (λ r. r >>= λ p. repeat step fuel p.0 p.1))
    (next_here 42 [] bytes m.0 refl m.2)
    ∙ ap (λ r. r >>= λ p. repeat step fuel p.0 p.1) (factor_read names d before t m.0 m.1 are read m.3)
    ∙ factors_read names d ts fuel (before ++ t ∷ []) m.1 rest are read none (omega arith) m.4
    ∙ ap (λ ts. Ok (ts, rest)) (append_assoc before (t ∷ []) ts)

sum_read : (names : List (List ℕ)) (d over : ℕ) (body : Tree) (bytes a b c e rest : List ℕ) → AreKnown names → Reader names d → Closes rest
    → Token (codes "{") a b → Set names over b c → Token (codes "}") c e → Inside names d body e rest
    → when (inner_of names d) (bad bytes) (λ read. sum_at names read a) ≡ Ok (sum over body, rest)
unfolding sum_at
sum_read names zero over body bytes a b c e rest are read closes start s close i = elim i [ ]
sum_read names (suc d) over body bytes a b c e rest are read closes start s close i =
    let inner = expr_with names (inner_of names d) in
    ap (λ o. when o (bad bytes) (λ read. sum_at names read a)) (inner_suc names d)
    ∙ ap (λ r. r >>= λ start. names_at names start >>= λ over. expect (codes "}") over.1 >>= λ rest. inner rest >>= λ body. Ok (sum over.0 body.0, body.1))
    (expect_here 123 [] a b refl start)
    ∙ ap (λ r. r >>= λ over. expect (codes "}") over.1 >>= λ rest. inner rest >>= λ body. Ok (sum over.0 body.0, body.1))
    (set_read names over b c are (next_other (codes ",") 125 [] c e refl refl close) s)
    ∙ ap (λ r. r >>= λ rest. inner rest >>= λ body. Ok (sum over body.0, body.1)) (expect_here 125 [] c e refl close)
    ∙ ap (λ r. r >>= λ body. Ok (sum over body.0, body.1)) (read d refl body e rest closes i)

-- what comes behind a first operand
abbrev behind : List (List ℕ) → ℕ → Tree × List ℕ → Result (Tree × List ℕ) ℕ
behind names d first =
    when (next_is (codes "*") first.1) (
    when (next_is (codes "/") first.1) (Ok first) (bottom_at names (inner_of names d) first.0)
    ) (factors_at names (inner_of names d) first.0)

first_read : (names : List (List ℕ)) (d : ℕ) (t : Tree) (bytes a : List ℕ) → AreKnown names → Reader names d → Operand names (Inside names d) t bytes a
    → expr_with names (inner_of names d) bytes ≡ behind names d (t, a)
unfolding expr_with operands_at
first_read names d t bytes a are read o =
    ap (λ p. when p (operands_at names (inner_of names d) bytes) (λ r. when (inner_of names d) (bad bytes) (λ read. sum_at names read r)))
    (no_sum names (Inside names d) t bytes a o)
    ∙ ap (λ r. r >>= behind names d) (operand_read names d t bytes a are read o)

one_more : (names : List (List ℕ)) (d : ℕ) → AreKnown names → Reader names d → InsideRead names d
unfolding expr_with factors_at bottom_at
one_more names d are read t bytes rest closes (summed over body a b c e is word start s close i) =
    ap (λ p. when p (operands_at names (inner_of names d) bytes) (λ r. when (inner_of names d) (bad bytes) (λ read. sum_at names read r)))
    (next_here 115 (117 ∷ 109 ∷ []) bytes a refl word)
    ∙ sum_read names d over body bytes a b c e rest are read closes start s close i
    ∙ ap (λ u. Ok (u, rest)) is
one_more names d are read t bytes rest closes (alone o) =
    first_read names d t bytes rest are read o ∙ rw (closes.star, closes.slash) refl
one_more names d are read t bytes rest closes (multiplied p q ts a is o m) =
    let inner = inner_of names d in
    let step = factor_step names inner in
    first_read names d p bytes a are read o
    ∙ ap (λ n. when n (when (next_is (codes "/") a) (Ok (p, a)) (bottom_at names inner p)) (factors_at names inner p)) (next_here 42 [] a m.0 refl m.2)
    ∙ ap (λ r. r >>= λ two. repeat step (length two.1) two.0 two.1 >>= λ all. Ok (product (trees_of all.0), all.1))
    (factor_read names d (p ∷ []) q m.0 m.1 are read m.3)
    ∙ ap (λ r. r >>= λ all. Ok (product (trees_of all.0), all.1))
    (factors_read names d ts (length m.1) (p ∷ q ∷ []) m.1 rest are read closes.star (omega (arith, factors_len names d ts m.1 rest (inside_len names d) m.4))
    m.4)
    ∙ ap (λ u. Ok (u, rest)) is
one_more names d are read t bytes rest closes (divided p q a b is o slash u) =
    let inner = inner_of names d in
    first_read names d p bytes a are read o
    ∙ ap (λ n. when n (when (next_is (codes "/") a) (Ok (p, a)) (bottom_at names inner p)) (factors_at names inner p))
    (next_other (codes "*") 47 [] a b refl refl slash)
    ∙ ap (λ n. when n (Ok (p, a)) (bottom_at names inner p)) (next_here 47 [] a b refl slash)
    ∙ ap (λ r. r >>= λ bottom. Ok (quotient p bottom.0, bottom.1)) (operand_read names d q b rest are read u)
    ∙ ap (λ u. Ok (u, rest)) is

expr_read : (names : List (List ℕ)) → AreKnown names → (d : ℕ) → InsideRead names d
expr_read names are zero = one_more names zero are (λ e h. absurd (omega arith))
expr_read names are (suc d) = one_more names (suc d) are (λ e h. subst (InsideRead names) (let k : d ≡ e = omega arith in k) (expr_read names are d))

-- ---- whole texts

pub text_read : (names : List (List ℕ)) (t : Tree) (text : List ℕ) → AreKnown names → IsExprText names t text → expr_of names text ≡ Ok t
unfolding expr_of
text_read names t text are s =
    ap (λ r. r >>= λ e. cond (eqb (length (trim e.1)) 0) (Ok e.0) (bad e.1)) (expr_read names are 60 t text s.rest (closes_blank s.rest s.end) s.expr)
    ∙ ap (λ x. cond (eqb (length x) 0) (Ok t) (bad s.rest)) (blank_trim s.rest s.end)

defs_close : (names : List (List ℕ)) (k : ℕ) (ds : List Tree) (bytes rest : List ℕ) → IsBlank rest → Definitions names k ds bytes rest → Closes bytes
defs_close names k [] bytes rest blank m = subst Closes (sym m) (closes_blank rest blank)
defs_close names k (d ∷ ds) bytes rest blank m = closes_def bytes m.0 m.4

nested_len : (names : List (List ℕ)) (t : Tree) (bytes rest : List ℕ) → Nested names t bytes rest → length rest ≤ length bytes
nested_len names t bytes rest h = expr_len names 60 t bytes rest (inside_len names 60) h

defs_len : (names : List (List ℕ)) (k : ℕ) (ds : List Tree) (bytes rest : List ℕ) → Definitions names k ds bytes rest → length ds + length rest ≤ length bytes
defs_len names k [] bytes rest m = omega (arith, ap length m)
defs_len names k (d ∷ ds) bytes rest m =
    omega (
      arith,
      token_len (codes "q") bytes m.0 m.4,
      token_len (decimal k) m.0 m.1 m.5.digits,
      token_len (codes "=") m.1 m.2 m.6,
      nested_len names d m.2 m.3 m.7,
      defs_len names (k + 1) ds m.3 rest m.8,
    )

def_read : (names : List (List ℕ)) (before : List Tree) (d : Tree) (a b c e : List ℕ) → AreKnown names → Closes e → Number (length before) a b
    → Token (codes "=") b c → Nested names d c e → def_at names before a ≡ Ok (before ++ d ∷ [], e)
unfolding def_at def_body
def_read names before d a b c e are closes n equals expr =
    ap (λ r. r >>= λ k. cond (eqb k.0 (length before)) (def_body names before k.1) (bad a)) (number_read a (length before) b n)
    ∙ ap (λ t. cond t (def_body names before b) (bad a)) (eq-eqb (length before) (length before) refl)
    ∙ ap (λ r. r >>= λ rest. expr_with names (inner_of names 60) rest >>= λ e. Ok (before ++ e.0 ∷ [], e.1)) (expect_here 61 [] b c refl equals)
    ∙ ap (λ r. r >>= λ e. Ok (before ++ e.0 ∷ [], e.1)) (expr_read names are 60 d c e closes expr)

defs_read : (names : List (List ℕ)) (ds : List Tree) (fuel k : ℕ) (before : List Tree) (bytes rest : List ℕ) → AreKnown names → IsBlank rest → k
    ≡ length before → length ds ≤ fuel → Definitions names k ds bytes rest
    → repeat (def_step names) fuel before bytes ≡ Ok (before ++ ds, rest)
defs_read names [] fuel k before bytes rest are blank at le m =
    end_with (def_step names) before bytes fuel (ap (λ o. when o None (λ r. Some (def_at names before r)))
    (ap (next_is (codes "q")) m ∙ next_blank 113 [] rest blank))
    ∙ ap (λ ds. Ok (ds, bytes)) (sym (append-nil before)) ∙ ap (λ b. Ok (before ++ [], b)) m
defs_read names (d ∷ ds) zero k before bytes rest are blank at le m = absurd (omega arith)
defs_read names (d ∷ ds) (suc fuel) k before bytes rest are blank at le m =
    let step = def_step names in
    let count : k + 1 ≡ length (before ++ d ∷ []) = omega (arith, length-append before (d ∷ [])) in
    ap (λ o. when (when o None (λ r. Some (def_at names before r))) (Ok (before, bytes)) (λ r. r >>= λ p. repeat step fuel p.0 p.1))
    (next_here 113 [] bytes m.0 refl m.4)
    ∙ ap (λ r. r >>= λ p. repeat step fuel p.0 p.1) (def_read names before d m.0 m.1 m.2 m.3 are (defs_close names (k + 1) ds m.3 rest blank m.8)
    (subst (λ j. Number j m.0 m.1) at m.5) m.6 m.7)
    ∙ defs_read names ds fuel (k + 1) (before ++ d ∷ []) m.3 rest are blank count (omega arith) m.8
    ∙ ap (λ ds. Ok (ds, rest)) (append_assoc before (d ∷ []) ds)

pub formula_read : (names : List (List ℕ)) (f : PlainFormula) (text : List ℕ) → AreKnown names → IsFormulaText names f text → fault_in (length names) f ≡ None
    → formula_of names text ≡ Ok f
unfolding formula_of
formula_read names f text are s ok =
    let n = length names in
    let end : Result (List Tree × List ℕ) ℕ → Result PlainFormula ℕ = λ r. r >>= λ defs. cond (eqb (length (trim defs.1)) 0)
    (checked n (record { defs = defs.0; main = f.main })) (bad defs.1) in
    ap (λ r. r >>= λ main. repeat (def_step names) (length main.1) [] main.1 >>= λ defs. cond (eqb (length (trim defs.1)) 0)
    (checked n (record { defs = defs.0; main = main.0 })) (bad defs.1))
    (expr_read names are 60 f.main text s.behind (defs_close names 0 f.defs s.behind s.rest s.end s.defs) s.main)
    ∙ ap end (defs_read names f.defs (length s.behind) 0 [] s.behind s.rest are s.end refl (omega (arith, defs_len names 0 f.defs s.behind s.rest s.defs))
    s.defs)
    ∙ ap (λ x. cond (eqb (length x) 0) (checked n f) (bad s.rest)) (blank_trim s.rest s.end)
    ∙ ap (λ o. cond (is_none o) (Ok f) (Err 0)) ok
