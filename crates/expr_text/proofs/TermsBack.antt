-- A term, read back.
use Rattle.std.proofs.Common.{◌≡◌, ℕ, zero, suc, ◌^◌, ◌<◌, Bool, true, false, cond, not, eqb, List, [], ◌∷◌, ◌++◌, length, get_or, Option, None, Ok}
use Rattle.std.proofs.Common.{refl, sym, ap, ◌∙◌, append_assoc, arith, eqb-true, ne_eqb, codes}
use Rattle.std.proofs.lemmas.Bool.{eqb-false}
use Rattle.std.specs.List.{prefix_len}
use Rattle.prob_expr.specs.Tree.{prob}
use Rattle.mixed_graph.specs.Vocabulary.{is_empty}
use Rattle.std.specs.List.{list_all}
use Rattle.answer_text.specs.Vocabulary.{is_plain_byte, is_bare, begins_with_arrow, is_plain, printed}
use Rattle.expr_text.specs.Read.{◌>>=◌, when, after, trim, next_is, expect, names_at, given_at, doing_at, conds_at, term_at}
use Rattle.expr_text.proofs.Known.{AreKnown, whole_run}
use Rattle.expr_text.proofs.Listed.{listed, more_listed, names_text, conds_text}
use Rattle.expr_text.proofs.Within.{and_true}
use Rattle.expr_text.proofs.Fronts.{Stops, all_pass, other_byte, bare_is_not_white, trim_here}
use Rattle.expr_text.proofs.NamesBack.{names_are_read, by_first_name}

-- ---- `do(` stands at the front of no list of names

no_choice : (b : Bool) (o : Option (List ℕ)) → o ≡ None → cond b o None ≡ None
no_choice true o h = h
no_choice false o h = refl

not_same : (b : Bool) (o : Option (List ℕ)) → b ≡ false → cond b o None ≡ None
not_same b o h = rw h refl

pub flip : (a b : ℕ) → eqb a b ≡ false → eqb b a ≡ false
flip a b h = ne_eqb b a (λ e. eqb-false a b h (sym e))

-- behind a name stands no `o` and no parenthesis
pub record IsBehind (m : ℕ) : Type 0 where
  pub no_o : eqb 111 m ≡ false
  pub no_open : eqb 40 m ≡ false

no_do : (name : List ℕ) (m : ℕ) (rest : List ℕ) → prefix_len is_plain_byte name ≡ length name → 0 < length name → IsBehind m
    → after (codes "do(") (name ++ m ∷ rest) ≡ None
no_do [] m rest all some is = absurd (omega arith)
no_do (x ∷ []) m rest all some is = no_choice (eqb 100 x) _ (not_same (eqb 111 m) _ is.no_o)
no_do (x ∷ y ∷ []) m rest all some is = no_choice (eqb 100 x) _ (no_choice (eqb 111 y) _ (not_same (eqb 40 m) _ is.no_open))
no_do (x ∷ y ∷ z ∷ zs) m rest all some is =
    let bare = (all_pass is_plain_byte z zs (all_pass is_plain_byte y (z ∷ zs) (all_pass is_plain_byte x (y ∷ z ∷ zs) all).1).1).0 in
    no_choice (eqb 100 x) _ (no_choice (eqb 111 y) _ (not_same (eqb 40 z) _ (flip z 40 (other_byte is_plain_byte z 40 bare refl))))

pub no_do_bare : (name : List ℕ) (m : ℕ) (rest : List ℕ) → is_bare name ≡ true → IsBehind m → next_is (codes "do(") (name ++ m ∷ rest) ≡ None
unfolding next_is
no_do_bare [] m rest bare is = cc bare
no_do_bare (c ∷ name) m rest bare is =
    let all : prefix_len is_plain_byte (c ∷ name) ≡ length (c ∷ name) =
    whole_run is_plain_byte (c ∷ name) (and_true (list_all is_plain_byte (c ∷ name)) (not (eqb c 35)) bare).0 in
    ap (after (codes "do(")) (trim_here c (name ++ m ∷ rest) (bare_is_not_white c (all_pass is_plain_byte c name all).0))
    ∙ no_do (c ∷ name) m rest all (omega arith) is

no_do_name : (name : List ℕ) (m : ℕ) (rest : List ℕ) (b : Bool) → is_plain name ≡ b → IsBehind m
    → next_is (codes "do(") (cond b name (34 ∷ (name ++ 34 ∷ [])) ++ m ∷ rest) ≡ None
unfolding next_is trim
no_do_name name m rest true h is = no_do_bare name m rest (and_true (is_bare name) (not (begins_with_arrow name)) h).0 is
no_do_name name m rest false h is = refl

no_do_printed : (name : List ℕ) (m : ℕ) (rest : List ℕ) → IsBehind m → next_is (codes "do(") (printed name ++ m ∷ rest) ≡ None
no_do_printed name m rest is = no_do_name name m rest (is_plain name) refl is

no_do_listed : (name : List ℕ) (names : List (List ℕ)) (rest : List ℕ) → next_is (codes "do(") (listed (name ∷ names) ++ 41 ∷ rest) ≡ None
no_do_listed name [] rest = ap (next_is (codes "do(")) (append_assoc (printed name) [] (41 ∷ rest))
    ∙ no_do_printed name 41 rest (record { no_o = refl; no_open = refl })
no_do_listed name (n ∷ names) rest =
    ap (next_is (codes "do(")) (append_assoc (printed name) (more_listed (n ∷ names)) (41 ∷ rest))
    ∙ no_do_printed name 44 ((printed n ++ more_listed names) ++ 41 ∷ rest) (record { no_o = refl; no_open = refl })

no_do_names : (names : List (List ℕ)) (set : ℕ) (rest : List ℕ) → 0 < set → set < 2 ^ length names → next_is (codes "do(") (names_text names set ++ 41 ∷ rest)
    ≡ None
unfolding names_text
no_do_names names set rest pos lt =
    by_first_name (λ ms. next_is (codes "do(") (listed ms ++ 41 ∷ rest) ≡ None) names set pos lt (λ k left _. no_do_listed (get_or names k []) left rest)

-- ---- what is done and given

pub positive : (n : ℕ) → is_empty n ≡ false → 0 < n
positive zero h = cc h
positive (suc n) h = omega arith

set_is_read : (names : List (List ℕ)) (set m : ℕ) (rest : List ℕ) → AreKnown names → is_empty set ≡ false → set < 2 ^ length names → is_plain_byte m ≡ false
    → next_is (codes ",") (m ∷ rest) ≡ None
    → names_at names (names_text names set ++ m ∷ rest) ≡ Ok (set, m ∷ rest)
set_is_read names set m rest are some lt bare none = names_are_read names set (m ∷ rest) are (positive set some) lt bare none

conds_by : (names : List (List ℕ)) (b c : ℕ) (rest : List ℕ) (eb ec : Bool) → AreKnown names → b < 2 ^ length names → c < 2 ^ length names → is_empty b ≡ eb
    → is_empty c ≡ ec
    → conds_at names (cond eb (cond ec [] (124 ∷ names_text names c)) (124 ∷ 100 ∷ 111 ∷ 40
    ∷ (names_text names b ++ (41 ∷ cond ec [] (44 ∷ names_text names c)))) ++ 41 ∷ rest) ≡ Ok ((b, c), 41 ∷ rest)
unfolding conds_at doing_at given_at expect next_is trim
conds_by names b c rest true true are lb lc hb hc =
    let eb : b ≡ 0 = eqb-true _ _ hb in let ec : c ≡ 0 = eqb-true _ _ hc in rw (eb, ec) refl
conds_by names b c rest true false are lb lc hb hc =
    let eb : b ≡ 0 = eqb-true _ _ hb in
    ap (λ o. when o (given_at names 0 (names_text names c ++ 41 ∷ rest)) (doing_at names)) (no_do_names names c rest (positive c hc) lc)
    ∙ ap (λ r. r >>= λ given. Ok ((0, given.0), given.1)) (set_is_read names c 41 rest are hc lc refl refl)
    ∙ rw eb refl
conds_by names b c rest false true are lb lc hb hc =
    let ec : c ≡ 0 = eqb-true _ _ hc in
    ap (doing_at names) (append_assoc (names_text names b) (41 ∷ []) (41 ∷ rest))
    ∙ ap (λ r. r >>= λ doing. expect (codes ")") doing.1 >>= λ rest. when (next_is (codes ",") rest) (Ok ((doing.0, 0), rest)) (given_at names doing.0))
    (set_is_read names b 41 (41 ∷ rest) are hb lb refl refl)
    ∙ rw ec refl
conds_by names b c rest false false are lb lc hb hc =
    ap (doing_at names) (append_assoc (names_text names b) (41 ∷ 44 ∷ names_text names c) (41 ∷ rest))
    ∙ ap (λ r. r >>= λ doing. expect (codes ")") doing.1 >>= λ rest. when (next_is (codes ",") rest) (Ok ((doing.0, 0), rest)) (given_at names doing.0))
    (set_is_read names b 41 (44 ∷ (names_text names c ++ 41 ∷ rest)) are hb lb refl refl)
    ∙ ap (λ r. r >>= λ given. Ok ((b, given.0), given.1)) (set_is_read names c 41 rest are hc lc refl refl)

conds_are_read : (names : List (List ℕ)) (b c : ℕ) (rest : List ℕ) → AreKnown names → b < 2 ^ length names → c < 2 ^ length names
    → conds_at names (conds_text names b c ++ 41 ∷ rest) ≡ Ok ((b, c), 41 ∷ rest)
unfolding conds_text
conds_are_read names b c rest are lb lc = conds_by names b c rest (is_empty b) (is_empty c) are lb lc refl refl

-- what a list of names ends at
record Ends (rest : List ℕ) : Type 0 where
  pub bare : Stops is_plain_byte rest
  pub comma : next_is (codes ",") rest ≡ None

conds_end_by : (names : List (List ℕ)) (b c : ℕ) (rest : List ℕ) (eb ec : Bool)
    → Ends (cond eb (cond ec [] (124 ∷ names_text names c)) (124 ∷ 100 ∷ 111 ∷ 40 ∷ (names_text names b ++ (41 ∷ cond ec [] (44 ∷ names_text names c)))) ++ 41
    ∷ rest)
unfolding next_is trim
conds_end_by names b c rest true true = record { bare = refl; comma = refl }
conds_end_by names b c rest true false = record { bare = refl; comma = refl }
conds_end_by names b c rest false ec = record { bare = refl; comma = refl }

conds_end : (names : List (List ℕ)) (b c : ℕ) (rest : List ℕ) → Ends (conds_text names b c ++ 41 ∷ rest)
unfolding conds_text
conds_end names b c rest = conds_end_by names b c rest (is_empty b) (is_empty c)

-- ---- the term

pub term_is_read : (names : List (List ℕ)) (a b c : ℕ) (rest : List ℕ) → AreKnown names → is_empty a ≡ false → a < 2 ^ length names → b < 2 ^ length names
    → c < 2 ^ length names
    → term_at names ((names_text names a ++ (conds_text names b c ++ 41 ∷ [])) ++ rest) ≡ Ok (prob a b c, rest)
unfolding term_at expect next_is trim
term_is_read names a b c rest are some la lb lc =
    let end = conds_end names b c rest in
    let conds = conds_text names b c in
    let grouped : (names_text names a ++ (conds ++ 41 ∷ [])) ++ rest ≡ names_text names a ++ (conds ++ 41 ∷ rest) =
    append_assoc (names_text names a) (conds ++ 41 ∷ []) rest ∙ ap (λ t. names_text names a ++ t) (append_assoc conds (41 ∷ []) rest) in
    ap (term_at names) grouped
    ∙ ap (λ r. r >>= λ first. conds_at names first.1 >>= λ conds. expect (codes ")") conds.1 >>= λ rest. Ok (prob first.0 conds.0.0 conds.0.1, rest))
    (names_are_read names a (conds ++ 41 ∷ rest) are (positive a some) la end.bare end.comma)
    ∙ ap (λ r. r >>= λ conds. expect (codes ")") conds.1 >>= λ rest. Ok (prob a conds.0.0 conds.0.1, rest)) (conds_are_read names b c rest are lb lc)
