-- The text of an expression is UTF-8.
use Rattle.std.proofs.Common.{◌<◌, ℕ, zero, suc, ◌/◌, ◌%◌, ◌==◌, Bool, true, false, cond, inl, inr, List, [], ◌∷◌, ◌++◌, map, length, codes, decimal}
use Rattle.std.proofs.Common.{arith, subst, sym}
use Rattle.std.specs.Str.{IsUtf8, IsAscii}
use Rattle.std.specs.Fmt.{digits, digits_onto, digit_glyph}
use Rattle.std.proofs.lemmas.Bool.{cases_lt}
use Rattle.std.proofs.lemmas.List.{get_or_past}
use Rattle.std.proofs.lemmas.Str.{IsUtf8-nil, IsUtf8-from_ascii, IsUtf8-from_is_utf8, IsUtf8-append}
use Rattle.std.proofs.lemmas.Str.Ascii.{IsAscii-cons, IsAscii-nil}
use Rattle.mixed_graph.specs.Vocabulary.{has, members_below, AreNames, name_of}
use Rattle.answer_text.specs.declared.signs.Notation.TheVariants.{Plain}
use Rattle.answer_text.specs.Vocabulary.{is_plain, printed, names_in, set_text, conditions_in, term_text}
use Rattle.prob_expr.specs.Tree.{Tree, prob, sum, product, quotient, named, tree}
use Rattle.prob_expr.specs.Vocabulary.{Trees, no_trees}
use Rattle.expr_text.specs.declared.writing.Place.TheVariants.{First, Later}
use Rattle.expr_text.specs.Vocabulary.{parenthesized, wrapped, text_of, factors_in}

behind : (b : ℕ) (bs : List ℕ) → b < 128 → IsUtf8 bs → IsUtf8 (b ∷ bs)
behind b bs lt h = IsUtf8-append (b ∷ []) bs (IsUtf8-from_ascii (b ∷ []) (IsAscii-cons b [] lt IsAscii-nil)) h

-- ---- numbers

glyph_low : (d : ℕ) → d < 10 → digit_glyph false d < 128
glyph_low d lt = grind arith

onto_ascii : (k n : ℕ) (acc : List ℕ) → IsAscii acc → IsAscii (digits_onto k 10 false n acc)
onto_ascii zero n acc h = h
onto_ascii (suc k) n acc h =
    let more = IsAscii-cons (digit_glyph false (n % 10)) acc (glyph_low (n % 10) (omega arith)) h in
    either (n / 10 == 0) (digit_glyph false (n % 10) ∷ acc) (digits_onto k 10 false (n / 10) (digit_glyph false (n % 10) ∷ acc)) more
    (onto_ascii k (n / 10) (digit_glyph false (n % 10) ∷ acc) more)
  where
    either : (b : Bool) (xs ys : List ℕ) → IsAscii xs → IsAscii ys → IsAscii (cond b xs ys)
    either true xs ys p q = p
    either false xs ys p q = q

pub number_utf8 : (n : ℕ) → IsUtf8 (decimal n)
unfolding digits
number_utf8 n = IsUtf8-from_ascii (decimal n) (onto_ascii 64 n [] IsAscii-nil)

-- ---- names

pub name_utf8 : (names : List (List ℕ)) (v : ℕ) → AreNames names → IsUtf8 (name_of names v)
name_utf8 names v are = elim (cases_lt v (length names)) [
  | inl lt ↦ IsUtf8-from_is_utf8 (name_of names v) (are.formed v [] lt).utf8
  | inr le ↦ subst IsUtf8 (sym (get_or_past names v [] le)) IsUtf8-nil
]

printed_utf8 : (name : List ℕ) → IsUtf8 name → IsUtf8 (printed name)
printed_utf8 name h = either (is_plain name)
  where
    either : (b : Bool) → IsUtf8 (cond b name (34 ∷ name ++ 34 ∷ []))
    either true = h
    either false = behind 34 (name ++ 34 ∷ []) (omega arith) (IsUtf8-append name (34 ∷ []) h (behind 34 [] (omega arith) IsUtf8-nil))

names_utf8 : (names : List (List ℕ)) (vs : List ℕ) → AreNames names → IsUtf8 (names_in Plain (map (name_of names) vs))
names_utf8 names [] are = IsUtf8-nil
names_utf8 names (v ∷ []) are = printed_utf8 (name_of names v) (name_utf8 names v are)
names_utf8 names (v ∷ u ∷ us) are =
    IsUtf8-append (printed (name_of names v)) (44 ∷ names_in Plain (map (name_of names) (u ∷ us))) (printed_utf8 (name_of names v) (name_utf8 names v are))
    (behind 44 (names_in Plain (map (name_of names) (u ∷ us))) (omega arith) (names_utf8 names (u ∷ us) are))

-- ---- expressions

join : (a b : List ℕ) → IsUtf8 a → IsUtf8 b → IsUtf8 (a ++ b)
join a b p q = IsUtf8-append a b p q

ascii1 : (a : ℕ) → a < 128 → IsUtf8 (a ∷ [])
ascii1 a p = behind a [] p IsUtf8-nil

bar : IsUtf8 (codes "|")
bar = ascii1 124 (omega arith)

do_mark : IsUtf8 (codes "|do(")
do_mark = behind 124 _ (omega arith) (behind 100 _ (omega arith) (behind 111 _ (omega arith) (ascii1 40 (omega arith))))

closing : IsUtf8 (codes ")")
closing = ascii1 41 (omega arith)

opening : IsUtf8 (codes "(")
opening = ascii1 40 (omega arith)

conditions_utf8 : (names : List (List ℕ)) (bs cs : List ℕ) → AreNames names → IsUtf8 (conditions_in Plain (map (name_of names) bs) (map (name_of names) cs))
conditions_utf8 names [] [] are = IsUtf8-nil
conditions_utf8 names [] (c ∷ cs) are = join (codes "|") _ bar (names_utf8 names (c ∷ cs) are)
conditions_utf8 names (b ∷ bs) [] are = join (codes "|do(") _ do_mark (join _ (codes ")") (names_utf8 names (b ∷ bs) are) closing)
conditions_utf8 names (b ∷ bs) (c ∷ cs) are =
    join (codes "|do(") _ do_mark (join _ _ (names_utf8 names (b ∷ bs) are)
    (join (codes "),") _ (behind 41 _ (omega arith) (ascii1 44 (omega arith))) (names_utf8 names (c ∷ cs) are)))

term_utf8 : (names : List (List ℕ)) (a b c : ℕ → Bool) → AreNames names → IsUtf8 (term_text names a b c)
term_utf8 names a b c are =
    join (codes "P(") _ (behind 80 _ (omega arith) opening) (join _ _ (names_utf8 names (members_below a 64) are)
    (join _ (codes ")") (conditions_utf8 names (members_below b 64) (members_below c 64) are) closing))

set_utf8 : (names : List (List ℕ)) (u : ℕ) → AreNames names → IsUtf8 (set_text names u)
set_utf8 names u are = behind 123 _ (omega arith) (join _ (125 ∷ []) (names_utf8 names (members_below (has u) 64) are) (ascii1 125 (omega arith)))

parenthesized_utf8 : (text : List ℕ) → IsUtf8 text → IsUtf8 (parenthesized Plain text)
parenthesized_utf8 text h = join (codes "(") _ opening (join text (codes ")") h closing)

wrapped_utf8 : (t : Tree) (text : List ℕ) → IsUtf8 text → IsUtf8 (wrapped Plain t text)
wrapped_utf8 (prob a b c) text h = h
wrapped_utf8 (sum u e) text h = parenthesized_utf8 text h
wrapped_utf8 (product ts) text h = parenthesized_utf8 text h
wrapped_utf8 (quotient p q) text h = parenthesized_utf8 text h
wrapped_utf8 (named k) text h = h

between : (b : ℕ) → b < 128 → IsUtf8 (32 ∷ b ∷ 32 ∷ [])
between b lt = behind 32 _ (omega arith) (behind b _ lt (ascii1 32 (omega arith)))

mutual
  pub text_is_utf8 : (names : List (List ℕ)) (t : Tree) → AreNames names → IsUtf8 (text_of names t)
  text_is_utf8 names (prob a b c) are = term_utf8 names (has a) (has b) (has c) are
  text_is_utf8 names (sum u e) are =
      join (codes "sum") _ (behind 115 _ (omega arith) (behind 117 _ (omega arith) (ascii1 109 (omega arith))))
      (join _ _ (set_utf8 names u are) (join (codes " ") _ (ascii1 32 (omega arith)) (text_is_utf8 names e are)))
  text_is_utf8 names (product ts) are = factors_utf8 names ts are
  text_is_utf8 names (quotient p q) are =
      join _ _ (wrapped_utf8 p (text_of names p) (text_is_utf8 names p are))
      (join (codes " / ") _ (between 47 (omega arith)) (wrapped_utf8 q (text_of names q) (text_is_utf8 names q are)))
  text_is_utf8 names (named k) are = join (codes "q") _ (ascii1 113 (omega arith)) (number_utf8 k)

  factors_utf8 : (names : List (List ℕ)) (ts : Trees) → AreNames names → IsUtf8 (factors_in Plain First names ts)
  factors_utf8 names no_trees are = IsUtf8-nil
  factors_utf8 names (tree t ts) are = join _ _ (wrapped_utf8 t (text_of names t) (text_is_utf8 names t are)) (more_factors_utf8 names ts are)

  more_factors_utf8 : (names : List (List ℕ)) (ts : Trees) → AreNames names → IsUtf8 (factors_in Plain Later names ts)
  more_factors_utf8 names no_trees are = IsUtf8-nil
  more_factors_utf8 names (tree t ts) are =
      join (codes " * ") _ (between 42 (omega arith)) (join _ _ (wrapped_utf8 t (text_of names t) (text_is_utf8 names t are)) (more_factors_utf8 names ts are))
