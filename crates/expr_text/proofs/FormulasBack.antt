-- A formula, read back.
use Rattle.std.proofs.Common.{◌≡◌, ℕ, zero, suc, ◌+◌, ◌^◌, ◌<◌, ◌≤◌, true, cond, eqb, List, [], ◌∷◌, ◌++◌, length, Option, Some, None, Result, Ok}
use Rattle.std.proofs.Common.{Err, is_none, decimal, refl, sym, ap, ◌∙◌, append_assoc, append-nil, arith}
use Rattle.std.proofs.lemmas.Bool.{eq-eqb}
use Rattle.std.proofs.lemmas.List.{length-append}
use Rattle.prob_expr.specs.Tree.{Tree}
use Rattle.prob_expr.specs.Vocabulary.{PlainFormula, check_tree, fault_of, fault_in_defs, cap}
use Rattle.expr_text.specs.Read.{◌>>=◌, bad, trim, next_is, expect, repeat, inner_of, def_body, def_at, def_step, checked, formula_of}
use Rattle.answer_text.specs.declared.signs.Notation.TheVariants.{Plain}
use Rattle.expr_text.specs.Write.{text_of, nesting, defs_in, formula_text, nesting_all}
use Rattle.expr_text.specs.Laws.{ReadsWholeBack}
use Rattle.expr_text.proofs.Known.{AreKnown, known}
use Rattle.expr_text.proofs.Readable.{is_readable, readable}
use Rattle.expr_text.proofs.Checked.{neither, sound_from, numbered_from}
use Rattle.expr_text.proofs.NumbersBack.{number_is_read}
use Rattle.expr_text.proofs.TextsBack.{Ends, ends_here, expr_space, expr_back}
use Rattle.expr_text.proofs.Repeats.{end_with}

readable_from : (n : ℕ) (def : Option ℕ) (limit : ℕ) (t : Tree) → limit ≤ 2 ^ 32 → fault_of (check_tree n def limit t 0) ≡ None → is_readable n t ≡ true
readable_from n def limit t le h = readable n t (sound_from n def limit t h) (numbered_from n def limit t le h)

-- ---- definitions

ends_at_defs : (names : List (List ℕ)) (k : ℕ) (ds : List Tree) → Ends (defs_in Plain names k ds ++ [])
unfolding next_is trim
ends_at_defs names k [] = ends_here
ends_at_defs names k (d ∷ ds) = record { star = refl; slash = refl; digit = refl }

-- one definition's text, with what follows it
grouped : (names : List (List ℕ)) (k : ℕ) (d : Tree) (more : List ℕ)
    → (decimal k ++ 32 ∷ 61 ∷ 32 ∷ (text_of names d ++ more)) ++ [] ≡ decimal k ++ 32 ∷ 61 ∷ 32 ∷ (text_of names d ++ (more ++ []))
grouped names k d more =
    append_assoc (decimal k) (32 ∷ 61 ∷ 32 ∷ (text_of names d ++ more)) []
    ∙ ap (λ t. decimal k ++ 32 ∷ 61 ∷ 32 ∷ t) (append_assoc (text_of names d) more [])

body_back : (names : List (List ℕ)) (before : List Tree) (d : Tree) (more : List ℕ) → AreKnown names → is_readable (length names) d ≡ true → nesting d ≤ 60
    → Ends more
    → def_body names before (32 ∷ 61 ∷ 32 ∷ (text_of names d ++ more)) ≡ Ok (before ++ d ∷ [], more)
unfolding def_body expect next_is trim
body_back names before d more are sound nests ends =
    ap (λ r. r >>= λ e. Ok (before ++ e.0 ∷ [], e.1)) (expr_space names (inner_of names 60) (text_of names d ++ more)
    ∙ expr_back names are d 60 more sound nests ends)

def_back : (names : List (List ℕ)) (before : List Tree) (d : Tree) (more : List ℕ) → AreKnown names → is_readable (length names) d ≡ true → nesting d ≤ 60
    → Ends more → length before < 2 ^ 32
    → def_at names before (decimal (length before) ++ 32 ∷ 61 ∷ 32 ∷ (text_of names d ++ more)) ≡ Ok (before ++ d ∷ [], more)
unfolding def_at
def_back names before d more are sound nests ends lt =
    let k = length before in
    let bytes = decimal k ++ 32 ∷ 61 ∷ 32 ∷ (text_of names d ++ more) in
    ap (λ r. r >>= λ k. cond (eqb k.0 (length before)) (def_body names before k.1) (bad bytes))
    (number_is_read k (32 ∷ 61 ∷ 32 ∷ (text_of names d ++ more)) lt refl)
    ∙ ap (λ b. cond b (def_body names before (32 ∷ 61 ∷ 32 ∷ (text_of names d ++ more))) (bad bytes)) (eq-eqb k k refl)
    ∙ body_back names before d more are sound nests ends

defs_back : (names : List (List ℕ)) (ds : List Tree) (fuel : ℕ) (before : List Tree) (k : ℕ) → AreKnown names → k ≡ length before
    → fault_in_defs (length names) k ds ≡ None → k + length ds ≤ 2 ^ 32 → nesting_all ds ≤ 60 → length ds ≤ fuel
    → repeat (def_step names) fuel before (defs_in Plain names k ds ++ []) ≡ Ok (before ++ ds, [])
unfolding next_is trim
defs_back names [] fuel before k are at ok room nests le = end_with (def_step names) before [] fuel refl ∙ ap (λ ds. Ok (ds, [])) (sym (append-nil before))
defs_back names (d ∷ ds) zero before k are at ok room nests le = absurd (omega arith)
defs_back names (d ∷ ds) (suc fuel) before k are at ok room nests le =
    let n = length names in
    let parts = neither (fault_of (check_tree n (Some (cap k)) k d 0)) (fault_in_defs n (k + 1) ds) ok in
    let sound = readable_from n (Some (cap k)) k d (omega arith) parts.0 in
    let more = defs_in Plain names (k + 1) ds in
    let len : k + 1 ≡ length (before ++ d ∷ []) = omega (arith, length-append before (d ∷ [])) in
    ap (λ t. repeat (def_step names) (suc fuel) before (10 ∷ 113 ∷ t)) (grouped names k d more)
    ∙ ap (λ q. def_at names before (decimal q ++ 32 ∷ 61 ∷ 32 ∷ (text_of names d ++ (more ++ []))) >>= λ p. repeat (def_step names) fuel p.0 p.1) at
    ∙ ap (λ r. r >>= λ p. repeat (def_step names) fuel p.0 p.1) (def_back names before d (more ++ []) are sound (omega arith) (ends_at_defs names (k + 1) ds)
    (omega arith))
    ∙ defs_back names ds fuel (before ++ d ∷ []) (k + 1) are len parts.1 (omega arith) (omega arith) (omega arith)
    ∙ ap (λ ds. Ok (ds, [])) (append_assoc before (d ∷ []) ds)

enough : (names : List (List ℕ)) (k : ℕ) (ds : List Tree) → length ds ≤ length (defs_in Plain names k ds ++ [])
enough names k [] = omega arith
enough names k (d ∷ ds) =
    let more = defs_in Plain names (k + 1) ds in
    omega (
      arith,
      enough names (k + 1) ds,
      ap length (grouped names k d more),
      length-append (decimal k) (32 ∷ 61 ∷ 32 ∷ (text_of names d ++ (more ++ []))),
      length-append (text_of names d) (more ++ []),
    )

pub reads_whole_back : ReadsWholeBack
unfolding formula_of trim
reads_whole_back names f are_names ok room main_nests defs_nest =
    let are = known names are_names in
    let n = length names in
    let parts = neither (fault_in_defs n 0 f.defs) (fault_of (check_tree n None (length f.defs) f.main 0)) ok in
    let sound = readable_from n None (length f.defs) f.main room parts.1 in
    let rest = defs_in Plain names 0 f.defs ++ [] in
    let end : Result (List Tree × List ℕ) ℕ → Result PlainFormula ℕ = λ r. r >>= λ defs. cond (eqb (length (trim defs.1)) 0)
    (checked n (record { defs = defs.0; main = f.main })) (bad defs.1) in
    ap (formula_of names) (sym (append-nil (formula_text names f)))
    ∙ ap (formula_of names) (append_assoc (text_of names f.main) (defs_in Plain names 0 f.defs) [])
    ∙ ap (λ r. r >>= λ main. repeat (def_step names) (length main.1) [] main.1 >>= λ defs. cond (eqb (length (trim defs.1)) 0)
    (checked n (record { defs = defs.0; main = main.0 })) (bad defs.1))
    (expr_back names are f.main 60 rest sound main_nests (ends_at_defs names 0 f.defs))
    ∙ ap end (defs_back names f.defs (length rest) [] 0 are refl parts.0 (omega arith) defs_nest (enough names 0 f.defs))
    ∙ ap (λ o. cond (is_none o) (Ok f) (Err 0)) ok
