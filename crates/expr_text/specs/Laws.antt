-- What is written is read again, and what is read is the grammar's.
use Rattle.std.specs.Prelude.{◌≡◌, ◌↔◌, ℕ, ◌≤◌, ◌^◌, true, List, length, Ok, None}
use Rattle.mixed_graph.specs.Vocabulary.{AreNames}
use Rattle.prob_expr.specs.Tree.{Tree}
use Rattle.prob_expr.specs.Vocabulary.{PlainFormula, fault_in}
use Rattle.expr_text.specs.Grammar.{IsExprText, IsFormulaText}
use Rattle.expr_text.specs.Read.{expr_of, formula_of}
use Rattle.expr_text.specs.Sound.{is_sound, is_numbered}
use Rattle.expr_text.specs.Write.{text_of, nesting, formula_text, nesting_all}

-- an expression in which at most 60 parentheses and sums nest
abbrev pub ReadsBack : Type 0
ReadsBack = (names : List (List ℕ)) (t : Tree) → AreNames names → is_sound (length names) t ≡ true → is_numbered t ≡ true → nesting t ≤ 60
    → expr_of names (text_of names t) ≡ Ok t

-- a formula without a fault, with as many definitions as have numbers
abbrev pub ReadsWholeBack : Type 0
ReadsWholeBack = (names : List (List ℕ)) (f : PlainFormula) → AreNames names → fault_in (length names) f ≡ None → length f.defs ≤ 2 ^ 32 → nesting f.main ≤ 60
    → nesting_all f.defs ≤ 60
    → formula_of names (formula_text names f) ≡ Ok f

-- what is read as an expression is one of the grammar, and each such text is read
abbrev pub ReadsGrammar : Type 0
ReadsGrammar = (names : List (List ℕ)) (t : Tree) (text : List ℕ) → AreNames names → (expr_of names text ≡ Ok t) ↔ IsExprText names t text

-- what is read as a formula is one of the grammar without a fault, and each such text is read
abbrev pub ReadsFormulas : Type 0
ReadsFormulas = (names : List (List ℕ)) (f : PlainFormula) (text : List ℕ) → AreNames names → (formula_of names text ≡ Ok f)
    ↔ (IsFormulaText names f text × (fault_in (length names) f ≡ None))
