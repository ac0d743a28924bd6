use Rattle.expr_text.proofs.Known.{known}
use Rattle.expr_text.proofs.GrammarRead.{text_front, formula_front}
use Rattle.expr_text.proofs.GrammarBack.{text_read, formula_read}
use Rattle.expr_text.proofs.laws.the_grammar.Goals as goal

pub returns-clause-expr : goal.returns-clause-expr
returns-clause-expr c names t text are = (text_front names t text, text_read names t text (known names are))

pub returns-clause-formula : goal.returns-clause-formula
returns-clause-formula c names f text are = (formula_front names f text, λ s. formula_read names f text (known names are) s.0 s.1)
