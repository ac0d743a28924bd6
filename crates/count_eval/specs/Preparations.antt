-- What a prepared formula is, whatever tables it has.
use Rattle.std.specs.Prelude.{ℕ, Bool, List, refl}
use Rattle.std.specs.Coded.{Coded, code_by, coded×, coded_ℕ, coded_bool, coded_list}
use Rattle.prob_expr.specs.Tree.{Tree}
use Rattle.prob_expr.specs.Vocabulary.{PlainFormula, coded_tree}
use Rattle.count_rows.specs.Vocabulary.{Field, Row, Table}

-- a formula on so many vertices, over a table of counts; and whether a product with a factor 0 is 0 also where other factors have no value
pub record Preparation : Type 0 where
  pub vertices : ℕ
  pub counts : Table
  pub formula : PlainFormula
  pub zero : Bool

-- a formula is stored as the pair of its parts
abbrev pub coded_formula : Coded PlainFormula
coded_formula = code_by (List Tree × Tree) (coded× (coded_list coded_tree) coded_tree) (λ f. (f.defs, f.main)) (λ p. record { defs = p.0; main = p.1 })
    (λ _. refl)

-- and so is a row
abbrev pub coded_row : Coded Row
coded_row = code_by (List ℕ × ℕ) (coded× (coded_list coded_ℕ) coded_ℕ) (λ r. (r.cell, r.count)) (λ p. record { cell = p.0; count = p.1 }) (λ _. refl)

-- a table is stored as its vertices, their levels and its rows
abbrev pub coded_table : Coded Table
coded_table =
    code_by (List ℕ × (List (List Field) × List Row)) (coded× (coded_list coded_ℕ)
    (coded× (coded_list (coded_list (coded_list coded_ℕ))) (coded_list coded_row)))
    (λ t. (t.vertices, (t.levels, t.rows))) (λ p. record { vertices = p.0; levels = p.1.0; rows = p.1.1 }) (λ _. refl)

-- and the whole as the number, the table, the formula and the rule for products
abbrev pub coded_preparation : Coded Preparation
coded_preparation =
    code_by (ℕ × (Table × (PlainFormula × Bool))) (coded× coded_ℕ (coded× coded_table (coded× coded_formula coded_bool)))
    (λ p. (p.vertices, (p.counts, (p.formula, p.zero)))) (λ p. record { vertices = p.0; counts = p.1.0; formula = p.1.1.0; zero = p.1.1.1 }) (λ _. refl)
