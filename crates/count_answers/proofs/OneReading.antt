-- Bytes of counts are the text of one table, as far as its sums go.
use Rattle.std.proofs.Common.{◌≡◌, ℕ, List, Option, sym, ap, ◌∙◌}
use mathlib.Core.Path.{fun_ext}
use Rattle.count_rows.specs.Vocabulary.{Field, records_of, rows_of, Table, counted, rows_in}
use Rattle.count_table.specs.Vocabulary.{IsTableOf, layout_in}

-- both tables have the same vertices, levels and sums
pub record AreAlike (t u : Table) : Type 0 where
  pub vertices : u.vertices ≡ t.vertices
  pub levels : u.levels ≡ t.levels
  pub sums : counted u.vertices u.rows ≡ counted t.vertices t.rows

-- bytes are the text of one table
pub one_table : (bytes : List ℕ) (names : List (List ℕ)) (used : ℕ) (count : Option Field) (t u : Table) → IsTableOf bytes names used count t
    → IsTableOf bytes names used count u → AreAlike t u
one_table bytes names used count t u a b =
    let vertices : u.vertices ≡ t.vertices = b.vertices ∙ sym a.vertices in
    let all = rows_in (layout_in (records_of bytes) names used count) (rows_of (records_of bytes)) in
    record {
      vertices = vertices;
      levels = b.levels ∙ sym a.levels;
      sums = fun_ext (λ k. fun_ext (λ s. b.rows k s ∙ ap (λ (v : List ℕ). counted v all k s) vertices ∙ sym (a.rows k s)));
    }
