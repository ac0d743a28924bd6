-- The free variables of factors, one after another.
use Rattle.std.proofs.Common.{◌≡◌, ℕ, ◌+◌, ◌<◌, ◌≤◌, List, length, drop, get_or, sym, ap, ◌∙◌}
use Rattle.mixed_graph.specs.Vocabulary.{union}
use Rattle.prob_expr.specs.View.{view, views}
use Rattle.prob_expr.specs.Free.{free_in, free_in_any}
use Rattle.prob_expr.specs.declared.expr.Expr.{Expr}
use Rattle.mixed_graph.proofs.MaskLaws.{join_assoc, join-zero}
use Rattle.prob_expr.proofs.Views.{views_more, none_after}

pub free_step : (sets : List ℕ) (before after : ℕ) (es : List Expr) (i : ℕ) (e : Expr) → i < length es → e ≡ get_or es i e → after
    ≡ union before (free_in sets (view e))
    → union after (free_in_any sets (views (drop (i + 1) es))) ≡ union before (free_in_any sets (views (drop i es)))
free_step sets before after es i e lt is h =
    ap (λ x. union x (free_in_any sets (views (drop (i + 1) es)))) h
    ∙ join_assoc before (free_in sets (view e)) (free_in_any sets (views (drop (i + 1) es)))
    ∙ sym (ap (λ ts. union before (free_in_any sets ts)) (views_more es i e lt is))

pub free_end : (sets : List ℕ) (before : ℕ) (es : List Expr) (i : ℕ) → length es ≤ i → before ≡ union before (free_in_any sets (views (drop i es)))
free_end sets before es i le = sym (ap (λ ts. union before (free_in_any sets ts)) (none_after es i le) ∙ join-zero before)
