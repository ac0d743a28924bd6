-- The vertices that the factors of a product and the definitions of a formula name, one after the other.
use Rattle.std.proofs.Common.{◌≡◌, ℕ, ◌+◌, ◌<◌, ◌≤◌, List, length, map, drop, get_or, sym, ap, ◌∙◌}
use Rattle.std.proofs.lemmas.List.{at_drop_more, at_drop_all}
use Rattle.mixed_graph.specs.Vocabulary.{union}
use Rattle.mixed_graph.proofs.MaskLaws.{join_assoc, join-zero}
use Rattle.prob_expr.specs.Mentioned.{mentioned_in, mentioned_in_any, mentioned_in_defs}
use Rattle.prob_expr.specs.View.{view, views}
use Rattle.prob_expr.specs.declared.expr.Expr.{Expr}
use Rattle.prob_expr.proofs.Views.{views_more, none_after}

pub factors_step : (before after : ℕ) (es : List Expr) (i : ℕ) (e : Expr) → i < length es → e ≡ get_or es i e → after ≡ union before (mentioned_in (view e))
    → union after (mentioned_in_any (views (drop (i + 1) es))) ≡ union before (mentioned_in_any (views (drop i es)))
factors_step before after es i e lt is h =
    ap (λ x. union x (mentioned_in_any (views (drop (i + 1) es)))) h
    ∙ join_assoc before (mentioned_in (view e)) (mentioned_in_any (views (drop (i + 1) es)))
    ∙ sym (ap (λ ts. union before (mentioned_in_any ts)) (views_more es i e lt is))

pub factors_end : (before : ℕ) (es : List Expr) (i : ℕ) → length es ≤ i → before ≡ union before (mentioned_in_any (views (drop i es)))
factors_end before es i le = sym (ap (λ ts. union before (mentioned_in_any ts)) (none_after es i le) ∙ join-zero before)

defs_more : (es : List Expr) (i : ℕ) (e : Expr) → i < length es → e ≡ get_or es i e
    → mentioned_in_defs (map view (drop i es)) ≡ union (mentioned_in (view e)) (mentioned_in_defs (map view (drop (i + 1) es)))
defs_more es i e lt is =
    at_drop_more (λ (ds : List Expr). mentioned_in_defs (map view ds)) es i e lt
    ∙ ap (λ x. union (mentioned_in (view x)) (mentioned_in_defs (map view (drop (i + 1) es)))) (sym is)

pub defs_step : (before after : ℕ) (es : List Expr) (i : ℕ) (e : Expr) → i < length es → e ≡ get_or es i e → after ≡ union before (mentioned_in (view e))
    → union after (mentioned_in_defs (map view (drop (i + 1) es))) ≡ union before (mentioned_in_defs (map view (drop i es)))
defs_step before after es i e lt is h =
    ap (λ x. union x (mentioned_in_defs (map view (drop (i + 1) es)))) h
    ∙ join_assoc before (mentioned_in (view e)) (mentioned_in_defs (map view (drop (i + 1) es)))
    ∙ sym (ap (λ m. union before m) (defs_more es i e lt is))

pub defs_end : (before : ℕ) (es : List Expr) (i : ℕ) → length es ≤ i → before ≡ union before (mentioned_in_defs (map view (drop i es)))
defs_end before es i le = sym (ap (λ m. union before m) (at_drop_all (λ (ds : List Expr). mentioned_in_defs (map view ds)) es i le) ∙ join-zero before)
