use Rattle.std.proofs.Common.{◌≡◌, Bool, sym, ◌∙◌, true, false, refl}
use Rattle.std.specs.Bool.{OnTrue}
use Rattle.mixed_graph.specs.Vocabulary.{has, IsAncestor, graph_of}
use Rattle.mixed_graph.proofs.MaskLaws.{inside_has}
use Rattle.prob_expr.specs.Vocabulary.{formula_view}
use Rattle.short_formulas.proofs.NamesOnly.{formula_names_only}
use Rattle.short_formulas.proofs.admitting.names_ancestors.Goals as goal

-- what is so where the test holds
on_true : (b : Bool) (P : Type 0) → (b ≡ true → P) → OnTrue b P
on_true true P h = h refl
on_true false P h = tt

pub returns : goal.returns
returns c = on_true c.is_inside.result _ (λ yes. formula_names_only (IsAncestor (graph_of c.args.g.now) (has c.args.set.bits)) (formula_view c.args.f.now)
    (λ u e. (c.ancestors.ensures u).0 (inside_has c.mentioned.result.bits c.ancestors.result.bits u (sym c.is_inside.ensures ∙ yes)
    (rw c.mentioned.ensures e))))
