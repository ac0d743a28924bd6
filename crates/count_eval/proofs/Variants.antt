-- Expressions, level by level.
use Rattle.std.proofs.Common.{ℕ, ◌≡◌, Vec, Box, rules}
use Rattle.std.specs.declared.alloc.Global.{Global}
use Rattle.mixed_graph.specs.declared.sets.VSet.{VSet}
use Rattle.prob_expr.specs.Tree.{prob, sum, product, quotient, named}
use Rattle.prob_expr.specs.View.{view}
use Rattle.prob_expr.specs.declared.expr.Expr.{Expr, the_lemmas}
use Rattle.prob_expr.specs.Vocabulary.{views}
use Rattle.prob_expr.specs.declared.expr.Expr.{Prob, Sum, Product, Quotient, Named}

pub view-Prob : (a b c : VSet) → view (Prob a b c) ≡ prob a.bits b.bits c.bits
view-Prob a b c = search (rules, the_lemmas)

pub view-Sum : (u : VSet) (b : Box Expr Global) → view (Sum u b) ≡ sum u.bits (view b.value)
view-Sum u b = search (rules, the_lemmas)

pub view-Product : (v : Vec Expr Global) → view (Product v) ≡ product (views v.items)
view-Product v = search (rules, the_lemmas)

pub view-Quotient : (p q : Box Expr Global) → view (Quotient p q) ≡ quotient (view p.value) (view q.value)
view-Quotient p q = search (rules, the_lemmas)

pub view-Named : (k : ℕ) → view (Named k) ≡ named k
view-Named k = search (rules, the_lemmas)
