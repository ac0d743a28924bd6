-- The plain trees of the code's expressions, formulas and targets.
use Rattle.std.specs.Prelude.{List, map}
use Rattle.prob_expr.specs.Tree.{Tree, prob, sum, product, quotient, named, Trees, trees_of, PlainFormula, PlainTarget}
use Rattle.prob_expr.specs.declared.expr.Formula.{Formula}
use Rattle.prob_expr.specs.declared.expr.Target.{Target}
use Rattle.prob_expr.specs.declared.expr.Expr.{Expr, fold-Expr}
use Rattle.prob_expr.specs.declared.expr.Expr.TheOpen.{Expr-F}

-- the tree of a node whose children have theirs
abbrev pub node_view : Expr-F Tree → Tree
node_view (Expr-F.Prob a b c) = prob a.bits b.bits c.bits
node_view (Expr-F.Sum u e) = sum u.bits e.value
node_view (Expr-F.Product v) = product (trees_of v.items)
node_view (Expr-F.Quotient p q) = quotient p.value q.value
node_view (Expr-F.Named k) = named k

-- the plain tree of an expression
abbrev pub view : Expr → Tree
view = fold-Expr Tree node_view

-- those of a list of factors
abbrev pub views : List Expr → Trees
views es = trees_of (map view es)

-- the plain formula of a formula
abbrev pub formula_view : Formula → PlainFormula
formula_view f = record { defs = map view f.defs.items; main = view f.main }

-- the plain target of a target
abbrev pub target_view : Target → PlainTarget
target_view t = record { x = t.x.bits; y = t.y.bits; given = t.given.bits }
