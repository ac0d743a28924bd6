use Rattle.std.proofs.Common.{◌≡◌, true, false, length, ap, ◌∙◌, rules}
use Rattle.mixed_graph.specs.Vocabulary.{graph_of}
use Rattle.prob_expr.specs.Tree.{product}
use Rattle.prob_expr.specs.View.{view}
use Rattle.prob_expr.proofs.Views.{view-Product}
use Rattle.do_derivation.specs.View.{numbers_of}
use Rattle.do_derivation.specs.Shapes.{is_grouping}
use Rattle.do_derivation.proofs.Walks
use Rattle.do_derivation.proofs.product_moves.group.Goals as goal

pub returns-then-not-is_grouping : goal.returns-then-not-is_grouping
returns-then-not-is_grouping c =
    let h : is_grouping (length c.in-Product.factors.items) (numbers_of c.args.groups.now.items) ≡ false = search rules in
    record {
      row = Walks.group_refused (graph_of c.args.g.now) (numbers_of c.args.groups.now.items) (view c.args.e) c.in-Product.factors.items
          (ap view c.in-Product.is ∙ view-Product c.in-Product.factors) h;
    }

pub returns-in-Ok : goal.returns-in-Ok
returns-in-Ok c =
    let h : is_grouping (length c.in-Product.factors.items) (numbers_of c.args.groups.now.items) ≡ true = search rules in
    record {
      row = Walks.group_made (graph_of c.args.g.now) (numbers_of c.args.groups.now.items) (view c.args.e) c.in-Product.factors.items
          (ap view c.in-Product.is ∙ view-Product c.in-Product.factors) h
          _ (view-Product c.in-Ok.made ∙ ap product c.in-Ok.ensures);
    }
