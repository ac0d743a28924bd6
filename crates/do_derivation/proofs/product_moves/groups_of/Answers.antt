use Rattle.std.proofs.Common.{◌≡◌, ◌+◌, true, length, drop, refl, sym, ap, ◌∙◌, arith}
use Rattle.prob_expr.specs.Vocabulary.{views}
use Rattle.do_derivation.specs.View.{numbers_of}
use Rattle.do_derivation.specs.Shapes.{appended, as_one, groups_of, each_below, all_of}
use Rattle.do_derivation.proofs.Walks
use Rattle.do_derivation.proofs.product_moves.groups_of.Goals as goal

pub picked-requires : goal.picked-requires
picked-requires c =
    let h : each_below (length c.args.factors.now.items) (all_of (numbers_of c.deref-group-items.result.now)) ≡ true =
    rw c.deref-group-items.ensures.value c.requires.within in
    record {
      within = Walks.below_group (length c.args.factors.now.items) c.deref-group-items.result.now c.loop-group.group-index c.group-item.result
          (omega arith) c.group-item.is h;
    }

pub loop-group-preserved : goal.loop-group-preserved
loop-group-preserved c =
    ap (λ es. appended (views es) (groups_of (views c.args.factors.now.items)
    (numbers_of (drop (c.loop-group.group-index + 1) c.deref-group-items.result.now)))) c.in_ok-push.ensures.items
    ∙ Walks.groups_step c.deref-group-items.result.now c.loop-group.group-index c.group-item.result (omega arith)
    c.group-item.is c.args.factors.now.items c.loop-group.made.items c.as_one.result
    (c.as_one.ensures ∙ ap as_one c.in_ok-picked.ensures)
    ∙ c.loop-group.invariant

pub returns : goal.returns
returns c =
    rw (← c.deref-group-items.ensures.value)
    (sym (Walks.walk_end (λ l. groups_of (views c.args.factors.now.items) (numbers_of l))
    c.loop-group.made.items c.deref-group-items.result.now c.loop-group.group-index (omega arith) refl) ∙ c.loop-group.invariant)
