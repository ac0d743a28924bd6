use Rattle.std.proofs.Common.{◌≡◌, not, length, ap, ◌∙◌, subst, arith}
use Rattle.std.specs.Vec.{vec_len}
use Rattle.mixed_graph.specs.Vocabulary.{has}
use Rattle.minimal_sets.specs.Progress.{IsSoFar}
use Rattle.minimal_sets.specs.Rows.{is_near}
use Rattle.minimal_sets.proofs.Endings.{ended, either_end, empty_items, not_empty, is_zero}
use Rattle.minimal_sets.proofs.SoFar.{working_begin}
use Rattle.minimal_sets.proofs.separators.listing.gather.Goals as goal

pub returns-in_default-clause-gathered : goal.returns-in_default-clause-gathered
returns-in_default-clause-gathered g c =
    ended (is_near c.args.p.now.near) (has c.args.p.now.allowed.bits) (has c.args.p.now.x.bits) (has c.args.p.now.y.bits)
    (λ v e. let l = c.args.p.now.within v e in let s = c.args.p.now.small in omega (arith, l, s))
    c.args.most c.turns.sets.items c.turns.todo.items
    c.turns.invariant.0 (let f = c.turns-test.true in let l = c.turns.invariant.1 in omega arith)
    (empty_items c.turns.todo.items (let k = c.turns.todo.ok in let z = c.in_default.ensures.cases.0 in omega arith))

pub turn-requires : goal.turn-requires
turn-requires g c = record {
  work = working_begin (is_near c.args.p.now.near) (has c.args.p.now.allowed.bits) (has c.args.p.now.x.bits) (has c.args.p.now.y.bits)
      c.turns.sets.items c.pop.new.self.items c.in-Some.node
      (subst (λ t. IsSoFar (is_near c.args.p.now.near) (has c.args.p.now.allowed.bits) (has c.args.p.now.x.bits) (has c.args.p.now.y.bits) c.turns.sets.items t)
      c.in-Some.ensures.items c.turns.invariant.0);
}

pub returns-clause-gathered : goal.returns-clause-gathered
returns-clause-gathered g c =
    let e : c.turns.i ≡ c.args.most = (let f = c.turns-test.false in let h = c.turns.auto.i-end in omega arith) in
    either_end (is_near c.args.p.now.near) (has c.args.p.now.allowed.bits) (has c.args.p.now.x.bits) (has c.args.p.now.y.bits)
    (λ v e. let l = c.args.p.now.within v e in let s = c.args.p.now.small in omega (arith, l, s))
    c.args.most c.turns.sets.items c.turns.todo.items (not c.is_empty-more.result)
    c.turns.invariant.0 (c.turns.invariant.1 ∙ e)
    (λ m e. not_empty (vec_len c.turns.todo) c.is_empty-more.result c.is_empty-more.ensures m
    (let k = c.turns.todo.ok in let z : length c.turns.todo.items ≡ 0 = ap length e in omega arith))
    (λ m. empty_items c.turns.todo.items (let k = c.turns.todo.ok in let z =
    is_zero (vec_len c.turns.todo) c.is_empty-more.result c.is_empty-more.ensures m in omega arith))
