use Rattle.std.proofs.Common.{◌≡◌, sym, ◌∙◌, arith, ap, ◌||◌, ◌+◌, [], ◌∷◌, ◌++◌}
use Rattle.mixed_graph.specs.Vocabulary.{has}
use Rattle.minimal_sets.specs.Rows.{is_near}
use Rattle.minimal_sets.proofs.Spreads.{spreading_skip, spreading_still, spreading_forked, spread_whole, moved}
use Rattle.minimal_sets.proofs.separators.branching.spread.Goals as goal
use Rattle.minimal_sets.proofs.separators.branching.spread.Goals.{then-has, in-Some+in_ok-push, in_default, else-has}

pub members-preserved : goal.members-preserved
members-preserved g c = elim c.if-has.branch [
  | then-has w ↦ elim w.match-joined.branch [
    | in-Some+in_ok-push w' ↦ (
      moved (is_near c.args.p.now.near) (has c.args.p.now.allowed.bits) (has c.args.p.now.x.bits) (has c.args.p.now.y.bits) c.args.node c.args.todo.now.items
          (c.members.todo.items ++ w'.in-Some.fork ∷ []) c.if-has.todo.items w.union-kept.result c.if-has.kept (c.members.v + 1)
          (spreading_forked (is_near c.args.p.now.near) (has c.args.p.now.allowed.bits) (has c.args.p.now.x.bits) (has c.args.p.now.y.bits)
          c.args.p.now.frame c.args.node c.requires.node c.args.todo.now.items c.members.todo.items
          c.members.kept c.members.v c.members.invariant.0 (sym (c.difference-left.ensures.members c.members.v) ∙ sym c.has.ensures ∙ w.if-has.true)
          w.union-kept.result (λ u. w.union-kept.ensures.members u ∙ ap (λ t. has c.members.kept.bits u || t) (w.one.ensures.members u))
          w'.in-Some.fork w'.in-Some.ensures.some)
          (ap (λ t. t.items) (w.todo-is ∙ w'.todo-is) ∙ w'.in_ok-push.ensures.items) w.kept-is,
      omega (arith, w.steps-is, w.joined.ensures.cost, c.members.invariant.1),
    )
    | in_default w' ↦ (
      moved (is_near c.args.p.now.near) (has c.args.p.now.allowed.bits) (has c.args.p.now.x.bits) (has c.args.p.now.y.bits) c.args.node c.args.todo.now.items
          c.members.todo.items c.if-has.todo.items w.union-kept.result c.if-has.kept (c.members.v + 1)
          (spreading_still (is_near c.args.p.now.near) (has c.args.p.now.allowed.bits) (has c.args.p.now.x.bits) (has c.args.p.now.y.bits)
          c.args.p.now.frame c.args.node c.requires.node c.args.todo.now.items c.members.todo.items
          c.members.kept c.members.v c.members.invariant.0 (sym (c.difference-left.ensures.members c.members.v) ∙ sym c.has.ensures ∙ w.if-has.true)
          w.union-kept.result (λ u. w.union-kept.ensures.members u ∙ ap (λ t. has c.members.kept.bits u || t) (w.one.ensures.members u))
          w'.in_default.ensures.none)
          (ap (λ t. t.items) (w.todo-is ∙ w'.todo-is)) w.kept-is,
      omega (arith, w.steps-is, w.joined.ensures.cost, c.members.invariant.1),
    )
  ]
  | else-has w ↦ (
    moved (is_near c.args.p.now.near) (has c.args.p.now.allowed.bits) (has c.args.p.now.x.bits) (has c.args.p.now.y.bits) c.args.node c.args.todo.now.items
        c.members.todo.items c.if-has.todo.items c.members.kept c.if-has.kept (c.members.v + 1)
        (spreading_skip (is_near c.args.p.now.near) (has c.args.p.now.allowed.bits) (has c.args.p.now.x.bits) (has c.args.p.now.y.bits)
        c.args.p.now.frame c.args.node c.requires.node c.args.todo.now.items c.members.todo.items
        c.members.kept c.members.v (sym (c.difference-left.ensures.members c.members.v) ∙ sym c.has.ensures ∙ w.if-has.false) c.members.invariant.0)
        (ap (λ t. t.items) w.todo-is) w.kept-is,
    omega (arith, w.steps-is, c.members.invariant.1),
  )
]

pub returns-clause-listed : goal.returns-clause-listed
returns-clause-listed g c = spread_whole (is_near c.args.p.now.near) (has c.args.p.now.allowed.bits) (has c.args.p.now.x.bits) (has c.args.p.now.y.bits)
    c.args.p.now.frame c.args.node c.requires.node c.args.todo.now.items c.members.todo.items
    c.members.kept c.args.p.now.n (λ v e. c.args.p.now.within v (c.requires.node.here.minimal.within v e))
    (let e : c.members.v ≡ c.args.p.now.n = (let f = c.members-test.false in let h = c.members.auto.v-end in omega arith) in
    rw (sym e) c.members.invariant.0)
