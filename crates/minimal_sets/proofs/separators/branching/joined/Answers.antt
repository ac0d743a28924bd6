use Rattle.std.proofs.Common.{◌≡◌, refl, ◌∙◌, arith, false, true, ap, ◌||◌}
use Rattle.mixed_graph.specs.Vocabulary.{has}
use Rattle.mixed_graph.proofs.Masks.{has-zero, some_member}
use Rattle.minimal_sets.specs.Rows.{is_near}
use Rattle.minimal_sets.proofs.Forks.{x_in, connected, still_none, still_lost, forked}
use Rattle.minimal_sets.proofs.separators.branching.joined.Goals as goal

pub closest-requires-clause-holds : goal.closest-requires-clause-holds
closest-requires-clause-holds g c = x_in (is_near c.args.p.now.near) (has c.args.p.now.allowed.bits) (has c.args.p.now.x.bits) (has c.args.p.now.y.bits)
    c.args.p.now.frame c.args.node c.requires.node c.args.v c.requires.member
    c.union-side.result.bits (λ u. c.union-side.ensures.members u ∙ ap (λ t. has c.args.node.side.bits u || t) (c.one.ensures.members u))

pub closest-requires-clause-connected : goal.closest-requires-clause-connected
closest-requires-clause-connected g c = connected (is_near c.args.p.now.near) (has c.args.p.now.allowed.bits) (has c.args.p.now.x.bits)
    (has c.args.p.now.y.bits) c.args.p.now.frame c.args.node c.requires.node c.args.v c.requires.member
    c.union-side.result.bits (λ u. c.union-side.ensures.members u ∙ ap (λ t. has c.args.node.side.bits u || t) (c.one.ensures.members u))

pub returns-in-None-clause-none : goal.returns-in-None-clause-none
returns-in-None-clause-none g c = still_none (is_near c.args.p.now.near) (has c.args.p.now.allowed.bits) (has c.args.p.now.x.bits) (has c.args.p.now.y.bits)
    c.args.p.now.frame c.args.node c.requires.node c.args.v c.requires.member
    c.union-side.result.bits (λ u. c.union-side.ensures.members u ∙ ap (λ t. has c.args.node.side.bits u || t) (c.one.ensures.members u)) c.in-None.ensures.none

pub returns-then-is_empty-clause-some : goal.returns-then-is_empty-clause-some
returns-then-is_empty-clause-some g c = forked (is_near c.args.p.now.near) (has c.args.p.now.allowed.bits) (has c.args.p.now.x.bits) (has c.args.p.now.y.bits)
    c.args.p.now.frame c.args.node c.requires.node c.args.v c.requires.member
    c.union-side.result.bits (λ u. c.union-side.ensures.members u ∙ ap (λ t. has c.args.node.side.bits u || t) (c.one.ensures.members u))
    c.in-Some.c.separator.bits c.in-Some.c.side.bits c.in-Some.ensures.some _ refl refl refl
    (λ w k. let z : c.difference-lost.result.bits ≡ 0 = c.is_empty.ensures.none.0 c.if-is_empty.true in
    let e : has c.difference-lost.result.bits w ≡ false = rw z (has-zero w) in let d = c.difference-lost.ensures.members w in grind arith)

pub returns-else-is_empty-clause-none : goal.returns-else-is_empty-clause-none
returns-else-is_empty-clause-none g c =
    let w = some_member c.difference-lost.result.bits (λ e. let t : c.is_empty.result ≡ true = c.is_empty.ensures.none.1 e in let f = c.if-is_empty.false in
    grind arith) (omega arith) in
    let d = c.difference-lost.ensures.members w.0 in let i = w.1 in
    still_lost (is_near c.args.p.now.near) (has c.args.p.now.allowed.bits) (has c.args.p.now.x.bits) (has c.args.p.now.y.bits)
    c.args.p.now.frame c.args.node c.requires.node c.args.v c.requires.member
    c.union-side.result.bits (λ u. c.union-side.ensures.members u ∙ ap (λ t. has c.args.node.side.bits u || t) (c.one.ensures.members u))
    c.in-Some.c.separator.bits c.in-Some.c.side.bits c.in-Some.ensures.some w.0 (grind arith) (grind arith)
