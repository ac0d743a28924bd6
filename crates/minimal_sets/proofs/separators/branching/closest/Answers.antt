use Rattle.std.proofs.Common.{◌≡◌, arith, true}
use Rattle.mixed_graph.specs.Vocabulary.{has}
use Rattle.mixed_graph.proofs.Masks.{apart_from_meet, some_in_meet}
use Rattle.minimal_sets.specs.Rows.{is_near}
use Rattle.minimal_sets.proofs.ClosestLaws.{none_near, closest_is}
use Rattle.minimal_sets.proofs.separators.branching.closest.Goals as goal

pub returns-then-not-is_empty-clause-none : goal.returns-then-not-is_empty-clause-none
returns-then-not-is_empty-clause-none g c =
    let w = some_in_meet c.intersection-common.result.bits c.flood-here.result.bits c.args.p.now.y.bits c.intersection-common.ensures.members
    (λ e. let t : c.is_empty.result ≡ true = c.is_empty.ensures.none.1 e in let f = c.if-not-is_empty.true in grind arith) (omega arith) in
    none_near (is_near c.args.p.now.near) c.args.p.now.frame.turn (has c.args.p.now.allowed.bits) (has c.args.p.now.x.bits) (has c.args.p.now.y.bits)
    (has c.args.s.bits) (has c.difference-free.result.bits)
    c.args.p.now.frame.y_fixed c.requires.holds c.requires.connected c.difference-free.ensures.members (has c.flood-here.result.bits)
    (λ v. (c.flood-here.ensures v).0) (λ v. (c.flood-here.ensures v).1)
    w.0 w.1 w.2

pub returns-clause-some : goal.returns-clause-some
returns-clause-some g c =
    closest_is (is_near c.args.p.now.near) c.args.p.now.frame.turn (has c.args.p.now.allowed.bits) (has c.args.p.now.x.bits) (has c.args.p.now.y.bits)
    (has c.args.s.bits) (has c.difference-free.result.bits)
    c.args.p.now.frame.y_fixed c.requires.holds c.requires.connected c.difference-free.ensures.members (has c.flood-here.result.bits)
    (λ v. (c.flood-here.ensures v).0) (λ v. (c.flood-here.ensures v).1)
    (has c.beside-front.result.bits) c.beside-front.ensures.member c.beside-front.ensures.next c.beside-front.ensures.all
    (has c.flood-far.result.bits) (has c.beside-separator.result.bits) (has c.flood.result.bits)
    (apart_from_meet c.intersection-common.result.bits c.flood-here.result.bits c.args.p.now.y.bits c.intersection-common.ensures.members
    (c.is_empty.ensures.none.0 (let f = c.if-not-is_empty.false in grind arith)))
    (λ v. (c.flood-far.ensures v).0) (λ v. (c.flood-far.ensures v).1)
    c.beside-separator.ensures.member c.beside-separator.ensures.next c.beside-separator.ensures.all
    (λ v. (c.flood.ensures v).0) (λ v. (c.flood.ensures v).1)
