use Rattle.std.proofs.Common.{◌≡◌, length, ap, refl, arith}
use Rattle.mixed_graph.specs.Vocabulary.{has, graph_of}
use Rattle.adjustment.proofs.FaultWalks.{adjusts_exactly}
use Rattle.minimal_sets.proofs.Exact.{minimal_is_exact}
use Rattle.adjust_command.proofs.Minimal.{none_admissible}
use Rattle.adjust_command.proofs.listing.list_counted.Goals as goal

pub returns-then-is_empty : goal.returns-then-is_empty
returns-then-is_empty g c =
    let q = graph_of c.args.graph.now in let x = c.args.sets.x.bits in let y = c.args.sets.y.bits in
    let none = none_admissible q (has x) (has y) c.args.most c.in_ok-listing.listing.sets.items c.in_ok-listing.listing.more
    c.requires.most c.in_ok-listing.ensures.listed (grind (arith, c.if-is_empty.true, c.if-is_empty.ensures)) in
    (refl, record { none = none; no_formula = λ z sets e. none (has z) sets ((adjusts_exactly q c.args.graph.now.valid x y z sets).1 e) })

pub returns : goal.returns
returns g c =
    let q = graph_of c.args.graph.now in let sets = c.requires.sets in let found = c.in_ok-listing.listing in
    let x = c.args.sets.x.bits in let y = c.args.sets.y.bits in (
      refl,
      record {
        listed = c.in_ok-listing.ensures.listed;
        some = λ none. let empty : length found.sets.items ≡ 0 = ap length none in absurd (grind (arith, c.if-is_empty.false, c.if-is_empty.ensures, empty));
        exact = λ z. minimal_is_exact q c.args.graph.now.valid x y z sets.x_within sets.y_within sets.x_y;
        effect = c.in_ok-listing.ensures.effect;
      },
    )
