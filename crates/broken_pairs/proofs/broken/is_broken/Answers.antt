use Rattle.std.proofs.Common.{◌≡◌, ◌∙◌, ap, rules, to_z, of_z}
use Rattle.std.specs.Int.{w128}
use Rattle.std.proofs.Math.Facts.{to_z-of_z}
use Rattle.broken_pairs.specs.Broken.{is_apart}
use Rattle.broken_pairs.proofs.Apart.{unbroken_if, refutes_if}
use Rattle.broken_pairs.proofs.broken.is_broken.Goals as goal

pub returns-clause-no : goal.returns-clause-no
returns-clause-no c =
    let kept : to_z w128 (of_z w128 c.in_ok-largest.largest.value) ≡ c.in_ok-largest.largest.value = search (rules, to_z-of_z) in
    unbroken_if c.args.c.now c.args.i.now c.in_ok-largest.largest c.in_ok-largest.ensures.largest c.is_apart.result
    (c.is_apart.ensures ∙ ap is_apart kept)

pub returns-clause-refutes : goal.returns-clause-refutes
returns-clause-refutes c =
    let kept : to_z w128 (of_z w128 c.in_ok-largest.largest.value) ≡ c.in_ok-largest.largest.value = search (rules, to_z-of_z) in
    refutes_if c.args.c.now c.args.i.now c.in_ok-largest.largest c.in_ok-largest.ensures.matched c.is_apart.result
    (c.is_apart.ensures ∙ ap is_apart kept)
