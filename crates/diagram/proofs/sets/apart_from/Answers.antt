use Rattle.std.proofs.Common.{◌≡◌, true, false, ◌&&◌, [], Some, sym, ap, subst, ◌∙◌, arith}
use Rattle.std.proofs.lemmas.Option.{get_or_from_slice_get}
use Rattle.mixed_graph.specs.Vocabulary.{has}
use Rattle.mixed_graph.proofs.Masks.{has-zero}
use Rattle.targets.specs.Targets.{twice}
use Rattle.targets.specs.Vocabulary.{IsNameFault}
use Rattle.diagram.proofs.Defaults.{known_names, apart_clear, lowest_twice}
use Rattle.diagram.proofs.sets.apart_from.Goals as goal

pub returns-then-is_empty-clause-none : goal.returns-then-is_empty-clause-none
returns-then-is_empty-clause-none c =
    let d = c.args.diagram.now in
    let none = c.is_empty.ensures.none.0 c.if-is_empty.true in
    apart_clear d.read.names d.observed.names d.observed.named (known_names d) c.args.walked.bits c.args.set.bits c.requires
    (λ v i. (let both = c.intersection-both.ensures.members v in let z : has c.intersection-both.result.bits v ≡ false =
    ap (λ m. has m v) none ∙ has-zero v in grind arith))

pub returns-clause-fault : goal.returns-clause-fault
returns-clause-fault c =
    let d = c.args.diagram.now in
    let k = c.lowest.result in
    let here = c.intersection-both.ensures.members k in
    let at = c.lowest.ensures.member in
    let set_k : has c.args.set.bits k ≡ true = grind arith in
    let walked_k : has c.args.walked.bits k ≡ true = grind arith in
    subst (λ o. IsNameFault o c.twice.result)
    (sym (lowest_twice d.read.names d.observed.names d.observed.named (known_names d) c.args.walked.bits c.args.set.bits c.requires k set_k walked_k
    (λ v i j. c.lowest.ensures.least v (let both = c.intersection-both.ensures.members v in grind arith))
    ∙ ap (λ n. Some (twice n)) (get_or_from_slice_get d.observed.names k c.get.result.now [] c.get.ensures.name)))
    c.twice.ensures
