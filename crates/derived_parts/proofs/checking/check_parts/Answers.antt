use Rattle.std.proofs.Common.{◌≡◌, ◌<◌, ◌≤◌, length, refl, subst, rules, get_or}
use Rattle.std.proofs.lemmas.Result.{err_from_is_err_and}
use Rattle.mixed_graph.specs.Vocabulary.{graph_of}
use Rattle.prob_expr.specs.Vocabulary.{masks_of}
use Rattle.derived_parts.specs.Parts.{derived_view, derived_views}
use Rattle.derived_parts.specs.Accepted.{IsPartFault, IsPartsFault}
use Rattle.derived_parts.specs.declared.fault.PartsFault.TheVariants.{Further}
use Rattle.derived_parts.proofs.Turns.{part_fails, part_further, set_here, sound_here, unless_weaker}
use Rattle.derived_parts.proofs.checking.check_parts.Goals as goal

pub check_part-requires-clause-due : goal.check_part-requires-clause-due
check_part-requires-clause-due c = set_here c.args.g.now.n c.args.districts.now c.loop-k.k (record { bits = 0 }) c.requires.districts c.loop-k-test.true

pub check_part-requires-clause-sound : goal.check_part-requires-clause-sound
check_part-requires-clause-sound c = sound_here c.args.g.now.n c.args.parts.now c.loop-k.k c.index-parts-k.result c.requires.sound (search rules)
    c.index-parts-k.is

pub returns-in_err-check_part-clause-fault : goal.returns-in_err-check_part-clause-fault
returns-in_err-check_part-clause-fault c =
    let g = graph_of c.args.g.now in
    let p = err_from_is_err_and c.from_residual.result c.from_residual.ensures.1 in
    let due = get_or c.args.districts.now c.loop-k.k (record { bits = 0 }) in
    let why = c.in_err-check_part.field-0.0 in
    rw (p.1, p.2) (unless_weaker why (IsPartFault g c.loop-k.k due.bits (derived_view c.index-parts-k.result) why)
    (IsPartsFault g 0 (masks_of c.args.districts.now) (derived_views c.args.parts.now) why)
    (part_fails g c.args.districts.now c.args.parts.now c.loop-k.k due (record { bits = 0 }) c.loop-k-test.true refl c.loop-k.invariant
    c.index-parts-k.result (search rules) c.index-parts-k.is why)
    c.in_err-check_part.ensures.fault)

pub returns-then-parts-districts-clause-fault : goal.returns-then-parts-districts-clause-fault
returns-then-parts-districts-clause-fault c =
    let g = graph_of c.args.g.now in
    let done : length c.args.districts.now ≤ c.loop-k.k = search rules in
    let whole : c.loop-k.k ≡ length c.args.districts.now = search rules in
    let room : c.loop-k.k < length c.args.parts.now = search rules in
    subst (λ n. IsPartsFault g 0 (masks_of c.args.districts.now) (derived_views c.args.parts.now) (Further n)) whole
    (part_further g c.args.districts.now c.args.parts.now c.loop-k.k done c.loop-k.invariant room)
