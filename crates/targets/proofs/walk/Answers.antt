use Rattle.std.proofs.Common.{◌≡◌, ℕ, ◌+◌, ◌<◌, bit_or, ◌||◌, ◌==◌, ◌∷◌, length, drop, sym, ap, subst, ◌∙◌, arith}
use Rattle.std.specs.Prelude.{get_or}
use Rattle.std.specs.Global.{Vec}
use Rattle.mixed_graph.specs.Vocabulary.{has, texts}
use Rattle.mixed_graph.proofs.Masks.{has-or}
use Rattle.targets.specs.Targets.{IsNameFault, first_fault, walked_in}
use Rattle.targets.proofs.Walking.{IsWalking, walking_more, fault_first, texts-drop, texts-drop_end}
use Rattle.targets.proofs.walk.Goals as goal
use Rattle.targets.proofs.walk.Goals.{After-as_slice}

-- the names still to come begin with this one
coming : (c : After-as_slice) → texts (drop c.loop-name.name-index c.args.list.now) ≡ c.as_slice.result.now
    ∷ texts (drop (c.loop-name.name-index + 1) c.args.list.now)
coming c = texts-drop c.args.list.now c.loop-name.name-index c.name-item.result c.loop-name-test.true
    ∙ ap (λ n. n ∷ texts (drop (c.loop-name.name-index + 1) c.args.list.now))
    (let item : get_or c.args.list.now c.loop-name.name-index c.name-item.result ≡ c.name-item.result = sym c.name-item.is in
    ap (λ (v : Vec ℕ). v.items) item ∙ sym c.as_slice.ensures.value)

pub returns-in-Err-clause-fault : goal.returns-in-Err-clause-fault
returns-in-Err-clause-fault c =
    let at = coming (goal.at.returns-in-Err-clause-fault c).After-as_slice in
    subst (λ o. IsNameFault o c.in-Err.fault)
    (sym (c.loop-name.invariant.faults c.union.result.bits c.union.ensures.members
    ∙ ap (first_fault c.args.all.now c.args.observed.now (walked_in c.args.observed.now c.union.result.bits)) at))
    (fault_first _ _ c.in-Err.fault c.in-Err.ensures.fault)

pub loop-name-preserved : goal.loop-name-preserved
loop-name-preserved c =
    let at = coming (goal.at.loop-name-preserved c).After-as_slice in
    walking_more c.args.all.now c.args.observed.now c.in-Ok.ensures.names c.args.walked.bits c.loop-name.set.bits c.union.result.bits c.union-set.result.bits
    (texts c.args.list.now) (texts (drop (c.loop-name.name-index + 1) c.args.list.now)) c.as_slice.result.now
    c.union.ensures.members
    (λ u. c.union-set.ensures.members u ∙ ap (λ b. has c.loop-name.set.bits u || b) (c.one.ensures.members u ∙ ap (λ v. u == v) c.in-Ok.ensures.vertex))
    c.in-Ok.ensures.none (subst (λ v. v < length c.args.observed.now) c.in-Ok.ensures.vertex c.in-Ok.ensures.within.0)
    (subst (IsWalking c.args.all.now c.args.observed.now c.args.walked.bits c.loop-name.set.bits (texts c.args.list.now)) at c.loop-name.invariant)

pub returns-clause-none : goal.returns-clause-none
returns-clause-none c =
    c.loop-name.invariant.faults (bit_or c.args.walked.bits c.loop-name.set.bits) (has-or c.args.walked.bits c.loop-name.set.bits)
    ∙ ap (first_fault c.args.all.now c.args.observed.now (walked_in c.args.observed.now (bit_or c.args.walked.bits c.loop-name.set.bits)))
    (texts-drop_end c.args.list.now c.loop-name.name-index (omega arith))
