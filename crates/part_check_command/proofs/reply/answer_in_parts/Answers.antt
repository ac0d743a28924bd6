use Rattle.std.proofs.Common.{ℕ, subst}
use Rattle.mixed_graph.specs.Vocabulary.{graph_of}
use Rattle.prob_expr.specs.Vocabulary.{target_view}
use Rattle.derived_parts.specs.Vocabulary.{derived_views}
use Rattle.certificate.specs.Vocabulary.{treated, natural}
use Rattle.part_check_command.specs.Right.{HoldsParts}
use Rattle.part_check_command.proofs.Deciding.{among_answer, among_faults, nested_answer, nested_faults, parts_fault}
use Rattle.part_check_command.proofs.ReadParts.{IsSoundTreated, IsSoundNested, parts_read_sound}
use Rattle.part_check_command.proofs.reply.answer_in_parts.Goals as goal

pub decide_treated-requires : goal.decide_treated-requires
decide_treated-requires c =
    let seen = c.args.seen.now in
    let t = target_view c.in-Ok-Treated.target in let ps = derived_views c.in-Ok-Treated.parts.items in
    let reads = rw c.in-Ok-Treated.field-0-is at c.in-Ok-Treated.ensures in
    let sound = subst (λ (n : ℕ). IsSoundTreated n t ps) seen.sized (parts_read_sound seen.names c.args.certificate.now (treated t ps) reads) in
    record { sets = sound.sets; sound = sound.parts }

pub returns-in-Ok-Treated : goal.returns-in-Ok-Treated
returns-in-Ok-Treated c =
    let seen = c.args.seen.now in let bytes = c.args.certificate.now in
    let t = target_view c.in-Ok-Treated.target in let ps = derived_views c.in-Ok-Treated.parts.items in
    let reads = rw c.in-Ok-Treated.field-0-is at c.in-Ok-Treated.ensures in
    let holds : HoldsParts seen.names bytes (treated t ps) = record { small = c.requires.small; reads = reads } in
    record {
      answer = among_answer (graph_of seen.graph) seen.names bytes t ps holds c.decide_treated.result c.decide_treated.ensures.answer;
      fault = among_faults (graph_of seen.graph) seen.names bytes t ps holds c.decide_treated.result c.decide_treated.ensures.fault;
    }

pub decide_nested-requires : goal.decide_nested-requires
decide_nested-requires c =
    let seen = c.args.seen.now in
    let t = target_view c.in-Ok-Natural.target in let m = c.in-Ok-Natural.through.bits in let ps = derived_views c.in-Ok-Natural.parts.items in
    let reads = rw c.in-Ok-Natural.field-0-is at c.in-Ok-Natural.ensures in
    let sound = subst (λ (n : ℕ). IsSoundNested n t m ps) seen.sized (parts_read_sound seen.names c.args.certificate.now (natural t m ps) reads) in
    record { sets = sound.sets; sound = sound.parts }

pub returns-in-Ok-Natural : goal.returns-in-Ok-Natural
returns-in-Ok-Natural c =
    let seen = c.args.seen.now in let bytes = c.args.certificate.now in
    let t = target_view c.in-Ok-Natural.target in let m = c.in-Ok-Natural.through.bits in let ps = derived_views c.in-Ok-Natural.parts.items in
    let reads = rw c.in-Ok-Natural.field-0-is at c.in-Ok-Natural.ensures in
    let holds : HoldsParts seen.names bytes (natural t m ps) = record { small = c.requires.small; reads = reads } in
    record {
      answer = nested_answer (graph_of seen.graph) seen.names bytes t m ps holds c.decide_nested.result c.decide_nested.ensures.answer;
      fault = nested_faults (graph_of seen.graph) seen.names bytes t m ps holds c.decide_nested.result c.decide_nested.ensures.fault;
    }

pub returns-in-Err-clause-fault : goal.returns-in-Err-clause-fault
returns-in-Err-clause-fault c =
    parts_fault (graph_of c.args.seen.now.graph) c.args.seen.now.names c.args.certificate.now c.in-Err.fault c.requires.small c.requires.version c.in-Err.ensures
