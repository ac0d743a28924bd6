use Rattle.std.proofs.Common.{◌∙◌, refl, ap}
use Rattle.std.proofs.lemmas.Result.{IfOk-weaker}
use Rattle.mixed_graph.specs.Vocabulary.{has, graph_of}
use Rattle.do_rules.specs.Vocabulary.{cut_out}
use Rattle.minimal_sets.specs.Vocabulary.{is_near}
use Rattle.instrument_sets.proofs.Separating.{handed_within, handed_frame, handed_strata}
use Rattle.instrument_sets.proofs.strata.separators_of.Goals as goal

pub invariant_of-p : goal.invariant_of-p
invariant_of-p g c = record {
  small = c.args.g.now.small;
  frame = handed_frame (graph_of c.args.g.now) c.args.g.now.valid (has c.args.x.bits) (has c.args.y.bits)
      (has c.args.z.bits) c.requires.sets (has c.args.below.bits) c.requires.below c.requires.unmoved (graph_of c.cut_out-h.result)
      (c.cut_out-h.ensures ∙ ap (λ k. cut_out k (has c.args.x.bits)) c.cut_into.ensures)
      (has c.union.result.bits) (has c.ancestors-within.result.bits) c.union.ensures.members c.ancestors-within.ensures
      (is_near c.moral_rows.result) c.moral_rows.ensures (has c.difference-3.result.bits)
      (λ v. let p = c.difference-3.ensures.members v in let q = c.difference-2.ensures.members v in let r = c.difference.ensures.members v in
      p ∙ rw (q, r) refl);
  within = handed_within (graph_of c.args.g.now) c.args.g.now.valid (has c.args.x.bits) (has c.args.y.bits)
      (has c.args.z.bits) c.requires.sets (has c.args.below.bits) c.requires.below c.requires.unmoved (graph_of c.cut_out-h.result)
      (c.cut_out-h.ensures ∙ ap (λ k. cut_out k (has c.args.x.bits)) c.cut_into.ensures)
      (has c.union.result.bits) (has c.ancestors-within.result.bits) c.union.ensures.members c.ancestors-within.ensures
      (is_near c.moral_rows.result) c.moral_rows.ensures (has c.difference-3.result.bits)
      (λ v. let p = c.difference-3.ensures.members v in let q = c.difference-2.ensures.members v in let r = c.difference.ensures.members v in
      p ∙ rw (q, r) refl);
}

pub returns-clause-listed : goal.returns-clause-listed
returns-clause-listed g c = IfOk-weaker c.list_separators.result _ _ (λ l k. handed_strata (graph_of c.args.g.now) c.args.g.now.valid (has c.args.x.bits) (has c.args.y.bits)
    (has c.args.z.bits) c.requires.sets (has c.args.below.bits) c.requires.below c.requires.unmoved (graph_of c.cut_out-h.result)
    (c.cut_out-h.ensures ∙ ap (λ k. cut_out k (has c.args.x.bits)) c.cut_into.ensures)
    (has c.union.result.bits) (has c.ancestors-within.result.bits) c.union.ensures.members c.ancestors-within.ensures
    (is_near c.moral_rows.result) c.moral_rows.ensures (has c.difference-3.result.bits)
    (λ v. let p = c.difference-3.ensures.members v in let q = c.difference-2.ensures.members v in let r = c.difference.ensures.members v in
    p ∙ rw (q, r) refl) c.args.most l.sets.items l.more k) c.list_separators.ensures.listed
