use Rattle.std.proofs.Common.{◌∙◌, refl, get_or}
use Rattle.std.proofs.lemmas.Result.{IfOk-weaker}
use Rattle.mixed_graph.specs.Vocabulary.{has, graph_of}
use Rattle.adjustment.proofs.Causal.{below_from}
use Rattle.minimal_sets.specs.Rows.{is_near}
use Rattle.minimal_sets.proofs.MinimalSeparators.{handed_within, handed_frame, handed_sets, minimal_adjusts}
use Rattle.minimal_sets.proofs.sets.list.Goals as goal

pub descendants-forbidden-requires : goal.descendants-forbidden-requires
descendants-forbidden-requires g c = λ v e.
    (below_from (graph_of c.args.g.now) c.args.g.now.valid (has c.args.x.bits) (has c.args.y.bits) c.requires.x v ((c.proper_causal.ensures v).0 e)).vertex

pub invariant_of-p : goal.invariant_of-p
invariant_of-p g c = record {
  small = c.args.g.now.small;
  frame = handed_frame (graph_of c.args.g.now) c.args.g.now.valid (has c.args.x.bits) (has c.args.y.bits) c.requires.x c.requires.y c.requires.apart
      (has c.proper_causal.result.bits) (has c.descendants-forbidden.result.bits) c.proper_causal.ensures c.descendants-forbidden.ensures
      (graph_of c.back_door_graph-h.result) c.back_door_graph-h.ensures (has c.union.result.bits) (has c.ancestors-within.result.bits)
      c.union.ensures.members c.ancestors-within.ensures
      (is_near c.moral_rows.result) c.moral_rows.ensures (has c.difference-3.result.bits)
      (λ v. let p = c.difference-3.ensures.members v in let q = c.difference-2.ensures.members v in let r = c.difference.ensures.members v in p
      ∙ rw (q, r) refl);
  within = handed_within (graph_of c.args.g.now) c.args.g.now.valid (has c.args.x.bits) (has c.args.y.bits) c.requires.x c.requires.y c.requires.apart
      (has c.proper_causal.result.bits) (has c.descendants-forbidden.result.bits) c.proper_causal.ensures c.descendants-forbidden.ensures
      (graph_of c.back_door_graph-h.result) c.back_door_graph-h.ensures (has c.union.result.bits) (has c.ancestors-within.result.bits)
      c.union.ensures.members c.ancestors-within.ensures
      (is_near c.moral_rows.result) c.moral_rows.ensures (has c.difference-3.result.bits)
      (λ v. let p = c.difference-3.ensures.members v in let q = c.difference-2.ensures.members v in let r = c.difference.ensures.members v in p
      ∙ rw (q, r) refl);
}

pub returns-clause-listed : goal.returns-clause-listed
returns-clause-listed g c = IfOk-weaker c.list_separators.result _ _ (λ l k. handed_sets (graph_of c.args.g.now) c.args.g.now.valid (has c.args.x.bits)
    (has c.args.y.bits) c.requires.x c.requires.y c.requires.apart
    (has c.proper_causal.result.bits) (has c.descendants-forbidden.result.bits) c.proper_causal.ensures c.descendants-forbidden.ensures
    (graph_of c.back_door_graph-h.result) c.back_door_graph-h.ensures (has c.union.result.bits) (has c.ancestors-within.result.bits)
    c.union.ensures.members c.ancestors-within.ensures
    (is_near c.moral_rows.result) c.moral_rows.ensures (has c.difference-3.result.bits)
    (λ v. let p = c.difference-3.ensures.members v in let q = c.difference-2.ensures.members v in let r = c.difference.ensures.members v in p
    ∙ rw (q, r) refl) c.args.most l.sets.items l.more k) c.list_separators.ensures.listed

pub returns-clause-effect : goal.returns-clause-effect
returns-clause-effect g c = IfOk-weaker c.list_separators.result _ _ (λ l listed k d lt.
    minimal_adjusts (graph_of c.args.g.now) c.args.g.now.valid c.args.x.bits c.args.y.bits
    (get_or l.sets.items k d).bits c.requires.x c.requires.y c.requires.apart
    ((handed_sets (graph_of c.args.g.now) c.args.g.now.valid (has c.args.x.bits) (has c.args.y.bits) c.requires.x c.requires.y c.requires.apart
    (has c.proper_causal.result.bits) (has c.descendants-forbidden.result.bits) c.proper_causal.ensures c.descendants-forbidden.ensures
    (graph_of c.back_door_graph-h.result) c.back_door_graph-h.ensures (has c.union.result.bits) (has c.ancestors-within.result.bits)
    c.union.ensures.members c.ancestors-within.ensures
    (is_near c.moral_rows.result) c.moral_rows.ensures (has c.difference-3.result.bits)
    (λ v. let p = c.difference-3.ensures.members v in let q = c.difference-2.ensures.members v in let r = c.difference.ensures.members v in p
    ∙ rw (q, r) refl) c.args.most l.sets.items l.more listed).each k d lt)) c.list_separators.ensures.listed
