use Rattle.std.proofs.Common.{◌++◌, codes, refl, ap, ◌∙◌}
use Rattle.identify_text.specs.HedgeLines.{choice_lines, link_lines}
use Rattle.identify_text.specs.ModelLines.{cause_lines, vertex_lines}
use Rattle.identify_text.specs.PairLines.{event_line}
use Rattle.identify_text.proofs.Lines.{six_behind}
use Rattle.identify_text.proofs.pairs.push_models.Goals as goal

pub returns : goal.returns
returns c =
    let names = c.args.names.now in let h = c.args.h.now in let pair = c.args.pair.now in
    six_behind c.args.out.now.items (choice_lines names h) (link_lines names h) (cause_lines names 0 pair.first.causes.items)
    (vertex_lines names (codes "first") 0 pair.first.mechanisms.items) (vertex_lines names (codes "second") 0 pair.second.mechanisms.items)
    (event_line names pair)
    _ _ _ _ _ _ _ refl c.in_ok-push_choices.ensures c.in_ok-push_links.ensures
    (c.in_ok-push_causes.ensures ∙ ap (λ t. c.push_links.new.out.items ++ cause_lines names 0 t) c.as_slice.ensures.value)
    (c.in_ok-push_vertices.ensures ∙ ap (λ t. c.push_causes.new.out.items ++ vertex_lines names (codes "first") 0 t) c.as_slice-2.ensures.value)
    (c.in_ok-push_vertices-2.ensures ∙ ap (λ t. c.push_vertices.new.out.items ++ vertex_lines names (codes "second") 0 t) c.as_slice-3.ensures.value)
    c.in_ok-push_event.ensures
