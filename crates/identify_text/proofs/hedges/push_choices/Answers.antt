use Rattle.std.proofs.Common.{◌≡◌, ◌++◌, ap, ◌∙◌, arith}
use Rattle.std.specs.List.{flat_map}
use Rattle.mixed_graph.specs.Vocabulary.{members_below}
use Rattle.identify_text.specs.HedgeLines.{chooses, choice_line}
use Rattle.identify_text.proofs.Lines.{written_more, texts_none}
use Rattle.identify_text.proofs.hedges.push_choices.Goals as goal

pub loop-v-init : goal.loop-v-init
loop-v-init c = texts_none (choice_line c.args.names.now c.args.h.now) (chooses c.args.h.now) c.args.out.now.items

pub loop-v-preserved : goal.loop-v-preserved
loop-v-preserved c = written_more (choice_line c.args.names.now c.args.h.now) (chooses c.args.h.now)
    c.loop-v.v c.args.out.now.items c.loop-v.out.items _ c.loop-v.invariant c.in_ok-push_choice.ensures

pub returns : goal.returns
returns c =
    let all : c.loop-v.v ≡ 64 = omega arith in
    c.loop-v.invariant ∙ ap (λ k. c.args.out.now.items ++ flat_map (choice_line c.args.names.now c.args.h.now) (members_below (chooses c.args.h.now) k)) all
