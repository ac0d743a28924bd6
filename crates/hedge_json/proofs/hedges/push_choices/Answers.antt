use Rattle.std.proofs.Common.{◌≡◌, [], ◌∷◌, map, cond, ap, sym, ◌∙◌, arith}
use Rattle.mixed_graph.specs.Vocabulary.{members_below}
use Rattle.identify_text.specs.Vocabulary.{chooses}
use Rattle.answer_json.specs.Vocabulary.{with_values}
use Rattle.answer_json.proofs.Arrays.{member_written, none_written}
use Rattle.hedge_json.specs.Hedges.{choice_json}
use Rattle.hedge_json.proofs.hedges.push_choices.Goals as goal

pub loop-v-init : goal.loop-v-init
loop-v-init c = none_written (choice_json c.args.names.now c.args.h.now) (chooses c.args.h.now) c.args.object.now

pub loop-v-preserved : goal.loop-v-preserved
loop-v-preserved c =
    let f = choice_json c.args.names.now c.args.h.now in
    let s = chooses c.args.h.now in
    let v = c.loop-v.v in
    c.in_ok-push_choice.ensures ∙ ap (with_values (cond (s v) (f v ∷ []) [])) c.loop-v.invariant ∙ sym (member_written f s v c.args.object.now)

pub returns : goal.returns
returns c =
    let all : c.loop-v.v ≡ 64 = omega arith in
    c.loop-v.invariant ∙ ap (λ k. with_values (map (choice_json c.args.names.now c.args.h.now) (members_below (chooses c.args.h.now) k)) c.args.object.now) all
