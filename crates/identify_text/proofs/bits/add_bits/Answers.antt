use Rattle.std.proofs.Common.{◌≡◌, ◌++◌, codes, ap, ◌∙◌, arith}
use Rattle.std.specs.List.{flat_map}
use Rattle.mixed_graph.specs.Vocabulary.{has, members_below}
use Rattle.identify_text.specs.ModelLines.{bit_text}
use Rattle.identify_text.proofs.Lines.{written_more, texts_none, added_bits}
use Rattle.identify_text.proofs.bits.add_bits.Goals as goal

pub loop-v-init : goal.loop-v-init
loop-v-init c = texts_none (λ u. codes " + " ++ bit_text c.args.names.now c.args.bit u) (has c.args.set.bits) c.args.terms.now.items

pub loop-v-preserved : goal.loop-v-preserved
loop-v-preserved c = written_more (λ u. codes " + " ++ bit_text c.args.names.now c.args.bit u) (has c.args.set.bits)
    c.loop-v.v c.args.terms.now.items c.loop-v.terms.items _ c.loop-v.invariant c.in_ok-add_bit.ensures

pub returns : goal.returns
returns c =
    let all : c.loop-v.v ≡ 64 = omega arith in
    c.loop-v.invariant
    ∙ ap (λ k. c.args.terms.now.items ++ flat_map (λ u. codes " + " ++ bit_text c.args.names.now c.args.bit u) (members_below (has c.args.set.bits) k)) all
    ∙ ap (λ t. c.args.terms.now.items ++ t) (added_bits c.args.names.now c.args.bit c.args.set.bits)
