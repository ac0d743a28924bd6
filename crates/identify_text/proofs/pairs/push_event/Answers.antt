use Rattle.std.proofs.Common.{◌≡◌, ◌+◌, ◌++◌, drop, decimal, codes, ap, ◌∙◌}
use Rattle.identify_text.specs.declared.bits.Bit.TheVariants.{Carried}
use Rattle.identify_text.specs.ModelLines.{added, bits_of, sum_text}
use Rattle.identify_text.proofs.Lines.{without_first, five_appended}
use Rattle.identify_text.proofs.pairs.push_event.Goals as goal

pub returns : goal.returns
returns c =
    let terms = bits_of c.args.names.now Carried c.args.pair.now.event.bits in
    let sum : drop 3 c.as_slice.result.now ≡ sum_text terms =
    ap (drop 3) (c.as_slice.ensures.value ∙ c.in_ok-add_bits.ensures ∙ ap (λ t. t ++ added terms) c.new-terms.ensures.items) ∙ without_first terms in
    five_appended (codes "event ") (sum_text terms) (codes " even: 1/2 in the first, 1/2 + 1/2^") (decimal (c.args.pair.now.noise + 1))
    (codes " in the second\n")
    c.args.out.now.items _ _ _ _ _ c.in_ok-extend_from_slice.ensures.items (c.in_ok-push_sum.ensures ∙ ap (λ t. c.extend_from_slice.new.self.items ++ t) sum)
    c.in_ok-extend_from_slice-2.ensures.items c.in_ok-push_exponent.ensures c.in_ok-extend_from_slice-3.ensures.items
