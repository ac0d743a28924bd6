use Rattle.std.proofs.Common.{◌≡◌, ◌++◌, ◌∷◌, [], OnOk, map, cond, drop, subst, ap, ◌∙◌}
use Rattle.identify_text.specs.declared.bits.Bit.TheVariants.{Hedge, Carried}
use Rattle.identify_text.specs.ModelLines.{added, bit_text, bits_of, cause_text, terms_of}
use Rattle.identify_text.proofs.Lines.{added_four, without_first}
use Rattle.identify_text.proofs.parts.push_terms.Goals as goal

pub returns : goal.returns
returns c =
    let names = c.args.names.now in let p = c.args.part.now in
    let own = cond p.own_hedge (bit_text names Hedge c.args.v ∷ []) [] in
    let hedges = bits_of names Hedge p.hedge_of.bits in let carrieds = bits_of names Carried p.carried_of.bits in
    let causes = map cause_text p.causes.items in
    let all : c.add_causes.new.terms.items ≡ added (terms_of names c.args.v p) =
    c.in_ok-add_causes.ensures
    ∙ ap (λ t. t ++ added (map cause_text c.as_slice.result.now)) (c.in_ok-add_bits-2.ensures
    ∙ ap (λ t. t ++ added carrieds) (c.in_ok-add_bits.ensures ∙ ap (λ t. t ++ added hedges)
    (c.in_ok-add_own.ensures ∙ ap (λ t. t ++ added own) c.new-terms.ensures.items)))
    ∙ ap (λ cs. ((added own ++ added hedges) ++ added carrieds) ++ added (map cause_text cs)) c.as_slice.ensures.value
    ∙ added_four own hedges carrieds causes in
    subst (λ t. OnOk c.push_sum.result (c.push_sum.new.out.items ≡ c.args.out.now.items ++ t))
    (ap (drop 3) (c.as_slice-2.ensures.value ∙ all) ∙ without_first (terms_of names c.args.v p)) c.push_sum.ensures
