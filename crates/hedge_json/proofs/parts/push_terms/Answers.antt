use Rattle.std.proofs.Common.{List, ℕ, [], ◌∷◌, map, cond, ap, sym, ◌∙◌}
use Rattle.answer_json.specs.Vocabulary.{with_values}
use Rattle.hedge_json.specs.declared.bits.Bit.TheVariants.{HedgeBit, CarriedBit}
use Rattle.hedge_json.specs.Models.{bit_json, bits_json, cause_term}
use Rattle.hedge_json.proofs.Laters.{four_written}
use Rattle.hedge_json.proofs.parts.push_terms.Goals as goal

pub returns : goal.returns
returns c =
    let names = c.args.names.now in let p = c.args.part.now in
    let own = cond p.own_hedge (bit_json names HedgeBit c.args.v ∷ []) [] in
    let hedges = bits_json names HedgeBit p.hedge_of.bits in
    let carrieds = bits_json names CarriedBit p.carried_of.bits in
    c.in_ok-push_cause_terms.ensures
    ∙ ap (λ (cs : List ℕ). with_values (map cause_term cs) c.push_bits-2.new.object) c.as_slice.ensures.value
    ∙ ap (with_values (map cause_term p.causes.items)) (c.in_ok-push_bits-2.ensures ∙ ap (with_values carrieds) (c.in_ok-push_bits.ensures
    ∙ ap (with_values hedges) c.in_ok-push_own.ensures))
    ∙ sym (four_written own hedges carrieds (map cause_term p.causes.items) c.args.object.now)
