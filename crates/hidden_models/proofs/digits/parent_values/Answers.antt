use Rattle.std.proofs.Common.{◌<◌, ◌-◌, ◌∙◌, ℕ, refl, length, arith}
use Rattle.std.proofs.lemmas.List.{get_or_read, length-set}
use Rattle.hidden_models.proofs.Written.{written-none, written-more, all_zero}
use Rattle.hidden_models.proofs.digits.parent_values.Goals as goal

pub loop-i-init : goal.loop-i-init
loop-i-init c = record {
  long = refl;
  written = written-none _ _ _ _ _ _ (let k = c.args.m.now.sizes.ok in let e = c.requires.sizes in omega arith) (all_zero 64);
}

pub loop-i-preserved : goal.loop-i-preserved
loop-i-preserved c =
    let at : ℕ = c.len-n.result - 1 - c.loop-i.i in
    let lt : at < length c.args.m.now.sizes.items = (let k = c.args.m.now.sizes.ok in omega arith) in
    let here : at < length c.loop-i.values = (let k = c.args.p.now.small in let e = c.requires.sizes in let f = c.loop-i.invariant.long in omega arith) in
    record {
      long = length-set c.loop-i.values at c.last_digit.result ∙ c.loop-i.invariant.long;
      written = written-more _ _ _ _ c.loop-i.values c.loop-i.rest _ _ _ at c.last_digit.result c.index.result.now c.has-kept.result here (omega arith)
          (omega arith)
          (c.has-kept.ensures ∙ c.parents-parents.ensures.members at) (get_or_read c.args.m.now.sizes.items at _ lt c.index.ensures 0)
          c.last_digit.ensures.digit c.without_last-rest.ensures c.loop-i.invariant.written;
    }
