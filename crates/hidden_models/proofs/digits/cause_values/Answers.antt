use Rattle.std.proofs.Common.{◌≡◌, ◌<◌, ◌-◌, ◌∙◌, ℕ, sym, ap, length, get_or, arith}
use Rattle.std.proofs.lemmas.List.{length-set}
use Rattle.mixed_graph.specs.Vocabulary.{has}
use Rattle.finite_models.specs.Vocabulary.{values_of}
use Rattle.finite_models.proofs.Places.{weights_of-at}
use Rattle.hidden_models.proofs.Written.{written-none, written-more, all_zero}
use Rattle.hidden_models.proofs.Masks.{mask_is}
use Rattle.hidden_models.proofs.digits.cause_values.Goals as goal

pub loop-i-init : goal.loop-i-init
loop-i-init c = record {
  long = (let k = c.args.m.now.causes.ok in let e = c.in_ok-world.ensures.len in let w = c.in_ok-world.world.ok in omega arith);
  written = written-none _ _ _ _ _ _ (let k = c.args.m.now.causes.ok in omega arith)
      (λ t. ap (λ xs. get_or xs t 0) (c.in_ok-world.ensures.items_if_clones_equal (λ y h. h)) ∙ all_zero c.len-n.result t);
}

pub last_digit-requires : goal.last_digit-requires
last_digit-requires c =
    let at : ℕ = c.len-n.result - 1 - c.loop-i.i in
    let lt : at < length c.args.m.now.causes.items = (let k = c.args.m.now.causes.ok in omega arith) in
    let e : values_of c.args.m.now.causes.items at ≡ length c.index.result.now.weights.items =
    ap length (weights_of-at c.args.m.now.causes.items at c.index.result.now lt c.index.ensures) in
    let p = c.requires.positive at lt in let k = c.index.result.now.weights.ok in omega arith

pub loop-i-preserved : goal.loop-i-preserved
loop-i-preserved c =
    let at : ℕ = c.len-n.result - 1 - c.loop-i.i in
    let lt : at < length c.args.m.now.causes.items = (let k = c.args.m.now.causes.ok in omega arith) in
    let here : at < length c.loop-i.world.items = (let f = c.loop-i.invariant.long in omega arith) in
    let e : c.len-base.result ≡ values_of c.args.m.now.causes.items at =
    (let l : c.len-base.result ≡ length c.index.result.now.weights.items = (let k = c.index.result.now.weights.ok in omega arith) in l
    ∙ ap length (sym (weights_of-at c.args.m.now.causes.items at c.index.result.now lt c.index.ensures))) in
    record {
      long = length-set c.loop-i.world.items at c.last_digit.result ∙ c.loop-i.invariant.long;
      written = written-more _ _ _ _ c.loop-i.world.items c.loop-i.rest _ _ _ at c.last_digit.result c.len-base.result c.has-kept.result here (omega arith)
          (omega arith)
          (c.has-kept.ensures ∙ ap (λ b. has b c.args.v) (sym (mask_is c.args.reached.now at)))
          e c.last_digit.ensures.digit c.without_last-rest.ensures c.loop-i.invariant.written;
    }
