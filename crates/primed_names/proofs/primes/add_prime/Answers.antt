use Rattle.std.proofs.Common.{◌≡◌, true, nat_lt, length, OnOk, List, ℕ, sym, ap, ◌∙◌, subst, arith}
use Rattle.mixed_graph.specs.Vocabulary.{IsName, is_named}
use Rattle.primed_names.proofs.Fresh.{primed_new, primed_is_name, put_behind}
use Rattle.primed_names.proofs.primes.add_prime.Goals as goal

pub put-requires-clause-new : goal.put-requires-clause-new
put-requires-clause-new c = ap (is_named c.args.taken.now) (c.as_slice.ensures.value ∙ c.in_ok-fresh.ensures) ∙ primed_new c.args.taken.now c.args.name.now

pub put-requires-clause-formed : goal.put-requires-clause-formed
put-requires-clause-formed c = subst IsName (sym (c.as_slice.ensures.value ∙ c.in_ok-fresh.ensures))
    (primed_is_name c.args.taken.now c.args.name.now c.requires.text c.requires.line)

pub returns : goal.returns
returns c =
    let few : nat_lt (length c.args.taken.now) 64 ≡ true = grind (arith, c.count.ensures.count, c.if-count-ge64.false) in
    subst (λ (all : List (List ℕ)). OnOk c.put.result (c.put.new.names ≡ all))
    (put_behind c.args.taken.now c.args.name.now c.as_slice.result.now few (c.as_slice.ensures.value ∙ c.in_ok-fresh.ensures)) c.put.ensures
