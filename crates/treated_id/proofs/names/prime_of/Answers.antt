use Rattle.std.proofs.Common.{◌≡◌, ◌+◌, ◌<◌, ap, ◌∙◌, ◌&&◌, arith}
use Rattle.mixed_graph.specs.Vocabulary.{has}
use Rattle.mixed_graph.proofs.Masks.{below_64}
use Rattle.treated_models.specs.Vocabulary.{prime_of}
use Rattle.treated_models.proofs.Primes.{prime_low}
use Rattle.treated_id.proofs.NameSets.{counted}
use Rattle.treated_id.proofs.names.prime_of.Goals as goal
use Rattle.treated_id.proofs.names.prime_of.Goals.{After-count}

is_prime : (c : After-count) → c.args.n + c.count.result ≡ prime_of c.args.n c.args.x.bits c.args.v
is_prime c = ap (λ k. c.args.n + k) (c.count.ensures ∙ counted c.args.x.bits c.args.v c.intersection-before.result.bits
    (let l = below_64 c.args.x.bits c.args.v (omega arith) c.requires.member in omega (arith, l))
    (λ u. c.intersection-before.ensures.members u ∙ ap (λ b. has c.args.x.bits u && b) (c.below.ensures.members u)))

is_low : (c : After-count) → c.args.n + c.count.result < 64
is_low c =
    let l = prime_low c.args.n c.args.x.bits c.args.v (c.requires.within c.args.v c.requires.member) c.requires.member in
    let f = c.requires.few in
    let e = is_prime c in
    omega (arith, l, f, e)

pub overflow_add-result : goal.overflow_add-result
overflow_add-result c = let l = is_low (goal.at.overflow_add-result c).After-count in omega (arith, l)

pub overflow_cast-result : goal.overflow_cast-result
overflow_cast-result c = let l = is_low (goal.at.overflow_cast-result c).After-count in omega (arith, l)

pub returns : goal.returns
returns c = is_prime (goal.at.returns c).After-count
