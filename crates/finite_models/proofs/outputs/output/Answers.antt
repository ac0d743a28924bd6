use Rattle.std.proofs.Common.{◌≡◌, ◌<◌, ◌+◌, ◌*◌, ◌≤◌, ℕ, length, get_or, arith}
use Rattle.mixed_graph.specs.Vocabulary.{has, graph_of}
use Rattle.finite_models.specs.Tables.{radix_range}
use Rattle.finite_models.specs.Data.{children_of}
use Rattle.finite_models.specs.Worlds.{values_of, value_in_world}
use Rattle.finite_models.proofs.CauseValues.{positive_values, value_below}
use Rattle.finite_models.proofs.Digits.{positive_range}
use Rattle.finite_models.proofs.TableLaws.{table_index-lt, radix-lt}
use Rattle.finite_models.proofs.outputs.output.Goals as goal

at_most : (x y n : ℕ) → 0 < y → n ≡ x * y → x ≤ n
at_most x y n pos e = grind arith

one_more : (r x y n : ℕ) → r < x → n ≡ x * y → (r + 1) * y ≤ n
one_more r x y n lt e = grind arith

along : {x y z : ℕ} → x < y → z ≡ y → x < z
along h e = omega arith

pub parents_place-start-requires-clause-fits : goal.parents_place-start-requires-clause-fits
parents_place-start-requires-clause-fits c =
    let pos = positive_range (length c.args.m.now.causes.items) (λ j. has (children_of c.args.m.now.causes.items j) c.args.v)
    (values_of c.args.m.now.causes.items) (positive_values c.args.m.now.causes.items c.requires.weight) in
    let le = at_most (radix_range c.args.g.now.n (λ p. (graph_of c.args.g.now).arrow p c.args.v) (λ p. get_or c.args.m.now.sizes.items p 0)) _
    (length c.args.outputs.now) pos c.requires.table in
    omega arith

pub causes_place-requires-clause-fits : goal.causes_place-requires-clause-fits
causes_place-requires-clause-fits c =
    let lt : c.parents_place-start.result < radix_range c.args.g.now.n (λ p. (graph_of c.args.g.now).arrow p c.args.v)
    (λ p. get_or c.args.m.now.sizes.items p 0) =
    rw c.parents_place-start.ensures (radix-lt c.args.g.now.n (λ p. (graph_of c.args.g.now).arrow p c.args.v) (λ p. get_or c.args.m.now.sizes.items p 0)
    (λ p. get_or c.args.values.now p 0) (λ p l e. c.requires.in_range p l)) in
    let le = one_more c.parents_place-start.result _ (radix_range (length c.args.m.now.causes.items)
    (λ j. has (children_of c.args.m.now.causes.items j) c.args.v) (values_of c.args.m.now.causes.items)) (length c.args.outputs.now) lt c.requires.table in
    omega arith

pub bounds-outputs-causes_place : goal.bounds-outputs-causes_place
bounds-outputs-causes_place c =
    let lt = table_index-lt c.args.g.now.n (length c.args.m.now.causes.items) (λ p. (graph_of c.args.g.now).arrow p c.args.v)
    (λ j. has (children_of c.args.m.now.causes.items j) c.args.v)
    (λ p. get_or c.args.m.now.sizes.items p 0) (values_of c.args.m.now.causes.items) (λ p. get_or c.args.values.now p 0)
    (value_in_world c.args.m.now.causes.items c.args.world)
    (λ p l e. c.requires.in_range p l) (λ j l e. value_below c.args.m.now.causes.items c.requires.weight c.args.world j l) in
    rw (c.causes_place.ensures, c.parents_place-start.ensures) (along lt c.requires.table)

pub offset_bounds-outputs-causes_place : goal.offset_bounds-outputs-causes_place
offset_bounds-outputs-causes_place c =
    let lt = table_index-lt c.args.g.now.n (length c.args.m.now.causes.items) (λ p. (graph_of c.args.g.now).arrow p c.args.v)
    (λ j. has (children_of c.args.m.now.causes.items j) c.args.v)
    (λ p. get_or c.args.m.now.sizes.items p 0) (values_of c.args.m.now.causes.items) (λ p. get_or c.args.values.now p 0)
    (value_in_world c.args.m.now.causes.items c.args.world)
    (λ p l e. c.requires.in_range p l) (λ j l e. value_below c.args.m.now.causes.items c.requires.weight c.args.world j l) in
    let here : c.causes_place.result < length c.args.outputs.now = rw (c.causes_place.ensures, c.parents_place-start.ensures) (along lt c.requires.table) in
    omega arith
