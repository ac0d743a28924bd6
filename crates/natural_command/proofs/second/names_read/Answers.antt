use Rattle.std.proofs.Common.{◌≡◌, ◌<◌, ℕ, List, sym, ap, ◌∙◌, subst, ltb-true, arith, length}
use Rattle.std.specs.Prelude.{nat_lt}
use Rattle.mixed_graph.specs.Vocabulary.{has, members_below, all, IsName, AreNames, is_named, name_of}
use Rattle.mixed_graph.proofs.MemberLists.{AreMembers, members-are}
use Rattle.natural_command.specs.Second.{place_read}
use Rattle.natural_command.proofs.Places.{IsReading, read_as, first_in, reading_none, reading_more, reading_room, reading_formed}
use Rattle.natural_command.proofs.second.names_read.Goals as goal
use Rattle.natural_command.proofs.second.names_read.Goals.{After-name, In-Some, After-empty-read}

-- the vertex at hand is one of the graph
at_hand : (c : In-Some) → c.in-Some.v < length c.args.names.now
at_hand c =
    let are = subst (AreMembers (has (all (length c.args.names.now))) 64) c.in-Some.ensures.steps c.each.invariant.are in
    ltb-true c.in-Some.v (length c.args.names.now)
    (ap (nat_lt c.in-Some.v) (sym c.count-n.ensures.count) ∙ sym (c.below.ensures.members c.in-Some.v)
    ∙ ap (λ k. has k c.in-Some.v) (c.below.ensures.mask ∙ ap all c.count-n.ensures.count) ∙ are.1)

-- its name
is_name : (c : After-name) → c.name.result.now ≡ read_as c.args.names.now c.args.x.bits c.args.second.bits c.in-Some.v
is_name c =
    let names = c.args.names.now in let x = c.args.x.bits in let second = c.args.second.bits in let v = c.in-Some.v in
    c.name.ensures ∙ ap (name_of c.in_ok-both.both) c.place_read.ensures
    ∙ ap (λ k. name_of c.in_ok-both.both (place_read k x second c.count-count.result v)) c.count-n.ensures.count
    ∙ ap (λ k. name_of c.in_ok-both.both (place_read (length names) x second k v)) c.count-count.ensures.count
    ∙ ap (λ (b : List (List ℕ)). name_of b (place_read (length names) x second (length b) v)) c.in_ok-both.ensures

-- the names with the primed ones are names
are_names : (c : After-empty-read) → AreNames (Rattle.primed_names.specs.Primed.primed_names c.args.names.now c.args.x.bits)
are_names c = subst AreNames c.in_ok-both.ensures c.count-count.ensures.names

pub place_read-requires-clause-below : goal.place_read-requires-clause-below
place_read-requires-clause-below c =
    let l = at_hand (goal.at.place_read-requires-clause-below c).In-Some in let e = c.count-n.ensures.count in omega (arith, l, e)

pub put-requires-clause-new : goal.put-requires-clause-new
put-requires-clause-new c =
    let at = (goal.at.put-requires-clause-new c).After-name in
    ap (is_named c.each.read) (is_name at) ∙ c.each.invariant.fresh c.in-Some.v (first_in c.each.v-iterator c.next.new.self c.in-Some.v c.in-Some.ensures.steps)

pub put-requires-clause-room : goal.put-requires-clause-room
put-requires-clause-room c = reading_room c.args.names.now c.args.x.bits c.args.second.bits c.in-Some.v c.each.v-iterator c.next.new.self c.each.read c.in-Some.ensures.steps
    c.each.invariant

pub put-requires-clause-formed : goal.put-requires-clause-formed
put-requires-clause-formed c =
    let at = goal.at.put-requires-clause-formed c in
    subst IsName (sym (is_name at.After-name)) (reading_formed c.args.names.now c.args.x.bits c.args.second.bits (are_names at.After-empty-read) c.in-Some.v (at_hand at.In-Some))

-- the vertices are below their number
low : (c : In-Some) → (v : ℕ) → has (all (length c.args.names.now)) v ≡ nat_lt v (length c.args.names.now)
low c v = ap (λ k. has k v) (sym (c.below.ensures.mask ∙ ap all c.count-n.ensures.count)) ∙ c.below.ensures.members v ∙ ap (nat_lt v) c.count-n.ensures.count

pub each-init : goal.each-init
each-init c =
    let names = c.args.names.now in
    let left : c.into_iter-v-iterator.result ≡ members_below (has (all (length names))) 64 =
    c.into_iter-v-iterator.ensures.into_iter_gives ∙ c.iter-v-items.ensures
    ∙ ap (λ k. members_below (has k) 64) (c.below.ensures.mask ∙ ap all c.count-n.ensures.count) in
    subst (IsReading names c.args.x.bits c.args.second.bits c.into_iter-v-iterator.result) (sym c.empty-read.ensures)
    (reading_none names c.args.x.bits c.args.second.bits c.into_iter-v-iterator.result left
    (subst (AreMembers (has (all (length names))) 64) (sym left) (members-are (has (all (length names))) 64)))

pub each-preserved : goal.each-preserved
each-preserved c =
    let at = goal.at.each-preserved c in
    let names = c.args.names.now in let x = c.args.x.bits in let second = c.args.second.bits in
    subst (IsReading names x second c.next.new.self) (sym c.in_ok-put.ensures)
    (reading_more names x second (are_names at.After-empty-read) (low at.In-Some) c.in-Some.v c.each.v-iterator c.next.new.self c.each.read
    c.name.result.now c.in-Some.ensures.steps (is_name at.After-name) c.each.invariant)
