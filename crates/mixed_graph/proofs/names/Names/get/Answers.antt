use Rattle.std.proofs.Common.{◌≡◌, ◌<◌, ◌≤◌, ◌-◌, length, take, drop, Some, [], sym, ap, subst, ◌∙◌, arith}
use Rattle.std.specs.Prelude.{slice_get, slice_index}
use Rattle.std.proofs.lemmas.List.Elements.{All-get_or}
use Rattle.std.proofs.lemmas.Option.{get_or_from_slice_get}
use Rattle.mixed_graph.specs.Names.{IsName, AreNames}
use Rattle.mixed_graph.proofs.NameBlocks.{length-cut, cut-get}
use Rattle.mixed_graph.proofs.names.Names.get.Goals as goal
use Rattle.mixed_graph.proofs.names.Names.get.Goals.{After-deref}

below : (c : After-deref) → c.args.v < c.self.inside.count
below c = let n = sym (ap length c.self.view_is) ∙ length-cut c.self.inside.bytes.items c.self.inside.ends c.self.inside.count in
    let r = c.requires in omega (arith, n, r)

within : (c : After-deref) → (c.start_of-start.result ≤ slice_index c.self.inside.ends c.args.v) × (slice_index c.self.inside.ends c.args.v
    < length c.self.inside.bytes.items)
within c = let at = c.self.invariant.1.inside c.args.v (below c) in let s = c.start_of-start.ensures in (omega (arith, at.0, s), at.1)

pub slice_bounds-result-count : goal.slice_bounds-result-count
slice_bounds-result-count c = (within (goal.at.slice_bounds-result-count c).After-deref).0

pub slice_bounds-result-start : goal.slice_bounds-result-start
slice_bounds-result-start c = (within (goal.at.slice_bounds-result-start c).After-deref).0

pub slice_bounds-result-end : goal.slice_bounds-result-end
slice_bounds-result-end c =
    let w = (within (goal.at.slice_bounds-result-end c).After-deref).1 in let long = ap length c.deref.ensures.value in omega (arith, w, long)

here : (c : After-deref) → slice_get c.args.self.now c.args.v
    ≡ Some (take (slice_index c.self.inside.ends c.args.v - c.start_of-start.result) (drop c.start_of-start.result c.deref.result.now))
here c =
    ap (λ names. slice_get names c.args.v) (sym c.self.view_is)
    ∙ cut-get c.self.inside.bytes.items c.self.inside.ends c.self.inside.count c.args.v (below c)
    ∙ ap (λ s. Some (take (slice_index c.self.inside.ends c.args.v - s) (drop s c.self.inside.bytes.items))) (sym c.start_of-start.ensures)
    ∙ ap (λ bytes. Some (take (slice_index c.self.inside.ends c.args.v - c.start_of-start.result) (drop c.start_of-start.result bytes)))
    (sym c.deref.ensures.value)

pub returns-clause-name : goal.returns-clause-name
returns-clause-name c = here (goal.at.returns-clause-name c).After-deref

pub returns-clause-formed : goal.returns-clause-formed
returns-clause-formed c =
    let kept = here (goal.at.returns-clause-formed c).After-deref in
    let formed = (subst AreNames c.self.view_is c.self.invariant.0).formed in
    let all = All-get_or IsName c.args.self.now c.args.v [] c.requires formed in
    subst IsName (get_or_from_slice_get c.args.self.now c.args.v _ [] kept) all
