use Rattle.std.proofs.Common.{◌≡◌, ℕ, true, List, sym, ap, ◌∙◌, subst}
use Rattle.std.specs.List.{list_all}
use Rattle.mixed_graph.specs.Vocabulary.{has_pair}
use Rattle.dag_reader.specs.MarkEnds.{is_inside}
use Rattle.dag_reader.specs.Passes.{arrows_of, doubles_of}
use Rattle.dag_reader.specs.Rows.{row_has, pairs_below}
use Rattle.dag_reader.proofs.PairLists.{pairs_below-ends, arrows_same, doubles_same, graph_same, cycle_same, cycle_inside, arrows_apart}
use Rattle.dag_reader.proofs.PairLists.{doubles_apart, no_first_loop}
use Rattle.dag_reader.proofs.building.build_graph.Goals as goal

pub build-requires-clause-directed_ends : goal.build-requires-clause-directed_ends
build-requires-clause-directed_ends c =
    rw (c.as_slice.ensures.value, c.in_ok-arrows.ensures) (pairs_below-ends c.count-n.result (row_has c.args.edges.now.arrows))

pub build-requires-clause-both_ends : goal.build-requires-clause-both_ends
build-requires-clause-both_ends c =
    rw (c.as_slice-2.ensures.value, c.in_ok-doubles.ensures) (pairs_below-ends c.count-n.result (row_has c.args.edges.now.doubles))

arrows_built : (n m : ℕ) (rows : List ℕ) (marks : _) (pairs items : List (ℕ × ℕ)) → n ≡ m → list_all (is_inside m) marks ≡ true
    → pairs ≡ items → items ≡ pairs_below n (row_has rows) → ((a b : ℕ) → row_has rows a b ≡ has_pair (arrows_of marks) a b) → (a b : ℕ) → has_pair pairs a b
    ≡ has_pair (arrows_of marks) a b
arrows_built n m rows marks pairs items size inside slice is held a b =
    ap (λ (l : List (ℕ × ℕ)). has_pair l a b) (slice ∙ is)
    ∙ arrows_same n (row_has rows) marks held (subst (λ (k : ℕ). list_all (is_inside k) marks ≡ true) (sym size) inside) a b

doubles_built : (n m : ℕ) (rows : List ℕ) (marks : _) (pairs items : List (ℕ × ℕ)) → n ≡ m → list_all (is_inside m) marks ≡ true
    → pairs ≡ items → items ≡ pairs_below n (row_has rows) → ((a b : ℕ) → row_has rows a b ≡ has_pair (doubles_of marks) a b) → (a b : ℕ) → has_pair pairs a b
    ≡ has_pair (doubles_of marks) a b
doubles_built n m rows marks pairs items size inside slice is held a b =
    ap (λ (l : List (ℕ × ℕ)). has_pair l a b) (slice ∙ is)
    ∙ doubles_same n (row_has rows) marks held (subst (λ (k : ℕ). list_all (is_inside k) marks ≡ true) (sym size) inside) a b

pub returns-in-Ok : goal.returns-in-Ok
returns-in-Ok c =
    graph_same c.count-n.result _ c.as_slice.result.now c.as_slice-2.result.now (arrows_of c.args.marks.now) (doubles_of c.args.marks.now)
    _ c.count-n.ensures.count
    (arrows_built _ _ c.args.edges.now.arrows c.args.marks.now c.as_slice.result.now c.in_ok-arrows.arrows.items c.count-n.ensures.count c.requires.inside
    c.as_slice.ensures.value c.in_ok-arrows.ensures c.requires.edges.arrows)
    (doubles_built _ _ c.args.edges.now.doubles c.args.marks.now c.as_slice-2.result.now c.in_ok-doubles.doubles.items c.count-n.ensures.count
    c.requires.inside c.as_slice-2.ensures.value c.in_ok-doubles.ensures c.requires.edges.doubles)
    c.in-Ok.ensures.graph

pub unreachable-requires : goal.unreachable-requires
unreachable-requires c =
    no_first_loop c.as_slice.result.now c.as_slice-2.result.now c.in-Err-SelfLoop.field-0-0 (rw c.in-Err-SelfLoop.field-0-is at c.in-Err-SelfLoop.ensures.fault)
    (λ v. arrows_built _ _ c.args.edges.now.arrows c.args.marks.now c.as_slice.result.now c.in_ok-arrows.arrows.items c.count-n.ensures.count
    c.requires.inside c.as_slice.ensures.value c.in_ok-arrows.ensures c.requires.edges.arrows v v
    ∙ arrows_apart c.args.marks.now v c.requires.no_loop)
    (λ v. doubles_built _ _ c.args.edges.now.doubles c.args.marks.now c.as_slice-2.result.now c.in_ok-doubles.doubles.items c.count-n.ensures.count
    c.requires.inside c.as_slice-2.ensures.value c.in_ok-doubles.ensures c.requires.edges.doubles v v
    ∙ doubles_apart c.args.marks.now v c.requires.no_loop)

pub cycle_names-requires : goal.cycle_names-requires
cycle_names-requires c =
    cycle_inside _ c.args.marks.now c.in-Err-Cycle.cycle.list c.in-Err-Cycle.cycle.count c.requires.inside
    (cycle_same (has_pair c.as_slice.result.now) (has_pair (arrows_of c.args.marks.now)) c.in-Err-Cycle.cycle.list c.in-Err-Cycle.cycle.count
    (arrows_built _ _ c.args.edges.now.arrows c.args.marks.now c.as_slice.result.now c.in_ok-arrows.arrows.items c.count-n.ensures.count c.requires.inside
    c.as_slice.ensures.value c.in_ok-arrows.ensures c.requires.edges.arrows)
    (rw c.in-Err-Cycle.field-0-is at c.in-Err-Cycle.ensures.fault).1)

pub returns : goal.returns
returns c = record {
  list = c.in-Err-Cycle.cycle.list;
  count = c.in-Err-Cycle.cycle.count;
  is_cycle = cycle_same (has_pair c.as_slice.result.now) (has_pair (arrows_of c.args.marks.now)) c.in-Err-Cycle.cycle.list c.in-Err-Cycle.cycle.count
      (arrows_built _ _ c.args.edges.now.arrows c.args.marks.now c.as_slice.result.now c.in_ok-arrows.arrows.items c.count-n.ensures.count c.requires.inside
      c.as_slice.ensures.value c.in_ok-arrows.ensures c.requires.edges.arrows)
      (rw c.in-Err-Cycle.field-0-is at c.in-Err-Cycle.ensures.fault).1;
  named = c.in_ok-cycle_names-in-Err-Cycle.ensures;
}
