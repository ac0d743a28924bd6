use Rattle.std.proofs.Common.{◌≡◌, ℕ, ◌<◌, ◌≤◌, ◌+◌, ◌⊎◌, Bool, true, false, not, ◌&&◌, length, map, replicate, get_or, length-set, inl, inr, refl}
use Rattle.std.proofs.Common.{sym, ap, ◌∙◌, subst, arith, rules}
use Rattle.std.proofs.lemmas.Bool.{cases_lt, and_parts}
use Rattle.std.proofs.lemmas.List.{length-replicate, length-map, map-set, get_or-map, get_or-replicate, get_or_past}
use Rattle.mixed_graph.specs.declared.sets.VSet.{VSet}
use Rattle.mixed_graph.specs.Vocabulary.{graph_of}
use Rattle.mixed_graph.proofs.Masks.{zero_from_empty}
use Rattle.hedge.specs.Linked.{AreDistrictsOf}
use Rattle.hedge.specs.Listed.{first_masks}
use Rattle.hedge.proofs.Trees.{not_true}
use Rattle.hedge.proofs.Collecting.{Collected, collected_none, collected_skip, collected_take, districts_from, parts_from, maximal_from}
use Rattle.hedge.proofs.joined_sets.linked.districts.Goals as goal
use Rattle.hedge.proofs.joined_sets.linked.districts.Goals.{then-has, else-has, After-loop-i}

-- the masks of an array of empty sets
no_masks : (e : VSet) → e.bits ≡ 0 → (j : ℕ) → get_or (map (λ (s : VSet). s.bits) (replicate 64 e)) j 0 ≡ 0
no_masks e z j = elim (cases_lt j 64) [
  | inl l ↦ get_or-map (λ (s : VSet). s.bits) (replicate 64 e) j e 0 (simp length-replicate l) ∙ ap (λ (s : VSet). s.bits) (get_or-replicate 64 j e e l) ∙ z
  | inr ge ↦ get_or_past (map (λ (s : VSet). s.bits) (replicate 64 e)) j 0 (simp (length-map, length-replicate) ge)
]

outside : (x y : Bool) → (x && not y) ≡ false → (x ≡ false) ⊎ (y ≡ true)
outside true true e = inr refl
outside true false e = absurd (cc)
outside false y e = inl refl

pub loop-i-init : goal.loop-i-init
loop-i-init c = (
  collected_none (graph_of c.args.g.now) c.args.within.bits c.order-order.result.list _ c.empty-seen.result.bits
      refl (no_masks c.empty-sets.result (zero_from_empty c.empty-sets.result.bits c.empty-sets.ensures.members)) c.empty-seen.ensures.members,
  omega arith,
  refl,
)

pub district_of-t-requires : goal.district_of-t-requires
district_of-t-requires c =
    record {
      within = c.requires;
      member = (and_parts _ _ (sym (c.difference.ensures.members (get_or c.order-order.result.list c.loop-i.i 0)) ∙ (sym c.has.ensures ∙ c.if-has.true))).0;
    }

pub loop-i-preserved : goal.loop-i-preserved
loop-i-preserved c = elim c.if-has.branch [
  | then-has w ↦
      let v : ℕ = get_or c.order-order.result.list c.loop-i.i 0 in
      let p = and_parts _ _ (sym (c.difference.ensures.members v) ∙ (sym c.has.ensures ∙ w.if-has.true)) in
      let k = collected_take (graph_of c.args.g.now) c.args.within.bits c.order-order.result.list c.loop-i.i (map (λ s. s.bits) c.loop-i.sets)
      c.loop-i.count c.loop-i.seen.bits
      w.district_of-t.result.bits w.union-seen.result.bits (let o = c.order-order.result.in_range in omega arith) p.0 (not_true _ p.1)
      w.district_of-t.ensures.district w.union-seen.ensures.members c.loop-i.invariant.0 in (
        subst (λ m. Collected (graph_of c.args.g.now) c.args.within.bits c.order-order.result.list (c.loop-i.i + 1) m c.if-has.count c.if-has.seen.bits)
            (sym (ap (map (λ s. s.bits)) w.sets-is ∙ map-set (λ s. s.bits) c.loop-i.sets c.loop-i.count w.district_of-t.result)) (rw (w.count-is, w.seen-is) k),
        rw w.seen-is (omega arith),
        ap length w.sets-is ∙ simp length-set c.loop-i.invariant.2,
      )
  | else-has w ↦
      let out = outside _ _ (sym (c.difference.ensures.members (get_or c.order-order.result.list c.loop-i.i 0)) ∙ (sym c.has.ensures ∙ w.if-has.false)) in
      rw (w.sets-is, w.count-is, w.seen-is) (
        collected_skip (graph_of c.args.g.now) c.args.within.bits c.order-order.result.list c.loop-i.i (map (λ s. s.bits) c.loop-i.sets)
            c.loop-i.count c.loop-i.seen.bits
            out c.loop-i.invariant.0,
        c.loop-i.invariant.1,
        c.loop-i.invariant.2,
      )
]

pub bounds-sets-count : goal.bounds-sets-count
bounds-sets-count c = let f = c.loop-i.invariant.0.few in let o = c.order-order.result.in_range in omega arith

pub offset_bounds-sets-count : goal.offset_bounds-sets-count
offset_bounds-sets-count c = let f = c.loop-i.invariant.0.few in let o = c.order-order.result.in_range in let l : c.loop-i.count < 64 = omega arith in
    search (rules, l)

pub overflow_add-count : goal.overflow_add-count
overflow_add-count c = let f = c.loop-i.invariant.0.few in let o = c.order-order.result.in_range in let l : c.loop-i.count < 64 = omega arith in
    search (rules, l)

pub overflow_cast-result : goal.overflow_cast-result
overflow_cast-result c = let f = c.loop-i.invariant.0.few in let o = c.order-order.result.in_range in let l : c.loop-i.count ≤ 64 = omega arith in
    search (rules, l)

pub invariant_of-result : goal.invariant_of-result
invariant_of-result c = record {
  in_range = (let f = c.loop-i.invariant.0.few in let o = c.order-order.result.in_range in let l : c.loop-i.count ≤ 64 = omega arith in l);
  blank = c.loop-i.invariant.0.blank;
}

are : (c : After-loop-i) → c.order-order.result.count ≤ c.loop-i.i → AreDistrictsOf (graph_of c.args.g.now) c.args.within.bits
    (first_masks c.loop-i.sets c.loop-i.count)
are c done =
    let same : c.loop-i.i ≡ c.order-order.result.count = omega arith in
    districts_from (graph_of c.args.g.now) c.args.within.bits c.order-order.result.list (map (λ s. s.bits) c.loop-i.sets)
    c.order-order.result.count c.loop-i.count c.loop-i.seen.bits
    c.order-order.ensures
    (subst (λ i. Collected (graph_of c.args.g.now) c.args.within.bits c.order-order.result.list i (map (λ s. s.bits) c.loop-i.sets)
    c.loop-i.count c.loop-i.seen.bits) same c.loop-i.invariant.0)

pub returns-clause-districts : goal.returns-clause-districts
returns-clause-districts c = are (goal.at.returns-clause-districts c).After-loop-i c.loop-i-test.false

pub returns-clause-maximal : goal.returns-clause-maximal
returns-clause-maximal c = maximal_from (graph_of c.args.g.now) c.args.g.now.valid c.args.within.bits (first_masks c.loop-i.sets c.loop-i.count)
    (are (goal.at.returns-clause-maximal c).After-loop-i c.loop-i-test.false)

pub returns-clause-partition : goal.returns-clause-partition
returns-clause-partition c = parts_from (graph_of c.args.g.now) c.args.g.now.valid c.args.within.bits (first_masks c.loop-i.sets c.loop-i.count) c.requires
    (are (goal.at.returns-clause-partition c).After-loop-i c.loop-i-test.false)
