-- A hedge part of the data reads bits of parents and causes of its vertex.
use Rattle.std.proofs.Common.{ℕ, suc, ◌+◌, ◌-◌, ◌≡◌, ◌<◌, ◌≤◌, Bool, true, false, cond, ◌==◌, ◌&&◌, ◌⊎◌, inl, inr, refl, sym, ap, ◌∙◌, [], ◌∷◌, ◌++◌}
use Rattle.std.proofs.Common.{length, length-append, slice_index, get_or, arith}
use Rattle.std.proofs.lemmas.Bool.{cases_lt, and_parts, and_from}
use Rattle.mixed_graph.specs.Vocabulary.{has, MixedGraph}
use Rattle.finite_models.specs.declared.model.Model.{Model}
use Rattle.finite_models.specs.declared.model.Part.{Part}
use Rattle.finite_models.specs.Vocabulary.{weights_of, has_hedge, IsBitCause, MayRead}
use Rattle.hedge.specs.declared.hedge.Hedge.{Hedge}
use Rattle.hedge.specs.Vocabulary.{IsHedge}
use Rattle.counter_models.specs.Pairs.{is_linked, link_causes, small_cause, AreCauses, IsHedgePart}
use Rattle.counter_models.proofs.Counted.{get-first, get-last}
use Rattle.counter_models.proofs.Inputs.{member_at}
use Rattle.counter_models.proofs.Lists.{before-less}

test_same : (a b : ℕ) → (a == b) ≡ true → a ≡ b
test_same a b e = grind (arith, e)

test_self : (a : ℕ) → (a == a) ≡ true
test_self a = grind arith

module _ (g : MixedGraph) (few : g.vertices ≤ 64) (x y : ℕ) (h : Hedge) (hedge : IsHedge g x y h) (kept : ℕ) (m : Model) (are : AreCauses h kept m.causes.items)
    (two : (j : ℕ) → j < length m.causes.items → length (weights_of m.causes.items j) ≡ 2)
    (hedges : (k : ℕ) → k < g.vertices → has_hedge m.mechanisms.items k ≡ has h.big.bits k)
    (v : ℕ) (vlt : v < g.vertices) where
  link_is : (j : ℕ) → j < h.links.count - 1 → is_linked h j v ≡ true → IsBitCause m v j
  link_is j lt e = record {
    below = (let c = are.count in omega arith);
    serves = (are.links j lt).children_are v ∙ e;
    two = two j (let c = are.count in omega arith);
  }

  small_is : has h.small.bits v ≡ true → IsBitCause m v (small_cause h v)
  small_is e = let l = before-less h.small.bits v 64 e (omega arith) in
      record {
        below = (let c = are.count in omega arith);
        serves = (are.small v e).children_are v ∙ test_self v;
        two = two (small_cause h v) (let c = are.count in omega arith);
      }

  listed : (src i : ℕ) → i < length (link_causes h src v ++ cond (has h.small.bits v) (small_cause h v ∷ []) [])
      → IsBitCause m v (get_or (link_causes h src v ++ cond (has h.small.bits v) (small_cause h v ∷ []) []) i 0)
  listed src i lt = go (cases_lt i (length (link_causes h src v))) (has h.small.bits v) refl lt
    where
      go : (i < length (link_causes h src v)) ⊎ (length (link_causes h src v) ≤ i) → (b : Bool) → has h.small.bits v ≡ b
          → i < length (link_causes h src v ++ cond b (small_cause h v ∷ []) [])
          → IsBitCause m v (get_or (link_causes h src v ++ cond (has h.small.bits v) (small_cause h v ∷ []) []) i 0)
      go (inl l) b e q = let t = member_at (λ j. is_linked h j v && has src (slice_index h.links.found (suc j))) (h.links.count - 1) i l in
          rw (get-first (link_causes h src v) (cond (has h.small.bits v) (small_cause h v ∷ []) []) i 0 l)
          (link_is (get_or (link_causes h src v) i 0) t.0 (and_parts (is_linked h (get_or (link_causes h src v) i 0) v)
          (has src (slice_index h.links.found (suc (get_or (link_causes h src v) i 0)))) t.1).0)
      go (inr ge) true e q =
          let n : length (link_causes h src v ++ small_cause h v ∷ []) ≡ length (link_causes h src v) + 1 =
          length-append (link_causes h src v) (small_cause h v ∷ []) in
          let z : get_or (link_causes h src v ++ cond (has h.small.bits v) (small_cause h v ∷ []) []) i 0 ≡ small_cause h v =
          ap (λ b. get_or (link_causes h src v ++ cond b (small_cause h v ∷ []) []) i 0) e
          ∙ get-last (link_causes h src v) (small_cause h v) i 0 (omega arith) in
          rw z (small_is e)
      go (inr ge) false e q = absurd (let n : length (link_causes h src v ++ []) ≡ length (link_causes h src v) + 0 =
          length-append (link_causes h src v) [] in omega arith)

  pub hedge_part_reads : (src : ℕ) → ((k : ℕ) → has src k ≡ true → has h.big.bits k ≡ true) → (p : Part) → IsHedgePart h src v p → MayRead g m v p
      × (p.own_hedge ≡ false)
  hedge_part_reads src sb p is = (
    record {
      hedges = λ k i. let t = and_parts (has src k) (slice_index h.choice.next k == v) (sym (is.hedges k) ∙ i) in
          chose k (sb k t.0) (test_same (slice_index h.choice.next k) v t.1) (has h.roots.bits k) refl;
      carrieds = λ k i. absurd (let o = is.carrieds k in grind (arith, i, o));
      causes = λ i lt. rw is.causes (listed src i (rw is.causes at lt));
    },
    is.own,
  )
    where
      chose : (k : ℕ) → has h.big.bits k ≡ true → slice_index h.choice.next k ≡ v → (r : Bool) → has h.roots.bits k ≡ r
          → (g.arrow k v && has_hedge m.mechanisms.items k) ≡ true
      chose k b e true q = absurd (let l = hedge.sets.low k b in let n = (hedge.choices k (omega arith)).none (inr q) in omega arith)
      chose k b e false q = let l = hedge.sets.low k b in let c = ((hedge.choices k (omega arith)).chosen b q).arrow in
          and_from (g.arrow k v) (has_hedge m.mechanisms.items k) (sym (ap (g.arrow k) e) ∙ c) (hedges k l ∙ b)
