-- What is found holds in every model of the graph that has the counts.
use Rattle.std.proofs.Common.{◌≡◌, ◌<◌, ℕ, Bool, true, false, ◌||◌, List, length, sym, ap, subst, ◌∙◌, arith}
use Rattle.std.proofs.lemmas.Bool.{or_left, true≢false}
use Rattle.std.proofs.Common.{get_or}
use Rattle.mixed_graph.specs.Vocabulary.{has, MixedGraph, Within}
use Rattle.mixed_graph.proofs.Masks.{has-zero}
use Rattle.finite_models.proofs.Bools.{either}
use Rattle.count_rows.specs.Vocabulary.{Table}
use Rattle.count_table.specs.Vocabulary.{AreCounts}
use Rattle.count_eval.specs.Vocabulary.{is_used}
use Rattle.natural_bounds.specs.Vocabulary.{Asked, fixed, IsAskedOf}
use Rattle.replies.proofs.OneTarget.{some_member}
use Rattle.bound_values.specs.declared.questions.Method.{Method}
use Rattle.bound_values.specs.declared.questions.Method.TheVariants.{Instruments, LevelPairs, Adjustment}
use Rattle.bound_values.specs.declared.questions.Question.{Question}
use Rattle.bound_values.specs.declared.values.CellBounds.{CellBounds}
use Rattle.bound_values.specs.declared.found.Found.TheVariants.{Crossed, Bounded}
use Rattle.bound_values.specs.Vocabulary.{asked_of, joint_set, level_set, joint_mask, MayBeUsed, in_place, over_table, has_pairs, AreEnds, IsFound}
use Rattle.bound_values.specs.declared.found.Found.{Found}
use Rattle.bound_values.proofs.Used.{joint_has, counted_of}
use Rattle.bounds_command.specs.Right.{IsKnown, IsCounted, Encloses, HoldsInModels}
use Rattle.bounds_command.proofs.Known.{among_all}

-- ---- by each method
module _ (g : MixedGraph) (used : ℕ → Bool) (q : Asked) where
  by_instruments : IsAskedOf g used q → (v : ℕ) → joint_set q v ≡ true → v < g.vertices
  by_instruments may v i =
      let sets = may.instrument.sets in
      either (q.x v) (q.y v || level_set q v) (v < g.vertices) i (sets.x_within v)
      (λ j. either (q.y v) (level_set q v) (v < g.vertices) j (sets.y_within v)
      (λ k. either (q.z v) (fixed q v) (v < g.vertices) k (sets.z_within v) (sets.w_within v)))

  -- what is asked of is a vertex
  vertex_of : (method : Method) → MayBeUsed method g used q → (v : ℕ) → joint_set q v ≡ true → v < g.vertices
  vertex_of Instruments may v i = by_instruments may v i
  vertex_of LevelPairs may v i = by_instruments may v i
  vertex_of Adjustment may v i =
      let sets = may.sets in
      either (q.x v) (q.y v || level_set q v) (v < g.vertices) i (sets.x_within v)
      (λ j. either (q.y v) (level_set q v) (v < g.vertices) j (sets.y_within v)
      (λ k. either (q.z v) (fixed q v) (v < g.vertices) k (λ z. absurd (true≢false (sym z ∙ may.no_instrument v)))
      (λ f. either (q.c v) (q.u v) (v < g.vertices) f (λ c. absurd (true≢false (sym c ∙ may.no_condition v))) (sets.w_within v))))

  -- the method may be used where what is asked of is used
  may_over : (method : Method) (other : ℕ → Bool) → ((v : ℕ) → joint_set q v ≡ true → other v ≡ true) → MayBeUsed method g used q
      → MayBeUsed method g other q
  may_over Instruments other there may = record { instrument = may.instrument; apart = may.apart; covered = there }
  may_over LevelPairs other there may = record { instrument = may.instrument; apart = may.apart; covered = there }
  may_over Adjustment other there may = record {
    sets = may.sets;
    admissible = may.admissible;
    no_instrument = may.no_instrument;
    no_condition = may.no_condition;
    covered = λ v h. there v (among_all (q.x v) (q.y v) (q.z v) (q.c v) (q.u v) h);
  }

  -- and so may be the one that takes its place
  may_in_place : (method : Method) (pairs : Bool) → MayBeUsed method g used q → MayBeUsed (in_place method pairs) g used q
  may_in_place Instruments true may = may
  may_in_place Instruments false may = may
  may_in_place LevelPairs true may = may
  may_in_place LevelPairs false may = may
  may_in_place Adjustment pairs may = may

module _ (g : MixedGraph) (names : List (List ℕ)) (q : Question) (known : IsKnown g names q) where
  -- what is asked of is a vertex
  pub joint_below : (v : ℕ) → joint_set (asked_of q) v ≡ true → v < g.vertices
  joint_below = vertex_of g (has (joint_mask q)) (asked_of q) q.method known.may

  pub joint_low : (v : ℕ) → joint_set (asked_of q) v ≡ true → v < 64
  joint_low v i = (let a = joint_below v i in let b = known.few in omega (arith, a, b))

  pub joint_within : Within (length names) (has (joint_mask q))
  joint_within v i = subst (λ k. v < k) (sym known.named) (joint_below v (sym (joint_has q v) ∙ i))

  -- there is one
  pub joint_some : 0 < joint_mask q
  joint_some =
      let found = some_member g.vertices q.x.bits (λ v h. joint_below v (or_left (has q.x.bits v) (has q.y.bits v || level_set (asked_of q) v) h)) known.some in
      let there : has (joint_mask q) found.0 ≡ true =
      joint_has q found.0 ∙ or_left (has q.x.bits found.0) (has q.y.bits found.0 || level_set (asked_of q) found.0) found.1 in
      let full : joint_mask q ≡ 0 → ⊥ = λ e. (let z = has-zero found.0 in
      let m : has 0 found.0 ≡ true = sym (ap (λ k. has k found.0) e) ∙ there in cc) in
      omega (arith, full)

  module _ (t : Table) (are : AreCounts t) (used : IsCounted q t) where
    may : MayBeUsed (over_table t q).method g (is_used t) (asked_of q)
    may = may_in_place g (is_used t) (asked_of q) q.method (has_pairs t q)
        (may_over g (has (joint_mask q)) (asked_of q) q.method (is_used t) (counted_of q t are used joint_low) known.may)

    enclosed : (b : CellBounds) → AreEnds (over_table t q).method g.vertices t (asked_of q) b → Encloses g q t b
    enclosed b ends = record { at_least = ends.at_least g known.graph may; at_most = ends.at_most g known.graph may }

    pub found_holds : (is_exact : Bool) (f : Found) → IsFound is_exact g.vertices t (over_table t q) f → HoldsInModels g q t f
    found_holds is_exact (Bounded bounds) h = λ k d lt. enclosed (get_or bounds.items k d) (h.1.ends k d lt)
    found_holds is_exact (Crossed c) h = h.1.model g known.graph may h.1.others
