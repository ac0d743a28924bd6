-- Factors gathered one district after the other: what is made so far goes before what any further districts give.
use Rattle.std.proofs.Common.{ℕ, ◌+◌, ◌*◌, ◌≡◌, ◌<◌, ◌≤◌, take, drop, get_or, refl, sym, ap, subst, ◌∙◌, List, [], ◌∷◌, ◌++◌, length, map, All}
use Rattle.std.proofs.Common.{append_assoc, length-append, arith}
use Rattle.std.specs.Prelude.{Result, Ok, Err, IfOk, IfErr}
use Rattle.std.proofs.lemmas.List.{append-nil, map-append, length-map, get_or-map, take-append-drop, at_drop_more, at_drop_all, map_more}
use Rattle.mixed_graph.specs.declared.sets.VSet.{VSet}
use Rattle.mixed_graph.specs.Vocabulary.{MixedGraph}
use Rattle.hedge.specs.Vocabulary.{IsMaximalJoined, first_masks}
use Rattle.prob_expr.specs.Tree.{Tree, tree}
use Rattle.prob_expr.specs.Vocabulary.{Trees, no_trees, views}
use Rattle.prob_expr.specs.View.{view}
use Rattle.do_derivation.specs.Vocabulary.{PlainLemma, appended, lemma_view, steps_view}
use Rattle.do_derivation.proofs.Lists.{joined-nothing, joined_more}
use Rattle.identification_theory.specs.Vocabulary.{AreFactored, StopsAt, Lists, no_more, more, AreAllSteps}
use Rattle.identify.specs.declared.wanted.Wanted.{Wanted}
use Rattle.identify.specs.declared.wanted.Wanted.TheVariants.{Derivation}
use Rattle.identify.specs.Factors.{IsFactorOf, IsFactorFault}
use Rattle.identify.specs.declared.factors.district_factor.FactorFault.{FactorFault}
use Rattle.identify.specs.declared.factors.district_factor.FactorFault.TheVariants as faults
use Rattle.identify.specs.declared.factors.district_factor.Factor.{Factor}
use Rattle.identify.specs.Factored.{AreFactorsOf, IsAdded, IsStopBy, IsStopFor, AreWithMore}
use Rattle.identify.specs.Lists.{lists_onto, lists_view}
use Rattle.identify.specs.declared.answer.Factors.{Factors}
use Rattle.identify.specs.declared.answer.Stop.{Stop}
use Rattle.identify.proofs.Steps.{lists_more}
use Rattle.identify.proofs.StepLists.{masks_taken}

-- what a procedure gives for districts: the number of the first definition, the districts, definitions, values, lemmas and lists of steps
abbrev pub Factoring : Type 1
Factoring = ℕ → List ℕ → List Tree → Trees → List PlainLemma → Lists → Type 0

-- where it stops: the number of the first definition, the districts, small and big
abbrev pub Stopping : Type 1
Stopping = ℕ → List ℕ → ℕ → ℕ → Type 0

-- the factors of the first districts
pub record Gathered (derives : Factoring) (stops : Stopping) (first : List ℕ) (made : Factors) : Type 0 where
  pub few : length made.defs.items ≤ 64 * length first
  pub listed : length made.lists.items ≡ length first
  pub derived : (ts : List ℕ) (es : List Tree) (fs : Trees) (ls : List PlainLemma) (rest : Lists) → derives (length made.defs.items) ts es fs ls rest
      → derives 0 (first ++ ts) (map view made.defs.items ++ es) (appended (views made.values.items) fs) (map lemma_view made.lemmas.items ++ ls)
      (lists_onto made.lists.items rest)
  pub stopped : (ts : List ℕ) (small big : ℕ) → stops (length made.defs.items) ts small big → stops 0 (first ++ ts) small big

-- what further districts give goes on behind the factor f of c
pub record Continues (derives : Factoring) (stops : Stopping) (c k : ℕ) (f : Factor) : Type 0 where
  pub few : length f.defs.items ≤ 64
  pub derived : (ts : List ℕ) (es : List Tree) (fs : Trees) (ls : List PlainLemma) (rest : Lists) → derives (k + length f.defs.items) ts es fs ls rest
      → derives k (c ∷ ts) (map view f.defs.items ++ es) (tree (view f.value) fs) (map lemma_view f.lemmas.items ++ ls) (more (steps_view f.steps.items) rest)
  pub stopped : (ts : List ℕ) (small big : ℕ) → stops (k + length f.defs.items) ts small big → stops k (c ∷ ts) small big

-- a factor of c was found behind which further districts go on, or the procedure stops at c
abbrev pub GoesOn : Factoring → Stopping → (c k : ℕ) → Result Factor FactorFault → Type 0
GoesOn derives stops c k (Ok f) = Continues derives stops c k f
GoesOn derives stops c k (Err (faults.Stopped big)) = (ts : List ℕ) → stops k (c ∷ ts) c big.bits
GoesOn derives stops c k (Err faults.NoMemory) = Unit {0}

same_for : (P : List ℕ → List Tree → Trees → List PlainLemma → Lists → Type 0) {ts us : List ℕ} {es ds : List Tree} {fs vs : Trees} {ls ks : List PlainLemma}
    {xs ys : Lists}
    → ts ≡ us → es ≡ ds → fs ≡ vs → ls ≡ ks → xs ≡ ys → P us ds vs ks ys → P ts es fs ls xs
same_for P {ts = ts} {us = us} {es = es} {ds = ds} {fs = fs} {vs = vs} {ls = ls} {ks = ks} {xs = xs} {ys = ys} a b c d e h =
    subst (λ z. P z es fs ls xs) (sym a) (subst (λ z. P us z fs ls xs) (sym b)
    (subst (λ z. P us ds z ls xs) (sym c) (subst (λ z. P us ds vs z xs) (sym d) (subst (λ z. P us ds vs ks z) (sym e) h))))

module _ (derives : Factoring) (stops : Stopping) where
  pub gathered_none : (made : Factors) → made.defs.items ≡ [] → made.lemmas.items ≡ [] → made.values.items ≡ [] → made.lists.items ≡ []
      → Gathered derives stops [] made
  gathered_none made d l v s = record {
    few = (let n = ap length d in omega (arith, n));
    listed = ap length s;
    derived = λ ts es fs ls rest h. same_for (derives 0) refl (ap (λ z. map view z ++ es) d) (ap (λ z. appended (views z) fs) v)
        (ap (λ z. map lemma_view z ++ ls) l) (ap (λ z. lists_onto z rest) s)
        (subst (λ z. derives (length z) ts es fs ls rest) d h);
    stopped = λ ts small big h. subst (λ z. stops (length z) ts small big) d h;
  }

  -- one more factor
  pub gathered_next : (first next : List ℕ) (old new : Factors) (c k : ℕ) (f : Factor) → Gathered derives stops first old → next ≡ first ++ c ∷ [] → k
      ≡ length old.defs.items → Continues derives stops c k f → AreWithMore old f new
      → Gathered derives stops next new
  gathered_next first next old new c k f s n e is w = record {
    few = (let a = ap length w.defs in let b = length-append old.defs.items f.defs.items in let l = ap length n in let m = length-append first (c ∷ []) in
        let p = s.few in let q = is.few in omega (arith, a, b, l, m, p, q));
    listed = (let a = ap length w.lists in let b = length-append old.lists.items (f.steps ∷ []) in let l = ap length n in let m =
        length-append first (c ∷ []) in let p = s.listed in omega (arith, a, b, l, m, p));
    derived = λ ts es fs ls rest h. same_for (derives 0) (further ts)
        (ap (λ z. map view z ++ es) w.defs ∙ (ap (λ z. z ++ es) (map-append view old.defs.items f.defs.items)
        ∙ append_assoc (map view old.defs.items) (map view f.defs.items) es))
        (ap (λ z. appended (views z) fs) w.values ∙ joined_more old.values.items f.value fs)
        (ap (λ z. map lemma_view z ++ ls) w.lemmas ∙ (ap (λ z. z ++ ls) (map-append lemma_view old.lemmas.items f.lemmas.items)
        ∙ append_assoc (map lemma_view old.lemmas.items) (map lemma_view f.lemmas.items) ls))
        (ap (λ z. lists_onto z rest) w.lists ∙ lists_more old.lists.items f.steps rest)
        (s.derived (c ∷ ts) (map view f.defs.items ++ es) (tree (view f.value) fs) (map lemma_view f.lemmas.items ++ ls) (more (steps_view f.steps.items) rest)
        (subst (λ z. derives z (c ∷ ts) (map view f.defs.items ++ es) (tree (view f.value) fs) (map lemma_view f.lemmas.items ++ ls)
        (more (steps_view f.steps.items) rest)) e
        (is.derived ts es fs ls rest (subst (λ z. derives z ts es fs ls rest) number h))));
    stopped = λ ts small big h. subst (λ z. stops 0 z small big) (sym (further ts))
        (s.stopped (c ∷ ts) small big (subst (λ z. stops z (c ∷ ts) small big) e (is.stopped ts small big (subst (λ z. stops z ts small big) number h))));
  }
    where
      further : (ts : List ℕ) → next ++ ts ≡ first ++ c ∷ ts
      further ts = ap (λ z. z ++ ts) n ∙ append_assoc first (c ∷ []) ts

      number : length new.defs.items ≡ k + length f.defs.items
      number = ap length w.defs ∙ (length-append old.defs.items f.defs.items ∙ ap (λ z. z + length f.defs.items) (sym e))

  -- what they give where no district is left
  pub gathered_derived : ((k : ℕ) → derives k [] [] no_trees [] no_more) → (first : List ℕ) (made : Factors) → Gathered derives stops first made
      → derives 0 first (map view made.defs.items) (views made.values.items) (map lemma_view made.lemmas.items) (lists_view made.lists.items)
  gathered_derived none first made s = same_for (derives 0) (sym (append-nil first)) (sym (append-nil (map view made.defs.items)))
      (sym (joined-nothing (views made.values.items))) (sym (append-nil (map lemma_view made.lemmas.items))) refl
      (s.derived [] [] no_trees [] no_more (none (length made.defs.items)))

  found_next : (first next : List ℕ) (old new : Factors) (c k : ℕ) (found : Result Factor FactorFault) → Gathered derives stops first old → next ≡ first ++ c
      ∷ [] → k ≡ length old.defs.items
      → GoesOn derives stops c k found → IsAdded found old new → Gathered derives stops next new
  found_next first next old new c k (Ok f) s n e is w = gathered_next first next old new c k f s n e is w
  found_next first next old new c k (Err fault) s n e is w = absurd w

  found_stop : (first rest : List ℕ) (old : Factors) (c : VSet) (k : ℕ) (found : Result Factor FactorFault) (stop : Stop) → Gathered derives stops first old
      → k ≡ length old.defs.items
      → GoesOn derives stops c.bits k found → IsStopFor c found stop → IsStopBy stops (first ++ c.bits ∷ rest) stop
  found_stop first rest old c k (Ok f) stop s e is w = subst (IsStopBy stops (first ++ c.bits ∷ rest)) (sym w) tt
  found_stop first rest old c k (Err (faults.Stopped big)) stop s e is w =
      subst (IsStopBy stops (first ++ c.bits ∷ rest)) (sym w) (s.stopped (c.bits ∷ rest) c.bits big.bits
      (subst (λ z. stops z (c.bits ∷ rest) c.bits big.bits) e (is rest)))
  found_stop first rest old c k (Err faults.NoMemory) stop s e is w = subst (IsStopBy stops (first ++ c.bits ∷ rest)) (sym w) tt

-- ---- the sets of districts, as the loop goes over them
module _ (sets : List VSet) (n i : ℕ) (lt : i < length (take n sets)) where
  -- the mask at place i is that of the set at place i
  pub set_at : get_or (first_masks sets n) i 0 ≡ (get_or (take n sets) i (record { bits = 0 })).bits
  set_at = ap (λ l. get_or l i 0) (masks_taken sets n) ∙ get_or-map (λ (s : VSet). s.bits) (take n sets) i (record { bits = 0 }) 0 lt

  -- there are as many masks as sets, so place i is one of a mask too
  pub set_in : i < length (first_masks sets n)
  set_in = subst (λ k. i < k) (sym (ap length (masks_taken sets n) ∙ length-map (take n sets) (λ (s : VSet). s.bits))) lt

  -- the masks are those before place i, the one there and those behind it
  pub sets_split : first_masks sets n ≡ map (λ (s : VSet). s.bits) (take i (take n sets)) ++ (get_or (take n sets) i (record { bits = 0 })).bits
      ∷ map (λ (s : VSet). s.bits) (drop (i + 1) (take n sets))
  sets_split = masks_taken sets n ∙ ap (map (λ (s : VSet). s.bits)) (sym (take-append-drop i (take n sets)))
      ∙ map-append (λ (s : VSet). s.bits) (take i (take n sets)) (drop i (take n sets))
      ∙ ap (λ r. map (λ (s : VSet). s.bits) (take i (take n sets)) ++ r)
      (at_drop_more (λ l. map (λ (s : VSet). s.bits) l) (take n sets) i (record { bits = 0 }) lt)

  -- the masks up to place i are those before it and the one there
  pub sets_more : map (λ (s : VSet). s.bits) (take (i + 1) (take n sets)) ≡ map (λ (s : VSet). s.bits) (take i (take n sets))
      ++ (get_or (take n sets) i (record { bits = 0 })).bits ∷ []
  sets_more = map_more (λ (s : VSet). s.bits) (take n sets) i (record { bits = 0 }) lt

  -- the set at place i is a district
  pub district_at : (g : MixedGraph) (d : ℕ) → All (IsMaximalJoined g d) (first_masks sets n)
      → IsMaximalJoined g d (get_or (take n sets) i (record { bits = 0 })).bits
  district_at g d all = subst (IsMaximalJoined g d) set_at (all i 0 set_in)

-- from the end of the sets on, the masks before place i are all
pub sets_all : (sets : List VSet) (n i : ℕ) → length (take n sets) ≤ i → map (λ (s : VSet). s.bits) (take i (take n sets)) ≡ first_masks sets n
sets_all sets n i le = ap (map (λ (s : VSet). s.bits)) (sym (append-nil (take i (take n sets)))
    ∙ ap (λ r. take i (take n sets) ++ r) (sym (at_drop_all (λ l. l) (take n sets) i le)) ∙ take-append-drop i (take n sets)) ∙ sym (masks_taken sets n)

module _ (derives : Factoring) (stops : Stopping) (sets : List VSet) (n i : ℕ) (old : Factors)
    (s : Gathered derives stops (map (λ (v : VSet). v.bits) (take i (take n sets))) old) where
  -- the factor of the set at place i is added
  pub turn_next : i < length (take n sets) → (new : Factors) (k : ℕ) (found : Result Factor FactorFault) → k ≡ length old.defs.items
      → GoesOn derives stops (get_or (take n sets) i (record { bits = 0 })).bits k found → IsAdded found old new
      → Gathered derives stops (map (λ (v : VSet). v.bits) (take (i + 1) (take n sets))) new
  turn_next lt new k found e is w = found_next derives stops (map (λ (v : VSet). v.bits) (take i (take n sets)))
      (map (λ (v : VSet). v.bits) (take (i + 1) (take n sets))) old new
      (get_or (take n sets) i (record { bits = 0 })).bits k found s (sets_more sets n i lt) e is w

  -- the procedure stops at the set at place i
  pub turn_stop : i < length (take n sets) → (k : ℕ) (found : Result Factor FactorFault) (stop : Stop) → k ≡ length old.defs.items
      → GoesOn derives stops (get_or (take n sets) i (record { bits = 0 })).bits k found
      → IsStopFor (get_or (take n sets) i (record { bits = 0 })) found stop → IsStopBy stops (first_masks sets n) stop
  turn_stop lt k found stop e is w = subst (λ ts. IsStopBy stops ts stop) (sym (sets_split sets n i lt))
      (found_stop derives stops (map (λ (v : VSet). v.bits) (take i (take n sets)))
      (map (λ (v : VSet). v.bits) (drop (i + 1) (take n sets))) old (get_or (take n sets) i (record { bits = 0 })) k found stop s e is w)

  -- the factors of all sets
  pub turn_end : length (take n sets) ≤ i → Gathered derives stops (first_masks sets n) old
  turn_end le = subst (λ ts. Gathered derives stops ts old) (sets_all sets n i le) s

-- ---- identification from observations
-- the factors of the districts, with their lemmas and steps
abbrev pub Derives : Wanted → MixedGraph → List ℕ → ℕ → List ℕ → List Tree → Trees → List PlainLemma → Lists → Type 0
Derives wanted g order k ts es fs ls rest = AreFactored g order k ts es fs × (wanted ≡ Derivation → AreAllSteps g order k ts ls rest)

factor_continues : (wanted : Wanted) (g : MixedGraph) (order : List ℕ) (c k : ℕ) (f : Factor) → IsFactorOf wanted g order c k f
    → length f.defs.items ≤ 64 → length f.lemmas.items ≡ length f.defs.items → Continues (Derives wanted g order) (StopsAt g order) c k f
factor_continues wanted g order c k f is few paired = record {
  few = few;
  derived = λ ts es fs ls rest h. (
    AreFactored.next is.ancestors is.factor (subst (λ z. AreFactored g order z ts es fs) number h.0),
    λ w. AreAllSteps.next is.ancestors (is.steps w) (subst (λ z. AreAllSteps g order z ts ls rest)
        (ap (λ z. k + z) (sym paired ∙ sym (length-map f.lemmas.items lemma_view))) (h.1 w)),
  );
  stopped = λ ts small big h. StopsAt.after is.ancestors is.factor (subst (λ z. StopsAt g order z ts small big) number h);
}
  where
    number : k + length f.defs.items ≡ k + length (map view f.defs.items)
    number = ap (λ z. k + z) (sym (length-map f.defs.items view))

pub factor_goes_on : (wanted : Wanted) (g : MixedGraph) (order : List ℕ) (c k : ℕ) (r : Result Factor FactorFault) → IfOk r (IsFactorOf wanted g order c k)
    → IfOk r (λ f. length f.defs.items ≤ 64) → IfOk r (λ f. length f.lemmas.items ≡ length f.defs.items)
    → IfErr r (IsFactorFault g c) → GoesOn (Derives wanted g order) (StopsAt g order) c k r
factor_goes_on wanted g order c k (Ok f) is few paired fault = factor_continues wanted g order c k f is few paired
factor_goes_on wanted g order c k (Err (faults.Stopped big)) is few paired fault = λ ts. StopsAt.first fault.ancestors fault.stop
factor_goes_on wanted g order c k (Err faults.NoMemory) is few paired fault = tt

pub factors_of : (wanted : Wanted) (g : MixedGraph) (order ts : List ℕ) (made : Factors) → Gathered (Derives wanted g order) (StopsAt g order) ts made
    → AreFactorsOf wanted g order ts made
factors_of wanted g order ts made s =
    let d = gathered_derived (Derives wanted g order) (StopsAt g order) (λ k. (AreFactored.none, λ w. AreAllSteps.none)) ts made s in
    record { formulas = d.0; steps = d.1; counted = s.listed; few = s.few }
