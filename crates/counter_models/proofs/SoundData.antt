-- The data of each of the two models is sound, and so means a model that fits the graph.
use Rattle.std.proofs.Common.{ℕ, zero, suc, ◌-◌, ◌≡◌, ◌<◌, ◌≤◌, Bool, true, false, cond, ◌==◌, ◌&&◌, Option, Some, None, refl, sym, ap, ◌∙◌, List, []}
use Rattle.std.proofs.Common.{◌∷◌, length, slice_index, get_or, IsTrue, arith}
use Rattle.std.specs.Prelude.{IsSome}
use Rattle.std.proofs.lemmas.Bool.{and_parts, and_from}
use Rattle.std.proofs.lemmas.List.{get_or-map}
use Rattle.mixed_graph.specs.Vocabulary.{has, MixedGraph, IsMixedGraph}
use Rattle.finite_models.specs.declared.model.Model.{Model}
use Rattle.finite_models.specs.declared.model.Part.{Part}
use Rattle.finite_models.specs.declared.model.Mechanism.{Mechanism}
use Rattle.finite_models.specs.declared.model.Mechanism.TheVariants.{Table, Parity}
use Rattle.finite_models.specs.Vocabulary.{weights_of, carries, has_hedge, has_carried, meaning, IsBitCause, MayRead, CarriedMayRead, HasInputs, HasValues, parity_size, IsSoundModel, Fits}
use Rattle.finite_models.proofs.DataFits.{data_fits}
use Rattle.hedge.specs.declared.hedge.Hedge.{Hedge}
use Rattle.hedge.specs.Vocabulary.{IsHedge}
use Rattle.counter_models.specs.Hedges.{links_of}
use Rattle.counter_models.specs.Kept.{free, CarriesTo}
use Rattle.counter_models.specs.Pairs.{kept_cause, IsModelOf, IsMechanismOf, IsPartWhere, IsHedgePart, IsCarriedPart}
use Rattle.counter_models.specs.Theory.{data_of, inner_entries}
use Rattle.counter_models.proofs.CauseNumbers.{sound_at}
use Rattle.counter_models.proofs.Inputs.{hedge_reads}
use Rattle.counter_models.proofs.Lists.{before-less}
use Rattle.counter_models.proofs.Reading.{hedge_part_reads}
use Rattle.counter_models.proofs.Same.{two_values, same_hedges}

test_same : (a b : ℕ) → (a == b) ≡ true → a ≡ b
test_same a b e = grind (arith, e)

test_self : (a : ℕ) → (a == a) ≡ true
test_self a = grind arith

carried_there : (b : Bool) (P : Part → Type 0) (c o : Option Part) → IsPartWhere b P o → carries (Parity c o) ≡ b
carried_there true P c (Some p) h = refl
carried_there true P c None h = absurd h
carried_there false P c (Some p) h = absurd h
carried_there false P c None h = refl

carried_is : (h : Hedge) (kept : ℕ) (carry : List ℕ) (s v : ℕ) (m : Mechanism) → IsMechanismOf h kept carry s v m → carries m ≡ has kept v
carried_is h kept carry s v (Table outputs) is = absurd is
carried_is h kept carry s v (Parity a b) is = carried_there (has kept v) (IsCarriedPart h kept carry v) a b is.1

some_part : (b : Bool) (P : Part → Type 0) (o : Option Part) → b ≡ true → IsPartWhere b P o → IsSome o
some_part true P (Some p) e i = refl
some_part true P None e i = absurd i
some_part false P o e i = absurd (grind (arith, e))

carried_reads : (g : MixedGraph) (m : Model) (v : ℕ) (b : Bool) (P : Part → Type 0) (a : Option Part)
    → ((p : Part) → b ≡ true → P p → MayRead g m v p × (IsTrue p.own_hedge → IsSome a)) → (o : Option Part) → IsPartWhere b P o → CarriedMayRead g m v a o
carried_reads g m v true P a h (Some p) i = h p refl i
carried_reads g m v true P a h None i = absurd i
carried_reads g m v false P a h (Some p) i = absurd i
carried_reads g m v false P a h None i = tt

parts_size : (b c : Bool) (P Q : Part → Type 0) (x y : Option Part) → IsPartWhere b P x → IsPartWhere c Q y → cond b (cond c 4 2) (cond c 2 1) ≡ parity_size x y
parts_size true true P Q (Some p) (Some q) i j = refl
parts_size true false P Q (Some p) None i j = refl
parts_size false true P Q None (Some q) i j = refl
parts_size false false P Q None None i j = refl
parts_size true c P Q None y i j = absurd i
parts_size false c P Q (Some p) y i j = absurd i
parts_size true true P Q (Some p) None i j = absurd j
parts_size true false P Q (Some p) (Some q) i j = absurd j
parts_size false true P Q None None i j = absurd j
parts_size false false P Q None (Some q) i j = absurd j

module _ (g : MixedGraph) (graph : IsMixedGraph g) (few : g.vertices ≤ 64) (x y : ℕ) (h : Hedge) (hedge : IsHedge g x y h) (kept : ℕ)
    (kept_low : (v : ℕ) → has kept v ≡ true → v < g.vertices) (carry : List ℕ)
    (at_y : (v : ℕ) → v < 64 → has y v ≡ true → slice_index carry v ≡ 64)
    (carried : (v : ℕ) → has kept v ≡ true → has y v ≡ false → CarriesTo g x y v (slice_index carry v))
    (links_is : links_of (data_of y h kept carry) ≡ h.links.count - 1) (some : 1 ≤ inner_entries h)
    (sources : ℕ → ℕ) (inside : (v k : ℕ) → has (sources v) k ≡ true → has h.big.bits k ≡ true) (m : Model) (is : IsModelOf g h kept carry sources m) where
  two : (j : ℕ) → j < length m.causes.items → length (weights_of m.causes.items j) ≡ 2
  two = two_values g graph few x y h hedge kept kept_low carry at_y links_is some sources m is

  hedges : (k : ℕ) → k < g.vertices → has_hedge m.mechanisms.items k ≡ has h.big.bits k
  hedges = same_hedges g graph few x y h hedge kept kept_low carry at_y links_is some sources m is

  carrieds : (k : ℕ) → k < g.vertices → has_carried m.mechanisms.items k ≡ has kept k
  carrieds k lt = get_or-map carries m.mechanisms.items k (Parity None None) false (let l = is.all_mechanisms in omega arith)
      ∙ carried_is h kept carry (sources k) k (get_or m.mechanisms.items k (Parity None None)) (is.mechanisms k lt (Parity None None))

  carried_part_reads : (v : ℕ) → v < g.vertices → (a : Option Part) → IsPartWhere (has h.big.bits v) (IsHedgePart h (sources v) v) a → (p : Part) → has kept v
      ≡ true → IsCarriedPart h kept carry v p → MayRead g m v p × (IsTrue p.own_hedge → IsSome a)
  carried_part_reads v vlt a there p kv part = (
    record {
      hedges = λ k i. absurd (let o = part.hedges k in grind (arith, i, o));
      carrieds = λ k i. let t = and_parts (has kept k) (slice_index carry k == v) (sym (part.carrieds k) ∙ i) in
          came k t.0 (test_same (slice_index carry k) v t.1) (has y k) refl;
      causes = λ i lt. rw part.causes (one i (rw part.causes at lt));
    },
    λ o. some_part (has h.big.bits v) (IsHedgePart h (sources v) v) a (hedge.sets.small_inside v (hedge.sets.roots_inside v (sym part.own ∙ o))) there,
  )
    where
      came : (k : ℕ) → has kept k ≡ true → slice_index carry k ≡ v → (b : Bool) → has y k ≡ b → (g.arrow k v && has_carried m.mechanisms.items k) ≡ true
      came k kk e true q = absurd (let l = kept_low k kk in let z = at_y k (omega arith) q in omega arith)
      came k kk e false q = let c = carried k kk q in and_from (g.arrow k v) (has_carried m.mechanisms.items k)
          (sym (ap (g.arrow k) e) ∙ (and_parts (g.arrow k (slice_index carry k)) (free g x k && free g x (slice_index carry k)) c.arrow).0)
          (carrieds k (kept_low k kk) ∙ kk)

      cause : IsBitCause m v (kept_cause h kept v)
      cause = let l = before-less kept v 64 kv (omega arith) in let n = is.causes.count in
          record { below = omega arith; serves = (is.causes.kept_ones v kv).children_are v ∙ test_self v; two = two (kept_cause h kept v) (omega arith) }

      one : (i : ℕ) → i < length (kept_cause h kept v ∷ []) → IsBitCause m v (get_or (kept_cause h kept v ∷ []) i 0)
      one zero lt = cause
      one (suc i) lt = absurd (omega arith)

  inputs_of : (v : ℕ) → v < g.vertices → (k : Mechanism) → IsMechanismOf h kept carry (sources v) v k → HasInputs g m v k
  inputs_of v lt (Table outputs) i = absurd i
  inputs_of v lt (Parity a b) i = (
    hedge_reads g m v (has h.big.bits v) (IsHedgePart h (sources v) v)
        (hedge_part_reads g few x y h hedge kept m is.causes two hedges v lt (sources v) (inside v)) a i.0,
    carried_reads g m v (has kept v) (IsCarriedPart h kept carry v) a (carried_part_reads v lt a i.0) b i.1,
  )

  values_of : (v : ℕ) → v < g.vertices → (k : Mechanism) → IsMechanismOf h kept carry (sources v) v k → HasValues (slice_index m.sizes.items v) k
  values_of v lt (Table outputs) i = absurd i
  values_of v lt (Parity a b) i = is.sizes v lt ∙ parts_size (has h.big.bits v) (has kept v) (IsHedgePart h (sources v) v) (IsCarriedPart h kept carry v)
      a b i.0 i.1

  pub sound : IsSoundModel g m
  sound = record {
    causes = λ j lt. sound_at g graph x y h hedge kept kept_low m.causes.items is.causes j lt;
    inputs = λ v lt past. inputs_of v lt (get_or m.mechanisms.items v past) (is.mechanisms v lt past);
    values = λ v lt past. values_of v lt (get_or m.mechanisms.items v past) (is.mechanisms v lt past);
  }

  pub fits : Fits g (meaning g m)
  fits = data_fits g m is.all_sizes is.all_mechanisms (λ v lt. positive v (let l = is.all_sizes in omega arith)) sound
    where
      one_at_least : (b c : Bool) → 1 ≤ cond b (cond c 4 2) (cond c 2 1)
      one_at_least true true = omega arith
      one_at_least true false = omega arith
      one_at_least false true = omega arith
      one_at_least false false = omega arith

      positive : (v : ℕ) → v < g.vertices → 1 ≤ slice_index m.sizes.items v
      positive v lt = let z = one_at_least (has h.big.bits v) (has kept v) in let s = is.sizes v lt in omega arith
