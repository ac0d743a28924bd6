-- The models that the data means are those of the theory, in range: so their weights are the same.
use Rattle.std.proofs.Common.{ℕ, zero, suc, ◌+◌, ◌-◌, ◌≡◌, ◌<◌, ◌≤◌, true, false, cond, eqb, ltb, ◌⊎◌, inl, inr, None, refl, sym, ap, ◌∙◌, List, []}
use Rattle.std.proofs.Common.{◌∷◌, length, slice_index, get_or, arith, lt-ltb, le-ltb}
use Rattle.std.proofs.lemmas.Bool.{cases_lt}
use Rattle.std.proofs.lemmas.List.{get_or-map}
use Rattle.mixed_graph.specs.Vocabulary.{has, MixedGraph, IsMixedGraph}
use Rattle.finite_models.specs.declared.model.Model.{Model}
use Rattle.finite_models.specs.declared.model.Mechanism.{Mechanism}
use Rattle.finite_models.specs.declared.model.Mechanism.TheVariants.{Table, Parity}
use Rattle.finite_models.specs.Vocabulary.{meaning, weights_of, hedged, has_hedge, value_by}
use Rattle.finite_models.proofs.DataFits.{value_at}
use Rattle.hedge.specs.declared.hedge.Hedge.{Hedge}
use Rattle.hedge.specs.Vocabulary.{size_of, IsHedge}
use Rattle.counter_models.specs.Hedges.{links_of}
use Rattle.counter_models.specs.ParityPairs.{first_model, second_model, first_mechanism, second_mechanism, cause_weight}
use Rattle.counter_models.specs.Pairs.{IsModelOf, IsMechanismOf, in_first, in_second}
use Rattle.counter_models.specs.Theory.{data_of, inner_entries}
use Rattle.counter_models.proofs.Alike.{Alike}
use Rattle.counter_models.proofs.CauseNumbers.{private_of}
use Rattle.counter_models.proofs.Values.{hedged_is, first_value, second_value}

module _ (g : MixedGraph) (graph : IsMixedGraph g) (few : g.vertices ≤ 64) (x y : ℕ) (h : Hedge) (hedge : IsHedge g x y h) (kept : ℕ)
    (kept_low : (v : ℕ) → has kept v ≡ true → v < g.vertices) (carry : List ℕ)
    (at_y : (v : ℕ) → v < 64 → has y v ≡ true → slice_index carry v ≡ 64) (links_is : links_of (data_of y h kept carry) ≡ h.links.count - 1)
    (some : 1 ≤ inner_entries h)
    (sources : ℕ → ℕ) (m : Model) (is : IsModelOf g h kept carry sources m) where
  weights_link : (j : ℕ) → j < h.links.count - 1 → weights_of m.causes.items j ≡ 1 ∷ 1 ∷ []
  weights_link j lt = (is.causes.links j lt).weights_are

  weights_private : (j : ℕ) → h.links.count - 1 ≤ j → j < length m.causes.items → weights_of m.causes.items j ≡ 3 ∷ 1 ∷ []
  weights_private j ge lt = (private_of g graph x y h hedge kept kept_low m.causes.items is.causes j ge (let c = is.causes.count in omega arith)).2.weights_are

  pub two_values : (j : ℕ) → j < length m.causes.items → length (weights_of m.causes.items j) ≡ 2
  two_values j lt = go (cases_lt j (h.links.count - 1))
    where
      go : (j < h.links.count - 1) ⊎ (h.links.count - 1 ≤ j) → length (weights_of m.causes.items j) ≡ 2
      go (inl l) = ap length (weights_link j l)
      go (inr ge) = ap length (weights_private j ge lt)

  same_weight : (j i : ℕ) → j < length m.causes.items → i < 2 → slice_index (weights_of m.causes.items j) i ≡ cause_weight (data_of y h kept carry) j i
  same_weight j i lt il = go (cases_lt j (h.links.count - 1))
    where
      at_link : (i : ℕ) → i < 2 → slice_index (1 ∷ 1 ∷ []) i ≡ 1
      at_link zero l = refl
      at_link (suc zero) l = refl
      at_link (suc (suc i)) l = absurd (omega arith)

      at_private : (i : ℕ) → i < 2 → slice_index (3 ∷ 1 ∷ []) i ≡ cond (eqb i 0) 3 1
      at_private zero l = refl
      at_private (suc zero) l = refl
      at_private (suc (suc i)) l = absurd (omega arith)

      go : (j < h.links.count - 1) ⊎ (h.links.count - 1 ≤ j) → slice_index (weights_of m.causes.items j) i
          ≡ cond (ltb j (links_of (data_of y h kept carry))) 1 (cond (eqb i 0) 3 1)
      go (inl l) = ap (λ ws. slice_index ws i) (weights_link j l) ∙ at_link i il
          ∙ ap (λ b. cond b 1 (cond (eqb i 0) 3 1)) (sym (ap (ltb j) links_is ∙ lt-ltb j (h.links.count - 1) l))
      go (inr ge) = ap (λ ws. slice_index ws i) (weights_private j ge lt) ∙ at_private i il
          ∙ ap (λ b. cond b 1 (cond (eqb i 0) 3 1)) (sym (ap (ltb j) links_is ∙ le-ltb j (h.links.count - 1) ge))

  abbrev past : Mechanism
  past = Parity None None

  pub same_hedges : (k : ℕ) → k < g.vertices → has_hedge m.mechanisms.items k ≡ has h.big.bits k
  same_hedges k lt = get_or-map hedged m.mechanisms.items k past false (let l = is.all_mechanisms in omega arith)
      ∙ hedged_is h kept carry (sources k) k (get_or m.mechanisms.items k past) (is.mechanisms k lt past)

  pub alike : (mechanism : ℕ → (ℕ → ℕ) → (ℕ → ℕ) → ℕ)
      → ((v : ℕ) → v < g.vertices → (s u : ℕ → ℕ) → ((k : ℕ) → k < g.vertices → s k < slice_index m.sizes.items k)
      → ((j : ℕ) → j < length m.causes.items → u j < length (weights_of m.causes.items j))
      → (meaning g m).mechanism v s u ≡ mechanism v s u)
      → Alike (meaning g m) (record (first_model g.vertices (data_of y h kept carry)) { mechanism = mechanism })
  alike mechanism same = record {
    vertices = refl;
    causes = is.causes.count;
    sizes = is.sizes;
    values = two_values;
    weights = λ j i lt il. same_weight j i lt (let t = two_values j lt in omega arith);
    mechanisms = same;
  }

module _ (g : MixedGraph) (graph : IsMixedGraph g) (few : g.vertices ≤ 64) (x y : ℕ) (h : Hedge) (hedge : IsHedge g x y h) (kept : ℕ)
    (kept_low : (v : ℕ) → has kept v ≡ true → v < g.vertices) (carry : List ℕ)
    (at_y : (v : ℕ) → v < 64 → has y v ≡ true → slice_index carry v ≡ 64) (links_is : links_of (data_of y h kept carry) ≡ h.links.count - 1)
    (some : 1 ≤ inner_entries h) where
  pub first_alike : (m : Model) → IsModelOf g h kept carry (in_first h) m → Alike (meaning g m) (first_model g.vertices (data_of y h kept carry))
  first_alike m is = alike g graph few x y h hedge kept kept_low carry at_y links_is some (in_first h) m is
      (first_mechanism g.vertices (data_of y h kept carry))
      (λ v lt s u hs hu. value_at g m v (Parity None None) (let l = is.all_mechanisms in omega arith) s u
      ∙ go v lt s u (λ k l. let z = is.sizes k l in let q = hs k l in omega arith)
      (λ j l. let t = two_values g graph few x y h hedge kept kept_low carry at_y links_is some (in_first h) m is j
      (let c = is.causes.count in omega arith) in let q = hu j (let c = is.causes.count in omega arith) in omega arith)
      (get_or m.mechanisms.items v (Parity None None)) (is.mechanisms v lt (Parity None None)))
    where
      go : (v : ℕ) → v < g.vertices → (s u : ℕ → ℕ) → ((k : ℕ) → k < g.vertices
          → s k < cond (has h.big.bits k) (cond (has kept k) 4 2) (cond (has kept k) 2 1))
          → ((j : ℕ) → j < (h.links.count - 1) + size_of h.small.bits + size_of kept → u j < 2)
          → (k : Mechanism) → IsMechanismOf h kept carry h.big.bits v k → value_by g m v s u k ≡ first_mechanism g.vertices (data_of y h kept carry) v s u
      go v lt s u hs hu (Table outputs) i = absurd i
      go v lt s u hs hu (Parity a b) i = first_value g few x y h hedge kept carry at_y m.mechanisms.items
          (same_hedges g graph few x y h hedge kept kept_low carry at_y links_is some (in_first h) m is) s u hs hu v lt some a b i.0 i.1

  pub second_alike : (m : Model) → IsModelOf g h kept carry (in_second h) m → Alike (meaning g m) (second_model g.vertices (data_of y h kept carry))
  second_alike m is = alike g graph few x y h hedge kept kept_low carry at_y links_is some (in_second h) m is
      (second_mechanism g.vertices (data_of y h kept carry))
      (λ v lt s u hs hu. value_at g m v (Parity None None) (let l = is.all_mechanisms in omega arith) s u
      ∙ go v lt s u (λ k l. let z = is.sizes k l in let q = hs k l in omega arith)
      (λ j l. let t = two_values g graph few x y h hedge kept kept_low carry at_y links_is some (in_second h) m is j
      (let c = is.causes.count in omega arith) in let q = hu j (let c = is.causes.count in omega arith) in omega arith)
      (get_or m.mechanisms.items v (Parity None None)) (is.mechanisms v lt (Parity None None)))
    where
      go : (v : ℕ) → v < g.vertices → (s u : ℕ → ℕ) → ((k : ℕ) → k < g.vertices
          → s k < cond (has h.big.bits k) (cond (has kept k) 4 2) (cond (has kept k) 2 1))
          → ((j : ℕ) → j < (h.links.count - 1) + size_of h.small.bits + size_of kept → u j < 2)
          → (k : Mechanism) → IsMechanismOf h kept carry (in_second h v) v k → value_by g m v s u k ≡ second_mechanism g.vertices (data_of y h kept carry) v s u
      go v lt s u hs hu (Table outputs) i = absurd i
      go v lt s u hs hu (Parity a b) i = second_value g few x y h hedge kept carry at_y m.mechanisms.items
          (same_hedges g graph few x y h hedge kept kept_low carry at_y links_is some (in_second h) m is) s u hs hu v lt some a b i.0 i.1
