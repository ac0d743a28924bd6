-- Walks of colliders by a search along bidirected edges.
use Rattle.std.proofs.Common.{◌≡◌, ℕ, Bool, true, ◌&&◌, ◌||◌, ◌==◌, inl, inr, refl, arith, subst}
use Rattle.std.proofs.lemmas.Bool.{cases_Bool, eqb-true, eq-eqb}
use Rattle.mixed_graph.specs.Vocabulary.{MixedGraph}
use Rattle.mixed_graph.specs.Reached.{Reached}
use Rattle.minimal_sets.specs.Moral.{Heads, by_arrow, by_both, on, Meets, heads, parent, beyond}

module _ (g : MixedGraph) (A : ℕ → Bool) (u : ℕ) (first : ℕ → Bool) (is : (v : ℕ) → first v ≡ (g.arrow u v || g.both u v)) where
  pub heads_from : (v : ℕ) → Reached g.both first A v → Heads g A u v
  heads_from v (Reached.start e i) = elim (cases_Bool (g.arrow u v)) [
    | inl a ↦ by_arrow a i
    | inr n ↦ by_both (let p = is v in grind arith) i
  ]
  heads_from v (Reached.next {u = c} r b i) = on (heads_from c r) b i

  pub heads_to : (v : ℕ) → Heads g A u v → Reached g.both first A v
  heads_to v (by_arrow a i) = Reached.start (let p = is v in grind arith) i
  heads_to v (by_both b i) = Reached.start (let p = is v in grind arith) i
  heads_to v (on {v = c} h b i) = Reached.next (heads_to c h) b i

module _ (g : MixedGraph) (A : ℕ → Bool) (u : ℕ) (H P M result : ℕ → Bool) (h_is : (v : ℕ) → H v ≡ true → Heads g A u v)
    (h_all : (v : ℕ) → Heads g A u v → H v ≡ true)
    (p_is : (w : ℕ) → P w ≡ (H w || (w == u))) (m_in : (v : ℕ) → M v ≡ true → A v ≡ true)
    (m_next : (v : ℕ) → M v ≡ true → (w : ℕ) × (P w ≡ true) × (g.arrow v w ≡ true))
    (m_all : (w v : ℕ) → A v ≡ true → P w ≡ true → g.arrow v w ≡ true → M v ≡ true) (result_is : (v : ℕ) → result v ≡ (A u && (H v || M v))) where
  pub meets_from : (v : ℕ) → result v ≡ true → Meets g A u v
  meets_from v e =
      let p = result_is v in let au : A u ≡ true = grind arith in
      elim (cases_Bool (H v)) [
        | inl h ↦ heads au (h_is v h)
        | inr n ↦ let m : M v ≡ true = grind arith in let w = m_next v m in
            elim (cases_Bool (H w.0)) [
              | inl h ↦ beyond au (m_in v m) (h_is w.0 h) w.2
              | inr o ↦ parent au (m_in v m) (subst (λ t. g.arrow v t ≡ true) (eqb-true w.0 u (let q = p_is w.0 in let i = w.1 in grind arith)) w.2)
            ]
      ]

  p_u : P u ≡ true
  p_u = let q = p_is u in let t : (u == u) ≡ true = eq-eqb u u refl in grind arith

  pub meets_to : (v : ℕ) → Meets g A u v → result v ≡ true
  meets_to v (heads au h) = let p = result_is v in let k = h_all v h in grind arith
  meets_to v (parent au av a) = let p = result_is v in let k = m_all u v av p_u a in grind arith
  meets_to v (beyond {c = c} au av h a) = let p = result_is v in let k = m_all c v av (let q = p_is c in let i = h_all c h in grind arith) a in grind arith

pub meets_inside : (g : MixedGraph) (A : ℕ → Bool) (u v : ℕ) → Meets g A u v → A u ≡ true
meets_inside g A u v (heads au h) = au
meets_inside g A u v (parent au av a) = au
meets_inside g A u v (beyond au av h a) = au
