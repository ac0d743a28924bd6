use Rattle.std.proofs.Common.{◌≡◌, ℕ, ◌<◌, Bool, true, false, not, ◌&&◌, ◌==◌, inl, inr, List, [], ◌∷◌, ◌++◌, refl, sym, subst, IsTrue, arith}
use Rattle.std.proofs.lemmas.Bool.{cases_Bool, cases_eq, ne_eqb}
use Rattle.mixed_graph.specs.Bits.{has}
use Rattle.mixed_graph.specs.Graphs.{MixedGraph}
use Rattle.mixed_graph.specs.Arrows.{IsOnNoCycle, IsPathBelow}

-- no cycle leads through a vertex outside the mask
abbrev pub AreOnNoCycle : MixedGraph → ℕ → Type 0
AreOnNoCycle g rest = (a : ℕ) → has rest a ≡ false → IsOnNoCycle g a

start_below : (g : MixedGraph) (a b : ℕ) (path : List ℕ) → IsPathBelow g a path b → a < g.vertices
start_below g a b [] p = p.0
start_below g a b (c ∷ rest) p = p.0

-- one more arrow at the end
path_below_push : (g : MixedGraph) (a b c : ℕ) (path : List ℕ) → IsPathBelow g a path b → IsTrue (g.arrow b c) → c < g.vertices →
    IsPathBelow g a (path ++ c ∷ []) c
path_below_push g a b c [] p e below = (p.0, subst (λ v. g.arrow v c ≡ true) (sym p.1) e, (below, refl))
path_below_push g a b c (d ∷ rest) p e below = (p.0, p.1, path_below_push g d b c rest p.2 e below)

-- a cycle leads through its second vertex too
turned_cycle : (g : MixedGraph) (a c : ℕ) (rest : List ℕ) → IsPathBelow g a (c ∷ rest) a → IsOnNoCycle g c → ⊥
turned_cycle g a c [] p none = none c [] (path_below_push g c a c [] p.2 p.1 (start_below g c a [] p.2))
turned_cycle g a c (d ∷ rest) p none = none d (rest ++ c ∷ []) (path_below_push g c a c (d ∷ rest) p.2 p.1 (start_below g c a (d ∷ rest) p.2))

-- v too, if it has no child in the mask, may be left out of it
pub without_childless : (g : MixedGraph) (v rest rest' : ℕ) (is_taken : Bool) →
    (is_taken ≡ true → (b : ℕ) → IsTrue (g.arrow v b) → has rest b ≡ false) →
    ((u : ℕ) → has rest' u ≡ (has rest u && not (is_taken && (u == v)))) → AreOnNoCycle g rest → AreOnNoCycle g rest'
without_childless g v rest rest' is_taken childless rest_is outside = λ a h. let q = rest_is a in elim (cases_Bool is_taken) [
  | inl taken ↦ elim (cases_eq a v) [
    | inl same ↦ subst (IsOnNoCycle g) (sym same) (λ c path p. turned_cycle g v c path p (outside c (childless taken c p.1)))
    | inr apart ↦ let d : (a == v) ≡ false = ne_eqb a v apart in outside a (grind arith)
  ]
  | inr kept ↦ outside a (grind arith)
]
