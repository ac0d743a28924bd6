-- Nested counterfactuals: what y would be under do(x), were m as under another do(x) (Robins and Greenland 1992; Pearl 2001; Causality, chapter 4.5).
use Rattle.std.specs.Prelude.{ℕ, ◌*◌, ◌^◌, ◌≡◌, Bool, true, false, not, ◌&&◌, ◌||◌, if◌then◌else◌, ◌==◌, List, [], ◌∷◌, length}
use Rattle.mixed_graph.specs.Vocabulary.{has, MixedGraph, IsMixedGraph, IsAncestor, IsDescendant}
use Rattle.do_rules.specs.Vocabulary.{cut_out}
use Rattle.fractions.specs.Vocabulary.{Fraction, over}
use Rattle.finite_models.specs.Vocabulary.{sum_over, FiniteModel, Fits, IsAssignment, solution, agree, event_weight, weight_of, intervene, sum_worlds, world_weight, total}
use Rattle.treated_models.specs.Vocabulary.{joined, is_in, AreUnjoined, AreFree, read_at}

-- the values in the world u under do(x) at s where m is set too, to the values that it has in this world under do(x) at t
abbrev pub nested : FiniteModel → (x m : ℕ → Bool) → (s t : ℕ → ℕ) → (ℕ → ℕ) → ℕ → ℕ
nested w x m s t u = solution (intervene w (λ v. x v || m v) (λ v. if m v then solution (intervene w x t) u v else s v)) u

-- in the world u, y has these values at s, and z has without intervention the values s
abbrev pub is_nested : FiniteModel → (x m y z : ℕ → Bool) → (s t : ℕ → ℕ) → (ℕ → ℕ) → Bool
is_nested w x m y z s t u = agree w.vertices y (nested w x m s t u) s && agree w.vertices z (solution w u) s

-- the weight of these worlds
abbrev pub weight_of_nested : FiniteModel → (x m y z : ℕ → Bool) → (s t : ℕ → ℕ) → ℕ
weight_of_nested w x m y z s t = sum_worlds w (λ u. if is_nested w x m y z s t u then world_weight w u else 0)

-- P(Y[x, M[x']] | z), x at s and x' at t. The natural direct effect is its contrast with P(Y[x', M[x']] | z), and the natural indirect effect that of
-- P(Y[x, M[x]] | z) with it.
abbrev pub nested_effect : FiniteModel → (x m y z : ℕ → Bool) → (s t : ℕ → ℕ) → Fraction
nested_effect w x m y z s t = over (weight_of_nested w x m y z s t) (event_weight w z s)

-- what is asked of: x meets neither m, y nor z, y meets neither m nor z, and nothing in z comes after x
pub record IsNestedQuery (g : MixedGraph) (x m y z : ℕ → Bool) : Type 0 where
  pub m_x : (v : ℕ) → m v ≡ true → x v ≡ false
  pub y_x : (v : ℕ) → y v ≡ true → x v ≡ false
  pub z_x : (v : ℕ) → z v ≡ true → x v ≡ false
  pub y_m : (v : ℕ) → y v ≡ true → m v ≡ false
  pub y_z : (v : ℕ) → y v ≡ true → z v ≡ false
  pub before : (v : ℕ) → z v ≡ true → IsDescendant g x v → ⊥

-- a directed path without arrows out of x and m leads from v to y
abbrev pub LeadsPast : MixedGraph → (x m y : ℕ → Bool) → ℕ → Type 0
LeadsPast g x m y v = IsAncestor (cut_out g (λ p. x p || m p)) y v

-- A directed path without arrows out of x leads from v through m to y: to a member of m, a child of which leads to y past m.
pub record LeadsThrough (g : MixedGraph) (x m y : ℕ → Bool) (v : ℕ) : Type 0 where
  pub mediator : ℕ
  pub member : m mediator ≡ true
  pub leads : IsAncestor (cut_out g x) (λ p. p == mediator) v
  pub child : ℕ
  pub acts : g.arrow mediator child ≡ true
  pub past : LeadsPast g x m y child

-- no directed path leads from x through m to y
abbrev pub HasNoIndirectPath : MixedGraph → (x m y : ℕ → Bool) → Type 0
HasNoIndirectPath g x m y = (p c : ℕ) → g.arrow p c ≡ true → x p ≡ true → LeadsThrough g x m y c → ⊥

-- no directed path leads from x to y past m
abbrev pub HasNoDirectPath : MixedGraph → (x m y : ℕ → Bool) → Type 0
HasNoDirectPath g x m y = (p c : ℕ) → g.arrow p c ≡ true → x p ≡ true → LeadsPast g x m y c → ⊥

-- a child of x that leads to y both through m and past it (Avin, Shpitser and Pearl 2005)
pub record IsRecantingWitness (g : MixedGraph) (x m y : ℕ → Bool) (c : ℕ) : Type 0 where
  pub parent : ℕ
  pub from_x : x parent ≡ true
  pub arrow : g.arrow parent c ≡ true
  pub through : LeadsThrough g x m y c
  pub past : LeadsPast g x m y c

-- k tells the two apart: it has the children of x that lead to y through m, and not those that lead there past it
pub record TellsApart (g : MixedGraph) (x m y k : ℕ → Bool) : Type 0 where
  pub through : (p c : ℕ) → g.arrow p c ≡ true → x p ≡ true → LeadsThrough g x m y c → k c ≡ true
  pub past : (p c : ℕ) → g.arrow p c ≡ true → x p ≡ true → LeadsPast g x m y c → k c ≡ false

-- without a recanting witness the set of all that leads to y through m tells them apart
abbrev pub NoWitnessTellsApart : Type 0
NoWitnessTellsApart = (g : MixedGraph) (x m y k : ℕ → Bool) → ((c : ℕ) → IsRecantingWitness g x m y c → ⊥)
    → ((v : ℕ) → k v ≡ true → LeadsThrough g x m y v) → ((v : ℕ) → LeadsThrough g x m y v → k v ≡ true) → TellsApart g x m y k

-- and beside one no set does
abbrev pub WitnessLeavesNone : Type 0
WitnessLeavesNone = (g : MixedGraph) (x m y k : ℕ → Bool) (c : ℕ) → IsRecantingWitness g x m y c → TellsApart g x m y k → ⊥

-- the model in which each arrow out of x carries a value from outside: that of t into k, that of s elsewhere (Shpitser and Tchetgen Tchetgen 2016)
abbrev pub held_apart : FiniteModel → (x k : ℕ → Bool) → (s t : ℕ → ℕ) → FiniteModel
held_apart w x k s t = record w { mechanism = λ v r u. w.mechanism v (λ p. if x p then (if k v then t p else s p) else r p) u }

-- a nested event is an event of this one model
abbrev pub NestedIsHeld : Type 0
NestedIsHeld = (g : MixedGraph) → IsMixedGraph g → (w : FiniteModel) → Fits g w → (x m y z k : ℕ → Bool) → IsNestedQuery g x m y z → TellsApart g x m y k
    → (s t : ℕ → ℕ) → IsAssignment w.vertices w.size s → IsAssignment w.vertices w.size t
    → weight_of_nested w x m y z s t ≡ event_weight (held_apart w x k s t) (λ v. y v || z v) s

-- where both values of x are one, it is the effect of x on y and z (composition: Causality, chapter 7.3.1)
abbrev pub OneValueIsEffect : Type 0
OneValueIsEffect = (g : MixedGraph) → IsMixedGraph g → (w : FiniteModel) → Fits g w → (x m y z : ℕ → Bool) → IsNestedQuery g x m y z
    → (s t : ℕ → ℕ) → IsAssignment w.vertices w.size s → IsAssignment w.vertices w.size t → ((v : ℕ) → x v ≡ true → s v ≡ t v)
    → weight_of_nested w x m y z s t ≡ weight_of w x (λ v. y v || z v) s

-- where no directed path leads from x through m to y, it is so whatever the second value: the indirect effect is nil
abbrev pub NoIndirectPathIsEffect : Type 0
NoIndirectPathIsEffect = (g : MixedGraph) → IsMixedGraph g → (w : FiniteModel) → Fits g w → (x m y z : ℕ → Bool) → IsNestedQuery g x m y z
    → HasNoIndirectPath g x m y
    → (s t : ℕ → ℕ) → IsAssignment w.vertices w.size s → IsAssignment w.vertices w.size t
    → weight_of_nested w x m y z s t ≡ weight_of w x (λ v. y v || z v) s

-- where none leads there past m, it is the effect of x at the second value: the direct effect is nil
abbrev pub NoDirectPathIsEffect : Type 0
NoDirectPathIsEffect = (g : MixedGraph) → IsMixedGraph g → (w : FiniteModel) → Fits g w → (x m y z : ℕ → Bool) → IsNestedQuery g x m y z
    → HasNoDirectPath g x m y
    → (s t : ℕ → ℕ) → IsAssignment w.vertices w.size s → IsAssignment w.vertices w.size t
    → weight_of_nested w x m y z s t ≡ weight_of w x (λ v. y v || z v) (joined x s t)

-- a set of vertices, and the treatments that it reads at their second values
pub record Reader : Type 0 where
  pub set : ℕ
  pub second : ℕ

-- the sets of readers
abbrev pub sets_of : List Reader → List ℕ
sets_of [] = []
sets_of (r ∷ rs) = r.set ∷ sets_of rs

-- each set reads one value of each treatment: its children in the set are in k where it reads the second, and else are not
abbrev pub ReadOneEach : MixedGraph → (x k : ℕ → Bool) → List Reader → Type 0
ReadOneEach g x k [] = Unit {0}
ReadOneEach g x k (r ∷ rs) = ((p v : ℕ) → g.arrow p v ≡ true → x p ≡ true → has r.set v ≡ true → k v ≡ has r.second p) × ReadOneEach g x k rs

-- the product of the weights of the sets at c, each where all other vertices are set, and x outside it at the values that it reads
abbrev pub weights_read : FiniteModel → (x : ℕ → Bool) → List Reader → (s t c : ℕ → ℕ) → ℕ
weights_read w x [] s t c = 1
weights_read w x (r ∷ rs) s t c =
    weight_of w (λ v. not (has r.set v)) (has r.set) (read_at x r.set (λ v. if has r.second v then t v else s v) c) * weights_read w x rs s t c

-- Where no child of x leads to y both through m and past it, and no district reads both values of a treatment, the nested event is the sum, over the
-- rest of a set that has its parents, of the product of effects, one for each of its districts, at the values of x that it reads (Shpitser 2013).
abbrev pub NestedIsProduct : Type 0
NestedIsProduct = (g : MixedGraph) → IsMixedGraph g → (w : FiniteModel) → Fits g w → (x m y z k rest : ℕ → Bool) → IsNestedQuery g x m y z
    → TellsApart g x m y k → ((v : ℕ) → (y v || z v) ≡ true → rest v ≡ true → ⊥)
    → ((p v : ℕ) → (cut_out g x).arrow p v ≡ true → ((y v || z v) || rest v) ≡ true → ((y p || z p) || rest p) ≡ true)
    → (rs : List Reader) → ((v : ℕ) → is_in (sets_of rs) v ≡ ((y v || z v) || rest v)) → AreUnjoined g (sets_of rs) → AreFree g x (sets_of rs)
    → ReadOneEach g x k rs
    → (s t : ℕ → ℕ) → IsAssignment w.vertices w.size s → IsAssignment w.vertices w.size t
    → weight_of_nested w x m y z s t * total w ^ length (sets_of rs)
    ≡ total w * sum_over rest w.size w.vertices (λ c. weights_read w x rs s t c) s
