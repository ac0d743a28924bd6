-- What the models of walks show.
use Rattle.std.specs.Prelude.{ℕ, suc, ◌*◌, ◌≡◌, ◌≢◌, ◌<◌, ◌≤◌, Bool, false, ◌||◌, List, IsTrue}
use Rattle.mixed_graph.specs.Vocabulary.{MixedGraph, IsMixedGraph}
use Rattle.m_separation.specs.declared.marks.Mark.TheVariants.{Out, Into}
use Rattle.m_separation.specs.Vocabulary.{Step, IsWalk, last, HasOpenWalk}
use Rattle.finite_models.specs.Vocabulary.{FiniteModel, Fits, IsAssignment, IsPositiveModel, weight_of, ServesTwo}
use Rattle.walk_models.specs.Noisy.{IsNear}
use Rattle.walk_models.specs.Visits.{Walk, IsWalkIn, IsStrict, IsPlain, is_collider}
use Rattle.walk_models.specs.Strict.{AreStrictFrom, IsLate}

-- each model that fits has positive ones as near as one likes
abbrev pub EachIsNearPositive : Type 0
EachIsNearPositive = (g : MixedGraph) → IsMixedGraph g → (m : FiniteModel) → Fits g m
    → (extra : ℕ) × ((k : ℕ) → 1 ≤ k → (p : FiniteModel) × IsNear g m k extra p)

-- an event, and the intervention that it is under
pub record Event : Type 0 where
  pub doing : ℕ → Bool
  pub of : ℕ → Bool

-- the event a under do(b)
abbrev pub event : (doing of : ℕ → Bool) → Event
event b a = record { doing = b; of = a }

-- in this model at this assignment the product of the first two weights is below that of the others
pub record IsBelowIn (m : FiniteModel) (s : ℕ → ℕ) (a b c d : Event) : Type 0 where
  pub within : IsAssignment m.vertices m.size s
  pub below : weight_of m a.doing a.of s * weight_of m b.doing b.of s < weight_of m c.doing c.of s * weight_of m d.doing d.of s

-- it is so in some positive model that fits, and whose causes serve two vertices at most, at some assignment
pub record IsBelowSomewhere (g : MixedGraph) (a b c d : Event) : Type 0 where
  pub model : FiniteModel
  pub fits : Fits g model
  pub positive : IsPositiveModel model
  pub two : ServesTwo model
  pub at : ℕ → ℕ
  pub less : IsBelowIn model at a b c d

-- what is so in such a model, positive or not, is so in a positive one
abbrev pub BelowIsPositive : Type 0
BelowIsPositive = (g : MixedGraph) → IsMixedGraph g → (m : FiniteModel) → Fits g m → ServesTwo m → (s : ℕ → ℕ) (a b c d : Event) → IsBelowIn m s a b c d
    → IsBelowSomewhere g a b c d

-- an open walk from x to y given w makes them dependent
abbrev pub OpenWalksDepend : Type 0
OpenWalksDepend = (g : MixedGraph) → IsMixedGraph g → (x y w : ℕ → Bool) → HasOpenWalk g x y w
    → IsBelowSomewhere g (event (λ v. false) (λ v. x v || w v)) (event (λ v. false) (λ v. y v || w v)) (event (λ v. false) (λ v. x v || (y v || w v)))
    (event (λ v. false) w)

-- the walk is plain and strict for w, begins in y and ends in z, and has no visit in b
pub record IsWalkTo (g : MixedGraph) (p : Walk) (b w y z : ℕ → Bool) : Type 0 where
  pub walk : IsWalkIn g p
  pub plain : IsPlain p
  pub strict : IsStrict p w
  pub outside : (i : ℕ) → i ≤ p.steps → b (p.at i) ≡ false
  pub begins : IsTrue (y (p.at 0))
  pub ends : IsTrue (z (p.at p.steps))

-- no visit but the last is in z
abbrev pub IsFirstIn : Walk → (ℕ → Bool) → Type 0
IsFirstIn p z = (i : ℕ) → i < p.steps → z (p.at i) ≡ false

-- P(y | do(b), z, w) is above P(y | do(b), w) somewhere
abbrev pub SeenEndsTell : Type 0
SeenEndsTell = (g : MixedGraph) → IsMixedGraph g → (p : Walk) (b w y z : ℕ → Bool) → IsWalkTo g p b w y z
    → IsBelowSomewhere g (event b (λ v. y v || w v)) (event b (λ v. z v || w v)) (event b (λ v. y v || (z v || w v))) (event b w)

-- where the last edge has an arrowhead at z, P(y | do(b), z, w) is above P(y | do(b), do(z), w) somewhere
abbrev pub DoneEndsAreFree : Type 0
DoneEndsAreFree = (g : MixedGraph) → IsMixedGraph g → (p : Walk) (b w y z : ℕ → Bool) (k : ℕ) → IsWalkTo g p b w y z → IsFirstIn p z → p.steps ≡ suc k
    → p.mark k ≢ Into
    → IsBelowSomewhere g (event (λ v. b v || z v) (λ v. y v || w v)) (event b (λ v. z v || w v)) (event b (λ v. y v || (z v || w v)))
    (event (λ v. b v || z v) w)

-- where it is an arrow out of z, P(y | do(b), do(z), w) is above P(y | do(b), w) somewhere
abbrev pub DoneEndsTell : Type 0
DoneEndsTell = (g : MixedGraph) → IsMixedGraph g → (p : Walk) (b w y z : ℕ → Bool) (k : ℕ) → IsWalkTo g p b w y z → IsFirstIn p z → p.steps ≡ suc k
    → p.mark k ≡ Into
    → IsBelowSomewhere g (event b (λ v. y v || w v)) (event (λ v. b v || z v) w) (event (λ v. b v || z v) (λ v. y v || w v)) (event b w)

-- where a walk from y comes to z first after visit k, with an arrowhead there, and goes on by arrows forwards to w,
-- P(y | do(b), w) is above P(y | do(b), do(z), w) somewhere
abbrev pub GivenEndsTell : Type 0
GivenEndsTell = (g : MixedGraph) → IsMixedGraph g → (p : Walk) (b w y z : ℕ → Bool) (k : ℕ) → IsWalkIn g p → IsPlain p → suc k < p.steps → p.mark k ≢ Into
    → ((i : ℕ) → k < i → i < p.steps → p.mark i ≡ Out)
    → ((i : ℕ) → i ≤ suc k → w (p.at i) ≡ is_collider p i) → ((i : ℕ) → i ≤ p.steps → b (p.at i) ≡ false) → IsTrue (y (p.at 0)) → IsTrue (w (p.at p.steps))
    → IsTrue (z (p.at (suc k))) → ((i : ℕ) → i ≤ k → z (p.at i) ≡ false)
    → IsBelowSomewhere g (event (λ v. b v || z v) (λ v. y v || w v)) (event b w) (event b (λ v. y v || w v)) (event (λ v. b v || z v) w)

-- where a walk from x to y is strict for z and ends apart from x, P(z) * P(y | x, z) is above P(y | do(x)) somewhere
abbrev pub LateWalksExceed : Type 0
LateWalksExceed = (g : MixedGraph) → IsMixedGraph g → (x y z : ℕ → Bool) (v : ℕ) (r : List Step) → v < g.vertices → IsTrue (x v) → IsTrue (y (last v r))
    → IsWalk g v r → AreStrictFrom z false v r → IsLate x r
    → IsBelowSomewhere g (event x y) (event (λ u. false) (λ u. x u || z u)) (event (λ u. false) (λ u. x u || (y u || z u))) (event (λ u. false) z)

-- and so it is where a proper causal path from x to y has an inner vertex in z: k steps lead to the first such
abbrev pub MiddlesExceed : Type 0
MiddlesExceed = (g : MixedGraph) → IsMixedGraph g → (x y z : ℕ → Bool) (p : Walk) (k : ℕ) → IsWalkIn g p → IsPlain p → IsTrue (x (p.at 0))
    → IsTrue (y (p.at p.steps)) → ((i : ℕ) → i < p.steps → p.mark i ≡ Out)
    → ((i : ℕ) → 0 < i → i ≤ p.steps → x (p.at i) ≡ false) → z (p.at 0) ≡ false → suc k < p.steps → IsTrue (z (p.at (suc k)))
    → ((i : ℕ) → 0 < i → i ≤ k → z (p.at i) ≡ false)
    → IsBelowSomewhere g (event x y) (event (λ u. false) (λ u. x u || z u)) (event (λ u. false) (λ u. x u || (y u || z u))) (event (λ u. false) z)
