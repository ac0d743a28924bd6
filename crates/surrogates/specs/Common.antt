-- What blocks a district under all experiments that leave it alone at once.
use Rattle.std.specs.Prelude.{ℕ, ◌≡◌, ◌≤◌, ◌⊎◌, true, List, [], ◌∷◌, if◌then◌else◌, IsTrue}
use Rattle.mixed_graph.specs.Vocabulary.{has, MixedGraph, IsMixedGraph, union, is_apart, Apart}
use Rattle.prob_expr.specs.Vocabulary.{is_listed}
use Rattle.do_derivation.specs.Vocabulary.{are_sets}
use Rattle.hedge.specs.Vocabulary.{AreSetsOfHedge}
use Rattle.identification_theory.specs.Vocabulary.{IsTarget, AreRoots}
use Rattle.surrogates.specs.Surrogates.{IsStoppedUnder, IsStoppedWith}

-- the experiments that leave c alone, taken together
abbrev pub around : ℕ → List ℕ → ℕ
around c [] = 0
around c (z ∷ zs) = if is_apart z c then union z (around c zs) else around c zs

-- the sets form a hedge for the effect, which u leaves alone
pub record IsHedgeApart (g : MixedGraph) (x y u big small roots : ℕ) : Type 0 where
  pub hedge : AreSetsOfHedge g x y big small roots
  pub apart : Apart (has big) (has u)

-- where the district at which the procedure stops is stopped under an intervention on u that leaves it alone too, there is such a hedge
abbrev pub StopUnderHasHedge : Type 0
StopUnderHasHedge = (g : MixedGraph) → IsMixedGraph g → (zs : List ℕ) (x y small first roots : ℕ) → IsTarget g x y → IsStoppedWith g zs x y small first
    → AreRoots g small roots
    → (u big : ℕ) → IsTrue (is_apart u small) → IsStoppedUnder g u small big → IsHedgeApart g x y u big small roots

-- each experiment leaves big alone, or sets a member of c, where big is apart from those that leave c alone
abbrev pub EachIsHarmless : Type 0
EachIsHarmless = (n : ℕ) → n ≤ 64 → (zs : List ℕ) → are_sets n zs ≡ true → (c big : ℕ) → Apart (has big) (has (around c zs))
    → (z : ℕ) → is_listed z zs ≡ true → Apart (has big) (has z) ⊎ ((r : ℕ) × IsTrue (has c r) × IsTrue (has z r))

-- and together they leave c alone
abbrev pub AroundIsApart : Type 0
AroundIsApart = (c : ℕ) (zs : List ℕ) → is_apart (around c zs) c ≡ true
