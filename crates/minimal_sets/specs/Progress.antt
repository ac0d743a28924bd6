-- How far the listing of minimal separators has come. Words for code inside this crate.
use Rattle.std.specs.Prelude.{ℕ, ◌≡◌, ◌≢◌, ◌≤◌, Bool, true, false, List, ◌⊎◌, length, All}
use Rattle.std.specs.List.{Any}
use Rattle.mixed_graph.specs.declared.sets.VSet.{VSet}
use Rattle.mixed_graph.specs.Vocabulary.{has, members_below}
use Rattle.minimal_sets.specs.Branches.{IsNode, IsIn}
use Rattle.minimal_sets.specs.Separators.{IsMinimalSeparator}
use Rattle.minimal_sets.specs.Listings.{IsTestOf}
use Rattle.minimal_sets.specs.Lists.{Each, SomeOf, Pairwise}
use Rattle.minimal_sets.specs.declared.separators.branching.Node.{Node}

module _ (near : ℕ → ℕ → Bool) (R X Y : ℕ → Bool) where
  -- no separator is in both branches
  abbrev pub Apart : Node → Node → Type 0
  Apart n m = (z : ℕ → Bool) → IsIn near R X Y n z → IsIn near R X Y m z → ⊥

  -- no separator of the branch is listed
  abbrev pub Away : List VSet → Node → Type 0
  Away done n = (z : ℕ → Bool) → IsIn near R X Y n z → SomeOf (IsTestOf z) done → ⊥

  -- what is listed, and the branches that hold the other separators
  pub record IsSoFar (done : List VSet) (todo : List Node) : Type 0 where
    pub nodes : Each (IsNode near R X Y) todo
    pub each : Each (λ s. IsMinimalSeparator near R X Y (has s.bits)) done
    pub once : Pairwise (λ s t. s.bits ≡ t.bits → ⊥) done
    pub apart : Pairwise Apart todo
    pub away : Each (Away done) todo
    pub all : (z : ℕ → Bool) → IsMinimalSeparator near R X Y z → SomeOf (IsTestOf z) done ⊎ SomeOf (λ n. IsIn near R X Y n z) todo

  -- the same with one branch taken out
  pub record IsAtWork (done : List VSet) (n : Node) (todo : List Node) : Type 0 where
    pub node : IsNode near R X Y n
    pub nodes : Each (IsNode near R X Y) todo
    pub each : Each (λ s. IsMinimalSeparator near R X Y (has s.bits)) done
    pub once : Pairwise (λ s t. s.bits ≡ t.bits → ⊥) done
    pub own_apart : Each (λ m. Apart m n) todo
    pub apart : Pairwise Apart todo
    pub own_away : Away done n
    pub away : Each (Away done) todo
    pub all : (z : ℕ → Bool) → IsMinimalSeparator near R X Y z → SomeOf (IsTestOf z) done ⊎ (SomeOf (λ n. IsIn near R X Y n z) todo ⊎ IsIn near R X Y n z)

-- the two sets differ
abbrev pub AreOther : VSet → VSet → Type 0
AreOther s t = members_below (has s.bits) 64 ≡ members_below (has t.bits) 64 → ⊥

-- the sets are sets of a kind, each once: all of them, or `most` where there are more
pub record AreGathered (P : (ℕ → Bool) → Type 0) (most : ℕ) (sets : List VSet) (more : Bool) : Type 0 where
  pub each : All (λ s. P (has s.bits)) sets
  pub once : Pairwise AreOther sets
  pub few : length sets ≤ most
  pub all : more ≡ false → (z : ℕ → Bool) → P z → Any (IsTestOf z) sets
  pub full : more ≡ true → length sets ≡ most
  pub another : more ≡ true → (s : VSet) × P (has s.bits) × All (λ t. t.bits ≢ s.bits) sets
