-- Tallies of pairs, inside this crate.
use Rattle.std.specs.Prelude.{ℕ, ◌≡◌, ◌<◌, Bool, true, false, not, ◌&&◌, ◌==◌, length}
use Rattle.mixed_graph.specs.Vocabulary.{members_below, MixedGraph}
use Rattle.survey_command.specs.Counts.{pairs_from}
use Rattle.survey_command.specs.Right.{HasHedge, HasFormula}
use Rattle.survey_command.specs.declared.tally.Tally.{Tally}

-- the answer for the effect of a on b: it has a hedge; or it has none, but a right formula
abbrev pub IsAnswerFor : MixedGraph → (a b : ℕ) → Bool → Type 0
IsAnswerFor g a b true = HasHedge g a b
IsAnswerFor g a b false = (HasHedge g a b → ⊥) × HasFormula g a b

-- how many of the numbers below k, other than a, pass the test
abbrev pub count_of_others : ℕ → ℕ → (ℕ → Bool) → ℕ
count_of_others k a test = length (members_below (λ b. not (a == b) && test b) k)

-- the tally of the effects of a on the other vertices below k
pub record IsRowTally (g : MixedGraph) (a k : ℕ) (t : Tally) : Type 0 where
  pub is_hedged : ℕ → Bool
  pub right : (b : ℕ) → b < k → (a ≡ b → ⊥) → IsAnswerFor g a b (is_hedged b)
  pub formulas : t.formulas ≡ count_of_others k a (λ b. not (is_hedged b))
  pub hedges : t.hedges ≡ count_of_others k a is_hedged

-- the tally of the effects of the vertices below k on the other vertices
pub record IsTally (g : MixedGraph) (k : ℕ) (t : Tally) : Type 0 where
  pub is_hedged : ℕ → ℕ → Bool
  pub right : (a b : ℕ) → a < k → b < g.vertices → (a ≡ b → ⊥) → IsAnswerFor g a b (is_hedged a b)
  pub formulas : t.formulas ≡ pairs_from g.vertices (λ a b. not (a == b) && not (is_hedged a b)) k
  pub hedges : t.hedges ≡ pairs_from g.vertices (λ a b. not (a == b) && is_hedged a b) k
