-- Which certificates are written, and which of those are read again.
use Rattle.std.specs.Prelude.{◌≡◌, ℕ, ◌<◌, ◌≤◌, ◌^◌, Bool, true, ◌&&◌, List, [], ◌∷◌, length, slice_index, All, None}
use Rattle.mixed_graph.specs.Vocabulary.{is_below}
use Rattle.prob_expr.specs.Vocabulary.{is_term, PlainTarget, PlainFormula, fault_in}
use Rattle.do_derivation.specs.Vocabulary.{PlainLemma, PlainDerivation, are_sets, sets_of}
use Rattle.expr_text.specs.Write as expr
use Rattle.certificate_json.specs.StepSizes as step
use Rattle.certificate.specs.Vocabulary.{PlainHedge, PlainCertificate, formula, hedge}

-- the sets of a target are below n and don't meet, and y isn't empty
abbrev pub IsTargetWithin : ℕ → PlainTarget → Type 0
IsTargetWithin n t = is_term n t.y t.x t.given ≡ true

-- and nothing is given
pub record IsBareTarget (n : ℕ) (t : PlainTarget) : Type 0 where
  pub sets : IsTargetWithin n t
  pub bare : t.given ≡ 0

-- the vertices of each lemma's step are below n
abbrev pub are_steps_within : ℕ → List PlainLemma → Bool
are_steps_within n [] = true
are_steps_within n (l ∷ ls) = step.is_within n l.plan && are_steps_within n ls

-- each set and vertex is below n, and no lemma's set is empty
pub record IsDerivationWithin (n : ℕ) (d : PlainDerivation) : Type 0 where
  pub sets : are_sets n (sets_of d.lemmas) ≡ true
  pub lemmas : are_steps_within n d.lemmas ≡ true
  pub main : step.is_within n d.main ≡ true

-- each set and vertex is below n, only vertices below n choose, and there is a link
pub record IsHedgeWithin (n : ℕ) (h : PlainHedge) : Type 0 where
  pub big : is_below n h.big ≡ true
  pub small : is_below n h.small ≡ true
  pub roots : is_below n h.roots ≡ true
  pub choice : (v : ℕ) → v < 64 → (slice_index h.choice v ≡ 64 → ⊥) → (v < n) × (slice_index h.choice v < n)
  pub some : 0 < length h.links
  pub links : All (λ l. (l.0 < n) × (l.1 < n)) h.links

-- what is written, for n names: nothing is given where there is a hedge
abbrev pub IsWritable : ℕ → PlainCertificate → Type 0
IsWritable n (formula t f d) = IsTargetWithin n t × (fault_in n f ≡ None) × IsDerivationWithin n d
IsWritable n (hedge t h) = IsBareTarget n t × IsHedgeWithin n h

-- at most 60 steps nest in each lemma's step
abbrev pub AreStepsShallow : List PlainLemma → Type 0
AreStepsShallow [] = Unit {0}
AreStepsShallow (l ∷ ls) = (step.nesting l.plan ≤ 60) × AreStepsShallow ls

-- at most 60 steps nest, and in the formula, which has as many definitions as have numbers, at most 60 parentheses and sums
pub record IsFormulaShallow (f : PlainFormula) (d : PlainDerivation) : Type 0 where
  pub numbered : length f.defs ≤ 2 ^ 32
  pub main_text : expr.nesting f.main ≤ 60
  pub defs_texts : expr.nesting_all f.defs ≤ 60
  pub lemmas : AreStepsShallow d.lemmas
  pub main : step.nesting d.main ≤ 60

-- what nests so little that it is read again; a hedge always does
abbrev pub IsShallow : PlainCertificate → Type 0
IsShallow (formula t f d) = IsFormulaShallow f d
IsShallow (hedge t h) = Unit {0}
