-- What the parts of a check ask.
use Rattle.std.specs.Prelude.{ℕ, ◌≡◌, ◌||◌, Bool, true, not, None}
use Rattle.mixed_graph.specs.Vocabulary.{is_apart}
use Rattle.prob_expr.specs.Vocabulary.{fault_in, is_term, PlainFormula, PlainTarget}
use Rattle.do_derivation.specs.Vocabulary.{are_sets, sets_of, PlainDerivation}
use Rattle.hedge.specs.declared.hedge.Hedge.{Hedge}

-- the target of a certificate that was read: its sets are below n and don't meet, and y isn't empty
abbrev pub IsSoundTarget : ℕ → PlainTarget → Type 0
IsSoundTarget n t = is_term n t.y t.x t.given ≡ true

-- the formula of a certificate that was read has no fault
abbrev pub IsSoundFormula : ℕ → PlainFormula → Type 0
IsSoundFormula n f = fault_in n f ≡ None

-- the lemmas of a certificate that was read have sets below n that aren't empty
abbrev pub IsSoundDerivation : ℕ → PlainDerivation → Type 0
IsSoundDerivation n d = are_sets n (sets_of d.lemmas) ≡ true

-- the experiment leaves the larger set alone, or sets a member of the smaller one
abbrev pub is_harmless : Hedge → ℕ → Bool
is_harmless h z = is_apart h.big.bits z || not (is_apart h.small.bits z)
