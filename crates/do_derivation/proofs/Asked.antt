-- Rows that ask for a rule.
use Rattle.std.proofs.Common.{ℕ, ◌≡◌, Bool, true, false, arith}
use Rattle.mixed_graph.specs.Vocabulary.{has, MixedGraph}
use Rattle.m_separation.specs.declared.paths.OpenPath.{OpenPath}
use Rattle.do_rules.specs.declared.rules.Rule.{Rule}
use Rattle.do_rules.specs.Vocabulary.{IsBlockedFor, IsOpenFor}
use Rattle.prob_expr.specs.Tree.{Tree}
use Rattle.do_derivation.specs.Table.{Row, if_so}
use Rattle.do_derivation.specs.Steps.{IsMade, RowRefuses}
use Rattle.do_derivation.specs.declared.faults.StepFault.{StepFault}
use Rattle.do_derivation.specs.declared.faults.StepFault.TheVariants.{Unblocked}
use Rattle.std.proofs.Common.{refl}

module _ (g : MixedGraph) (rule : Rule) (x y z w : ℕ) (made : Tree) (fault : StepFault) where
  pub asked_made : (holds : Bool) (e : Tree) → holds ≡ true → IsBlockedFor rule g (has x) (has y) (has z) (has w) → e ≡ made
      → IsMade g (if_so holds (Row.Ask rule x y z w made) fault) e
  asked_made true e t h same = (h, same)
  asked_made false e t h same = absurd (grind (arith, t))

  pub asked_refused : (holds : Bool) (p : OpenPath) → holds ≡ true → IsOpenFor rule g (has x) (has y) (has z) (has w) p
      → RowRefuses g (if_so holds (Row.Ask rule x y z w made) fault) (Unblocked p)
  asked_refused true p t h = (p, h, refl)
  asked_refused false p t h = absurd (grind (arith, t))
