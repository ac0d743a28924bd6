-- The rule for which a move asks, with its sets, and the graph in which it is asked.
use Rattle.std.specs.Prelude.{ℕ, ◌≡◌, List, Option, Some, None, MatchOption}
use Rattle.mixed_graph.specs.Vocabulary.{has, MixedGraph, graph_of}
use Rattle.prob_expr.specs.Tree.{Tree}
use Rattle.do_rules.specs.declared.rules.Rule.{Rule}
use Rattle.do_rules.specs.Vocabulary.{IsRuleGraph}
use Rattle.do_derivation.specs.Plans.{Plan}
use Rattle.do_derivation.specs.Vocabulary.{child}
use Rattle.do_derivation.specs.Table.{Row, row}
use Rattle.derivation_steps.specs.Questions.{Asked, asked_of}
use Rattle.derivation_steps.specs.declared.questions.AskedRule.{AskedRule}

-- the rule is asked of these sets, in the graph without the edges that it cuts
pub record IsAskedOf (g : MixedGraph) (rule : Rule) (doing y z given : ℕ) (a : AskedRule) : Type 0 where
  pub question : asked_of a.question ≡ record { rule = rule; doing = doing; y = y; z = z; given = given }
  pub graph : IsRuleGraph rule g (has doing) (has z) (has given) (graph_of a.graph)

-- that rule is asked
pub record IsAskedRule (g : MixedGraph) (rule : Rule) (doing y z given : ℕ) (asked : Option AskedRule) : Type 0 where
  pub found : AskedRule
  pub is : asked ≡ Some found
  pub asks : IsAskedOf g rule doing y z given found

-- of a row of the table that asks for a rule that one; of one that asks for none, none
abbrev pub IsAskedBy : MixedGraph → Row → Option AskedRule → Type 0
IsAskedBy g (Row.Refuse fault) asked = ⊥
IsAskedBy g (Row.Make x) asked = asked ≡ None
IsAskedBy g (Row.Ask rule x y z w made) asked = IsAskedRule g rule x y z w asked

-- of a move on an expression what its row asks, of a step on a child what it asks there; several steps ask for none together
abbrev pub IsAsked : MixedGraph → List ℕ → Plan → Tree → Option AskedRule → Type 0
IsAsked g lemmas (Plan.Make m) e asked = IsAskedBy g (row g.vertices lemmas m e) asked
IsAsked g lemmas (Plan.At i p) e asked = MatchOption (child e i) ⊥ (λ c. IsAsked g lemmas p c asked)
IsAsked g lemmas (Plan.Then ps) e asked = asked ≡ None

-- the same of a question, where there is one. Words for code inside this crate.
abbrev pub IsAskedIn : MixedGraph → Option Asked → Option AskedRule → Type 0
IsAskedIn g (Some q) asked = IsAskedRule g q.rule q.doing q.y q.z q.given asked
IsAskedIn g None asked = asked ≡ None
