-- Diagrams that are the same have the same lists.
use Rattle.std.proofs.Common.{◌≡◌}
use Rattle.diagram.specs.declared.diagram.Diagram.{Diagram}
use Rattle.diagram.specs.Vocabulary.{Names}
use Rattle.diagram.proofs.OneDiagram.{AreSameDiagrams, same_effect_lists}
use Rattle.experiment_lists.specs.Vocabulary.{Lists}
use Rattle.surrogate_command.specs.Sets.{surrogate_lists}

-- diagrams that are the same have the same lists
pub same_surrogate_lists : (x y : Names) (experiments : Lists) (d e : Diagram) → AreSameDiagrams d e
    → surrogate_lists e.read e.observed.names x y experiments ≡ surrogate_lists d.read d.observed.names x y experiments
same_surrogate_lists x y experiments d e s = λ i. record { effect = same_effect_lists x y d e s i; experiments = experiments }
