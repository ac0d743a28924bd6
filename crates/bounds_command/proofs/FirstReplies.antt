-- What is known before counts are read, as it is told.
use Rattle.std.proofs.Common.{◌≡◌, false, true, Result, Ok, Err, ap, subst}
use Rattle.mixed_graph.specs.Vocabulary.{MixedGraph}
use Rattle.targets.specs.declared.fault.TargetFault.{TargetFault}
use Rattle.targets.proofs.Faults.{not_memory}
use Rattle.diagram.specs.declared.diagram.Diagram.{Diagram}
use Rattle.diagram.specs.Vocabulary.{Names}
use Rattle.told.specs.Vocabulary.{is_memory, target_refusal, is_wanting}
use Rattle.bounds_command.specs.declared.first.First.{First}
use Rattle.bounds_command.specs.declared.first.First.TheVariants as first
use Rattle.bounds_command.specs.declared.first.Unmet.{Unmet}
use Rattle.bounds_command.specs.Ways.{Way}
use Rattle.bounds_command.specs.Asking.{AskedLists, asked_lists, IsAskedFault}
use Rattle.bounds_command.specs.First.{IsNotAsked, IsFirst}

-- an answer that isn't want of memory is right
pub right_answer : (g : MixedGraph) (l : AskedLists) (r : Result Unmet TargetFault) → IsFirst g l (first.Answered r)
    → is_wanting target_refusal r ≡ false → IsNotAsked g l r
right_answer g l (Ok a) h memory = h
right_answer g l (Err fault) h memory =
    not_memory (IsAskedFault l) fault (λ e. (let m : is_memory fault ≡ true = ap is_memory e in let k = memory in cc)) h

-- what is said of a way and of lists that are lent is said of those of the request
pub as_asked : (g : MixedGraph) (d : Diagram) (way asked : Way) (x y on of : Names) → way ≡ asked → x ≡ on → y ≡ of → (known : First)
    → IsFirst g (asked_lists way d x y) known → IsFirst g (asked_lists asked d on of) known
as_asked g d way asked x y on of e f h known is = subst (λ (l : AskedLists). IsFirst g l known) (λ i. asked_lists (e i) d (f i) (h i)) is
