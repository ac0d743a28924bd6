-- What lists ask for is known of the question.
use Rattle.std.proofs.Common.{◌≡◌, ℕ, Bool, true, false, ◌||◌, Some, refl, sym, ap, subst, ◌∙◌}
use Rattle.mixed_graph.specs.Vocabulary.{has, graph_of}
use Rattle.mixed_graph.proofs.Masks.{has-zero}
use Rattle.diagram.specs.declared.diagram.Diagram.{Diagram}
use Rattle.diagram.specs.Vocabulary.{Names, query_lists}
use Rattle.targets.proofs.Effects.{query_exposure}
use Rattle.adjust_command.proofs.Lists.{three_sets}
use Rattle.bound_values.specs.declared.questions.Method.{Method}
use Rattle.bound_values.specs.declared.questions.Question.{Question}
use Rattle.bound_values.specs.Vocabulary.{asked_of, joint_mask, MayBeUsed}
use Rattle.bound_values.proofs.Used.{joint_has}
use Rattle.bounds_command.specs.Ways.{Way, by_instruments, by_adjusting}
use Rattle.bounds_command.specs.Requests.{Request}
use Rattle.bounds_command.specs.Asking.{bound_lists, asked_lists, IsAsked}
use Rattle.bounds_command.specs.First.{lists_of}
use Rattle.bounds_command.specs.Right.{IsKnown}
use Rattle.bounds_command.proofs.AskedSets.{given_strata}

-- a set whose mask is 0 has no member
no_member : (mask : ℕ) → mask ≡ 0 → (v : ℕ) → has mask v ≡ false
no_member mask e v = ap (λ m. has m v) e ∙ has-zero v

-- a member of x, of y or of the strata is asked of
pub among_all : (x y z c u : Bool) → (x || (y || u)) ≡ true → (x || (y || (z || (c || u)))) ≡ true
among_all true y z c u h = refl
among_all false true z c u h = refl
among_all false false true c u h = refl
among_all false false false true u h = refl
among_all false false false false u h = h

-- by the way that is asked for
known_by : (d : Diagram) (way : Way) (x y : Names) (q : Question) → IsAsked (graph_of d.observed.graph) (asked_lists way d x y) q
    → IsKnown (graph_of d.observed.graph) d.observed.names q
known_by d (by_instruments given instruments strata) x y q asked = record {
  graph = d.observed.graph.valid;
  few = d.observed.graph.small;
  named = d.observed.sized;
  may = subst (λ (m : Method). MayBeUsed m (graph_of d.observed.graph) (has (joint_mask q)) (asked_of q)) (sym asked.named.method) (record {
    instrument = asked.instrument;
    apart = given_strata (bound_lists d x y given instruments strata) q asked.named;
    covered = λ v h. joint_has q v ∙ h;
  });
  apart = given_strata (bound_lists d x y given instruments strata) q asked.named;
  some = query_exposure (query_lists d.read d.observed.names x y (Some given)) q.x.bits q.y.bits q.given.bits asked.named.query;
}
known_by d (by_adjusting set) x y q asked = record {
  graph = d.observed.graph.valid;
  few = d.observed.graph.small;
  named = d.observed.sized;
  may = subst (λ (m : Method). MayBeUsed m (graph_of d.observed.graph) (has (joint_mask q)) (asked_of q)) (sym asked.named.method) (record {
    sets = three_sets (query_lists d.read d.observed.names x y (Some set)) d.observed.graph.n q.x.bits q.y.bits q.strata.bits d.observed.sized
        asked.named.sets;
    admissible = asked.admissible;
    no_instrument = no_member q.instruments.bits asked.named.no_instrument;
    no_condition = no_member q.given.bits asked.named.no_condition;
    covered = λ v h. joint_has q v
        ∙ among_all (has q.x.bits v) (has q.y.bits v) (has q.instruments.bits v) (has q.given.bits v) (has q.strata.bits v) h;
  });
  apart = λ v h. absurd (let e = no_member q.given.bits asked.named.no_condition v in cc);
  some = query_exposure (query_lists d.read d.observed.names x y (Some set)) q.x.bits q.y.bits q.strata.bits asked.named.sets;
}

pub is_known : (d : Diagram) (r : Request) (q : Question) → IsAsked (graph_of d.observed.graph) (lists_of r d) q
    → IsKnown (graph_of d.observed.graph) d.observed.names q
is_known d r q asked = known_by d r.way r.x r.y q asked
