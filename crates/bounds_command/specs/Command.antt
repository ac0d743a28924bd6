-- The command `bounds`.
use Rattle.std.specs.Prelude.{Bool, Option, Some}
use Rattle.command_words.specs.Vocabulary.{Text}
use Rattle.mixed_graph.specs.Vocabulary.{graph_of}
use Rattle.dag_reader.specs.declared.graph.ReadGraph.{ReadGraph}
use Rattle.replies.specs.declared.format.Format.{Format}
use Rattle.replies.specs.Vocabulary.{CommandForm, on_two_inputs, Remainder}
use Rattle.told.specs.Vocabulary.{plain_form, target_refusal, Tells}
use Rattle.bound_values.specs.declared.questions.Question.{Question}
use Rattle.bounds_command.specs.Asking.{IsAsked}
use Rattle.bounds_command.specs.First.{unmet_telling, IsNotAsked, lists_of}
use Rattle.bounds_command.specs.Right.{IsKnown, CountsAnswer}
use Rattle.bounds_command.specs.Requests.{Request, IsRequest}

-- its request and its answers: on the diagram alone where the sets are no instrument's or the set isn't admissible, and else over the counts
abbrev pub bounds_command : CommandForm
bounds_command = on_two_inputs Request IsRequest (λ q. q.format) (λ q. q.file) (λ q. Some q.counts)
    (λ q d. Tells unmet_telling target_refusal (IsNotAsked (graph_of d.observed.graph) (lists_of q d)) (plain_form q.format) d.observed.names)
    (λ q d. (b : Question) × IsAsked (graph_of d.observed.graph) (lists_of q d) b)
    (λ q d other o told. (b : Question) × IsAsked (graph_of d.observed.graph) (lists_of q d) b
    × CountsAnswer q.format q.exact (graph_of d.observed.graph) d.observed.names b q.count other o told)

-- what is left once bounds are asked for: the bounds over the counts, whose column may have a name, in exact fractions or in units of 10^-18
abbrev pub bounds_left : Format → ReadGraph → Question → (counts : Text) (count : Option Text) (exact : Bool) → Remainder
bounds_left format seen b counts count exact = record {
  second = counts;
  limit = 67108864;
  known = IsKnown (graph_of seen.graph) seen.names b;
  answer = λ other. CountsAnswer format exact (graph_of seen.graph) seen.names b count other;
}
