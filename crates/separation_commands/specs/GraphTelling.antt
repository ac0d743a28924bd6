-- What is told of a graph: its text, whose names are its own.
use Rattle.dag_reader.specs.Written.{written}
use Rattle.dag_reader.specs.Vocabulary.{drawn_of}
use Rattle.replies.specs.declared.outcome.Outcome.TheVariants.{Yes}
use Rattle.told.specs.Telling.{Telling}
use Rattle.separation_commands.specs.GraphObjects.{graph_members}
use Rattle.separation_commands.specs.declared.graph.answer.Answer.{Answer}

-- an answer of `graph`: the graph in the dag grammar, or as an object
abbrev pub graph_telling : Telling Answer
graph_telling = record {
  outcome = λ a. Yes;
  text = λ w names a. written (drawn_of a.graph.now);
  members = λ w names a. graph_members a.graph.now;
}
