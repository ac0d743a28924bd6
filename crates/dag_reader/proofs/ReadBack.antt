-- A written graph is read back as itself.
use Rattle.std.specs.Prelude.{Result, Ok, Err}
use Rattle.dag_reader.specs.declared.graph.ReadGraph.{ReadGraph}
use Rattle.dag_reader.specs.declared.faults.GraphFault.{GraphFault}
use Rattle.dag_reader.specs.declared.faults.GraphFault.TheVariants.{NoMemory}
use Rattle.dag_reader.specs.Reading.{Says}
use Rattle.dag_reader.specs.Reads.{Reads}
use Rattle.dag_reader.specs.Written.{drawn_of, written}
use Rattle.dag_reader.specs.RoundTrip.{IsReadBack}
use Rattle.dag_reader.proofs.LawBytes.{read}
use Rattle.dag_reader.proofs.Cut.{drawn_text, written_spelled}
use Rattle.dag_reader.proofs.DrawnMarks.{drawn_says}
use Rattle.dag_reader.proofs.DrawnSays.{drawn_text_says}
use Rattle.dag_reader.proofs.DrawnUtf8.{written_utf8}
use Rattle.dag_reader.proofs.DrawnGraph.{drawn_is, drawn_gives}
use Rattle.dag_reader.proofs.OneReading.{one_graph, reads_either}

written_says : (g : ReadGraph) → Says (written (drawn_of g)) (Ok (drawn_says (drawn_of g)))
written_says g =
    let d = drawn_of g in let is = drawn_is g in
    read (written d) (drawn_text d) (drawn_says d) (written_spelled d is) (drawn_text_says d is)

pub reads_itself : (g : ReadGraph) → Reads (written (drawn_of g)) (Ok g)
reads_itself g = (written_utf8 (drawn_of g) (drawn_is g), drawn_says (drawn_of g), written_says g, drawn_gives g)

pub reads_back : (g : ReadGraph) (r : Result ReadGraph GraphFault) → Reads (written (drawn_of g)) r → IsReadBack g r
reads_back g (Ok h) is = one_graph (written (drawn_of g)) g h (reads_itself g) is
reads_back g (Err NoMemory) is = tt
reads_back g (Err f) is = reads_either (written (drawn_of g)) g f (reads_itself g) (λ e. cc e) is
