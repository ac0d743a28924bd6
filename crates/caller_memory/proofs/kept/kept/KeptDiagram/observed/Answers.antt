use Rattle.std.proofs.Common.{length, ap, sym, ◌∙◌}
use Rattle.mixed_graph.specs.Vocabulary.{has, graph_of}
use Rattle.latent_projection.specs.Vocabulary.{observed_below, names_at}
use Rattle.latent_projection.proofs.KeptNames.{length-names_at}
use Rattle.caller_memory.proofs.Drawing.{observed_of_read, observed_size}
use Rattle.caller_memory.proofs.kept.kept.KeptDiagram.observed.Goals as goal

pub returns-clause-names : goal.returns-clause-names
returns-clause-names c = c.in_ok-names.ensures.names
    ∙ ap (λ n. names_at (observed_below (has c.args.read.now.latent.bits) n) c.args.read.now.names) c.args.read.now.sized

pub returns-clause-graph : goal.returns-clause-graph
returns-clause-graph c = observed_of_read c.args.self.now c.args.read.now (graph_of c.graph.result) c.requires.graph c.requires.latent c.graph.ensures.same

pub returns-clause-named : goal.returns-clause-named
returns-clause-named c = ap length (returns-clause-names c) ∙ length-names_at _ c.args.read.now.names
    ∙ sym (observed_size c.args.self.now c.args.read.now (graph_of c.graph.result) c.requires.graph c.requires.latent c.graph.ensures.same)
