-- One graph is kept: whatever text it was read of, what is kept gives a graph of that text.
use Rattle.std.proofs.Common.{◌≡◌, ℕ, List, sym, ap, ◌∙◌, subst}
use Rattle.mixed_graph.specs.Vocabulary.{has, IsGraphOf, IsAcyclic, graph_of}
use Rattle.dag_reader.specs.declared.graph.ReadGraph.{ReadGraph}
use Rattle.dag_reader.specs.declared.marks.Role.{Role}
use Rattle.dag_reader.specs.declared.marks.Role.TheVariants.{Exposure, Outcome, Adjusted, Latent}
use Rattle.dag_reader.specs.Vocabulary.{Said, arrows_of, doubles_of, Tells, is_marked}
use Rattle.replies.specs.Vocabulary.{HoldsGraph}
use Rattle.caller_memory.specs.declared.kept.kept.KeptDiagram.{KeptDiagram}
use Rattle.caller_memory.specs.Kept.{KeepsText, Keeps}
use Rattle.caller_memory.proofs.Feeds.{one_list}

module _ (k : KeptDiagram) (lines : List ℕ) (g h : ReadGraph) (a : Keeps k lines g) (b : Keeps k lines h) where
  same_names : h.names ≡ g.names
  same_names = one_list h.names g.names h.named.formed g.named.formed (sym b.names ∙ a.names)

  same_edges : graph_of g.graph ≡ graph_of h.graph
  same_edges = sym a.graph ∙ b.graph

  same_marks : (r : Role) (v : ℕ) → is_marked h r v ≡ is_marked g r v
  same_marks Exposure v = ap (λ s. has s v) (sym b.exposures ∙ a.exposures)
  same_marks Outcome v = ap (λ s. has s v) (sym b.outcomes ∙ a.outcomes)
  same_marks Adjusted v = ap (λ s. has s v) (sym b.adjusted ∙ a.adjusted)
  same_marks Latent v = ap (λ s. has s v) (sym b.latent ∙ a.latent)

  same_told : (s : Said) → Tells s g → Tells s h
  same_told s t = record {
    names = same_names ∙ t.names;
    edges = subst (IsGraphOf _ (arrows_of s.marks) (doubles_of s.marks)) same_edges t.edges;
    acyclic = subst IsAcyclic same_edges t.acyclic;
    roles = λ r v. same_marks r v ∙ t.roles r v;
  }

  -- a text of the one is a text of the other
  same_held : (text : List ℕ) → HoldsGraph text g → HoldsGraph text h
  same_held text holds = let r = holds.reads in record { small = holds.small; reads = (r.0, r.1, r.2, (r.3.0, r.3.1, same_told r.1 r.3.2)) }

-- what is kept of a text gives a graph of it
pub kept_holds : (text : List ℕ) (k : KeptDiagram) (lines : List ℕ) (h : ReadGraph) → KeepsText text k lines → Keeps k lines h → HoldsGraph text h
kept_holds text k lines h kept b = same_held k lines kept.read h kept.keeps b text kept.holds
