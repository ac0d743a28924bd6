use Rattle.std.proofs.Common.{◌≡◌, ◌+◌, ℕ, List, sym, subst}
use Rattle.mixed_graph.specs.Vocabulary.{has, graph_of}
use Rattle.hidden_models.specs.Lists.{AreListed}
use Rattle.hidden_models.specs.Tables.{entry_at}
use Rattle.hidden_models.proofs.ListLaws.{listed-more}
use Rattle.hidden_models.proofs.entries.table.Goals as goal

pub loop-place-preserved : goal.loop-place-preserved
loop-place-preserved c =
    subst (λ (xs : List ℕ). AreListed {X = ℕ} (λ i x. x ≡ entry_at (graph_of c.args.g.now) (graph_of c.args.parts.now.projection) (has c.args.latent.bits)
    c.args.m.now c.args.parts.now.reached.items c.args.v i) xs (c.loop-place.place + 1)) (sym c.in_ok-push.ensures.items)
    (listed-more {X = ℕ} (λ i x. x ≡ entry_at (graph_of c.args.g.now) (graph_of c.args.parts.now.projection) (has c.args.latent.bits)
    c.args.m.now c.args.parts.now.reached.items c.args.v i) c.loop-place.outputs.items c.loop-place.place c.in_ok-output.output c.loop-place.invariant
    c.in_ok-output.ensures)
