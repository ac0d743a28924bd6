use Rattle.std.proofs.Common.{◌&&◌, ◌||◌, ◌==◌, not, get_or}
use Rattle.mixed_graph.specs.Vocabulary.{has}
use Rattle.latent_projection.proofs.Rows.{AreRows}
use Rattle.latent_projection.proofs.latents.arrows_past.Given as goal

abbrev pub invariant-loop-v : goal.invariant-loop-v
invariant-loop-v l =
    AreRows (λ a b. not (a == l.k) && (not (b == l.k) && (has (get_or l.rows a 0) b || (has (get_or l.rows a 0) l.k && has (get_or l.rows l.k 0) b)))) l.v l.out
