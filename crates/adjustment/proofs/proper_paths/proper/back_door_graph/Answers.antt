use Rattle.std.proofs.Common.{◌≡◌, ℕ, Bool, true, false, not, ◌&&◌, ◌||◌, get_or, replicate, ap, sym, subst, refl, ◌∙◌}
use Rattle.mixed_graph.specs.Vocabulary.{has, graph_of}
use Rattle.mixed_graph.proofs.Masks.{has-zero}
use Rattle.mixed_graph.proofs.PairMasks.{blank}
use Rattle.mixed_graph.proofs.Restricting.{same_graph}
use Rattle.adjustment.specs.Proper.{IsBackDoorGraph}
use Rattle.adjustment.proofs.FirstEdges.{is_back_door_graph}
use Rattle.adjustment.proofs.proper_paths.proper.back_door_graph.Goals as goal

uncut : (p q r : Bool) → q ≡ false → r ≡ false → (p && not (q || r)) ≡ p
uncut true q r e f = rw (e, f) refl
uncut false q r e f = refl

in_blank : (u v : ℕ) → has (get_or (replicate 64 0) u 0) v ≡ false
in_blank u v = ap (λ m. has m v) (blank 64 u) ∙ has-zero v

pub returns : goal.returns
returns c =
    let g = graph_of c.args.g.now in
    let x = has c.args.x.bits in
    let b = has c.proper_causal.result.bits in
    let e = c.cut_edges.ensures ∙ same_graph c.args.g.now.n _ _ _ _
    (λ u v. ap (λ p. g.arrow u v && not p) (c.rows_from.ensures u v))
    (λ u v. uncut (g.both u v) (has (get_or (replicate 64 0) u 0) v) (has (get_or (replicate 64 0) v 0) u) (in_blank u v) (in_blank v u)) in
    subst (IsBackDoorGraph g x (has c.args.y.bits)) (sym e)
    (is_back_door_graph g c.args.g.now.valid x (has c.args.y.bits) c.requires.x b c.proper_causal.ensures)
