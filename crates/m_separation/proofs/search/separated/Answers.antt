use Rattle.std.proofs.Common.{◌≡◌, Bool, true, false, refl, ◌∙◌, arith}
use Rattle.std.proofs.lemmas.Bool.{and_from}
use Rattle.std.specs.Bool.{OnTrue, OnFalse}
use Rattle.mixed_graph.specs.Vocabulary.{has, graph_of}
use Rattle.mixed_graph.proofs.Masks.{has-zero, some_in_meet}
use Rattle.m_separation.specs.Walks.{last, IsSeparated}
use Rattle.m_separation.proofs.Going.{reached_from_open, open_from_reached}
use Rattle.m_separation.proofs.search.separated.Goals as goal

on_true : (b : Bool) (P : Type 0) → (b ≡ true → P) → OnTrue b P
on_true true P f = f refl
on_true false P f = tt

on_false : (b : Bool) (P : Type 0) → (b ≡ false → P) → OnFalse b P
on_false true P f = tt
on_false false P f = f refl

pub returns-clause-apart : goal.returns-clause-apart
returns-clause-apart c = on_true c.is_empty.result (IsSeparated (graph_of c.args.g.now) (has c.args.x.bits) (has c.args.y.bits) (has c.args.w.bits)) (λ t v r o.
    let i : has c.intersection.result.bits (last v r) ≡ true = c.intersection.ensures.members (last v r)
    ∙ and_from _ _ ((c.reach.ensures.reached (last v r)).1 (reached_from_open (graph_of c.args.g.now) (has c.args.x.bits) (has c.args.y.bits)
    (has c.args.w.bits) v r o)) o.ends in
    let z : has c.intersection.result.bits (last v r) ≡ false = rw (c.is_empty.ensures.none.0 t) (has-zero (last v r)) in
    absurd (cc))

pub returns-clause-open : goal.returns-clause-open
returns-clause-open c = on_false _ _ (λ f.
    let s = some_in_meet c.intersection.result.bits c.reach.result.bits c.args.y.bits c.intersection.ensures.members
    (λ z. absurd (let t = c.is_empty.ensures.none.1 z in cc)) (omega arith) in
    open_from_reached (graph_of c.args.g.now) (has c.args.x.bits) (has c.args.y.bits) (has c.args.w.bits) s.0 ((c.reach.ensures.reached s.0).0 s.1) s.2)
