-- A recanting witness gives a pair of models: one coin serves it alone.
use Rattle.std.proofs.Common.{ℕ, ◌≡◌, ◌<◌, ◌||◌, Bool, true, false, refl, sym, ap, ◌∙◌, eqb, eqb-true}
use Rattle.mixed_graph.specs.Vocabulary.{MixedGraph}
use Rattle.finite_models.proofs.Bools.{not_both}
use Rattle.finite_models.proofs.SumLaws.{eqb-refl}
use Rattle.carrying_models.specs.Apart.{WitnessIsApart}
use Rattle.carrying_models.proofs.Core.{Coins}
use Rattle.carrying_models.proofs.Pair.{are_apart}

twice : (b : Bool) → b ≡ (b || b)
twice true = refl
twice false = refl

one_coin : (g : MixedGraph) (c : ℕ) → c < g.vertices → Coins g
one_coin g c cl = record {
  count = 1;
  serves = λ j v. eqb v c;
  one = λ j. c;
  other = λ j. c;
  two = λ j v jl. twice (eqb v c);
  some = λ j jl. (c, eqb-refl c);
  low = λ j v jl e. rw (eqb-true v c e) cl;
  joined = λ j u v jl e f ne. absurd (ne (eqb-true u c e ∙ sym (eqb-true v c f)));
}

pub witness_is_apart : WitnessIsApart
unfolding one_coin
witness_is_apart g ok x m y z c asked w =
    are_apart g ok x m y z asked (one_coin g c (ok.head_below w.parent c w.arrow)) w.parent w.from_x (λ v. eqb v c)
    (λ i e. ap (g.arrow w.parent) (eqb-true i c e) ∙ w.arrow) (λ v vl. refl) (ok.tail_below w.parent c w.arrow)
    (λ u past through before. not_both (eqb c c) (eqb-refl c) (sym (past c w.past) ∙ through c w.through))
