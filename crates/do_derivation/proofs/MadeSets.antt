-- The set of a move that is made lies in the graph.
use Rattle.std.proofs.Common.{ℕ, ◌≡◌, ◌<◌, Bool, true, false, not, ◌&&◌, List, refl}
use Rattle.mixed_graph.specs.Vocabulary.{has, MixedGraph, is_empty, is_apart, is_inside, is_below}
use Rattle.finite_models.proofs.Bools.{and_first, and_second}
use Rattle.mixed_graph.proofs.MaskLaws.{below_from, inside_has}
use Rattle.prob_expr.specs.Tree.{Tree, prob, sum, product, quotient, named}
use Rattle.do_derivation.specs.Plans.{Move}
use Rattle.do_derivation.specs.Steps.{IsMade}
use Rattle.do_derivation.specs.Table.{Row, row, on_term, if_so, is_new, is_part}
use Rattle.do_derivation.specs.declared.faults.StepFault.{StepFault}
use Rattle.do_derivation.specs.declared.moves.SetMove.{SetMove}
use Rattle.do_derivation.specs.declared.moves.SetMove.TheVariants as set_move
use Rattle.do_derivation.proofs.TermSets.{IsTerm}
use Rattle.do_derivation.proofs.TreeTerms.{AreTerms}

-- what is made where a test holds is made only where it does
pub so : (g : MixedGraph) (b : Bool) (r : Row) (f : StepFault) (e : Tree) → IsMade g (if_so b r f) e → b ≡ true
so g true r f e h = refl
so g false r f e h = absurd h

-- what is made of a term alone
pub on_a_term : (g : MixedGraph) (f : ℕ → ℕ → ℕ → Row) (P : Type 0) (e e' : Tree) → AreTerms g.vertices e
    → ((a b c : ℕ) → IsTerm g.vertices a b c → IsMade g (f a b c) e' → P) → IsMade g (on_term f e) e' → P
on_a_term g f P (prob a b c) e' t k h = k a b c t.0 h
on_a_term g f P (sum u e) e' t k h = absurd h
on_a_term g f P (product ts) e' t k h = absurd h
on_a_term g f P (quotient p q) e' t k h = absurd h
on_a_term g f P (named i) e' t k h = absurd h

new_below : (n z a b c : ℕ) → is_new n z a b c ≡ true → is_below n z ≡ true
new_below n z a b c e =
    and_first (is_below n z) (is_apart z a && (is_apart z b && is_apart z c))
    (and_second (not (is_empty z)) (is_below n z && (is_apart z a && (is_apart z b && is_apart z c))) e)

part_below : (n z b : ℕ) → is_part z b ≡ true → ((v : ℕ) → has b v ≡ true → v < n) → is_below n z ≡ true
part_below n z b e low = below_from n z (λ v h. low v (inside_has z b v (and_second (not (is_empty z)) (is_inside z b) e) h))

-- a move with a set makes something only where its set lies in the graph
pub set_below : (g : MixedGraph) (lemmas : List ℕ) (kind : SetMove) (z : ℕ) (e e' : Tree) → AreTerms g.vertices e
    → IsMade g (row g.vertices lemmas (Move.WithSet kind z) e) e' → is_below g.vertices z ≡ true
set_below g lemmas set_move.Rule1In z e e' t h = on_a_term g _ (is_below g.vertices z ≡ true) e e' t
    (λ a b c k made. new_below g.vertices z a b c (so g (is_new g.vertices z a b c) _ _ e' made)) h
set_below g lemmas set_move.Rule1Out z e e' t h = on_a_term g _ (is_below g.vertices z ≡ true) e e' t
    (λ a b c k made. part_below g.vertices z c (so g (is_part z c) _ _ e' made) k.given_below) h
set_below g lemmas set_move.Rule2See z e e' t h = on_a_term g _ (is_below g.vertices z ≡ true) e e' t
    (λ a b c k made. part_below g.vertices z b (so g (is_part z b) _ _ e' made) k.doing_below) h
set_below g lemmas set_move.Rule2Do z e e' t h = on_a_term g _ (is_below g.vertices z ≡ true) e e' t
    (λ a b c k made. part_below g.vertices z c (so g (is_part z c) _ _ e' made) k.given_below) h
set_below g lemmas set_move.Rule3In z e e' t h = on_a_term g _ (is_below g.vertices z ≡ true) e e' t
    (λ a b c k made. new_below g.vertices z a b c (so g (is_new g.vertices z a b c) _ _ e' made)) h
set_below g lemmas set_move.Rule3Out z e e' t h = on_a_term g _ (is_below g.vertices z ≡ true) e e' t
    (λ a b c k made. part_below g.vertices z b (so g (is_part z b) _ _ e' made) k.doing_below) h
set_below g lemmas set_move.Widen z e e' t h = on_a_term g _ (is_below g.vertices z ≡ true) e e' t
    (λ a b c k made. new_below g.vertices z a b c (so g (is_new g.vertices z a b c) _ _ e' made)) h
