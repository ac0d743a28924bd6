-- Interventions and held arrows: the altered models follows the cut graphs.
use Rattle.std.proofs.Common.{ℕ, ◌≡◌, ◌<◌, Bool, true, false, cond, not, refl, ◌&&◌}
use Rattle.std.proofs.lemmas.Bool.{and_from, not_from_false}
use Rattle.mixed_graph.specs.Vocabulary.{MixedGraph}
use Rattle.do_rules.specs.Cuts.{cut_into, cut_out}
use Rattle.finite_models.specs.Vocabulary.{FiniteModel, IsAssignment, intervene}
use Rattle.finite_models.proofs.Bools.{and_first, and_second}
use Rattle.finite_models.proofs.Following.{Follows}
use Rattle.finite_models.proofs.Solutions.{IsRanked}

-- the model in which each arrow out of z carries the value of s
abbrev pub hold : FiniteModel → (ℕ → Bool) → (ℕ → ℕ) → FiniteModel
hold m z s = record m { mechanism = λ v t u. m.mechanism v (λ p. cond (z p) (s p) (t p)) u }

-- a rank that rises along the arrows still does so without the edges into x
pub ranked_into : (g : MixedGraph) (x : ℕ → Bool) (rank : ℕ → ℕ) → IsRanked g rank → IsRanked (cut_into g x) rank
ranked_into g x rank k = record {
  tail_below = λ u v e. k.tail_below u v (and_first (g.arrow u v) (not (x v)) e);
  rises = λ u v e. k.rises u v (and_first (g.arrow u v) (not (x v)) e);
  low = k.low;
}

pub ranked_out : (g : MixedGraph) (z : ℕ → Bool) (rank : ℕ → ℕ) → IsRanked g rank → IsRanked (cut_out g z) rank
ranked_out g z rank k = record {
  tail_below = λ u v e. k.tail_below u v (and_first (g.arrow u v) (not (z u)) e);
  rises = λ u v e. k.rises u v (and_first (g.arrow u v) (not (z u)) e);
  low = k.low;
}

-- ---- the altered models follows them
pub follows_into : (g : MixedGraph) (m : FiniteModel) (b : ℕ → Bool) (s : ℕ → ℕ) → IsAssignment m.vertices m.size s → Follows g m
    → Follows (cut_into g b) (intervene m b s)
follows_into g m b s within follows = record {
  vertices = follows.vertices;
  joined = λ j u v jl e f ne.
      and_from (g.both u v) (not (b u) && not (b v)) (follows.joined j u v jl (and_first (m.serves j u) (not (b u)) e)
      (and_first (m.serves j v) (not (b v)) f) ne)
      (and_from (not (b u)) (not (b v)) (and_second (m.serves j u) (not (b u)) e) (and_second (m.serves j v) (not (b v)) f));
  reads = λ v il x y u w hp hc. reads v il x y u w (b v) refl hp hc;
  below = λ v il x u hx hu. below v il (b v) (m.mechanism v x u) (follows.below v il x u hx hu);
  positive_size = follows.positive_size;
}
  where
    reads : (v : ℕ) → v < m.vertices → (x y u w : ℕ → ℕ) (c : Bool) → b v ≡ c → ((p : ℕ) → (g.arrow p v && not (b v)) ≡ true → x p ≡ y p)
        → ((j : ℕ) → j < m.causes → (m.serves j v && not (b v)) ≡ true → u j ≡ w j) → cond (b v) (s v) (m.mechanism v x u)
        ≡ cond (b v) (s v) (m.mechanism v y w)
    reads v il x y u w true e hp hc = rw e refl
    reads v il x y u w false e hp hc = rw e (follows.reads v il x y u w (λ p a. hp p (and_from (g.arrow p v) (not (b v)) a (not_from_false (b v) e)))
        (λ j jl a. hc j jl (and_from (m.serves j v) (not (b v)) a (not_from_false (b v) e))))

    below : (v : ℕ) → v < m.vertices → (c : Bool) (x : ℕ) → x < m.size v → cond c (s v) x < m.size v
    below v il true x lt = within v il
    below v il false x lt = lt

pub follows_hold : (g : MixedGraph) (m : FiniteModel) (z : ℕ → Bool) (s : ℕ → ℕ) → IsAssignment m.vertices m.size s → Follows g m
    → Follows (cut_out g z) (hold m z s)
follows_hold g m z s within follows = record {
  vertices = follows.vertices;
  joined = follows.joined;
  reads = λ v il x y u w hp hc. follows.reads v il (λ p. cond (z p) (s p) (x p)) (λ p. cond (z p) (s p) (y p)) u w (λ p a. mixed v x y p a hp (z p) refl) hc;
  below = λ v il x u hx hu. follows.below v il (λ p. cond (z p) (s p) (x p)) u (λ p pl. low p pl (z p) (x p) (hx p pl)) hu;
  positive_size = follows.positive_size;
}
  where
    mixed : (v : ℕ) (x y : ℕ → ℕ) (p : ℕ) → g.arrow p v ≡ true → ((p : ℕ) → (g.arrow p v && not (z p)) ≡ true → x p ≡ y p) → (c : Bool) → z p ≡ c
        → cond (z p) (s p) (x p) ≡ cond (z p) (s p) (y p)
    mixed v x y p a hp true e = rw e refl
    mixed v x y p a hp false e = rw e (hp p (and_from (g.arrow p v) (not (z p)) a (not_from_false (z p) e)))

    low : (p : ℕ) → p < m.vertices → (c : Bool) (x : ℕ) → x < m.size p → cond c (s p) x < m.size p
    low p pl true x lt = within p pl
    low p pl false x lt = lt
