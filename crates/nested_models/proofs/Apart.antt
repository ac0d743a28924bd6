-- The model whose arrows out of x carry two values: it fits the graph, and follows it without these arrows.
use Rattle.std.proofs.Common.{ℕ, ◌≡◌, ◌<◌, Bool, true, false, cond, not, refl, ◌&&◌}
use Rattle.std.proofs.lemmas.Bool.{and_from, not_from_false}
use Rattle.mixed_graph.specs.Vocabulary.{MixedGraph}
use Rattle.do_rules.specs.Vocabulary.{cut_out}
use Rattle.finite_models.specs.Vocabulary.{FiniteModel, Fits, IsAssignment}
use Rattle.finite_models.proofs.Following.{Follows}
use Rattle.nested_models.specs.Nested.{held_apart}

module _ (g : MixedGraph) (w : FiniteModel) (x k : ℕ → Bool) (s t : ℕ → ℕ) (hs : IsAssignment w.vertices w.size s) (ht : IsAssignment w.vertices w.size t) where
  -- what the arrow from p into v carries where p has the value n
  abbrev pub carried : (v p n : ℕ) → ℕ
  carried v p n = cond (x p) (cond (k v) (t p) (s p)) n

  low : (v p : ℕ) → p < w.vertices → (n : ℕ) → n < w.size p → carried v p n < w.size p
  low v p pl n lt = go (x p) (k v)
    where
      go : (b c : Bool) → cond b (cond c (t p) (s p)) n < w.size p
      go true true = ht p pl
      go true false = hs p pl
      go false c = lt

  pub follows_apart : Follows g w → Follows (cut_out g x) (held_apart w x k s t)
  follows_apart follows = record {
    vertices = follows.vertices;
    joined = follows.joined;
    reads = λ v il a b u u' hp hc. follows.reads v il (λ p. carried v p (a p)) (λ p. carried v p (b p)) u u' (λ p e. mixed v a b p e hp (x p) refl) hc;
    below = λ v il a u ha hu. follows.below v il (λ p. carried v p (a p)) u (λ p pl. low v p pl (a p) (ha p pl)) hu;
    positive_size = follows.positive_size;
  }
    where
      mixed : (v : ℕ) (a b : ℕ → ℕ) (p : ℕ) → g.arrow p v ≡ true → ((p : ℕ) → (g.arrow p v && not (x p)) ≡ true → a p ≡ b p) → (c : Bool) → x p ≡ c
          → carried v p (a p) ≡ carried v p (b p)
      mixed v a b p e hp true q = rw q refl
      mixed v a b p e hp false q = rw q (hp p (and_from (g.arrow p v) (not (x p)) e (not_from_false (x p) q)))

  pub apart_fits : Fits g w → Fits g (held_apart w x k s t)
  apart_fits fit = record {
    vertices = fit.vertices;
    positive_size = fit.positive_size;
    positive_weight = fit.positive_weight;
    some_child = fit.some_child;
    child_below = fit.child_below;
    joined = fit.joined;
    reads = λ v il a b u u' hp hc. fit.reads v il (λ p. carried v p (a p)) (λ p. carried v p (b p)) u u' (λ p e. same v p (a p) (b p) (hp p e) (x p)) hc;
    below = λ v il a u ha hu. fit.below v il (λ p. carried v p (a p)) u (λ p pl. low v p pl (a p) (ha p pl)) hu;
  }
    where
      same : (v p m n : ℕ) → m ≡ n → (c : Bool) → cond c (cond (k v) (t p) (s p)) m ≡ cond c (cond (k v) (t p) (s p)) n
      same v p m n e true = refl
      same v p m n e false = e
