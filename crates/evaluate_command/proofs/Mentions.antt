-- The vertices that a formula names.
use Rattle.std.proofs.Common.{◌≡◌, ℕ, inl, inr, Bool, true, List, [], ◌∷◌, sym, ◌∙◌}
use Rattle.std.proofs.lemmas.Bool.{or_cases, or_left, or_right, false≢true}
use Rattle.mixed_graph.specs.Vocabulary.{has, union}
use Rattle.prob_expr.specs.Tree.{Tree, prob, sum, product, quotient, named, tree}
use Rattle.prob_expr.specs.Vocabulary.{Trees, no_trees, PlainFormula, mentioned_in, mentioned_in_any, mentioned_in_defs}
use Rattle.mixed_graph.proofs.MaskLaws.{has_join, has_none}
use Rattle.identification_theory.specs.Vocabulary.{NamesOnly, EachNamesOnly, AllNameOnly, FormulaNamesOnly}
use Rattle.count_eval.specs.Vocabulary.{IsUsed, AreUsed, AllUsed}
use Rattle.prob_expr.specs.Mentioned.{mentioned}

-- ---- members of either set

pub in_left : (a b v : ℕ) → has a v ≡ true → has (union a b) v ≡ true
in_left a b v h = has_join a b v ∙ or_left (has a v) (has b v) h

pub in_right : (a b v : ℕ) → has b v ≡ true → has (union a b) v ≡ true
in_right a b v h = has_join a b v ∙ or_right (has a v) (has b v) h

pub in_either : (P : Type 0) (a b v : ℕ) → (has a v ≡ true → P) → (has b v ≡ true → P) → has (union a b) v ≡ true → P
in_either P a b v f g h = elim (or_cases (has a v) (has b v) (sym (has_join a b v) ∙ h)) [ inl i ↦ f i | inr i ↦ g i ]

pub in_none : (P : Type 0) (v : ℕ) → has 0 v ≡ true → P
in_none P v h = absurd (false≢true (sym (has_none v) ∙ h))

-- ---- what holds of the vertices that a formula names

mutual
  only_tree : (P : ℕ → Type 0) (t : Tree) → NamesOnly P t → (v : ℕ) → has (mentioned_in t) v ≡ true → P v
  only_tree P (prob a b c) k v h = in_either (P v) (union a b) c v (in_either (P v) a b v (λ i. k.0 v i) (λ i. k.1 v i)) (λ i. k.2 v i) h
  only_tree P (sum u e) k v h = in_either (P v) u (mentioned_in e) v (λ i. k.0 v i) (λ i. only_tree P e k.1 v i) h
  only_tree P (product ts) k v h = only_trees P ts k v h
  only_tree P (quotient p q) k v h = in_either (P v) (mentioned_in p) (mentioned_in q) v (λ i. only_tree P p k.0 v i) (λ i. only_tree P q k.1 v i) h
  only_tree P (named j) k v h = in_none (P v) v h

  only_trees : (P : ℕ → Type 0) (ts : Trees) → EachNamesOnly P ts → (v : ℕ) → has (mentioned_in_any ts) v ≡ true → P v
  only_trees P no_trees k v h = in_none (P v) v h
  only_trees P (tree t ts) k v h = in_either (P v) (mentioned_in t) (mentioned_in_any ts) v (λ i. only_tree P t k.0 v i) (λ i. only_trees P ts k.1 v i) h

only_defs : (P : ℕ → Type 0) (ds : List Tree) → AllNameOnly P ds → (v : ℕ) → has (mentioned_in_defs ds) v ≡ true → P v
only_defs P [] k v h = in_none (P v) v h
only_defs P (d ∷ ds) k v h = in_either (P v) (mentioned_in d) (mentioned_in_defs ds) v (λ i. only_tree P d k.0 v i) (λ i. only_defs P ds k.1 v i) h

-- what holds of all vertices that a formula names holds of each mentioned one
pub mentioned_only : (P : ℕ → Type 0) (f : PlainFormula) → FormulaNamesOnly P f → (v : ℕ) → has (mentioned f) v ≡ true → P v
mentioned_only P f k v h = in_either (P v) (mentioned_in_defs f.defs) (mentioned_in f.main) v (λ i. only_defs P f.defs k.0 v i)
    (λ i. only_tree P f.main k.1 v i) h

-- ---- where the mentioned vertices are used

mutual
  pub used_tree : (used : ℕ → Bool) (t : Tree) → ((v : ℕ) → has (mentioned_in t) v ≡ true → used v ≡ true) → IsUsed used t
  used_tree used (prob a b c) k = (λ v h. k v (in_left (union a b) c v (in_left a b v h)), λ v h. k v (in_right (union a b) c v h))
  used_tree used (sum u e) k = (λ v h. k v (in_left u (mentioned_in e) v h), used_tree used e (λ v h. k v (in_right u (mentioned_in e) v h)))
  used_tree used (product ts) k = used_trees used ts k
  used_tree used (quotient p q) k = (
    used_tree used p (λ v h. k v (in_left (mentioned_in p) (mentioned_in q) v h)),
    used_tree used q (λ v h. k v (in_right (mentioned_in p) (mentioned_in q) v h)),
  )
  used_tree used (named j) k = tt

  used_trees : (used : ℕ → Bool) (ts : Trees) → ((v : ℕ) → has (mentioned_in_any ts) v ≡ true → used v ≡ true) → AreUsed used ts
  used_trees used no_trees k = tt
  used_trees used (tree t ts) k = (
    used_tree used t (λ v h. k v (in_left (mentioned_in t) (mentioned_in_any ts) v h)),
    used_trees used ts (λ v h. k v (in_right (mentioned_in t) (mentioned_in_any ts) v h)),
  )

pub used_defs : (used : ℕ → Bool) (ds : List Tree) → ((v : ℕ) → has (mentioned_in_defs ds) v ≡ true → used v ≡ true) → AllUsed used ds
used_defs used [] k = tt
used_defs used (d ∷ ds) k = (
  used_tree used d (λ v h. k v (in_left (mentioned_in d) (mentioned_in_defs ds) v h)),
  used_defs used ds (λ v h. k v (in_right (mentioned_in d) (mentioned_in_defs ds) v h)),
)
