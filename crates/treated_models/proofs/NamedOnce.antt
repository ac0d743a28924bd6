-- Formulas over names and primed names have one value in models that agree on what is observed.
use Rattle.std.proofs.Common.{ℕ, zero, suc, ◌+◌, ◌-◌, ◌*◌, ◌≡◌, ◌<◌, ◌≤◌, Bool, true, false, cond, refl, sym, ap, ◌∙◌, ◌||◌, ◌&&◌, subst, arith, nat_lt}
use Rattle.std.proofs.Common.{mul-pos}
use Rattle.std.proofs.Common.{List, [], ◌∷◌, length, get_or, ltb-true}
use Rattle.std.proofs.lemmas.Bool.{lt-ltb}
use Rattle.mixed_graph.specs.Vocabulary.{has, members_below, MixedGraph, IsMixedGraph}
use Rattle.mixed_graph.proofs.MemberLists.{AreMembers, members-are}
use Rattle.finite_models.specs.Vocabulary.{FiniteModel, Fits, IsAssignment, IsPositiveModel, event_weight, total}
use Rattle.finite_models.proofs.Following.{follows_of}
use Rattle.finite_models.proofs.Positive.{positive_weight}
use Rattle.finite_models.proofs.Weights.{weight_of-none}
use Rattle.prob_expr.specs.Tree.{Tree, prob, sum, product, quotient, named, tree}
use Rattle.prob_expr.specs.Vocabulary.{Trees, no_trees}
use Rattle.prob_expr.proofs.Alike.{Events, Asks, AskEach, AllAsk, formula_alike}
use Rattle.prob_expr.proofs.Allowed.{events_under, in_second}
use Rattle.treated_models.specs.NamedOnce.{IsSingle, NamesOnce, EachNamesOnce, AllNameOnce, ObservedFixesNamed}
use Rattle.treated_models.specs.Primes.{name_count, vertex_of, as_observed, plain_in, primed_in, with_primes}
use Rattle.treated_models.specs.Treated.{joined}
use Rattle.treated_models.proofs.Chain.{total_positive}
use Rattle.treated_models.proofs.Primes.{plain_within, observed_within, observed_weight}

-- ---- names stand for vertices
entry_low : (s : ℕ → Bool) (n : ℕ) (vs : List ℕ) (i : ℕ) → AreMembers s n vs → i < length vs → get_or vs i 0 < n
entry_low s n [] i are lt = absurd (omega (arith, lt))
entry_low s n (v ∷ vs) zero are lt = are.0
entry_low s n (v ∷ vs) (suc i) are lt = entry_low s n vs i are.3 (omega (arith, lt))

pub vertex_low : (n x k : ℕ) → k < name_count n x → vertex_of n x k < n
vertex_low n x k lt = go (nat_lt k n) refl
  where
    go : (b : Bool) → nat_lt k n ≡ b → cond b k (get_or (members_below (has x) n) (k - n) 0) < n
    go true e = ltb-true k n e
    go false e =
        let ge : n ≤ k = (let no : k < n → ⊥ = λ l. absurd (let t : nat_lt k n ≡ true = lt-ltb k n l in grind (arith, t, e)) in omega (arith, no)) in
        entry_low (has x) n (members_below (has x) n) (k - n) (members-are (has x) n) (omega (arith, lt, ge))

-- values of names in one model are so in another of the same sizes
module _ (m₁ m₂ : FiniteModel) (same : m₁.vertices ≡ m₂.vertices) (alike : (v : ℕ) → v < m₁.vertices → m₁.size v ≡ m₂.size v) (x : ℕ) where
  pub name_sizes : (k : ℕ) → k < name_count m₁.vertices x → m₁.size (vertex_of m₁.vertices x k) ≡ m₂.size (vertex_of m₂.vertices x k)
  name_sizes k lt = alike (vertex_of m₁.vertices x k) (vertex_low m₁.vertices x k lt) ∙ ap (λ n. m₂.size (vertex_of n x k)) same

  pub names_in_second : (c : ℕ → ℕ) → IsAssignment (name_count m₁.vertices x) (λ k. m₁.size (vertex_of m₁.vertices x k)) c
      → IsAssignment (name_count m₂.vertices x) (λ k. m₂.size (vertex_of m₂.vertices x k)) c
  names_in_second c hc k lt =
      let l : k < name_count m₁.vertices x = subst (λ n. k < name_count n x) (sym same) lt in
      subst (λ n. c k < n) (name_sizes k l) (hc k l)

-- ---- what such formulas ask for
abbrev pub Once : (n x : ℕ) → Events
Once n x b a = (b ≡ 0) × IsSingle n x a

given_single : (n x a c : ℕ) → IsSingle n x (λ v. has a v || has c v) → IsSingle n x (has c)
given_single n x a c single v e = less (has x v) (has a k) (has c k) (single v (more (nat_lt v n) (has a v) (has c v) e))
  where
    k : ℕ
    k = n + length (members_below (has x) v)

    more : (l p q : Bool) → (l && q) ≡ true → (l && (p || q)) ≡ true
    more l p q h = grind (arith, h)

    less : (i p q : Bool) → (i && (p || q)) ≡ false → (i && q) ≡ false
    less i p q h = grind (arith, h)

module _ (n x : ℕ) where
  mutual
    pub asks_once : (e : Tree) → NamesOnce n x e → Asks (Once n x) e
    asks_once (prob a b c) h = (h, (h.0, given_single n x a c h.1))
    asks_once (sum u e) h = asks_once e h
    asks_once (product ts) h = ask_once ts h
    asks_once (quotient p q) h = (asks_once p h.0, asks_once q h.1)
    asks_once (named k) h = tt

    ask_once : (ts : Trees) → EachNamesOnce n x ts → AskEach (Once n x) ts
    ask_once no_trees h = tt
    ask_once (tree t ts) h = (asks_once t h.0, ask_once ts h.1)

  pub all_ask_once : (ds : List Tree) → AllNameOnce n x ds → AllAsk (Once n x) ds
  all_ask_once [] h = tt
  all_ask_once (d ∷ ds) h = (asks_once d h.0, all_ask_once ds h.1)

-- ---- their weights
module _ (g : MixedGraph) (ok : IsMixedGraph g) (m : FiniteModel) (fit : Fits g m) (x : ℕ) (a : ℕ → Bool) (single : IsSingle m.vertices x a)
    (s : ℕ → ℕ) (within : IsAssignment (with_primes m x).vertices (with_primes m x).size s) where
  abbrev event : ℕ → Bool
  event v = plain_in m.vertices a v || primed_in m.vertices x a v

  abbrev point : ℕ → ℕ
  point = joined (primed_in m.vertices x a) s (as_observed m.vertices x s)

  point_within : IsAssignment m.vertices m.size point
  point_within v il = go (primed_in m.vertices x a v)
    where
      go : (c : Bool) → cond c (as_observed m.vertices x s v) (s v) < m.size v
      go true = observed_within m.vertices x m.size s within v il
      go false = plain_within m.vertices x m.size s within v il

  -- the weight of such a set of names is that of an observed event
  pub weight_seen : (b : ℕ) → b ≡ 0 → (with_primes m x).weight (has b) a s ≡ event_weight m event point
  weight_seen b e = ap (λ k. (with_primes m x).weight (has k) a s) e
      ∙ observed_weight g ok m fit x a single s (plain_within m.vertices x m.size s within)

  pub weight_some : IsPositiveModel m → 1 ≤ event_weight m event point
  weight_some positive =
      let e = positive_weight g m ok (follows_of g m fit) positive (λ v. false) event point point_within in
      let is = weight_of-none m (λ v. false) event point (λ v. refl) in
      omega (arith, e, is)

pub observed_fixes_named : ObservedFixesNamed
observed_fixes_named g ok m₁ m₂ f₁ f₂ p₁ p₂ agreed x f once s within =
    formula_alike (with_primes m₁ x) (with_primes m₂ x) (ap (λ n. name_count n x) agreed.vertices)
    (name_sizes m₁ m₂ agreed.vertices agreed.sizes x)
    (λ k lt. f₁.positive_size (vertex_of m₁.vertices x k) (vertex_low m₁.vertices x k lt)) (total m₁) (total m₂)
    (mul-pos (total_positive g ok m₁ f₁ p₁ s (plain_within m₁.vertices x m₁.size s within))
    (total_positive g ok m₂ f₂ p₂ s (in_second m₁ m₂ agreed.vertices agreed.sizes s (plain_within m₁.vertices x m₁.size s within))))
    (Once m₁.vertices x)
    (λ b a k c hc. let e = weight_seen g ok m₁ f₁ x a k.1 c hc b k.0 in let i = weight_some g ok m₁ f₁ x a k.1 c hc p₁ in omega (arith, e, i))
    (λ b a k c hc. alike b a k c hc) f
    (all_ask_once m₁.vertices x f.defs (subst (λ n. AllNameOnce n x f.defs) (sym f₁.vertices) once.0))
    (asks_once m₁.vertices x f.main (subst (λ n. NamesOnce n x f.main) (sym f₁.vertices) once.1)) s within
  where
    alike : (b : ℕ) (a : ℕ → Bool) → Once m₁.vertices x b a → (c : ℕ → ℕ) → IsAssignment (with_primes m₁ x).vertices (with_primes m₁ x).size c
        → (with_primes m₁ x).weight (has b) a c * total m₂ ≡ (with_primes m₂ x).weight (has b) a c * total m₁
    alike b a k c hc =
        ap (λ w. w * total m₂) (weight_seen g ok m₁ f₁ x a k.1 c hc b k.0 ∙ sym (weight_of-none m₁ (λ v. false) (event g ok m₁ f₁ x a k.1 c hc)
        (point g ok m₁ f₁ x a k.1 c hc) (λ v. refl)))
        ∙ events_under g ok m₁ m₂ f₁ f₂ (λ v. false) agreed (event g ok m₁ f₁ x a k.1 c hc) (point g ok m₁ f₁ x a k.1 c hc)
        (point_within g ok m₁ f₁ x a k.1 c hc)
        ∙ ap (λ w. w * total m₁) (weight_of-none m₂ (λ v. false) (event g ok m₁ f₁ x a k.1 c hc) (point g ok m₁ f₁ x a k.1 c hc) (λ v. refl)
        ∙ ap (λ n. event_weight m₂ (λ v. plain_in n a v || primed_in n x a v) (joined (primed_in n x a) c (as_observed n x c))) agreed.vertices
        ∙ sym (weight_seen g ok m₂ f₂ x a (subst (λ n. IsSingle n x a) agreed.vertices k.1) c
        (names_in_second m₁ m₂ agreed.vertices agreed.sizes x c hc) b k.0))
