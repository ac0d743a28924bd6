-- The solution of a world.
use Rattle.std.proofs.Common.{ℕ, zero, suc, ◌≡◌, ◌<◌, Bool, true, cond, eqb, refl, sym, ◌∙◌, arith, eqb-true, eq-eqb}
use Rattle.mixed_graph.specs.Vocabulary.{MixedGraph}
use Rattle.finite_models.specs.Sums.{all_below}
use Rattle.finite_models.specs.Models.{FiniteModel, IsAssignment, rounds, solution, IsSolution, agree}
use Rattle.finite_models.proofs.Bools.{same_truth}
use Rattle.finite_models.proofs.Following.{Follows}
use Rattle.finite_models.proofs.Indicators.{all_below_each, all_below_from, cond_gives, cond_from}

-- an order of the vertices along the arrows
pub record IsRanked (g : MixedGraph) (rank : ℕ → ℕ) : Type 0 where
  pub tail_below : (u v : ℕ) → g.arrow u v ≡ true → u < g.vertices
  pub rises : (u v : ℕ) → g.arrow u v ≡ true → rank u < rank v
  pub low : (v : ℕ) → v < g.vertices → rank v < g.vertices

-- with each vertex its parents are there
abbrev pub IsClosed : MixedGraph → (ℕ → Bool) → Type 0
IsClosed g S = (p v : ℕ) → g.arrow p v ≡ true → S v ≡ true → S p ≡ true

-- on S the values s are those of the mechanisms at s itself
abbrev pub obeys : FiniteModel → (ℕ → Bool) → (ℕ → ℕ) → (ℕ → ℕ) → Bool
obeys m S u s = all_below m.vertices (λ v. cond (S v) (eqb (s v) (m.mechanism v s u)) true)

module _ (g : MixedGraph) (m : FiniteModel) (follows : Follows g m) where
  rounds_within : (u : ℕ → ℕ) (k : ℕ) → IsAssignment m.causes m.values u → IsAssignment m.vertices m.size (rounds m k u)
  rounds_within u zero h v b = follows.positive_size v b
  rounds_within u (suc k) h v b = follows.below v b (rounds m k u) u (rounds_within u k h) h

  -- the values of a world's solution are below the sizes
  pub solution_within : (u : ℕ → ℕ) → IsAssignment m.causes m.values u → IsAssignment m.vertices m.size (solution m u)
  solution_within u h = rounds_within u m.vertices h

module _ (g : MixedGraph) (m : FiniteModel) (rank : ℕ → ℕ) (ranked : IsRanked g rank) (follows : Follows g m) where
  parent_below : (p v : ℕ) → g.arrow p v ≡ true → p < m.vertices
  parent_below p v e = rw follows.vertices (ranked.tail_below p v e)

  rounds_stable : (u : ℕ → ℕ) (k v : ℕ) → v < m.vertices → rank v < k → (j : ℕ) → rank v < j → rounds m k u v ≡ rounds m j u v
  rounds_stable u zero v b lt j lt' = absurd (omega arith)
  rounds_stable u (suc k) v b lt zero lt' = absurd (omega arith)
  rounds_stable u (suc k) v b lt (suc j) lt' =
      follows.reads v b (rounds m k u) (rounds m j u) u u
      (λ p e. let r = ranked.rises p v e in rounds_stable u k p (parent_below p v e) (omega arith) j (omega arith))
      (λ i il s. refl)

  -- the values after as many rounds as there are vertices are a solution
  pub solution_is : (u : ℕ → ℕ) → IsSolution m u (solution m u)
  solution_is u v b = let r : rank v < m.vertices = rw follows.vertices (ranked.low v (rw (sym follows.vertices) b)) in
      rounds_stable u m.vertices v b r (suc m.vertices) (omega arith)

  solved : (S : ℕ → Bool) → IsClosed g S → (u s : ℕ → ℕ) → ((v : ℕ) → v < m.vertices → S v ≡ true → s v ≡ m.mechanism v s u)
      → (k v : ℕ) → v < m.vertices → rank v < k → S v ≡ true → solution m u v ≡ s v
  solved S closed u s h zero v b lt e = absurd (omega arith)
  solved S closed u s h (suc k) v b lt e =
      solution_is u v b
      ∙ follows.reads v b (solution m u) s u u
      (λ p a. let r = ranked.rises p v a in solved S closed u s h k p (parent_below p v a) (omega arith) (closed p v a e))
      (λ i il q. refl)
      ∙ sym (h v b e)

  -- the solution agrees with s on a set that is closed under parents exactly where s obeys the mechanisms there
  pub agree-obeys : (S : ℕ → Bool) → IsClosed g S → (u s : ℕ → ℕ) → agree m.vertices S (solution m u) s ≡ obeys m S u s
  agree-obeys S closed u s =
      same_truth (agree m.vertices S (solution m u) s) (obeys m S u s)
      (λ e. all_below_from m.vertices (λ v. cond (S v) (eqb (s v) (m.mechanism v s u)) true)
      (λ v b. cond_from (S v) (eqb (s v) (m.mechanism v s u)) (λ i. eq-eqb (s v) (m.mechanism v s u) (there e v b i))))
      (λ e. all_below_from m.vertices (λ v. cond (S v) (eqb (solution m u v) (s v)) true)
      (λ v b. cond_from (S v) (eqb (solution m u v) (s v)) (λ i. eq-eqb (solution m u v) (s v) (back e (suc (rank v)) v b (omega arith) i))))
    where
      at : agree m.vertices S (solution m u) s ≡ true → (v : ℕ) → v < m.vertices → S v ≡ true → solution m u v ≡ s v
      at e v b i = eqb-true (solution m u v) (s v) (cond_gives (S v) (eqb (solution m u v) (s v))
          (all_below_each m.vertices (λ v. cond (S v) (eqb (solution m u v) (s v)) true) e v b) i)

      there : agree m.vertices S (solution m u) s ≡ true → (v : ℕ) → v < m.vertices → S v ≡ true → s v ≡ m.mechanism v s u
      there e v b i = sym (at e v b i) ∙ solution_is u v b ∙ follows.reads v b (solution m u) s u u (λ p a. at e p (parent_below p v a) (closed p v a i))
          (λ j jl q. refl)

      back : obeys m S u s ≡ true → (k v : ℕ) → v < m.vertices → rank v < k → S v ≡ true → solution m u v ≡ s v
      back e = solved S closed u s (λ v b i. eqb-true (s v) (m.mechanism v s u)
          (cond_gives (S v) (eqb (s v) (m.mechanism v s u)) (all_below_each m.vertices (λ v. cond (S v) (eqb (s v) (m.mechanism v s u)) true) e v b) i))

  -- there is only one solution
  unique_at : (u s t : ℕ → ℕ) → IsSolution m u s → IsSolution m u t → (k v : ℕ) → v < m.vertices → rank v < k → s v ≡ t v
  unique_at u s t a b zero v il lt = absurd (omega arith)
  unique_at u s t a b (suc k) v il lt =
      a v il ∙ follows.reads v il s t u u (λ p e. let r = ranked.rises p v e in unique_at u s t a b k p (parent_below p v e) (omega arith)) (λ j jl q. refl)
      ∙ sym (b v il)

  -- two solutions of a world agree at each vertex
  pub unique : (u s t : ℕ → ℕ) → IsSolution m u s → IsSolution m u t → (v : ℕ) → v < m.vertices → s v ≡ t v
  unique u s t a b v il = unique_at u s t a b (suc (rank v)) v il (omega arith)

-- where x and s agree on a, each vertex of a has one value in both
pub agree_gives : (n : ℕ) (a : ℕ → Bool) (x s : ℕ → ℕ) → agree n a x s ≡ true → (v : ℕ) → v < n → a v ≡ true → x v ≡ s v
agree_gives n a x s e v il i = eqb-true (x v) (s v) (cond_gives (a v) (eqb (x v) (s v)) (all_below_each n (λ v. cond (a v) (eqb (x v) (s v)) true) e v il) i)

-- where each vertex of a has one value in x and s, they agree on a
pub agree_from : (n : ℕ) (a : ℕ → Bool) (x s : ℕ → ℕ) → ((v : ℕ) → v < n → a v ≡ true → x v ≡ s v) → agree n a x s ≡ true
agree_from n a x s h = all_below_from n (λ v. cond (a v) (eqb (x v) (s v)) true)
    (λ v il. cond_from (a v) (eqb (x v) (s v)) (λ i. eq-eqb (x v) (s v) (h v il i)))

-- x agrees with s on a exactly where y does on b, if each of the two agreements gives the other
pub agree_same : (n : ℕ) (a b : ℕ → Bool) (x y s : ℕ → ℕ)
    → (((v : ℕ) → v < n → a v ≡ true → x v ≡ s v) → ((v : ℕ) → v < n → b v ≡ true → y v ≡ s v))
    → (((v : ℕ) → v < n → b v ≡ true → y v ≡ s v) → ((v : ℕ) → v < n → a v ≡ true → x v ≡ s v)) → agree n a x s ≡ agree n b y s
agree_same n a b x y s f h =
    same_truth (agree n a x s) (agree n b y s) (λ e. agree_from n b y s (f (agree_gives n a x s e))) (λ e. agree_from n a x s (h (agree_gives n b y s e)))
