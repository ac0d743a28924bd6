-- A hidden vertex put back: it has a code of the values of its parents and of its causes, from which its children read what they read without it.
use Rattle.std.proofs.Common.{[], ℕ, zero, suc, ◌≡◌, ◌<◌, ◌≤◌, ◌+◌, ◌*◌, ◌/◌, ◌%◌, Bool, true, false, not, cond, ◌&&◌, ◌||◌, ◌==◌, ◌⊎◌, inl, inr}
use Rattle.std.proofs.Common.{refl, sym, ap, ap₂, ◌∙◌, arith, ne_eqb, eqb-true, eq-eqb}
use Rattle.std.proofs.lemmas.Bool.{cases_eq, or_cases, or_left, or_right}
use Rattle.mixed_graph.specs.Vocabulary.{MixedGraph, IsMixedGraph}
use Rattle.finite_models.specs.Vocabulary.{sum_below, radix_range, table_index, table_range, FiniteModel, Fits, IsAssignment, ServesTwo}
use Rattle.finite_models.proofs.Digits.{positive_range}
use Rattle.finite_models.proofs.TableLaws.{radix-congr, table_index-lt}
use Rattle.latent_projection.specs.Vocabulary.{through, without}
use Rattle.latent_projection.proofs.Treks.{clash, left_true, right_true}
use Rattle.hidden_models.specs.Digits.{digits}
use Rattle.hidden_models.proofs.DigitLaws.{digits-lt}

-- a cause with these two ends stays where it is
abbrev pub stays : MixedGraph → (a b : ℕ) → Bool
stays g a b = a == b || g.both a b

-- an end of a cause: k in place of a child of k, where the cause doesn't stay
abbrev pub moved : MixedGraph → ℕ → Bool → ℕ → ℕ
moved g k stay v = cond stay v (cond (g.arrow k v) k v)

module _ (g : MixedGraph) (k : ℕ) (m : FiniteModel) (two : ServesTwo m) where
  abbrev pub one_at : ℕ → ℕ
  one_at j = moved g k (stays g (two.one j) (two.other j)) (two.one j)

  abbrev pub other_at : ℕ → ℕ
  other_at j = moved g k (stays g (two.one j) (two.other j)) (two.other j)

  abbrev pub serves_at : ℕ → ℕ → Bool
  serves_at j v = v == one_at j || v == other_at j

  -- the code of the values of k's parents and causes, and how many codes there are
  abbrev pub code : (ℕ → ℕ) → (ℕ → ℕ) → ℕ
  code s u = table_index m.vertices m.causes (λ p. g.arrow p k) (λ j. serves_at j k) m.size m.values s u

  abbrev pub codes : ℕ
  codes = table_range m.vertices m.causes (λ p. g.arrow p k) (λ j. serves_at j k) m.size m.values

  -- the values of a parent and of a cause in a code
  abbrev pub parent_in : ℕ → ℕ → ℕ
  parent_in i p = digits m.vertices (λ p. g.arrow p k) m.size (i / radix_range m.causes (λ j. serves_at j k) m.values) p

  abbrev pub cause_in : ℕ → ℕ → ℕ
  cause_in i j = digits m.causes (λ j. serves_at j k) m.values (i % radix_range m.causes (λ j. serves_at j k) m.values) j

  -- what v takes for the values of the vertices and of the causes: those in the code, where k is its parent
  abbrev pub seen : ℕ → (ℕ → ℕ) → ℕ → ℕ
  seen v s p = cond (p == k) 0 (cond (g.arrow k v && g.arrow p k) (parent_in (s k) p) (s p))

  abbrev pub heard : ℕ → (ℕ → ℕ) → (ℕ → ℕ) → ℕ → ℕ
  heard v s u j = cond (g.arrow k v && serves_at j k) (cause_in (s k) j) (u j)

  -- the model with k put back
  abbrev pub put_back : FiniteModel
  put_back = record m {
    size = λ v. cond (v == k) codes (m.size v);
    serves = serves_at;
    mechanism = λ v s u. cond (v == k) (code s u) (m.mechanism v (seen v s) (heard v s u));
  }

  -- its causes serve two vertices at most
  pub two_put_back : ServesTwo put_back
  two_put_back = record { one = one_at; other = other_at; serves = λ j v jl. refl }

pub values_positive : (g : MixedGraph) (m : FiniteModel) → Fits g m → (j : ℕ) → j < m.causes → 0 < m.values j
values_positive g m fit j jl = go (m.values j) (fit.positive_weight j jl)
  where
    go : (n : ℕ) → 1 ≤ sum_below n (m.weight j) → 0 < n
    go zero h = absurd (omega arith)
    go (suc n) h = omega arith

-- what an edge that leads through k is
module _ (g : MixedGraph) (k : ℕ) where
  not_k : (a : ℕ) → not (a == k) ≡ true → a ≡ k → ⊥
  not_k a e s = absurd (grind (arith, e, s))

  is_not_k : (a : ℕ) → (a ≡ k → ⊥) → not (a == k) ≡ true
  is_not_k a d = let e : (a == k) ≡ false = ne_eqb a k d in rw e refl

  pub record Arrow (a b : ℕ) : Type 0 where
    pub tail : a ≡ k → ⊥
    pub head : b ≡ k → ⊥
    pub either : (g.arrow a b || (g.arrow a k && g.arrow k b)) ≡ true

  pub arrow_of : (a b : ℕ) → (without g k).arrow a b ≡ true → Arrow a b
  arrow_of a b e = let r = right_true (not (a == k)) (not (b == k) && (g.arrow a b || (g.arrow a k && g.arrow k b))) e in record {
    tail = not_k a (left_true (not (a == k)) (not (b == k) && (g.arrow a b || (g.arrow a k && g.arrow k b))) e);
    head = not_k b (left_true (not (b == k)) (g.arrow a b || (g.arrow a k && g.arrow k b)) r);
    either = right_true (not (b == k)) (g.arrow a b || (g.arrow a k && g.arrow k b)) r;
  }

  pub record Both (a b : ℕ) : Type 0 where
    pub first : a ≡ k → ⊥
    pub second : b ≡ k → ⊥
    pub either : (g.both a b || (not (a == b) && through g k a b)) ≡ true

  pub both_of : (a b : ℕ) → (without g k).both a b ≡ true → Both a b
  both_of a b e = let r = right_true (not (a == k)) (not (b == k) && (g.both a b || (not (a == b) && through g k a b))) e in record {
    first = not_k a (left_true (not (a == k)) (not (b == k) && (g.both a b || (not (a == b) && through g k a b))) e);
    second = not_k b (left_true (not (b == k)) (g.both a b || (not (a == b) && through g k a b)) r);
    either = right_true (not (b == k)) (g.both a b || (not (a == b) && through g k a b)) r;
  }

module _ (g : MixedGraph) (k : ℕ) (m : FiniteModel) (two : ServesTwo m) (ok : IsMixedGraph g) (kl : k < m.vertices) (fit : Fits (without g k) m) where
  pub no_self : (a : ℕ) → g.arrow a k ≡ true → (a == k) ≡ false
  no_self a e = ne_eqb a k (λ s. ok.acyclic k k [] (rw s at e, refl))

  range_positive : 0 < radix_range m.causes (λ j. serves_at g k m two j k) m.values
  range_positive = positive_range m.causes (λ j. serves_at g k m two j k) m.values (values_positive (without g k) m fit)

  codes_positive : 0 < codes g k m two
  codes_positive = times (radix_range m.vertices (λ p. g.arrow p k) m.size) (radix_range m.causes (λ j. serves_at g k m two j k) m.values)
      (positive_range m.vertices (λ p. g.arrow p k) m.size fit.positive_size) range_positive
    where
      times : (x y : ℕ) → 0 < x → 0 < y → 0 < x * y
      times x y h q = grind arith

  -- ---- the causes
  served : (j : ℕ) → j < m.causes → (m.serves j (two.one j) ≡ true) × (m.serves j (two.other j) ≡ true)
  served j jl = (
    two.serves j (two.one j) jl ∙ or_left (two.one j == two.one j) (two.one j == two.other j) (eq-eqb (two.one j) (two.one j) refl),
    two.serves j (two.other j) jl ∙ or_right (two.other j == two.one j) (two.other j == two.other j) (eq-eqb (two.other j) (two.other j) refl),
  )

  -- a cause whose ends differ after all is that of a bidirected edge
  ends_joined : (j : ℕ) → j < m.causes → (one_at g k m two j ≡ other_at g k m two j → ⊥) → g.both (one_at g k m two j) (other_at g k m two j) ≡ true
  ends_joined j jl = go (two.one j) (two.other j) (λ d. both_of g k (two.one j) (two.other j)
      (fit.joined j (two.one j) (two.other j) jl (served j jl).0 (served j jl).1 d))
    where
      go : (a b : ℕ) → ((a ≡ b → ⊥) → Both g k a b) → (moved g k (stays g a b) a ≡ moved g k (stays g a b) b → ⊥)
          → g.both (moved g k (stays g a b) a) (moved g k (stays g a b) b) ≡ true
      go a b h = pick (cases_eq a b)
        where
          pick : (a ≡ b) ⊎ (a ≡ b → ⊥) → (moved g k (stays g a b) a ≡ moved g k (stays g a b) b → ⊥)
              → g.both (moved g k (stays g a b) a) (moved g k (stays g a b) b) ≡ true
          pick (inl s) ne = absurd (ne (ap (moved g k (stays g a b)) s))
          pick (inr d) ne = at (g.both a b) (g.arrow k a) (g.arrow k b) refl refl refl ne (h d).either
            where
              f : (a == b) ≡ false
              f = ne_eqb a b d

              at : (t x y : Bool) → g.both a b ≡ t → g.arrow k a ≡ x → g.arrow k b ≡ y → (moved g k (stays g a b) a ≡ moved g k (stays g a b) b → ⊥)
                  → (g.both a b || (not (a == b) && through g k a b)) ≡ true
                  → g.both (moved g k (stays g a b) a) (moved g k (stays g a b) b) ≡ true
              at true x y e p q ne' w = rw (f, e) e
              at false true true e p q ne' w = absurd (ne' (rw (f, e, p, q) refl))
              at false true false e p q ne' w = rw (f, e, p, q) (last (g.both k b) (g.both a k) (rw (f, e, p, q) at w))
                where
                  last : (c d : Bool) → (false || (true && ((true && false) || ((true && c) || (d && false))))) ≡ true → c ≡ true
                  last c d w' = grind (arith, w')
              at false false true e p q ne' w = rw (f, e, p, q) (last (g.both k b) (g.both a k) (rw (f, e, p, q) at w))
                where
                  last : (c d : Bool) → (false || (true && ((false && true) || ((false && c) || (d && true))))) ≡ true → d ≡ true
                  last c d w' = grind (arith, w')
              at false false false e p q ne' w = absurd (last (g.both k b) (g.both a k) (rw (f, e, p, q) at w))
                where
                  last : (c d : Bool) → (false || (true && ((false && false) || ((false && c) || (d && false))))) ≡ true → ⊥
                  last c d w' = absurd (grind (arith, w'))

  joined_back : (j u v : ℕ) → j < m.causes → serves_at g k m two j u ≡ true → serves_at g k m two j v ≡ true → (u ≡ v → ⊥) → g.both u v ≡ true
  joined_back j u v jl e f ne = go (or_cases (u == one_at g k m two j) (u == other_at g k m two j) e)
      (or_cases (v == one_at g k m two j) (v == other_at g k m two j) f)
    where
      go : ((u == one_at g k m two j) ≡ true) ⊎ ((u == other_at g k m two j) ≡ true) → ((v == one_at g k m two j) ≡ true) ⊎ ((v == other_at g k m two j) ≡ true)
          → g.both u v ≡ true
      go (inl p) (inl q) = absurd (ne (eqb-true u (one_at g k m two j) p ∙ sym (eqb-true v (one_at g k m two j) q)))
      go (inr p) (inr q) = absurd (ne (eqb-true u (other_at g k m two j) p ∙ sym (eqb-true v (other_at g k m two j) q)))
      go (inl p) (inr q) = let a = eqb-true u (one_at g k m two j) p in let b = eqb-true v (other_at g k m two j) q in
          ap₂ g.both a b ∙ ends_joined j jl (λ s. ne (a ∙ s ∙ sym b))
      go (inr p) (inl q) = let a = eqb-true u (other_at g k m two j) p in let b = eqb-true v (one_at g k m two j) q in
          ap₂ g.both a b ∙ ok.symmetric (one_at g k m two j) (other_at g k m two j) (ends_joined j jl (λ s. ne (a ∙ sym s ∙ sym b)))

  -- a vertex that a cause served without k is served by it still, or is a child of k, which it serves
  moved_end : (st ka : Bool) (v : ℕ) → (ka && (k == cond st v (cond ka k v))) ≡ false → (v == cond st v (cond ka k v)) ≡ true
  moved_end true ka v f = eq-eqb v v refl
  moved_end false true v f = clash (k == k) (eq-eqb k k refl) f
  moved_end false false v f = eq-eqb v v refl

  still_served : (j v : ℕ) → j < m.causes → m.serves j v ≡ true → (g.arrow k v && serves_at g k m two j k) ≡ false → serves_at g k m two j v ≡ true
  still_served j v jl e f = go (or_cases (v == two.one j) (v == two.other j) (sym (two.serves j v jl) ∙ e))
    where
      first_of : (a p q : Bool) → (a && (p || q)) ≡ false → (a && p) ≡ false
      first_of a p q h = grind (arith, h)

      second_of : (a p q : Bool) → (a && (p || q)) ≡ false → (a && q) ≡ false
      second_of a p q h = grind (arith, h)

      go : ((v == two.one j) ≡ true) ⊎ ((v == two.other j) ≡ true) → serves_at g k m two j v ≡ true
      go (inl q) =
          let s : two.one j ≡ v = sym (eqb-true v (two.one j) q) in
          or_left (v == one_at g k m two j) (v == other_at g k m two j) (ap (λ y. v == moved g k (stays g (two.one j) (two.other j)) y) s
          ∙ moved_end (stays g (two.one j) (two.other j)) (g.arrow k v) v
          (sym (ap (λ y. g.arrow k v && (k == moved g k (stays g (two.one j) (two.other j)) y)) s)
          ∙ first_of (g.arrow k v) (k == one_at g k m two j) (k == other_at g k m two j) f))
      go (inr q) =
          let s : two.other j ≡ v = sym (eqb-true v (two.other j) q) in
          or_right (v == one_at g k m two j) (v == other_at g k m two j) (ap (λ y. v == moved g k (stays g (two.one j) (two.other j)) y) s
          ∙ moved_end (stays g (two.one j) (two.other j)) (g.arrow k v) v
          (sym (ap (λ y. g.arrow k v && (k == moved g k (stays g (two.one j) (two.other j)) y)) s)
          ∙ second_of (g.arrow k v) (k == one_at g k m two j) (k == other_at g k m two j) f))

  end_below : (st : Bool) (v : ℕ) → v < m.vertices → moved g k st v < m.vertices
  end_below true v vl = vl
  end_below false v vl = go (g.arrow k v)
    where
      go : (c : Bool) → cond c k v < m.vertices
      go true = kl
      go false = vl

  child_below : (j v : ℕ) → j < m.causes → serves_at g k m two j v ≡ true → v < m.vertices
  child_below j v jl e = go (or_cases (v == one_at g k m two j) (v == other_at g k m two j) e)
    where
      go : ((v == one_at g k m two j) ≡ true) ⊎ ((v == other_at g k m two j) ≡ true) → v < m.vertices
      go (inl q) = rw (eqb-true v (one_at g k m two j) q) (end_below (stays g (two.one j) (two.other j)) (two.one j)
          (fit.child_below j (two.one j) jl (served j jl).0))
      go (inr q) = rw (eqb-true v (other_at g k m two j) q) (end_below (stays g (two.one j) (two.other j)) (two.other j)
          (fit.child_below j (two.other j) jl (served j jl).1))

  -- ---- the mechanisms
  pub same_code : (s t u w : ℕ → ℕ) → ((p : ℕ) → g.arrow p k ≡ true → s p ≡ t p) → ((j : ℕ) → j < m.causes → serves_at g k m two j k ≡ true → u j ≡ w j)
      → code g k m two s u ≡ code g k m two t w
  same_code s t u w hp hc = ap₂ (λ q r. q * radix_range m.causes (λ j. serves_at g k m two j k) m.values + r)
      (radix-congr m.vertices (λ p. g.arrow p k) m.size s t (λ p pl e. hp p e))
      (radix-congr m.causes (λ j. serves_at g k m two j k) m.values u w (λ j jl e. hc j jl e))

  same_seen : (v : ℕ) (s t : ℕ → ℕ) → ((p : ℕ) → g.arrow p v ≡ true → s p ≡ t p) → (p : ℕ) → (without g k).arrow p v ≡ true
      → seen g k m two v s p ≡ seen g k m two v t p
  same_seen v s t hp p a = let r = arrow_of g k p v a in go (g.arrow k v && g.arrow p k) refl r.either
    where
      other : (x y : Bool) (z : Bool) → (y || (z && x)) ≡ true → (x && z) ≡ false → y ≡ true
      other x y z h q = grind (arith, h, q)

      go : (c : Bool) → (g.arrow k v && g.arrow p k) ≡ c → (g.arrow p v || (g.arrow p k && g.arrow k v)) ≡ true
          → cond (p == k) 0 (cond (g.arrow k v && g.arrow p k) (parent_in g k m two (s k) p) (s p)) ≡ cond (p == k) 0
          (cond (g.arrow k v && g.arrow p k) (parent_in g k m two (t k) p) (t p))
      go true e w = rw e (ap (λ x. cond (p == k) 0 (parent_in g k m two x p)) (hp k (left_true (g.arrow k v) (g.arrow p k) e)))
      go false e w = rw e (ap (λ x. cond (p == k) 0 x) (hp p (other (g.arrow k v) (g.arrow p v) (g.arrow p k) w e)))

  same_heard : (v : ℕ) (s t u w : ℕ → ℕ) → ((p : ℕ) → g.arrow p v ≡ true → s p ≡ t p) → ((j : ℕ) → j < m.causes → serves_at g k m two j v ≡ true → u j ≡ w j)
      → (j : ℕ) → j < m.causes → m.serves j v ≡ true → heard g k m two v s u j ≡ heard g k m two v t w j
  same_heard v s t u w hp hc j jl e = go (g.arrow k v && serves_at g k m two j k) refl
    where
      go : (c : Bool) → (g.arrow k v && serves_at g k m two j k) ≡ c
          → cond (g.arrow k v && serves_at g k m two j k) (cause_in g k m two (s k) j) (u j) ≡ cond (g.arrow k v && serves_at g k m two j k)
          (cause_in g k m two (t k) j) (w j)
      go true f = rw f (ap (λ x. cause_in g k m two x j) (hp k (left_true (g.arrow k v) (serves_at g k m two j k) f)))
      go false f = rw f (hc j jl (still_served j v jl e f))

  reads_back : (v : ℕ) → v < m.vertices → (s t u w : ℕ → ℕ) → ((p : ℕ) → g.arrow p v ≡ true → s p ≡ t p)
      → ((j : ℕ) → j < m.causes → serves_at g k m two j v ≡ true → u j ≡ w j)
      → cond (v == k) (code g k m two s u) (m.mechanism v (seen g k m two v s) (heard g k m two v s u)) ≡ cond (v == k) (code g k m two t w)
      (m.mechanism v (seen g k m two v t) (heard g k m two v t w))
  reads_back v vl s t u w hp hc = go (v == k) refl
    where
      go : (c : Bool) → (v == k) ≡ c
          → cond (v == k) (code g k m two s u) (m.mechanism v (seen g k m two v s) (heard g k m two v s u)) ≡ cond (v == k) (code g k m two t w)
          (m.mechanism v (seen g k m two v t) (heard g k m two v t w))
      go true e = let q : v ≡ k = eqb-true v k e in rw e (same_code s t u w (λ p a. hp p (ap (g.arrow p) q ∙ a))
          (λ j jl a. hc j jl (ap (serves_at g k m two j) q ∙ a)))
      go false e = rw e (fit.reads v vl (seen g k m two v s) (seen g k m two v t) (heard g k m two v s u) (heard g k m two v t w) (same_seen v s t hp)
          (same_heard v s t u w hp hc))

  module _ (s u : ℕ → ℕ) (hs : IsAssignment m.vertices (λ v. cond (v == k) (codes g k m two) (m.size v)) s) (hu : IsAssignment m.causes m.values u) where
    size_at : (p : ℕ) → p < m.vertices → (p == k) ≡ false → s p < m.size p
    size_at p pl e = let h = hs p pl in rw e at h

    seen_within : (v : ℕ) → IsAssignment m.vertices m.size (seen g k m two v s)
    seen_within v p pl = go (p == k) refl (g.arrow k v && g.arrow p k)
      where
        go : (c : Bool) → (p == k) ≡ c → (d : Bool) → cond (p == k) 0 (cond d (parent_in g k m two (s k) p) (s p)) < m.size p
        go true e d = rw e (fit.positive_size p pl)
        go false e true = rw e (digits-lt m.vertices (λ p. g.arrow p k) m.size fit.positive_size
            (s k / radix_range m.causes (λ j. serves_at g k m two j k) m.values) p pl)
        go false e false = rw e (size_at p pl e)

    heard_within : (v : ℕ) → IsAssignment m.causes m.values (heard g k m two v s u)
    heard_within v j jl = go (g.arrow k v && serves_at g k m two j k)
      where
        go : (d : Bool) → cond d (cause_in g k m two (s k) j) (u j) < m.values j
        go true = digits-lt m.causes (λ j. serves_at g k m two j k) m.values (values_positive (without g k) m fit)
            (s k % radix_range m.causes (λ j. serves_at g k m two j k) m.values) j jl
        go false = hu j jl

    pub code_below : code g k m two s u < codes g k m two
    code_below = table_index-lt m.vertices m.causes (λ p. g.arrow p k) (λ j. serves_at g k m two j k) m.size m.values s u
        (λ p pl e. size_at p pl (no_self p e)) (λ j jl e. hu j jl)

    below_back : (v : ℕ) → v < m.vertices → cond (v == k) (code g k m two s u) (m.mechanism v (seen g k m two v s) (heard g k m two v s u)) < cond (v == k)
        (codes g k m two) (m.size v)
    below_back v vl = go (v == k)
      where
        go : (c : Bool) → cond c (code g k m two s u) (m.mechanism v (seen g k m two v s) (heard g k m two v s u)) < cond c (codes g k m two) (m.size v)
        go true = code_below
        go false = fit.below v vl (seen g k m two v s) (heard g k m two v s u) (seen_within v) (heard_within v)

  -- ---- it fits
  pub fits_back : Fits g (put_back g k m two)
  fits_back = record {
    vertices = fit.vertices;
    positive_size = λ v vl. size_positive v vl (v == k);
    positive_weight = fit.positive_weight;
    some_child = λ j jl. (
      one_at g k m two j,
      or_left (one_at g k m two j == one_at g k m two j) (one_at g k m two j == other_at g k m two j)
          (eq-eqb (one_at g k m two j) (one_at g k m two j) refl),
    );
    child_below = child_below;
    joined = joined_back;
    reads = reads_back;
    below = λ v vl s u hs hu. below_back s u hs hu v vl;
  }
    where
      size_positive : (v : ℕ) → v < m.vertices → (c : Bool) → 0 < cond c (codes g k m two) (m.size v)
      size_positive v vl true = codes_positive
      size_positive v vl false = fit.positive_size v vl
