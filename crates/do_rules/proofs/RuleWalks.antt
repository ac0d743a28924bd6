-- The walk of an open path in a graph without edges into x, up to its first visit in z; and such a walk with a directed path behind it.
use Rattle.std.proofs.Common.{◌⊎◌, inl, inr, ℕ, zero, suc, ◌+◌, ◌-◌, ◌≡◌, ◌<◌, ◌≤◌, Bool, true, false, cond, ltb, not, ◌&&◌, ◌||◌, List, [], ◌∷◌}
use Rattle.std.proofs.Common.{length, refl, sym, ap, ◌∙◌, subst, IsTrue, arith, lt-ltb, le-ltb}
use Rattle.std.proofs.lemmas.Bool.{cases_lt, false_from_ne_true, not-true, or_left}
use Rattle.mixed_graph.specs.Vocabulary.{MixedGraph, IsMixedGraph, IsDirectedPath, Apart}
use Rattle.do_rules.specs.Cuts.{cut_into}
use Rattle.do_rules.proofs.Fewer.{HasFewer}
use Rattle.m_separation.specs.declared.marks.Mark.{Mark}
use Rattle.m_separation.specs.declared.marks.Mark.TheVariants.{Out, Into, Both}
use Rattle.m_separation.specs.Vocabulary.{IsJoined, last, HasOpenWalk, heads_first, heads_second}
use Rattle.m_separation.proofs.Going.{passed_from_start}
use Rattle.finite_models.proofs.Bools.{and_first, and_second, not_both, or_false}
use Rattle.walk_models.specs.Vocabulary.{Walk, IsWalkIn, IsStrict, head_before, head_after, is_collider, IsWalkTo, IsFirstIn}
use Rattle.walk_models.proofs.Firsts.{First, first}
use Rattle.walk_models.proofs.Stricts.{StrictSteps, Anything, strict_from, walk_of, strict_visits, visits, starts_at, ends_at}

-- ---- a walk up to visit n
abbrev pub until : Walk → ℕ → Walk
until p n = record p { steps = n }

no_head : (h q : Bool) → (h && (false && q)) ≡ false
no_head true q = refl
no_head false q = refl

strict_until : (p : Walk) (w : ℕ → Bool) → IsStrict p w → (n : ℕ) → n ≤ p.steps → w (p.at n) ≡ false → IsStrict (until p n) w
strict_until p w strict n le out i il = go (cases_lt i n)
  where
    go : (i < n) ⊎ (n ≤ i) → w (p.at i) ≡ (head_before p i && (ltb i n && heads_first (p.mark i)))
    go (inl lt) = strict i (omega (arith, le, lt)) ∙ ap (λ c. head_before p i && (c && heads_first (p.mark i)))
        (lt-ltb i p.steps (omega (arith, le, lt)) ∙ sym (lt-ltb i n lt))
    go (inr ge) =
        ap (λ j. w (p.at j)) (let same : i ≡ n = omega (arith, il, ge) in same) ∙ out
        ∙ sym (ap (λ c. head_before p i && (c && heads_first (p.mark i))) (le-ltb i n ge) ∙ no_head (head_before p i) (heads_first (p.mark i)))

-- a walk to z that comes there at its last visit alone
pub record Arrival (g : MixedGraph) (b w y z : ℕ → Bool) : Type 0 where
  pub walk : Walk
  pub before : ℕ
  pub steps : walk.steps ≡ suc before
  pub leads : IsWalkTo g walk b w y z
  pub first : IsFirstIn walk z

pub arrives : (g : MixedGraph) (p : Walk) (b w y z : ℕ → Bool) → Apart y z → Apart z w → IsWalkTo g p b w y z → Arrival g b w y z
arrives g p b w y z yz zw k = go (found.at) refl
  where
    found : First (λ i. z (p.at i)) p.steps
    found = first (λ i. z (p.at i)) p.steps k.ends

    go : (n : ℕ) → found.at ≡ n → Arrival g b w y z
    go zero e = absurd (not_both (z (p.at 0)) (subst (λ i. z (p.at i) ≡ true) e found.inside) (yz (p.at 0) k.begins))
    go (suc n) e =
        let low : suc n ≤ p.steps = (let le = found.low in omega (arith, le, e)) in
        let inside : z (p.at (suc n)) ≡ true = subst (λ i. z (p.at i) ≡ true) e found.inside in
        record {
          walk = until p (suc n);
          before = n;
          steps = refl;
          leads = record {
            walk = record { vertex = λ i le. k.walk.vertex i (omega (arith, le, low)); joined = λ i lt. k.walk.joined i (omega (arith, lt, low)) };
            plain = k.plain;
            strict = strict_until p w k.strict (suc n) low (zw (p.at (suc n)) inside);
            outside = λ i le. k.outside i (omega (arith, le, low));
            begins = k.begins;
            ends = inside;
          };
          first = λ i lt. found.before i (omega (arith, lt, e));
        }

-- ---- the walk of an open one in a graph without edges into x
module _ (h : MixedGraph) (ok : IsMixedGraph h) (x : ℕ → Bool) (headless : (k : Mark) (u v : ℕ) → IsJoined h u k v → heads_second k ≡ true → x v ≡ false) where
  pub visits_outside : (p : Walk) (w : ℕ → Bool) → IsWalkIn h p → IsStrict p (λ v. x v || w v) → (i : ℕ) → i ≤ p.steps → x (p.at i) ≡ false
  visits_outside p w walk strict zero le = false_from_ne_true (x (p.at 0))
      (λ e. not_both (x (p.at 0) || w (p.at 0)) (or_left (x (p.at 0)) (w (p.at 0)) e) (strict 0 le))
  visits_outside p w walk strict (suc i) le = false_from_ne_true (x (p.at (suc i)))
      (λ e. not_both (x (p.at (suc i))) e (headless (p.mark i) (p.at i) (p.at (suc i)) (walk.joined i (omega (arith, le)))
      (and_first (heads_second (p.mark i)) (head_after p (suc i)) (sym (strict (suc i) le) ∙ or_left (x (p.at (suc i))) (w (p.at (suc i))) e))))

  pub walk_to : (w y z : ℕ → Bool) → HasOpenWalk h y z (λ v. x v || w v) → (p : Walk) × IsWalkTo h p x w y z
  walk_to w y z (v, r, k) = (
    walk_of v q.steps,
    record {
      walk = walk;
      plain = λ i. refl;
      strict = λ i le. sym (or_false (x ((walk_of v q.steps).at i)) (w ((walk_of v q.steps).at i)) (outside i le)) ∙ strict i le;
      outside = outside;
      begins = subst (λ u. IsTrue (y u)) (sym (starts_at v q.steps)) k.begins;
      ends = subst (λ u. IsTrue (z u)) (sym (ends_at v q.steps ∙ q.ends)) k.ends;
    },
  )
    where
      q : StrictSteps h (λ u. x u || w u) Anything false v (last v r)
      q = strict_from h (λ u. x u || w u) false v r k.walk (passed_from_start h (λ u. x u || w u) v r k.first_outside k.passed) k.last_outside

      walk : IsWalkIn h (walk_of v q.steps)
      walk = visits h ok v q.steps k.vertex q.walk

      strict : IsStrict (walk_of v q.steps) (λ u. x u || w u)
      strict = strict_visits (λ u. x u || w u) v q.steps q.strict

      outside : (i : ℕ) → i ≤ (walk_of v q.steps).steps → x ((walk_of v q.steps).at i) ≡ false
      outside = visits_outside (walk_of v q.steps) w walk strict

-- ---- walks in a graph with more edges
pub fewer_twice : (f h g : MixedGraph) → HasFewer f h → HasFewer h g → HasFewer f g
fewer_twice f h g a b = record {
  vertices = b.vertices ∙ a.vertices;
  arrows = λ u v e. b.arrows u v (a.arrows u v e);
  spouses = λ u v e. b.spouses u v (a.spouses u v e);
  symmetric = a.symmetric;
}

module _ (h g : MixedGraph) (fewer : HasFewer h g) where
  pub joined_more : (u : ℕ) (k : Mark) (v : ℕ) → IsJoined h u k v → IsJoined g u k v
  joined_more u Out v j = fewer.arrows u v j
  joined_more u Into v j = fewer.arrows v u j
  joined_more u Both v j = fewer.spouses u v j

  pub leads_more : (p : Walk) (b w y z : ℕ → Bool) → IsWalkTo h p b w y z → IsWalkTo g p b w y z
  leads_more p b w y z k = record {
    walk = record {
      vertex = λ i le. subst (λ n. p.at i < n) (sym fewer.vertices) (k.walk.vertex i le);
      joined = λ i lt. joined_more (p.at i) (p.mark i) (p.at (suc i)) (k.walk.joined i lt);
    };
    plain = k.plain;
    strict = k.strict;
    outside = k.outside;
    begins = k.begins;
    ends = k.ends;
  }

-- ---- a walk with a directed path behind its last visit
abbrev pub path_at : ℕ → List ℕ → ℕ → ℕ
path_at u [] i = u
path_at u (v ∷ r) zero = u
path_at u (v ∷ r) (suc i) = path_at v r i

path_start : (u : ℕ) (path : List ℕ) → path_at u path 0 ≡ u
path_start u [] = refl
path_start u (v ∷ r) = refl

pub path_end : (g : MixedGraph) (u : ℕ) (path : List ℕ) (t : ℕ) → IsDirectedPath g u path t → path_at u path (length path) ≡ t
path_end g u [] t leads = leads
path_end g u (v ∷ r) t leads = path_end g v r t leads.1

path_joined : (g : MixedGraph) (u : ℕ) (path : List ℕ) (t : ℕ) → IsDirectedPath g u path t → (i : ℕ) → i < length path
    → IsTrue (g.arrow (path_at u path i) (path_at u path (suc i)))
path_joined g u [] t leads i lt = absurd (omega (arith, lt))
path_joined g u (v ∷ r) t leads zero lt = subst (λ a. IsTrue (g.arrow u a)) (sym (path_start v r)) leads.0
path_joined g u (v ∷ r) t leads (suc i) lt = path_joined g v r t leads.1 i (omega (arith, lt))

path_below : (g : MixedGraph) → IsMixedGraph g → (u : ℕ) (path : List ℕ) (t : ℕ) → u < g.vertices → IsDirectedPath g u path t → (i : ℕ)
    → path_at u path i < g.vertices
path_below g ok u [] t low leads i = low
path_below g ok u (v ∷ r) t low leads zero = low
path_below g ok u (v ∷ r) t low leads (suc i) = path_below g ok v r t (ok.head_below u v leads.0) leads.1 i

pub path_outside : (g : MixedGraph) (x : ℕ → Bool) (u : ℕ) (path : List ℕ) (t : ℕ) → x u ≡ false → IsDirectedPath (cut_into g x) u path t → (i : ℕ)
    → x (path_at u path i) ≡ false
path_outside g x u [] t out leads i = out
path_outside g x u (v ∷ r) t out leads zero = out
path_outside g x u (v ∷ r) t out leads (suc i) = path_outside g x v r t (not-true (x v) (and_second (g.arrow u v) (not (x v)) leads.0)) leads.1 i

abbrev pub extended : Walk → ℕ → List ℕ → Walk
extended p n path = record {
  steps = n + length path;
  at = λ i. cond (ltb i n) (p.at i) (path_at (p.at n) path (i - n));
  mark = λ i. cond (ltb i n) (p.mark i) Out;
  free = λ i. false;
}

module _ (p : Walk) (n : ℕ) (path : List ℕ) where
  pub at_low : (i : ℕ) → i ≤ n → (extended p n path).at i ≡ p.at i
  at_low i le = go (cases_lt i n)
    where
      go : (i < n) ⊎ (n ≤ i) → cond (ltb i n) (p.at i) (path_at (p.at n) path (i - n)) ≡ p.at i
      go (inl lt) = rw (lt-ltb i n lt) refl
      go (inr ge) =
          let none : i - n ≡ 0 = omega (arith, le) in
          rw (le-ltb i n ge, none) (path_start (p.at n) path ∙ ap p.at (let same : n ≡ i = omega (arith, le, ge) in same))

  pub at_high : (i : ℕ) → n ≤ i → (extended p n path).at i ≡ path_at (p.at n) path (i - n)
  at_high i ge = rw (le-ltb i n ge) refl

  pub mark_low : (i : ℕ) → i < n → (extended p n path).mark i ≡ p.mark i
  mark_low i lt = rw (lt-ltb i n lt) refl

  pub mark_high : (i : ℕ) → n ≤ i → (extended p n path).mark i ≡ Out
  mark_high i ge = rw (le-ltb i n ge) refl

  -- the colliders up to there are those of the walk
  pub collider_low : n ≤ p.steps → (i : ℕ) → i < n → is_collider (extended p n path) i ≡ is_collider p i
  collider_low le i lt =
      joined (head i lt) (rw (lt-ltb i (n + length path) (omega (arith, lt)), lt-ltb i p.steps (omega (arith, lt, le))) (ap heads_first (mark_low i lt)))
    where
      head : (i : ℕ) → i < n → head_before (extended p n path) i ≡ head_before p i
      head zero lt = refl
      head (suc j) lt = ap heads_second (mark_low j (omega (arith, lt)))

      joined : {a b c d : Bool} → a ≡ b → c ≡ d → (a && c) ≡ (b && d)
      joined e f = rw (e, f) refl

  pub collider_high : is_collider (extended p n path) n ≡ false
  collider_high = rw (le-ltb n n (omega arith)) (none (head_before (extended p n path) n) (ltb n (n + length path)))
    where
      none : (h q : Bool) → (h && (q && false)) ≡ false
      none true true = refl
      none true false = refl
      none false q = refl

  pub walk_on : (g : MixedGraph) → IsMixedGraph g → IsWalkIn g p → n ≤ p.steps → (t : ℕ) → IsDirectedPath g (p.at n) path t → IsWalkIn g (extended p n path)
  walk_on g ok walk low t leads = record { vertex = λ i le. vertex i (cases_lt i n); joined = λ i lt. joined i lt (cases_lt i n) }
    where
      vertex : (i : ℕ) → (i < n) ⊎ (n ≤ i) → (extended p n path).at i < g.vertices
      vertex i (inl lt) = subst (λ v. v < g.vertices) (sym (at_low i (omega (arith, lt)))) (walk.vertex i (omega (arith, lt, low)))
      vertex i (inr ge) = subst (λ v. v < g.vertices) (sym (at_high i ge)) (path_below g ok (p.at n) path t (walk.vertex n low) leads (i - n))

      moved : (u u' : ℕ) (k k' : Mark) (v v' : ℕ) → u ≡ u' → k ≡ k' → v ≡ v' → IsJoined g u' k' v' → IsJoined g u k v
      moved u u' k k' v v' e f d j = subst (λ a. IsJoined g a k v) (sym e) (subst (λ a. IsJoined g u' a v) (sym f) (subst (IsJoined g u' k') (sym d) j))

      joined : (i : ℕ) → i < n + length path → (i < n) ⊎ (n ≤ i)
          → IsJoined g ((extended p n path).at i) ((extended p n path).mark i) ((extended p n path).at (suc i))
      joined i lt (inl l) = moved ((extended p n path).at i) (p.at i) ((extended p n path).mark i) (p.mark i) ((extended p n path).at (suc i)) (p.at (suc i))
          (at_low i (omega (arith, l))) (mark_low i l) (at_low (suc i) (omega (arith, l))) (walk.joined i (omega (arith, l, low)))
      joined i lt (inr ge) = moved ((extended p n path).at i) (path_at (p.at n) path (i - n)) ((extended p n path).mark i) Out ((extended p n path).at (suc i))
          (path_at (p.at n) path (suc (i - n)))
          (at_high i ge) (mark_high i ge) (at_high (suc i) (omega (arith, ge))
          ∙ ap (path_at (p.at n) path) (let next : suc i - n ≡ suc (i - n) = omega (arith, ge) in next))
          (path_joined g (p.at n) path t leads (i - n) (omega (arith, lt, ge)))
