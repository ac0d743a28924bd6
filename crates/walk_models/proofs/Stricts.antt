-- An open walk gives one whose colliders are in w, by going down to w and back at each collider outside w.
use Rattle.std.proofs.Common.{◌⊎◌, inl, inr, ℕ, zero, suc, ◌≡◌, ◌<◌, ◌≤◌, Bool, true, false, ltb, ◌&&◌, List, [], ◌∷◌, length, refl, sym, ap, ap₂}
use Rattle.std.proofs.Common.{◌∙◌, subst, IsTrue, arith, lt-ltb}
use Rattle.mixed_graph.specs.Vocabulary.{MixedGraph, IsMixedGraph, IsDirectedPath}
use Rattle.m_separation.specs.declared.marks.Mark.{Mark}
use Rattle.m_separation.specs.declared.marks.Mark.TheVariants.{Out, Into, Both}
use Rattle.m_separation.specs.Vocabulary.{Step, IsJoined, IsWalk, last, heads_first, heads_second, IsPassed, ArePassedFrom}
use Rattle.m_separation.proofs.Going.{passed_from_start}
use Rattle.walk_models.specs.Visits.{Walk, IsWalkIn, IsStrict, vertex_at, mark_at, head_before}
use Rattle.walk_models.specs.Strict.{AreStrictFrom, IsCausalOutside, IsLate}
use Rattle.walk_models.specs.Laws.{OpenWalksDepend}
use Rattle.walk_models.proofs.Told.{seen_ends_tell}

-- strict steps from v, where the walk came with an arrowhead or not, to the vertex e, of which Q holds
pub record StrictSteps (g : MixedGraph) (w : ℕ → Bool) (Q : List Step → Type 0) (h : Bool) (v e : ℕ) : Type 0 where
  pub steps : List Step
  pub walk : IsWalk g v steps
  pub strict : AreStrictFrom w h v steps
  pub ends : last v steps ≡ e
  pub holds : Q steps

module _ (g : MixedGraph) (w : ℕ → Bool) (Q : List Step → Type 0) (kept : (a : Step) (r : List Step) → Q r → Q (a ∷ r)) where
  -- down to w and back, and then on by a step with an arrowhead at v
  pub down_and_back : (v : ℕ) (path : List ℕ) (t : ℕ) → IsDirectedPath g v path t → w t ≡ true → (s : Step) (r : List Step) → heads_first s.mark ≡ true
      → IsWalk g v (s ∷ r)
      → AreStrictFrom w (heads_second s.mark) s.to r → Q (s ∷ r) → StrictSteps g w Q true v (last s.to r)
  down_and_back v [] t leads inside s r head walk strict q =
      record { steps = s ∷ r; walk = walk; strict = (ap w leads ∙ inside ∙ sym head, strict); ends = refl; holds = q }
  down_and_back v (x ∷ xs) t leads inside s r head walk strict q = go (w v) refl
      (λ e. down_and_back x xs t leads.1 inside (record { mark = Into; to = v }) (s ∷ r) refl (leads.0, walk) (e, strict)
      (kept (record { mark = Into; to = v }) (s ∷ r) q))
    where
      go : (c : Bool) → w v ≡ c → (w v ≡ false → StrictSteps g w Q true x (last s.to r)) → StrictSteps g w Q true v (last s.to r)
      go true e ih = record { steps = s ∷ r; walk = walk; strict = (e ∙ sym head, strict); ends = refl; holds = q }
      go false e ih = let d = ih e in
          record {
            steps = record { mark = Out; to = x } ∷ d.steps;
            walk = (leads.0, d.walk);
            strict = (e, d.strict);
            ends = d.ends;
            holds = kept
                (record { mark = Out; to = x }) d.steps d.holds;
          }

  -- one step more, at a vertex that lets the walk pass
  pub one_more : (P : List Step → Type 0) (h : Bool) (v : ℕ) (s : Step) (e : ℕ) → IsJoined g v s.mark s.to → IsPassed g w v h (heads_first s.mark)
      → (d : StrictSteps g w P (heads_second s.mark) s.to e) → Q (s ∷ d.steps) → StrictSteps g w Q h v e
  one_more P h v s e joined passed d q = go h (heads_first s.mark) refl passed
    where
      go : (h b : Bool) → heads_first s.mark ≡ b → IsPassed g w v h b → StrictSteps g w Q h v e
      go true true f a = subst (StrictSteps g w Q true v) d.ends (down_and_back v a.path a.end a.leads a.inside s d.steps f (joined, d.walk) d.strict q)
      go true false f a = record { steps = s ∷ d.steps; walk = (joined, d.walk); strict = (a ∙ sym f, d.strict); ends = d.ends; holds = q }
      go false b f a = record { steps = s ∷ d.steps; walk = (joined, d.walk); strict = (a, d.strict); ends = d.ends; holds = q }

-- steps of which nothing is said
abbrev pub Anything : List Step → Type 0
Anything r = Unit {0}

pub strict_from : (g : MixedGraph) (w : ℕ → Bool) (h : Bool) (v : ℕ) (r : List Step) → IsWalk g v r → ArePassedFrom g w h v r → w (last v r) ≡ false
    → StrictSteps g w Anything h v (last v r)
strict_from g w h v [] walk passed out = record { steps = []; walk = tt; strict = out; ends = refl; holds = tt }
strict_from g w h v (s ∷ r) walk passed out = one_more g w Anything (λ a r q. tt) Anything h v s (last s.to r) walk.0 passed.0
    (strict_from g w (heads_second s.mark) s.to r walk.1 passed.1 out) tt

-- ---- late steps
-- a walk without a turn that ends outside w is strict as it stands
causal_strict : (g : MixedGraph) (x w : ℕ → Bool) (h : Bool) (v : ℕ) (r : List Step) → IsCausalOutside x r → ArePassedFrom g w h v r → w (last v r) ≡ false
    → AreStrictFrom w h v r
causal_strict g x w h v [] k passed out = out
causal_strict g x w h v (s ∷ r) k passed out =
    (go h (heads_first s.mark) (ap heads_first k.0) passed.0, causal_strict g x w (heads_second s.mark) s.to r k.2 passed.1 out)
  where
    go : (h b : Bool) → b ≡ false → IsPassed g w v h b → w v ≡ (h && b)
    go true false e a = a
    go true true e a = absurd (grind (arith, e))
    go false b e a = a

-- all vertices that steps lead to are outside x
abbrev pub AreAllOutside : (ℕ → Bool) → List Step → Type 0
AreAllOutside x [] = Unit {0}
AreAllOutside x (s ∷ r) = (x s.to ≡ false) × AreAllOutside x r

-- steps outside x are arrows forwards, or some step isn't
pub late_or_causal : (x : ℕ → Bool) (r : List Step) → AreAllOutside x r → IsCausalOutside x r ⊎ IsLate x r
late_or_causal x [] k = inl tt
late_or_causal x (s ∷ r) k = elim (late_or_causal x r k.1) [
  | inl c ↦ go s.mark refl c
  | inr l ↦ inr (inr l)
]
  where
    go : (m : Mark) → s.mark ≡ m → IsCausalOutside x r → IsCausalOutside x (s ∷ r) ⊎ IsLate x (s ∷ r)
    go Out e c = inl (e, k.0, c)
    go Into e c = inr (inl ((λ f. absurd (cc)), k.0, c))
    go Both e c = inr (inl ((λ f. absurd (cc)), k.0, c))

-- an open walk outside x that isn't causal gives late strict steps
pub late_from : (g : MixedGraph) (x w : ℕ → Bool) (h : Bool) (v : ℕ) (r : List Step) → IsWalk g v r → ArePassedFrom g w h v r → w (last v r) ≡ false
    → AreAllOutside x r → IsLate x r → StrictSteps g w (IsLate x) h v (last v r)
late_from g x w h v [] walk passed out k late = absurd late
late_from g x w h v (s ∷ r) walk passed out k late = elim (late_or_causal x r k.1) [
  | inl c ↦ one_more g w (IsLate x) (λ a r q. inr q) Anything h v s (last s.to r) walk.0 passed.0
      (record { steps = r; walk = walk.1; strict = causal_strict g x w (heads_second s.mark) s.to r c passed.1 out; ends = refl; holds = tt }) late
  | inr l ↦ (let d = late_from g x w (heads_second s.mark) s.to r walk.1 passed.1 out k.1 l in one_more g w (IsLate x) (λ a r q. inr q) (IsLate x) h v s
      (last s.to r) walk.0 passed.0 d (inr d.holds))
]

false_and : (h : Bool) → false ≡ (h && false)
false_and true = refl
false_and false = refl

turned_into : ◌≡◌ {A = Mark} Into Out → ⊥
turned_into e = absurd (cc)

-- from u, which is outside w and x, down to w by c and back, and then on by arrows forwards outside x: late strict steps
pub around : (g : MixedGraph) (x w : ℕ → Bool) (h : Bool) (u c : ℕ) (path : List ℕ) (t : ℕ) → IsTrue (g.arrow u c) → IsDirectedPath g c path t → w t ≡ true
    → w u ≡ false → x u ≡ false
    → (r : List Step) → IsWalk g u r → AreStrictFrom w false u r → IsCausalOutside x r → StrictSteps g w (IsLate x) h u (last u r)
around g x w h u c path t arrow leads inside out apart r walk strict causal =
    let d = down_and_back g w (IsLate x) (λ a r q. inr q) c path t leads inside (record { mark = Into; to = u }) r refl (arrow, walk) strict
    (inl (turned_into, apart, causal)) in
    record {
      steps = record { mark = Out; to = c } ∷ d.steps;
      walk = (arrow, d.walk);
      strict = (out ∙ false_and h, d.strict);
      ends = d.ends;
      holds =
          inr d.holds;
    }

-- ---- the visits of steps
abbrev pub walk_of : ℕ → List Step → Walk
walk_of v r = record { steps = length r; at = vertex_at v r; mark = mark_at r; free = λ i. false }

abbrev before : Bool → List Step → ℕ → Bool
before h r zero = h
before h r (suc i) = heads_second (mark_at r i)

next_below : (i n : ℕ) → ltb (suc i) (suc n) ≡ ltb i n
next_below i n = grind arith

no_step : (h q : Bool) → false ≡ (h && (false && q))
no_step true q = refl
no_step false q = refl

module _ (w : ℕ → Bool) where
  strict_at : (h : Bool) (v : ℕ) (r : List Step) → AreStrictFrom w h v r → (i : ℕ) → i ≤ length r
      → w (vertex_at v r i) ≡ (before h r i && (ltb i (length r) && heads_first (mark_at r i)))
  strict_at h v [] k zero le = k ∙ no_step h false
  strict_at h v [] k (suc i) le = absurd (omega (arith, le))
  strict_at h v (s ∷ r) k zero le = k.0 ∙ ap (λ c. h && (c && heads_first s.mark)) (sym (lt-ltb 0 (suc (length r)) (omega arith)))
  strict_at h v (s ∷ r) k (suc i) le = strict_at (heads_second s.mark) s.to r k.1 i (omega (arith, le))
      ∙ ap₂ (λ a b. a && (b && heads_first (mark_at r i))) (same i) (sym (next_below i (length r)))
    where
      same : (i : ℕ) → before (heads_second s.mark) r i ≡ heads_second (mark_at (s ∷ r) i)
      same zero = refl
      same (suc i) = refl

  pub strict_visits : (v : ℕ) (r : List Step) → AreStrictFrom w false v r → IsStrict (walk_of v r) w
  strict_visits v r k i le = strict_at false v r k i le ∙ ap (λ c. c && (ltb i (length r) && heads_first (mark_at r i))) (same i)
    where
      same : (i : ℕ) → before false r i ≡ head_before (walk_of v r) i
      same zero = refl
      same (suc i) = refl

pub ends_at : (v : ℕ) (r : List Step) → vertex_at v r (length r) ≡ last v r
ends_at v [] = refl
ends_at v (s ∷ r) = ends_at s.to r

module _ (g : MixedGraph) (ok : IsMixedGraph g) where
  other_end : (m : Mark) (u v : ℕ) → IsJoined g u m v → v < g.vertices
  other_end Out u v j = ok.head_below u v j
  other_end Into u v j = ok.tail_below v u j
  other_end Both u v j = ok.both_below v u (ok.symmetric u v j)

  visits_below : (v : ℕ) (r : List Step) → v < g.vertices → IsWalk g v r → (i : ℕ) → i ≤ length r → vertex_at v r i < g.vertices
  visits_below v [] lt walk i le = lt
  visits_below v (s ∷ r) lt walk zero le = lt
  visits_below v (s ∷ r) lt walk (suc i) le = visits_below s.to r (other_end s.mark v s.to walk.0) walk.1 i (omega (arith, le))

  visits_joined : (v : ℕ) (r : List Step) → IsWalk g v r → (i : ℕ) → i < length r → IsJoined g (vertex_at v r i) (mark_at r i) (vertex_at v r (suc i))
  visits_joined v [] walk i lt = absurd (omega (arith, lt))
  visits_joined v (s ∷ r) walk zero lt = subst (IsJoined g v s.mark) (first s.to r) walk.0
    where
      first : (u : ℕ) (r : List Step) → u ≡ vertex_at u r 0
      first u [] = refl
      first u (s ∷ r) = refl
  visits_joined v (s ∷ r) walk (suc i) lt = visits_joined s.to r walk.1 i (omega (arith, lt))

  pub visits : (v : ℕ) (r : List Step) → v < g.vertices → IsWalk g v r → IsWalkIn g (walk_of v r)
  visits v r lt walk = record { vertex = visits_below v r lt walk; joined = visits_joined v r walk }

pub starts_at : (v : ℕ) (r : List Step) → vertex_at v r 0 ≡ v
starts_at v [] = refl
starts_at v (s ∷ r) = refl

pub open_walks_depend : OpenWalksDepend
open_walks_depend = λ g ok x y w o.
    let k = o.2 in
    let q = strict_from g w false o.0 o.1 k.walk (passed_from_start g w o.0 o.1 k.first_outside k.passed) k.last_outside in
    seen_ends_tell g ok (walk_of o.0 q.steps) (λ v. false) w x y (record {
      walk = visits g ok o.0 q.steps k.vertex q.walk;
      plain = λ i. refl;
      strict = strict_visits w o.0 q.steps q.strict;
      outside = λ i le. refl;
      begins = subst (λ u. IsTrue (x u)) (sym (starts_at o.0 q.steps)) k.begins;
      ends = subst (λ u. IsTrue (y u)) (sym (ends_at o.0 q.steps ∙ q.ends)) k.ends;
    })
