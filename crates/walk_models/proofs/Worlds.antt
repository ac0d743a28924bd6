-- The two worlds in which all of w is 0.
use Rattle.std.proofs.Common.{ℕ, zero, suc, ◌≡◌, ◌<◌, ◌≤◌, ◌⊎◌, inl, inr, Bool, true, false, cond, eqb, ltb, not, ◌&&◌, ◌||◌, ◌==◌, nat_lt, refl, sym}
use Rattle.std.proofs.Common.{ap, ap₂, ◌∙◌, arith, lt-ltb, ltb-true, eqb-true}
use Rattle.std.proofs.lemmas.Bool.{cases_lt}
use Rattle.mixed_graph.specs.Vocabulary.{has, MixedGraph, IsMixedGraph}
use Rattle.mixed_graph.proofs.Masks.{has-zero, zero_from_empty}
use Rattle.m_separation.specs.declared.marks.Mark.{Mark}
use Rattle.m_separation.specs.declared.marks.Mark.TheVariants.{Out, Into, Both}
use Rattle.m_separation.specs.Vocabulary.{heads_first, heads_second}
use Rattle.finite_models.specs.Vocabulary.{FiniteModel, IsAssignment, IsWorld, IsSolution, solution, intervene, agree, mask_of, differ}
use Rattle.finite_models.proofs.SumLaws.{eqb-refl}
use Rattle.finite_models.proofs.Bools.{not_both}
use Rattle.finite_models.proofs.Solutions.{agree_gives}
use Rattle.walk_models.specs.Visits.{Walk, IsWalkIn, IsPlain, IsStrict, head_before, head_after, is_collider}
use Rattle.walk_models.specs.WalkModels.{coin, is_both, sent_on, sent_back, has_own, has_coin, bit_of, from_before, from_after, new_bit, walk_model}
use Rattle.walk_models.proofs.Along.{last_bit, coins}
use Rattle.finite_models.proofs.Packed.{has-mask}
use Rattle.walk_models.proofs.Solved.{below_same, and_true, heads, heads_coin, solves_under, only_under, bit_under}
use Rattle.walk_models.proofs.WalkFits.{mask-congr, when}

pub mask_none : (t : ℕ → Bool) (n : ℕ) → ((i : ℕ) → i < n → t i ≡ false) → mask_of t n ≡ 0
mask_none t n h = zero_from_empty (mask_of t n) (λ v. has-mask t n v ∙ go v (cases_lt v n))
  where
    out : (b : Bool) (v n : ℕ) → n ≤ v → (b && nat_lt v n) ≡ false
    out b v n le = grind (arith, le)

    go : (v : ℕ) → (v < n) ⊎ (n ≤ v) → (t v && nat_lt v n) ≡ false
    go v (inl lt) = ap (λ b. b && nat_lt v n) (h v lt)
    go v (inr ge) = out (t v) v n ge

-- ---- what the vertices have in the world in which each coin is 1
abbrev pub tossed : Walk → ℕ → ℕ
tossed p v = mask_of (λ i. eqb v (p.at i) && not (is_collider p i)) (suc p.steps)

pub tossed_bit : (p : Walk) (i : ℕ) → i ≤ p.steps → bit_of p (tossed p) i ≡ not (is_collider p i)
tossed_bit p i le =
    has-mask (λ j. eqb (p.at i) (p.at j) && not (is_collider p j)) (suc p.steps) i
    ∙ and_true (eqb (p.at i) (p.at i) && not (is_collider p i)) (nat_lt i (suc p.steps)) (below_same (suc p.steps) i (omega (arith, le)))
    ∙ ap (λ c. c && not (is_collider p i)) (eqb-refl (p.at i))

-- in it all of w is 0, where the walk is strict
pub tossed_blank : (p : Walk) (w : ℕ → Bool) → IsStrict p w → (v : ℕ) → w v ≡ true → tossed p v ≡ 0
tossed_blank p w strict v e = mask_none (λ i. eqb v (p.at i) && not (is_collider p i)) (suc p.steps) (λ i il. here i (omega (arith, il)) (eqb v (p.at i)) refl)
  where
    here : (i : ℕ) → i ≤ p.steps → (q : Bool) → eqb v (p.at i) ≡ q → (q && not (is_collider p i)) ≡ false
    here i il true f = ap not (sym (strict i il) ∙ ap w (sym (eqb-true v (p.at i) f)) ∙ e)
    here i il false f = refl

module _ (g : MixedGraph) (ok : IsMixedGraph g) (p : Walk) (walk : IsWalkIn g p) (plain : IsPlain p) (last many : ℕ) (some : 1 ≤ many) (b : ℕ → Bool) where
  abbrev m : FiniteModel
  m = walk_model g.vertices p last many

  pub within : IsAssignment g.vertices m.size (λ v. 0)
  within v lt = omega arith

  -- under do(b), all of b being 0
  abbrev pub solved : (ℕ → ℕ) → ℕ → ℕ
  solved u = solution (intervene m b (λ v. 0)) u

  pub solves : (u : ℕ → ℕ) → IsSolution (intervene m b (λ v. 0)) u (solved u)
  solves = solves_under g ok p walk last many some b (λ v. 0) within

  pub only_one : (u t : ℕ → ℕ) → IsSolution (intervene m b (λ v. 0)) u t → (v : ℕ) → v < g.vertices → solved u v ≡ t v
  only_one = only_under g ok p walk last many some b (λ v. 0) within

  pub bit_is : (u : ℕ → ℕ) (i : ℕ) → i ≤ p.steps → b (p.at i) ≡ false → bit_of p (solved u) i ≡ new_bit p (solved u) u i
  bit_is = bit_under g ok p walk last many some b (λ v. 0) within

  -- a visit gets 0 where nothing is 1 and its coins aren't
  pub new_none : (u : ℕ → ℕ) (i : ℕ) → ((j : ℕ) → j ≤ i → u j ≡ 0) → new_bit p (λ v. 0) u i ≡ false
  new_none u i none = ap₂ differ (before i (λ j lt. none j (omega (arith, lt)))) (ap₂ differ after (own (has_own p i) (u i) (none i (omega arith))))
    where
      before : (i : ℕ) → ((j : ℕ) → j < i → u j ≡ 0) → from_before p (λ v. 0) u i ≡ false
      before zero none = refl
      before (suc i) none = sent (p.mark i) (has 0 i) (u i) (has-zero i) (none i (omega arith))
        where
          sent : (k : Mark) (a : Bool) (c : ℕ) → a ≡ false → c ≡ 0 → sent_on k a (c == 1) ≡ false
          sent Out a c e z = e
          sent Into a c e z = refl
          sent Both a c e z = rw z refl

      after : from_after p (λ v. 0) u i ≡ false
      after = sent (ltb i p.steps) (p.mark i) (has 0 (suc i)) (u i) (has-zero (suc i)) (none i (omega arith))
        where
          sent : (q : Bool) (k : Mark) (a : Bool) (c : ℕ) → a ≡ false → c ≡ 0 → (q && sent_back k a (c == 1)) ≡ false
          sent true Out a c e z = refl
          sent true Into a c e z = e
          sent true Both a c e z = rw z refl
          sent false k a c e z = refl

      own : (q : Bool) (c : ℕ) → c ≡ 0 → (q && (c == 1)) ≡ false
      own true c z = rw z refl
      own false c z = refl

  -- where no visit that isn't done gets 1, nothing is 1
  pub silent_where : (u : ℕ → ℕ) → ((i : ℕ) → i ≤ p.steps → b (p.at i) ≡ false → new_bit p (λ v. 0) u i ≡ false) → (v : ℕ) → v < g.vertices → solved u v ≡ 0
  silent_where u none = only_one u (λ v. 0) (λ v lt. go (b v) v refl)
    where
      go : (c : Bool) (v : ℕ) → b v ≡ c → 0 ≡ cond c 0 (mask_of (λ i. eqb v (p.at i) && new_bit p (λ v. 0) u i) (suc p.steps))
      go true v e = refl
      go false v e = sym (mask_none (λ i. eqb v (p.at i) && new_bit p (λ v. 0) u i) (suc p.steps) (λ i lt. here i (omega (arith, lt)) (eqb v (p.at i)) refl))
        where
          here : (i : ℕ) → i ≤ p.steps → (q : Bool) → eqb v (p.at i) ≡ q → (q && new_bit p (λ v. 0) u i) ≡ false
          here i le true f = none i le (ap b (sym (eqb-true v (p.at i) f)) ∙ e)
          here i le false f = refl

  -- where no coin is 1, nothing is
  pub silent : (u : ℕ → ℕ) → ((j : ℕ) → j ≤ p.steps → u j ≡ 0) → (v : ℕ) → v < g.vertices → solved u v ≡ 0
  silent u none = silent_where u (λ i le out. new_none u i (λ j jl. none j (omega (arith, jl, le))))

  module _ (w : ℕ → Bool) (strict : IsStrict p w) (outside : (i : ℕ) → i ≤ p.steps → b (p.at i) ≡ false) where
    blank : (u : ℕ → ℕ) → agree g.vertices w (solved u) (λ v. 0) ≡ true → (i : ℕ) → i ≤ p.steps → is_collider p i ≡ true → bit_of p (solved u) i ≡ false
    blank u e i le c = ap (λ x. has x i) (agree_gives g.vertices w (solved u) (λ v. 0) e (p.at i) (walk.vertex i le) (strict i le ∙ c)) ∙ has-zero i

    -- where w is 0, both ends have one bit
    pub one_end : (u : ℕ → ℕ) → agree g.vertices w (solved u) (λ v. 0) ≡ true → bit_of p (solved u) p.steps ≡ bit_of p (solved u) 0
    one_end u e = last_bit p (solved u) u plain (λ i lt. bit_is u i (omega (arith, lt)) (outside i (omega (arith, lt))))
        (λ i lt. blank u e i (omega (arith, lt))) (bit_is u p.steps (omega arith) (outside p.steps (omega arith))) p.steps refl

    -- and where that is 0, all is
    pub all_zero : (u : ℕ → ℕ) → IsWorld m u → agree g.vertices w (solved u) (λ v. 0) ≡ true → bit_of p (solved u) 0 ≡ false → (v : ℕ) → v < g.vertices
        → solved u v ≡ 0
    all_zero u world e z = silent u (λ j le. go j le (has_coin p j) refl (world j (omega (arith, le))))
      where
        low : (x : ℕ) → x < 2 → eqb x 1 ≡ false → x ≡ 0
        low zero lt q = refl
        low (suc zero) lt q = absurd (grind (arith, q))
        low (suc (suc x)) lt q = absurd (omega (arith, lt))

        go : (j : ℕ) → j ≤ p.steps → (c : Bool) → has_coin p j ≡ c → u j < cond c 2 1 → u j ≡ 0
        go j le true h lt =
            low (u j) lt (coins p (solved u) u plain (λ i il. bit_is u i (omega (arith, il)) (outside i (omega (arith, il))))
            (λ i il. blank u e i (omega (arith, il))) (bit_is u p.steps (omega arith) (outside p.steps (omega arith))) j le h ∙ z)
        go j le false h lt = omega (arith, lt)

  -- ---- the world in which each coin is 1
  tossed_new : (i : ℕ) → i ≤ p.steps → new_bit p (tossed p) (heads p) i ≡ not (is_collider p i)
  tossed_new i le =
      ap₂ differ (before_is i le) (ap₂ differ after_is own_is) ∙ joined (head_before p i) (head_after p i) (p.free i) (plain i)
    where
      joined : (h k f : Bool) → f ≡ false → differ h (differ k (not k && (not h || f))) ≡ not (h && k)
      joined true true f e = refl
      joined true false false e = refl
      joined false true f e = refl
      joined false false f e = refl
      joined true false true e = absurd (grind (arith, e))

      before_is : (i : ℕ) → i ≤ p.steps → from_before p (tossed p) (heads p) i ≡ head_before p i
      before_is zero le = refl
      before_is (suc j) le = go (p.mark j) refl
        where
          out : (h q : Bool) (k : Mark) → k ≡ Out → not (h && (q && heads_first k)) ≡ true
          out true true Out e = refl
          out true false Out e = refl
          out false q Out e = refl
          out h q Into e = absurd (cc)
          out h q Both e = absurd (cc)

          go : (k : Mark) → p.mark j ≡ k → sent_on k (bit_of p (tossed p) j) (coin (heads p) j) ≡ heads_second k
          go Out e = tossed_bit p j (omega (arith, le)) ∙ out (head_before p j) (ltb j p.steps) (p.mark j) e
          go Into e = refl
          go Both e = heads_coin p j (omega (arith, le)) ∙ rw (e, lt-ltb j p.steps le) refl

      after_is : from_after p (tossed p) (heads p) i ≡ head_after p i
      after_is = when (ltb i p.steps) (sent_back (p.mark i) (bit_of p (tossed p) (suc i)) (coin (heads p) i)) (heads_first (p.mark i))
          (λ l. go l (p.mark i) refl)
        where
          into : (q : Bool) (k : Mark) → k ≡ Into → not (heads_second k && q) ≡ true
          into q Into e = refl
          into q Out e = absurd (cc)
          into q Both e = absurd (cc)

          go : ltb i p.steps ≡ true → (k : Mark) → p.mark i ≡ k → sent_back k (bit_of p (tossed p) (suc i)) (coin (heads p) i) ≡ heads_first k
          go l Out e = refl
          go l Into e = tossed_bit p (suc i) (ltb-true i p.steps l) ∙ into (head_after p (suc i)) (p.mark i) e
          go l Both e = heads_coin p i le ∙ rw (e, l) refl

      own_is : (has_own p i && coin (heads p) i) ≡ has_own p i
      own_is = ap (λ c. has_own p i && c) (heads_coin p i le) ∙ go (has_own p i) (ltb i p.steps && is_both (p.mark i))
        where
          go : (o q : Bool) → (o && (q || o)) ≡ o
          go true true = refl
          go true false = refl
          go false q = refl

  -- it is a solution where no visit is in b
  pub tossed_solves : ((i : ℕ) → i ≤ p.steps → b (p.at i) ≡ false) → IsSolution (intervene m b (λ v. 0)) (heads p) (tossed p)
  tossed_solves outside v lt = go (b v) refl
    where
      go : (c : Bool) → b v ≡ c → tossed p v ≡ cond c 0 (mask_of (λ i. eqb v (p.at i) && new_bit p (tossed p) (heads p) i) (suc p.steps))
      go true e = mask_none (λ i. eqb v (p.at i) && not (is_collider p i)) (suc p.steps) (λ i il. here i (omega (arith, il)) (eqb v (p.at i)) refl)
        where
          here : (i : ℕ) → i ≤ p.steps → (q : Bool) → eqb v (p.at i) ≡ q → (q && not (is_collider p i)) ≡ false
          here i il true f = absurd (not_both (b (p.at i)) (ap b (sym (eqb-true v (p.at i) f)) ∙ e) (outside i il))
          here i il false f = refl
      go false e = mask-congr (λ i. eqb v (p.at i) && not (is_collider p i)) (λ i. eqb v (p.at i) && new_bit p (tossed p) (heads p) i) (suc p.steps)
          (λ i il. ap (λ c. eqb v (p.at i) && c) (sym (tossed_new i (omega (arith, il)))))
