-- Both counter-models fit the graph.
use Rattle.std.proofs.Common.{ℕ, suc, ◌+◌, ◌/◌, ◌%◌, ◌≡◌, ◌<◌, ◌≤◌, Bool, true, false, cond, eqb, not, refl, sym, ap, ap₂, ◌∙◌, ◌||◌, ◌&&◌, ◌⊎◌, inl}
use Rattle.std.proofs.Common.{inr, List, [], ◌∷◌, length, arith, ne_eqb, eqb-true}
use Rattle.std.proofs.lemmas.Bool.{and_from}
use Rattle.mixed_graph.specs.Vocabulary.{MixedGraph, IsMixedGraph}
use Rattle.finite_models.proofs.Following.{Follows}
use Rattle.finite_models.proofs.Indicators.{number}
use Rattle.finite_models.proofs.Bools.{and_first, and_second}
use Rattle.finite_models.proofs.SumLaws.{eqb-refl}
use Rattle.finite_models.specs.Vocabulary.{differ}
use Rattle.counter_models.specs.Parities.{bit, chosen}
use Rattle.counter_models.specs.Links.{Link, at_vertex, is_end, LinksAreEdges}
use Rattle.counter_models.specs.Hedges.{ParityHedge, IsParityHedge, links_of, IsNumbered}
use Rattle.counter_models.specs.ParityPairs.{value, hedge_bit, carried_bit, world_bit, at_second, chooses, first_bit, second_bit, carries, top_bit}
use Rattle.counter_models.specs.ParityPairs.{first_mechanism, second_mechanism, counter_model, serves_of}
use Rattle.counter_models.proofs.ParityLaws.{odd-congr}
use Rattle.counter_models.proofs.Truths.{not_true}

-- one side of a true disjunction is true
pub or_split : (p q : Bool) → (p || q) ≡ true → (p ≡ true) ⊎ (q ≡ true)
or_split true q e = inl refl
or_split false q e = inr e

-- a disjunction is true where its first side is
pub or_first : (p q : Bool) → p ≡ true → (p || q) ≡ true
or_first true q e = refl
or_first false q e = absurd (grind (arith, e))

-- a disjunction is true where its second side is
pub or_second : (p q : Bool) → q ≡ true → (p || q) ≡ true
or_second true q e = refl
or_second false q e = e

end_place : (k : ℕ) (r : List Link) (j v : ℕ) → is_end k r j v ≡ true → (k ≤ j) × (j < k + length r)
end_place k [] j v e = absurd (grind (arith, e))
end_place k (p ∷ r) j v e = go (eqb j k) refl e (end_place (suc k) r j v)
  where
    go : (c : Bool) → eqb j k ≡ c → cond c (eqb v p.entry || eqb v p.partner) (is_end (suc k) r j v) ≡ true
        → (is_end (suc k) r j v ≡ true → (suc k ≤ j) × (j < suc k + length r)) → (k ≤ j) × (j < k + suc (length r))
    go true q e ih = let s = eqb-true j k q in (omega arith, omega arith)
    go false q e ih = let t = ih e in (omega (arith, t.0), omega (arith, t.1))

two_ends : (g : MixedGraph) (p : Link) (u v : ℕ) → ((u v : ℕ) → g.both u v ≡ true → g.both v u ≡ true) → g.both p.entry p.partner ≡ true → (u ≡ v → ⊥)
    → (eqb u p.entry || eqb u p.partner) ≡ true → (eqb v p.entry || eqb v p.partner) ≡ true → g.both u v ≡ true
two_ends g p u v sym' b ne e f = go (or_split (eqb u p.entry) (eqb u p.partner) e) (or_split (eqb v p.entry) (eqb v p.partner) f)
  where
    go : (eqb u p.entry ≡ true) ⊎ (eqb u p.partner ≡ true) → (eqb v p.entry ≡ true) ⊎ (eqb v p.partner ≡ true) → g.both u v ≡ true
    go (inl a) (inl c) = absurd (ne (eqb-true u p.entry a ∙ sym (eqb-true v p.entry c)))
    go (inl a) (inr c) = rw (eqb-true u p.entry a, eqb-true v p.partner c) b
    go (inr a) (inl c) = rw (eqb-true u p.partner a, eqb-true v p.entry c) (sym' p.entry p.partner b)
    go (inr a) (inr c) = absurd (ne (eqb-true u p.partner a ∙ sym (eqb-true v p.partner c)))

ends_joined : (g : MixedGraph) → ((u v : ℕ) → g.both u v ≡ true → g.both v u ≡ true) → (k : ℕ) (r : List Link) (j u v : ℕ) → LinksAreEdges g r → (u ≡ v → ⊥)
    → is_end k r j u ≡ true → is_end k r j v ≡ true → g.both u v ≡ true
ends_joined g sym' k [] j u v h ne e f = absurd (grind (arith, e))
ends_joined g sym' k (p ∷ r) j u v h ne e f = go (eqb j k) e f (ends_joined g sym' (suc k) r j u v h.1 ne)
  where
    go : (c : Bool) → cond c (eqb u p.entry || eqb u p.partner) (is_end (suc k) r j u) ≡ true
        → cond c (eqb v p.entry || eqb v p.partner) (is_end (suc k) r j v) ≡ true
        → (is_end (suc k) r j u ≡ true → is_end (suc k) r j v ≡ true → g.both u v ≡ true) → g.both u v ≡ true
    go true e f ih = two_ends g p u v sym' h.0 ne e f
    go false e f ih = ih e f

at_vertex-ends : (k : ℕ) (r : List Link) (x y : ℕ → Bool) (v : ℕ) → ((j : ℕ) → is_end k r j v ≡ true → x j ≡ y j) → at_vertex k r x v ≡ at_vertex k r y v
at_vertex-ends k [] x y v h = refl
at_vertex-ends k (p ∷ r) x y v h =
    ap₂ differ (here (eqb v p.entry) (eqb v p.partner) (λ e. h k (rw (eqb-refl k) e)))
    (at_vertex-ends (suc k) r x y v (λ j e. h j (rw (ne_eqb j k (let t = end_place (suc k) r j v e in omega (arith, t.0))) e)))
  where
    here : (a b : Bool) → ((a || b) ≡ true → x k ≡ y k) → (differ a b && x k) ≡ (differ a b && y k)
    here true true h = refl
    here true false h = h refl
    here false true h = h refl
    here false false h = refl

value_low : (b k h t : Bool) → value b k h t < cond b (cond k 4 2) (cond k 2 1)
value_low true true true true = omega arith
value_low true true true false = omega arith
value_low true true false true = omega arith
value_low true true false false = omega arith
value_low true false true t = omega arith
value_low true false false t = omega arith
value_low false true h true = omega arith
value_low false true h false = omega arith
value_low false false h t = omega arith

size_pos : (b k : Bool) → 0 < cond b (cond k 4 2) (cond k 2 1)
size_pos true true = omega arith
size_pos true false = omega arith
size_pos false true = omega arith
size_pos false false = omega arith

module _ (g : MixedGraph) (x : ℕ → Bool) (d : ParityHedge) (ok : IsParityHedge g x d) (numbered : IsNumbered d) (is_graph : IsMixedGraph g)
    (inner_joined : LinksAreEdges g d.inner) (outer_joined : LinksAreEdges g d.outer) where
  -- the four ways in which a cause serves a vertex
  joined : (j u v : ℕ) → j < d.causes → serves_of d j u ≡ true → serves_of d j v ≡ true → (u ≡ v → ⊥) → g.both u v ≡ true
  joined j u v jl su sv ne = inner (or_split (is_end 0 d.inner j u) (is_end (length d.inner) d.outer j u
      || ((d.small u && eqb j (d.small_cause u)) || (d.kept u && eqb j (d.kept_cause u)))) su)
      (or_split (is_end 0 d.inner j v) (is_end (length d.inner) d.outer j v
      || ((d.small v && eqb j (d.small_cause v)) || (d.kept v && eqb j (d.kept_cause v)))) sv)
    where
      Private : ℕ → Type 0
      Private w = ((d.small w && eqb j (d.small_cause w)) || (d.kept w && eqb j (d.kept_cause w))) ≡ true

      high : (w : ℕ) → Private w → links_of d ≤ j
      high w e = go (or_split (d.small w && eqb j (d.small_cause w)) (d.kept w && eqb j (d.kept_cause w)) e)
        where
          go : ((d.small w && eqb j (d.small_cause w)) ≡ true) ⊎ ((d.kept w && eqb j (d.kept_cause w)) ≡ true) → links_of d ≤ j
          go (inl a) = omega (
            arith,
            ok.own_high w (and_first (d.small w) (eqb j (d.small_cause w)) a),
            eqb-true j (d.small_cause w) (and_second (d.small w) (eqb j (d.small_cause w)) a),
          )
          go (inr b) = omega (
            arith,
            ok.top_high w (and_first (d.kept w) (eqb j (d.kept_cause w)) b),
            eqb-true j (d.kept_cause w) (and_second (d.kept w) (eqb j (d.kept_cause w)) b),
          )

      held_by : (w : ℕ) → Private w → numbered.holder j ≡ w
      held_by w e = go (or_split (d.small w && eqb j (d.small_cause w)) (d.kept w && eqb j (d.kept_cause w)) e)
        where
          go : ((d.small w && eqb j (d.small_cause w)) ≡ true) ⊎ ((d.kept w && eqb j (d.kept_cause w)) ≡ true) → numbered.holder j ≡ w
          go (inl a) = ap numbered.holder (eqb-true j (d.small_cause w) (and_second (d.small w) (eqb j (d.small_cause w)) a))
              ∙ numbered.own_holder w (and_first (d.small w) (eqb j (d.small_cause w)) a)
          go (inr b) = ap numbered.holder (eqb-true j (d.kept_cause w) (and_second (d.kept w) (eqb j (d.kept_cause w)) b))
              ∙ numbered.top_holder w (and_first (d.kept w) (eqb j (d.kept_cause w)) b)

      Rest : ℕ → Type 0
      Rest w = (is_end (length d.inner) d.outer j w || ((d.small w && eqb j (d.small_cause w)) || (d.kept w && eqb j (d.kept_cause w)))) ≡ true

      after : (w : ℕ) → Rest w → length d.inner ≤ j
      after w e = go (or_split (is_end (length d.inner) d.outer j w) ((d.small w && eqb j (d.small_cause w)) || (d.kept w && eqb j (d.kept_cause w))) e)
        where
          go : (is_end (length d.inner) d.outer j w ≡ true) ⊎ (((d.small w && eqb j (d.small_cause w)) || (d.kept w && eqb j (d.kept_cause w))) ≡ true)
              → length d.inner ≤ j
          go (inl a) = (end_place (length d.inner) d.outer j w a).0
          go (inr b) = omega (arith, high w b)

      outer : (is_end (length d.inner) d.outer j u ≡ true) ⊎ Private u → (is_end (length d.inner) d.outer j v ≡ true) ⊎ Private v → g.both u v ≡ true
      outer (inl a) (inl b) = ends_joined g is_graph.symmetric (length d.inner) d.outer j u v outer_joined ne a b
      outer (inl a) (inr b) = absurd (omega (arith, (end_place (length d.inner) d.outer j u a).1, high v b))
      outer (inr a) (inl b) = absurd (omega (arith, (end_place (length d.inner) d.outer j v b).1, high u a))
      outer (inr a) (inr b) = absurd (ne (sym (held_by u a) ∙ held_by v b))

      inner : (is_end 0 d.inner j u ≡ true) ⊎ Rest u → (is_end 0 d.inner j v ≡ true) ⊎ Rest v → g.both u v ≡ true
      inner (inl a) (inl b) = ends_joined g is_graph.symmetric 0 d.inner j u v inner_joined ne a b
      inner (inl a) (inr b) = absurd (omega (arith, (end_place 0 d.inner j u a).1, after v b))
      inner (inr a) (inl b) = absurd (omega (arith, (end_place 0 d.inner j v b).1, after u a))
      inner (inr a) (inr b) = outer (or_split (is_end (length d.inner) d.outer j u)
          ((d.small u && eqb j (d.small_cause u)) || (d.kept u && eqb j (d.kept_cause u))) a)
          (or_split (is_end (length d.inner) d.outer j v) ((d.small v && eqb j (d.small_cause v)) || (d.kept v && eqb j (d.kept_cause v))) b)

  module _ (v : ℕ) (s t u w : ℕ → ℕ) (parents : (p : ℕ) → g.arrow p v ≡ true → s p ≡ t p)
      (served : (j : ℕ) → j < d.causes → serves_of d j v ≡ true → u j ≡ w j) where
    chosen_alike : (A : ℕ → Bool) → ((i : ℕ) → A i ≡ true → d.big i ≡ true) → chosen g.vertices (chooses d A) d.choice (hedge_bit d s) v
        ≡ chosen g.vertices (chooses d A) d.choice (hedge_bit d t) v
    chosen_alike A ab = odd-congr g.vertices (λ i. chooses d A i && (eqb v (d.choice i) && hedge_bit d s i))
        (λ i. chooses d A i && (eqb v (d.choice i) && hedge_bit d t i))
        (λ i lt. at (chooses d A i) (eqb v (d.choice i)) (hedge_bit d s i) (hedge_bit d t i)
        (λ c e. ap (λ r. bit (r % 2)) (parents i (rw (eqb-true v (d.choice i) e)
        (ok.choice_arrow i (ab i (and_first (A i) (not (d.roots i)) c)) (not_true (d.roots i) (and_second (A i) (not (d.roots i)) c)))))))
      where
        at : (c e h k : Bool) → (c ≡ true → e ≡ true → h ≡ k) → (c && (e && h)) ≡ (c && (e && k))
        at true true h k f = f refl refl
        at true false h k f = refl
        at false e h k f = refl

    carried_alike : chosen g.vertices (carries d) d.carry (carried_bit d s) v ≡ chosen g.vertices (carries d) d.carry (carried_bit d t) v
    carried_alike = odd-congr g.vertices (λ i. carries d i && (eqb v (d.carry i) && carried_bit d s i))
        (λ i. carries d i && (eqb v (d.carry i) && carried_bit d t i))
        (λ i lt. at (carries d i) (eqb v (d.carry i)) (carried_bit d s i) (carried_bit d t i)
        (λ c e. ap (λ r. cond (d.big i) (bit (r / 2)) (bit r)) (parents i
        (rw (eqb-true v (d.carry i) e) (ok.carry_arrow i (and_first (d.kept i) (not (d.target i)) c)
        (not_true (d.target i) (and_second (d.kept i) (not (d.target i)) c)))))))
      where
        at : (c e h k : Bool) → (c ≡ true → e ≡ true → h ≡ k) → (c && (e && h)) ≡ (c && (e && k))
        at true true h k f = f refl refl
        at true false h k f = refl
        at false e h k f = refl

    inner_alike : at_vertex 0 d.inner (world_bit u) v ≡ at_vertex 0 d.inner (world_bit w) v
    inner_alike = at_vertex-ends 0 d.inner (world_bit u) (world_bit w) v
        (λ j e. ap bit (served j (omega (arith, (end_place 0 d.inner j v e).1, ok.links_low))
        (or_first (is_end 0 d.inner j v) (is_end (length d.inner) d.outer j v
        || ((d.small v && eqb j (d.small_cause v)) || (d.kept v && eqb j (d.kept_cause v)))) e)))

    outer_alike : at_vertex (length d.inner) d.outer (world_bit u) v ≡ at_vertex (length d.inner) d.outer (world_bit w) v
    outer_alike = at_vertex-ends (length d.inner) d.outer (world_bit u) (world_bit w) v
        (λ j e. ap bit (served j (omega (arith, (end_place (length d.inner) d.outer j v e).1, ok.links_low))
        (or_second (is_end 0 d.inner j v) (is_end (length d.inner) d.outer j v
        || ((d.small v && eqb j (d.small_cause v)) || (d.kept v && eqb j (d.kept_cause v))))
        (or_first (is_end (length d.inner) d.outer j v) ((d.small v && eqb j (d.small_cause v)) || (d.kept v && eqb j (d.kept_cause v))) e))))

    own_alike : d.small v ≡ true → world_bit u (d.small_cause v) ≡ world_bit w (d.small_cause v)
    own_alike e = ap bit (served (d.small_cause v) (ok.own_low v e)
        (or_second (is_end 0 d.inner (d.small_cause v) v) (is_end (length d.inner) d.outer (d.small_cause v) v
        || ((d.small v && eqb (d.small_cause v) (d.small_cause v)) || (d.kept v && eqb (d.small_cause v) (d.kept_cause v))))
        (or_second (is_end (length d.inner) d.outer (d.small_cause v) v)
        ((d.small v && eqb (d.small_cause v) (d.small_cause v)) || (d.kept v && eqb (d.small_cause v) (d.kept_cause v)))
        (or_first (d.small v && eqb (d.small_cause v) (d.small_cause v)) (d.kept v && eqb (d.small_cause v) (d.kept_cause v))
        (and_from (d.small v) (eqb (d.small_cause v) (d.small_cause v)) e (eqb-refl (d.small_cause v)))))))

    top_alike : d.kept v ≡ true → world_bit u (d.kept_cause v) ≡ world_bit w (d.kept_cause v)
    top_alike e = ap bit (served (d.kept_cause v) (ok.top_low v e)
        (or_second (is_end 0 d.inner (d.kept_cause v) v) (is_end (length d.inner) d.outer (d.kept_cause v) v
        || ((d.small v && eqb (d.kept_cause v) (d.small_cause v)) || (d.kept v && eqb (d.kept_cause v) (d.kept_cause v))))
        (or_second (is_end (length d.inner) d.outer (d.kept_cause v) v)
        ((d.small v && eqb (d.kept_cause v) (d.small_cause v)) || (d.kept v && eqb (d.kept_cause v) (d.kept_cause v)))
        (or_second (d.small v && eqb (d.kept_cause v) (d.small_cause v)) (d.kept v && eqb (d.kept_cause v) (d.kept_cause v))
        (and_from (d.kept v) (eqb (d.kept_cause v) (d.kept_cause v)) e (eqb-refl (d.kept_cause v)))))))

    when : (p a b : Bool) → (p ≡ true → a ≡ b) → (p && a) ≡ (p && b)
    when true a b h = h refl
    when false a b h = refl

    first_alike : first_bit g.vertices d s u v ≡ first_bit g.vertices d t w v
    first_alike = ap₂ differ (chosen_alike d.big (λ i e. e)) (ap₂ differ (ap₂ differ inner_alike outer_alike)
        (when (d.small v) (world_bit u (d.small_cause v)) (world_bit w (d.small_cause v)) own_alike))

    second_alike : second_bit g.vertices d s u v ≡ second_bit g.vertices d t w v
    second_alike = go (d.small v) (λ e. ap₂ differ (chosen_alike d.small ok.small_big) (ap₂ differ inner_alike (own_alike e)))
      where
        go : (c : Bool) → (c ≡ true → differ (chosen g.vertices (chooses d d.small) d.choice (hedge_bit d s) v) (at_second d (world_bit u) v)
            ≡ differ (chosen g.vertices (chooses d d.small) d.choice (hedge_bit d t) v) (at_second d (world_bit w) v))
            → cond c (differ (chosen g.vertices (chooses d d.small) d.choice (hedge_bit d s) v) (at_second d (world_bit u) v)) (first_bit g.vertices d s u v)
            ≡ cond c (differ (chosen g.vertices (chooses d d.small) d.choice (hedge_bit d t) v) (at_second d (world_bit w) v)) (first_bit g.vertices d t w v)
        go true h = h refl
        go false h = first_alike

    values_alike : (h k : Bool) → h ≡ k → value (d.big v) (d.kept v) h (top_bit g.vertices d s u h v)
        ≡ value (d.big v) (d.kept v) k (top_bit g.vertices d t w k v)
    values_alike h k e = go (d.big v) (d.kept v) (λ q. ap₂ differ carried_alike (ap₂ differ (ap (λ r. d.roots v && r) e) (top_alike q)))
      where
        go : (b c : Bool) → (c ≡ true → top_bit g.vertices d s u h v ≡ top_bit g.vertices d t w k v) → value b c h (top_bit g.vertices d s u h v)
            ≡ value b c k (top_bit g.vertices d t w k v)
        go true true f = ap₂ (value true true) e (f refl)
        go true false f = ap number e
        go false true f = ap number (f refl)
        go false false f = refl

  pub first_fits : Follows g (counter_model g.vertices d (serves_of d) (first_mechanism g.vertices d))
  first_fits = record {
    vertices = refl;
    joined = joined;
    reads = λ v lt s t u w hp hc. values_alike v s t u w hp hc (first_bit g.vertices d s u v) (first_bit g.vertices d t w v) (first_alike v s t u w hp hc);
    below = λ v lt s u hs hu. value_low (d.big v) (d.kept v) (first_bit g.vertices d s u v) (top_bit g.vertices d s u (first_bit g.vertices d s u v) v);
    positive_size = λ v lt. size_pos (d.big v) (d.kept v);
  }

  pub second_fits : Follows g (counter_model g.vertices d (serves_of d) (second_mechanism g.vertices d))
  second_fits = record {
    vertices = refl;
    joined = joined;
    reads = λ v lt s t u w hp hc. values_alike v s t u w hp hc (second_bit g.vertices d s u v) (second_bit g.vertices d t w v) (second_alike v s t u w hp hc);
    below = λ v lt s u hs hu. value_low (d.big v) (d.kept v) (second_bit g.vertices d s u v) (top_bit g.vertices d s u (second_bit g.vertices d s u v) v);
    positive_size = λ v lt. size_pos (d.big v) (d.kept v);
  }
