-- Hedges that are alike give models that say the same.
use Rattle.std.proofs.Common.{◌≡◌, ℕ, zero, suc, ◌+◌, ◌-◌, ◌<◌, ◌≤◌, ◌==◌, ◌||◌, ◌&&◌, Bool, true, false, cond, List, [], ◌∷◌, ◌++◌, length, get_or}
use Rattle.std.proofs.Common.{Option, Some, None, inl, inr, refl, sym, ap, ap₂, ◌∙◌, subst, arith}
use Rattle.std.specs.Prelude.{slice_index}
use Rattle.std.proofs.lemmas.Bool.{cases_Bool, cases_lt, and_parts}
use Rattle.mixed_graph.specs.Vocabulary.{has, members_below, MixedGraph, IsMixedGraph, Within}
use Rattle.mixed_graph.proofs.Masks.{same_from_has}
use Rattle.finite_models.specs.declared.model.Model.{Model}
use Rattle.finite_models.specs.declared.model.Part.{Part}
use Rattle.finite_models.specs.declared.model.Mechanism.{Mechanism}
use Rattle.finite_models.specs.declared.model.Mechanism.TheVariants.{Table, Parity}
use Rattle.finite_models.specs.Vocabulary.{weights_of, children_of}
use Rattle.finite_models.specs.declared.model.Cause.{Cause}
use Rattle.hedge.specs.declared.hedge.Hedge.{Hedge}
use Rattle.hedge.specs.Vocabulary.{size_of, IsInside}
use Rattle.identification_theory.proofs.Unique.{one_set}
use Rattle.counter_models.specs.declared.counter_pair.CounterPair.{CounterPair}
use Rattle.counter_models.specs.Vocabulary.{IsCarrier, AreCarriers, is_linked, before, small_cause, kept_cause, IsCauseAt, AreCauses, link_causes, IsHedgePart, IsCarriedPart, IsPartWhere, IsMechanismOf, IsModelOf, in_first, in_second, IsPairOf}
use Rattle.counter_models.specs.Pairs.{links_of}
use Rattle.counter_models.proofs.Counted.{find}
use Rattle.effect_answers.proofs.OneHedge.{AreAlike, one_nearest}

-- ---- lists of members

pub members_alike : (s t : ℕ → Bool) (k : ℕ) → ((v : ℕ) → v < k → t v ≡ s v) → members_below t k ≡ members_below s k
unfolding members_below
members_alike s t zero same = refl
members_alike s t (suc k) same = ap₂ (λ (ms : List ℕ) (b : Bool). ms ++ cond b (k ∷ []) [])
    (members_alike s t k (λ v lt. same v (omega (arith, lt)))) (same k (omega arith))

and_same : (c x y : Bool) → (c ≡ true → x ≡ y) → (c && x) ≡ (c && y)
and_same true x y h = h refl
and_same false x y h = refl

-- ---- causes

-- cause j has the same weights and children in both lists
record IsSameCause (cs ds : List Cause) (j : ℕ) : Type 0 where
  weights : weights_of ds j ≡ weights_of cs j
  children : children_of ds j ≡ children_of cs j

-- two lists of causes have the same children and weights, one by one
abbrev pub AreSameCauses : List Cause → List Cause → Type 0
AreSameCauses [] [] = Unit {0}
AreSameCauses [] (d ∷ ds) = ⊥
AreSameCauses (c ∷ cs) [] = ⊥
AreSameCauses (c ∷ cs) (d ∷ ds) = (d.children.bits ≡ c.children.bits) × (d.weights.items ≡ c.weights.items) × AreSameCauses cs ds

causes_same : (cs ds : List Cause) → length ds ≡ length cs → ((i : ℕ) → i < length cs → IsSameCause cs ds i) → AreSameCauses cs ds
causes_same [] [] e same = tt
causes_same [] (d ∷ ds) e same = absurd (omega (arith, e))
causes_same (c ∷ cs) [] e same = absurd (omega (arith, e))
causes_same (c ∷ cs) (d ∷ ds) e same =
    let first = same 0 (omega arith) in (
      first.children,
      first.weights,
      causes_same cs ds (omega (arith, e))
          (λ i lt. let s = same (suc i) (omega (arith, lt)) in record { weights = s.weights; children = s.children }),
    )

module _ (h k : Hedge) (a : AreAlike h k) where
  links_of_same : links_of k ≡ links_of h
  links_of_same = ap (λ (n : ℕ). n - 1) a.count

  linked_same : (j : ℕ) → j < links_of h → (v : ℕ) → is_linked k j v ≡ is_linked h j v
  linked_same j lt v = ap₂ (λ (u w : ℕ). (v == u) || (v == w)) (a.entries (suc j) (omega (arith, lt))) (a.partners (suc j) (omega arith) (omega (arith, lt)))

  small_cause_same : (v : ℕ) → small_cause k v ≡ small_cause h v
  small_cause_same v = ap₂ (λ (n s : ℕ). n + before s v) links_of_same a.small

  kept_cause_same : (kept v : ℕ) → kept_cause k kept v ≡ kept_cause h kept v
  kept_cause_same kept v = ap₂ (λ (n s : ℕ). n + size_of s + before kept v) links_of_same a.small

  module _ (kept : ℕ) (cs ds : List Cause) (c : AreCauses h kept cs) (d : AreCauses k kept ds) where
    as_many : length ds ≡ length cs
    as_many = d.count ∙ ap₂ (λ (n s : ℕ). n + size_of s + size_of kept) links_of_same a.small ∙ sym c.count

    both_at : (j i u : ℕ) (w : List ℕ) (s t : ℕ → Bool) → i ≡ j → u ≡ j → ((v : ℕ) → t v ≡ s v) → IsCauseAt cs i w s → IsCauseAt ds u w t
        → IsSameCause cs ds j
    both_at j i u w s t e f same p q =
        let at_c = subst (λ (n : ℕ). IsCauseAt cs n w s) e p in
        let at_d = subst (λ (n : ℕ). IsCauseAt ds n w t) f q in
        record {
          weights = at_d.weights_are ∙ sym at_c.weights_are;
          children = same_from_has (children_of ds j) (children_of cs j) (λ v. at_d.children_are v ∙ same v ∙ sym (at_c.children_are v));
        }

    cause_same : (j : ℕ) → j < length cs → IsSameCause cs ds j
    cause_same j lt = elim (cases_lt j (links_of h)) [
      | inl low ↦ both_at j j j (1 ∷ 1 ∷ []) (is_linked h j) (is_linked k j) refl refl (linked_same j low) (c.links j low)
          (d.links j (let e = links_of_same in omega (arith, e, low)))
      | inr past ↦ elim (cases_lt j (links_of h + size_of h.small.bits)) [
        | inl low ↦
            let f = find h.small.bits 64 (j - links_of h) (omega (arith, past, low)) in
            let e : small_cause h f.0 ≡ j = let b = f.3 in omega (arith, past, b) in
            both_at j (small_cause h f.0) (small_cause k f.0) (3 ∷ 1 ∷ []) (λ u. u == f.0) (λ u. u == f.0) e (small_cause_same f.0 ∙ e) (λ v. refl)
            (c.small f.0 f.2) (d.small f.0 (ap (λ (s : ℕ). has s f.0) a.small ∙ f.2))
        | inr more ↦
            let f = find kept 64 (j - (links_of h + size_of h.small.bits)) (let n = c.count in omega (arith, more, lt, n)) in
            let e : kept_cause h kept f.0 ≡ j = let b = f.3 in omega (arith, more, b) in
            both_at j (kept_cause h kept f.0) (kept_cause k kept f.0) (3 ∷ 1 ∷ []) (λ u. u == f.0) (λ u. u == f.0) e (kept_cause_same kept f.0 ∙ e)
            (λ v. refl) (c.kept_ones f.0 f.2) (d.kept_ones f.0 f.2)
      ]
    ]

    causes_alike : AreSameCauses cs ds
    causes_alike = causes_same cs ds as_many cause_same

-- ---- parts

-- two parts read the same
pub record IsSamePart (p q : Part) : Type 0 where
  pub hedges : q.hedge_of.bits ≡ p.hedge_of.bits
  pub carrieds : q.carried_of.bits ≡ p.carried_of.bits
  pub own : q.own_hedge ≡ p.own_hedge
  pub causes : q.causes.items ≡ p.causes.items

-- both are missing, or both are there and read the same
abbrev pub AreSameParts : Option Part → Option Part → Type 0
AreSameParts None None = Unit {0}
AreSameParts None (Some q) = ⊥
AreSameParts (Some p) None = ⊥
AreSameParts (Some p) (Some q) = IsSamePart p q

-- two parities of parts that read the same
abbrev pub IsSameMechanism : Mechanism → Mechanism → Type 0
IsSameMechanism (Table outputs) n = ⊥
IsSameMechanism (Parity p c) (Table outputs) = ⊥
IsSameMechanism (Parity p c) (Parity q d) = AreSameParts p q × AreSameParts c d

-- two lists of mechanisms are the same, one by one
abbrev pub AreSameMechanisms : List Mechanism → List Mechanism → Type 0
AreSameMechanisms [] [] = Unit {0}
AreSameMechanisms [] (n ∷ ns) = ⊥
AreSameMechanisms (m ∷ ms) [] = ⊥
AreSameMechanisms (m ∷ ms) (n ∷ ns) = IsSameMechanism m n × AreSameMechanisms ms ns

parts_same : (b : Bool) (P Q : Part → Type 0) (p q : Option Part) → IsPartWhere b P p → IsPartWhere b Q q → ((c d : Part) → P c → Q d → IsSamePart c d)
    → AreSameParts p q
parts_same true P Q (Some p) (Some q) i j same = same p q i j
parts_same true P Q (Some p) None i j same = absurd j
parts_same true P Q None q i j same = absurd i
parts_same false P Q (Some p) q i j same = absurd i
parts_same false P Q None (Some q) i j same = absurd j
parts_same false P Q None None i j same = tt

mechanisms_same : (ms ns : List Mechanism) → length ns ≡ length ms
    → ((i : ℕ) → i < length ms → (past : Mechanism) → IsSameMechanism (get_or ms i past) (get_or ns i past)) → AreSameMechanisms ms ns
mechanisms_same [] [] e same = tt
mechanisms_same [] (n ∷ ns) e same = absurd (omega (arith, e))
mechanisms_same (m ∷ ms) [] e same = absurd (omega (arith, e))
mechanisms_same (m ∷ ms) (n ∷ ns) e same =
    (same 0 (omega arith) m, mechanisms_same ms ns (omega (arith, e)) (λ i lt past. same (suc i) (omega (arith, lt)) past))

module _ (h k : Hedge) (a : AreAlike h k) (kept : ℕ) (carry other : List ℕ) (carried : (u : ℕ) → has kept u ≡ true → slice_index other u ≡ slice_index carry u)
  where
    hedge_parts : (s : ℕ) → ((u : ℕ) → has s u ≡ true → u < 64) → (v : ℕ) (p q : Part) → IsHedgePart h s v p → IsHedgePart k s v q → IsSamePart p q
    hedge_parts s low v p q i j = record {
      hedges = same_from_has q.hedge_of.bits p.hedge_of.bits (λ u. j.hedges u
          ∙ and_same (has s u) (slice_index k.choice.next u == v) (slice_index h.choice.next u == v) (λ e. ap (λ (n : ℕ). n == v) (a.choices u (low u e)))
          ∙ sym (i.hedges u));
      carrieds = same_from_has q.carried_of.bits p.carried_of.bits (λ u. j.carrieds u ∙ sym (i.carrieds u));
      own = j.own ∙ sym i.own;
      causes = j.causes ∙ ap₂ (λ (l m : List ℕ). l ++ m) linked own ∙ sym i.causes;
    }
      where
        linked : link_causes k s v ≡ link_causes h s v
        linked = ap (members_below (λ n. is_linked k n v && has s (slice_index k.links.found (suc n)))) (links_of_same h k a)
            ∙ members_alike (λ n. is_linked h n v && has s (slice_index h.links.found (suc n)))
            (λ n. is_linked k n v && has s (slice_index k.links.found (suc n))) (links_of h)
            (λ n lt. ap₂ (λ (b : Bool) (u : ℕ). b && has s u) (linked_same h k a n lt v) (a.entries (suc n) (omega (arith, lt))))

        own : cond (has k.small.bits v) (small_cause k v ∷ []) [] ≡ cond (has h.small.bits v) (small_cause h v ∷ []) []
        own = ap₂ (λ (s n : ℕ). cond (has s v) (n ∷ []) []) a.small (small_cause_same h k a v)

    carried_parts : (v : ℕ) (p q : Part) → IsCarriedPart h kept carry v p → IsCarriedPart k kept other v q → IsSamePart p q
    carried_parts v p q i j = record {
      hedges = same_from_has q.hedge_of.bits p.hedge_of.bits (λ u. j.hedges u ∙ sym (i.hedges u));
      carrieds = same_from_has q.carried_of.bits p.carried_of.bits (λ u. j.carrieds u
          ∙ and_same (has kept u) (slice_index other u == v) (slice_index carry u == v) (λ e. ap (λ (n : ℕ). n == v) (carried u e))
          ∙ sym (i.carrieds u));
      own = j.own ∙ ap (λ (s : ℕ). has s v) a.roots ∙ sym i.own;
      causes = j.causes ∙ ap (λ (n : ℕ). n ∷ []) (kept_cause_same h k a kept v) ∙ sym i.causes;
    }

    mechanism_alike : (s : ℕ) → ((u : ℕ) → has s u ≡ true → u < 64) → (v : ℕ) (m n : Mechanism)
        → IsMechanismOf h kept carry s v m → IsMechanismOf k kept other s v n → IsSameMechanism m n
    mechanism_alike s low v (Table outputs) n i j = absurd i
    mechanism_alike s low v (Parity p c) (Table outputs) i j = absurd j
    mechanism_alike s low v (Parity p c) (Parity q d) i j = (
      parts_same (has h.big.bits v) (IsHedgePart h s v) (IsHedgePart k s v) p q i.0
          (subst (λ (b : ℕ). IsPartWhere (has b v) (IsHedgePart k s v) q) a.big j.0) (hedge_parts s low v),
      parts_same (has kept v) (IsCarriedPart h kept carry v) (IsCarriedPart k kept other v) c d i.1 j.1 (carried_parts v),
    )

    model_alike : (g : MixedGraph) (sources also : ℕ → ℕ) → ((v : ℕ) → also v ≡ sources v)
        → ((v u : ℕ) → has (sources v) u ≡ true → u < 64) → (m n : Model) → IsModelOf g h kept carry sources m → IsModelOf g k kept other also n
        → AreSameMechanisms m.mechanisms.items n.mechanisms.items
    model_alike g sources also same low m n i j = mechanisms_same m.mechanisms.items n.mechanisms.items (j.all_mechanisms ∙ sym i.all_mechanisms) (λ v lt past.
        let below : v < g.vertices = let l = i.all_mechanisms in omega (arith, lt, l) in
        mechanism_alike (sources v) (low v) v (get_or m.mechanisms.items v past) (get_or n.mechanisms.items v past) (i.mechanisms v below past)
        (subst (λ (s : ℕ). IsMechanismOf k kept other s v (get_or n.mechanisms.items v past)) (same v) (j.mechanisms v below past)))

-- ---- pairs

-- two pairs have the same causes, mechanisms and events
pub record ArePairsAlike (p q : CounterPair) : Type 0 where
  pub causes : AreSameCauses p.first.causes.items q.first.causes.items
  pub first : AreSameMechanisms p.first.mechanisms.items q.first.mechanisms.items
  pub second : AreSameMechanisms p.second.mechanisms.items q.second.mechanisms.items
  pub event : q.event.bits ≡ p.event.bits
  pub noise : q.noise ≡ p.noise

-- carriers are vertices of the graph
carrier_below : (g : MixedGraph) → IsMixedGraph g → (x y roots : ℕ) → ((v : ℕ) → has roots v ≡ true → v < g.vertices) → (v : ℕ) → IsCarrier g x y roots v
    → v < g.vertices
carrier_below g valid x y roots low _ (IsCarrier.root {v = v} i) = low v i
carrier_below g valid x y roots low _ (IsCarrier.next {u = u} {v = v} c o n) = valid.head_below u v (and_parts (g.arrow u v) _ n.arrow).0

module _ (g : MixedGraph) (valid : IsMixedGraph g) (few : g.vertices ≤ 64) (x y : ℕ) (h k : Hedge) (a : AreAlike h k)
    (low : Within g.vertices (has h.big.bits)) (small_inside : IsInside h.small.bits h.big.bits) (roots_inside : IsInside h.roots.bits h.small.bits)
    (p q : CounterPair) (s : IsPairOf g x y h p) (t : IsPairOf g x y k q) where
  carriers_too : AreCarriers g x y h.roots.bits t.kept q.carry.next
  carriers_too = subst (λ (r : ℕ). AreCarriers g x y r t.kept q.carry.next) a.roots t.are_kept

  kept_same : t.kept ≡ s.kept
  kept_same = one_set t.kept s.kept (IsCarrier g x y h.roots.bits) (record { sound = carriers_too.sound; complete = carriers_too.complete })
      (record { sound = s.are_kept.sound; complete = s.are_kept.complete })

  kept_low : (u : ℕ) → has s.kept u ≡ true → u < 64
  kept_low u i =
      let lt = carrier_below g valid x y h.roots.bits (λ v r. low v (small_inside v (roots_inside v r))) u (s.are_kept.sound u i) in omega (arith, lt, few)

  carry_same : (u : ℕ) → has s.kept u ≡ true → slice_index q.carry.next u ≡ slice_index p.carry.next u
  carry_same u i =
      let there : has t.kept u ≡ true = ap (λ (n : ℕ). has n u) kept_same ∙ i in
      elim (cases_Bool (has y u)) [
        | inl in_y ↦ carriers_too.others u (kept_low u i) (inr in_y) ∙ sym (s.are_kept.others u (kept_low u i) (inr in_y))
        | inr out ↦ one_nearest _ (has y) u (slice_index p.carry.next u) (slice_index q.carry.next u) (s.are_kept.carries u i out)
            (carriers_too.carries u there out)
      ]

  big_low : (u : ℕ) → has h.big.bits u ≡ true → u < 64
  big_low u i = let lt = low u i in omega (arith, lt, few)

  second_low : (v u : ℕ) → has (in_second h v) u ≡ true → u < 64
  second_low v u = go (has h.small.bits v)
    where
      go : (b : Bool) → has (cond b h.small.bits h.big.bits) u ≡ true → u < 64
      go true i = big_low u (small_inside u i)
      go false i = big_low u i

  second_same : (v : ℕ) → in_second k v ≡ in_second h v
  second_same v = ap₂ (λ (m n : ℕ). cond (has m v) m n) a.small a.big

  first_too : IsModelOf g k s.kept q.carry.next (in_first k) q.first
  first_too = subst (λ (n : ℕ). IsModelOf g k n q.carry.next (in_first k) q.first) kept_same t.first

  second_too : IsModelOf g k s.kept q.carry.next (in_second k) q.second
  second_too = subst (λ (n : ℕ). IsModelOf g k n q.carry.next (in_second k) q.second) kept_same t.second

  -- hedges that are alike have pairs of models that are
  pub pairs_alike : ArePairsAlike p q
  pairs_alike =
      let kept = s.kept in
      let carry = p.carry.next in
      let other = q.carry.next in record {
        causes = causes_alike h k a kept p.first.causes.items q.first.causes.items s.first.causes first_too.causes;
        first = model_alike h k a kept carry other carry_same g (in_first h) (in_first k) (λ v. a.big) (λ v u i. big_low u i) p.first q.first s.first first_too;
        second = model_alike h k a kept carry other carry_same g (in_second h) (in_second k) second_same second_low p.second q.second s.second second_too;
        event = same_from_has q.event.bits p.event.bits (λ v. t.event v ∙ ap (λ (n : ℕ). has n v && has y v) kept_same ∙ sym (s.event v));
        noise = t.noise ∙ ap₂ (λ (m n : ℕ). size_of m + size_of n) a.small kept_same ∙ sym s.noise;
      }
