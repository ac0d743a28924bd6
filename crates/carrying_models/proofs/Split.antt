-- A split district gives a pair of models: the coins of a walk inside it from one of its two children to the other.
use Rattle.std.proofs.Common.{ℕ, ◌⊎◌, inl, inr, ◌≡◌, Bool, true, false, refl, sym, ap, ap₂, ◌∙◌, ◌&&◌, eqb, eqb-true, ne_eqb}
use Rattle.std.proofs.Common.{subst, arith}
use Rattle.std.proofs.lemmas.Bool.{or_cases}
use Rattle.mixed_graph.specs.Vocabulary.{has, MixedGraph, IsMixedGraph, IsAncestor, induced, union, minus, all}
use Rattle.mixed_graph.proofs.MaskLaws.{has_join}
use Rattle.finite_models.specs.Vocabulary.{differ}
use Rattle.finite_models.proofs.Bools.{not_both}
use Rattle.finite_models.proofs.SumLaws.{eqb-refl}
use Rattle.do_rules.specs.Vocabulary.{cut_out}
use Rattle.counter_models.proofs.ParityLaws.{odd-congr}
use Rattle.nested_models.specs.Vocabulary.{IsNestedQuery, LeadsPast, LeadsThrough, IsSplitDistrict}
use Rattle.nested_models.proofs.Leading.{to_cut, past_or_through}
use Rattle.twisted_models.specs.Vocabulary.{AreApart}
use Rattle.carrying_models.specs.Apart.{SplitIsApart}
use Rattle.carrying_models.proofs.Core.{heads, tossed}
use Rattle.carrying_models.proofs.Pair.{Refuted, are_apart}
use Rattle.carrying_models.proofs.Walk.{EdgeWalk, walk_of, walk_coins, ends_alone, sum_even, one_member}
use Rattle.carrying_models.proofs.Witness.{witness_is_apart}

-- v leads to y, past m or through it, or to z, by a path without arrows out of x
abbrev LeadsOn : MixedGraph → (x m y z : ℕ → Bool) → ℕ → Type 0
LeadsOn g x m y z v = (LeadsPast g x m y v ⊎ LeadsThrough g x m y v) ⊎ IsAncestor (cut_out g x) z v

-- what leads to y or z outside x does so
leads_on : (g : MixedGraph) → IsMixedGraph g → (x m y z : ℕ) → IsNestedQuery g (has x) (has m) (has y) (has z) → (v : ℕ)
    → IsAncestor (induced g (has (minus (all g.vertices) x))) (has (union y z)) v → LeadsOn g (has x) (has m) (has y) (has z) v
leads_on g ok x m y z asked v l = elim (or_cases (has y k.end) (has z k.end) (sym (has_join y z k.end) ∙ k.inside)) [
  | inl a ↦ inl (past_or_through g ok (has x) (has m) (has y) asked.y_m k.end v k.path k.vertex k.leads a)
  | inr a ↦ inr (record { vertex = k.vertex; path = k.path; end = k.end; leads = k.leads; inside = a })
]
  where
    k : IsAncestor (cut_out g (has x)) (has (union y z)) v
    k = to_cut g (has x) x (λ p. refl) (has (union y z)) v l

module _ (g : MixedGraph) (ok : IsMixedGraph g) (x m y z : ℕ) where
  module _ (asked : IsNestedQuery g (has x) (has m) (has y) (has z)) (p t v w : ℕ) (split : IsSplitDistrict g x m y z p t v w) (apart : v ≡ w → ⊥) where
    walk : EdgeWalk g (has t) v w
    walk = walk_of g (has t) w split.second_in v (split.district.joined v w split.first_in split.second_in)

    abbrev f : ℕ → Bool
    f q = differ (eqb q v) (eqb q w)

    arrows : (i : ℕ) → f i ≡ true → g.arrow p i ≡ true
    arrows i e = go (eqb i v) (eqb i w) refl refl e
      where
        go : (a b : Bool) → eqb i v ≡ a → eqb i w ≡ b → differ a b ≡ true → g.arrow p i ≡ true
        go true b q r h = ap (g.arrow p) (eqb-true i v q) ∙ split.first_child
        go false true q r h = ap (g.arrow p) (eqb-true i w r) ∙ split.second_child
        go false false q r h = absurd (grind (arith, h))

    -- such parities would add up to one, since they are those of v alone
    refuted : Refuted g ok x m y z asked (walk_coins g ok (has t) v w walk) p split.from_x f arrows
        (λ q ql. ends_alone g ok (has t) v w walk q) (ok.tail_below p v split.first_child)
    refuted u past_is through_is before_is =
        not_both (has t v) split.first_in
        (sym (one_member g.vertices v (has t) (ok.head_below p v split.first_child))
        ∙ odd-congr g.vertices (λ q. has t q && eqb q v) (λ q. has t q && toss q) (λ q ql. member q (has t q) refl)
        ∙ sum_even g ok (has t) v w walk (λ j. heads g (walk_coins g ok (has t) v w walk) (has x) (has m) p (u j)))
      where
        toss : ℕ → Bool
        toss = tossed g (walk_coins g ok (has t) v w walk) (has x) (has m) p u

        at : (q : ℕ) → (a b : Bool) → eqb q v ≡ a → eqb q w ≡ b → LeadsOn g (has x) (has m) (has y) (has z) q → a ≡ toss q
        at q true b e h k =
            sym (ap toss (eqb-true q v e) ∙ past_is v split.past ∙ ap₂ differ (eqb-refl v) (ne_eqb v w apart))
        at q false true e h k = sym (ap toss (eqb-true q w h) ∙ through_is w split.through)
        at q false false e h (inl (inl l)) = sym (past_is q l ∙ ap₂ differ e h)
        at q false false e h (inl (inr l)) = sym (through_is q l)
        at q false false e h (inr l) = sym (before_is q l)

        member : (q : ℕ) (b : Bool) → has t q ≡ b → (has t q && eqb q v) ≡ (has t q && toss q)
        member q true i =
            ap (λ r. has t q && r) (at q (eqb q v) (eqb q w) refl refl (leads_on g ok x m y z asked q (split.ancestors.sound q (split.district.inside q i))))
        member q false o = rw o refl

    pub parted : AreApart g x m y z
    parted = are_apart g ok x m y z asked (walk_coins g ok (has t) v w walk) p split.from_x f arrows (λ q ql. ends_alone g ok (has t) v w walk q)
        (ok.tail_below p v split.first_child) refuted

pub split_is_apart : SplitIsApart
split_is_apart g ok x m y z p t v w asked split = go (eqb v w) refl
  where
    go : (b : Bool) → eqb v w ≡ b → AreApart g x m y z
    go true e = witness_is_apart g ok x m y z v asked (record {
      parent = p;
      from_x = split.from_x;
      arrow = split.first_child;
      through = subst (LeadsThrough g (has x) (has m) (has y)) (sym (eqb-true v w e)) split.through;
      past = split.past;
    })
    go false e = parted g ok x m y z asked p t v w split (λ q. not_both (eqb v w) (ap (eqb v) (sym q) ∙ eqb-refl v) e)
