-- The other ancestors as masks have them, and what they are to two vertices.
use Rattle.std.proofs.Common.{ℕ, ◌≡◌, ◌<◌, Bool, true, false, not, ◌&&◌, ◌||◌, ◌==◌, ◌↔◌, refl, sym, ap, ◌∙◌, subst, arith, eqb, eq-eqb, IsTrue}
use Rattle.std.proofs.lemmas.Bool.{ne_eqb, and_parts, and_from, or_from, or_left, or_right, both_ways, false_from_ne_true, not_from_false}
use mathlib.Core.Path.{fun_ext}
use Rattle.mixed_graph.specs.Vocabulary.{MixedGraph, IsAncestor, Within}
use Rattle.m_separation.specs.Vocabulary.{IsSeparated}
use Rattle.implications.specs.Separable.{only, IsSeparatingSet, IsOtherAncestor, AreOtherAncestors}

abbrev pub pair_of : ℕ → ℕ → ℕ → Bool
pair_of a b u = only a u || only b u

pub pair_is : (pair p q : ℕ → Bool) (a b : ℕ) → ((u : ℕ) → pair u ≡ (p u || q u)) → ((u : ℕ) → p u ≡ (u == a)) → ((u : ℕ) → q u ≡ (u == b)) → pair ≡ pair_of a b
pair_is pair p q a b e f h = fun_ext (λ u. e u ∙ ap (λ t. t || q u) (f u) ∙ ap (λ t. (u == a) || t) (h u))

pub pair_within : (n : ℕ) (pair : ℕ → Bool) (a b : ℕ) → pair ≡ pair_of a b → a < n → b < n → Within n pair
pair_within n pair a b e al bl = subst (λ f. Within n f) (sym e) (λ v h. grind (arith, h))

others_from : (g : MixedGraph) (a b : ℕ) (above : ℕ → Bool) → ((v : ℕ) → IsTrue (above v) ↔ IsAncestor g (pair_of a b) v)
    → AreOtherAncestors g a b (λ v. above v && not (pair_of a b v))
others_from g a b above is v = (forth, back)
  where
    parts : (above v && not (pair_of a b v)) ≡ true → (above v ≡ true) × (not (pair_of a b v) ≡ true)
    parts h = and_parts (above v) (not (pair_of a b v)) h

    out : not (pair_of a b v) ≡ true → pair_of a b v ≡ true → ⊥
    out h e = go (pair_of a b v) h e
      where
        go : (t : Bool) → not t ≡ true → t ≡ true → ⊥
        go true h e = both_ways false refl h
        go false h e = both_ways false refl e

    forth : (above v && not (pair_of a b v)) ≡ true → IsOtherAncestor g a b v
    forth h = record {
      not_a = λ e. out (parts h).1 (or_left (eqb v a) (eqb v b) (eq-eqb v a e));
      not_b = λ e. out (parts h).1 (or_right (eqb v a) (eqb v b) (eq-eqb v b e));
      above = (is v).0 (parts h).0;
    }

    back : IsOtherAncestor g a b v → (above v && not (pair_of a b v)) ≡ true
    back o = and_from (above v) (not (pair_of a b v)) ((is v).1 o.above)
        (not_from_false (pair_of a b v) (or_from (eqb v a) (eqb v b) (ne_eqb v a o.not_a) (ne_eqb v b o.not_b)))

-- the ancestors of a pair without the pair
pub others_are : (g : MixedGraph) (a b : ℕ) (pair above others : ℕ → Bool) → pair ≡ pair_of a b → ((v : ℕ) → IsTrue (above v) ↔ IsAncestor g (pair_of a b) v)
    → ((v : ℕ) → others v ≡ (above v && not (pair v))) → AreOtherAncestors g a b others
others_are g a b pair above others e is o =
    subst (λ f. AreOtherAncestors g a b f) (sym (fun_ext (λ v. o v ∙ ap (λ f. above v && not (f v)) e))) (others_from g a b above is)

pub others_within : (g : MixedGraph) (a b : ℕ) (z : ℕ → Bool) → AreOtherAncestors g a b z → Within g.vertices z
others_within g a b z is v h = ((is v).0 h).above.vertex

pub others_without_first : (g : MixedGraph) (a b : ℕ) (z : ℕ → Bool) → AreOtherAncestors g a b z → z a ≡ false
others_without_first g a b z is = false_from_ne_true (z a) (λ h. ((is a).0 h).not_a refl)

pub others_without_last : (g : MixedGraph) (a b : ℕ) (z : ℕ → Bool) → AreOtherAncestors g a b z → z b ≡ false
others_without_last g a b z is = false_from_ne_true (z b) (λ h. ((is b).0 h).not_b refl)

pub others_separating : (g : MixedGraph) (a b : ℕ) (z : ℕ → Bool) → AreOtherAncestors g a b z → IsSeparated g (only a) (only b) z → IsSeparatingSet g a b z
others_separating g a b z is sep = record {
  within = others_within g a b z is;
  without_a = others_without_first g a b z is;
  without_b = others_without_last g a b z is;
  separates = sep;
}
