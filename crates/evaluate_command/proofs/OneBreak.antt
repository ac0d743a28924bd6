-- Over tables that are alike a graph's implied pairs have one first pair that the counts break.
use Rattle.std.proofs.Common.{◌≡◌, ℕ, Bool, true, false, List, [], ◌∷◌, ◌++◌, Option, Some, None, refl, sym, ap, ◌∙◌, subst}
use Rattle.std.specs.Prelude.{All}
use Rattle.std.proofs.lemmas.List.Elements.{All-head, All-tail}
use Rattle.mixed_graph.specs.Vocabulary.{MixedGraph}
use Rattle.count_rows.specs.Vocabulary.{Table}
use Rattle.count_table.specs.Axes.{Axes}
use Rattle.count_table.specs.Vocabulary.{cell_at, IsCell}
use Rattle.count_eval.specs.Vocabulary.{is_used}
use Rattle.count_answers.proofs.OneReading.{AreAlike}
use Rattle.implications.specs.declared.pairs.Implication.{Implication}
use Rattle.broken_pairs.specs.Vocabulary.{IsBroken, IsFirstBroken}
use Rattle.implications_command.proofs.SameList.{one_list}
use Rattle.implications_command.proofs.OneText.{axes_same, difference_same}
use Rattle.evaluate_command.specs.Breaks.{IsBreak}

-- ---- a pair over two tables

module _ (t u : Table) (same : AreAlike t u) (i : Implication) where
  used_same : (v : ℕ) → is_used u v ≡ is_used t v
  used_same v = λ k. is_used (record { vertices = same.vertices k; levels = same.levels k; rows = u.rows }) v

  -- counts of the one table break it where those of the other do
  pub broken_too : IsBroken u i → IsBroken t i
  broken_too b = record {
    readable = record {
      order = b.readable.order;
      used = λ v h. sym (used_same v) ∙ b.readable.used v h;
      a_apart = b.readable.a_apart;
      b_apart = b.readable.b_apart;
    };
    cell = b.cell;
    levels = subst (λ (x : Axes). IsCell x.sizes (cell_at x b.cell)) (axes_same t u same i) b.levels;
    apart = λ none. b.apart (difference_same t u same i b.cell ∙ none);
  }

-- ---- the first in a list

abbrev Unbroken : Table → List Implication → Type 0
Unbroken t list = All (λ j. IsBroken t j → ⊥) list

abbrev head_of : Implication → List Implication → Implication
head_of d [] = d
head_of d (i ∷ is) = i

abbrev tail_of : List Implication → List Implication
tail_of [] = []
tail_of (i ∷ is) = is

module _ (t u : Table) (broken_in : (i : Implication) → IsBroken u i → IsBroken t i) (broken_back : (i : Implication) → IsBroken t i → IsBroken u i) where
  first_same : (before others after rest : List Implication) (i j : Implication) → before ++ i ∷ after ≡ others ++ j ∷ rest → IsBroken t i → IsBroken u j
      → Unbroken t before → Unbroken u others → j ≡ i
  first_same [] [] after rest i j e x y p q = sym (ap (head_of i) e)
  first_same [] (o ∷ os) after rest i j e x y p q =
      absurd (All-head (λ k. IsBroken u k → ⊥) o os q (subst (IsBroken u) (ap (head_of i) e) (broken_back i x)))
  first_same (b ∷ bs) [] after rest i j e x y p q =
      absurd (All-head (λ k. IsBroken t k → ⊥) b bs p (subst (IsBroken t) (sym (ap (head_of i) e)) (broken_in j y)))
  first_same (b ∷ bs) (o ∷ os) after rest i j e x y p q =
      first_same bs os after rest i j (ap tail_of e) x y (All-tail (λ k. IsBroken t k → ⊥) b bs p) (All-tail (λ k. IsBroken u k → ⊥) o os q)

  -- one that is broken stands in no list of unbroken ones
  none_there : (w : Table) (before after : List Implication) (i : Implication) → Unbroken w (before ++ i ∷ after) → IsBroken w i → ⊥
  none_there w [] after i all x = All-head (λ k. IsBroken w k → ⊥) i after all x
  none_there w (b ∷ bs) after i all x = none_there w bs after i (All-tail (λ k. IsBroken w k → ⊥) b (bs ++ i ∷ after) all) x

  one_of_list : (list : List Implication) (a b : Option Implication) → IsFirstBroken t list a → IsFirstBroken u list b → b ≡ a
  one_of_list list None None x y = refl
  one_of_list list (Some i) (Some j) x y =
      ap (λ (k : Implication). Some k) (first_same x.before y.before x.after y.after i j (sym x.stands ∙ y.stands) x.broken y.broken x.unbroken y.unbroken)
  one_of_list list (Some i) None x y = absurd (none_there u x.before x.after i (subst (Unbroken u) x.stands y) (broken_back i x.broken))
  one_of_list list None (Some j) x y = absurd (none_there t y.before y.after j (subst (Unbroken t) y.stands x) (broken_in j y.broken))

-- ---- of a graph

turned : (t u : Table) → AreAlike t u → AreAlike u t
turned t u same = record { vertices = sym same.vertices; levels = sym same.levels; sums = sym same.sums }

-- there is one break
pub one_break : (matched : Bool) (g : MixedGraph) (t u : Table) → AreAlike t u → (a b : Option Implication) → IsBreak matched g t a
    → IsBreak matched g u b → b ≡ a
one_break true g t u same a b x y =
    one_of_list t u (λ i. broken_too t u same i) (λ i. broken_too u t (turned t u same) i) x.list a b x.first
    (subst (λ (list : List Implication). IsFirstBroken u list b) (one_list g x.list y.list x.implied y.implied) y.first)
one_break false g t u same a b x y = y ∙ sym x
