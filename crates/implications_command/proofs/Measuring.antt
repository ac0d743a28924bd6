-- Pairs that are measured one after another.
use Rattle.std.proofs.Common.{ℕ, ◌+◌, ◌≡◌, ◌<◌, Bool, true, false, cond, List, [], ◌∷◌, ◌++◌, Option, Some, length, take, get_or, refl, sym, ap, ◌∙◌}
use Rattle.std.specs.Prelude.{All, IfSome, option_map}
use Rattle.std.specs.List.{find}
use Rattle.std.proofs.lemmas.List.{map-append, take_more}
use Rattle.std.proofs.lemmas.List.Elements.{All-push, All-head, All-tail}
use Rattle.mixed_graph.specs.Vocabulary.{MixedGraph}
use Rattle.count_rows.specs.Vocabulary.{Table}
use Rattle.count_table.specs.Vocabulary.{total}
use Rattle.count_eval.specs.Vocabulary.{weights_in, is_used}
use Rattle.natural_bounds.specs.Vocabulary.{HasNoModel}
use Rattle.implications.specs.declared.pairs.Implication.{Implication}
use Rattle.implied_differences.specs.Vocabulary.{IsLargest, IsZeroIfMatched}
use Rattle.broken_pairs.specs.Vocabulary.{is_apart}
use Rattle.broken_pairs.proofs.Apart.{not_zero}
use Rattle.implications_command.specs.Differences.{AreMeasured}
use Rattle.implications_command.specs.Right.{IsRefuted}
use Rattle.implications_command.specs.declared.differences.Measured.{Measured}

-- one pair more
pub measured_more : (q : MixedGraph) (t : Table) (list : List Implication) (k : ℕ) (d : Implication) (measured : List Measured) (x : Measured)
    → k < length list → x.pair ≡ get_or list k d → IsLargest t x.pair x.difference → IsZeroIfMatched q t x.difference
    → AreMeasured q t (take k list) measured
    → AreMeasured q t (take (k + 1) list) (measured ++ x ∷ [])
measured_more q t list k d measured x lt same largest matched m = record {
  pairs = map-append (λ (y : Measured). y.pair) measured (x ∷ [])
      ∙ ap (λ (l : List Implication). l ++ x.pair ∷ []) m.pairs ∙ ap (λ (i : Implication). take k list ++ i ∷ []) same ∙ sym (take_more list k d lt);
  largest = All-push (λ (y : Measured). IsLargest t y.pair y.difference) measured x m.largest largest;
  matched = All-push (λ (y : Measured). IsZeroIfMatched q t y.difference) measured x m.matched matched;
}

-- of what is found first, where each that is found shows it
found : (P : Type 0) (b : Bool) (m : Measured) (y : Option Measured) → (b ≡ true → P) → IfSome (option_map (λ (k : Measured). k.pair) y) (λ i. P)
    → IfSome (option_map (λ (k : Measured). k.pair) (cond b (Some m) y)) (λ i. P)
found P true m y shows rest = shows refl
found P false m y shows rest = rest

-- where a difference that is 0 in a model with the counts isn't 0, there is none
pub refuted : (q : MixedGraph) (t : Table) (measured : List Measured) → All (λ m. IsZeroIfMatched q t m.difference) measured → IsRefuted q t measured
refuted q t [] all = tt
refuted q t (m ∷ ms) all =
    found (HasNoModel q (is_used t) (weights_in q.vertices t) (total t.rows)) (is_apart m.difference.value) m
    (find (λ (k : Measured). is_apart k.difference.value) ms)
    (λ e model fits matched. not_zero m.difference.value e (All-head (λ (k : Measured). IsZeroIfMatched q t k.difference) m ms all model
    (record { fits = fits; matched = matched })))
    (refuted q t ms (All-tail (λ (k : Measured). IsZeroIfMatched q t k.difference) m ms all))
