-- The vertices that an order lists are an order.
use Rattle.std.proofs.Common.{ℕ, zero, suc, ◌≡◌, ◌≤◌, List, [], ◌∷◌, ◌++◌, length, take, get_or, refl, sym, ap, subst, ◌∙◌, arith}
use Rattle.std.proofs.Math.Seq.{take-suc}
use Rattle.mixed_graph.specs.Vocabulary.{MixedGraph, IsOrder}
use Rattle.hedge.specs.Vocabulary.{AreDistricts, AreDistrictsOf}
use Rattle.hedge.proofs.Collecting.{entries, order_of_entries}
use Rattle.identification_theory.proofs.Orders.{one_order}

entries_taken : (list : List ℕ) (n : ℕ) → n ≤ length list → entries list n ≡ take n list
entries_taken list zero le = refl
entries_taken list (suc n) le = ap (λ l. l ++ get_or list n 0 ∷ []) (entries_taken list n (omega (arith, le))) ∙ sym (take-suc list n 0 (omega (arith, le)))

-- an array whose first entries are the graph's order holds, cut after them, that order
pub listed_order : (g : MixedGraph) (list : List ℕ) (count : ℕ) → count ≤ length list → IsOrder g list count
    → IsOrder g (take count list) (length (take count list))
listed_order g list count le o = subst (λ l. IsOrder g l (length l)) (entries_taken list count le) (order_of_entries g list count o)

-- the districts are the same by any list that is the graph's order
pub districts_by : (g : MixedGraph) (d : ℕ) (order ts : List ℕ) → IsOrder g order (length order) → AreDistrictsOf g d ts → AreDistricts g d 0 order ts
districts_by g d order ts o a = subst (λ l. AreDistricts g d 0 l ts) (one_order g a.order order a.is_order o) a.districts
