-- Lists of vertices, as loops go over them.
use Rattle.std.proofs.Common.{zero, suc, arith, length-take, ◌≡◌, ℕ, ◌+◌, ◌<◌, true, false, cond, List, [], ◌∷◌, ◌++◌, length, get_or, set, take}
use Rattle.std.proofs.Common.{drop, refl, ap, ◌∙◌, append_assoc}
use Rattle.std.proofs.lemmas.List.{get_or-take, at_drop_more, take_more_set}
use Rattle.mixed_graph.specs.Vocabulary.{has, MixedGraph, IsOrder}
use Rattle.identification_theory.specs.Vocabulary.{in_order}

pub in_order_skip : (t : ℕ) (order : List ℕ) (i : ℕ) → i < length order → has t (get_or order i 0) ≡ false → in_order t (drop i order)
    ≡ in_order t (drop (i + 1) order)
in_order_skip t order i lt out = at_drop_more (in_order t) order i 0 lt
    ∙ ap (λ b. cond b (get_or order i 0 ∷ in_order t (drop (i + 1) order)) (in_order t (drop (i + 1) order))) out

pub in_order_take : (t : ℕ) (order : List ℕ) (i : ℕ) → i < length order → has t (get_or order i 0) ≡ true → in_order t (drop i order) ≡ get_or order i 0
    ∷ in_order t (drop (i + 1) order)
in_order_take t order i lt into = at_drop_more (in_order t) order i 0 lt
    ∙ ap (λ b. cond b (get_or order i 0 ∷ in_order t (drop (i + 1) order)) (in_order t (drop (i + 1) order))) into

-- one more entry written
pub written : (list : List ℕ) (count v : ℕ) (rest : List ℕ) → count < length list → take (count + 1) (set list count v) ++ rest ≡ take count list ++ (v ∷ rest)
written list count v rest lt = ap (λ l. l ++ rest) (take_more_set list count v lt) ∙ append_assoc (take count list) (v ∷ []) rest

any_default : (list : List ℕ) (i d : ℕ) → i < length list → get_or list i d ≡ get_or list i 0
any_default [] i d lt = absurd (omega arith)
any_default (v ∷ list) zero d lt = refl
any_default (v ∷ list) (suc i) d lt = any_default list i d (omega arith)

-- the entries of an order are vertices
pub entry_below : (g : MixedGraph) (list : List ℕ) (count : ℕ) → IsOrder g list count → (i d : ℕ) → i < length (take count list)
    → get_or (take count list) i d < g.vertices
entry_below g list count is i d lt =
    let l : i < count = omega (arith, length-take count list) in
    let k : i < length list = omega (arith, length-take count list) in
    let b = (is.next i l).below in
    rw (get_or-take count list i d l, any_default list i d k) b
