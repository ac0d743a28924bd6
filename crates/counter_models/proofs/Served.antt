-- Each cause of a hedge's models serves the two ends of a link, or one vertex.
use Rattle.std.proofs.Common.{ℕ, suc, ◌-◌, ◌≡◌, ◌<◌, ◌≤◌, Bool, true, false, ◌==◌, ◌||◌, ◌⊎◌, inl, inr, refl, ◌∙◌, length, slice_index, arith}
use Rattle.std.proofs.lemmas.Bool.{cases_lt}
use Rattle.mixed_graph.specs.Vocabulary.{has, MixedGraph, IsMixedGraph}
use Rattle.finite_models.specs.declared.model.Model.{Model}
use Rattle.finite_models.specs.Vocabulary.{meaning, children_of, ServesTwo}
use Rattle.hedge.specs.declared.hedge.Hedge.{Hedge}
use Rattle.hedge.specs.Vocabulary.{IsHedge}
use Rattle.counter_models.specs.Pairs.{AreCauses}
use Rattle.counter_models.proofs.CauseNumbers.{private_of}

module _ (g : MixedGraph) (graph : IsMixedGraph g) (x y : ℕ) (h : Hedge) (hedge : IsHedge g x y h) (kept : ℕ)
    (kept_low : (v : ℕ) → has kept v ≡ true → v < g.vertices) (m : Model) (are : AreCauses h kept m.causes.items) where
  -- the ends of cause j
  record Ends (j : ℕ) : Type 0 where
    a : ℕ
    b : ℕ
    are_ends : j < length m.causes.items → (v : ℕ) → has (children_of m.causes.items j) v ≡ (v == a || v == b)

  twice : (c : Bool) → c ≡ (c || c)
  twice true = refl
  twice false = refl

  ends : (j : ℕ) → Ends j
  ends j = go (cases_lt j (h.links.count - 1)) (cases_lt j (length m.causes.items))
    where
      go : (j < h.links.count - 1) ⊎ (h.links.count - 1 ≤ j) → (j < length m.causes.items) ⊎ (length m.causes.items ≤ j) → Ends j
      go (inl l) w = record {
        a = slice_index h.links.found (suc j);
        b = slice_index h.links.partner (suc j);
        are_ends = λ lt v. (are.links j l).children_are v;
      }
      go (inr ge) (inl lt) = let w = private_of g graph x y h hedge kept kept_low m.causes.items are j ge (let c = are.count in omega arith) in
          record { a = w.0; b = w.0; are_ends = λ lt v. w.2.children_are v ∙ twice (v == w.0) }
      go (inr ge) (inr past) = record { a = 0; b = 0; are_ends = λ lt v. absurd (omega arith) }

  pub serves_two : ServesTwo (meaning g m)
  serves_two = record { one = λ j. (ends j).a; other = λ j. (ends j).b; serves = λ j v jl. (ends j).are_ends jl v }
