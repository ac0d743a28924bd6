-- The vertices of pairs and of their sets have names.
use Rattle.std.proofs.Common.{ℕ, ◌≡◌, ◌<◌, ◌≤◌, true, ◌||◌, All, length, inl, inr, sym, subst, arith}
use Rattle.std.proofs.lemmas.Bool.{or_cases, eqb-true}
use Rattle.std.proofs.lemmas.List.Elements.{All-weaker}
use Rattle.mixed_graph.specs.Vocabulary.{has, MixedGraph}
use Rattle.implications.specs.declared.pairs.Implication.{Implication}
use Rattle.implications.specs.Vocabulary.{IsImplication, only}
use Rattle.implied_differences.specs.Vocabulary.{whole_of}
use Rattle.implications_command.specs.Pairs.{PlainPairs, ArePairs, IsNamed}

named_below : (g : MixedGraph) (n : ℕ) → g.vertices ≤ n → (i : Implication) → IsImplication g i → IsNamed n i
named_below g n le i is = record {
  a = (let o = is.order in let v = is.vertex in omega (arith, o, v, le));
  b = (let v = is.vertex in omega (arith, v, le));
  given = λ v h. (let lt = is.given.separating.within v h in omega (arith, lt, le));
}

all_below : (p : PlainPairs) → ArePairs p → (n : ℕ) → p.graph.vertices ≤ n → All (IsNamed n) p.list
all_below p are n le = All-weaker (IsImplication p.graph) (IsNamed n) (named_below p.graph n le) p.list are.implications.each

pub all_named : (p : PlainPairs) → ArePairs p → All (IsNamed (length p.names)) p.list
all_named p are = all_below p are (length p.names) (let e = are.named in omega (arith, e))

pub all_low : (p : PlainPairs) → ArePairs p → All (IsNamed 64) p.list
all_low p are = all_below p are 64 are.few

-- each vertex of a pair and of its set is below n
pub whole_below : (n : ℕ) (i : Implication) → IsNamed n i → (v : ℕ) → whole_of i v ≡ true → v < n
whole_below n i is v h = elim (or_cases (only i.a v) (only i.b v || has i.given.bits v) h) [
  | inl e ↦ subst (λ u. u < n) (sym (eqb-true v i.a e)) is.a
  | inr r ↦ elim (or_cases (only i.b v) (has i.given.bits v) r) [
    | inl e ↦ subst (λ u. u < n) (sym (eqb-true v i.b e)) is.b
    | inr w ↦ is.given v w
  ]
]
