-- What is reached outside a set is what is reached inside all other vertices.
use Rattle.std.proofs.Common.{◌≡◌, ℕ, ◌<◌, Bool, true, false, not, ◌&&◌, nat_lt, arith}
use Rattle.std.proofs.lemmas.Bool.{lt-ltb}
use Rattle.mixed_graph.specs.Reached as inside
use Rattle.minimal_sets.specs.Separators.{Reached, start, step}

module _ (near : ℕ → ℕ → Bool) (from avoid within : ℕ → Bool) (within_is : (v : ℕ) → within v ≡ (nat_lt v 64 && not (avoid v))) where
  pub reached_outside : (v : ℕ) → inside.Reached near from within v → Reached near from avoid v
  reached_outside v (inside.Reached.start i w) = start i (let e = within_is v in grind arith)
  reached_outside v (inside.Reached.next {u} r a w) = step (reached_outside u r) a (let e = within_is v in grind arith)

  module _ (from_below : (v : ℕ) → from v ≡ true → v < 64) (near_below : (u v : ℕ) → near u v ≡ true → v < 64) where
    kept : (v : ℕ) → v < 64 → avoid v ≡ false → within v ≡ true
    kept v l o = let t : nat_lt v 64 ≡ true = lt-ltb v 64 l in let e = within_is v in grind arith

    pub reached_inside : (v : ℕ) → Reached near from avoid v → inside.Reached near from within v
    reached_inside v (start i o) = inside.Reached.start i (kept v (from_below v i) o)
    reached_inside v (step {u = u} r a o) = inside.Reached.next (reached_inside u r) a (kept v (near_below u v a) o)
