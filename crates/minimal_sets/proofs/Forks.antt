-- The branch in which a vertex joins the side.
use Rattle.std.proofs.Common.{◌≡◌, ℕ, Bool, true, false, not, ◌||◌, ◌==◌, inl, inr, refl, sym, ◌∙◌, arith, subst}
use Rattle.std.proofs.lemmas.Bool.{cases_Bool, eqb-true, eq-eqb}
use Rattle.mixed_graph.specs.Vocabulary.{has}
use Rattle.minimal_sets.specs.Separators.{Reached, start, IsPart, IsOnSide, IsClosest, IsInseparable}
use Rattle.minimal_sets.proofs.SeparatorLaws.{reached_part, joined_connected, still_kept}
use Rattle.minimal_sets.specs.Branches.{IsNode, IsIn, IsForked, IsStill}
use Rattle.minimal_sets.specs.Frames.{IsFrame}
use Rattle.minimal_sets.specs.declared.separators.branching.Node.{Node}

-- a closest separator is closest to its own side
pub settled : (near : ℕ → ℕ → Bool) (R X Y S C D : ℕ → Bool) → IsClosest near R X Y S C D → IsClosest near R X Y D C D
settled near R X Y S C D k = record {
  minimal = k.minimal;
  side_is = k.side_is;
  side_all = k.side_all;
  holds = λ v e. e;
  touches = k.touches;
  closest = λ z m on. on;
}

module _ (near : ℕ → ℕ → Bool) (R X Y : ℕ → Bool) (frame : IsFrame near R X Y) (n : Node) (node : IsNode near R X Y n) (v : ℕ)
    (member : has n.separator.bits v ≡ true)
    (s : ℕ) (s_is : (u : ℕ) → has s u ≡ (has n.side.bits u || (u == v))) where
  s_side : (u : ℕ) → has n.side.bits u ≡ true → has s u ≡ true
  s_side u e = let p = s_is u in grind arith

  s_v : has s v ≡ true
  s_v = let p = s_is v in let q : (v == v) ≡ true = eq-eqb v v refl in grind arith

  pub x_in : IsPart X (has s)
  x_in u x = s_side u (node.here.side_all u (start x (let f = frame.x_fixed u x in let w = node.here.minimal.within u in
      elim (cases_Bool (has n.separator.bits u)) [ inl e ↦ absurd (let g = w e in grind arith) | inr e ↦ e ])))

  pub connected : (u : ℕ) → has s u ≡ true → Reached near X (λ w. not (has s w)) u
  connected u e = reached_part near X (λ w. not (has n.side.bits w || (w == v))) (λ w. not (has s w)) (λ w i. let p = s_is w in grind arith) u
      (joined_connected near frame.turn R X Y frame.y_fixed (has n.side.bits) (has n.separator.bits) (has n.side.bits) node.here v member u (sym (s_is u) ∙ e))

  on_side : (z : ℕ → Bool) → IsIn near R X Y n z → Reached near X z v → IsOnSide near X z (has s)
  on_side z b r u e = elim (cases_Bool (has n.side.bits u)) [
    | inl i ↦ b.side u i
    | inr o ↦ let q : (u == v) ≡ true = (let p = s_is u in grind arith) in rw (eqb-true u v q) r
  ]

  pub still_none : IsInseparable near R X Y (has s) → IsStill near R X Y n v
  still_none none z b r = none z b.minimal (on_side z b r)

  module _ (c d : ℕ) (there : IsClosest near R X Y (has s) (has c) (has d)) where
    pub still_lost : (w : ℕ) → has n.kept.bits w ≡ true → has c w ≡ false → IsStill near R X Y n v
    still_lost w k o z b r =
        let i : has c w ≡ true = still_kept near frame.turn R X Y frame.y_fixed (has n.side.bits) (has n.separator.bits) (has n.side.bits) node.here
        (has n.kept.bits) (has s) (has c) (has d) z
        node.kept s_side there (record { minimal = b.minimal; side = on_side z b r; keeps = b.keeps }) w k in grind arith

    pub forked : (m : Node) → m.separator.bits ≡ c → m.side.bits ≡ d → m.kept.bits ≡ n.kept.bits → ((w : ℕ) → has n.kept.bits w ≡ true → has c w ≡ true)
        → IsForked near R X Y n v m
    forked m ec ed ek keeps = record {
      node = record { here = rw (ec, ed) (settled near R X Y (has s) (has c) (has d) there); kept = rw (ec, ek) keeps };
      inside = λ z b. record {
        minimal = b.minimal;
        side = λ u e. b.side u (rw ed (there.holds u (s_side u e)));
        keeps = subst (λ k. IsPart (has k) z) ek b.keeps;
      };
      aside = λ z b. b.side v (rw ed (there.holds v s_v));
      all = λ z b r. record { minimal = b.minimal; side = rw ed (there.closest z b.minimal (on_side z b r)); keeps = rw ek b.keeps };
    }
