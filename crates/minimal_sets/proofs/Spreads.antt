-- One node's branches, vertex by vertex.
use Rattle.std.proofs.Common.{◌≡◌, ℕ, ◌+◌, ◌<◌, Bool, true, false, not, ◌&&◌, ◌||◌, ◌==◌, inl, inr, refl, List, [], ◌∷◌, ◌++◌, arith}
use Rattle.std.proofs.lemmas.Bool.{cases_Bool, cases_eq, eqb-true, eq-eqb}
use Rattle.mixed_graph.specs.declared.sets.VSet.{VSet}
use Rattle.mixed_graph.specs.Vocabulary.{has}
use Rattle.minimal_sets.specs.Separators.{IsPart}
use Rattle.minimal_sets.specs.Branches.{IsNode, IsForked, IsStill}
use Rattle.minimal_sets.specs.Frames.{IsFrame}
use Rattle.minimal_sets.specs.Progress.{IsSoFar, IsAtWork}
use Rattle.minimal_sets.specs.declared.separators.branching.Node.{Node}
use Rattle.minimal_sets.proofs.SoFar.{working_still, working_forked, working_end}

pub record Spreading (near : ℕ → ℕ → Bool) (R X Y : ℕ → Bool) (node : Node) (old todo : List Node) (kept : VSet) (v : ℕ) : Type 0 where
  pub part : IsPart (has kept.bits) (has node.separator.bits)
  pub seen : (u : ℕ) → u < v → has node.separator.bits u ≡ true → has kept.bits u ≡ true
  pub works : (done : List VSet) → IsAtWork near R X Y done node old → IsAtWork near R X Y done (record node { kept = kept }) todo

module _ (near : ℕ → ℕ → Bool) (R X Y : ℕ → Bool) (frame : IsFrame near R X Y) (node : Node) (is_node : IsNode near R X Y node) (old todo : List Node) where
  pub spreading_none : Spreading near R X Y node old old node.kept 0
  spreading_none = record { part = is_node.kept; seen = λ u l e. absurd (omega arith); works = λ done w. w }

  pub now_node : (kept : VSet) (v : ℕ) → Spreading near R X Y node old todo kept v → IsNode near R X Y (record node { kept = kept })
  now_node kept v s = record { here = is_node.here; kept = s.part }

  pub spreading_skip : (kept : VSet) (v : ℕ) → (has node.separator.bits v && not (has kept.bits v)) ≡ false → Spreading near R X Y node old todo kept v
      → Spreading near R X Y node old todo kept (v + 1)
  spreading_skip kept v skip s = record {
    part = s.part;
    works = s.works;
    seen = λ u l e. elim (cases_eq u v) [
      | inl q ↦ let e' : has node.separator.bits v ≡ true = rw q at e in
          rw q (let k = skip in grind arith)
      | inr d ↦ s.seen u (omega arith) e
    ];
  }

  module _ (kept : VSet) (v : ℕ) (s : Spreading near R X Y node old todo kept v) (left : (has node.separator.bits v && not (has kept.bits v)) ≡ true)
      (kept' : VSet) (kept_is : (u : ℕ) → has kept'.bits u ≡ (has kept.bits u || (u == v))) where
    is_member : has node.separator.bits v ≡ true
    is_member = let k = left in grind arith

    part' : IsPart (has kept'.bits) (has node.separator.bits)
    part' u e = elim (cases_eq u v) [
      | inl q ↦ rw q is_member
      | inr d ↦ s.part u (let p = kept_is u in let o : (u == v) ≡ false = ne u d in grind arith)
    ]
      where
        ne : (u : ℕ) → (u ≡ v → ⊥) → (u == v) ≡ false
        ne u d = elim (cases_Bool (u == v)) [ inl t ↦ absurd (d (eqb-true u v t)) | inr f ↦ f ]

    seen' : (u : ℕ) → u < v + 1 → has node.separator.bits u ≡ true → has kept'.bits u ≡ true
    seen' u l e = elim (cases_eq u v) [
      | inl q ↦ let p = kept_is u in let t : (u == v) ≡ true = eq-eqb u v q in grind arith
      | inr d ↦ let p = kept_is u in let i = s.seen u (omega arith) e in grind arith
    ]

    pub spreading_still : IsStill near R X Y (record node { kept = kept }) v → Spreading near R X Y node old todo kept' (v + 1)
    spreading_still still = record {
      part = part';
      seen = seen';
      works = λ done w. working_still near R X Y frame done todo (record node { kept = kept }) (s.works done w) v is_member (record node { kept = kept' })
          refl refl kept_is still;
    }

    pub spreading_forked : (f : Node) → IsForked near R X Y (record node { kept = kept }) v f → Spreading near R X Y node old (todo ++ f ∷ []) kept' (v + 1)
    spreading_forked f k = record {
      part = part';
      seen = seen';
      works = λ done w. working_forked near R X Y frame done todo (record node { kept = kept }) (s.works done w) v is_member (record node { kept = kept' })
          refl refl kept_is f k;
    }

  pub spread_whole : (kept : VSet) (n : ℕ) → ((v : ℕ) → has node.separator.bits v ≡ true → v < n) → Spreading near R X Y node old todo kept n
      → (done : List VSet) → IsAtWork near R X Y done node old → IsSoFar near R X Y (done ++ node.separator ∷ []) todo
  spread_whole kept n within s done w = working_end near R X Y frame done todo (record node { kept = kept }) (s.works done w) (λ v e. s.seen v (within v e) e)

pub moved : (near : ℕ → ℕ → Bool) (R X Y : ℕ → Bool) (node : Node) (old todo todo' : List Node) (kept kept' : VSet) (v : ℕ)
    → Spreading near R X Y node old todo kept v → todo' ≡ todo → kept' ≡ kept → Spreading near R X Y node old todo' kept' v
moved near R X Y node old todo todo' kept kept' v s e f = rw (e, f) s
