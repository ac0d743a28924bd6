-- The two criteria over paths are separation in a graph with fewer arrows.
use Rattle.std.proofs.Common.{ℕ, ◌≡◌, Bool, true, false, not, refl, ◌&&◌, ◌⊎◌, ◌↔◌, ◌==◌, inl, inr, List, [], ◌∷◌, IsTrue, slice_index, subst}
use Rattle.std.proofs.lemmas.Bool.{and_parts, and_from, not-true, false_from_ne_true, eqb-true, eq-eqb}
use Rattle.mixed_graph.specs.Vocabulary.{MixedGraph, IsMixedGraph, IsDescendant, Within, Apart}
use Rattle.mixed_graph.proofs.Paths.{end_below}
use Rattle.m_separation.specs.declared.marks.Mark.{Mark}
use Rattle.m_separation.specs.declared.marks.Mark.TheVariants.{Out, Into, Both}
use Rattle.m_separation.specs.declared.paths.OpenPath.{OpenPath}
use Rattle.m_separation.specs.Vocabulary.{Step, IsJoined, IsWalk, last, heads_first, heads_second, ArePassedFrom, ArePassed, IsOpenWalk, IsSeparated, Avoids, IsPath, IsOpenPath}
use Rattle.m_separation.proofs.Going.{passed_inside, passed_from_start}
use Rattle.m_separation.proofs.OpenPaths.{open_path_from}
use Rattle.finite_models.proofs.Bools.{not_both}
use Rattle.adjustment.specs.Proper.{AreOutside, IsCausal, IsBetween}
use Rattle.adjustment.proofs.Causal.{below_from}
use Rattle.adjustment.proofs.FirstEdges.{cut_arrows, firsts, on_here}
use Rattle.adjustment.specs.Criteria.{IsForbidden, IsAdmissible, BeginsInto, IsBackDoorSet}
use Rattle.adjustment.specs.Faults.{IsClearOf, steps_of, IsBackDoorPath}
use Rattle.adjustment.proofs.Walks.{graph_arrows, walk_more, open_more, IsClear, open_less}

-- what of an open path is left from its last member of X on
record Part (g : MixedGraph) (X W : ℕ → Bool) (end : ℕ) : Type 0 where
  first : ℕ
  steps : List Step
  begins : X first ≡ true
  outside : AreOutside X steps
  walk : IsWalk g first steps
  passed : ArePassed g W steps
  path : IsPath first steps
  ends : last first steps ≡ end

part_or_outside : (g : MixedGraph) (X W : ℕ → Bool) (h : Bool) (v : ℕ) (r : List Step) → IsWalk g v r → ArePassedFrom g W h v r → IsPath v r → AreOutside X r
    ⊎ Part g X W (last v r)
part_or_outside g X W h v [] w p q = inl tt
part_or_outside g X W h v (s ∷ r) w p q = elim (part_or_outside g X W (heads_second s.mark) s.to r w.1 p.1 q.1) [
  | inl o ↦ go (X s.to) refl o
  | inr f ↦ inr f
]
  where
    go : (b : Bool) → X s.to ≡ b → AreOutside X r → AreOutside X (s ∷ r) ⊎ Part g X W (last s.to r)
    go true e o = inr (record {
      first = s.to;
      steps = r;
      begins = e;
      outside = o;
      walk = w.1;
      passed = passed_inside g W (heads_second s.mark) s.to r p.1;
      path = q.1;
      ends = refl;
    })
    go false e o = inl (e, o)

part_of : (g : MixedGraph) (X Y W : ℕ → Bool) (v : ℕ) (r : List Step) → IsOpenWalk g X Y W v r → IsPath v r → Part g X W (last v r)
part_of g X Y W v r o q = elim (part_or_outside g X W false v r o.walk (passed_from_start g W v r o.first_outside o.passed) q) [
  | inl a ↦ record { first = v; steps = r; begins = o.begins; outside = a; walk = o.walk; passed = o.passed; path = q; ends = refl }
  | inr f ↦ f
]

-- ---- the adjustment criterion
-- the forbidden vertices are the descendants of those between
pub forbidden_is : (g : MixedGraph) → IsMixedGraph g → (X Y : ℕ → Bool) → Within g.vertices X → (B bad : ℕ → Bool)
    → ((v : ℕ) → IsTrue (B v) ↔ IsBetween g X Y v)
    → ((v : ℕ) → IsTrue (bad v) ↔ IsDescendant g B v) → (v : ℕ) → IsTrue (bad v) ↔ IsForbidden g X Y v
forbidden_is g ok X Y within B bad is_between below v = (
  λ e. let d = (below v).0 e in record { from = d.start; between = (is_between d.start).0 d.inside; path = d.path; leads = d.leads },
  λ x. (below v).1 (record {
    vertex = end_below g ok.head_below x.from x.path v (below_from g ok X Y within x.from x.between).vertex x.leads;
    path = x.path;
    start = x.from;
    leads = x.leads;
    inside = (is_between x.from).1 x.between;
  }),
)

module _ (g : MixedGraph) (ok : IsMixedGraph g) (X Y : ℕ → Bool) (within : Within g.vertices X) (apart : Apart X Y) (B : ℕ → Bool)
    (is_between : (v : ℕ) → IsTrue (B v) ↔ IsBetween g X Y v) (Z : ℕ → Bool) where
  pub clear_of_firsts : IsClearOf (IsForbidden g X Y) Z → IsClear g (firsts X B) Z
  clear_of_firsts clear u v a e t p l z = clear t z (record { from = v; between = (is_between v).0 (and_parts (X u) (B v) e).1; path = p; leads = l })

  -- a proper path of the back-door graph isn't causal
  pub not_causal : (v : ℕ) (r : List Step) → X v ≡ true → Y (last v r) ≡ true → IsWalk (cut_arrows g (firsts X B)) v r → IsPath v r → AreOutside X r
      → IsCausal r → ⊥
  not_causal v [] x y w p o c = not_both (Y v) y (apart v x)
  not_causal v (s ∷ r) x y w p o c =
      let a : (g.arrow v s.to && not (X v && B s.to)) ≡ true = subst (λ m. IsJoined (cut_arrows g (firsts X B)) v m s.to) c.0 w.0 in
      let b : B s.to ≡ true = (is_between s.to).1 (record {
        first = v;
        steps = s ∷ r;
        proper = record { begins = x; ends = y; walk = walk_more g (firsts X B) v (s ∷ r) w; path = p; outside = o };
        causal = c;
        on = inr (on_here s.to r);
        outside = o.0;
      }) in
      not_both (X v && B s.to) (and_from (X v) (B s.to) x b) (not-true (X v && B s.to) (and_parts (g.arrow v s.to) (not (X v && B s.to)) a).1)

  -- an admissible z apart from x separates x and y once the proper causal paths lose their first edges
  pub separated_from : Apart X Z → IsAdmissible g X Y Z → IsSeparated (cut_arrows g (firsts X B)) X Y Z
  separated_from x_out k v r o =
      let h = cut_arrows g (firsts X B) in
      let q = open_path_from h (graph_arrows g (firsts X B) ok) X Y Z v r o in
      let p = part_of h X Y Z v q.0 q.1 q.2 in
      let y : Y (last p.first p.steps) ≡ true = rw p.ends q.1.ends in
      k.blocked p.first p.steps
      (record { begins = p.begins; ends = y; walk = walk_more g (firsts X B) p.first p.steps p.walk; path = p.path; outside = p.outside })
      (not_causal p.first p.steps p.begins y p.walk p.path p.outside)
      (open_more g (firsts X B) X Y Z p.first p.steps
      (record {
        vertex = within p.first p.begins;
        begins = p.begins;
        ends = y;
        first_outside = x_out p.first p.begins;
        last_outside = rw p.ends q.1.last_outside;
        walk = p.walk;
        passed = p.passed;
      }))

  -- z is admissible if no member is forbidden and it separates x and y in that graph
  pub admissible_from : IsClearOf (IsForbidden g X Y) Z → IsSeparated (cut_arrows g (firsts X B)) X Y Z → IsAdmissible g X Y Z
  admissible_from clear sep = record {
    clear = clear;
    blocked = λ v r p n o. sep v r (open_less g (firsts X B) Z (clear_of_firsts clear) X (λ u v e. (and_parts (X u) (B v) e).0) Y v r p.outside n o);
  }

-- ---- the back-door criterion
-- x alone
abbrev pub only : ℕ → ℕ → Bool
only x u = u == x

-- all arrows out of x
abbrev pub all_out : ℕ → ℕ → ℕ → Bool
all_out x u v = u == x

-- a path from x doesn't come back to x
outside_later : (x : ℕ) (r : List Step) → Avoids x r → AreOutside (only x) r
outside_later x [] a = tt
outside_later x (s ∷ r) a = (false_from_ne_true (s.to == x) (λ e. a.0 (eqb-true s.to x e)), outside_later x r a.1)

outside_path : (x : ℕ) (r : List Step) → IsPath x r → AreOutside (only x) r
outside_path x [] p = tt
outside_path x (s ∷ r) p = outside_later x (s ∷ r) p.0

not_into : (r : List Step) → BeginsInto r → IsCausal r → ⊥
not_into [] b c = b
not_into (s ∷ r) b c = let e : heads_first s.mark ≡ false = rw c.0 refl in not_both (heads_first s.mark) b e

module _ (g : MixedGraph) (ok : IsMixedGraph g) (x : ℕ) (Z : ℕ → Bool) where
  pub clear_of_out : IsClearOf (IsDescendant g (only x)) Z → IsClear g (all_out x) Z
  clear_of_out clear u v a e t p l z =
      clear t z (record { vertex = end_below g ok.head_below v p t (ok.head_below u v a) l; path = v ∷ p; start = u; leads = (a, l); inside = e })

  module _ (Y : ℕ → Bool) (apart : Y x ≡ false) where
    pub begins_into : (v : ℕ) (r : List Step) → v ≡ x → Y (last v r) ≡ true → IsWalk (cut_arrows g (all_out x)) v r → BeginsInto r
    begins_into v [] e y w = not_both (Y v) y (rw e apart)
    begins_into v (s ∷ r) e y w = go s.mark w.0
      where
        go : (m : Mark) → IsJoined (cut_arrows g (all_out x)) v m s.to → heads_first m ≡ true
        go Out j = absurd (not_both (v == x) (eq-eqb v x e) (not-true (v == x) (and_parts (g.arrow v s.to) (not (v == x)) j).1))
        go Into j = refl
        go Both j = refl

    -- an open path of the graph without the arrows out of x breaks the criterion
    pub back_door_path : (p : OpenPath) → IsOpenPath (cut_arrows g (all_out x)) (only x) Y Z p.vertices p.marks p.count → IsBackDoorPath g x Y Z p
    back_door_path p o = record {
      open_path = record {
        some = o.some;
        few = o.few;
        walk = open_more g (all_out x) (only x) Y Z (slice_index p.vertices 0) (steps_of p) o.walk;
        path = o.path;
      };
      begins = begins_into (slice_index p.vertices 0) (steps_of p) (eqb-true (slice_index p.vertices 0) x o.walk.begins) o.walk.ends o.walk.walk;
    }

    pub back_door_separated : IsBackDoorSet g x Y Z → IsSeparated (cut_arrows g (all_out x)) (only x) Y Z
    back_door_separated k v r o =
        let q = open_path_from (cut_arrows g (all_out x)) (graph_arrows g (all_out x) ok) (only x) Y Z v r o in
        let e : v ≡ x = eqb-true v x o.begins in
        k.blocked q.0 (subst (λ u. IsPath u q.0) e q.2) (begins_into v q.0 e q.1.ends q.1.walk)
        (subst (λ u. IsOpenWalk g (only x) Y Z u q.0) e (open_more g (all_out x) (only x) Y Z v q.0 q.1))

    pub back_door_from : IsClearOf (IsDescendant g (only x)) Z → IsSeparated (cut_arrows g (all_out x)) (only x) Y Z → IsBackDoorSet g x Y Z
    back_door_from clear sep = record {
      clear = clear;
      blocked = λ r p b o. sep x r (open_less g (all_out x) Z (clear_of_out clear) (only x) (λ u v e. e) Y x r (outside_path x r p) (not_into r b) o);
    }
