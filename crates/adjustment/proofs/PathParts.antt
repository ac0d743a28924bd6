-- A path from its last vertex in a set on is a proper path.
use Rattle.std.proofs.Common.{◌≡◌, ℕ, zero, suc, ◌+◌, ◌-◌, ◌<◌, ◌≤◌, Bool, false, List, get_or, refl, sym, ap, ◌∙◌, ◌↔◌, inl, inr, IsTrue, subst, arith}
use Rattle.std.proofs.lemmas.Bool.{cases_eq}
use Rattle.mixed_graph.specs.Vocabulary.{Within, Apart, MixedGraph, IsMixedGraph}
use Rattle.m_separation.specs.declared.marks.Mark.{Mark}
use Rattle.m_separation.specs.declared.marks.Mark.TheVariants.{Out}
use Rattle.m_separation.specs.declared.paths.OpenPath.{OpenPath}
use Rattle.m_separation.specs.Vocabulary.{Step, IsWalk, last, heads_second, ArePassed, IsPath, IsOpenWalk, steps_from, IsOpenPath}
use Rattle.m_separation.proofs.Going.{joined_below, passed_inside}
use Rattle.adjustment.specs.Proper.{AreOutside, IsCausal, IsBetween}
use Rattle.adjustment.proofs.FirstEdges.{cut_arrows, firsts}
use Rattle.adjustment.specs.Faults.{steps_of, IsUnblockedPath}
use Rattle.adjustment.specs.Parts.{BeginsIn, IsLastPart}
use Rattle.adjustment.proofs.Walks.{open_more}
use Rattle.adjustment.proofs.Separating.{not_causal}

-- steps are read from the entries alone
pub steps_from_same : (a : List ℕ) (m : List Mark) (i : ℕ) (b : List ℕ) (n : List Mark) (j k : ℕ)
    → ((t : ℕ) → t ≤ k → get_or a (i + t) 0 ≡ get_or b (j + t) 0) → ((t : ℕ) → t < k → get_or m (i + t) Out ≡ get_or n (j + t) Out)
    → steps_from a m i k ≡ steps_from b n j k
steps_from_same a m i b n j zero hv hm = refl
steps_from_same a m i b n j (suc k) hv hm =
    let rest = steps_from_same a m (i + 1) b n (j + 1) k
    (λ t le. subst (λ p. get_or a p 0 ≡ get_or b (j + 1 + t) 0) (let e : i + (1 + t) ≡ i + 1 + t = omega arith in e)
    (subst (λ p. get_or a (i + (1 + t)) 0 ≡ get_or b p 0) (let e : j + (1 + t) ≡ j + 1 + t = omega arith in e) (hv (1 + t) (omega arith))))
    (λ t lt. subst (λ p. get_or m p Out ≡ get_or n (j + 1 + t) Out) (let e : i + (1 + t) ≡ i + 1 + t = omega arith in e)
    (subst (λ p. get_or m (i + (1 + t)) Out ≡ get_or n p Out) (let e : j + (1 + t) ≡ j + 1 + t = omega arith in e) (hm (1 + t) (omega arith)))) in
    let v : get_or a (i + 1) 0 ≡ get_or b (j + 1) 0 = hv 1 (omega arith) in
    let h : get_or m i Out ≡ get_or n j Out = subst (λ p. get_or m p Out ≡ get_or n j Out) (let e : i + 0 ≡ i = omega arith in e)
    (subst (λ p. get_or m (i + 0) Out ≡ get_or n p Out) (let e : j + 0 ≡ j = omega arith in e) (hm 0 (omega arith))) in
    cc

-- each vertex of a walk is one of the graph's
pub vertices_below : (g : MixedGraph) → IsMixedGraph g → (a : List ℕ) (m : List Mark) (i k : ℕ) → get_or a i 0 < g.vertices
    → IsWalk g (get_or a i 0) (steps_from a m i k)
    → (t : ℕ) → i ≤ t → t ≤ i + k → get_or a t 0 < g.vertices
vertices_below g ok a m i zero below walk t low high = let e : i ≡ t = omega arith in subst (λ p. get_or a p 0 < g.vertices) e below
vertices_below g ok a m i (suc k) below walk t low high = elim (cases_eq i t) [
  | inl e ↦ subst (λ p. get_or a p 0 < g.vertices) e below
  | inr d ↦ vertices_below g ok a m (i + 1) k (joined_below g ok (get_or a i 0) (get_or m i Out) (get_or a (i + 1) 0) walk.0) walk.1 t (omega arith)
      (omega arith)
]

-- a path may be asked for its last vertex in x
pub path_begins : (g : MixedGraph) → IsMixedGraph g → g.vertices ≤ 64 → (X Y W : ℕ → Bool) (p : OpenPath) → IsOpenPath g X Y W p.vertices p.marks p.count
    → BeginsIn X p
path_begins g ok small X Y W p o = record {
  some = o.some;
  few = o.few;
  vertices = λ i lt. let s = o.some in let b = vertices_below g ok p.vertices p.marks 0 (p.count - 1) o.walk.vertex o.walk.walk i (omega arith)
      (omega arith) in omega (arith, b, small);
  begins = o.walk.begins;
}

-- k steps from place i on, to that end
record Rest (g : MixedGraph) (W : ℕ → Bool) (a : List ℕ) (m : List Mark) (end i k : ℕ) : Type 0 where
  walk : IsWalk g (get_or a i 0) (steps_from a m i k)
  passed : ArePassed g W (steps_from a m i k)
  path : IsPath (get_or a i 0) (steps_from a m i k)
  ends : last (get_or a i 0) (steps_from a m i k) ≡ end

rest_next : (g : MixedGraph) (W : ℕ → Bool) (a : List ℕ) (m : List Mark) (end i k : ℕ) → Rest g W a m end i (suc k) → Rest g W a m end (i + 1) k
rest_next g W a m end i k r = record {
  walk = r.walk.1;
  passed = passed_inside g W (heads_second (get_or m i Out)) (get_or a (i + 1) 0) (steps_from a m (i + 1) k) r.passed;
  path = r.path.1;
  ends = r.ends;
}

rest_at : (g : MixedGraph) (W : ℕ → Bool) (a : List ℕ) (m : List Mark) (end n p k : ℕ) → p + k ≡ n → Rest g W a m end 0 n → Rest g W a m end p k
rest_at g W a m end n zero k e r = subst (λ j. Rest g W a m end 0 j) (let f : n ≡ k = omega arith in f) r
rest_at g W a m end n (suc p) k e r =
    subst (λ j. Rest g W a m end j k) (let f : p + 1 ≡ suc p = omega arith in f) (rest_next g W a m end p k (rest_at g W a m end n p (suc k) (omega arith) r))

outside_steps : (X : ℕ → Bool) (a : List ℕ) (m : List Mark) (i k : ℕ) → ((j : ℕ) → i < j → j ≤ i + k → X (get_or a j 0) ≡ false)
    → AreOutside X (steps_from a m i k)
outside_steps X a m i zero h = tt
outside_steps X a m i (suc k) h = (h (i + 1) (omega arith) (omega arith), outside_steps X a m (i + 1) k (λ j lt le. h j (omega arith) (omega arith)))

-- a proper path that isn't causal and is open
record IsAgainst (g : MixedGraph) (X Y Z : ℕ → Bool) (v : ℕ) (r : List Step) : Type 0 where
  open_walk : IsOpenWalk g X Y Z v r
  path : IsPath v r
  outside : AreOutside X r
  not_causal : IsCausal r → ⊥

module _ (g : MixedGraph) (ok : IsMixedGraph g) (X Y : ℕ → Bool) (within : Within g.vertices X) (apart : Apart X Y) (B : ℕ → Bool)
    (is_between : (v : ℕ) → IsTrue (B v) ↔ IsBetween g X Y v) (Z : ℕ → Bool) (x_out : Apart X Z) where
  module _ (path part : OpenPath) (o : IsOpenPath (cut_arrows g (firsts X B)) X Y Z path.vertices path.marks path.count) (l : IsLastPart X path part) where
    rest : Rest (cut_arrows g (firsts X B)) Z path.vertices path.marks
        (last (get_or path.vertices 0 0) (steps_from path.vertices path.marks 0 (path.count - 1))) l.0 (part.count - 1)
    rest = rest_at (cut_arrows g (firsts X B)) Z path.vertices path.marks
        (last (get_or path.vertices 0 0) (steps_from path.vertices path.marks 0 (path.count - 1))) (path.count - 1) l.0 (part.count - 1)
        (let e = l.2.count in let b = l.1.below in omega arith) (record { walk = o.walk.walk; passed = o.walk.passed; path = o.path; ends = refl })

    outside_rest : AreOutside X (steps_from path.vertices path.marks l.0 (part.count - 1))
    outside_rest = outside_steps X path.vertices path.marks l.0 (part.count - 1)
        (λ j lt le. l.1.last j lt (let e = l.2.count in let b = l.1.below in omega arith))

    against : IsAgainst g X Y Z (get_or path.vertices l.0 0) (steps_from path.vertices path.marks l.0 (part.count - 1))
    against = record {
      open_walk = open_more g (firsts X B) X Y Z (get_or path.vertices l.0 0) (steps_from path.vertices path.marks l.0 (part.count - 1)) (record {
        vertex = within (get_or path.vertices l.0 0) l.1.member;
        begins = l.1.member;
        ends = rw rest.ends o.walk.ends;
        first_outside = x_out (get_or path.vertices l.0 0) l.1.member;
        last_outside = rw rest.ends o.walk.last_outside;
        walk = rest.walk;
        passed = rest.passed;
      });
      path = rest.path;
      outside = outside_rest;
      not_causal = not_causal g ok X Y within apart B is_between Z (get_or path.vertices l.0 0) (steps_from path.vertices path.marks l.0 (part.count - 1))
          l.1.member
          (rw rest.ends o.walk.ends) rest.walk rest.path outside_rest;
    }

    moved : (v w : ℕ) (r s : List Step) → v ≡ w → r ≡ s → IsAgainst g X Y Z v r → IsAgainst g X Y Z w s
    moved v w r s e f k = subst (λ u. IsAgainst g X Y Z u s) e (subst (λ q. IsAgainst g X Y Z v q) f k)

    against_part : IsAgainst g X Y Z (get_or part.vertices 0 0) (steps_of part)
    against_part = moved (get_or path.vertices l.0 0) (get_or part.vertices 0 0) (steps_from path.vertices path.marks l.0 (part.count - 1)) (steps_of part)
        (let e = l.2.count in let b = l.1.below in let f : l.0 ≡ l.0 + 0 = omega arith in ap (λ p. get_or path.vertices p 0) f
        ∙ sym (l.2.vertices 0 (omega arith)))
        (steps_from_same path.vertices path.marks l.0 part.vertices part.marks 0 (part.count - 1)
        (λ t le. let e = l.2.count in let b = l.1.below in let f : t ≡ 0 + t = omega arith in sym (l.2.vertices t (omega arith))
        ∙ ap (λ p. get_or part.vertices p 0) f)
        (λ t lt. let e = l.2.count in let b = l.1.below in let f : t ≡ 0 + t = omega arith in sym (l.2.marks t (omega arith))
        ∙ ap (λ p. get_or part.marks p Out) f))
        against

    -- the last part of an open path of the back-door graph breaks the criterion
    pub part_unblocked : IsUnblockedPath g X Y Z part
    part_unblocked = record {
      open_path = record {
        some = (let e = l.2.count in let b = l.1.below in omega arith);
        few = (let e = l.2.count in let f = o.few in omega arith);
        walk = against_part.open_walk;
        path = against_part.path;
      };
      proper = record {
        begins = against_part.open_walk.begins;
        ends = against_part.open_walk.ends;
        walk = against_part.open_walk.walk;
        path = against_part.path;
        outside = against_part.outside;
      };
      not_causal = against_part.not_causal;
    }
