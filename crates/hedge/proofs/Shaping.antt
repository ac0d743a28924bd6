-- The choices of a hedge lead to its roots, and its links join its sets.
use Rattle.std.proofs.Common.{◌≡◌, ℕ, zero, suc, ◌+◌, ◌<◌, ◌≤◌, Bool, true, false, ◌&&◌, ◌||◌, ◌==◌, List, [], ◌∷◌, ◌++◌, length, get_or, IsTrue, inl}
use Rattle.std.proofs.Common.{inr, refl, sym, subst, arith}
use Rattle.std.proofs.lemmas.Bool.{cases_Bool, and_from, and_parts, or_cases, eqb-true, eq-eqb}
use Rattle.mixed_graph.specs.Vocabulary.{has, members_below, MixedGraph, IsMixedGraph, IsDirectedPath, IsAncestor, induced}
use Rattle.mixed_graph.proofs.Paths.{path_push}
use Rattle.mixed_graph.proofs.Members.{length-members-lt, length-members-more}
use Rattle.hedge.specs.Linked.{IsLinked, IsJoinedSet}
use Rattle.hedge.specs.Linked.IsLinked.{at, by}
use Rattle.hedge.proofs.Parts.{joined_by}
use Rattle.hedge.specs.declared.hedge.Hedge.{Hedge}
use Rattle.hedge.specs.Hedges.{IsHedge, IsPlaced}
use Rattle.hedge.specs.Shapes.{AreSetsOfHedge, FormHedge, HedgeHasSets, SetsFormHedge}

-- a set from each of whose members a path of two or more vertices leads to v
abbrev Behind : MixedGraph → (ℕ → Bool) → ℕ → Type 0
Behind g seen v = (u : ℕ) → IsTrue (seen u) → (c : ℕ) × (rest : List ℕ) × IsDirectedPath g u (c ∷ rest) v

behind_more : (g : MixedGraph) (seen : ℕ → Bool) (v c : ℕ) → IsTrue (g.arrow v c) → Behind g seen v → Behind g (λ u. seen u || (u == v)) c
behind_more g seen v c edge s u i = elim (or_cases (seen u) (u == v) i) [
  | inl o ↦ let b = s u o in (b.0, b.1 ++ c ∷ [], path_push g u v c (b.0 ∷ b.1) b.2 edge)
  | inr e ↦ (c, [], subst (λ w. IsDirectedPath g w (c ∷ []) c) (sym (eqb-true u v e)) (edge, refl))
]

-- where each member of s outside r has a child in s, each leads to r inside s: no vertex comes twice
leads_on : (g : MixedGraph) (valid : IsMixedGraph g) (s r : ℕ → Bool) → ((v : ℕ) → IsTrue (s v) → r v ≡ false → (c : ℕ) × IsTrue (g.arrow v c) × IsTrue (s c)) →
    (steps : ℕ) (seen : ℕ → Bool) (v : ℕ) → g.vertices ≤ length (members_below seen g.vertices) + steps → Behind g seen v → v < g.vertices → IsTrue (s v)
    → IsAncestor (induced g s) r v
leads_on g valid s r next zero seen v room behind below i = absurd (
    let out : seen v ≡ false = elim (cases_Bool (seen v)) [ inl t ↦ absurd (let b = behind v t in valid.acyclic v b.0 b.1 b.2) | inr f ↦ f ] in
    let l = length-members-lt seen g.vertices v below out in omega arith)
leads_on g valid s r next (suc steps) seen v room behind below i = elim (cases_Bool (r v)) [
  | inl t ↦ record { vertex = below; path = []; end = v; leads = refl; inside = t }
  | inr f ↦
      let c = next v i f in
      let out : seen v ≡ false = elim (cases_Bool (seen v)) [ inl t ↦ absurd (let b = behind v t in valid.acyclic v b.0 b.1 b.2) | inr f ↦ f ] in
      let more = length-members-more seen (λ u. seen u || (u == v)) v g.vertices below out (λ u. refl) in
      let a = leads_on g valid s r next steps (λ u. seen u || (u == v)) c.0 (omega arith) (behind_more g seen v c.0 c.1 behind) (valid.head_below v c.0 c.1)
      c.2 in
      record { vertex = below; path = c.0 ∷ a.path; end = a.end; leads = (and_from _ _ c.1 (and_from _ _ i c.2), a.leads); inside = a.inside }
]

leads_to : (g : MixedGraph) (valid : IsMixedGraph g) (s r : ℕ → Bool) → ((v : ℕ) → IsTrue (s v) → r v ≡ false → (c : ℕ) × IsTrue (g.arrow v c) × IsTrue (s c)) →
    (v : ℕ) → v < g.vertices → IsTrue (s v) → IsAncestor (induced g s) r v
leads_to g valid s r next v below i = leads_on g valid s r next g.vertices (λ _. false) v (omega arith) (λ u t. absurd (cc)) below i

module _ (g : MixedGraph) (valid : IsMixedGraph g) (x y : ℕ) (h : Hedge) (small : g.vertices ≤ 64) (hedge : IsHedge g x y h) where
  abbrev entry : ℕ → ℕ
  entry i = get_or h.links.found i 0

  low : (v : ℕ) → IsTrue (has h.big.bits v) → v < 64
  low v i = let l = hedge.sets.low v i in omega arith

  small_choice : (v : ℕ) → IsTrue (has h.small.bits v) → has h.roots.bits v ≡ false → (c : ℕ) × IsTrue (g.arrow v c) × IsTrue (has h.small.bits c)
  small_choice v i n = let b = hedge.sets.small_inside v i in let k = (hedge.choices v (low v b)).chosen b n in
      (get_or h.choice.next v 0, k.arrow, k.in_small i)

  no_root : (v : ℕ) → has h.small.bits v ≡ false → has h.roots.bits v ≡ false
  no_root v n = elim (cases_Bool (has h.roots.bits v)) [ inl t ↦ absurd (let s = hedge.sets.roots_inside v t in cc) | inr f ↦ f ]

  big_choice : (v : ℕ) → IsTrue (has h.big.bits v) → has h.small.bits v ≡ false → (c : ℕ) × IsTrue (g.arrow v c) × IsTrue (has h.big.bits c)
  big_choice v i n = let k = (hedge.choices v (low v i)).chosen i (no_root v n) in (get_or h.choice.next v 0, k.arrow, k.in_big)

  -- ---- each entry is linked to the first, inside a set that holds the partners of its entries
  linked_back : (a : ℕ) → ((i : ℕ) → 0 < i → i < h.links.count → IsTrue (has a (entry i)) → IsTrue (has a (get_or h.links.partner i 0))) →
      (bound i : ℕ) → i < bound → i < h.links.count → IsTrue (has a (entry i)) → IsLinked g (has a) (λ w. w == entry 0) (entry i)
  linked_back a keeps zero i l c in' = absurd (omega arith)
  linked_back a keeps (suc bound) zero l c in' = at (eq-eqb (entry 0) (entry 0) refl)
  linked_back a keeps (suc bound) (suc i) l c in' =
      let p = hedge.links.partners (suc i) (omega arith) c in
      let e : entry p.place ≡ get_or h.links.partner (suc i) 0 = p.is in
      let m = keeps (suc i) (omega arith) c in' in
      let before = p.earlier in
      let r = linked_back a keeps bound p.place (omega arith) (omega arith) (subst (λ w. has a w ≡ true) (sym e) m) in
      by in' p.joined (subst (IsLinked g (has a) (λ w. w == entry 0)) e r)

  big_keeps : (i : ℕ) → 0 < i → i < h.links.count → IsTrue (has h.big.bits (entry i)) → IsTrue (has h.big.bits (get_or h.links.partner i 0))
  big_keeps i o c in' = let p = hedge.links.partners i o c in let e = p.earlier in
      subst (λ w. has h.big.bits w ≡ true) p.is (hedge.links.inside p.place (omega arith))

  small_keeps : (i : ℕ) → 0 < i → i < h.links.count → IsTrue (has h.small.bits (entry i)) → IsTrue (has h.small.bits (get_or h.links.partner i 0))
  small_keeps i o c in' = (hedge.links.partners i o c).in_small in'

  root_placed : IsPlaced h hedge.sets.rooted.0
  root_placed = hedge.links.placed hedge.sets.rooted.0 (hedge.sets.small_inside hedge.sets.rooted.0
      (hedge.sets.roots_inside hedge.sets.rooted.0 hedge.sets.rooted.1))

  some_entry : 0 < h.links.count
  some_entry = let l = root_placed.listed in omega arith

  first_big : IsTrue (has h.big.bits (entry 0))
  first_big = hedge.links.inside 0 some_entry

  first_small : IsTrue (has h.small.bits (entry 0))
  first_small =
      let p = hedge.links.placed (entry 0) first_big in
      let z : 0 ≡ p.place = p.once 0 some_entry refl in
      let r = root_placed.small_first.0 (hedge.sets.roots_inside hedge.sets.rooted.0 hedge.sets.rooted.1) in
      p.small_first.1 (omega arith)

  joined : (a : ℕ) → IsTrue (has a (entry 0)) → ((u : ℕ) → IsTrue (has a u) → IsTrue (has h.big.bits u)) →
      ((i : ℕ) → 0 < i → i < h.links.count → IsTrue (has a (entry i)) → IsTrue (has a (get_or h.links.partner i 0))) → IsJoinedSet g a
  joined a first sub keeps = joined_by g valid a (entry 0) first (λ u i.
      let p = hedge.links.placed u (sub u i) in
      subst (IsLinked g (has a) (λ w. w == entry 0)) p.here (linked_back a keeps (suc p.place) p.place (omega arith) p.listed
      (subst (λ w. has a w ≡ true) (sym p.here) i)))

  shape : AreSetsOfHedge g x y h.big.bits h.small.bits h.roots.bits
  shape = record {
    low = hedge.sets.low;
    small_inside = hedge.sets.small_inside;
    roots_inside = hedge.sets.roots_inside;
    rooted = record {
      vertex = hedge.sets.rooted.0;
      in_first = hedge.sets.rooted.1;
      in_second = hedge.sets.roots_inside hedge.sets.rooted.0 hedge.sets.rooted.1;
    };
    meets = hedge.meets;
    apart = hedge.apart;
    small_leads = λ v i n. let c = small_choice v i n in record { child = c.0; arrow = c.1; within = c.2 };
    big_leads = λ v i n. let c = big_choice v i n in record { child = c.0; arrow = c.1; within = c.2 };
    small_reaches = λ v i. leads_to g valid (has h.small.bits) (has h.roots.bits) small_choice v (hedge.sets.low v (hedge.sets.small_inside v i)) i;
    big_reaches = λ v i. leads_to g valid (has h.big.bits) (has h.small.bits) big_choice v (hedge.sets.low v i) i;
    small_joined = joined h.small.bits first_small hedge.sets.small_inside small_keeps;
    big_joined = joined h.big.bits first_big (λ u i. i) big_keeps;
    reaches = hedge.roots;
  }

pub hedge_has_sets : HedgeHasSets
hedge_has_sets g x y h valid small hedge = shape g valid x y h small hedge

-- ---- as the textbook has it
-- a directed path inside a set lies inside a larger one
path_within : (g : MixedGraph) (s t : ℕ → Bool) → ((v : ℕ) → IsTrue (s v) → IsTrue (t v)) → (v : ℕ) (path : List ℕ) (u : ℕ)
    → IsDirectedPath (induced g s) v path u → IsDirectedPath (induced g t) v path u
path_within g s t sub v [] u p = p
path_within g s t sub v (x ∷ xs) u p =
    let a = and_parts (g.arrow v x) (s v && s x) p.0 in
    let b = and_parts (s v) (s x) a.1 in
    (and_from _ _ a.0 (and_from _ _ (sub v b.0) (sub x b.1)), path_within g s t sub x xs u p.1)

path_joined : (g : MixedGraph) (v : ℕ) (path : List ℕ) (u : ℕ) (rest : List ℕ) (w : ℕ) → IsDirectedPath g v path u → IsDirectedPath g u rest w
    → IsDirectedPath g v (path ++ rest) w
path_joined g v [] u rest w p q = subst (λ z. IsDirectedPath g z rest w) (sym p) q
path_joined g v (x ∷ xs) u rest w p q = (p.0, path_joined g x xs u rest w p.1 q)

-- what leads to small inside big, and from there to the roots inside small, leads to the roots inside big
leads_through : (g : MixedGraph) (big small : ℕ) (roots : ℕ → Bool) → ((v : ℕ) → IsTrue (has small v) → IsTrue (has big v))
    → ((v : ℕ) → IsTrue (has small v) → IsAncestor (induced g (has small)) roots v)
    → (v : ℕ) → IsAncestor (induced g (has big)) (has small) v → IsAncestor (induced g (has big)) roots v
leads_through g big small roots sub on v a =
    let b = on a.end a.inside in
    record {
      vertex = a.vertex;
      path = a.path ++ b.path;
      end = b.end;
      leads = path_joined (induced g (has big)) v a.path a.end b.path b.end a.leads (path_within g (has small) (has big) sub a.end b.path b.end b.leads);
      inside = b.inside;
    }

forms : (g : MixedGraph) (x y big small roots : ℕ) → AreSetsOfHedge g x y big small roots → FormHedge g x y big small roots
forms g x y big small roots s = record {
  low = s.low;
  big_forest = record {
    roots_inside = λ v i. s.small_inside v (s.roots_inside v i);
    joined = s.big_joined;
    leads = λ v i. leads_through g big small (has roots) s.small_inside s.small_reaches v (s.big_reaches v i);
  };
  small_forest = record { roots_inside = s.roots_inside; joined = s.small_joined; leads = s.small_reaches };
  inside = s.small_inside;
  rooted = (s.rooted.vertex, s.rooted.in_first);
  meets = s.meets;
  apart = s.apart;
  reaches = s.reaches;
}

-- the sets of a hedge form one as the textbook has it
pub sets_form_hedge : SetsFormHedge
sets_form_hedge g x y h valid small hedge = forms g x y h.big.bits h.small.bits h.roots.bits (hedge_has_sets g x y h valid small hedge)
