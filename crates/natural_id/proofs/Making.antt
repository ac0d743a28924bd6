-- The parts, one district after the other.
use Rattle.std.proofs.Common.{ℕ, ◌≡◌, ◌<◌, ◌↔◌, Bool, true, false, refl, sym, ap, ap₂, ◌∙◌, ◌++◌, subst, List, [], ◌∷◌, not, ◌&&◌, arith}
use Rattle.std.proofs.lemmas.Bool.{and_from, not_from_false}
use Rattle.std.proofs.lemmas.List.{map-append}
use Rattle.mixed_graph.proofs.Masks.{has-zero, positive_from_has}
use Rattle.finite_models.proofs.Bools.{and_first, and_second, not_both, same_truth}
use Rattle.mixed_graph.specs.declared.sets.VSet.{VSet}
use Rattle.mixed_graph.specs.Vocabulary.{has, MixedGraph, minus, all}
use Rattle.prob_expr.specs.Vocabulary.{effect_on, EqualsEffect, formula_view}
use Rattle.natural_id.specs.declared.answers.Part.{Part}
use Rattle.natural_id.specs.declared.answers.Split.{Split}
use Rattle.natural_id.specs.Parts.{PlainPart, IsRightPart, AreRightParts, IsFoundPart, AreFoundParts, districts_of}
use Rattle.natural_id.specs.Answers.{part_view, parts_view, AreAlike, IsFormulaOf, IsPartOf, IsSplitIn}

-- the parts of the districts so far
pub record AreMade (g : MixedGraph) (x through : ℕ) (ts : List ℕ) (ps : List Part) : Type 0 where
  pub districts : districts_of (parts_view ps) ≡ ts
  pub parts : AreRightParts g x through (parts_view ps)
  pub found : AreFoundParts g x through (parts_view ps)

pub made_none : (g : MixedGraph) (x through : ℕ) (ps : List Part) → ps ≡ [] → AreMade g x through [] ps
made_none g x through ps e = subst (AreMade g x through []) (sym e) (record { districts = refl; parts = tt; found = tt })

districts_more : (ps : List PlainPart) (p : PlainPart) → districts_of (ps ++ p ∷ []) ≡ districts_of ps ++ p.district ∷ []
districts_more [] p = refl
districts_more (q ∷ ps) p = ap (λ l. q.district ∷ l) (districts_more ps p)

parts_more : (g : MixedGraph) (x through : ℕ) (ps : List PlainPart) (p : PlainPart) → AreRightParts g x through ps
    → IsRightPart g x through p → AreRightParts g x through (ps ++ p ∷ [])
parts_more g x through [] p h k = (k, tt)
parts_more g x through (q ∷ ps) p h k = (h.0, parts_more g x through ps p h.1 k)

found_more : (g : MixedGraph) (x through : ℕ) (ps : List PlainPart) (p : PlainPart) → AreFoundParts g x through ps
    → IsFoundPart g x through p → AreFoundParts g x through (ps ++ p ∷ [])
found_more g x through [] p h k = (k, tt)
found_more g x through (q ∷ ps) p h k = (h.0, found_more g x through ps p h.1 k)

-- the treatments with a child in c that leads to y through m are these
abbrev pub AreRead : MixedGraph → (x through c second : ℕ) → Type 0
AreRead g x through c second = (q : ℕ) → (has second q ≡ true)
    ↔ ((has x q ≡ true) × ((v : ℕ) × (has c v ≡ true) × (has through v ≡ true) × (g.arrow q v ≡ true)))

-- one part more
pub made_more : (g : MixedGraph) (x through : ℕ) (ts next : List ℕ) (ps ps' : List Part) (c second : VSet) (p : Part)
    → AreMade g x through ts ps → ps' ≡ ps ++ p ∷ [] → next ≡ ts ++ c.bits ∷ [] → IsPartOf g c second p
    → ((q v : ℕ) → g.arrow q v ≡ true → has x q ≡ true → has c.bits v ≡ true → has through v ≡ has second.bits q) → AreRead g x through c.bits second.bits
    → AreMade g x through next ps'
made_more g x through ts next ps ps' c second p made e n is reads read = record {
  districts = ap (λ l. districts_of (parts_view l)) e ∙ ap districts_of (map-append part_view ps (p ∷ []))
      ∙ districts_more (parts_view ps) (part_view p) ∙ ap₂ (λ l d. l ++ d ∷ []) made.districts (ap (λ (s : VSet). s.bits) is.district) ∙ sym n;
  parts = subst (AreRightParts g x through) (sym (ap parts_view e ∙ map-append part_view ps (p ∷ [])))
      (parts_more g x through (parts_view ps) (part_view p) made.parts (record {
        formula = right.equals;
        reads = λ q v a e i. reads q v a e (subst (λ (s : VSet). has s.bits v ≡ true) is.district i) ∙ ap (λ (s : VSet). has s.bits q) (sym is.second);
      }));
  found = subst (AreFoundParts g x through) (sym (ap parts_view e ∙ map-append part_view ps (p ∷ [])))
      (found_more g x through (parts_view ps) (part_view p) made.found (record {
        second = subst (λ (s : VSet). AreRead g x through p.district.bits s.bits) (sym is.second)
            (subst (λ (s : VSet). AreRead g x through s.bits second.bits) (sym is.district) read);
        identified = right.identified;
        formed = right.formed;
        do_free = right.do_free;
        names = right.names;
      }));
}
  where
    right : IsFormulaOf g p.district.bits (formula_view p.formula)
    right = subst (λ (s : VSet). IsFormulaOf g s.bits (formula_view p.formula)) (sym is.district) is.formula

no_of : (b : Bool) → not b ≡ true → b ≡ false
no_of b h = grind (arith, h)

-- ---- children of both kinds in a district
module _ (g : MixedGraph) (c x through : ℕ) where
  -- a treatment with children of both kinds is read twice
  module _ (direct indirect of_direct of_indirect once twice : ℕ) (is_direct : (v : ℕ) → has direct v ≡ (has c v && not (has through v)))
      (is_indirect : (v : ℕ) → has indirect v ≡ (has c v && has through v))
      (are_direct : (q : ℕ) → (has of_direct q ≡ true) ↔ ((v : ℕ) × (has direct v ≡ true) × (g.arrow q v ≡ true)))
      (are_indirect : (q : ℕ) → (has of_indirect q ≡ true) ↔ ((v : ℕ) × (has indirect v ≡ true) × (g.arrow q v ≡ true)))
      (is_once : (q : ℕ) → has once q ≡ (has x q && has of_direct q)) (is_twice : (q : ℕ) → has twice q ≡ (has once q && has of_indirect q)) where
    -- where no treatment is read twice, its children are alike
    pub none_twice : twice ≡ 0 → AreAlike g x through c
    none_twice zero p v w e a b i j = go (has through v) (has through w) refl refl
      where
        never : (v w : ℕ) → g.arrow p v ≡ true → g.arrow p w ≡ true → has c v ≡ true → has c w ≡ true → has through v ≡ false → has through w ≡ true → ⊥
        never v w a b i j h k = not_both (has twice p)
            (is_twice p ∙ and_from (has once p) (has of_indirect p)
            (is_once p ∙ and_from (has x p) (has of_direct p) e
            ((are_direct p).1 (v, is_direct v ∙ and_from (has c v) (not (has through v)) i (not_from_false (has through v) h), a)))
            ((are_indirect p).1 (w, is_indirect w ∙ and_from (has c w) (has through w) j k, b)))
            (ap (λ n. has n p) zero ∙ has-zero p)

        go : (b d : Bool) → has through v ≡ b → has through w ≡ d → has through v ≡ has through w
        go true true h k = h ∙ sym k
        go false false h k = h ∙ sym k
        go false true h k = absurd (never v w a b i j h k)
        go true false h k = absurd (never w v b a j i k h)

    -- a treatment that is read twice, with its children
    pub of_x : (p : ℕ) → has twice p ≡ true → has x p ≡ true
    of_x p h = and_first (has x p) (has of_direct p) (sym (is_once p) ∙ and_first (has once p) (has of_indirect p) (sym (is_twice p) ∙ h))

    module _ (p children : ℕ) (h : has twice p ≡ true) (are : (v : ℕ) → has children v ≡ g.arrow p v) where
      pub some_first : (first : ℕ) → ((v : ℕ) → has first v ≡ (has direct v && has children v)) → 0 < first
      some_first first is =
          let k = (are_direct p).0 (and_second (has x p) (has of_direct p) (sym (is_once p) ∙ and_first (has once p) (has of_indirect p) (sym (is_twice p) ∙ h))) in
          positive_from_has first k.0 (is k.0 ∙ and_from (has direct k.0) (has children k.0) k.1 (are k.0 ∙ k.2))

      pub some_second : (second : ℕ) → ((v : ℕ) → has second v ≡ (has indirect v && has children v)) → 0 < second
      some_second second is =
          let k = (are_indirect p).0 (and_second (has once p) (has of_indirect p) (sym (is_twice p) ∙ h)) in
          positive_from_has second k.0 (is k.0 ∙ and_from (has indirect k.0) (has children k.0) k.1 (are k.0 ∙ k.2))

      pub both_kinds : (first second : ℕ) → ((v : ℕ) → has first v ≡ (has direct v && has children v))
          → ((v : ℕ) → has second v ≡ (has indirect v && has children v)) → (s : Split) → s.district.bits ≡ c → s.treatment ≡ p
          → has first s.first ≡ true → has second s.second ≡ true → IsSplitIn g x through s
      both_kinds first second is_first is_second s at is i j =
          let one = sym (is_first s.first) ∙ i in
          let two = sym (is_second s.second) ∙ j in
          let one_in = sym (is_direct s.first) ∙ and_first (has direct s.first) (has children s.first) one in
          let two_in = sym (is_indirect s.second) ∙ and_first (has indirect s.second) (has children s.second) two in
          record {
            from_x = ap (has x) is ∙ of_x p h;
            first_in = ap (λ n. has n s.first) at ∙ and_first (has c s.first) (not (has through s.first)) one_in;
            first_child = ap (λ n. g.arrow n s.first) is ∙ sym (are s.first) ∙ and_second (has direct s.first) (has children s.first) one;
            first_out = no_of (has through s.first) (and_second (has c s.first) (not (has through s.first)) one_in);
            second_in = ap (λ n. has n s.second) at ∙ and_first (has c s.second) (has through s.second) two_in;
            second_child = ap (λ n. g.arrow n s.second) is ∙ sym (are s.second) ∙ and_second (has indirect s.second) (has children s.second) two;
            second_through = and_second (has c s.second) (has through s.second) two_in;
          }

  -- where they are alike, those of a treatment lead through m exactly where one of them does
  module _ (inside parents second : ℕ) (alike : AreAlike g x through c) (is_inside : (v : ℕ) → has inside v ≡ (has c v && has through v))
      (are_parents : (q : ℕ) → (has parents q ≡ true) ↔ ((v : ℕ) × (has inside v ≡ true) × (g.arrow q v ≡ true)))
      (is_second : (q : ℕ) → has second q ≡ (has x q && has parents q)) where
    pub read_value : (q v : ℕ) → g.arrow q v ≡ true → has x q ≡ true → has c v ≡ true → has through v ≡ has second q
    read_value q v a e i = same_truth (has through v) (has second q)
        (λ h. is_second q ∙ and_from (has x q) (has parents q) e ((are_parents q).1 (v, is_inside v ∙ and_from (has c v) (has through v) i h, a)))
        (λ h. let k = (are_parents q).0 (and_second (has x q) (has parents q) (sym (is_second q) ∙ h)) in
        let in_both = sym (is_inside k.0) ∙ k.1 in
        alike q v k.0 e a k.2 i (and_first (has c k.0) (has through k.0) in_both) ∙ and_second (has c k.0) (has through k.0) in_both)

  -- and exactly the treatments with such a child are read at their second values
  module _ (inside parents second : ℕ) (is_inside : (v : ℕ) → has inside v ≡ (has c v && has through v))
      (are_parents : (q : ℕ) → (has parents q ≡ true) ↔ ((v : ℕ) × (has inside v ≡ true) × (g.arrow q v ≡ true)))
      (is_second : (q : ℕ) → has second q ≡ (has x q && has parents q)) where
    pub are_read : AreRead g x through c second
    are_read q = (
      λ h. let both = sym (is_second q) ∙ h in let k = (are_parents q).0 (and_second (has x q) (has parents q) both) in let i = sym (is_inside k.0) ∙ k.1 in
          (and_first (has x q) (has parents q) both, (k.0, and_first (has c k.0) (has through k.0) i, and_second (has c k.0) (has through k.0) i, k.2)),
      λ h. let v = h.1.0 in is_second q ∙ and_from (has x q) (has parents q) h.0
          ((are_parents q).1 (v, is_inside v ∙ and_from (has c v) (has through v) h.1.1 h.1.2, h.1.3)),
    )
