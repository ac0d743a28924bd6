-- The procedure finds one formula.
use Rattle.std.proofs.Common.{ℕ, ◌≡◌, true, sym, ap, ap₂, ◌∙◌, subst, List, [], ◌∷◌}
use Rattle.mixed_graph.specs.Vocabulary.{has, MixedGraph, union, minus, all}
use Rattle.mixed_graph.proofs.Masks.{same_from_has}
use Rattle.finite_models.proofs.Bools.{same_truth}
use Rattle.hedge.specs.Vocabulary.{AreDistricts, AreDistrictsOf, IsSetOf}
use Rattle.prob_expr.specs.Vocabulary.{PlainFormula}
use Rattle.identification_theory.specs.Vocabulary.{AreAncestorsIn, IsIdentified, Split}
use Rattle.identification_theory.proofs.Answered.{one_formula}
use Rattle.identification_theory.proofs.Unique.{one_set, split_one}
use Rattle.identify.proofs.Orders.{districts_by}
use Rattle.nested_models.specs.Vocabulary.{LeadsThrough}
use Rattle.natural_id.specs.Parts.{PlainPart, IsFoundPart, AreFoundParts, IsFormulaByParts, OneFormulaByParts, districts_of}

-- the formula of parts that were found
pub by_procedure : (g : MixedGraph) (x m y z d joint : ℕ) → joint ≡ union y z → AreAncestorsIn g (minus (all g.vertices) x) joint d
    → (through : ℕ) → IsSetOf through (LeadsThrough g (has x) (has m) (has y)) → (summed : ℕ) → summed ≡ minus d joint
    → (ts : List ℕ) → AreDistrictsOf g d ts → (ps : List PlainPart) → districts_of ps ≡ ts → AreFoundParts g x through ps
    → IsFormulaByParts g x m y z summed ps
by_procedure g x m y z d joint same are through is_through summed is ts districts ps listed parts = record {
  d = d;
  ancestors = subst (λ j. AreAncestorsIn g (minus (all g.vertices) x) j d) same are;
  sum = is ∙ ap (minus d) same;
  through = through;
  is_through = is_through;
  districts = subst (AreDistrictsOf g d) (sym listed) districts;
  parts = parts;
}

abbrev first_of : List ℕ → ℕ
first_of [] = 0
first_of (d ∷ ds) = d

abbrev rest_of : List ℕ → List ℕ
rest_of [] = []
rest_of (d ∷ ds) = ds

abbrev part : (district second : ℕ) → PlainFormula → PlainPart
part district second formula = record { district = district; second = second; formula = formula }

module _ (g : MixedGraph) (x k : ℕ) where
  same_second : (p q : PlainPart) → IsFoundPart g x k p → IsFoundPart g x k q → p.district ≡ q.district → p.second ≡ q.second
  same_second p q a b e = same_from_has p.second q.second (λ v. same_truth (has p.second v) (has q.second v)
      (λ h. let r = (a.second v).0 h in (b.second v).1 (r.0, (r.1.0, subst (λ d. has d r.1.0 ≡ true) e r.1.1, r.1.2, r.1.3)))
      (λ h. let r = (b.second v).0 h in (a.second v).1 (r.0, (r.1.0, subst (λ d. has d r.1.0 ≡ true) (sym e) r.1.1, r.1.2, r.1.3))))

  same_part : (p q : PlainPart) → IsFoundPart g x k p → IsFoundPart g x k q → p.district ≡ q.district → p ≡ q
  same_part p q a b e =
      let f : p.formula ≡ q.formula = one_formula g (minus (all g.vertices) p.district) p.district p.formula q.formula a.identified
      (subst (λ d. IsIdentified g (minus (all g.vertices) d) d q.formula) (sym e) b.identified) in
      let s = same_second p q a b e in
      λ i. part (e i) (s i) (f i)

  same_parts : (ps qs : List PlainPart) → AreFoundParts g x k ps → AreFoundParts g x k qs → districts_of ps ≡ districts_of qs → ps ≡ qs
  same_parts [] [] a b e = λ i. []
  same_parts [] (q ∷ qs) a b e = absurd (cc e)
  same_parts (p ∷ ps) [] a b e = absurd (cc e)
  same_parts (p ∷ ps) (q ∷ qs) a b e =
      ap₂ (λ (r : PlainPart) (rs : List PlainPart). r ∷ rs) (same_part p q a.0 b.0 (ap first_of e)) (same_parts ps qs a.1 b.1 (ap rest_of e))

abbrev split_of : (g : MixedGraph) (x m y z u : ℕ) (ps : List PlainPart) (order : List ℕ) → (f : IsFormulaByParts g x m y z u ps)
    → AreDistricts g f.d 0 order (districts_of ps) → Split g order x (union y z)
split_of g x m y z u ps order f are = record { d = f.d; is_d = f.ancestors; districts = districts_of ps; are_districts = are }

pub one_formula_by_parts : OneFormulaByParts
one_formula_by_parts g x m y z u v ps qs a b =
    let order = a.districts.order in
    let one = split_one g order x (union y z) (split_of g x m y z u ps order a a.districts.districts)
    (split_of g x m y z v qs order b (districts_by g b.d order (districts_of qs) a.districts.is_order b.districts)) in
    let through : b.through ≡ a.through = one_set b.through a.through _ b.is_through a.is_through in (
      a.sum ∙ ap (λ d. minus d (union y z)) one.0 ∙ sym b.sum,
      same_parts g x a.through ps qs a.parts (subst (λ k. AreFoundParts g x k qs) through b.parts) one.1,
    )
