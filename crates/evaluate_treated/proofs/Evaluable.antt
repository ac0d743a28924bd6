-- An identified effect can be read over a table of the vertices that are read for it.
use Rattle.std.proofs.Common.{◌≡◌, ℕ, zero, suc, ◌<◌, ◌≤◌, true, List, [], ◌∷◌, get_or, length, sym, subst, refl, arith}
use Rattle.mixed_graph.specs.Vocabulary.{has, union}
use Rattle.mixed_graph.proofs.Masks.{positive_from_has}
use Rattle.replies.proofs.OneTarget.{some_member}
use Rattle.prob_expr.specs.Tree.{prob}
use Rattle.prob_expr.specs.Mentioned.{mentioned}
use Rattle.prob_expr.specs.Vocabulary.{PlainFormula, mentioned_in, mentioned_in_defs}
use Rattle.identification_theory.proofs.Faults.{no_fault}
use Rattle.count_rows.specs.Vocabulary.{Table}
use Rattle.count_eval.specs.Vocabulary.{IsEvaluable, is_used}
use Rattle.table_cells.proofs.Tables.{member_used, used_member}
use Rattle.factor_values.specs.Vocabulary.{AreEvaluable, PlainFactor, PlainFactors}
use Rattle.natural_values.specs.Vocabulary.{mentioned_in_factors}
use Rattle.split_values.specs.Vocabulary.{IsSplitEvaluable}
use Rattle.evaluate_command.proofs.Mentions.{in_left, in_right, used_tree, used_defs}
use Rattle.paired_values.specs.Readings as readings
use Rattle.paired_values.specs.Readings.{read_by}
use Rattle.paired_values.specs.Vocabulary.{IsReadable, PlainReading, by_factors, by_split, read_in, sets_of}
use Rattle.evaluate_treated.specs.Effects.{AreRightFactors, IsIdentified, IsRightJoint, IsRightReading, IsTermOf, PlainAmong, paired_in}
use Rattle.evaluate_treated.specs.Walking.{IsOver}

-- what a factor of a list names, some factor names
named_in : (fs : List PlainFactor) (k : ℕ) (d : PlainFactor) → k < length fs → (v : ℕ) → has (mentioned (get_or fs k d).formula) v ≡ true
    → has (mentioned_in_factors fs) v ≡ true
named_in [] k d lt v h = absurd (omega (arith, lt))
named_in (f ∷ fs) zero d lt v h = in_left (mentioned f.formula) (mentioned_in_factors fs) v h
named_in (f ∷ fs) (suc k) d lt v h = in_right (mentioned f.formula) (mentioned_in_factors fs) v (named_in fs k d (omega (arith, lt)) v h)

module _ (e : PlainAmong) (t : Table) (over : IsOver e t) where
  small : e.graph.vertices ≤ 64
  small = let few = over.identified.few in omega (arith, few)

  pub used : (v : ℕ) → has (read_in (paired_in e)) v ≡ true → is_used t v ≡ true
  used v h = let low = over.identified.read v h in
      member_used t (has (read_in (paired_in e))) over.vertices over.counts v (let s = small in omega (arith, low, s)) h

  used_below : (v : ℕ) → is_used t v ≡ true → v < e.graph.vertices
  used_below v h = over.identified.read v (used_member t (has (read_in (paired_in e))) over.vertices v h)

  abbrev sets : ℕ
  sets = sets_of (paired_in e)

  -- a factor of used vertices can be evaluated
  factor_evaluable : (f : PlainFactor) → IsTermOf e.graph.vertices f → ((v : ℕ) → has (mentioned f.formula) v ≡ true → is_used t v ≡ true)
      → IsEvaluable e.graph.vertices t f.formula
  factor_evaluable f term all =
      let plain : PlainFormula = record { defs = []; main = prob term.of 0 term.given } in
      let names : (v : ℕ) → has (mentioned plain) v ≡ true → is_used t v ≡ true =
      λ v h. all v (subst (λ (k : PlainFormula). has (mentioned k) v ≡ true) (sym term.formula) h) in
      subst (IsEvaluable e.graph.vertices t) (sym term.formula) (record {
        few = small;
        below = used_below;
        accepted = no_fault e.graph.vertices plain (tt, term.is);
        do_free = refl;
        defs = tt;
        main = (
          λ v h. names v (in_right 0 (union (union term.of 0) term.given) v (in_left (union term.of 0) term.given v (in_left term.of 0 v h))),
          λ v h. names v (in_right 0 (union (union term.of 0) term.given) v (in_right (union term.of 0) term.given v h)),
        );
      })

  pub factors_evaluable : (f : PlainFactors) → AreRightFactors e.graph e.asked.sets f
      → ((v : ℕ) → has (read_by (by_factors f) sets) v ≡ true → is_used t v ≡ true) → AreEvaluable e.graph.vertices t f
  factors_evaluable f right read =
      let rest = union (union f.summed f.given) sets in
      record {
        few = small;
        below = used_below;
        summed = λ v h. read v (in_right (mentioned_in_factors f.factors) rest v (in_left (union f.summed f.given) sets v (in_left f.summed f.given v h)));
        factors = λ k d lt. factor_evaluable (get_or f.factors k d) (right.terms k d lt)
            (λ v h. read v (in_left (mentioned_in_factors f.factors) rest v (named_in f.factors k d lt v h)));
        given = λ v h. read v (in_right (mentioned_in_factors f.factors) rest v (in_left (union f.summed f.given) sets v (in_right f.summed f.given v h)));
      }

  -- so can the joint effect's formula
  pub joint_evaluable : (joint : PlainFormula) → IsRightJoint e.graph e.asked.sets joint
      → ((v : ℕ) → has (read_by (by_split joint) sets) v ≡ true → is_used t v ≡ true)
      → IsSplitEvaluable e.graph.vertices t e.asked.sets.x.bits e.asked.sets.y.bits e.asked.sets.given.bits joint
  joint_evaluable joint right read =
      let x = e.asked.sets.x.bits in let y = e.asked.sets.y.bits in let z = e.asked.sets.given.bits in
      let of_sets : (v : ℕ) → has sets v ≡ true → is_used t v ≡ true = λ v h. read v (in_right (mentioned joint) sets v h) in
      record {
        formula = record {
          few = small;
          below = used_below;
          accepted = right.formed;
          do_free = right.target.do_free;
          defs = used_defs (is_used t) joint.defs
              (λ v h. read v (in_left (mentioned joint) sets v (in_left (mentioned_in_defs joint.defs) (mentioned_in joint.main) v h)));
          main = used_tree (is_used t) joint.main
              (λ v h. read v (in_left (mentioned joint) sets v (in_right (mentioned_in_defs joint.defs) (mentioned_in joint.main) v h)));
        };
        x_used = λ v h. of_sets v (in_left x (union y z) v h);
        y_used = λ v h. of_sets v (in_right x (union y z) v (in_left y z v h));
        z_used = λ v h. of_sets v (in_right x (union y z) v (in_right y z v h));
      }

  readable : (r : PlainReading) → IsRightReading e.graph e.asked.sets r → ((v : ℕ) → has (read_by r sets) v ≡ true → is_used t v ≡ true)
      → IsReadable (paired_in e) t r
  readable (by_factors f) right read = factors_evaluable f right read
  readable (by_split joint) right read = joint_evaluable joint right read

  -- the effect can be read over the table
  pub over_paired : readings.IsOver (paired_in e) t
  over_paired = record {
    few = over.identified.few;
    sets = over.identified.sets;
    counts = over.counts;
    below = used_below;
    readable = readable e.reading over.identified.right used;
  }

-- the sets are read, whatever the reading is
sets_read : (r : PlainReading) (sets v : ℕ) → has sets v ≡ true → has (read_by r sets) v ≡ true
sets_read (by_factors f) sets v h = in_right (mentioned_in_factors f.factors) (union (union f.summed f.given) sets) v (in_right (union f.summed f.given) sets v h)
sets_read (by_split joint) sets v h = in_right (mentioned joint) sets v h

-- some vertex is read
pub read_some : (e : PlainAmong) → IsIdentified e → 0 < read_in (paired_in e)
read_some e id =
    let x = e.asked.sets.x.bits in let y = e.asked.sets.y.bits in let z = e.asked.sets.given.bits in
    let member = some_member e.graph.vertices y id.sets.y_within id.some in
    positive_from_has (read_in (paired_in e)) member.0
    (sets_read e.reading (union x (union y z)) member.0 (in_right x (union y z) member.0 (in_left y z member.0 member.1)))
