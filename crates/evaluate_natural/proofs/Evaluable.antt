-- The factors of an identified effect can be evaluated over a table of the vertices that are read for it.
use Rattle.std.proofs.Common.{◌≡◌, ◌<◌, ◌≤◌, ℕ, Bool, true, List, [], ◌∷◌, All, map, sym, subst, arith}
use Rattle.std.proofs.lemmas.List.Elements.{All-nil, All-cons}
use Rattle.mixed_graph.specs.Vocabulary.{has, union}
use Rattle.mixed_graph.proofs.Masks.{positive_from_has}
use Rattle.do_rules.specs.Vocabulary.{AreFourSets, AreThreeSets}
use Rattle.replies.proofs.OneTarget.{some_member}
use Rattle.prob_expr.specs.Mentioned.{mentioned}
use Rattle.prob_expr.specs.Vocabulary.{mentioned_in, mentioned_in_defs}
use Rattle.count_rows.specs.Vocabulary.{Table}
use Rattle.count_eval.specs.Vocabulary.{IsEvaluable, is_used}
use Rattle.table_cells.proofs.Tables.{member_used, used_member}
use Rattle.natural_id.specs.Vocabulary.{AreFoundParts, PlainPart}
use Rattle.factor_values.specs.Vocabulary.{AreEvaluable, PlainFactor, PlainFactors}
use Rattle.natural_values.specs.Factors.{factor_of_part}
use Rattle.natural_values.specs.Vocabulary.{mentioned_in_factors}
use Rattle.evaluate_command.proofs.Mentions.{in_left, in_right, used_tree, used_defs}
use Rattle.paired_values.specs.Vocabulary.{read_in, sets_of}
use Rattle.paired_values.specs.Readings as readings
use Rattle.evaluate_natural.specs.Effects.{PlainNested, IsIdentified, paired_in}
use Rattle.evaluate_natural.specs.Walking.{IsOver}

-- the sets but the mediators
three_sets : (n : ℕ) (x y m z : ℕ → Bool) → AreFourSets n x y m z → AreThreeSets n x y z
three_sets n x y m z s =
    record { x_within = s.x_within; y_within = s.y_within; w_within = s.w_within; x_y = s.x_y; x_w = s.x_w; y_w = s.y_w }

module _ (e : PlainNested) (t : Table) (over : IsOver e t) where
  pub low : e.graph.vertices ≤ 64
  low = let few = over.identified.few in omega (arith, few)

  pub used : (v : ℕ) → has (read_in (paired_in e)) v ≡ true → is_used t v ≡ true
  used v h = let b = over.identified.read v h in let l = low in member_used t (has (read_in (paired_in e))) over.vertices over.counts v (omega (arith, b, l)) h

  pub below : (v : ℕ) → is_used t v ≡ true → v < e.graph.vertices
  below v h = over.identified.read v (used_member t (has (read_in (paired_in e))) over.vertices v h)

  abbrev summed_read : ℕ
  summed_read = union e.factors.summed e.factors.given

  -- what is summed, what is given, and the sets of the effect
  abbrev others : ℕ
  others = union summed_read (sets_of (paired_in e))

  named : (v : ℕ) → has (mentioned_in_factors e.factors.factors) v ≡ true → is_used t v ≡ true
  named v h = used v (in_left (mentioned_in_factors e.factors.factors) others v h)

  pub used_set : (v : ℕ) → has (sets_of (paired_in e)) v ≡ true → is_used t v ≡ true
  used_set v h = used v (in_right (mentioned_in_factors e.factors.factors) others v (in_right summed_read (sets_of (paired_in e)) v h))

  part_evaluable : (x k : ℕ) (ps : List PlainPart) → AreFoundParts e.graph x k ps
      → ((v : ℕ) → has (mentioned_in_factors (map factor_of_part ps)) v ≡ true → is_used t v ≡ true)
      → All (λ (f : PlainFactor). IsEvaluable e.graph.vertices t f.formula) (map factor_of_part ps)
  part_evaluable x k [] h all = All-nil (λ (f : PlainFactor). IsEvaluable e.graph.vertices t f.formula)
  part_evaluable x k (p ∷ ps) h all =
      let defs = mentioned_in_defs p.formula.defs in let main = mentioned_in p.formula.main in let rest = mentioned_in_factors (map factor_of_part ps) in
      All-cons (λ (f : PlainFactor). IsEvaluable e.graph.vertices t f.formula) (factor_of_part p) (map factor_of_part ps) (record {
        few = low;
        below = below;
        accepted = h.0.formed;
        do_free = h.0.do_free;
        defs = used_defs (is_used t) p.formula.defs (λ v i. all v (in_left (mentioned p.formula) rest v (in_left defs main v i)));
        main = used_tree (is_used t) p.formula.main (λ v i. all v (in_left (mentioned p.formula) rest v (in_right defs main v i)));
      })
      (part_evaluable x k ps h.1 (λ v i. all v (in_right (mentioned p.formula) rest v i)))

  pub evaluable : AreEvaluable e.graph.vertices t e.factors
  evaluable = record {
    few = low;
    below = below;
    summed = λ v h. used v (in_right (mentioned_in_factors e.factors.factors) others v (in_left summed_read (sets_of (paired_in e)) v
        (in_left e.factors.summed e.factors.given v h)));
    factors = subst (λ (f : PlainFactors). All (λ (g : PlainFactor). IsEvaluable e.graph.vertices t g.formula) f.factors) (sym over.identified.factors.factors)
        (part_evaluable e.asked.question.x.bits over.identified.factors.found.through over.identified.factors.parts over.identified.factors.found.parts
        (subst (λ (f : PlainFactors). (v : ℕ) → has (mentioned_in_factors f.factors) v ≡ true → is_used t v ≡ true) over.identified.factors.factors named));
    given = λ v h. used v (in_right (mentioned_in_factors e.factors.factors) others v (in_left summed_read (sets_of (paired_in e)) v
        (in_right e.factors.summed e.factors.given v h)));
  }

  -- the effect can be read over the table
  pub over_paired : readings.IsOver (paired_in e) t
  over_paired = record {
    few = over.identified.few;
    sets = three_sets e.graph.vertices (has e.asked.question.x.bits) (has e.asked.question.y.bits) (has e.asked.question.through.bits)
        (has e.asked.question.given.bits) over.identified.sets;
    counts = over.counts;
    below = below;
    readable = evaluable;
  }

-- some vertex is read
pub read_some : (e : PlainNested) → IsIdentified e → 0 < read_in (paired_in e)
read_some e id =
    let q = e.asked.question in let x = q.x.bits in let y = q.y.bits in let z = q.given.bits in
    let member = some_member e.graph.vertices y id.sets.y_within id.some in
    positive_from_has (read_in (paired_in e)) member.0
    (in_right (mentioned_in_factors e.factors.factors) (union (union e.factors.summed e.factors.given) (union x (union y z))) member.0
    (in_right (union e.factors.summed e.factors.given) (union x (union y z)) member.0 (in_right x (union y z) member.0 (in_left y z member.0 member.1))))
