-- What is known of an effect for which `treated` has a formula.
use Rattle.std.proofs.Common.{ℕ, ◌≡◌, ◌==◌, ◌<◌, ◌≤◌, true, false, sym, ap, ◌∙◌, subst, List, [], ◌∷◌, All, Ok, inl, inr, length, get_or, arith}
use Rattle.std.specs.Prelude.{None}
use Rattle.std.proofs.lemmas.Bool.{cases_Bool, eqb-true, eq-eqb, ne_eqb, false≢true}
use Rattle.std.proofs.lemmas.List.Elements.{All-head, All-tail, All-get_or}
use Rattle.mixed_graph.specs.Vocabulary.{has, MixedGraph, IsAncestor, graph_of, members_below, union}
use Rattle.mixed_graph.proofs.MaskLaws.{below_has}
use Rattle.finite_models.proofs.Bools.{and_first, and_second}
use Rattle.do_rules.specs.Vocabulary.{AreThreeSets}
use Rattle.prob_expr.specs.Tree.{Tree}
use Rattle.prob_expr.specs.Mentioned.{mentioned}
use Rattle.prob_expr.specs.Vocabulary.{EqualsEffect, PlainFormula, effect_on, fault_in, formula_view, is_do_free}
use Rattle.identification_theory.specs.Names.{FormulaNamesOnly}
use Rattle.table_cells.proofs.Tables.{all_members, member_stands}
use Rattle.prob_expr.specs.View.{view}
use Rattle.prob_expr.specs.declared.expr.Formula.{Formula}
use Rattle.targets.specs.declared.query.Sets.{Sets}
use Rattle.targets.proofs.Effects.{listed_outcome}
use Rattle.diagram.specs.declared.diagram.Diagram.{Diagram}
use Rattle.replies.proofs.OneTarget.{some_member}
use Rattle.treated_models.specs.Vocabulary.{EqualsAmong, name_count}
use Rattle.treated_id.specs.declared.answers.Confounding.{Confounding}
use Rattle.treated_id.specs.Vocabulary.{AreBefore}
use Rattle.treated_id.proofs.NoFault.{formula_formed}
use Rattle.treated_command.specs.Requests.{Request}
use Rattle.treated_command.specs.Right.{IsFormulaFor, IsUnfixed}
use Rattle.treated_command.specs.Sentences.{is_single}
use Rattle.treated_command.specs.declared.answer.Answer.{Answer}
use Rattle.treated_command.specs.Vocabulary.{IsTreatedAnswer}
use Rattle.treated_command.specs.declared.answer.Asked.{Asked}
use Rattle.treated_command.specs.declared.answer.Answer.TheVariants as treated
use Rattle.treated_command.proofs.Sets.{three_sets, target_of}
use Rattle.factor_values.specs.Vocabulary.{PlainFactor, PlainFactors}
use Rattle.named_factors.specs.Vocabulary.{AreFactorsAmong, AreNamedFactors}
use Rattle.named_factors.proofs.Shaping.{treated_is_sum_of_terms}
use Rattle.evaluate_command.proofs.Mentions.{in_either, in_none, mentioned_only}
use Rattle.natural_values.specs.Vocabulary.{mentioned_in_factors}
use Rattle.paired_values.specs.Readings.{read_by}
use Rattle.paired_values.specs.Vocabulary.{PlainReading, by_factors, by_split}
use Rattle.evaluate_treated.specs.Effects.{AreRightFactors, PlainAmong, IsIdentified, IsRightReading, IsTermOf}
use Rattle.evaluate_treated.proofs.Terms.{factors_are_terms}

-- what `treated` says of its sets
pub record IsKnown (g : MixedGraph) (s : Sets) : Type 0 where
  pub sets : AreThreeSets g.vertices (has s.x.bits) (has s.y.bits) (has s.given.bits)
  pub some : 0 < s.y.bits
  pub before : AreBefore g s.x.bits s.given.bits
  pub few : name_count g.vertices s.x.bits ≤ 64

-- it is known of those that lists name
known : (d : Diagram) (q : Request) (a : Answer) (h : IsTreatedAnswer false d q.x q.y q.given (Ok a)) → IsKnown (graph_of d.observed.graph) h.sets
known d q a h =
    let s = h.sets in
    record {
      sets = three_sets _ d.observed.graph.n s.x.bits s.y.bits s.given.bits d.observed.sized h.named;
      some = listed_outcome _ s.x.bits s.y.bits s.given.bits h.named;
      before = h.is.before;
      few = h.is.few;
    }

-- of those for which there is a formula
pub known_formula : (d : Diagram) (q : Request) (a : Asked) (f : Formula) → IsTreatedAnswer false d q.x q.y q.given (Ok (treated.Formula a f))
    → IsKnown (graph_of d.observed.graph) a.sets × IsFormulaFor (graph_of d.observed.graph) a.sets (formula_view f)
known_formula d q a f h = (
  subst (IsKnown (graph_of d.observed.graph)) (sym h.is.decided.0.sets) (known d q (treated.Formula a f) h),
  subst (λ s. IsFormulaFor (graph_of d.observed.graph) s (formula_view f)) (sym h.is.decided.0.sets) h.is.decided.1,
)

-- and of those for which there is none, by a path
pub known_path : (d : Diagram) (q : Request) (a : Asked) (c : Confounding) → IsTreatedAnswer false d q.x q.y q.given (Ok (treated.Unfixed a c))
    → IsKnown (graph_of d.observed.graph) a.sets × IsUnfixed (graph_of d.observed.graph) a.sets c
known_path d q a c h = (
  subst (IsKnown (graph_of d.observed.graph)) (sym h.is.decided.0.sets) (known d q (treated.Unfixed a c) h),
  subst (λ s. IsUnfixed (graph_of d.observed.graph) s c) (sym h.is.decided.0.sets) h.is.decided.1,
)

-- ---- which vertices are read

-- a term names vertices of the graph
term_low : (n : ℕ) (f : PlainFactor) → IsTermOf n f → (v : ℕ) → has (mentioned f.formula) v ≡ true → v < n
term_low n f t v h =
    let sets = and_first _ _ t.is in
    let lows = and_first _ _ sets in
    in_either (v < n) 0 (union (union t.of 0) t.given) v (in_none (v < n) v)
    (in_either (v < n) (union t.of 0) t.given v
    (in_either (v < n) t.of 0 v (below_has n t.of v (and_first _ _ lows)) (in_none (v < n) v))
    (below_has n t.given v (and_second _ _ (and_second _ _ lows))))
    (subst (λ (k : PlainFormula). has (mentioned k) v ≡ true) t.formula h)

named_low : (n : ℕ) (fs : List PlainFactor) → All (IsTermOf n) fs → (v : ℕ) → has (mentioned_in_factors fs) v ≡ true → v < n
named_low n [] all v h = in_none (v < n) v h
named_low n (f ∷ fs) all v h = in_either (v < n) (mentioned f.formula) (mentioned_in_factors fs) v (term_low n f (All-head (IsTermOf n) f fs all) v)
    (named_low n fs (All-tail (IsTermOf n) f fs all) v) h

module _ (g : MixedGraph) (s : Sets) (sets : AreThreeSets g.vertices (has s.x.bits) (has s.y.bits) (has s.given.bits)) where
  abbrev all_sets : ℕ
  all_sets = union s.x.bits (union s.y.bits s.given.bits)

  sets_low : (v : ℕ) → has all_sets v ≡ true → v < g.vertices
  sets_low v h = in_either (v < g.vertices) s.x.bits (union s.y.bits s.given.bits) v (sets.x_within v)
      (in_either (v < g.vertices) s.y.bits s.given.bits v (sets.y_within v) (sets.w_within v)) h

  factors_low : (e : PlainFactors) → AreRightFactors g s e → (v : ℕ) → has (read_by (by_factors e) all_sets) v ≡ true → v < g.vertices
  factors_low e right v h =
      let P = v < g.vertices in
      in_either P (mentioned_in_factors e.factors) (union (union e.summed e.given) all_sets) v (named_low g.vertices e.factors right.terms v)
      (in_either P (union e.summed e.given) all_sets v
      (in_either P e.summed e.given v (λ i. (right.factors.over.others v (subst (λ u. has u v ≡ true) right.factors.factors.summed i)).low)
      (λ i. in_none P v (subst (λ u. has u v ≡ true) right.factors.factors.given i)))
      (sets_low v)) h

  joint_low : (joint : PlainFormula) → ((v : ℕ) → has (mentioned joint) v ≡ true → v < g.vertices) → (v : ℕ)
      → has (read_by (by_split joint) all_sets) v ≡ true → v < g.vertices
  joint_low joint names v h = in_either (v < g.vertices) (mentioned joint) all_sets v (names v) (sets_low v) h

-- ---- x is one vertex
single_vertex : (n x : ℕ) → n ≤ 64 → ((v : ℕ) → has x v ≡ true → v < n) → (length (members_below (has x) 64) == 1) ≡ true
    → (vertex : ℕ) × ((u : ℕ) → has x u ≡ (u == vertex))
single_vertex n x few within one = (first, same)
  where
    list : List ℕ
    list = members_below (has x) 64

    first : ℕ
    first = get_or (members_below (has x) 64) 0 0

    alone : length (members_below (has x) 64) ≡ 1
    alone = eqb-true (length (members_below (has x) 64)) 1 one

    member : has x (get_or (members_below (has x) 64) 0 0) ≡ true
    member = All-get_or (λ u. has x u ≡ true) (members_below (has x) 64) 0 0 (omega (arith, alone)) (all_members (λ u. has x u ≡ true) (has x) 64 (λ u low h. h))

    only : (u : ℕ) → has x u ≡ true → get_or (members_below (has x) 64) 0 0 ≡ u
    only u is =
        let lt = within u is in let m = member_stands (has x) 64 u (omega (arith, lt, few)) is in
        subst (λ k. get_or (members_below (has x) 64) k 0 ≡ u) (let w = m.within in let z : m.place ≡ 0 = omega (arith, w, alone) in z) m.there

    same : (u : ℕ) → has x u ≡ (u == get_or (members_below (has x) 64) 0 0)
    same u = elim (cases_Bool (has x u)) [
      | inl h ↦ h ∙ sym (eq-eqb u (get_or (members_below (has x) 64) 0 0) (sym (only u h)))
      | inr h ↦ h ∙ sym (ne_eqb u (get_or (members_below (has x) 64) 0 0)
          (λ e. false≢true (sym h ∙ ap (has x) e ∙ member)))
    ]

-- ---- the effect is identified
abbrev effect_of : Diagram → Asked → PlainReading → PlainAmong
effect_of d a r = record { names = d.observed.names; graph = graph_of d.observed.graph; asked = a; reading = r }

module _ (d : Diagram) (q : Request) (a : Asked) where
  abbrev g : MixedGraph
  g = graph_of d.observed.graph

  identified_with : IsKnown g a.sets → (r : PlainReading) → IsRightReading g a.sets r
      → ((v : ℕ) → has (read_by r (union a.sets.x.bits (union a.sets.y.bits a.sets.given.bits))) v ≡ true → v < g.vertices) → IsIdentified (effect_of d a r)
  identified_with k r right low = record {
    named = d.observed.sized;
    few = k.few;
    graph = d.observed.graph.valid;
    sets = k.sets;
    some = k.some;
    right = right;
    read = low;
  }

  -- by factors
  pub by_formula : (f : Formula) → IsTreatedAnswer false d q.x q.y q.given (Ok (treated.Formula a f)) → (e : PlainFactors)
      → AreNamedFactors d.observed.graph.n a.sets.x.bits (view f.main) e → IsIdentified (effect_of d a (by_factors e))
  by_formula f h e named = identified_with k.0 (by_factors e) right (factors_low g a.sets k.0.sets e right)
    where
      k : IsKnown g a.sets × IsFormulaFor g a.sets (formula_view f)
      k = known_formula d q a f h

      among : AreFactorsAmong g a.sets.x.bits a.sets.y.bits a.sets.given.bits e
      among = record {
        main = view f.main;
        over = treated_is_sum_of_terms g a.sets.x.bits a.sets.y.bits a.sets.given.bits (formula_view f) k.1.formula;
        once = k.1.observed.1;
        equals = subst (λ (ds : List Tree). EqualsAmong g a.sets.x.bits a.sets.y.bits a.sets.given.bits (record { defs = ds; main = view f.main }))
            k.1.formula.by.defs k.1.equals;
        factors = named;
      }

      terms : All (IsTermOf g.vertices) e.factors
      terms =
          let member = some_member g.vertices a.sets.y.bits k.0.sets.y_within k.0.some in
          factors_are_terms g.vertices a.sets.x.bits k.0.sets.x_within (formula_view f)
          (formula_formed g d.observed.graph.valid a.sets.x.bits a.sets.y.bits a.sets.given.bits
          (target_of g a.sets.x.bits a.sets.y.bits a.sets.given.bits k.0.sets k.0.before) member.0 member.1 (formula_view f) k.1.formula)
          among.over.terms k.1.observed.1 e named

      right : AreRightFactors g a.sets e
      right = record { factors = among; terms = terms }

  -- by two levels
  pub by_joint : (c : Confounding) → IsTreatedAnswer false d q.x q.y q.given (Ok (treated.Unfixed a c)) → is_single a ≡ true → (joint : PlainFormula)
      → fault_in g.vertices joint ≡ None → is_do_free joint ≡ true
      → FormulaNamesOnly (IsAncestor g (has (union a.sets.y.bits a.sets.given.bits))) joint
      → EqualsEffect g (effect_on a.sets.x.bits (union a.sets.y.bits a.sets.given.bits)) joint → IsIdentified (effect_of d a (by_split joint))
  by_joint c h single joint formed free names equals =
      let k = (known_path d q a c h).0 in let s = a.sets in
      let v = single_vertex g.vertices s.x.bits d.observed.graph.small k.sets.x_within single in
      identified_with k (by_split joint) (record {
        target = record {
          target = target_of g s.x.bits s.y.bits s.given.bits k.sets k.before;
          vertex = v.0;
          single = v.1;
          do_free = free;
          equals = equals;
        };
        formed = formed;
      })
      (joint_low g s k.sets joint (λ u i. (mentioned_only (IsAncestor g (has (union s.y.bits s.given.bits))) joint names u i).vertex))
