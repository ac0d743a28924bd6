-- Where the procedure stops, one thing is told of its hedge: its text, its certificate, and the members of its object.
use Rattle.std.proofs.Common.{◌≡◌, ◌≤◌, ℕ, Bool, List, ◌∷◌, ◌++◌, Some, sym, ap, ap₂, ◌∙◌, subst}
use Rattle.std.specs.Prelude.{codes, if◌then◌else◌}
use Rattle.json.specs.Json.{Json, boolean}
use Rattle.mixed_graph.specs.Vocabulary.{MixedGraph, IsMixedGraph}
use Rattle.hedge.specs.declared.hedge.Hedge.{Hedge}
use Rattle.counter_models.specs.declared.counter_pair.CounterPair.{CounterPair}
use Rattle.prob_expr.specs.Vocabulary.{PlainTarget, effect_on, term_of}
use Rattle.expr_text.specs.Vocabulary.{text_of}
use Rattle.identification_theory.proofs.Answered.{one_stop}
use Rattle.identify_text.specs.Vocabulary.{hedge_answer, joint_answer}
use Rattle.certificate.specs.Vocabulary.{hedge_view}
use Rattle.certificate.specs.Plain as plain
use Rattle.certificate_json.specs.Vocabulary.{certificate_line}
use Rattle.targets.specs.declared.query.EffectSets.{EffectSets}
use Rattle.told.specs.declared.form.Writing.{Writing}
use Rattle.told.specs.Vocabulary.{is_certified}
use Rattle.effect_answers.specs.declared.hedges.EffectHedge.{EffectHedge}
use Rattle.effect_answers.specs.Certificates.{member_in}
use Rattle.effect_answers.specs.HedgeTelling.{hedge_certificate, hedge_text, joint_text, pair_object, hedge_object, joint_object}
use Rattle.effect_answers.specs.Hedges.{IsFoundHedge}
use Rattle.effect_answers.specs.Objects.{joint_members}
use Rattle.effect_answers.specs.Right.{IsEffectHedge}
use Rattle.effect_answers.proofs.OneHedge.{AreAlike, hedges_alike}
use Rattle.effect_answers.proofs.AlikePairs.{ArePairsAlike, pairs_alike}
use Rattle.effect_answers.proofs.HedgeTexts.{hedge_alike}
use Rattle.effect_answers.proofs.HedgeObjects.{objects_alike}
use Rattle.effect_answers.proofs.HedgeViews.{views_alike}

module _ (q : MixedGraph) (valid : IsMixedGraph q) (few : q.vertices ≤ 64) (names : List (List ℕ)) (h k : EffectHedge) (same : k.sets ≡ h.sets)
    (a : IsEffectHedge q h) (b : IsEffectHedge q k) where
  abbrev x : ℕ
  x = h.sets.x.bits

  abbrev y : ℕ
  y = h.sets.y.bits

  found : IsFoundHedge q x y k.hedge k.pair
  found = subst (λ (s : EffectSets). IsFoundHedge q s.x.bits s.y.bits k.hedge k.pair) same b.found

  -- two hedges at which the procedure stops are alike
  alike : AreAlike h.hedge k.hedge
  alike =
      let stop = one_stop q x y h.hedge.small.bits h.hedge.big.bits k.hedge.small.bits k.hedge.big.bits a.found.stop found.stop in
      hedges_alike q h.hedge k.hedge (sym stop.1) (sym stop.0) a.found.evidence.sets.small_inside a.found.built found.built

  -- and so are their models
  pairs : ArePairsAlike h.pair k.pair
  pairs =
      let sets = a.found.evidence.sets in
      pairs_alike q valid few x y h.hedge k.hedge alike sets.low sets.small_inside sets.roots_inside h.pair k.pair a.found.models found.models

  shown : hedge_answer names k.sets.x.bits k.sets.y.bits k.hedge k.pair ≡ hedge_answer names x y h.hedge h.pair
  shown = ap (λ (s : EffectSets). hedge_answer names s.x.bits s.y.bits k.hedge k.pair) same
      ∙ hedge_alike names x y h.hedge k.hedge h.pair k.pair alike pairs

  -- they have one certificate
  certificates : hedge_certificate k ≡ hedge_certificate h
  certificates = let views = views_alike h.hedge k.hedge alike a.arrays b.arrays in
      λ i. plain.hedge (effect_on (same i).x.bits (same i).y.bits) (views i)

  -- one text
  pub one_hedge_text : (w : Writing) → hedge_text w names k ≡ hedge_text w names h
  one_hedge_text w = ap₂ (λ (c l : List ℕ). if is_certified w then c else l) (ap (certificate_line names) certificates) shown

  joined : (t : PlainTarget) → joint_answer names t k.sets.x.bits k.sets.y.bits k.hedge k.pair ≡ joint_answer names t x y h.hedge h.pair
  joined t = ap (λ (l : List ℕ). text_of names (term_of t) ++ (codes " not identified; " ++ l)) shown

  -- also where a target turns into the effect
  pub one_joint_text : (w : Writing) (t : PlainTarget) → joint_text w names t k ≡ joint_text w names t h
  one_joint_text w t = ap₂ (λ (c l : List ℕ). if is_certified w then c else l) (ap (certificate_line names) certificates) (joined t)

  models : (w : Writing) → pair_object w names k ≡ pair_object w names h
  models w = ap₂ (λ (l m : List (List ℕ × Json)). l ++ m) (objects_alike names h.hedge k.hedge h.pair k.pair alike pairs)
      (ap (λ (c : plain.PlainCertificate). member_in w names (Some c)) certificates)

  -- and one object
  pub one_hedge_object : (w : Writing) → hedge_object w names k ≡ hedge_object w names h
  one_hedge_object w = ap₂ (λ (s : EffectSets) (l : List (List ℕ × Json)).
      joint_members names (effect_on s.x.bits s.y.bits) s.x.bits s.y.bits ++ l) same (models w)

  pub one_joint_object : (w : Writing) (t : PlainTarget) (settled : Bool) → joint_object w names t settled k ≡ joint_object w names t settled h
  one_joint_object w t settled = ap₂ (λ (s : EffectSets) (l : List (List ℕ × Json)).
      joint_members names t s.x.bits s.y.bits ++ (codes "settled", boolean settled) ∷ l) same (models w)
