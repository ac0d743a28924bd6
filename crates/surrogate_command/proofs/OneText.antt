-- Of two answers over experiments that are right and end alike one thing is told.
use Rattle.std.proofs.Common.{◌≡◌, ◌≤◌, ℕ, true, List, [], ◌∷◌, ◌++◌, Option, Some, None, Ok, refl, sym, ap, ap₂, ◌∙◌, subst, arith}
use Rattle.std.specs.Prelude.{◌↔◌, IsSome, IfSome, codes, if◌then◌else◌}
use Rattle.std.proofs.lemmas.Bool.{false≢true}
use Rattle.json.specs.Json.{Json, string}
use Rattle.mixed_graph.specs.declared.sets.VSet.{VSet}
use Rattle.mixed_graph.specs.Vocabulary.{MixedGraph, IsMixedGraph}
use Rattle.hedge.specs.declared.hedge.Hedge.{Hedge}
use Rattle.counter_models.specs.declared.counter_pair.CounterPair.{CounterPair}
use Rattle.prob_expr.specs.Vocabulary.{masks_of, PlainTarget, effect_on, target_view, formula_view}
use Rattle.identification_theory.specs.Vocabulary.{IsStopped}
use Rattle.identification_theory.proofs.Unique.{one_set, stopped_one}
use Rattle.surrogates.specs.declared.answer.CommonHedge.{CommonHedge}
use Rattle.surrogates.specs.Vocabulary.{around, without, IsStoppedUnder, IsStopShown, IsBlockShown, IsBlockedTogether}
use Rattle.surrogates.proofs.Answered.{one_surrogate, one_stop_with}
use Rattle.experiment_lists.specs.Vocabulary.{unidentifiable_with_line}
use Rattle.experiment_lists.proofs.OneSet.{one_by_one}
use Rattle.certificate_json.specs.Vocabulary.{certificate_line}
use Rattle.certificate.specs.Vocabulary.{hedge_view}
use Rattle.certificate.specs.Plain as plain
use Rattle.answer_json.specs.Vocabulary.{object_of, json_line, set_json}
use Rattle.effect_answers.specs.declared.formulas.EffectFormula.{EffectFormula}
use Rattle.effect_answers.specs.Vocabulary.{effect_json, member_in, formula_certificate, HasArrays}
use Rattle.replies.proofs.OneTarget as targets
use Rattle.replies.specs.Vocabulary.{code_of, answer_of, text_in}
use Rattle.told.specs.declared.form.Writing.{Writing as ToldWriting}
use Rattle.told.specs.Vocabulary.{is_certified, target_refusal, told_in}
use Rattle.told.specs.declared.form.Writing.TheVariants as told
use Rattle.effect_answers.proofs.OneHedge.{AreAlike, hedges_alike}
use Rattle.effect_answers.proofs.AlikePairs.{ArePairsAlike, pairs_alike}
use Rattle.effect_answers.proofs.HedgeTexts.{sets_alike, models_alike}
use Rattle.effect_answers.proofs.HedgeObjects as objects
use Rattle.effect_answers.proofs.HedgeViews.{views_alike}
use Rattle.effect_answers.proofs.Telling.{one_certificate, one_formula_text}
use Rattle.surrogate_command.specs.declared.form.Form.{Form}
use Rattle.surrogate_command.specs.declared.form.Writing.{Writing}
use Rattle.surrogate_command.specs.declared.form.Writing.TheVariants.{Plain, Models, Certificate}
use Rattle.surrogate_command.specs.declared.sets.SurrogateSets.{SurrogateSets}
use Rattle.surrogate_command.specs.declared.answer.Answer.{Answer}
use Rattle.surrogate_command.specs.declared.answer.Answer.TheVariants.{Formula, Unfound, Blocked}
use Rattle.surrogate_command.specs.Forms.{wants_common, told_writing, told_form}
use Rattle.surrogate_command.specs.Objects.{formula_answer, asked_members}
use Rattle.surrogate_command.specs.Lines.{unfound_line, district_line, common_answer}
use Rattle.surrogate_command.specs.Right.{stop_shown, IsFormula, IsStop, IsForLists}
use Rattle.surrogate_command.specs.Sets.{SurrogateLists, AreSurrogateSets}
use Rattle.surrogate_command.specs.Telling.{surrogate_text, surrogate_object, surrogate_telling}
use Rattle.surrogate_command.proofs.OneDerivation.{one_derivation_over}

-- answers of which one thing is told
record AreOne (w : ToldWriting) (names : List (List ℕ)) (a b : Answer) : Type 0 where
  text : surrogate_text w names b ≡ surrogate_text w names a
  object : surrogate_object w names b ≡ surrogate_object w names a

-- sets that are the same, as far as they are told
record AreSameSets (s t : SurrogateSets) : Type 0 where
  x : t.x.bits ≡ s.x.bits
  y : t.y.bits ≡ s.y.bits
  experiments : masks_of t.experiments.items ≡ masks_of s.experiments.items

-- what holds of sets holds of those that are the same
moved : (P : List ℕ → ℕ → ℕ → Type 0) (s t : SurrogateSets) → AreSameSets s t → P (masks_of t.experiments.items) t.x.bits t.y.bits
    → P (masks_of s.experiments.items) s.x.bits s.y.bits
moved P s t same h =
    subst (λ (zs : List ℕ). P zs s.x.bits s.y.bits) same.experiments
    (subst (λ (x : ℕ). P (masks_of t.experiments.items) x s.y.bits) same.x (subst (λ (y : ℕ). P (masks_of t.experiments.items) t.x.bits y) same.y h))

-- ---- yes

-- a formula over experiments with its derivation
formulas_one : (w : ToldWriting) (names : List (List ℕ)) (q : MixedGraph) (s t : SurrogateSets) (f g : EffectFormula) → AreSameSets s t
    → IsFormula q (masks_of s.experiments.items) s.x.bits s.y.bits f → IsFormula q (masks_of t.experiments.items) t.x.bits t.y.bits g
    → AreOne w names (Formula s f) (Formula t g)
formulas_one w names q s t f g same a other =
    let zs = masks_of s.experiments.items in
    let b = moved (λ ks x y. IsFormula q ks x y g) s t same other in
    let ts : target_view g.target ≡ target_view f.target = b.target ∙ sym a.target in
    let fs : formula_view g.formula ≡ formula_view f.formula =
    one_surrogate q zs s.x.bits s.y.bits (formula_view g.formula) (formula_view f.formula) b.stated a.stated in
    let ds = one_derivation_over q zs s.x.bits s.y.bits (formula_view g.formula) (formula_view f.formula) b.derivation a.derivation b.derived a.derived in
    let certificates : formula_certificate g ≡ formula_certificate f = one_certificate f g a.derivation b.derivation ts fs ds a.kept b.kept in
    record {
      text = one_formula_text names f g ts fs w (λ c. certificates);
      object = λ i. formula_answer names (same.experiments i) (ts i) (fs i) ++ member_in w names (certificates i);
    }

-- ---- no

-- under an intervention a factor stops inside one set
one_stopped_under : (g : MixedGraph) (z c big more : ℕ) → IsStoppedUnder g z c big → IsStoppedUnder g z c more → big ≡ more
one_stopped_under g z c big more s t = stopped_one (without g z) [] c s.a big more s.stop
    (subst (λ (b : ℕ). IsStopped (without g z) c b more) (one_set t.a s.a _ t.ancestors s.ancestors) t.stop)

-- the members of a stop, whatever stands for its hedge
abbrev stop_with : (answer : List ℕ) → List (List ℕ) → List ℕ → PlainTarget → (district : ℕ) → Json → List (List ℕ × Json)
stop_with answer names zs t district hedge =
    (codes "answer", string answer) ∷ (asked_members names zs t
    ++ (codes "effect", effect_json names t) ∷ (codes "district", set_json names district) ∷ (codes "hedge", hedge) ∷ [])

module _ (q : MixedGraph) (valid : IsMixedGraph q) (few : q.vertices ≤ 64) (zs : List ℕ) (x y : ℕ) where
  -- the districts at which the procedure stops are one
  district_same : (d e : VSet) (h k : Hedge) (pair other : CounterPair) → IsStopShown q zs x y d h pair → IsStopShown q zs x y e k other → e.bits ≡ d.bits
  district_same d e h k pair other a b = sym (one_stop_with q zs x y d.bits h.big.bits e.bits k.big.bits a.stop b.stop).0

  -- and so are their hedges
  stops_alike : (d e : VSet) (h k : Hedge) (pair other : CounterPair) → IsStopShown q zs x y d h pair → IsStopShown q zs x y e k other → AreAlike h k
  stops_alike d e h k pair other a b =
      let stop = one_stop_with q zs x y d.bits h.big.bits e.bits k.big.bits a.stop b.stop in
      hedges_alike q h k (sym stop.1) (ap (λ (s : VSet). s.bits) b.small ∙ sym stop.0 ∙ ap (λ (s : VSet). s.bits) (sym a.small)) a.hedge.sets.small_inside
      a.built b.built

  -- the common hedges of a district are one
  blocks_alike : (d e : VSet) (h k : Hedge) (pair other : CounterPair) → e.bits ≡ d.bits → IsBlockShown q zs x y d h pair → IsBlockShown q zs x y e k other
      → AreAlike h k
  blocks_alike d e h k pair other same a b =
      let stop : IsStoppedUnder q (around d.bits zs) d.bits k.big.bits = subst (λ (c : ℕ). IsStoppedUnder q (around c zs) c k.big.bits) same b.stop in
      hedges_alike q h k (sym (one_stopped_under q (around d.bits zs) d.bits h.big.bits k.big.bits a.stop stop))
      (ap (λ (s : VSet). s.bits) b.small ∙ same ∙ ap (λ (s : VSet). s.bits) (sym a.small)) a.hedge.sets.small_inside a.built b.built

  -- and so are their models
  pairs_same : (d e : VSet) (h k : Hedge) (pair other : CounterPair) → e.bits ≡ d.bits → IsBlockShown q zs x y d h pair → IsBlockShown q zs x y e k other
      → ArePairsAlike pair other
  pairs_same d e h k pair other same a b =
      let sets = a.hedge.sets in
      pairs_alike q valid few x y h k (blocks_alike d e h k pair other same a b) sets.low sets.small_inside sets.roots_inside pair other a.models b.models

  -- a common hedge of the district, which arrays hold
  abbrev IsHeldBlock : VSet → CommonHedge → Type 0
  IsHeldBlock d k = IsBlockShown q zs x y d k.hedge k.pair × HasArrays k.hedge

  held : (d : VSet) (c : Option CommonHedge) → IfSome c (λ i. IsBlockShown q zs x y d i.hedge i.pair) → IfSome c (λ i. HasArrays i.hedge)
      → IfSome c (IsHeldBlock d)
  held d None i j = tt
  held d (Some c) i j = (i, j)

-- stops of sets that are the same, at one district
module _ (q : MixedGraph) (valid : IsMixedGraph q) (few : q.vertices ≤ 64) (names : List (List ℕ)) (s t : SurrogateSets) (same : AreSameSets s t) (d e : VSet)
    (districts : e.bits ≡ d.bits) where
  -- without a common hedge
  unfound_one : (w : ToldWriting) (h k : Hedge) → AreAlike h k → AreOne w names (Unfound s d h) (Unfound t e k)
  unfound_one w h k alike =
      let sets = sets_alike names h k alike.big alike.small alike.roots in
      let hedge = objects.hedges_alike names h k alike in
      record {
        text = λ i. unfound_line names (same.x i) (same.y i) ++ (district_line names (districts i) ++ sets i);
        object = λ i. stop_with (codes "not found") names (same.experiments i) (effect_on (same.x i) (same.y i)) (districts i) (hedge i);
      }

  -- and with one
  module _ (b c : CommonHedge) (here : IsHeldBlock q valid few (masks_of s.experiments.items) s.x.bits s.y.bits d b)
      (there : IsHeldBlock q valid few (masks_of s.experiments.items) s.x.bits s.y.bits e c) where
    alike : AreAlike b.hedge c.hedge
    alike = blocks_alike q valid few (masks_of s.experiments.items) s.x.bits s.y.bits d e b.hedge c.hedge b.pair c.pair districts here.0 there.0

    pairs : ArePairsAlike b.pair c.pair
    pairs = pairs_same q valid few (masks_of s.experiments.items) s.x.bits s.y.bits d e b.hedge c.hedge b.pair c.pair districts here.0 there.0

    certificate : plain.hedge (effect_on t.x.bits t.y.bits) (hedge_view c.hedge) ≡ plain.hedge (effect_on s.x.bits s.y.bits) (hedge_view b.hedge)
    certificate = let views = views_alike b.hedge c.hedge alike here.1 there.1 in λ i. plain.hedge (effect_on (same.x i) (same.y i)) (views i)

    lines : common_answer names t.x.bits t.y.bits e.bits c.hedge c.pair ≡ common_answer names s.x.bits s.y.bits d.bits b.hedge b.pair
    lines =
        let sets = sets_alike names b.hedge c.hedge alike.big alike.small alike.roots in
        let models = models_alike names b.hedge c.hedge b.pair c.pair alike pairs in
        λ i. unidentifiable_with_line names (same.x i) (same.y i) ++ (district_line names (districts i) ++ (sets i ++ models i))

    block_text : (w : ToldWriting) → surrogate_text w names (stop_shown true t e c.hedge (Some c)) ≡ surrogate_text w names (stop_shown true s d b.hedge (Some b))
    block_text w = ap₂ (λ (c l : List ℕ). if is_certified w then c else l) (ap (certificate_line names) certificate) lines

    blocked_one : (w : ToldWriting) (h k : Hedge) → AreOne w names (stop_shown true s d h (Some b)) (stop_shown true t e k (Some c))
    blocked_one w h k =
        let hedge = objects.hedges_alike names b.hedge c.hedge alike in
        let models = objects.models_alike names b.pair c.pair pairs in
        record {
          text = block_text w;
          object = λ i. (stop_with (codes "hedge") names (same.experiments i) (effect_on (same.x i) (same.y i)) (districts i) (hedge i)
              ++ (codes "models", models i) ∷ []) ++ member_in w names (Some (certificate i));
        }

-- ---- all

-- the lists name sets that are the same
same_sets : (l : SurrogateLists) (s t : SurrogateSets) → AreSurrogateSets l s.x.bits s.y.bits (masks_of s.experiments.items)
    → AreSurrogateSets l t.x.bits t.y.bits (masks_of t.experiments.items) → AreSameSets s t
same_sets l s t a b = record {
  x = targets.one_set l.effect.observed l.effect.x s.x.bits t.x.bits a.effect.set_x b.effect.set_x;
  y = targets.one_set l.effect.observed l.effect.y s.y.bits t.y.bits a.effect.set_y b.effect.set_y;
  experiments = one_by_one l.effect.observed l.experiments (masks_of s.experiments.items) (masks_of t.experiments.items) a.experiments b.experiments;
}

module _ (w : Writing) (names : List (List ℕ)) (q : MixedGraph) (valid : IsMixedGraph q) (few : q.vertices ≤ 64) where
  module _ (s t : SurrogateSets) (same : AreSameSets s t) (d e : VSet) (districts : e.bits ≡ d.bits) (h k : Hedge) (hedges : AreAlike h k) (P : Type 0) where
    -- where there is a common hedge, and where there is none
    shown_one : (c m : Option CommonHedge) → (IsSome c ↔ P) → (IsSome m ↔ P)
        → IfSome c (IsHeldBlock q valid few (masks_of s.experiments.items) s.x.bits s.y.bits d)
        → IfSome m (IsHeldBlock q valid few (masks_of s.experiments.items) s.x.bits s.y.bits e)
        → AreOne (told_writing w) names (stop_shown (wants_common w) s d h c) (stop_shown (wants_common w) t e k m)
    shown_one None None a b i j = unfound_one q valid few names s t same d e districts (told_writing w) h k hedges
    shown_one None (Some m) a b i j = absurd (false≢true (a.1 (b.0 refl)))
    shown_one (Some c) None a b i j = absurd (false≢true (b.1 (a.0 refl)))
    shown_one (Some c) (Some m) a b i j = as_asked w
      where
        as_asked : (v : Writing) → AreOne (told_writing v) names (stop_shown (wants_common v) s d h (Some c)) (stop_shown (wants_common v) t e k (Some m))
        as_asked Plain = unfound_one q valid few names s t same d e districts told.Plain h k hedges
        as_asked Models = blocked_one q valid few names s t same d e districts c m i j told.Plain h k
        as_asked Certificate = blocked_one q valid few names s t same d e districts c m i j told.Certificate h k

  stops_one : (s t : SurrogateSets) → AreSameSets s t → (a b : Answer) → IsStop (wants_common w) q s a → IsStop (wants_common w) q t b
      → AreOne (told_writing w) names a b
  stops_one s t same a b f g =
      let zs = masks_of s.experiments.items in
      let stop = moved (λ ks x y. IsStopShown q ks x y g.district g.hedge g.pair) s t same g.stop in
      let blocks = held q valid few zs s.x.bits s.y.bits f.district f.common f.shown f.arrays in
      let shown = moved (λ ks x y. IfSome g.common (λ k. IsBlockShown q ks x y g.district k.hedge k.pair)) s t same g.shown in
      let others = held q valid few zs s.x.bits s.y.bits g.district g.common shown g.arrays in
      let exact = moved (λ ks x y. IsSome g.common ↔ IsBlockedTogether q ks x y) s t same g.exact in
      let one = shown_one s t same f.district g.district
      (district_same q valid few zs s.x.bits s.y.bits f.district g.district f.hedge g.hedge f.pair g.pair f.stop stop) f.hedge g.hedge
      (stops_alike q valid few zs s.x.bits s.y.bits f.district g.district f.hedge g.hedge f.pair g.pair f.stop stop)
      (IsBlockedTogether q zs s.x.bits s.y.bits) f.common g.common f.exact exact blocks others in
      subst (λ (u : Answer). AreOne (told_writing w) names u b) (sym f.is)
      (subst (λ (v : Answer). AreOne (told_writing w) names (stop_shown (wants_common w) s f.district f.hedge f.common) v) (sym g.is) one)

  answers_one : (l : SurrogateLists) (a b : Answer) → IsForLists (wants_common w) q l a → IsForLists (wants_common w) q l b
      → surrogate_telling.outcome b ≡ surrogate_telling.outcome a → AreOne (told_writing w) names a b
  answers_one l (Formula s f) (Formula t g) a b ends =
      subst (λ (u : SurrogateSets). AreOne (told_writing w) names (Formula u f) (Formula t g)) (sym a.decided.0)
      (subst (λ (u : SurrogateSets). AreOne (told_writing w) names (Formula a.sets f) (Formula u g)) (sym b.decided.0)
      (formulas_one (told_writing w) names q a.sets b.sets f g (same_sets l a.sets b.sets a.named b.named) a.decided.1 b.decided.1))
  answers_one l (Formula s f) (Unfound t e k) a b ends = let c : 1 ≡ 0 = ap code_of ends in absurd (omega (arith, c))
  answers_one l (Formula s f) (Blocked t e k) a b ends = let c : 1 ≡ 0 = ap code_of ends in absurd (omega (arith, c))
  answers_one l (Unfound s d h) (Formula t g) a b ends = let c : 0 ≡ 1 = ap code_of ends in absurd (omega (arith, c))
  answers_one l (Blocked s d h) (Formula t g) a b ends = let c : 0 ≡ 1 = ap code_of ends in absurd (omega (arith, c))
  answers_one l (Unfound s d h) (Unfound t e k) a b ends =
      stops_one a.sets b.sets (same_sets l a.sets b.sets a.named b.named) (Unfound s d h) (Unfound t e k) a.decided b.decided
  answers_one l (Unfound s d h) (Blocked t e k) a b ends =
      stops_one a.sets b.sets (same_sets l a.sets b.sets a.named b.named) (Unfound s d h) (Blocked t e k) a.decided b.decided
  answers_one l (Blocked s d h) (Unfound t e k) a b ends =
      stops_one a.sets b.sets (same_sets l a.sets b.sets a.named b.named) (Blocked s d h) (Unfound t e k) a.decided b.decided
  answers_one l (Blocked s d h) (Blocked t e k) a b ends =
      stops_one a.sets b.sets (same_sets l a.sets b.sets a.named b.named) (Blocked s d h) (Blocked t e k) a.decided b.decided

-- of two right answers that end alike one thing is told
pub one_over_experiments : (form : Form) (names : List (List ℕ)) (q : MixedGraph) → IsMixedGraph q → q.vertices ≤ 64 → (l : SurrogateLists) (a b : Answer)
    → IsForLists (wants_common form.writing) q l a → IsForLists (wants_common form.writing) q l b
    → surrogate_telling.outcome b ≡ surrogate_telling.outcome a
    → told_in surrogate_telling target_refusal (told_form form) names (Ok b) ≡ told_in surrogate_telling target_refusal (told_form form) names (Ok a)
one_over_experiments form names q valid few l a b x y ends =
    let one = answers_one form.writing names q valid few l a b x y ends in
    λ i. answer_of (text_in form.format (one.text i) (json_line (object_of (one.object i))))
