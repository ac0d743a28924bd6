-- Lists of steps that grow at their end, read with what comes after them.
use Rattle.std.proofs.Common.{◌≡◌, ℕ, suc, ◌+◌, Bool, true, false, cond, List, [], ◌∷◌, ◌++◌, length, refl, ap, ◌∙◌, append-nil, arith, rules}
use Rattle.std.specs.Global.{Box, Vec}
use Rattle.mixed_graph.specs.declared.sets.VSet.{VSet}
use Rattle.mixed_graph.specs.Vocabulary.{is_empty}
use Rattle.do_derivation.specs.Plans.{Plan, Plans, plan}
use Rattle.do_derivation.specs.declared.steps.Step.{the_lemmas, At, Then}
use Rattle.do_derivation.specs.Vocabulary.{PlainLemma, no_plans, step_view, steps_view, lemma_view}
use Rattle.do_derivation.specs.declared.steps.Step.{Step}
use Rattle.identification_theory.specs.Vocabulary.{Lists, at_each, at_place, more, with_set}
use Rattle.identify.specs.Lists.{onto, lists_onto, lists_view}

-- a step at a place is seen as the plan of that step, at the same place
pub step-At : (i : ℕ) (b : Box Step) → step_view (At i b) ≡ Plan.At i (step_view b.value)
step-At i b = search (rules, the_lemmas)

-- steps one after the other are seen as their plans one after the other
pub step-Then : (l : Vec Step) → step_view (Then l) ≡ Plan.Then (steps_view l.items)
step-Then l = search (rules, the_lemmas)

-- the plain lemma of a set and a list of steps
pub lemma_of : (set : VSet) (steps : Vec Step) → ◌≡◌ {A = PlainLemma} (lemma_view (record { set = set; step = Then steps }))
    (record { set = set.bits; plan = Plan.Then (steps_view steps.items) })
lemma_of set steps = ap (λ p. record { set = set.bits; plan = p }) (step-Then steps)

-- a step behind the others stands in front of the rest
pub onto_more : (l : List Step) (s : Step) (rest : Plans) → onto (l ++ s ∷ []) rest ≡ onto l (plan (step_view s) rest)
onto_more [] s rest = refl
onto_more (t ∷ l) s rest = ap (λ p. plan (step_view t) p) (onto_more l s rest)

-- the same of a step that is left out where its set is empty
pub onto_with : (new old : List Step) (z : ℕ) (s : Step) → new ≡ old ++ cond (is_empty z) [] (s ∷ []) → (rest : Plans) → onto new rest
    ≡ onto old (with_set z (step_view s) rest)
onto_with new old z s e rest = ap (λ l. onto l rest) e ∙ go (is_empty z)
  where
    go : (b : Bool) → onto (old ++ cond b [] (s ∷ [])) rest ≡ onto old (cond b rest (plan (step_view s) rest))
    go true = ap (λ l. onto l rest) (append-nil old)
    go false = onto_more old s rest

-- two lists of steps before the rest are the first before what the second and the rest give
pub onto_append : (l m : List Step) (rest : Plans) → onto (l ++ m) rest ≡ onto l (onto m rest)
onto_append [] m rest = refl
onto_append (t ∷ l) m rest = ap (λ p. plan (step_view t) p) (onto_append l m rest)

-- steps with nothing behind them are the plans of the steps alone
pub onto_nothing : (l : List Step) → onto l no_plans ≡ steps_view l
onto_nothing [] = refl
onto_nothing (t ∷ l) = ap (λ p. plan (step_view t) p) (onto_nothing l)

-- a list that isn't empty stands at its place
pub placed : (list : List Step) (i : ℕ) (p : Plan) (rest : Plans) → (list ≡ [] → ⊥) → p ≡ Plan.At i (Plan.Then (steps_view list)) → plan p rest
    ≡ at_place i (steps_view list) rest
placed [] i p rest some is = absurd (some refl)
placed (s ∷ list) i p rest some is = ap (λ q. plan q rest) is

-- ---- lists of lists of steps
-- a list of steps behind the others stands in front of the rest
pub lists_more : (ls : List (Vec Step)) (l : Vec Step) (rest : Lists) → lists_onto (ls ++ l ∷ []) rest ≡ lists_onto ls (more (steps_view l.items) rest)
lists_more [] l rest = refl
lists_more (k ∷ ls) l rest = ap (λ r. more (steps_view k.items) r) (lists_more ls l rest)

-- a further list stands at the place that its number gives
pub at_each_more : (ls : List (Vec Step)) (l : Vec Step) (i : ℕ) (rest : Plans)
    → at_each i (lists_view (ls ++ l ∷ [])) rest ≡ at_each i (lists_view ls) (at_place (i + length ls) (steps_view l.items) rest)
at_each_more [] l i rest = ap (λ k. at_place k (steps_view l.items) rest) {x = i} {y = i + length (let e : List (Vec Step) = [] in e)} (omega arith)
at_each_more (k ∷ ls) l i rest =
    ap (λ p. at_place i (steps_view k.items) p) (at_each_more ls l (suc i) rest
    ∙ ap (λ n. at_each (suc i) (lists_view ls) (at_place n (steps_view l.items) rest)) (omega arith))
