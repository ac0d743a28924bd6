-- The members of the answers' objects.
use Rattle.std.specs.Prelude.{ℕ, if◌then◌else◌, List, [], ◌∷◌, ◌++◌, map, codes}
use Rattle.json.specs.Json.{Json, string, null}
use Rattle.prob_expr.specs.Vocabulary.{PlainFormula}
use Rattle.hedge.specs.declared.hedge.Hedge.{Hedge}
use Rattle.counter_models.specs.declared.counter_pair.CounterPair.{CounterPair}
use Rattle.answer_json.specs.Vocabulary.{array_of, object_of, set_json, text_json, vertex_json, vertices_json}
use Rattle.hedge_json.specs.Vocabulary.{hedge_json, models_json}
use Rattle.effect_answers.specs.Vocabulary.{effect_json, joint_json, formula_members}
use Rattle.primed_names.specs.Vocabulary.{primed_names}
use Rattle.treated_id.specs.declared.answers.Confounding.{Confounding}
use Rattle.treated_command.specs.declared.answer.Asked.{Asked}
use Rattle.treated_command.specs.Sentences.{target_of, joint_of, is_single, split_text}

-- the answer's word, the sets, and the primed names of x in the order of x
abbrev pub asked_members : (word : List ℕ) → List (List ℕ) → Asked → List (List ℕ × Json)
asked_members word names a =
    (codes "answer", string word)
    ∷ (codes "y", set_json names a.sets.y.bits)
    ∷ (codes "x", set_json names a.sets.x.bits)
    ∷ (codes "given", set_json names a.sets.given.bits)
    ∷ (codes "observed", set_json (primed_names names a.sets.x.bits) a.primes.bits) ∷ []

-- a formula
abbrev pub formula_object : List (List ℕ) → Asked → PlainFormula → List (List ℕ × Json)
formula_object names a f = asked_members (codes "formula") names a ++ formula_members (primed_names names a.sets.x.bits) (target_of a) f

-- a certificate, which stands on a line of its own
abbrev pub certified_members : List (List ℕ) → Asked → List (List ℕ × Json)
certified_members names a = asked_members (codes "certificate") names a

-- the bidirected path from a child to its treatment
abbrev pub path_object : List (List ℕ) → Confounding → Json
path_object names c = object_of (
    (codes "vertices", vertices_json names (c.child ∷ c.path.items))
    ∷ (codes "marks", array_of (map (λ v. string (codes "<->")) c.path.items)) ∷ [])

-- a treatment that is confounded with a child of its own, and that path
abbrev pub confounding_members : List (List ℕ) → Confounding → List (List ℕ × Json)
confounding_members names c =
    (codes "treatment", vertex_json names c.treatment)
    ∷ (codes "child", vertex_json names c.child)
    ∷ (codes "path", path_object names c) ∷ []

-- the effect that is asked for, what confounds, and the joint effect
abbrev pub reason_members : (word : List ℕ) → List (List ℕ) → Asked → Confounding → List (List ℕ × Json)
reason_members word names a c =
    asked_members word names a
    ++ ((codes "effect", effect_json (primed_names names a.sets.x.bits) (target_of a))
    ∷ (confounding_members names c ++ (codes "joint", joint_json names a.sets.x.bits (joint_of a)) ∷ []))

-- the same with a hedge of the joint effect and its two models
abbrev pub excluded_members : List (List ℕ) → Asked → Confounding → Hedge → CounterPair → List (List ℕ × Json)
excluded_members names a c h pair =
    reason_members (codes "hedge") names a c ++ ((codes "hedge", hedge_json names h) ∷ (codes "models", models_json names pair) ∷ [])

-- how the joint effect is made up where the treatment has two values; null where there are several treatments
abbrev pub two_values_json : List (List ℕ) → Asked → Json
two_values_json names a = if is_single a then text_json (split_text names a) else null

-- the same where the joint effect has a formula
abbrev pub unfixed_members : List (List ℕ) → Asked → Confounding → List (List ℕ × Json)
unfixed_members names a c = reason_members (codes "path") names a c ++ ((codes "two_values", two_values_json names a) ∷ [])
