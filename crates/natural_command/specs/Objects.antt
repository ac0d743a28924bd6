-- The members of the answers' objects.
use Rattle.std.specs.Prelude.{ℕ, List, [], ◌∷◌, ◌++◌, map, codes}
use Rattle.json.specs.Json.{Json, string, boolean}
use Rattle.answer_text.specs.declared.signs.Notation.TheVariants as notations
use Rattle.prob_expr.specs.Vocabulary.{formula_view}
use Rattle.hedge.specs.declared.hedge.Hedge.{Hedge}
use Rattle.counter_models.specs.declared.counter_pair.CounterPair.{CounterPair}
use Rattle.answer_json.specs.Vocabulary.{array_of, object_of, text_json, set_json, vertex_json}
use Rattle.hedge_json.specs.Vocabulary.{hedge_json, models_json}
use Rattle.effect_answers.specs.Vocabulary.{joint_json, formula_members}
use Rattle.primed_names.specs.Vocabulary.{primed_names}
use Rattle.natural_id.specs.declared.answers.Part.{Part}
use Rattle.natural_id.specs.declared.answers.NaturalFormula.{NaturalFormula}
use Rattle.natural_id.specs.declared.answers.Witness.{Witness}
use Rattle.natural_id.specs.declared.answers.Split.{Split}
use Rattle.natural_command.specs.declared.answer.Asked.{Asked}
use Rattle.natural_command.specs.Second.{names_read}
use Rattle.natural_command.specs.Sentences.{effect_text, body_in, equation_in, district_effect, joint_of}

-- the answer's word, and the sets
abbrev pub question_members : (word : List ℕ) → List (List ℕ) → Asked → List (List ℕ × Json)
question_members word names a =
    (codes "answer", string word)
    ∷ (codes "y", set_json names a.question.y.bits)
    ∷ (codes "x", set_json names a.question.x.bits)
    ∷ (codes "through", set_json names a.question.through.bits)
    ∷ (codes "given", set_json names a.question.given.bits) ∷ []

-- the second names of x in the order of x, whether directed paths lead through the mediators and past them, and the effect
abbrev pub way_members : List (List ℕ) → Asked → List (List ℕ × Json)
way_members names a =
    (codes "second", set_json (primed_names names a.question.x.bits) a.primes.bits)
    ∷ (codes "indirect", boolean a.indirect)
    ∷ (codes "direct", boolean a.direct)
    ∷ (codes "effect", text_json (effect_text names a)) ∷ []

-- both
abbrev pub asked_members : (word : List ℕ) → List (List ℕ) → Asked → List (List ℕ × Json)
asked_members word names a = question_members word names a ++ way_members names a

-- a part of a formula: its district, the names by which it reads x, and its formula
abbrev pub part_members : (names read : List (List ℕ)) → (x : ℕ) → Part → List (List ℕ × Json)
part_members names read x p =
    (codes "district", set_json names p.district.bits)
    ∷ (codes "reads", set_json read x)
    ∷ formula_members read (district_effect names p) (formula_view p.formula)

-- that object
abbrev pub part_json : List (List ℕ) → (x : ℕ) → Part → Json
part_json names x p = object_of (part_members names (names_read names x p.second.bits) x p)

-- the formula as text, what is summed, the parts, and the formula in LaTeX
abbrev pub body_members : List (List ℕ) → Asked → NaturalFormula → List (List ℕ × Json)
body_members names a f =
    (codes "formula", text_json (body_in notations.Plain names a f))
    ∷ (codes "summed", set_json names f.summed.bits)
    ∷ (codes "factors", array_of (map (part_json names a.question.x.bits) f.parts.items))
    ∷ (codes "latex", text_json (equation_in notations.Latex names a f)) ∷ []

-- a formula
abbrev pub natural_members_of : List (List ℕ) → Asked → NaturalFormula → List (List ℕ × Json)
natural_members_of names a f = asked_members (codes "formula") names a ++ body_members names a f

-- a hedge of the joint effect, and its two models
abbrev pub hedge_members_of : List (List ℕ) → Asked → Hedge → CounterPair → List (List ℕ × Json)
hedge_members_of names a h pair =
    (codes "joint", joint_json names a.question.x.bits (joint_of a))
    ∷ (codes "hedge", hedge_json names h)
    ∷ (codes "models", models_json names pair) ∷ []

-- there is no formula
abbrev pub excluded_members : List (List ℕ) → Asked → Hedge → CounterPair → List (List ℕ × Json)
excluded_members names a h pair = asked_members (codes "hedge") names a ++ hedge_members_of names a h pair

-- there is none: a vertex reads both values of a treatment
abbrev pub witness_members : List (List ℕ) → Asked → Witness → List (List ℕ × Json)
witness_members names a w =
    asked_members (codes "witness") names a
    ++ ((codes "joint", joint_json names a.question.x.bits (joint_of a))
    ∷ (codes "treatment", vertex_json names w.treatment)
    ∷ (codes "witness", vertex_json names w.child) ∷ [])

-- there is none: a district reads both values of a treatment, by the first vertex past the mediators, by the second through them
abbrev pub split_members : List (List ℕ) → Asked → Split → List (List ℕ × Json)
split_members names a s =
    asked_members (codes "district") names a
    ++ ((codes "joint", joint_json names a.question.x.bits (joint_of a))
    ∷ (codes "treatment", vertex_json names s.treatment)
    ∷ (codes "district", set_json names s.district.bits)
    ∷ (codes "direct_child", vertex_json names s.first)
    ∷ (codes "indirect_child", vertex_json names s.second) ∷ [])
