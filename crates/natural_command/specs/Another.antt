-- The interventional effect, of which an answer without a formula tells where it has one: another effect, since its mediators are drawn as they are
-- distributed under the second value of x, and not those that the same person would have.
use Rattle.std.specs.Prelude.{ℕ, Bool, true, not, List, [], ◌∷◌, ◌++◌, if◌then◌else◌, codes, Option, Some, None}
use Rattle.json.specs.Json.{Json}
use Rattle.answer_text.specs.declared.signs.Sign.TheVariants.{Times}
use Rattle.answer_text.specs.declared.signs.Notation.TheVariants.{Plain}
use Rattle.answer_text.specs.Vocabulary.{sign_text}
use Rattle.mixed_graph.specs.Vocabulary.{is_empty}
use Rattle.prob_expr.specs.Vocabulary.{PlainFormula, PlainTarget, term_of, formula_view}
use Rattle.expr_text.specs.Vocabulary.{text_of}
use Rattle.answer_json.specs.Vocabulary.{object_of, text_json, set_json}
use Rattle.identify_text.specs.Vocabulary.{answer_in, free_beside}
use Rattle.effect_answers.specs.Vocabulary.{formula_members}
use Rattle.interventional_id.specs.declared.answer.Interventional.{Interventional}
use Rattle.interventional_id.specs.Vocabulary.{on_mediators, on_outcome}
use Rattle.natural_command.specs.declared.answer.Asked.{Asked}
use Rattle.natural_command.specs.Second.{names_read}
use Rattle.natural_command.specs.Sentences.{is_defined, operand_in, summed_in}

-- the names by which the effect on the mediators is read: x at its second names
abbrev pub second_names : List (List ℕ) → Asked → List (List ℕ)
second_names names a = names_read names a.question.x.bits a.question.x.bits

-- the effect of x on the mediators
abbrev pub mediators_of : Asked → PlainTarget
mediators_of a = on_mediators a.question.x.bits a.question.through.bits a.question.given.bits

-- the effect of x and the mediators on y
abbrev pub outcome_of : Asked → PlainTarget
outcome_of a = on_outcome a.question.x.bits a.question.through.bits a.question.y.bits a.question.given.bits

-- ---- the text

-- a text of each of the two effects as a product, summed over the mediators
abbrev pub summed_product : List (List ℕ) → Asked → (mediators outcome : List ℕ) → List ℕ
summed_product names a mediators outcome =
    summed_in Plain names a.question.through.bits ++ (mediators ++ (sign_text Plain Times ++ outcome))

-- `sum{M} P(M|do(X')) * P(Y|do(X,M))`
abbrev pub interventional_text : List (List ℕ) → Asked → List ℕ
interventional_text names a =
    summed_product names a (text_of (second_names names a) (term_of (mediators_of a))) (text_of names (term_of (outcome_of a)))

-- `sum{M} P(M|X') * P(Y|X,M)`
abbrev pub product_text : List (List ℕ) → Asked → Interventional → List ℕ
product_text names a i = summed_product names a (operand_in Plain (second_names names a) (mediators_of a) (formula_view i.mediators))
    (operand_in Plain names (outcome_of a) (formula_view i.outcome))

-- the effect, an equals sign and its formula
abbrev pub equation_text : List (List ℕ) → Asked → Interventional → List ℕ
equation_text names a i = interventional_text names a ++ (codes " = " ++ product_text names a i)

-- a formula stands on lines of its own too: it has definitions, or reads something beside the sets of its effect
abbrev pub has_lines : PlainTarget → PlainFormula → Bool
has_lines t f = if is_defined f then true else not (is_empty (free_beside t f))

-- these lines
abbrev pub factor_lines : List (List ℕ) → PlainTarget → PlainFormula → List ℕ
factor_lines names t f = if has_lines t f then answer_in Plain names t f else []

-- those of both
abbrev pub both_lines : List (List ℕ) → Asked → Interventional → List ℕ
both_lines names a i =
    factor_lines (second_names names a) (mediators_of a) (formula_view i.mediators) ++ factor_lines names (outcome_of a) (formula_view i.outcome)

-- that this is another effect, with its formula; nothing where it has none
abbrev pub another_lines : List (List ℕ) → Asked → Option Interventional → List ℕ
another_lines names a None = []
another_lines names a (Some i) =
    codes "another effect, the interventional one: " ++ (equation_text names a i ++ (codes "\n" ++ both_lines names a i))

-- ---- the object

-- one of the two effects with its formula, and the names by which it reads x
abbrev pub factor_members : (read : List (List ℕ)) → (x : ℕ) → PlainTarget → PlainFormula → List (List ℕ × Json)
factor_members read x t f = (codes "reads", set_json read x) ∷ formula_members read t f

-- that object
abbrev pub factor_json : (read : List (List ℕ)) → (x : ℕ) → PlainTarget → PlainFormula → Json
factor_json read x t f = object_of (factor_members read x t f)

-- that of the effect on the mediators
abbrev pub mediators_json : List (List ℕ) → Asked → Interventional → Json
mediators_json names a i = factor_json (second_names names a) a.question.x.bits (mediators_of a) (formula_view i.mediators)

-- that of the effect on y
abbrev pub outcome_json : List (List ℕ) → Asked → Interventional → Json
outcome_json names a i = factor_json names a.question.x.bits (outcome_of a) (formula_view i.outcome)

-- the effect and its formula as text, and both of these
abbrev pub interventional_members : List (List ℕ) → Asked → Interventional → List (List ℕ × Json)
interventional_members names a i =
    (codes "effect", text_json (interventional_text names a))
    ∷ (codes "formula", text_json (product_text names a i))
    ∷ (codes "mediators", mediators_json names a i)
    ∷ (codes "outcome", outcome_json names a i) ∷ []

-- that object
abbrev pub interventional_json : List (List ℕ) → Asked → Interventional → Json
interventional_json names a i = object_of (interventional_members names a i)

-- the member of the interventional effect; none where it has no formula
abbrev pub another_members : List (List ℕ) → Asked → Option Interventional → List (List ℕ × Json)
another_members names a None = []
another_members names a (Some i) = (codes "interventional", interventional_json names a i) ∷ []
