-- The texts of the answers.
use Rattle.std.specs.Prelude.{ℕ, ◌==◌, Bool, if◌then◌else◌, List, [], ◌++◌, length, codes}
use Rattle.std.specs.List.{flat_map}
use Rattle.mixed_graph.specs.Vocabulary.{has, members_below, union}
use Rattle.prob_expr.specs.Vocabulary.{PlainTarget, PlainFormula, term_of}
use Rattle.expr_text.specs.Vocabulary.{text_of}
use Rattle.hedge.specs.declared.hedge.Hedge.{Hedge}
use Rattle.counter_models.specs.declared.counter_pair.CounterPair.{CounterPair}
use Rattle.identify_text.specs.Vocabulary.{answer_in, effect_term, vertex_text, hedge_answer}
use Rattle.primed_names.specs.Vocabulary.{primed_names}
use Rattle.told.specs.declared.form.Writing.{Writing}
use Rattle.told.specs.Vocabulary.{notation_of}
use Rattle.treated_id.specs.declared.answers.Confounding.{Confounding}
use Rattle.treated_command.specs.declared.answer.Asked.{Asked}

-- the effect that is asked for, over names and primed names: P(y | do(x), given, x')
abbrev pub target_of : Asked → PlainTarget
target_of a = record { x = a.sets.x.bits; y = a.sets.y.bits; given = union a.sets.given.bits a.primes.bits }

-- the outcomes of the joint effect: y and what is given
abbrev pub joint_of : Asked → ℕ
joint_of a = union a.sets.y.bits a.sets.given.bits

-- the effect that is asked for, as text
abbrev pub effect_text : List (List ℕ) → Asked → List ℕ
effect_text names a = text_of (primed_names names a.sets.x.bits) (term_of (target_of a))

-- `P(Y|do(X),X') = sum{M} P(M|X) * P(Y|M,X')`
abbrev pub formula_text : Writing → List (List ℕ) → Asked → PlainFormula → List ℕ
formula_text writing names a f = answer_in (notation_of writing) (primed_names names a.sets.x.bits) (target_of a) f

-- ` <-> W`
abbrev pub step_text : List (List ℕ) → ℕ → List ℕ
step_text names v = codes " <-> " ++ vertex_text names v

-- `X -> Y and Y <-> W <-> X`: a child of a treatment, and the bidirected path that leads back
abbrev pub confounding_text : List (List ℕ) → Confounding → List ℕ
confounding_text names c =
    vertex_text names c.treatment ++ (codes " -> " ++ (vertex_text names c.child ++ (codes " and "
    ++ (vertex_text names c.child ++ (flat_map (step_text names) c.path.items ++ codes "\n")))))

-- `P(Y|do(X),X') is not identifiable`, why, and the hedge of the joint effect with its two models
abbrev pub excluded_text : List (List ℕ) → Asked → Confounding → Hedge → CounterPair → List ℕ
excluded_text names a c h pair =
    effect_text names a ++ (codes " is not identifiable\n" ++ (confounding_text names c ++ hedge_answer names a.sets.x.bits (joint_of a) h pair))

-- the treatment is one vertex
abbrev pub is_single : Asked → Bool
is_single a = length (members_below (has a.sets.x.bits) 64) == 1

-- `P(X') * P(Y|do(X),X')`
abbrev pub share_text : List (List ℕ) → Asked → List ℕ
share_text names a =
    text_of (primed_names names a.sets.x.bits) (effect_term 0 (union a.sets.given.bits a.primes.bits)) ++ (codes " * " ++ effect_text names a)

-- `P(Y|do(X)) = P(X,Y) + P(X') * P(Y|do(X),X')`: how the joint effect is made up where X has two values (`TwoValuesSplitJoint`)
abbrev pub split_text : List (List ℕ) → Asked → List ℕ
split_text names a =
    text_of names (effect_term a.sets.x.bits (joint_of a)) ++ (codes " = "
    ++ (text_of names (effect_term 0 (union (joint_of a) a.sets.x.bits)) ++ (codes " + " ++ share_text names a)))

-- `two values of X: P(Y|do(X)) = P(X,Y) + P(X') * P(Y|do(X),X')`
abbrev pub two_values_line : List (List ℕ) → Asked → Confounding → List ℕ
two_values_line names a c = codes "two values of " ++ (vertex_text names c.treatment ++ (codes ": " ++ (split_text names a ++ codes "\n")))

-- this line, for a treatment of one vertex
abbrev pub two_values_text : List (List ℕ) → Asked → Confounding → List ℕ
two_values_text names a c = if is_single a then two_values_line names a c else []

-- `P(Y|do(X),X') is not identifiable`, why, and how the joint effect, which is, is made up of it where X has two values
abbrev pub unfixed_text : List (List ℕ) → Asked → Confounding → List ℕ
unfixed_text names a c = effect_text names a ++ (codes " is not identifiable\n" ++ (confounding_text names c ++ two_values_text names a c))
