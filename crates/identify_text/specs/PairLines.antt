-- The printed answer of an effect that has no formula: a hedge, and the two models that it gives.
use Rattle.std.specs.Prelude.{ℕ, ◌+◌, List, ◌++◌, codes, decimal}
use Rattle.prob_expr.specs.Vocabulary.{PlainTarget, term_of}
use Rattle.expr_text.specs.Vocabulary.{text_of}
use Rattle.hedge.specs.declared.hedge.Hedge.{Hedge}
use Rattle.counter_models.specs.declared.counter_pair.CounterPair.{CounterPair}
use Rattle.identify_text.specs.declared.bits.Bit.TheVariants.{Carried}
use Rattle.identify_text.specs.HedgeLines.{heading_text, choice_lines, link_lines}
use Rattle.identify_text.specs.ModelLines.{bits_of, sum_text, cause_lines, vertex_lines}

-- `event k(Y) even: 1/2 in the first, 1/2 + 1/2^3 in the second`
abbrev pub event_line : List (List ℕ) → CounterPair → List ℕ
event_line names pair =
    codes "event " ++ (sum_text (bits_of names Carried pair.event.bits)
    ++ (codes " even: 1/2 in the first, 1/2 + 1/2^" ++ (decimal (pair.noise + 1) ++ codes " in the second\n")))

-- the choices and links of a hedge, the causes of both models, the bits of the first and then of the second, and the event
abbrev pub models_text : List (List ℕ) → Hedge → CounterPair → List ℕ
models_text names h pair =
    choice_lines names h ++ (link_lines names h ++ (cause_lines names 0 pair.first.causes.items
    ++ (vertex_lines names (codes "first") 0 pair.first.mechanisms.items
    ++ (vertex_lines names (codes "second") 0 pair.second.mechanisms.items ++ event_line names pair))))

-- the hedge with its choices and links, and its two models
abbrev pub hedge_answer : List (List ℕ) → (x y : ℕ) → Hedge → CounterPair → List ℕ
hedge_answer names x y h pair = heading_text names x y h ++ models_text names h pair

-- `P(Y|do(X),Z) not identified; P(Y,Z|do(X)) is not identifiable`, and the other lines of the hedge for that joint effect
abbrev pub joint_answer : List (List ℕ) → PlainTarget → (x y : ℕ) → Hedge → CounterPair → List ℕ
joint_answer names t x y h pair = text_of names (term_of t) ++ (codes " not identified; " ++ hedge_answer names x y h pair)
