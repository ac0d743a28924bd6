-- The texts of the answers.
use Rattle.std.specs.Prelude.{ℕ, Bool, true, false, List, [], ◌∷◌, ◌++◌, length, ◌==◌, if◌then◌else◌, codes}
use Rattle.std.specs.List.{flat_map}
use Rattle.answer_text.specs.declared.signs.Notation.{Notation}
use Rattle.answer_text.specs.declared.signs.Sign.TheVariants.{Sum, Times}
use Rattle.answer_text.specs.Vocabulary.{sign_text, names_in, member_names, set_in, set_text, term_in}
use Rattle.answer_text.specs.declared.signs.Notation.TheVariants as notations
use Rattle.mixed_graph.specs.Vocabulary.{has, members_below, all, is_empty, minus, union}
use Rattle.prob_expr.specs.Vocabulary.{PlainTarget, PlainFormula, effect_on, term_of, formula_view}
use Rattle.expr_text.specs.Vocabulary.{expr_in, formula_in, text_of, wrapped}
use Rattle.hedge.specs.declared.hedge.Hedge.{Hedge}
use Rattle.counter_models.specs.declared.counter_pair.CounterPair.{CounterPair}
use Rattle.identify_text.specs.Vocabulary.{answer_in, effect_term, vertex_text, hedge_answer}
use Rattle.primed_names.specs.Vocabulary.{primed_names}
use Rattle.told.specs.declared.form.Writing.{Writing}
use Rattle.told.specs.Vocabulary.{notation_of}
use Rattle.natural_id.specs.declared.answers.Part.{Part}
use Rattle.natural_id.specs.declared.answers.NaturalFormula.{NaturalFormula}
use Rattle.natural_id.specs.declared.answers.Witness.{Witness}
use Rattle.natural_id.specs.declared.answers.Split.{Split}
use Rattle.natural_command.specs.declared.answer.Asked.{Asked}
use Rattle.natural_command.specs.Second.{names_read}

-- ---- the effect that is asked for

-- the names of a set with commas between them
abbrev pub list_text : List (List ℕ) → ℕ → List ℕ
list_text names set = names_in notations.Plain (member_names names (has set))

-- the name of a set of one member, and any other set in braces
abbrev pub group_text : List (List ℕ) → ℕ → List ℕ
group_text names set = if length (members_below (has set) 64) == 1 then list_text names set else set_text names set

-- `X,M[X']`: x, and the mediators as they are under the second value of x
abbrev pub under_text : List (List ℕ) → Asked → List ℕ
under_text names a =
    list_text names a.question.x.bits ++ (codes "," ++ (group_text names a.question.through.bits ++ (codes "["
    ++ (list_text (primed_names names a.question.x.bits) a.primes.bits ++ codes "]"))))

-- `|Z`, or nothing where nothing is given
abbrev pub given_text : List (List ℕ) → ℕ → List ℕ
given_text names given = if is_empty given then [] else codes "|" ++ list_text names given

-- `P(Y[X,M[X']]|Z)`
abbrev pub effect_text : List (List ℕ) → Asked → List ℕ
effect_text names a =
    codes "P(" ++ (group_text names a.question.y.bits ++ (codes "[" ++ (under_text names a ++ (codes "]"
    ++ (given_text names a.question.given.bits ++ codes ")")))))

-- a set in LaTeX, as a group
abbrev pub group_latex : List (List ℕ) → ℕ → List ℕ
group_latex names set = set_in notations.Latex names set

-- ` \mid {Z}`, or nothing
abbrev pub given_latex : List (List ℕ) → ℕ → List ℕ
given_latex names given = if is_empty given then [] else codes " \\mid " ++ group_latex names given

-- `{X}, {M}_{X'}`
abbrev pub under_latex : List (List ℕ) → Asked → List ℕ
under_latex names a =
    group_latex names a.question.x.bits ++ (codes ", " ++ (group_latex names a.question.through.bits ++ (codes "_"
    ++ group_latex (primed_names names a.question.x.bits) a.primes.bits)))

-- `P({Y}_{{X}, {M}_{X'}} \mid {Z})`
abbrev pub effect_latex : List (List ℕ) → Asked → List ℕ
effect_latex names a =
    codes "P(" ++ (group_latex names a.question.y.bits ++ (codes "_{" ++ (under_latex names a ++ (codes "}"
    ++ (given_latex names a.question.given.bits ++ codes ")")))))

-- the effect in a notation
abbrev pub effect_in : Notation → List (List ℕ) → Asked → List ℕ
effect_in notations.Plain names a = effect_text names a
effect_in notations.Latex names a = effect_latex names a

-- ---- the formula

-- the effect of all other vertices on those of a district
abbrev pub district_effect : List (List ℕ) → Part → PlainTarget
district_effect names p = effect_on (minus (all (length names)) p.district.bits) p.district.bits

-- the formula has definitions
abbrev pub is_defined : PlainFormula → Bool
is_defined f = if length f.defs == 0 then false else true

-- a part as a factor: its formula; or where that has definitions, the effect whose formula stands on lines of its own
abbrev pub operand_in : Notation → List (List ℕ) → PlainTarget → PlainFormula → List ℕ
operand_in notation names t f = if is_defined f then expr_in notation names (term_of t) else wrapped notation f.main (formula_in notation names f)

-- the same, by the names by which the part reads x
abbrev pub part_in : Notation → List (List ℕ) → (x : ℕ) → Part → List ℕ
part_in notation names x p = operand_in notation (names_read names x p.second.bits) (district_effect names p) (formula_view p.formula)

-- the sign of a product before a later factor
abbrev pub times_before : Notation → (later : Bool) → List ℕ
times_before notation later = if later then sign_text notation Times else []

-- the parts as factors, the first of which comes later or doesn't
abbrev pub parts_in : Notation → (later : Bool) → List (List ℕ) → (x : ℕ) → List Part → List ℕ
parts_in notation later names x [] = []
parts_in notation later names x (p ∷ ps) = times_before notation later ++ (part_in notation names x p ++ parts_in notation true names x ps)

-- the sign of a sum over a set, where it isn't empty
abbrev pub summed_in : Notation → List (List ℕ) → ℕ → List ℕ
summed_in notation names set = if is_empty set then [] else sign_text notation Sum ++ (set_in notation names set ++ codes " ")

-- the sum of the product
abbrev pub sum_in : Notation → List (List ℕ) → Asked → NaturalFormula → List ℕ
sum_in notation names a f = summed_in notation names f.summed.bits ++ parts_in notation false names a.question.x.bits f.parts.items

-- a text over P(given)
abbrev pub over_in : Notation → List (List ℕ) → (given : ℕ) → List ℕ → List ℕ
over_in notations.Plain names given text = codes "(" ++ (text ++ (codes ") / " ++ term_in notations.Plain names (has given) (has 0) (has 0)))
over_in notations.Latex names given text =
    codes "\\frac{" ++ (text ++ (codes "}{" ++ (term_in notations.Latex names (has given) (has 0) (has 0) ++ codes "}")))

-- the formula: that sum, over P(given) where something is given
abbrev pub body_in : Notation → List (List ℕ) → Asked → NaturalFormula → List ℕ
body_in notation names a f = if is_empty a.question.given.bits then sum_in notation names a f
    else over_in notation names a.question.given.bits (sum_in notation names a f)

-- `P(Y[X,M[X']]) = sum{M} P(M|X') * P(Y|X,M)`
abbrev pub equation_in : Notation → List (List ℕ) → Asked → NaturalFormula → List ℕ
equation_in notation names a f = effect_in notation names a ++ (codes " = " ++ body_in notation names a f)

-- the lines of the effect of a part whose formula has definitions
abbrev pub part_lines : Notation → List (List ℕ) → (x : ℕ) → Part → List ℕ
part_lines notation names x p = if is_defined (formula_view p.formula)
    then answer_in notation (names_read names x p.second.bits) (district_effect names p) (formula_view p.formula) else []

-- ---- what is nil

-- the line that no directed path leads so from x to y, and what that says
abbrev pub no_path_text : List (List ℕ) → Asked → (so what : List ℕ) → List ℕ
no_path_text names a so what =
    codes "no directed path leads from " ++ (set_text names a.question.x.bits ++ (so ++ (set_text names a.question.through.bits
    ++ (codes " to " ++ (set_text names a.question.y.bits ++ what)))))

-- the line that the indirect effect is nil, where no directed path leads through the mediators
abbrev pub indirect_line : List (List ℕ) → Asked → List ℕ
indirect_line names a = if a.indirect then [] else no_path_text names a (codes " through ") (codes ": the indirect effect is nil\n")

-- the line that the direct effect is nil, where none leads past them
abbrev pub direct_line : List (List ℕ) → Asked → List ℕ
direct_line names a = if a.direct then [] else no_path_text names a (codes " past ") (codes ": the direct effect is nil\n")

-- both
abbrev pub nil_lines : List (List ℕ) → Asked → List ℕ
nil_lines names a = indirect_line names a ++ direct_line names a

-- ---- the answers

-- the formula, the lines of its parts with definitions, and what is nil
abbrev pub formula_text : Writing → List (List ℕ) → Asked → NaturalFormula → List ℕ
formula_text writing names a f =
    equation_in (notation_of writing) names a f ++ (codes "\n"
    ++ (flat_map (part_lines (notation_of writing) names a.question.x.bits) f.parts.items ++ nil_lines names a))

-- the outcomes of the joint effect: y and what is given
abbrev pub joint_of : Asked → ℕ
joint_of a = union a.question.y.bits a.question.given.bits

-- `P(Y[X,M[X']]) is not identifiable`, the hedge of the joint effect with its two models, and what is nil
abbrev pub excluded_text : List (List ℕ) → Asked → Hedge → CounterPair → List ℕ
excluded_text names a h pair =
    effect_text names a ++ (codes " is not identifiable\n" ++ (hedge_answer names a.question.x.bits (joint_of a) h pair ++ nil_lines names a))

-- `P(Y[X,M[X']]) is not identifiable`, the line of what reads both values of a treatment, and `P(Y|do(X)) is identifiable`
abbrev pub read_twice_text : List (List ℕ) → Asked → List ℕ → List ℕ
read_twice_text names a reader =
    effect_text names a ++ (codes " is not identifiable\n" ++ (reader ++ (text_of names (effect_term a.question.x.bits (joint_of a))
    ++ codes " is identifiable\n")))

-- ` reads X and X'`, where p is a member of x
abbrev pub reads_text : List (List ℕ) → (x p : ℕ) → List ℕ
reads_text names x p = codes " reads " ++ (vertex_text names p ++ (codes " and " ++ (vertex_text (names_read names x x) p ++ codes "\n")))

-- there is no formula: `L reads X and X'`
abbrev pub witness_text : List (List ℕ) → Asked → Witness → List ℕ
witness_text names a w = read_twice_text names a (vertex_text names w.child ++ reads_text names a.question.x.bits w.treatment)

-- there is no formula: `district {M,Y} reads X and X'`
abbrev pub split_text : List (List ℕ) → Asked → Split → List ℕ
split_text names a s =
    read_twice_text names a (codes "district " ++ (set_text names s.district.bits ++ reads_text names a.question.x.bits s.treatment))
