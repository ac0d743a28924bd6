-- What is told of a survey.
use Rattle.std.specs.Prelude.{ℕ, List, [], ◌∷◌, ◌++◌, codes, decimal}
use Rattle.json.specs.Json.{Json, string}
use Rattle.replies.specs.declared.outcome.Outcome.TheVariants.{Yes}
use Rattle.told.specs.Telling.{Telling}
use Rattle.survey_command.specs.Objects.{graph_members, tally_members}
use Rattle.survey_command.specs.declared.answer.Survey.{Survey}

-- the five lines: how many vertices, arrows and bidirected edges there are, and how many effects with a formula, and with a hedge
abbrev pub survey_text : Survey → List ℕ
survey_text a = codes "vertices " ++ (decimal a.vertices ++ (codes "\ndirected " ++ (decimal a.directed
    ++ (codes "\nbidirected " ++ (decimal a.bidirected ++ (codes "\nformulas " ++ (decimal a.tally.formulas
    ++ (codes "\nhedges " ++ (decimal a.tally.hedges ++ 10 ∷ [])))))))))

-- the seed as a text, since it may be more than a number of 53 bits, and these numbers
abbrev pub survey_members : Survey → List (List ℕ × Json)
survey_members a = (codes "answer", string (codes "survey")) ∷ (codes "seed", string (decimal a.seed))
    ∷ (graph_members a.vertices a.directed a.bidirected ++ tally_members a.tally.formulas a.tally.hedges)

-- it is always a yes
abbrev pub survey_telling : Telling Survey
survey_telling = record { outcome = λ a. Yes; text = λ w names. survey_text; members = λ w names. survey_members }
