-- A certificate as an object, its members sorted by key.
use Rattle.std.specs.Prelude.{ℕ, ◌+◌, ◌==◌, List, [], ◌∷◌, ◌++◌, if◌then◌else◌, codes, decimal, map}
use Rattle.json.specs.Json.{Json, string, number}
use Rattle.json.specs.Print.{print}
use Rattle.json.specs.Tree.{json_tokens}
use Rattle.mixed_graph.specs.Vocabulary.{is_empty}
use Rattle.prob_expr.specs.Tree.{Tree}
use Rattle.prob_expr.specs.Vocabulary.{PlainTarget, PlainFormula}
use Rattle.do_derivation.specs.Vocabulary.{PlainLemma, PlainDerivation}
use Rattle.expr_text.specs.Vocabulary.{text_of}
use Rattle.certificate.specs.Vocabulary.{PlainHedge, PlainCertificate, formula, hedge}
use Rattle.answer_json.specs.Vocabulary.{array_of, object_of, json_line, text_json, set_json, vertices_json, pair_json, pairs_json}
use Rattle.certificate_json.specs.Steps.{step_json}

-- the text of an expression
abbrev pub expr_json : List (List ℕ) → Tree → Json
expr_json names t = text_json (text_of names t)

-- a lemma: its set and its step
abbrev pub lemma_json : List (List ℕ) → PlainLemma → Json
lemma_json names l = array_of (set_json names l.set ∷ step_json names l.plan ∷ [])

-- what is given, where something is
abbrev pub given_members : List (List ℕ) → ℕ → List (List ℕ × Json)
given_members names given = if is_empty given then [] else (codes "given", set_json names given) ∷ []

-- the version: 1 where nothing is given, else 2
abbrev pub version_of : (given : ℕ) → ℕ
version_of given = if is_empty given then 1 else 2

-- the members of every certificate from `version` on
abbrev pub target_members : List (List ℕ) → PlainTarget → List (List ℕ × Json)
target_members names t = (codes "version", number (decimal (version_of t.given))) ∷ (codes "x", set_json names t.x) ∷ (codes "y", set_json names t.y) ∷ []

-- the vertices from v on that have a choice, each with its child
abbrev pub choices_from : (v : ℕ) → List ℕ → List (ℕ × ℕ)
choices_from v [] = []
choices_from v (child ∷ rest) = if child == 64 then choices_from (v + 1) rest else (v, child) ∷ choices_from (v + 1) rest

-- the start alone, and then each found vertex with its partner
abbrev pub link_values : List (List ℕ) → List (ℕ × ℕ) → List Json
link_values names [] = []
link_values names (l ∷ ls) = vertices_json names (l.0 ∷ []) ∷ map (pair_json names) ls

-- the members of a hedge
abbrev pub hedge_members : List (List ℕ) → PlainHedge → List (List ℕ × Json)
hedge_members names h =
    (codes "big", set_json names h.big)
    ∷ (codes "choice", pairs_json names (choices_from 0 h.choice))
    ∷ (codes "links", array_of (link_values names h.links))
    ∷ (codes "roots", set_json names h.roots)
    ∷ (codes "small", set_json names h.small) ∷ []

-- the members of a formula
abbrev pub formula_members : List (List ℕ) → PlainFormula → List (List ℕ × Json)
formula_members names f = (codes "defs", array_of (map (expr_json names) f.defs)) ∷ (codes "formula", expr_json names f.main) ∷ []

-- the members of a derivation
abbrev pub derivation_members : List (List ℕ) → PlainDerivation → List (List ℕ × Json)
derivation_members names d = (codes "lemmas", array_of (map (lemma_json names) d.lemmas)) ∷ (codes "main", step_json names d.main) ∷ []

-- the members of a certificate, sorted by key
abbrev pub certificate_members : List (List ℕ) → PlainCertificate → List (List ℕ × Json)
certificate_members names (formula t f d) = (codes "answer", string (codes "formula"))
    ∷ (formula_members names f ++ (given_members names t.given ++ (derivation_members names d ++ target_members names t)))
certificate_members names (hedge t h) = (codes "answer", string (codes "hedge")) ∷ (hedge_members names h ++ target_members names t)

-- a certificate
abbrev pub certificate_json : List (List ℕ) → PlainCertificate → Json
certificate_json names c = object_of (certificate_members names c)

-- its text: in compact form, with no line feed at the end
abbrev pub certificate_text : List (List ℕ) → PlainCertificate → List ℕ
certificate_text names c = print (json_tokens (certificate_json names c))

-- it on a line of its own
abbrev pub certificate_line : List (List ℕ) → PlainCertificate → List ℕ
certificate_line names c = json_line (certificate_json names c)
