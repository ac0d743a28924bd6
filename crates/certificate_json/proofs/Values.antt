-- What a reader of JSON sees of sets, steps and certificates.
use Rattle.std.specs.Prelude.{ℕ, List, [], ◌∷◌, codes, map, if◌then◌else◌}
use Rattle.mixed_graph.specs.Vocabulary.{has, members_below, is_empty, name_of}
use Rattle.prob_expr.specs.Tree.{Tree}
use Rattle.prob_expr.specs.Vocabulary.{PlainTarget}
use Rattle.do_derivation.specs.Plans.{Move, Plan, Plans, plan}
use Rattle.do_derivation.specs.Vocabulary.{no_plans, PlainLemma, PlainDerivation, set_word, bare_word}
use Rattle.expr_text.specs.Vocabulary.{text_of}
use Rattle.serde_json.specs.Data.{Data, number, string, array, object, unsigned, Items, no_items, item, Members, no_members, member}
use Rattle.certificate.specs.Vocabulary.{PlainHedge, PlainCertificate, formula, hedge}
use Rattle.certificate_json.specs.Certificates.{choices_from, version_of}

-- texts as items
abbrev pub strings : List (List ℕ) → Items
strings [] = no_items
strings (t ∷ ts) = item (string t) (strings ts)

-- numbers as items
abbrev pub numbers : List ℕ → Items
numbers [] = no_items
numbers (n ∷ ns) = item (number (unsigned n)) (numbers ns)

-- lists of numbers as items
abbrev pub groups : List (List ℕ) → Items
groups [] = no_items
groups (l ∷ ls) = item (array (numbers l)) (groups ls)

-- the names of vertices
abbrev pub names_value : List (List ℕ) → List ℕ → Data
names_value names vs = array (strings (map (name_of names) vs))

-- the names of a set, in index order
abbrev pub set_value : List (List ℕ) → ℕ → Data
set_value names set = names_value names (members_below (has set) 64)

-- a word and its arguments
abbrev pub said : List ℕ → Items → Data
said word rest = array (item (string word) rest)

-- the value of a move
abbrev pub move_value : List (List ℕ) → Move → Data
move_value names (Move.WithSet kind z) = said (set_word kind) (item (set_value names z) no_items)
move_value names (Move.Bare kind) = said (bare_word kind) no_items
move_value names (Move.Chain o) = said (codes "chain") (item (names_value names o) no_items)
move_value names (Move.Group l) = said (codes "group") (item (array (groups l)) no_items)
move_value names (Move.Cite k) = said (codes "cite") (item (number (unsigned k)) no_items)

abbrev mutual
  pub step_value : List (List ℕ) → Plan → Data
  step_value names (Plan.Make m) = move_value names m
  step_value names (Plan.At i p) = said (codes "at") (item (number (unsigned i)) (item (step_value names p) no_items))
  step_value names (Plan.Then ps) = said (codes "then") (item (array (step_values names ps)) no_items)

  pub step_values : List (List ℕ) → Plans → Items
  step_values names no_plans = no_items
  step_values names (plan p ps) = item (step_value names p) (step_values names ps)

-- ---- certificates

-- the texts of expressions
abbrev pub expr_items : List (List ℕ) → List Tree → Items
expr_items names [] = no_items
expr_items names (t ∷ ts) = item (string (text_of names t)) (expr_items names ts)

-- a lemma: its set and its step
abbrev pub lemma_value : List (List ℕ) → PlainLemma → Data
lemma_value names l = array (item (set_value names l.set) (item (step_value names l.plan) no_items))

-- lemmas
abbrev pub lemma_items : List (List ℕ) → List PlainLemma → Items
lemma_items names [] = no_items
lemma_items names (l ∷ ls) = item (lemma_value names l) (lemma_items names ls)

-- pairs of vertices
abbrev pub pair_items : List (List ℕ) → List (ℕ × ℕ) → Items
pair_items names [] = no_items
pair_items names (p ∷ ps) = item (names_value names (p.0 ∷ p.1 ∷ [])) (pair_items names ps)

-- the start alone, and then each found vertex with its partner
abbrev pub link_items : List (List ℕ) → List (ℕ × ℕ) → Items
link_items names [] = no_items
link_items names (l ∷ ls) = item (names_value names (l.0 ∷ [])) (pair_items names ls)

-- the members of every certificate from `version` on
abbrev pub target_members : List (List ℕ) → PlainTarget → Members
target_members names t =
    member (codes "version") (number (unsigned (version_of t.given))) (
    member (codes "x") (set_value names t.x) (
    member (codes "y") (set_value names t.y) no_members))

-- the members of a formula's certificate from `lemmas` on
abbrev pub derivation_members : List (List ℕ) → PlainTarget → PlainDerivation → Members
derivation_members names t d =
    member (codes "lemmas") (array (lemma_items names d.lemmas)) (
    member (codes "main") (step_value names d.main) (target_members names t))

-- the members of a formula's certificate from `given` on, which stands there where something is given
abbrev pub given_members : List (List ℕ) → PlainTarget → PlainDerivation → Members
given_members names t d =
    if is_empty t.given then derivation_members names t d
    else member (codes "given") (set_value names t.given) (derivation_members names t d)

-- the members of a hedge's certificate from `links` on
abbrev pub root_members : List (List ℕ) → PlainTarget → PlainHedge → Members
root_members names t h =
    member (codes "links") (array (link_items names h.links)) (
    member (codes "roots") (set_value names h.roots) (
    member (codes "small") (set_value names h.small) (target_members names t)))

-- the object of a certificate
abbrev pub certificate_value : List (List ℕ) → PlainCertificate → Data
certificate_value names (formula t f d) = object (
    member (codes "answer") (string (codes "formula")) (
    member (codes "defs") (array (expr_items names f.defs)) (
    member (codes "formula") (string (text_of names f.main)) (given_members names t d))))
certificate_value names (hedge t h) = object (
    member (codes "answer") (string (codes "hedge")) (
    member (codes "big") (set_value names h.big) (
    member (codes "choice") (array (pair_items names (choices_from 0 h.choice))) (root_members names t h))))
