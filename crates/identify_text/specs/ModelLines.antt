-- The lines of a model whose vertices are parities: its causes, and the bits of its vertices.
use Rattle.std.specs.Prelude.{ℕ, ◌+◌, if◌then◌else◌, List, [], ◌∷◌, ◌++◌, Option, Some, None, map, codes, decimal}
use Rattle.std.specs.List.{flat_map, join_by}
use Rattle.mixed_graph.specs.Vocabulary.{has, members_below, name_of}
use Rattle.answer_text.specs.Vocabulary.{printed, set_text}
use Rattle.finite_models.specs.declared.model.Cause.{Cause}
use Rattle.finite_models.specs.declared.model.Part.{Part}
use Rattle.finite_models.specs.declared.model.Mechanism.{Mechanism}
use Rattle.finite_models.specs.declared.model.Mechanism.TheVariants.{Table, Parity}
use Rattle.identify_text.specs.declared.bits.Bit.{Bit}
use Rattle.identify_text.specs.declared.bits.Bit.TheVariants.{Hedge, Carried}

-- ---- causes

-- each weight behind a space
abbrev pub weights_text : List ℕ → List ℕ
weights_text weights = flat_map (λ w. codes " " ++ decimal w) weights

-- `cause 0 on {X,Y} with weights 1 1`
abbrev pub cause_line : List (List ℕ) → ℕ → Cause → List ℕ
cause_line names j c =
    codes "cause " ++ (decimal j ++ (codes " on " ++ (set_text names c.children.bits
    ++ (codes " with weights" ++ (weights_text c.weights.items ++ codes "\n")))))

-- the lines of the causes from number j on
abbrev pub cause_lines : List (List ℕ) → ℕ → List Cause → List ℕ
cause_lines names j [] = []
cause_lines names j (c ∷ cs) = cause_line names j c ++ cause_lines names (j + 1) cs

-- ---- bits

-- `h` for hedge bits, `k` for carried bits
abbrev pub letter : Bit → List ℕ
letter Hedge = codes "h"
letter Carried = codes "k"

-- the name of a vertex as it is printed
abbrev pub vertex_text : List (List ℕ) → ℕ → List ℕ
vertex_text names v = printed (name_of names v)

-- a bit of vertex v, as `h(X)`
abbrev pub bit_text : List (List ℕ) → Bit → ℕ → List ℕ
bit_text names bit v = letter bit ++ (codes "(" ++ (vertex_text names v ++ codes ")"))

-- that bit of each member of the set, in index order
abbrev pub bits_of : List (List ℕ) → Bit → ℕ → List (List ℕ)
bits_of names bit set = map (bit_text names bit) (members_below (has set) 64)

-- a cause as a term, as `c0`
abbrev pub cause_text : ℕ → List ℕ
cause_text j = codes "c" ++ decimal j

-- what a bit of vertex v is the parity of: v's own hedge bit, hedge bits, carried bits, and causes
abbrev pub terms_of : List (List ℕ) → ℕ → Part → List (List ℕ)
terms_of names v p = (if p.own_hedge then bit_text names Hedge v ∷ [] else [])
    ++ (bits_of names Hedge p.hedge_of.bits ++ (bits_of names Carried p.carried_of.bits ++ map cause_text p.causes.items))

-- each term behind ` + `
abbrev pub added : List (List ℕ) → List ℕ
added terms = flat_map (λ t. codes " + " ++ t) terms

-- terms with ` + ` between them; nothing where there is none
abbrev pub sum_text : List (List ℕ) → List ℕ
sum_text terms = join_by (λ t. t) (codes " + ") terms

-- ---- vertices

-- the line of a bit of vertex v, as `first h(Y) = h(X) + c0`; nothing where v has no such bit
abbrev pub part_line : List (List ℕ) → (model : List ℕ) → Bit → ℕ → Option Part → List ℕ
part_line names model bit v None = []
part_line names model bit v (Some p) = model ++ (codes " " ++ (bit_text names bit v ++ (codes " = " ++ (sum_text (terms_of names v p) ++ codes "\n"))))

-- the lines of vertex v: its hedge bit's, and then its carried bit's
abbrev pub mechanism_lines : List (List ℕ) → (model : List ℕ) → ℕ → Mechanism → List ℕ
mechanism_lines names model v (Table outputs) = []
mechanism_lines names model v (Parity h k) = part_line names model Hedge v h ++ part_line names model Carried v k

-- the lines of the vertices from v on
abbrev pub vertex_lines : List (List ℕ) → (model : List ℕ) → ℕ → List Mechanism → List ℕ
vertex_lines names model v [] = []
vertex_lines names model v (m ∷ ms) = mechanism_lines names model v m ++ vertex_lines names model (v + 1) ms
