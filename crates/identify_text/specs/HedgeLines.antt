-- The lines of a hedge: its sets, its choices and its links.
use Rattle.std.specs.Prelude.{ℕ, Bool, ◌&&◌, nat_lt, List, ◌++◌, slice_index, codes}
use Rattle.std.specs.List.{flat_map}
use Rattle.mixed_graph.specs.Vocabulary.{has, members_below}
use Rattle.answer_text.specs.Vocabulary.{set_text}
use Rattle.expr_text.specs.Vocabulary.{text_of}
use Rattle.hedge.specs.declared.hedge.Hedge.{Hedge}
use Rattle.identify_text.specs.Answers.{effect_term}
use Rattle.identify_text.specs.ModelLines.{vertex_text}

-- `P(Y|do(X)) is not identifiable`
abbrev pub unidentifiable_line : List (List ℕ) → (x y : ℕ) → List ℕ
unidentifiable_line names x y = text_of names (effect_term x y) ++ codes " is not identifiable\n"

-- `hedge {X,Y} over {Y} with roots {Y}`
abbrev pub sets_line : List (List ℕ) → Hedge → List ℕ
sets_line names h =
    codes "hedge " ++ (set_text names h.big.bits ++ (codes " over " ++ (set_text names h.small.bits
    ++ (codes " with roots " ++ (set_text names h.roots.bits ++ codes "\n")))))

-- the first two lines of a hedge
abbrev pub heading_text : List (List ℕ) → (x y : ℕ) → Hedge → List ℕ
heading_text names x y h = unidentifiable_line names x y ++ sets_line names h

-- whether v is a member of big that has a choice
abbrev pub chooses : Hedge → ℕ → Bool
chooses h v = has h.big.bits v && nat_lt (slice_index h.choice.next v) 64

-- `choice X -> Y`
abbrev pub choice_line : List (List ℕ) → Hedge → ℕ → List ℕ
choice_line names h v = codes "choice " ++ (vertex_text names v ++ (codes " -> " ++ (vertex_text names (slice_index h.choice.next v) ++ codes "\n")))

-- the line of each member of big that has a choice, in index order
abbrev pub choice_lines : List (List ℕ) → Hedge → List ℕ
choice_lines names h = flat_map (choice_line names h) (members_below (chooses h) 64)

-- `link X <-> Y`: entry i and its partner
abbrev pub link_line : List (List ℕ) → Hedge → ℕ → List ℕ
link_line names h i = codes "link " ++ (vertex_text names (slice_index h.links.found i)
    ++ (codes " <-> " ++ (vertex_text names (slice_index h.links.partner i) ++ codes "\n")))

-- the line of each entry after the first, in found order
abbrev pub link_lines : List (List ℕ) → Hedge → List ℕ
link_lines names h = flat_map (link_line names h) (members_below (nat_lt 0) h.links.count)
