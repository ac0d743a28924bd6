-- Right answers of a graph end alike, and so do those over counts; where the graph alone is answered, there is no pair.
use Rattle.std.proofs.Common.{◌≡◌, ◌<◌, ℕ, List, [], ◌∷◌, length, Option, Some, None, Result, Ok, Err, refl, sym, ◌∙◌, subst, arith}
use Rattle.std.specs.Prelude.{All}
use Rattle.std.proofs.lemmas.Option.{none-some}
use Rattle.mixed_graph.specs.Vocabulary.{has, MixedGraph, graph_of}
use Rattle.implications.specs.declared.pairs.Implication.{Implication}
use Rattle.implications.specs.Vocabulary.{IsSeparable, IsImplication}
use Rattle.dag_reader.specs.declared.graph.ReadGraph.{ReadGraph}
use Rattle.targets.specs.declared.fault.TargetFault.{TargetFault}
use Rattle.diagram.specs.declared.diagram.Diagram.{Diagram}
use Rattle.diagram.proofs.OneDiagram.{AreSameDiagrams, same_drawing}
use Rattle.command_words.specs.Vocabulary.{Text}
use Rattle.count_rows.specs.Vocabulary.{Field, Table}
use Rattle.count_table.specs.Vocabulary.{text_fault}
use Rattle.count_answers.specs.Vocabulary.{HoldsCounts}
use Rattle.told.specs.Vocabulary.{target_refusal, outcome_in}
use Rattle.implications_command.specs.CountsFaults.{counts_refusal}
use Rattle.implications_command.specs.Pairs.{ArePairs, pairs_of, pairs_in}
use Rattle.implications_command.specs.Right.{HasNoPairs, Lists, IsForGraph, IsCountsFault, IsForCounts}
use Rattle.implications_command.specs.Telling.{implications_telling}
use Rattle.implications_command.specs.Used.{used_in}
use Rattle.implications_command.specs.declared.answer.Answer.{Answer}
use Rattle.implications_command.specs.declared.answer.Answer.TheVariants.{NoPairs, Pairs, Differences}
use Rattle.implications_command.specs.declared.fault.CountsFault.{CountsFault}
use Rattle.implications_command.specs.declared.fault.CountsFault.TheVariants.{TooLong, Faulty, NoMemory}
use Rattle.implications_command.proofs.OneList.{one_used}

-- ---- before the counts

-- the first pair of a list is separable
some_pair : (q : MixedGraph) (list : List Implication) → 0 < length list → All (IsImplication q) list → ((a b : ℕ) → IsSeparable q a b → ⊥) → ⊥
some_pair q [] some each none = absurd (omega arith)
some_pair q (i ∷ is) some each none =
    let imp = each 0 i (omega arith) in none i.a i.b (record {
      order = imp.order;
      vertex = imp.vertex;
      set = has i.given.bits;
      separating = imp.given.separating;
    })

none_or_pairs : (q : MixedGraph) (names : List (List ℕ)) (list : List Implication) → HasNoPairs q → ArePairs (pairs_of q names list) → ⊥
none_or_pairs q names list a b = some_pair q list b.some b.implications.each a.none

-- the pairs of diagrams that are the same
same_pairs : (d e : Diagram) → AreSameDiagrams d e → (list : List Implication) → pairs_in e.observed list ≡ pairs_in d.observed list
same_pairs d e s list = λ i. pairs_of (sym (same_drawing d e s) i) (s.observed.names i) list

none_or_listed : (d e : Diagram) → AreSameDiagrams d e → (list : List Implication) → HasNoPairs (graph_of d.observed.graph) → ArePairs (pairs_in e.observed list) → ⊥
none_or_listed d e s list a b = none_or_pairs (graph_of d.observed.graph) d.observed.names list a (subst ArePairs (same_pairs d e s list) b)

-- where the graph alone is answered, there is no pair
first_alone : (d e : Diagram) → AreSameDiagrams d e → (counts : Text) (a : Result Answer TargetFault) (list : List Implication)
    → IsForGraph (Some counts) d.observed a → ArePairs (pairs_in e.observed list) → ⊥
first_alone d e s counts (Ok NoPairs) list a b = none_or_listed d e s list a b
first_alone d e s counts (Ok (Pairs listed)) list a b = a
first_alone d e s counts (Ok (Differences t measured)) list a b = a
first_alone d e s counts (Err fault) list a b = a

pub named_alone : (d e : Diagram) → AreSameDiagrams d e → (counts : Option Text) (name : Text) → counts ≡ Some name → (a : Result Answer TargetFault)
    (list : List Implication) → IsForGraph counts d.observed a → ArePairs (pairs_in e.observed list) → ⊥
named_alone d e s counts name named a list x = first_alone d e s name a list (subst (λ (c : Option Text). IsForGraph c d.observed a) named x)

listed_alike : (d e : Diagram) → AreSameDiagrams d e → AreSameDiagrams e d → (a b : Answer) → Lists d.observed a → Lists e.observed b
    → implications_telling.outcome a ≡ implications_telling.outcome b
listed_alike d e s back NoPairs NoPairs x y = refl
listed_alike d e s back NoPairs (Pairs list) x y = absurd (none_or_listed d e s list.items x y)
listed_alike d e s back (Pairs list) NoPairs x y = absurd (none_or_listed e d back list.items y x)
listed_alike d e s back (Pairs list) (Pairs other) x y = refl
listed_alike d e s back (Differences t measured) b x y = absurd x
listed_alike d e s back a (Differences t measured) x y = absurd y

none_alike : (a b : Answer) (g h : ReadGraph) (counts : Text) → IsForGraph (Some counts) g (Ok a) → IsForGraph (Some counts) h (Ok b)
    → implications_telling.outcome a ≡ implications_telling.outcome b
none_alike NoPairs NoPairs g h counts x y = refl
none_alike (Pairs list) b g h counts x y = absurd x
none_alike (Differences t measured) b g h counts x y = absurd x
none_alike a (Pairs list) g h counts x y = absurd y
none_alike a (Differences t measured) g h counts x y = absurd y

pub first_alike : (counts : Option Text) (d e : Diagram) → AreSameDiagrams d e → AreSameDiagrams e d → (a b : Result Answer TargetFault)
    → IsForGraph counts d.observed a → IsForGraph counts e.observed b
    → outcome_in implications_telling target_refusal a ≡ outcome_in implications_telling target_refusal b
first_alike None d e s back (Ok a) (Ok b) x y = listed_alike d e s back a b x y
first_alike (Some counts) d e s back (Ok a) (Ok b) x y = none_alike a b d.observed e.observed counts x y
first_alike None d e s back (Err fault) b x y = absurd x
first_alike (Some counts) d e s back (Err fault) b x y = absurd x
first_alike None d e s back a (Err fault) x y = absurd y
first_alike (Some counts) d e s back a (Err fault) x y = absurd y

-- ---- over the bytes of counts

-- bytes that hold a table are no fault
read_or_refused : (q : MixedGraph) (names : List (List ℕ)) (list others : List Implication) → ArePairs (pairs_of q names list)
    → ArePairs (pairs_of q names others) → (count : Option Field) (bytes : List ℕ) (t : Table) → HoldsCounts names (used_in list) count bytes t
    → (fault : CountsFault) → IsCountsFault (pairs_of q names others) count bytes fault → ⊥
read_or_refused q names list others a b count bytes t h TooLong long = absurd (let small = h.small in omega (arith, small, long))
read_or_refused q names list others a b count bytes t h (Faulty fault) f = none-some fault (sym h.fits
    ∙ subst (λ (used : ℕ). text_fault bytes names used count ≡ Some fault) (one_used q list others a.implications b.implications) f.found)
read_or_refused q names list others a b count bytes t h NoMemory f = f

module _ (d e : Diagram) (s : AreSameDiagrams d e) (list others : List Implication) (a : ArePairs (pairs_in d.observed list))
    (b : ArePairs (pairs_in e.observed others)) (count : Option Field) (bytes : List ℕ) where
  answered_or_refused : (x : Answer) (fault : CountsFault) → IsForCounts (pairs_in d.observed list) count bytes (Ok x)
      → IsForCounts (pairs_in e.observed others) count bytes (Err fault) → ⊥
  answered_or_refused (Differences t measured) fault x y =
      let same = same_pairs d e s others in
      read_or_refused (graph_of d.observed.graph) d.observed.names list others a (subst ArePairs same b) count bytes t x.0 fault
      (subst (λ p. IsCountsFault p count bytes fault) same y)
  answered_or_refused NoPairs fault x y = x
  answered_or_refused (Pairs listed) fault x y = x

measured_alike : (d e : Diagram) (list others : List Implication) (count : Option Field) (bytes : List ℕ) (x y : Answer)
    → IsForCounts (pairs_in d.observed list) count bytes (Ok x) → IsForCounts (pairs_in e.observed others) count bytes (Ok y)
    → implications_telling.outcome x ≡ implications_telling.outcome y
measured_alike d e list others count bytes (Differences t measured) (Differences u other) x y = refl
measured_alike d e list others count bytes NoPairs b x y = absurd x
measured_alike d e list others count bytes (Pairs listed) b x y = absurd x
measured_alike d e list others count bytes a NoPairs x y = absurd y
measured_alike d e list others count bytes a (Pairs listed) x y = absurd y

pub counts_alike : (d e : Diagram) → AreSameDiagrams d e → AreSameDiagrams e d → (list others : List Implication) → ArePairs (pairs_in d.observed list)
    → ArePairs (pairs_in e.observed others) → (count : Option Field) (bytes : List ℕ) (x y : Result Answer CountsFault)
    → IsForCounts (pairs_in d.observed list) count bytes x → IsForCounts (pairs_in e.observed others) count bytes y
    → outcome_in implications_telling counts_refusal x ≡ outcome_in implications_telling counts_refusal y
counts_alike d e s back list others a b count bytes (Ok x) (Ok y) f g = measured_alike d e list others count bytes x y f g
counts_alike d e s back list others a b count bytes (Ok x) (Err fault) f g = absurd (answered_or_refused d e s list others a b count bytes x fault f g)
counts_alike d e s back list others a b count bytes (Err fault) (Ok y) f g = absurd (answered_or_refused e d back others list b a count bytes y fault g f)
counts_alike d e s back list others a b count bytes (Err fault) (Err other) f g = refl
