-- The loop over the vertices.
use Rattle.std.proofs.Common.{◌≡◌, ◌<◌, ◌∙◌, ◌++◌, ◌∷◌, [], ◌&&◌, ℕ, Bool, true, not, nat_lt, List, map, All, sym, ap, subst, arith, ◌==◌, append_assoc, append-nil}
use mathlib.Core.Path.{fun_ext}
use Rattle.std.proofs.lemmas.List.{map-append}
use Rattle.std.proofs.lemmas.List.Elements.{All-push}
use Rattle.mixed_graph.specs.Vocabulary.{members_below, MixedGraph}
use Rattle.mixed_graph.proofs.MemberLists.{AreMembers, members-are}
use Rattle.minimal_sets.specs.Vocabulary.{IsListingOf}
use Rattle.instrument_sets.specs.declared.instruments.Candidate.{Candidate}
use Rattle.instrument_sets.specs.Instruments.{AreCandidates}
use Rattle.instrument_sets.specs.Strata.{AreMinimalStrata}

-- the listing of a vertex
abbrev pub IsListed : MixedGraph → (x y : ℕ → Bool) → ℕ → Candidate → Type 0
IsListed g x y most c = IsListingOf (AreMinimalStrata g x y (λ v. v == c.vertex)) most c.strata.sets.items c.strata.more

-- outside both sets
abbrev pub outside : MixedGraph → (x y : ℕ → Bool) → ℕ → Bool
outside g x y v = (nat_lt v g.vertices && not (x v)) && not (y v)

-- the vertices listed and those left are the others, and each listed one has its listing
pub record IsOnTheWay (g : MixedGraph) (x y : ℕ → Bool) (most : ℕ) (left : List ℕ) (list : List Candidate) : Type 0 where
  pub whole : map (λ c. c.vertex) list ++ left ≡ members_below (outside g x y) 64
  pub are : AreMembers (outside g x y) 64 left
  pub strata : All (IsListed g x y most) list

module _ (g : MixedGraph) (x y : ℕ → Bool) (most : ℕ) where
  pub on_the_way_first : (others : ℕ → Bool) → ((v : ℕ) → others v ≡ outside g x y v) → (left : List ℕ) (list : List Candidate)
      → left ≡ members_below others 64 → list ≡ [] → IsOnTheWay g x y most left list
  on_the_way_first others is left list e f =
      let all = e ∙ ap (λ (s : ℕ → Bool). members_below s 64) (fun_ext is) in record {
        whole = ap (λ (l : List Candidate). map (λ c. c.vertex) l ++ left) f ∙ all;
        are = subst (AreMembers (outside g x y) 64) (sym all) (members-are (outside g x y) 64);
        strata = subst (λ (l : List Candidate). All (IsListed g x y most) l) (sym f) (λ k d lt. absurd (omega (arith, lt)));
      }

  pub next_member : (left : List ℕ) (list : List Candidate) (v : ℕ) (rest : List ℕ) → IsOnTheWay g x y most left list → left ≡ v ∷ rest
      → (v < 64) × (outside g x y v ≡ true)
  next_member left list v rest way e = let are = subst (AreMembers (outside g x y) 64) e way.are in (are.0, are.1)

  pub on_the_way_next : (left : List ℕ) (list new : List Candidate) (v : ℕ) (rest : List ℕ) (c : Candidate) → IsOnTheWay g x y most left list
      → left ≡ v ∷ rest → c.vertex ≡ v → IsListed g x y most c → new ≡ list ++ c ∷ [] → IsOnTheWay g x y most rest new
  on_the_way_next left list new v rest c way e same listed f = record {
    whole = ap (λ (l : List Candidate). map (λ c. c.vertex) l ++ rest) f ∙ ap (λ (l : List ℕ). l ++ rest) (map-append (λ c. c.vertex) list (c ∷ []))
        ∙ append_assoc (map (λ c. c.vertex) list) (c.vertex ∷ []) rest ∙ ap (λ k. map (λ c. c.vertex) list ++ k ∷ rest) same
        ∙ ap (λ (l : List ℕ). map (λ c. c.vertex) list ++ l) (sym e) ∙ way.whole;
    are = (subst (AreMembers (outside g x y) 64) e way.are).3;
    strata = subst (λ (l : List Candidate). All (IsListed g x y most) l) (sym f) (All-push (IsListed g x y most) list c way.strata listed);
  }

  pub all_candidates : (left : List ℕ) (list : List Candidate) → IsOnTheWay g x y most left list → left ≡ [] → AreCandidates g x y most list
  all_candidates left list way e = record {
    vertices = sym (append-nil (map (λ c. c.vertex) list)) ∙ ap (λ (l : List ℕ). map (λ c. c.vertex) list ++ l) (sym e) ∙ way.whole;
    strata = way.strata;
  }
