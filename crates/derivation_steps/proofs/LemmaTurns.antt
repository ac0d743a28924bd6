-- Lemmas in turn.
use Rattle.std.proofs.Common.{ℕ, ◌+◌, ◌≡◌, ◌<◌, sym, ap, ◌∙◌, subst, refl, List, [], ◌∷◌, ◌++◌, map, length, get_or, drop, Some}
use Rattle.std.proofs.Common.{append_assoc, append-nil}
use Rattle.std.proofs.lemmas.List.{at_drop_more}
use Rattle.mixed_graph.specs.Vocabulary.{MixedGraph}
use Rattle.prob_expr.specs.Tree.{Tree}
use Rattle.do_derivation.specs.declared.steps.Lemma.{Lemma}
use Rattle.do_derivation.specs.Vocabulary.{sets_of, start_of, Define, PlainLemma, Makes, lemma_view}
use Rattle.derivation_steps.specs.Parts.{IsPart, AreLemmaParts}
use Rattle.derivation_steps.specs.declared.parts.Part.{Part}

module _ (g : MixedGraph) where
  -- the parts that are done are those of the lemmas before number k, and those from k on make the definitions that are left
  pub record IsLeft (before : List ℕ) (k : ℕ) (left : List PlainLemma) (done : List Part) (all : List PlainLemma) : Type 0 where
    pub known : before ++ sets_of left ≡ sets_of all
    pub parts : (ds : List Tree) → Define g [] all ds → (es : List Tree) × Define g before left es
        × ((more : List Part) → AreLemmaParts g before k left es more → AreLemmaParts g [] 0 all ds (done ++ more))

  pub left_all : (all : List PlainLemma) → IsLeft [] 0 all [] all
  left_all all = record { known = refl; parts = λ ds h. (ds, h, λ more p. p) }

  pub lemmas_more : (ls : List Lemma) (k : ℕ) (l : Lemma) → k < length ls → l ≡ get_or ls k l
      → map lemma_view (drop k ls) ≡ lemma_view l ∷ map lemma_view (drop (k + 1) ls)
  lemmas_more ls k l lt is = at_drop_more (λ xs. map lemma_view xs) ls k l lt ∙ ap (λ x. lemma_view x ∷ map lemma_view (drop (k + 1) ls)) (sym is)

  -- a definition is left for a lemma that is left
  defined : (before : List ℕ) (l : PlainLemma) (rest : List PlainLemma) (es : List Tree) → Define g before (l ∷ rest) es
      → (d : Tree) × (fs : List Tree) × (es ≡ d ∷ fs) × Makes g before l.plan (start_of g.vertices l.set) d × Define g (before ++ (l.set ∷ [])) rest fs
  defined before l rest [] h = absurd h
  defined before l rest (d ∷ fs) h = (d, fs, refl, h.0, h.1)

  pub next_made : (before : List ℕ) (k : ℕ) (left rest : List PlainLemma) (l : PlainLemma) (done : List Part) (all : List PlainLemma)
      → left ≡ l ∷ rest → (ds : List Tree) × Define g [] all ds → IsLeft before k left done all
      → (x : Tree) × Makes g before l.plan (start_of g.vertices l.set) x
  next_made before k left rest l done all cut can is =
      let a = is.parts can.0 can.1 in
      let d = defined before l rest a.0 (subst (λ z. Define g before z a.0) cut a.1) in (d.0, d.3)

  pub left_more : (before after : List ℕ) (k : ℕ) (left rest : List PlainLemma) (l : PlainLemma) (done : List Part) (all : List PlainLemma) (p : Part)
      → left ≡ l ∷ rest → after ≡ before ++ (l.set ∷ [])
      → ((x : Tree) → Makes g before l.plan (start_of g.vertices l.set) x → IsPart g before (Some k) l.plan (start_of g.vertices l.set) x p)
      → IsLeft before k left done all → IsLeft after (k + 1) rest (done ++ (p ∷ [])) all
  left_more before after k left rest l done all p cut more part is = record {
    known = ap (λ b. b ++ sets_of rest) more ∙ append_assoc before (l.set ∷ []) (sets_of rest) ∙ ap (λ z. before ++ sets_of z) (sym cut) ∙ is.known;
    parts = λ ds h.
        let a = is.parts ds h in
        let d = defined before l rest a.0 (subst (λ z. Define g before z a.0) cut a.1) in (
          d.1,
          subst (λ b. Define g b rest d.1) (sym more) d.4,
          λ ps are. subst (AreLemmaParts g [] 0 all ds) (sym (append_assoc done (p ∷ []) ps))
              (a.2 (p ∷ ps) (subst (λ z. AreLemmaParts g before k z a.0 (p ∷ ps)) (sym cut)
              (subst (λ es. AreLemmaParts g before k (l ∷ rest) es (p ∷ ps)) (sym d.2)
              (part d.0 d.3, subst (λ b. AreLemmaParts g b (k + 1) rest d.1 ps) more are)))),
        );
  }

  -- no lemma is left
  none_needed : (before : List ℕ) (k : ℕ) (es : List Tree) → Define g before [] es → AreLemmaParts g before k [] es []
  none_needed before k [] h = tt
  none_needed before k (e ∷ es) h = h

  pub none_left : (before : List ℕ) (k : ℕ) (left : List PlainLemma) (done : List Part) (all : List PlainLemma) → left ≡ [] → IsLeft before k left done all
      → (before ≡ sets_of all) × ((ds : List Tree) → Define g [] all ds → AreLemmaParts g [] 0 all ds done)
  none_left before k left done all none is = (
    sym (append-nil before) ∙ ap (λ z. before ++ sets_of z) (sym none) ∙ is.known,
    λ ds h. let a = is.parts ds h in subst (AreLemmaParts g [] 0 all ds) (append-nil done)
        (a.2 [] (subst (λ z. AreLemmaParts g before k z a.0 []) (sym none) (none_needed before k a.0 (subst (λ z. Define g before z a.0) none a.1)))),
  )
