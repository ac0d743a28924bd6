use Rattle.std.proofs.Common.{ℕ, ◌≡◌, ◌<◌, ◌+◌, ◌∙◌, true, List, [], ◌∷◌, ◌++◌, Some, length, map, drop, ap, sym, subst, rules}
use Rattle.std.proofs.Math.ListN.{drop_of_length-le}
use Rattle.std.proofs.lemmas.List.{map-append}
use Rattle.mixed_graph.specs.declared.sets.VSet.{VSet}
use Rattle.mixed_graph.specs.Vocabulary.{graph_of}
use Rattle.prob_expr.specs.Vocabulary.{masks_of, are_terms}
use Rattle.prob_expr.specs.Tree.{Tree}
use Rattle.do_derivation.specs.Vocabulary.{start_of, Makes, step_view, lemma_view}
use Rattle.do_derivation.proofs.Defining.{start_is_term}
use Rattle.derivation_steps.specs.Parts.{IsPart}
use Rattle.derivation_steps.specs.declared.parts.Part.{Part}
use Rattle.derivation_steps.proofs.LemmaTurns.{IsLeft, left_all, lemmas_more, left_more, none_left}
use Rattle.derivation_steps.proofs.parts.lemma_parts.Goals as goal

pub loop-k-init : goal.loop-k-init
loop-k-init c =
    let g = graph_of c.args.g.now in
    let all = map lemma_view c.args.lemmas.now.items in
    subst (λ (sets : List VSet). IsLeft g (masks_of sets) 0 all c.new-parts.result.items all) (sym c.new-sets.ensures.items)
    (subst (λ (parts : List Part). IsLeft g [] 0 all parts all) (sym c.new-parts.ensures.items) (left_all g all))

pub part_of-requires-clause-terms : goal.part_of-requires-clause-terms
part_of-requires-clause-terms c =
    subst (λ (e : Tree). are_terms c.args.g.now.n e ≡ true) (sym c.start_of-start.ensures)
    (start_is_term c.args.g.now.n c.args.lemmas.now.items c.loop-k.k c.index-lemma.result.now c.requires.sets (search rules) c.index-lemma.ensures)

pub loop-k-preserved : goal.loop-k-preserved
loop-k-preserved c =
    let g = graph_of c.args.g.now in
    let ls = c.args.lemmas.now.items in
    let k = c.loop-k.k in
    let l = c.index-lemma.result.now in
    let p = c.in_ok-made.made in
    let plan = step_view l.step in
    let start = start_of c.args.g.now.n l.set.bits in
    let before = masks_of c.loop-k.sets.items in
    let after = masks_of c.push-in-loop-k.new.self.items in
    let rest = map lemma_view (drop (k + 1) ls) in
    let lt : k < length ls = search rules in
    let pushed : c.push-in-loop-k.new.self.items ≡ c.loop-k.sets.items ++ (l.set ∷ []) = search rules in
    let grown : c.push.new.self.items ≡ c.loop-k.parts.items ++ (p ∷ []) = search rules in
    let part : (x : Tree) → Makes g before plan start x → IsPart g before (Some k) plan start x p =
    subst (λ (b : List ℕ). (x : Tree) → Makes g b plan start x → IsPart g b (Some k) plan start x p) (ap masks_of c.deref.ensures.value)
    (subst (λ (e : Tree). (x : Tree) → Makes g (masks_of c.deref.result.now) plan e x → IsPart g (masks_of c.deref.result.now) (Some k) plan e x p)
    c.start_of-start.ensures c.in_ok-made.ensures) in
    subst (λ (parts : List Part). IsLeft g after (k + 1) rest parts (map lemma_view ls)) (sym grown)
    (left_more g before after k (map lemma_view (drop k ls)) rest (lemma_view l) c.loop-k.parts.items (map lemma_view ls) p
    (lemmas_more g ls k l lt c.index-lemma.ensures) (ap masks_of pushed ∙ map-append (λ s. s.bits) c.loop-k.sets.items (l.set ∷ [])) part c.loop-k.invariant)

pub returns-clause-parts : goal.returns-clause-parts
returns-clause-parts c =
    let ls = c.args.lemmas.now.items in
    (none_left (graph_of c.args.g.now) (masks_of c.loop-k.sets.items) c.loop-k.k (map lemma_view (drop c.loop-k.k ls)) c.loop-k.parts.items
    (map lemma_view ls) (ap (map lemma_view) (drop_of_length-le ls {i = c.loop-k.k} (search rules))) c.loop-k.invariant).1
