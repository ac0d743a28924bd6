use Rattle.std.proofs.Common.{◌≡◌, ◌∙◌, ◌<◌, arith, sym, ap, true, false, List, ℕ, [], length, get_or}
use Rattle.std.specs.Str.{bytes_eq}
use Rattle.std.proofs.lemmas.List.{length-map}
use Rattle.std.proofs.lemmas.List.Folds.{list_any_at}
use Rattle.mixed_graph.specs.Vocabulary.{texts}
use Rattle.count_rows.proofs.HeaderSteps.{found_at, not_at}
use Rattle.count_rows.proofs.LevelLists.{text_at}
use Rattle.count_rows.proofs.levels.first_number.Goals as goal

pub loop-k-preserved : goal.loop-k-preserved
loop-k-preserved c =
    let ks = c.args.levels.now in
    let few : length (texts ks) ≡ length ks = simp length-map in
    let below : c.loop-k.k < length ks = omega (arith) in
    let here : get_or (texts ks) c.loop-k.k [] ≡ c.as_slice.result.now = text_at ks c.loop-k.k c.index-levels-k.result below c.index-levels-k.is
    ∙ sym c.as_slice.ensures.value in
    let differs : bytes_eq c.args.level.now (get_or (texts ks) c.loop-k.k []) ≡ false =
    ap (λ (f : List ℕ). bytes_eq c.args.level.now f) here ∙ sym c.eq.ensures ∙ c.if-eq.false in
    c.loop-k.invariant ∙ not_at (bytes_eq c.args.level.now) (texts ks) c.loop-k.k (omega (arith, few, below)) differs

pub returns-then-eq : goal.returns-then-eq
returns-then-eq c =
    let ks = c.args.levels.now in
    let few : length (texts ks) ≡ length ks = simp length-map in
    let below : c.loop-k.k < length ks = omega (arith) in
    let here : get_or (texts ks) c.loop-k.k [] ≡ c.as_slice.result.now = text_at ks c.loop-k.k c.index-levels-k.result below c.index-levels-k.is
    ∙ sym c.as_slice.ensures.value in
    let same : bytes_eq c.args.level.now (get_or (texts ks) c.loop-k.k []) ≡ true =
    ap (λ (f : List ℕ). bytes_eq c.args.level.now f) here ∙ sym c.eq.ensures ∙ c.if-eq.true in
    let found = found_at (bytes_eq c.args.level.now) (texts ks) c.loop-k.k (omega (arith, few, below)) same in
    record {
      number = omega (arith, found, c.loop-k.invariant);
      within = omega (arith, few, below);
      there = list_any_at (bytes_eq c.args.level.now) (texts ks) c.loop-k.k [] (omega (arith, few, below)) same;
    }
