use Rattle.std.proofs.Common.{◌≡◌, ◌+◌, [], ◌∷◌, length, map, option_map, sym, ap, subst, ◌∙◌, arith, rules, length-append}
use Rattle.std.proofs.lemmas.List.{length-map}
use Rattle.command_words.specs.Vocabulary.{names_in}
use Rattle.experiment_lists.specs.Words.{AreJoinedBySemicolons}
use Rattle.experiment_lists.specs.Parts.{IsCut}
use Rattle.experiment_lists.specs.Views.{lists_in}
use Rattle.experiment_lists.proofs.Joining.{reading_none, reading_more, reading_last, reading_stops, reading_full, reading_only, lists_pushed, IsReading}
use Rattle.experiment_lists.proofs.words.read_experiments.Goals as goal

pub loop-init : goal.loop-init
loop-init c =
    let text = c.args.text.now in (
      c.utf8.text,
      ap length c.new-experiments.ensures.items,
      subst (λ l. IsReading text l text) (sym (ap (map names_in) c.new-experiments.ensures.items))
          (reading_none text),
    )

pub returns-in_default-clause-none : goal.returns-in_default-clause-none
returns-in_default-clause-none c =
    let none = rw c.in_default.is at c.in_ok-names.ensures.none in
    reading_stops c.args.text.now (lists_in c.loop.experiments) c.loop.left.now c.first_part.result.part.now _ c.first_part.ensures none c.loop.invariant.2

pub returns-in-None-clause-some : goal.returns-in-None-clause-some
returns-in-None-clause-some c =
    let is = rw c.in-Some.is at c.in_ok-names.ensures.some in
    let cut = subst (λ o. IsCut c.loop.left.now c.first_part.result.part.now (option_map (λ s. s.now) o)) c.in-None.is c.first_part.ensures in
    let pushed = lists_pushed c.push.new.self.items c.loop.experiments.items c.in-Some.names c.in_ok-push.ensures.items in
    let count = c.loop.invariant.1 in let below = c.loop-test.true in
    let longer = ap length c.in_ok-push.ensures.items ∙ length-append c.loop.experiments.items (c.in-Some.names ∷ []) in
    record {
      joined = subst (AreJoinedBySemicolons c.args.text.now) (sym pushed)
          (reading_last c.args.text.now (lists_in c.loop.experiments) c.loop.left.now c.first_part.result.part.now (names_in c.in-Some.names)
          cut is c.loop.invariant.2);
      few = simp length-map (omega (arith, count, below, longer));
    }

pub loop-preserved : goal.loop-preserved
loop-preserved c =
    let is = rw c.in-Some.is at c.in_ok-names.ensures.some in
    let only = rw c.in-Some.is at c.in_ok-names.ensures.only in
    let cut = subst (λ o. IsCut c.loop.left.now c.first_part.result.part.now (option_map (λ s. s.now) o)) c.in-Some-rest.is c.first_part.ensures in
    let pushed = lists_pushed c.push.new.self.items c.loop.experiments.items c.in-Some.names c.in_ok-push.ensures.items in
    let count = c.loop.invariant.1 in
    let longer = ap length c.in_ok-push.ensures.items ∙ length-append c.loop.experiments.items (c.in-Some.names ∷ []) in (
      search rules,
      longer ∙ ap (λ k. k + 1) count,
      subst (λ l. IsReading c.args.text.now l c.in-Some-rest.rest.now) (sym pushed)
          (reading_more c.args.text.now (lists_in c.loop.experiments) c.loop.left.now c.first_part.result.part.now c.in-Some-rest.rest.now
          (names_in c.in-Some.names) cut is only c.loop.invariant.2),
    )

pub returns-clause-none : goal.returns-clause-none
returns-clause-none c =
    let count = c.loop.invariant.1 in let all = c.loop-test.false in let most = c.loop.auto.counter-end in
    let full : length (lists_in c.loop.experiments) ≡ 8 = simp length-map (omega (arith, count, all, most)) in
    reading_full c.args.text.now (lists_in c.loop.experiments) c.loop.left.now full c.loop.invariant.2

pub returns-in-None-clause-only : goal.returns-in-None-clause-only
returns-in-None-clause-only c = λ lists are.
    let only = rw c.in-Some.is at c.in_ok-names.ensures.only in
    let cut = subst (λ o. IsCut c.loop.left.now c.first_part.result.part.now (option_map (λ s. s.now) o)) c.in-None.is c.first_part.ensures in
    let pushed = lists_pushed c.push.new.self.items c.loop.experiments.items c.in-Some.names c.in_ok-push.ensures.items in
    reading_only c.args.text.now (lists_in c.loop.experiments) c.loop.left.now c.first_part.result.part.now (names_in c.in-Some.names)
    cut only c.loop.invariant.2 lists are ∙ sym pushed
