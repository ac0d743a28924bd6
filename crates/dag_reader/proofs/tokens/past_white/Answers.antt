use Rattle.std.proofs.Common.{◌≡◌, ◌∙◌, true, false, sym, get_or, arith}
use Rattle.answer_text.specs.Vocabulary.{is_white}
use Rattle.dag_reader.proofs.TextForm.{behind_first, length-behind, white_goes, white_stays, white_none, white_low}
use Rattle.dag_reader.proofs.tokens.past_white.Goals as goal

pub loop-rest-preserved : goal.loop-rest-preserved
loop-rest-preserved c =
    let rest = c.loop-rest.rest.now in
    let some = c.in-len1-up.len_at_least in
    let white : is_white (get_or rest 0 0) ≡ true = sym c.is_white.ensures ∙ c.if-not-is_white.false in
    let shorter = length-behind rest some in
    let before = c.loop-rest.invariant.within in
    record {
      rest = white_goes rest some white ∙ c.loop-rest.invariant.rest;
      text = behind_first rest c.loop-rest.invariant.text some (white_low (get_or rest 0 0) white);
      within = omega (arith, shorter, before);
    }

pub returns-then-not-is_white-clause-rest : goal.returns-then-not-is_white-clause-rest
returns-then-not-is_white-clause-rest c =
    let rest = c.loop-rest.rest.now in
    let other : is_white (get_or rest 0 0) ≡ false = sym c.is_white.ensures ∙ c.if-not-is_white.true in
    sym (white_stays rest c.in-len1-up.len_at_least other) ∙ c.loop-rest.invariant.rest

pub returns-clause-rest : goal.returns-clause-rest
returns-clause-rest c = sym (white_none c.loop-rest.rest.now (omega arith)) ∙ c.loop-rest.invariant.rest
