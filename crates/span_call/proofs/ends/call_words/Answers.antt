use Rattle.std.proofs.Common.{refl, ap, Err, arith}
use Rattle.span_call.proofs.CallEnds.{silent}
use Rattle.span_call.proofs.ends.call_words.Goals as goal

pub returns-in-Err-NotText-clause-end : goal.returns-in-Err-NotText-clause-end
returns-in-Err-NotText-clause-end c = λ out err. record {
  not_text = λ nine. c.in-Err-NotText.ensures.not_text (ap (λ f. Err f) c.in-Err-NotText.field-0-is);
  are_texts = λ small. absurd (omega (arith, small, c.silent.ensures.status));
  out_stays = λ nine. refl;
  err_stays = λ nine. refl;
  no_sizes = λ nine. c.silent.ensures.sizes;
}

pub returns-in-Err-NoMemory-clause-end : goal.returns-in-Err-NoMemory-clause-end
returns-in-Err-NoMemory-clause-end c = λ out err. silent _ _ out err _ _ (omega (arith, c.silent-in-Err-NoMemory.ensures.status))
    c.silent-in-Err-NoMemory.ensures.sizes
