-- What is told of inputs is told of a request that the words ask for.
use Rattle.std.proofs.Common.{◌≡◌, ℕ, List, option_map, sym, subst}
use Rattle.command_words.specs.Vocabulary.{Text}
use Rattle.caller_memory.specs.declared.spans.Span.{Span}
use Rattle.caller_memory.specs.Vocabulary.{texts}
use Rattle.command_run.specs.Vocabulary.{Asks, file_of, second_of}
use Rattle.causal_cli.specs.Commands.{commands}
use Rattle.causal_cli.specs.Vocabulary.{IsEnough, AreInputs}
use Rattle.causal_cli.specs.declared.inputs.Inputs.{Inputs}
use Rattle.span_call.specs.Wanted.{AreTold, IsTold, TellsInputs}
use Rattle.span_call.specs.declared.wanted.Wanted.{Wanted}

pub telling : (bytes : List ℕ) (words : List Span) (before names : List ℕ) (w : Wanted) (read : List Text) (i : Inputs) → read ≡ texts bytes words
    → AreInputs read i
    → IsTold i before names w → TellsInputs bytes words before names w
telling bytes words before names w read i same (q, asks, are) told = record {
  request = q;
  asks = subst (λ ws. Asks commands ws q) same asks;
  names_told = subst (λ m. AreTold (file_of commands q) (second_of commands q) m before names w) (sym told.most_is)
      (subst (λ s. AreTold (file_of commands q) s i.most before names w) are.second
      (subst (λ f. AreTold f (option_map (λ s. s.now) i.second) i.most before names w) are.file told));
  enough = subst (λ m. IsEnough q m) (sym told.most_is) are.enough;
}
