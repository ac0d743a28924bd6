use Rattle.std.proofs.Common.{◌≡◌, true, List, ℕ, sym, subst}
use Rattle.std.specs.List.{list_all}
use Rattle.std.specs.Str.{is_utf8}
use Rattle.mixed_graph.specs.Vocabulary.{is_line_byte}
use Rattle.primed_names.proofs.Fresh.{name_text, name_line}
use Rattle.primed_names.proofs.primes.primed_names.Goals as goal

pub add_prime-requires-clause-text : goal.add_prime-requires-clause-text
add_prime-requires-clause-text c =
    subst (λ (n : List ℕ). is_utf8 n ≡ true) (sym c.name.ensures) (name_text c.args.names.now c.in-Some.v c.count-count.ensures.names)

pub add_prime-requires-clause-line : goal.add_prime-requires-clause-line
add_prime-requires-clause-line c =
    subst (λ (n : List ℕ). list_all is_line_byte n ≡ true) (sym c.name.ensures) (name_line c.args.names.now c.in-Some.v c.count-count.ensures.names)
