use Rattle.std.proofs.Common.{sym}
use Rattle.std.specs.Prelude.{string_bytes}
use Rattle.causal_io.specs.Words.{word_place}
use Rattle.causal_io.proofs.Places.{names_apart, count_at-set_other}
use Rattle.causal_io.proofs.outside.FileShelfShelf.read.Goals as goal

pub returns-then-is_err-clause-others : goal.returns-then-is_err-clause-others
returns-then-is_err-clause-others g c = λ other apart.
    let words = c.args.self.now.words.now in
    count_at-set_other c.args.self.now.counts.items c.in-Some.at c.rise.new.self (word_place words other)
    (λ same. apart (names_apart (λ w. string_bytes w) words other c.args.name.now c.in-Some.at same (sym c.in-Some.ensures.place)))
