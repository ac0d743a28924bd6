use Rattle.std.proofs.Common.{◌≡◌, IfSome, refl, subst, rules, arith}
use Rattle.command_run.specs.Ends.{IsReadOf, WereRead}
use Rattle.command_run.proofs.Deliveries.{read_again}
use Rattle.command_run.proofs.ReadCounts.{read_other, nothing_more}
use Rattle.command_run.proofs.top.read_second.Goals as goal

pub returns-in_default-clause-answer : goal.returns-in_default-clause-answer
returns-in_default-clause-answer g c = record { answer = c.read_all.ensures.answer; lacked = c.read_all.ensures.lacked; failed = c.read_all.ensures.failed }

pub returns-in_default-clause-reads : goal.returns-in_default-clause-reads
returns-in_default-clause-reads g c =
    read_other _ _ _ _ _ (λ was e. search rules) c.read_all.ensures.once c.read_all.ensures.other_reads c.read_all.ensures.other_given

pub returns-in_default-clause-stays : goal.returns-in_default-clause-stays
returns-in_default-clause-stays g c = record { holds = c.read_all.ensures.holds; lack = c.read_all.ensures.lack }

pub returns-then-eq-clause-answer : goal.returns-then-eq-clause-answer
returns-then-eq-clause-answer g c =
    let same : c.args.file.now ≡ c.args.second.now = search rules in
    let read = subst (λ b. IfSome b (λ it. WereRead (g.S.Shelf.held c.args.shelf.now) (g.S.Shelf.lacks c.args.shelf.now) c.args.file.now it.now))
    c.in-Some.is c.requires.read in
    subst (λ name. IsReadOf (g.S.Shelf.held c.args.shelf.now name) (g.S.Shelf.lacks c.args.shelf.now name) (g.S.Shelf.faults c.args.shelf.now name)
    (g.S.Shelf.faults c.args.shelf.now name) c.args.limit c.copied.result) same
    (read_again _ _ _ _ c.in-Some.bytes.now c.copied.result read.all read.there (omega (arith, read.small, c.requires.least)) c.copied.ensures.copy
    c.copied.ensures.fault)

pub returns-then-eq-clause-reads : goal.returns-then-eq-clause-reads
returns-then-eq-clause-reads g c = nothing_more _ _ _ _ _ refl refl

pub returns-then-eq-clause-stays : goal.returns-then-eq-clause-stays
returns-then-eq-clause-stays g c = record { holds = refl; lack = refl }

pub returns-clause-answer : goal.returns-clause-answer
returns-clause-answer g c = record { answer = c.read_all-2.ensures.answer; lacked = c.read_all-2.ensures.lacked; failed = c.read_all-2.ensures.failed }

pub returns-clause-reads : goal.returns-clause-reads
returns-clause-reads g c =
    read_other _ _ _ _ _ (λ was e. search rules) c.read_all-2.ensures.once c.read_all-2.ensures.other_reads c.read_all-2.ensures.other_given

pub returns-clause-stays : goal.returns-clause-stays
returns-clause-stays g c = record { holds = c.read_all-2.ensures.holds; lack = c.read_all-2.ensures.lack }
