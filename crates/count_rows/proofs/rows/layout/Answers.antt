use Rattle.std.proofs.Common.{◌∙◌, ap, List, ℕ, ◌++◌, map, Option, Bor}
use Rattle.std.specs.Prelude.{option_map}
use Rattle.std.specs.Option.{option_to_list}
use Rattle.mixed_graph.specs.Vocabulary.{name_of}
use Rattle.count_rows.specs.declared.fault.CountFault.{CountFault}
use Rattle.count_rows.specs.Faults.{header_fault, or_else}
use Rattle.count_rows.proofs.HeaderSteps.{header_fault-append, header_fault-last}
use Rattle.count_rows.proofs.rows.layout.Goals as goal

pub returns-in-Err-clause-fault : goal.returns-in-Err-clause-fault
returns-in-Err-clause-fault c n =
    header_fault-append c.args.header.now (map (name_of c.args.names.now) c.args.vertices.now)
    (option_to_list (option_map {T = Bor (List ℕ)} {U = List ℕ} (λ s. s.now) c.args.count_column))
    ∙ ap (λ (o : Option CountFault). or_else o (header_fault c.args.header.now
    (option_to_list (option_map {T = Bor (List ℕ)} {U = List ℕ} (λ s. s.now) c.args.count_column)))) (c.in-Err.ensures.fault n)

pub returns-in-Ok-column-clause-fit : goal.returns-in-Ok-column-clause-fit
returns-in-Ok-column-clause-fit c =
    ap (λ (o : Option (Bor (List ℕ))). header_fault c.args.header.now
    (map (name_of c.args.names.now) c.args.vertices.now ++ option_to_list (option_map {T = Bor (List ℕ)} {U = List ℕ} (λ s. s.now) o))) c.in-Some.is
    ∙ header_fault-last c.args.header.now (map (name_of c.args.names.now) c.args.vertices.now) c.in-Some.name.now c.in-Ok.ensures.fit
    ∙ c.in-Ok-column.ensures.fit

pub returns-in-Err-column-clause-fault : goal.returns-in-Err-column-clause-fault
returns-in-Err-column-clause-fault c n =
    ap (λ (o : Option (Bor (List ℕ))). header_fault c.args.header.now
    (map (name_of c.args.names.now) c.args.vertices.now ++ option_to_list (option_map {T = Bor (List ℕ)} {U = List ℕ} (λ s. s.now) o))) c.in-Some.is
    ∙ header_fault-last c.args.header.now (map (name_of c.args.names.now) c.args.vertices.now) c.in-Some.name.now c.in-Ok.ensures.fit
    ∙ c.in-Err-column.ensures.fault n
