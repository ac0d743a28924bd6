use Rattle.std.proofs.Common.{◌≡◌, ◌∙◌, take, arith, sym, ap, rules, true, List, ℕ, [], ◌∷◌, ◌++◌, map}
use Rattle.std.specs.Prelude.{is_ok}
use Rattle.std.proofs.lemmas.List.{map-append}
use Rattle.mixed_graph.specs.Vocabulary.{name_of, index_of}
use Rattle.count_rows.specs.Faults.{header_fault}
use Rattle.count_rows.proofs.HeaderSteps.{header_fault-last, header_fault-first, header_fault-nil, names-more, names-split}
use Rattle.count_rows.proofs.header.columns.Goals as goal

pub loop-v-init : goal.loop-v-init
loop-v-init c = record { places = c.new-places.ensures.items; fit = header_fault-nil c.args.header.now }

pub loop-v-preserved : goal.loop-v-preserved
loop-v-preserved c =
    let header = c.args.header.now in let names = c.args.names.now in let vertices = c.args.vertices.now in
    let good : is_ok c.push.result ≡ true = search rules in
    let items = rw good at c.push.ensures.items in
    let more = names-more names vertices c.loop-v.v-index c.get.result.now (omega arith) c.get.ensures.name in
    record {
      places =
          items ∙ ap (λ (l : List ℕ). l ++ c.in-Ok.place ∷ []) c.loop-v.invariant.places
          ∙ ap (λ k. map (index_of header) (map (name_of names) (take c.loop-v.v-index vertices)) ++ k ∷ []) c.in-Ok.ensures.place
          ∙ sym (map-append (index_of header) (map (name_of names) (take c.loop-v.v-index vertices)) (c.get.result.now ∷ []))
          ∙ ap (map (index_of header)) (sym more);
      fit = ap (header_fault header) more ∙ header_fault-last header (map (name_of names) (take c.loop-v.v-index vertices))
          c.get.result.now c.loop-v.invariant.fit ∙ c.in-Ok.ensures.fit;
    }

pub returns-in-Err-clause-fault : goal.returns-in-Err-clause-fault
returns-in-Err-clause-fault c n =
    let header = c.args.header.now in let names = c.args.names.now in let vertices = c.args.vertices.now in
    ap (header_fault header) (names-split names vertices c.loop-v.v-index c.get.result.now (omega arith) c.get.ensures.name)
    ∙ header_fault-first header (map (name_of names) (take c.loop-v.v-index vertices)) _ c.get.result.now c.in-Err.fault c.loop-v.invariant.fit
    (c.in-Err.ensures.fault n)
