use Rattle.std.proofs.Common.{◌∙◌, refl}
use Rattle.mixed_graph.specs.Vocabulary.{has}
use Rattle.dag_reader.proofs.Loops.{at_found, at_lost}
use Rattle.dag_reader.proofs.MarkLists.{inside_behind}
use Rattle.dag_reader.proofs.edges.self_loop.Goals as goal

pub returns-in-Some : goal.returns-in-Some
returns-in-Some c =
    at_found (λ v. has c.group.result.bits v) c.loop-rest.left.items c.loop-rest.rest.now c.in-Joined.field-0 c.in-Some.v c.in-len1-up.len_at_least
    c.in-Joined.is c.group.ensures
    (rw c.as_slice.ensures.value at c.in-Some.ensures) ∙ c.loop-rest.invariant.found

pub loop-rest-preserved-in_default-first_in : goal.loop-rest-preserved-in_default-first_in
loop-rest-preserved-in_default-first_in c = record {
  found =
      at_lost (λ v. has c.group.result.bits v) c.loop-rest.left.items c.clear-in-Joined.new.self.items c.loop-rest.rest.now c.in-Joined.field-0
      c.in-len1-up.len_at_least c.in-Joined.is c.group.ensures
      (rw c.as_slice.ensures.value at c.in_default-first_in.ensures) c.clear-in-Joined.ensures.items ∙ c.loop-rest.invariant.found;
  left = rw c.clear-in-Joined.ensures.items refl;
  inside = inside_behind 64 c.loop-rest.rest.now c.loop-rest.invariant.inside c.in-len1-up.len_at_least;
}
