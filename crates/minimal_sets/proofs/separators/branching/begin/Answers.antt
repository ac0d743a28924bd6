use Rattle.std.proofs.Common.{refl, sym, ◌∙◌, ap, [], ◌∷◌, ◌++◌, subst}
use Rattle.mixed_graph.specs.Vocabulary.{has}
use Rattle.minimal_sets.specs.Separators.{start}
use Rattle.minimal_sets.specs.Rows.{is_near}
use Rattle.minimal_sets.specs.Progress.{IsSoFar}
use Rattle.minimal_sets.proofs.SoFar.{listing_none, listing_one}
use Rattle.minimal_sets.proofs.separators.branching.begin.Goals as goal
use Rattle.minimal_sets.proofs.separators.branching.begin.Goals.{in-Some+in_ok-push, in_default}

pub closest-requires-clause-connected : goal.closest-requires-clause-connected
closest-requires-clause-connected g c = λ v x. start x (rw x refl)

pub returns-clause-listed : goal.returns-clause-listed
returns-clause-listed g c = elim c.match-closest.branch [
  | in-Some+in_ok-push w ↦
      subst (λ t. IsSoFar (is_near c.args.p.now.near) (has c.args.p.now.allowed.bits) (has c.args.p.now.x.bits) (has c.args.p.now.y.bits) [] t)
      (sym (ap (λ t. t.items) w.todo-is ∙ w.in_ok-push.ensures.items ∙ ap
      (λ t. t ++ (record { separator = w.in-Some.c.separator; side = w.in-Some.c.side; kept = w.empty.result }) ∷ []) c.new-todo.ensures.items))
      (listing_one (is_near c.args.p.now.near) (has c.args.p.now.allowed.bits) (has c.args.p.now.x.bits) (has c.args.p.now.y.bits) c.args.p.now.frame
      (record { separator = w.in-Some.c.separator; side = w.in-Some.c.side; kept = w.empty.result }) w.in-Some.ensures.some w.empty.ensures.members)
  | in_default w ↦
      subst (λ t. IsSoFar (is_near c.args.p.now.near) (has c.args.p.now.allowed.bits) (has c.args.p.now.x.bits) (has c.args.p.now.y.bits) [] t)
      (sym (ap (λ t. t.items) w.todo-is ∙ c.new-todo.ensures.items))
      (listing_none (is_near c.args.p.now.near) (has c.args.p.now.allowed.bits) (has c.args.p.now.x.bits) (has c.args.p.now.y.bits)
      c.args.p.now.frame w.in_default.ensures.none)
]
