use Rattle.std.proofs.Common.{◌≡◌, ◌++◌, [], ◌∷◌, ap, sym, ◌∙◌, subst, rules, arith, length, Err}
use Rattle.std.specs.List.{before_first, after_first}
use Rattle.mixed_graph.specs.Vocabulary.{IsName, is_named}
use Rattle.caller_memory.specs.Kept.{lines_of}
use Rattle.caller_memory.specs.Lines.{is_feed}
use Rattle.caller_memory.proofs.Feeds.{AreLeft, next, at_end, named_more}
use Rattle.caller_memory.specs.declared.kept.naming.NamesFault.TheVariants.{NotNames}
use Rattle.caller_memory.proofs.kept.naming.names_on.Goals as goal

pub returns-in-Err-clause-refused : goal.returns-in-Err-clause-refused
returns-in-Err-clause-refused c = λ is all are e size.
    let n = next c.args.lines.now c.loop-line.names c.loop-line.rest.now c.loop-line.invariant.only c.in-Some.ensures.found all are e in
    let line : c.in-Some.line.now ≡ before_first is_feed c.loop-line.rest.now = let a = c.in-Some.line-is in let b = c.in-Some.ensures.line in cc in
    let fault : c.in-Err.fault ≡ NotNames = cc is in
    c.in-Err.ensures.refused (ap (λ f. Err f) fault) (subst IsName (sym line) n.formed) (ap (is_named c.loop-line.names) line ∙ n.new) n.room

pub loop-line-preserved : goal.loop-line-preserved
loop-line-preserved c =
    let line : c.in-Some.line.now ≡ before_first is_feed c.loop-line.rest.now = let a = c.in-Some.line-is in let b = c.in-Some.ensures.line in cc in
    let after : c.in-Some.after.now ≡ after_first is_feed c.loop-line.rest.now = let a = c.in-Some.after-is in let b = c.in-Some.ensures.rest in cc in
    let added : c.add_new.new.names ≡ c.loop-line.names ++ before_first is_feed c.loop-line.rest.now ∷ [] =
    c.in_default-add_new.ensures.added ∙ ap (λ l. c.loop-line.names ++ l ∷ []) line in
    record {
      named = named_more c.args.lines.now c.loop-line.names c.loop-line.rest.now c.in-Some.ensures.found c.loop-line.invariant.named
          ∙ ap (λ ns. lines_of ns ++ after_first is_feed c.loop-line.rest.now) (sym added) ∙ ap (λ r. lines_of c.add_new.new.names ++ r) (sym after);
      only = λ all are e.
          let n = next c.args.lines.now c.loop-line.names c.loop-line.rest.now c.loop-line.invariant.only c.in-Some.ensures.found all are e in
          subst (λ ns. AreLeft all ns c.in-Some.after.now) (sym added)
          (subst (λ r. AreLeft all (c.loop-line.names ++ before_first is_feed c.loop-line.rest.now ∷ []) r) (sym after) n.left);
    }

pub returns-then-not-is_empty-clause-refused : goal.returns-then-not-is_empty-clause-refused
returns-then-not-is_empty-clause-refused c = λ is all are e size.
    let end = at_end c.args.lines.now c.loop-line.names c.loop-line.rest.now c.loop-line.invariant.only (c.in_default.ensures.none (search rules)) all are e in
    let none = ap length end.0 in
    grind (arith, none, c.is_empty.ensures, c.if-not-is_empty.true)

pub returns-then-count-clause-refused : goal.returns-then-count-clause-refused
returns-then-count-clause-refused c = λ is all are e size.
    let end = at_end c.args.lines.now c.loop-line.names c.loop-line.rest.now c.loop-line.invariant.only (c.in_default.ensures.none (search rules)) all are e in
    let same = ap length end.1 in
    grind (arith, same, size, c.count.ensures.count, c.if-count.true)
