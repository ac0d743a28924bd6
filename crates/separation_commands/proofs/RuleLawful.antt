-- The command's words ask for one request, and its right answers end alike.
use Rattle.std.proofs.Common.{◌≡◌, ◌-◌, ◌||◌, ℕ, List, Ok, Err, refl, sym, subst, ◌∙◌, arith}
use Rattle.std.specs.Prelude.{codes, slice_index}
use Rattle.std.proofs.lemmas.Option.{same_Some}
use Rattle.mixed_graph.specs.Vocabulary.{has, MixedGraph}
use Rattle.m_separation.specs.declared.paths.OpenPath.{OpenPath}
use Rattle.m_separation.specs.Vocabulary.{steps_from, IsOpenPath}
use Rattle.command_words.specs.Vocabulary.{Use, value_of}
use Rattle.command_words.proofs.OneValue.{one_listed_or_empty, one_needed_list, one_needed_number}
use Rattle.do_rules.specs.declared.rules.Rule.{Rule}
use Rattle.do_rules.specs.Vocabulary.{IsOpenFor, number_of}
use Rattle.do_rules.specs.declared.rules.Rule.TheVariants as rules
use Rattle.do_rules.proofs.RuleGraphs.{one_graph}
use Rattle.targets.specs.declared.query.RuleSets.{RuleSets}
use Rattle.targets.specs.declared.fault.TargetFault.{TargetFault}
use Rattle.targets.specs.Vocabulary.{RuleLists, AreRuleSets, IsRuleFault}
use Rattle.diagram.specs.Vocabulary.{rule_lists}
use Rattle.diagram.proofs.OneDiagram.{same_rule_lists}
use Rattle.replies.specs.Vocabulary.{IsAnswered}
use Rattle.replies.proofs.Commands.{IsLawful}
use Rattle.replies.proofs.OneTarget.{one_set, no_fault_of}
use Rattle.told.specs.Vocabulary.{target_refusal}
use Rattle.told.proofs.ToldOnce.{EndAlike, lawful_told}
use Rattle.separation_commands.specs.declared.rule.answer.Answer.{Answer}
use Rattle.separation_commands.specs.declared.rule.answer.Answer.TheVariants.{Holds, Fails}
use Rattle.separation_commands.specs.RuleRequests.{Request, IsRequest}
use Rattle.separation_commands.specs.RuleCommand.{rule_command}
use Rattle.separation_commands.specs.RuleTelling.{rule_telling}
use Rattle.separation_commands.specs.RuleRight.{IsHeld, IsFailed, IsForLists, IsForNames}

same_rule : (s t : Rule) → number_of s ≡ number_of t → s ≡ t
same_rule rules.One rules.One e = refl
same_rule rules.Two rules.Two e = refl
same_rule rules.Three rules.Three e = refl
same_rule s t e = absurd (omega (arith, e))

-- the uses ask for one request
one_request : (uses : List Use) (q r : Request) → IsRequest uses q → IsRequest uses r → r ≡ q
one_request uses q r a b = λ i. record {
  file = same_Some r.file q.file (sym b.file ∙ a.file) i;
  rule = same_rule r.rule q.rule (one_needed_number (value_of uses (codes "rule")) 1 3 (number_of q.rule) (number_of r.rule) a.rule b.rule) i;
  y = one_needed_list (value_of uses (codes "y")) q.y r.y a.y b.y i;
  x = one_listed_or_empty (value_of uses (codes "do")) q.x r.x a.x b.x i;
  z = one_needed_list (value_of uses (codes "z")) q.z r.z a.z b.z i;
  given = one_listed_or_empty (value_of uses (codes "given")) q.given r.given a.given b.given i;
  format = (b.format ∙ sym a.format) i;
}

module _ (rule : Rule) (q : MixedGraph) (l : RuleLists) where
  -- lists name one set each
  same_sets : (path : OpenPath) (s t : RuleSets) → AreRuleSets l s.y.bits s.x.bits s.z.bits s.given.bits
      → AreRuleSets l t.y.bits t.x.bits t.z.bits t.given.bits
      → IsOpenFor rule q (has t.x.bits) (has t.y.bits) (has t.z.bits) (has t.given.bits) path
      → IsOpenFor rule q (has s.x.bits) (has s.y.bits) (has s.z.bits) (has s.given.bits) path
  same_sets path s t n m p =
      subst (λ (k : ℕ). IsOpenFor rule q (has s.x.bits) (has k) (has s.z.bits) (has s.given.bits) path)
      (one_set l.observed l.y s.y.bits t.y.bits n.set_y m.set_y)
      (subst (λ (k : ℕ). IsOpenFor rule q (has k) (has t.y.bits) (has s.z.bits) (has s.given.bits) path)
      (one_set l.observed l.x s.x.bits t.x.bits n.set_x m.set_x)
      (subst (λ (k : ℕ). IsOpenFor rule q (has t.x.bits) (has t.y.bits) (has k) (has s.given.bits) path)
      (one_set l.observed l.z s.z.bits t.z.bits n.set_z m.set_z)
      (subst (λ (k : ℕ). IsOpenFor rule q (has t.x.bits) (has t.y.bits) (has t.z.bits) (has k) path)
      (one_set l.observed l.given s.given.bits t.given.bits n.set_given m.set_given) p)))

  -- a rule has one cut graph, and an open path is an open walk
  holds_or_fails : (path : OpenPath) (s t : RuleSets) → AreRuleSets l s.y.bits s.x.bits s.z.bits s.given.bits
      → AreRuleSets l t.y.bits t.x.bits t.z.bits t.given.bits → IsHeld rule q s → IsFailed rule q t path → ⊥
  holds_or_fails p s t n m a b =
      let k = a.blocked in let is_open = same_sets p s t n m b.is_open in
      let path = subst (λ (m : MixedGraph). IsOpenPath m (has s.y.bits) (has s.z.bits) (λ v. has s.x.bits v || has s.given.bits v) p.vertices p.marks p.count)
      (one_graph rule q (has s.x.bits) (has s.z.bits) (has s.given.bits) is_open.graph k.graph is_open.is_graph k.is_graph) is_open.path in
      k.separated (slice_index p.vertices 0) (steps_from p.vertices p.marks 0 (p.count - 1)) path.walk

  -- right answers end alike
  same_kind : (a b : Answer) → IsForLists rule q l a → IsForLists rule q l b → rule_telling.outcome a ≡ rule_telling.outcome b
  same_kind (Holds r s h) (Holds r' t k) f g = refl
  same_kind (Holds r s h) (Fails r' t k path) f g = absurd (holds_or_fails path f.sets g.sets f.named g.named f.decided.1 g.decided.1)
  same_kind (Fails r s h path) (Holds r' t k) f g = absurd (holds_or_fails path g.sets f.sets g.named f.named g.decided.1 f.decided.1)
  same_kind (Fails r s h path) (Fails r' t k other) f g = refl

  -- lists that name sets have no fault
  named_no_fault : (s : RuleSets) (fault : TargetFault) → AreRuleSets l s.y.bits s.x.bits s.z.bits s.given.bits → IsRuleFault l fault → ⊥
  named_no_fault s fault n f = no_fault_of _ l.y l.z fault n.no_fault n.some_y n.some_z f

alike : (rule : Rule) → EndAlike rule_telling target_refusal (IsForNames rule)
alike rule q l (Ok a) (Ok b) f g = same_kind rule q l a b f g
alike rule q l (Ok a) (Err fault) f g = absurd (named_no_fault rule q l f.sets fault f.named g)
alike rule q l (Err fault) (Ok b) f g = absurd (named_no_fault rule q l g.sets fault g.named f)
alike rule q l (Err fault) (Err other) f g = refl

answered : (a : Answer) → IsAnswered (rule_telling.outcome a)
answered (Holds rule s cut) = tt
answered (Fails rule s cut path) = tt

-- what holds of each command holds of it
pub rule_lawful : IsLawful rule_command
rule_lawful = lawful_told rule_telling one_request answered (λ q d. rule_lists d.read d.observed.names q.y q.x q.z q.given)
    (λ q. same_rule_lists q.y q.x q.z q.given) (λ q. IsForNames q.rule) (λ q. alike q.rule)
