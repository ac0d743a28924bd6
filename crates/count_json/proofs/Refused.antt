-- Refused counts have one line and one object, and none that hold a table are refused.
use Rattle.std.proofs.Common.{◌≡◌, ℕ, List, Option, sym, ap, ◌∙◌, arith}
use Rattle.std.proofs.lemmas.Option.{none-some, same_Some}
use Rattle.answer_text.specs.Vocabulary.{line_of}
use Rattle.count_rows.specs.declared.fault.CountFault.{CountFault}
use Rattle.count_rows.specs.Vocabulary.{count_fault_text, Field, Table}
use Rattle.count_answers.specs.Vocabulary.{HoldsCounts}
use Rattle.answer_json.specs.Vocabulary.{json_line}
use Rattle.count_json.specs.CountFaults.{count_fault_json}
use Rattle.count_json.specs.Refusals.{AreRefusedCounts, too_long, faulty}

module _ (names : List (List ℕ)) (used : ℕ) (count : Option Field) (bytes : List ℕ) where
  pub read_or_refused : (t : Table) (line object : List ℕ) → HoldsCounts names used count bytes t → AreRefusedCounts names used count bytes line object → ⊥
  read_or_refused t line object x (too_long long is told) = absurd (let small = x.small in omega (arith, small, long))
  read_or_refused t line object x (faulty fault short ne at is told) = none-some fault (sym x.fits ∙ at)

  pub one_line : (a b c d : List ℕ) → AreRefusedCounts names used count bytes a b → AreRefusedCounts names used count bytes c d → c ≡ a
  one_line a b c d (too_long long p x) (too_long more q y) = q ∙ sym p
  one_line a b c d (too_long long p x) (faulty fault short ne at q y) = absurd (omega (arith, long, short))
  one_line a b c d (faulty fault short ne at p x) (too_long long q y) = absurd (omega (arith, long, short))
  one_line a b c d (faulty fault short ne at p x) (faulty other less never there q y) =
      q ∙ ap (λ (e : CountFault). line_of (count_fault_text e)) (same_Some other fault (sym there ∙ at)) ∙ sym p

  pub one_object : (a b c d : List ℕ) → AreRefusedCounts names used count bytes a b → AreRefusedCounts names used count bytes c d → d ≡ b
  one_object a b c d (too_long long p x) (too_long more q y) = y ∙ sym x
  one_object a b c d (too_long long p x) (faulty fault short ne at q y) = absurd (omega (arith, long, short))
  one_object a b c d (faulty fault short ne at p x) (too_long long q y) = absurd (omega (arith, long, short))
  one_object a b c d (faulty fault short ne at p x) (faulty other less never there q y) =
      y ∙ ap (λ (e : CountFault). json_line (count_fault_json e)) (same_Some other fault (sym there ∙ at)) ∙ sym x
