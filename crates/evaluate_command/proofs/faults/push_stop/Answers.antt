use Rattle.std.proofs.Common.{◌≡◌, ◌++◌, List, ℕ, Result, Ok, Err, codes, sym, ap, ◌∙◌, append_assoc}
use Rattle.std.specs.Prelude.{OnOk}
use Rattle.mixed_graph.specs.Vocabulary.{has, members_below}
use Rattle.count_eval.specs.declared.failure.EvalFault.{EvalFault}
use Rattle.count_eval.specs.Vocabulary.{cell_of}
use Rattle.count_answers.specs.Vocabulary.{assignments}
use Rattle.evaluate_command.specs.Stopped.{place_text, stop_words}
use Rattle.evaluate_command.proofs.faults.push_stop.Goals as goal

-- what follows where a call succeeds
on_ok : {T E : Type 0} (r : Result T E) (A B : Type 0) → (A → B) → OnOk r A → OnOk r B
on_ok (Ok x) A B f h = f h
on_ok (Err e) A B f h = h

pub returns-in_ok-extend_from_slice-in-TooWide : goal.returns-in_ok-extend_from_slice-in-TooWide
returns-in_ok-extend_from_slice-in-TooWide c = on_ok c.push_place-in-TooWide.result _ _ (λ e.
    let place = c.in-TooWide.place in let old = c.args.out.now.items in
    e ∙ ap (λ x. x ++ place_text place.def place.node) c.in_ok-extend_from_slice-in-TooWide.ensures.items
    ∙ append_assoc old (codes "evaluation fault 2: ") (place_text place.def place.node)
    ∙ ap (λ (f : EvalFault). old ++ stop_words c.args.names.now c.args.counts.now f) (sym c.in-TooWide.is))
    c.push_place-in-TooWide.ensures

pub returns-in_ok-extend_from_slice-in-TooFine : goal.returns-in_ok-extend_from_slice-in-TooFine
returns-in_ok-extend_from_slice-in-TooFine c = on_ok c.push_place-in-TooFine.result _ _ (λ e.
    let place = c.in-TooFine.place in let old = c.args.out.now.items in
    e ∙ ap (λ x. x ++ place_text place.def place.node) c.in_ok-extend_from_slice-in-TooFine.ensures.items
    ∙ append_assoc old (codes "evaluation fault 3: ") (place_text place.def place.node)
    ∙ ap (λ (f : EvalFault). old ++ stop_words c.args.names.now c.args.counts.now f) (sym c.in-TooFine.is))
    c.push_place-in-TooFine.ensures

-- four texts one after another
four : (old a b d e : List ℕ) (one two three out : List ℕ) → one ≡ old ++ a → two ≡ one ++ b → three ≡ two ++ d → out ≡ three ++ e → out ≡ old
    ++ (a ++ (b ++ (d ++ e)))
four old a b d e one two three out p q r s = s ∙ ap (λ x. x ++ e) (r ∙ ap (λ x. x ++ d) (q ∙ ap (λ x. x ++ b) p)) ∙ simp append_assoc

pub returns-in_ok-extend_from_slice-in-NoSupport-2 : goal.returns-in_ok-extend_from_slice-in-NoSupport-2
returns-in_ok-extend_from_slice-in-NoSupport-2 c = on_ok c.push_assignments.result _ _ (λ h.
    let names = c.args.names.now in let t = c.args.counts.now in let place = c.in-NoSupport.place in let old = c.args.out.now.items in
    let at = place_text place.def place.node in
    let levels : List ℕ → List ℕ = λ vs. assignments names t (cell_of c.in-NoSupport.cell) vs in
    let used = members_below (has c.used.result.bits) 64 in
    let last = h ∙ ap (λ (cell : List ℕ). c.extend_from_slice-in-NoSupport.new.self.items ++ assignments names t (cell_of cell) used) c.entries.ensures.same in
    four old (codes "evaluation fault 1: ") at (codes " at ") (levels used) _ _ _ _
    c.in_ok-extend_from_slice-in-NoSupport.ensures.items c.in_ok-push_place-in-NoSupport.ensures c.in_ok-extend_from_slice-in-NoSupport-2.ensures.items last
    ∙ ap (λ (vs : List ℕ). old ++ (codes "evaluation fault 1: " ++ (at ++ (codes " at " ++ levels vs)))) c.used.ensures.members
    ∙ ap (λ (f : EvalFault). old ++ stop_words names t f) (sym c.in-NoSupport.is)) c.push_assignments.ensures
