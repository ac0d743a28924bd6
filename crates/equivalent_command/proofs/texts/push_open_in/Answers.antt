use Rattle.std.proofs.Common.{◌≡◌, ◌++◌, List, ℕ, [], ◌∷◌, ap, ◌∙◌, append_assoc, codes}
use Rattle.answer_text.specs.Vocabulary.{path_text}
use Rattle.equivalent_command.specs.Lines.{which}
use Rattle.equivalent_command.proofs.texts.push_open_in.Goals as goal

-- five texts appended one after the other are one text appended
five : (old a b d e f : List ℕ) {one two three four out : List ℕ} → one ≡ old ++ a → two ≡ one ++ b → three ≡ two ++ d → four ≡ three ++ e → out ≡ four ++ f
    → out ≡ old ++ (a ++ (b ++ (d ++ (e ++ f))))
five old a b d e f p q r s t = t ∙ ap (λ x. x ++ f) (s ∙ ap (λ x. x ++ e) (r ∙ ap (λ x. x ++ d) (q ∙ ap (λ x. x ++ b) p))) ∙ simp append_assoc

pub returns : goal.returns
returns c =
    five c.args.out.now.items (codes "open in the ") (which c.args.side) (codes ": ")
    (path_text c.args.names.now c.args.path.now.vertices c.args.path.now.marks c.args.path.now.count) (10 ∷ [])
    c.in_ok-extend_from_slice.ensures.items
    (c.in_ok-extend_from_slice-2.ensures.items ∙ ap (λ x. c.extend_from_slice.new.self.items ++ x) c.which.ensures)
    c.in_ok-extend_from_slice-3.ensures.items c.in_ok-push_path.ensures c.in_ok-push.ensures.items
