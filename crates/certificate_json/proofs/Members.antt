-- Members that are written one after another.
use Rattle.std.proofs.Common.{◌≡◌, ℕ, List, [], ◌∷◌, ◌++◌, Result, IfOk, sym, ap, subst, ◌∙◌, append_assoc, append-nil}
use Rattle.std.specs.Global.{Vec}
use Rattle.json.specs.Json.{Json}
use Rattle.answer_json.specs.Progress.{Progress}
use Rattle.answer_json.specs.Vocabulary.{nothing, members, with_value, with_members, ended_object, object_of, value_of, json_line}

-- these members behind those that are done
members_written : (ms done : List (List ℕ × Json)) (p : Progress) → with_members ms (members p done) ≡ members p (done ++ ms)
members_written [] done p = ap (members p) (sym (append-nil done))
members_written (m ∷ ms) done p = members_written ms (done ++ m ∷ []) p ∙ ap (members p) (append_assoc done (m ∷ []) ms)

-- an object that ends behind its members is a value
pub object_written : (ms : List (List ℕ × Json)) (p : Progress) → ended_object (with_members ms (members p [])) ≡ with_value (object_of ms) p
object_written ms p = ap ended_object (members_written ms [] p)

-- the line of an object of these members
pub line_written : {E : Type 0} (r : Result (Vec ℕ) E) (ms : List (List ℕ × Json)) (begun p : Progress) → begun ≡ members nothing [] → p ≡ with_members ms begun
    → IfOk r (λ (v : Vec ℕ). v.items ≡ json_line (value_of (ended_object p))) → IfOk r (λ (v : Vec ℕ). v.items ≡ json_line (object_of ms))
line_written r ms begun p is written line =
    subst (λ (q : Progress). IfOk r (λ (v : Vec ℕ). v.items ≡ json_line (value_of (ended_object q))))
    (written ∙ ap (with_members ms) is ∙ members_written ms [] nothing) line
