-- An object whose members are written at once.
use Rattle.std.proofs.Common.{◌≡◌, ℕ, List, [], ◌∷◌, ◌++◌, Result, IfOk, sym, ap, ◌∙◌, subst, append_assoc, append-nil}
use Rattle.std.specs.Global.{Vec}
use Rattle.json.specs.Json.{Json}
use Rattle.answer_json.specs.Progress.{Progress}
use Rattle.answer_json.specs.Vocabulary.{nothing, members, with_members, object_of, ended_object, IsWhole, value_of, json_line}

-- these members stand behind those before
more_members : (ms done : List (List ℕ × Json)) (p : Progress) → with_members ms (members p done) ≡ members p (done ++ ms)
more_members [] done p = ap (members p) (sym (append-nil done))
more_members (m ∷ ms) done p = more_members ms (done ++ m ∷ []) p ∙ ap (members p) (append_assoc done (m ∷ []) ms)

-- the members of an object that had none
pub all_members : (ms : List (List ℕ × Json)) (new old : Progress) → new ≡ with_members ms old → old ≡ members nothing [] → new ≡ members nothing ms
all_members ms new old n o = n ∙ ap (with_members ms) o ∙ more_members ms [] nothing

-- such an object can end
pub ends_whole : (ms : List (List ℕ × Json)) (p : Progress) → p ≡ members nothing ms → IsWhole (ended_object p)
ends_whole ms p e = subst (λ (q : Progress). IsWhole (ended_object q)) (sym e) tt

-- and is its line then
pub line_of_members : {E : Type 0} (r : Result (Vec ℕ) E) (ms : List (List ℕ × Json)) (p : Progress) → p ≡ members nothing ms
    → IfOk r (λ (v : Vec ℕ). v.items ≡ json_line (value_of (ended_object p))) → IfOk r (λ (v : Vec ℕ). v.items ≡ json_line (object_of ms))
line_of_members r ms p e line = subst (λ (q : Progress). IfOk r (λ (v : Vec ℕ). v.items ≡ json_line (value_of (ended_object q)))) e line
