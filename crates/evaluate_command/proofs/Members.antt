-- Members that are written one after another, as those of an object.
use Rattle.std.proofs.Common.{◌≡◌, ℕ, List, [], ◌∷◌, ◌++◌, sym, ap, ◌∙◌, append_assoc, append-nil}
use Rattle.json.specs.Json.{Json}
use Rattle.answer_json.specs.Progress.{Progress}
use Rattle.answer_json.specs.Vocabulary.{members, with_members, with_value, ended_object, object_of}

members_more : (ms done : List (List ℕ × Json)) (p : Progress) → with_members ms (members p done) ≡ members p (done ++ ms)
members_more [] done p = ap (members p) (sym (append-nil done))
members_more (m ∷ ms) done p = members_more ms (done ++ m ∷ []) p ∙ ap (members p) (append_assoc done (m ∷ []) ms)

-- an object that ends behind these members is a value
pub object_written : (ms done : List (List ℕ × Json)) (p : Progress)
    → ended_object (with_members ms (members p done)) ≡ with_value (object_of (done ++ ms)) p
object_written ms done p = ap ended_object (members_more ms done p)
