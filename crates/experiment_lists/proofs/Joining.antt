-- Experiments joined by `;`, read from the first to the last.
use Rattle.std.proofs.Common.{◌≡◌, ◌+◌, ℕ, Bool, true, List, [], ◌∷◌, ◌++◌, length, map, Option, Some, None, Result, Ok, Err, IfOk, IfSome, IfNone}
use Rattle.std.proofs.Common.{refl, sym, ap, subst, ◌∙◌, append_assoc, length-append, arith, inl, inr, codes}
use Rattle.std.specs.List.{list_all}
use Rattle.std.specs.Global.{Vec}
use Rattle.command_words.specs.Vocabulary.{IsList, names_in}
use Rattle.experiment_lists.specs.Words.{Lists, IsExperiment, AreJoinedBySemicolons, AreExperiments, is_filled, AreFilled}
use Rattle.experiment_lists.specs.Parts.{outside_after, IsCut}
use Rattle.experiment_lists.proofs.Quotes.{closed, undivided, divided, same_part}

-- ---- one experiment

-- a list that isn't `{}` and isn't cut
pub is_experiment : (text : List ℕ) (names : List (List ℕ)) (s : Bool) → (text ≡ codes "{}" → ⊥) → outside_after true text ≡ Some s → IsList text names
    → IsExperiment text names
is_experiment text names s filled whole list = elim list [
  | inl none ↦ absurd (filled none.0)
  | inr some ↦ record { filled = filled; list = some.1; undivided = undivided text names some.1 s whole }
]

-- an experiment is a list
pub is_list : (text : List ℕ) (names : List (List ℕ)) → IsExperiment text names → IsList text names
is_list text names is = inr (is.filled, is.list)

-- what reading a list tells of an experiment
module _ (text : List ℕ) where
  pub some_experiment : {E : Type 0} (r : Result (Option (Vec (Vec ℕ))) E) (s : Bool) → (text ≡ codes "{}" → ⊥) → outside_after true text ≡ Some s
      → IfOk r (λ o. IfSome o (λ v. IsList text (names_in v))) → IfOk r (λ o. IfSome o (λ v. IsExperiment text (names_in v)))
  some_experiment (Ok None) s filled whole h = tt
  some_experiment (Ok (Some v)) s filled whole h = is_experiment text (names_in v) s filled whole h
  some_experiment (Err x) s filled whole h = tt

  pub only_experiment : {E : Type 0} (r : Result (Option (Vec (Vec ℕ))) E)
      → IfOk r (λ o. IfSome o (λ v. (names : List (List ℕ)) → IsList text names → names ≡ names_in v))
      → IfOk r (λ o. IfSome o (λ v. (names : List (List ℕ)) → IsExperiment text names → names ≡ names_in v))
  only_experiment (Ok None) h = tt
  only_experiment (Ok (Some v)) h = λ names is. h names (is_list text names is)
  only_experiment (Err x) h = tt

  pub no_experiment : {E : Type 0} (r : Result (Option (Vec (Vec ℕ))) E)
      → IfOk r (λ o. IfNone o ((names : List (List ℕ)) → IsList text names → ⊥))
      → IfOk r (λ o. IfNone o ((names : List (List ℕ)) → IsExperiment text names → ⊥))
  no_experiment (Ok None) h = λ names is. h names (is_list text names is)
  no_experiment (Ok (Some v)) h = tt
  no_experiment (Err x) h = tt

-- ---- several

-- the experiments behind the first: none, or those of what stands behind the cut
abbrev pub AreOthers : Option (List ℕ) → Lists → Type 0
AreOthers None others = others ≡ []
AreOthers (Some rest) others = AreJoinedBySemicolons rest others

-- the lists of a text that is cut: the first part is the first of them
pub record IsSplit (part : List ℕ) (rest : Option (List ℕ)) (lists : Lists) : Type 0 where
  pub names : List (List ℕ)
  pub others : Lists
  pub are : lists ≡ names ∷ others
  pub first : IsExperiment part names
  pub later : AreOthers rest others

pub split : (text part : List ℕ) (rest : Option (List ℕ)) → IsCut text part rest → (lists : Lists) → AreJoinedBySemicolons text lists → IsSplit part rest lists
split text part rest cut [] joined = absurd joined
split text part None cut (names ∷ []) joined = record {
  names = names;
  others = [];
  are = refl;
  first = subst (λ t. IsExperiment t names) cut.0 joined;
  later = refl;
}
split text part (Some rest) cut (names ∷ []) joined = absurd (let bad : None ≡ Some true = sym (divided text part rest cut.0 cut.1)
    ∙ closed text names joined in cc bad)
split text part None cut (names ∷ next ∷ others) joined =
    absurd (let bad : None ≡ Some cut.1.0 = sym (divided text joined.0 joined.1 joined.2 (closed joined.0 names joined.3)) ∙ ap (outside_after true) cut.0
    ∙ cut.1.1 in cc bad)
split text part (Some rest) cut (names ∷ next ∷ others) joined =
    let same = same_part true joined.0 part joined.1 rest (sym joined.2 ∙ cut.0) (closed joined.0 names joined.3) cut.1 in
    record {
      names = names;
      others = next ∷ others;
      are = refl;
      first = subst (λ t. IsExperiment t names) same.0 joined.3;
      later = subst (λ t. AreJoinedBySemicolons t (next ∷ others)) same.1 joined.4;
    }

-- one experiment before others
pub joined_before : (text part rest : List ℕ) (names : List (List ℕ)) (lists : Lists) → text ≡ part ++ 59 ∷ rest → IsExperiment part names
    → AreJoinedBySemicolons rest lists → AreJoinedBySemicolons text (names ∷ lists)
joined_before text part rest names [] e is joined = absurd joined
joined_before text part rest names (next ∷ others) e is joined = (part, rest, e, is, joined)

-- what is read so far, and the text that is left
pub record IsReading (text : List ℕ) (done : Lists) (left : List ℕ) : Type 0 where
  pub sound : (lists : Lists) → AreJoinedBySemicolons left lists → AreJoinedBySemicolons text (done ++ lists)
  pub whole : (lists : Lists) → AreJoinedBySemicolons text lists → (more : Lists) × (lists ≡ done ++ more) × AreJoinedBySemicolons left more

pub reading_none : (text : List ℕ) → IsReading text [] text
reading_none text = record { sound = λ lists joined. joined; whole = λ lists joined. (lists, refl, joined) }

-- one more is read, and a text is left
pub reading_more : (text : List ℕ) (done : Lists) (left part rest : List ℕ) (names : List (List ℕ)) → IsCut left part (Some rest) → IsExperiment part names
    → ((other : List (List ℕ)) → IsExperiment part other → other ≡ names) → IsReading text done left → IsReading text (done ++ names ∷ []) rest
reading_more text done left part rest names cut is only r = record {
  sound = λ lists joined. subst (AreJoinedBySemicolons text) (sym (append_assoc done (names ∷ []) lists))
      (r.sound (names ∷ lists) (joined_before left part rest names lists cut.0 is joined));
  whole = λ lists joined.
      let more = r.whole lists joined in let s = split left part (Some rest) cut more.0 more.2 in (
        s.others,
        more.1 ∙ ap (λ (l : Lists). done ++ l) (s.are ∙ ap (λ n. n ∷ s.others) (only s.names s.first)) ∙ sym (append_assoc done (names ∷ []) s.others),
        s.later,
      );
}

-- the last is read
pub reading_last : (text : List ℕ) (done : Lists) (left part : List ℕ) (names : List (List ℕ)) → IsCut left part None → IsExperiment part names
    → IsReading text done left → AreJoinedBySemicolons text (done ++ names ∷ [])
reading_last text done left part names cut is r = r.sound (names ∷ []) (subst (λ t. IsExperiment t names) (sym cut.0) is)

-- the part that comes next is no experiment
pub reading_stops : (text : List ℕ) (done : Lists) (left part : List ℕ) (rest : Option (List ℕ)) → IsCut left part rest
    → ((names : List (List ℕ)) → IsExperiment part names → ⊥)
    → IsReading text done left → (lists : Lists) → AreExperiments text lists → ⊥
reading_stops text done left part rest cut none r lists are =
    let more = r.whole lists are.joined in let s = split left part rest cut more.0 more.2 in none s.names s.first

-- eight are read, and a text is left
pub reading_full : (text : List ℕ) (done : Lists) (left : List ℕ) → length done ≡ 8 → IsReading text done left → (lists : Lists) → AreExperiments text lists → ⊥
reading_full text done left full r lists are =
    let more = r.whole lists are.joined in some more.0 more.2 (ap (λ (l : Lists). length l) more.1 ∙ length-append done more.0)
  where
    some : (more : Lists) → AreJoinedBySemicolons left more → length lists ≡ length done + length more → ⊥
    some [] joined e = joined
    some (m ∷ ms) joined e = let few = are.few in let e' : length lists ≡ length done + length (m ∷ ms) = e in absurd (omega arith)

-- ---- what experiments have

experiment_filled : (text : List ℕ) (names : List (List ℕ)) → IsExperiment text names → is_filled names ≡ true
experiment_filled text names is = ap is_filled is.list.gives

joined_filled : (text : List ℕ) (lists : Lists) → AreJoinedBySemicolons text lists → list_all is_filled lists ≡ true
joined_filled text [] joined = absurd joined
joined_filled text (names ∷ []) joined = rw (experiment_filled text names joined) refl
joined_filled text (names ∷ next ∷ others) joined = rw (experiment_filled joined.0 names joined.3) (joined_filled joined.1 (next ∷ others) joined.4)

-- each experiment in a word has a name
pub are_filled : (text : List ℕ) (lists : Lists) → AreExperiments text lists → AreFilled lists
are_filled text lists are = record { few = are.few; filled = joined_filled text lists are.joined }

-- one more list at the end
pub lists_pushed : (items old : List (Vec (Vec ℕ))) (v : Vec (Vec ℕ)) → items ≡ old ++ v ∷ [] → map names_in items ≡ map names_in old ++ names_in v ∷ []
lists_pushed items [] v e = ap (map names_in) e
lists_pushed items (x ∷ xs) v e = ap (map names_in) e ∙ ap (λ (ls : Lists). names_in x ∷ ls) (lists_pushed (xs ++ v ∷ []) xs v refl)

-- the last is read, and there is no other reading
pub reading_only : (text : List ℕ) (done : Lists) (left part : List ℕ) (names : List (List ℕ)) → IsCut left part None
    → ((other : List (List ℕ)) → IsExperiment part other → other ≡ names)
    → IsReading text done left → (lists : Lists) → AreExperiments text lists → lists ≡ done ++ names ∷ []
reading_only text done left part names cut only r lists are =
    let more = r.whole lists are.joined in let s = split left part None cut more.0 more.2 in
    more.1 ∙ ap (λ (l : Lists). done ++ l) (s.are ∙ ap (λ n. n ∷ s.others) (only s.names s.first) ∙ ap (λ (os : Lists). names ∷ os) s.later)
