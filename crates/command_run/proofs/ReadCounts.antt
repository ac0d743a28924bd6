-- From the counts of reads of one input or of two to those of a run.
use Rattle.std.proofs.Common.{◌≡◌, ◌≢◌, ℕ, arith, Bool, true, List, Option, Some, None, IfSome, length, inl, inr, refl, sym, ap, ◌∙◌, subst}
use Rattle.std.specs.Option.{option_or}
use Rattle.std.proofs.lemmas.Bool.{cases_Bool}
use Rattle.std.proofs.lemmas.Slice.Eq.{bytes_eq-Decides}
use Rattle.std.specs.Str.{bytes_eq}
use Rattle.command_words.specs.Vocabulary.{Text}
use Rattle.causal_io.specs.Vocabulary.{IsReadOnce}
use Rattle.command_run.specs.Commands.{CommandSet, Request, Asks, file_of, second_of}
use Rattle.replies.specs.Vocabulary.{Remainder, HoldsDiagram}
use Rattle.diagram.specs.declared.diagram.Diagram.{Diagram}
use Rattle.command_run.specs.Answers.{Continues, NeedsSecond, IsLeft}
use Rattle.command_run.specs.Ends.{IsOfFile, ReadsSecond, ReadsBeside}
use Rattle.command_run.proofs.Answered.{needs, names_left}
use Rattle.command_run.proofs.Deliveries.{mapped}
use Rattle.command_run.specs.Run.{Run, Reads, reads_of, IsNotRead, IsReadAtMostOnce, ReadsAsAsked, ReadsName, file, second}

-- what holds of a name where it is another one, and where it isn't, holds of it
either : (a b : Text) (P : Type 0) → (a ≡ b → P) → ((a ≡ b → ⊥) → P) → P
either a b P same other = elim (cases_Bool (bytes_eq a b)) [
  | inl t ↦ same ((bytes_eq-Decides a b).0 t)
  | inr f ↦ other (λ e. absurd (let t = (bytes_eq-Decides a b).1 e in cc))
]

-- what wasn't read was read once at most
none_at_most : (o : Option (List ℕ)) (calls calls_after given given_after : ℕ) → calls_after ≡ calls → given_after ≡ given
    → IfSome o (λ all. IsReadOnce calls calls_after given given_after (length all))
none_at_most None calls calls_after given given_after e f = tt
none_at_most (Some all) calls calls_after given given_after e f = record { calls = omega (arith, e); bytes = omega (arith, f) }

not_read_once : (held : Text → Option (List ℕ)) (q : Reads) (name : Text) → IsNotRead q name → IsReadAtMostOnce held q name
not_read_once held q name n = none_at_most (held name) (q.calls name) (q.calls_after name) (q.given name) (q.given_after name) n.calls n.given

-- one name was read, and once at most
one_read : (held : Text → Option (List ℕ)) (q : Reads) (read : Text) → IsReadAtMostOnce held q read → ((name : Text) → name ≢ read → IsNotRead q name)
    → (name : Text) → IsReadAtMostOnce held q name
one_read held q read once others name =
    either name read (IsReadAtMostOnce held q name) (λ e. subst (IsReadAtMostOnce held q) (sym e) once) (λ d. not_read_once held q name (others name d))

-- the request reads its second input, where the diagram of its file is accepted
reads_second : (s : CommandSet) (r : Run) (w : Request s) (name : Text) (d : Diagram) → file_of s w ≡ Some name → IsOfFile r.kept r.held r.lacks name d
    → (other : Text) → NeedsSecond s w d → second_of s w ≡ Some other → ReadsName s r w other
reads_second s r w name d names stands other accepted named = second name names named stands.there
    (mapped (option_or r.kept (r.held name)) (λ all. HoldsDiagram all d) (λ all. Continues s w all) (λ all holds. (d, holds, accepted)) stands.holds)

module _ (calls calls_middle calls_after given given_middle given_after : Text → ℕ) where
  abbrev before : Reads
  before = reads_of calls calls_middle given given_middle

  abbrev behind : Reads
  behind = reads_of calls_middle calls_after given_middle given_after

  abbrev whole : Reads
  whole = reads_of calls calls_after given given_after

  not_read : (name : Text) → IsNotRead before name → IsNotRead behind name → IsNotRead whole name
  not_read name p q = record { calls = q.calls ∙ p.calls; given = q.given ∙ p.given }

  -- of a name that was read in one part alone
  first_alone : (o : Option (List ℕ)) (name : Text) → IfSome o (λ all. IsReadOnce (calls name) (calls_middle name) (given name) (given_middle name)
      (length all)) → IsNotRead behind name
      → IfSome o (λ all. IsReadOnce (calls name) (calls_after name) (given name) (given_after name) (length all))
  first_alone None name p q = tt
  first_alone (Some all) name p q = record { calls = omega (arith, p.calls, q.calls); bytes = omega (arith, p.bytes, q.given) }

  second_alone : (o : Option (List ℕ)) (name : Text) → IsNotRead before name
      → IfSome o (λ all. IsReadOnce (calls_middle name) (calls_after name) (given_middle name) (given_after name) (length all))
      → IfSome o (λ all. IsReadOnce (calls name) (calls_after name) (given name) (given_after name) (length all))
  second_alone None name p q = tt
  second_alone (Some all) name p q = record { calls = omega (arith, q.calls, p.calls); bytes = omega (arith, q.bytes, p.given) }

  -- the file was read, and then what is read beside it
  pub both_read : (s : CommandSet) (r : Run) (w : Request s) (name : Text) (d : Diagram) (held : Text → Option (List ℕ)) → r.kept ≡ None
      → file_of s w ≡ Some name → Asks s r.words w → IsOfFile r.kept r.held r.lacks name d → held ≡ r.held
      → IsReadAtMostOnce r.held before name → ((other : Text) → other ≢ name → calls_middle other ≡ calls other)
      → ((other : Text) → other ≢ name → given_middle other ≡ given other)
      → ReadsBeside s w d held behind name true → ReadsAsAsked s r whole
  both_read s r w name d held none names asks stands same_held once other_calls other_given after = record {
    only = λ other no. not_read other (others other (λ e. no w asks (is_file other e)))
        (after.only other (λ accepted named. no w asks (reads_second s r w name d names stands other accepted named)));
    once = λ other. either other name (IsReadAtMostOnce r.held whole other)
        (λ e. subst (IsReadAtMostOnce r.held whole) (sym e) (first_alone (r.held name) name once (after.not_again refl)))
        (λ d. second_alone (r.held other) other (others other d) (subst (λ h. IsReadAtMostOnce h behind other) same_held (after.once other)));
  }
    where
      others : (other : Text) → other ≢ name → IsNotRead before other
      others other d = record { calls = other_calls other d; given = other_given other d }

      is_file : (other : Text) → other ≡ name → ReadsName s r w other
      is_file other e = file none (subst (λ n. file_of s w ≡ Some n) (sym e) names)

-- a text stands for the file, and what is read beside it was read
pub beside_read : (s : CommandSet) (r : Run) (q : Reads) (w : Request s) (name : Text) (d : Diagram) (seen : Bool) → file_of s w ≡ Some name
    → Asks s r.words w → IsOfFile r.kept r.held r.lacks name d → ReadsBeside s w d r.held q name seen → ReadsAsAsked s r q
beside_read s r q w name d seen names asks stands after = record {
  only = λ other no. after.only other (λ accepted named. no w asks (reads_second s r w name d names stands other accepted named));
  once = after.once;
}

-- the file alone was read
pub file_read : (s : CommandSet) (r : Run) (q : Reads) (w : Request s) (name : Text) → r.kept ≡ None → file_of s w ≡ Some name → Asks s r.words w
    → IsReadAtMostOnce r.held q name
    → ((other : Text) → other ≢ name → q.calls_after other ≡ q.calls other) → ((other : Text) → other ≢ name → q.given_after other ≡ q.given other)
    → ReadsAsAsked s r q
file_read s r q w name none names asks once other_calls other_given = record {
  only = λ other no. others other (λ e. no w asks (file none (subst (λ n. file_of s w ≡ Some n) (sym e) names)));
  once = one_read r.held q name once others;
}
  where
    others : (other : Text) → other ≢ name → IsNotRead q other
    others other d = record { calls = other_calls other d; given = other_given other d }

-- a second input was read, of another name than a file that was read before
pub read_other : (held : Text → Option (List ℕ)) (q : Reads) (file : Text) (seen : Bool) (second : Text) → (seen ≡ true → second ≡ file → ⊥)
    → IsReadAtMostOnce held q second
    → ((other : Text) → other ≢ second → q.calls_after other ≡ q.calls other)
    → ((other : Text) → other ≢ second → q.given_after other ≡ q.given other) → ReadsSecond held q file seen second
read_other held q name seen other apart once other_calls other_given = record {
  only = others;
  not_again = λ was. others name (λ e. apart was (sym e));
  once = one_read held q other once others;
}
  where
    others : (x : Text) → x ≢ other → IsNotRead q x
    others x d = record { calls = other_calls x d; given = other_given x d }

-- nothing was read
unread : (q : Reads) → q.calls_after ≡ q.calls → q.given_after ≡ q.given → (name : Text) → IsNotRead q name
unread q same_calls same_given name = record { calls = ap (λ f. f name) same_calls; given = ap (λ f. f name) same_given }

pub nothing_read : (s : CommandSet) (r : Run) (q : Reads) → q.calls_after ≡ q.calls → q.given_after ≡ q.given → ReadsAsAsked s r q
nothing_read s r q same_calls same_given = record {
  only = λ name no. unread q same_calls same_given name;
  once = λ name. not_read_once r.held q name (unread q same_calls same_given name);
}

-- nor of a second input
pub nothing_more : (held : Text → Option (List ℕ)) (q : Reads) (file : Text) (seen : Bool) (second : Text) → q.calls_after ≡ q.calls
    → q.given_after ≡ q.given → ReadsSecond held q file seen second
nothing_more held q name seen other same_calls same_given = record {
  only = λ x d. unread q same_calls same_given x;
  not_again = λ was. unread q same_calls same_given name;
  once = λ x. not_read_once held q x (unread q same_calls same_given x);
}

-- the second input was read beside the file
pub beside_second : (s : CommandSet) (w : Request s) (d : Diagram) (l : Remainder) (held : Text → Option (List ℕ)) (q : Reads) (name : Text)
    (seen : Bool) → IsLeft s w d l → ReadsSecond held q name seen l.second → ReadsBeside s w d held q name seen
beside_second s w d l held q name seen is r = record {
  only = λ other no. r.only other (λ e. no (needs s w d l is) (subst (λ n. second_of s w ≡ Some n) (sym e) (names_left s w d l is)));
  not_again = r.not_again;
  once = r.once;
}

-- or nothing was
pub beside_nothing : (s : CommandSet) (w : Request s) (d : Diagram) (held : Text → Option (List ℕ)) (q : Reads) (name : Text) (seen : Bool)
    → q.calls_after ≡ q.calls → q.given_after ≡ q.given → ReadsBeside s w d held q name seen
beside_nothing s w d held q name seen same_calls same_given = record {
  only = λ x no. unread q same_calls same_given x;
  not_again = λ was. unread q same_calls same_given name;
  once = λ x. not_read_once held q x (unread q same_calls same_given x);
}
