-- One token more, and the token that ends the reading.
use Rattle.std.proofs.Common.{◌≡◌, ℕ, List, [], ◌∷◌, length, Result, Ok, Err, refl, sym, subst}
use Rattle.dag_reader.specs.declared.tokens.Due.{Due}
use Rattle.dag_reader.specs.Tokens.{Tok, end, first, place_of, due_behind}
use Rattle.dag_reader.specs.Grammar.{Fault, Said, Position, goes_on, ends, step, settled, taken, ended}
use Rattle.dag_reader.specs.Grammar.{at_end}
use Rattle.dag_reader.specs.Reading.{AreFirst, rest_says, RestSays, Says}
use Rattle.dag_reader.specs.Turns.{FailsWith, TurnFails, ReadsStatements}
use Rattle.dag_reader.specs.FaultView.{fault_view}
use Rattle.dag_reader.specs.declared.said.Statements.{Statements}
use Rattle.dag_reader.specs.declared.faults.ReadFault.{ReadFault}
use Rattle.dag_reader.specs.declared.faults.ReadFault.TheVariants as errors

pub one_more : (size : ℕ) (due : Due) (p q : Position) (s u : Said) (bytes rest : List ℕ) (at : ℕ) (t : Tok) (r : Result Said Fault)
    → at ≡ place_of size bytes → ◌≡◌ {A = Tok × List ℕ} (t, rest) (first due bytes) → step p s at t ≡ goes_on q u
    → RestSays size (due_behind t) q u rest r → RestSays size due p s bytes r
unfolding AreFirst rest_says
one_more size due p q s u bytes rest at t r place here goes more = record {
  tokens = (at, t) ∷ more.tokens;
  cut = (rest, place, sym here, more.cut);
  says = rw goes more.says;
}

pub last_one : (size : ℕ) (due : Due) (p : Position) (s : Said) (bytes rest : List ℕ) (at : ℕ) (t : Tok) (r : Result Said Fault)
    → at ≡ place_of size bytes → ◌≡◌ {A = Tok × List ℕ} (t, rest) (first due bytes) → step p s at t ≡ ends r
    → RestSays size due p s bytes r
unfolding AreFirst rest_says
last_one size due p s bytes rest at t r place here stops = record {
  tokens = (at, t) ∷ [];
  cut = (rest, place, sym here, tt);
  says = rw stops refl;
}

ended_ends : (p q : Position) (at : ℕ) (s u : Said) → ended p at s ≡ goes_on q u → ⊥
ended_ends at_end q at s u h = cc h
ended_ends p q at s u h = cc h

taken_ends : (p q : Position) (at : ℕ) (u : Said) (r : Result Said Fault) → taken p at end r ≡ goes_on q u → ⊥
taken_ends p q at u (Err e) h = cc h
taken_ends p q at u (Ok s) h = ended_ends p q at s u h

-- no token comes behind the end
pub end_ends : (p q : Position) (s u : Said) (at : ℕ) (t : Tok) → step p s at t ≡ goes_on q u → t ≡ end → ⊥
unfolding step
end_ends p q s u at t h is = taken_ends p q at u (settled p end s) (rw is at h)

-- the error that a step gave is that of the text
pub step_failed : (text : List ℕ) (p : Position) (s new : Said) (at : ℕ) (t : Tok) (e : ReadFault) (r : Result Statements ReadFault)
    → TurnFails e (step p s at t) → ((v : Result Said Fault) → step p s at t ≡ ends v → Says text v) → r ≡ Err e → ReadsStatements text r
step_failed text p s new at t errors.Memory r fails all is = subst (ReadsStatements text) (sym is) tt
step_failed text p s new at t (errors.Fault f) r fails all is = subst (ReadsStatements text) (sym is) (all (Err (fault_view f)) fails)

-- what the rest says is what the text says, where no byte was taken
pub nothing_taken : (text : List ℕ) (due now : Due) (p : Position) (s : Said) (bytes rest : List ℕ) → now ≡ due → rest ≡ bytes
    → ((r : Result Said Fault) → RestSays (length text) due p s bytes r → Says text r)
    → (r : Result Said Fault) → RestSays (length text) now p s rest r → Says text r
nothing_taken text due now p s bytes rest same here all r more =
    all r (subst (λ (d : Due). RestSays (length text) d p s bytes r) same (subst (λ (l : List ℕ). RestSays (length text) now p s l r) here more))

-- the error that a change of what was said gave is that of the text
pub change_failed : (text : List ℕ) (v : Result Said Fault) (e : ReadFault) (r : Result Statements ReadFault)
    → FailsWith e v → ((f : Fault) → v ≡ Err f → Says text (Err f)) → r ≡ Err e → ReadsStatements text r
change_failed text v errors.Memory r fails all is = subst (ReadsStatements text) (sym is) tt
change_failed text v (errors.Fault f) r fails all is = subst (ReadsStatements text) (sym is) (all (fault_view f) fails)
