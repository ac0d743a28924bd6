-- The automaton over tokens whose places are given by how many tokens follow, and what it accepts.
use Rattle.std.proofs.Common.{◌≡◌, ℕ, List, [], ◌∷◌, length, Option, Some, None, Result, Ok, Err, refl}
use Rattle.dag_reader.specs.Tokens.{Tok}
use Rattle.dag_reader.specs.Grammar.{Fault, Said, Position, Turn, goes_on, ends, step, taken}
use Rattle.dag_reader.specs.Reading.{rest_says, on_turn}
use Rattle.dag_reader.specs.Syntax.{◌>>=◌, allowed}

abbrev pub accepted : Option (Result Said Fault) → Option Said
accepted None = None
accepted (Some r) = allowed r

-- the places of the tokens are given by how many follow
abbrev pub label : (ℕ → ℕ) → List Tok → List (ℕ × Tok)
label f [] = []
label f (t ∷ ts) = (f (length ts), t) ∷ label f ts

unfoldable pub ok : (ℕ → ℕ) → Position → Said → List Tok → Option Said
ok f p s ts = accepted (rest_says p s (label f ts))

abbrev pub then_ok : (ℕ → ℕ) → List Tok → Turn → Option Said
then_ok f ts (goes_on q u) = ok f q u ts
then_ok f ts (ends r) = allowed r

turn_ok : (f : ℕ → ℕ) (ts : List Tok) (turn : Turn) → accepted (on_turn turn (λ q u. rest_says q u (label f ts))) ≡ then_ok f ts turn
unfolding ok
turn_ok f ts (goes_on q u) = refl
turn_ok f ts (ends r) = refl

pub one_ok : (f : ℕ → ℕ) (p : Position) (s : Said) (t : Tok) (ts : List Tok) → ok f p s (t ∷ ts) ≡ then_ok f ts (step p s (f (length ts)) t)
unfolding ok rest_says
one_ok f p s t ts = turn_ok f ts (step p s (f (length ts)) t)

pub none_ok : (f : ℕ → ℕ) (p : Position) (s : Said) → ok f p s [] ≡ None
unfolding ok rest_says
none_ok f p s = refl

-- ---- binds

pub bind_ext : {A B : Type 0} (r : Option A) (f g : A → Option B) → ((x : A) → f x ≡ g x) → (r >>= f) ≡ (r >>= g)
bind_ext None f g h = refl
bind_ext (Some x) f g h = h x

pub bind_assoc : {A B C : Type 0} (r : Option A) (f : A → Option B) (g : B → Option C) → ((r >>= f) >>= g) ≡ (r >>= (λ x. f x >>= g))
bind_assoc None f g = refl
bind_assoc (Some x) f g = refl

pub bind_none : {A B : Type 0} (r : Option A) → ◌≡◌ {A = Option B} (r >>= (λ x. None)) None
bind_none None = refl
bind_none (Some x) = refl

-- ---- what a turn gives by what was settled before it

-- the same turn behind what was settled
pub settled_first : (f : ℕ → ℕ) (ts : List Tok) (p q : Position) (at : ℕ) (t : Tok) (r : Result Said Fault)
    → ((u : Said) → then_ok f ts (taken p at t (Ok u)) ≡ then_ok f ts (taken q at t (Ok u)))
    → then_ok f ts (taken p at t r) ≡ (allowed r >>= (λ u. then_ok f ts (taken q at t (Ok u))))
settled_first f ts p q at t (Err e) same = refl
settled_first f ts p q at t (Ok u) same = same u
