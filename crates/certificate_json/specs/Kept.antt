-- What the types of the code keep of each certificate.
use Rattle.std.specs.Prelude.{◌≡◌, ℕ, ◌≤◌, Bool, true, ◌&&◌, List, [], ◌∷◌, length}
use Rattle.do_derivation.specs.Vocabulary.{PlainLemma, PlainDerivation}
use Rattle.certificate_json.specs.StepSizes as step
use Rattle.certificate.specs.Vocabulary.{PlainHedge, PlainCertificate, formula, hedge}

-- the numbers of each lemma's step have 32 bits, and its orders 64 vertices at most
abbrev pub are_steps_short : List PlainLemma → Bool
are_steps_short [] = true
are_steps_short (l ∷ ls) = step.is_short l.plan && are_steps_short ls

-- so have those of a derivation
abbrev pub IsShort : PlainDerivation → Type 0
IsShort d = (are_steps_short d.lemmas ≡ true) × (step.is_short d.main ≡ true)

-- the first link has 0 in place of a partner
abbrev pub IsStartBlank : List (ℕ × ℕ) → Type 0
IsStartBlank [] = Unit {0}
IsStartBlank (l ∷ ls) = l.1 ≡ 0

-- a choice is for 64 vertices, and there are 64 links at most, the first of which has no partner
abbrev pub IsKept : PlainHedge → Type 0
IsKept h = (length h.choice ≡ 64) × (length h.links ≤ 64) × IsStartBlank h.links

-- what the types keep of a derivation, or of a hedge
abbrev pub IsRepresentable : PlainCertificate → Type 0
IsRepresentable (formula t f d) = IsShort d
IsRepresentable (hedge t h) = IsKept h
