-- Certificates as plain trees.
use Rattle.std.specs.Prelude.{ℕ, List, take}
use Rattle.std.specs.List.{zip}
use Rattle.prob_expr.specs.Vocabulary.{PlainTarget, PlainFormula, target_view, formula_view}
use Rattle.do_derivation.specs.Vocabulary.{PlainDerivation, derivation_view}
use Rattle.hedge.specs.declared.joined_sets.lists.Links.{Links}
use Rattle.hedge.specs.declared.hedge.Hedge.{Hedge}
use Rattle.certificate.specs.declared.values.Certificate.{Certificate}
use Rattle.certificate.specs.declared.values.Certificate.TheVariants as cases
use Rattle.certificate.specs.declared.values.PartCertificate.{PartCertificate}
use Rattle.certificate.specs.declared.values.PartCertificate.TheVariants as part_cases
use Rattle.derived_parts.specs.Vocabulary.{PlainDerivedPart, derived_views}

-- a hedge: its three sets; for each of 64 vertices its choice, or 64 for none; and each found vertex with its partner, the first with 0
pub record PlainHedge : Type 0 where
  pub big : ℕ
  pub small : ℕ
  pub roots : ℕ
  pub choice : List ℕ
  pub links : List (ℕ × ℕ)

-- the found vertices with their partners
abbrev pub links_view : Links → List (ℕ × ℕ)
links_view l = zip (take l.count l.found) (take l.count l.partner)

-- the plain hedge of a hedge
abbrev pub hedge_view : Hedge → PlainHedge
hedge_view h = record { big = h.big.bits; small = h.small.bits; roots = h.roots.bits; choice = h.choice.next; links = links_view h.links }

-- a certificate of a formula: its target, the formula and its derivation; or of a hedge: its target and the hedge
pub data PlainCertificate : Type 0 where
  formula : PlainTarget → PlainFormula → PlainDerivation → PlainCertificate
  hedge : PlainTarget → PlainHedge → PlainCertificate

-- the plain trees of a certificate
abbrev pub certificate_view : Certificate → PlainCertificate
certificate_view (cases.Formula t f d) = formula (target_view t) (formula_view f) (derivation_view d)
certificate_view (cases.Hedge t h) = hedge (target_view t) (hedge_view h)

-- a certificate in parts: of an effect among the treated, or of a nested effect, with its mediators
pub data PlainPartCertificate : Type 0 where
  treated : PlainTarget → List PlainDerivedPart → PlainPartCertificate
  natural : PlainTarget → (through : ℕ) → List PlainDerivedPart → PlainPartCertificate

-- the plain trees of a certificate in parts
abbrev pub part_certificate_view : PartCertificate → PlainPartCertificate
part_certificate_view (part_cases.Treated t ps) = treated (target_view t) (derived_views ps.items)
part_certificate_view (part_cases.Natural t m ps) = natural (target_view t) m.bits (derived_views ps.items)
