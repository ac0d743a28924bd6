-- What the parts of a factor in the code stand for.
use Rattle.identification_theory.specs.Procedure
use Rattle.identify.specs.declared.factors.terms.Source.{Source}
use Rattle.identify.specs.declared.factors.terms.Source.TheVariants.{Under, Defined}

-- the source of the code's
abbrev pub source_of : Source → Procedure.Source
source_of (Under z) = Procedure.Source.Under z.bits
source_of (Defined k) = Procedure.Source.Defined k
