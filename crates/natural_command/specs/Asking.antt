-- What the lists of `natural` ask for.
use Rattle.std.specs.Prelude.{ℕ, ◌≡◌, List, [], Option, Some, None}
use Rattle.targets.specs.declared.fault.TargetFault.{TargetFault}
use Rattle.targets.specs.Vocabulary.{Lists, NameFault, IsListedSet, AreSets, OrMemory}
use Rattle.further_lists.specs.Vocabulary.{IsFaultOfAll, further_fault}
use Rattle.diagram.specs.declared.diagram.Diagram.{Diagram}
use Rattle.diagram.specs.Vocabulary.{Names, query_lists}
use Rattle.natural_command.specs.declared.asking.Question.{Question}
use Rattle.natural_command.specs.declared.fault.NaturalFault.{NaturalFault}
use Rattle.natural_command.specs.declared.fault.NaturalFault.TheVariants.{Listed, NoMediator, After, TooMany, NoMemory}

-- the lists of a query, and that of the mediators
pub record NaturalLists : Type 0 where
  pub query : Lists
  pub through : List (List ℕ)

-- the lists on a diagram: those that are given, or else the exposures and the outcomes
abbrev pub natural_lists : Diagram → (x y : Names) → (through given : List (List ℕ)) → NaturalLists
natural_lists d x y through given = record { query = query_lists d.read d.observed.names x y (Some given); through = through }

-- the first name at fault of the mediators, where x, y and given were walked before
abbrev pub through_fault : NaturalLists → Option NameFault
through_fault l = further_fault l.query l.through

-- the question asks for the sets that the lists name
pub record AreNamed (l : NaturalLists) (q : Question) : Type 0 where
  pub query : AreSets l.query q.x.bits q.y.bits q.given.bits
  pub no_fault : through_fault l ≡ None
  pub some : l.through ≡ [] → ⊥
  pub through : IsListedSet l.query.observed l.through q.through.bits

-- the lists x, y and given name sets, and that of the mediators names none
pub record HaveNoMediator (l : NaturalLists) : Type 0 where
  pub x : ℕ
  pub y : ℕ
  pub given : ℕ
  pub query : AreSets l.query x y given
  pub no_fault : through_fault l ≡ None
  pub none : l.through ≡ []

-- the fault of a name that is listed: that of x, y and given, or else of the mediators
abbrev pub IsNamesFault : NaturalLists → TargetFault → Type 0
IsNamesFault l = IsFaultOfAll l.query l.through

-- the fault of lists that ask for no sets
abbrev pub IsListsFault : NaturalLists → NaturalFault → Type 0
IsListsFault l (Listed fault) = IsNamesFault l fault
IsListsFault l NoMediator = HaveNoMediator l
IsListsFault l (After name) = ⊥
IsListsFault l TooMany = ⊥
IsListsFault l NoMemory = ⊥

-- the same, or want of memory
abbrev pub IsListsFaultOrMemory : NaturalLists → NaturalFault → Type 0
IsListsFaultOrMemory l (Listed fault) = OrMemory (IsNamesFault l) fault
IsListsFaultOrMemory l NoMediator = HaveNoMediator l
IsListsFaultOrMemory l (After name) = ⊥
IsListsFaultOrMemory l TooMany = ⊥
IsListsFaultOrMemory l NoMemory = Unit {0}
