-- The faults of lists, by their kinds.
use Rattle.std.proofs.Common.{ℕ, List, inl, inr}
use Rattle.targets.specs.declared.fault.TargetFault.{TargetFault}
use Rattle.targets.specs.declared.fault.TargetFault.TheVariants.{Unknown, Latent, Twice, EmptyY, EmptyX, NotOneX, Bidirected, OtherNames, NoMemory}
use Rattle.targets.specs.Vocabulary.{Lists, IsNameFault, IsFaultOfTarget, OrMemory, IsTargetFault, AreSets}
use Rattle.further_lists.specs.Faults.{IsFaultOfAll, further_fault}

module _ (l : Lists) (further : List (List ℕ)) where
  -- a fault of x, y and given
  pub query_fault : (f : TargetFault) → OrMemory (IsTargetFault l) f → OrMemory (IsFaultOfAll l further) f
  query_fault NoMemory h = tt
  query_fault (Unknown t) h = inl h
  query_fault (Latent t) h = inl h
  query_fault (Twice t) h = inl h
  query_fault EmptyY h = inl h
  query_fault EmptyX h = inl h
  query_fault NotOneX h = inl h
  query_fault (Bidirected a b) h = inl h
  query_fault (OtherNames t) h = inl h

  -- a fault of the further list
  later_of : (x y given : ℕ) (f : TargetFault) → AreSets l x y given → IsFaultOfTarget (further_fault l further) l.y l.x f → IsFaultOfAll l further f
  later_of x y given f s h = inr (record { x = x; y = y; given = given; query = s; named = h })

  pub later_named : (x y given : ℕ) (f : TargetFault) → AreSets l x y given → IsNameFault (further_fault l further) f → OrMemory (IsFaultOfAll l further) f
  later_named x y given NoMemory s h = tt
  later_named x y given (Unknown t) s h = later_of x y given (Unknown t) s h
  later_named x y given (Latent t) s h = later_of x y given (Latent t) s h
  later_named x y given (Twice t) s h = later_of x y given (Twice t) s h
  later_named x y given EmptyY s h = absurd h
  later_named x y given EmptyX s h = absurd h
  later_named x y given NotOneX s h = absurd h
  later_named x y given (Bidirected a b) s h = absurd h
  later_named x y given (OtherNames t) s h = absurd h
