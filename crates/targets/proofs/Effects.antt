-- What the sets of an effect, and those of a query, have.
use Rattle.std.proofs.Common.{◌<◌, ℕ, false, ◌++◌, length}
use Rattle.mixed_graph.specs.Vocabulary.{has, Within, Apart, is_named}
use Rattle.targets.specs.Targets.{Lists, AreListedSets, AreSets, EffectLists, AreEffectSets}
use Rattle.targets.proofs.Queries.{set_within, behind}
use Rattle.targets.proofs.RuleWalks.{not_walked, sets_apart, some_in}

-- the set x of an effect is within the observed vertices
pub effect_within_x : (l : EffectLists) (x y : ℕ) → AreEffectSets l x y → Within (length l.observed) (has x)
effect_within_x l x y s = set_within l.observed l.x x s.set_x

-- and so is the set y
pub effect_within_y : (l : EffectLists) (x y : ℕ) → AreEffectSets l x y → Within (length l.observed) (has y)
effect_within_y l x y s = set_within l.observed l.y y s.set_y

-- the sets of an effect are disjoint
pub effect_apart : (l : EffectLists) (x y : ℕ) → AreEffectSets l x y → Apart (has x) (has y)
effect_apart l x y s =
    let parts = behind l.all l.observed (λ n. false) l.x l.y s.no_fault in
    sets_apart l.observed l.x l.y x y s.set_x s.set_y (not_walked l.all l.observed (λ m. is_named l.x m) l.y parts.1)

-- the set y of an effect has a member
pub effect_outcome : (l : EffectLists) (x y : ℕ) → AreEffectSets l x y → 0 < y
effect_outcome l x y s =
    let parts = behind l.all l.observed (λ n. false) l.x l.y s.no_fault in
    some_in l.all l.observed (λ m. is_named l.x m) l.y y parts.1 s.some_y s.set_y

-- the set x of a query has a member
pub query_exposure : (l : Lists) (x y given : ℕ) → AreSets l x y given → 0 < x
query_exposure l x y given s =
    let parts = behind l.all l.observed (λ n. false) l.x (l.y ++ l.given) s.no_fault in
    some_in l.all l.observed (λ n. false) l.x x parts.0 s.some_x s.set_x

-- the sets of a query are such as lists name of which x may be empty
pub are_listed : (l : Lists) (x y given : ℕ) → AreSets l x y given → AreListedSets l x y given
are_listed l x y given s = record { no_fault = s.no_fault; some_y = s.some_y; set_x = s.set_x; set_y = s.set_y; set_given = s.set_given }

-- their set y has a member
pub listed_outcome : (l : Lists) (x y given : ℕ) → AreListedSets l x y given → 0 < y
listed_outcome l x y given s =
    let parts = behind l.all l.observed (λ n. false) l.x (l.y ++ l.given) s.no_fault in
    let later = behind l.all l.observed (λ m. is_named l.x m) l.y l.given parts.1 in
    some_in l.all l.observed (λ m. is_named l.x m) l.y y later.0 s.some_y s.set_y

-- and so has that of a query
pub query_outcome : (l : Lists) (x y given : ℕ) → AreSets l x y given → 0 < y
query_outcome l x y given s = listed_outcome l x y given (are_listed l x y given s)
