-- How many places a hedge has for its links.
use Rattle.std.specs.Prelude.{◌≡◌, length}
use Rattle.hedge.specs.declared.hedge.Hedge.{Hedge}

-- its links are two arrays of 64 entries
pub record HasEntries (h : Hedge) : Type 0 where
  pub found : length h.links.found ≡ 64
  pub partner : length h.links.partner ≡ 64
