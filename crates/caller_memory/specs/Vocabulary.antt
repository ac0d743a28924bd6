-- What other crates cite of this one, from one place.
pub use Rattle.caller_memory.specs.Held.{lacks_in}
pub use Rattle.caller_memory.specs.Kept.{AreAskable, AreEffectSets, IsNoGraphText, Keeps, KeepsText, graph_in}
pub use Rattle.caller_memory.specs.Parts.{content_at, content_named, part, place_named}
pub use Rattle.caller_memory.specs.Words.{AreTexts, IsNoText, texts}
