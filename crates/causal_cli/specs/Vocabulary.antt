-- What other crates cite of this one, from one place.
pub use Rattle.causal_cli.specs.Calls.{call_of}
pub use Rattle.causal_cli.specs.Drawn.{RightAsDrawn}
pub use Rattle.causal_cli.specs.Inputs.{AreInputs, IsEnough}
