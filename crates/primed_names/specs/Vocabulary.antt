-- What other crates cite of this one, from one place.
pub use Rattle.primed_names.specs.Primed.{primed_name, primed_names, with_primes}
