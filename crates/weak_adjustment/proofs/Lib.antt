pub mod WeakEffects
