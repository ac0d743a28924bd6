-- What other crates cite of this one, from one place.
pub use Rattle.experiment_lists.specs.Lines.{unidentifiable_with_line}
pub use Rattle.experiment_lists.specs.Sets.{AreExperimentSets, IsExperimentsFault, experiments_fault}
pub use Rattle.experiment_lists.specs.Views.{lists_in}
pub use Rattle.experiment_lists.specs.Words.{AreFilled, AreNeededExperiments, AreOptionalExperiments, Lists}
