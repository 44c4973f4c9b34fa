-- Rows of items on their way, and their steps. Declares nothing.
pub use Rattle.runs.specs.Tree.{Held, Work, Rest, Doing, Open, Making, Whole, Lost}
pub use Rattle.runs.specs.Steps.{lost_or, settled, opened, WorkStep}
