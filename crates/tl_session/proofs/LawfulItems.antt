-- What holds of the items that are built, for proofs.
pub use Rattle.tl_session.specs.LawfulItems.{LawfulTarget, LawfulValue, LawfulItem, LawfulItems}
