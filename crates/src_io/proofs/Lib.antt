pub mod CountedLemmas
pub mod MemoryLemmas
pub mod ReadingLemmas
pub mod WrittenLemmas
