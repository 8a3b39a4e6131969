pub mod AllowanceLemmas
mod DirectoryLemmas
mod ReadLemmas
mod WriteLemmas
