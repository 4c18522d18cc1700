pub mod AnswerLemmas
pub mod CountLemmas
pub mod FormLemmas
pub mod IndexLemmas
pub mod PathLemmas
pub mod PutLemmas
pub mod SearchLemmas
