pub mod SolutionLemmas
