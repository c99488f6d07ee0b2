pub mod ProbeLaws
