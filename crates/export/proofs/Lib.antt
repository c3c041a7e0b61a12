pub mod Once
pub mod Jobs
pub mod PairLaws
pub mod Days
pub mod Texts
pub mod FigureLaws
pub mod Apart
