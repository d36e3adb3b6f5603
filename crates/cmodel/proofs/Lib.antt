pub mod PriceChecks
pub mod Lent
pub mod Verdicts
