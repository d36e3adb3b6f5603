pub mod PriceChecks
