pub mod PriceBytes
