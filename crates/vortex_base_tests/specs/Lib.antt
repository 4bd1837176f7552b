pub mod StatisticsRows
