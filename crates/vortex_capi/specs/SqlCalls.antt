-- What the call that prunes by a condition in SQL answers and refuses.
pub mod SqlPrunes
