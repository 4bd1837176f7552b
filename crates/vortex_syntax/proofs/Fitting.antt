-- What words name fits: values their types, columns their scope and expressions the columns.
pub mod ExpressionFits
pub mod ScopeFits
pub mod ValueFits
