pub mod Forms
pub mod inner
pub mod Laws
pub mod Results
pub mod Scripts
