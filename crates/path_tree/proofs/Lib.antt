pub mod AlongPaths
pub mod Changes
