mod Modes
mod Forms
mod Rules
mod Walks
