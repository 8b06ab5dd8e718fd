mod Example
mod Orders
