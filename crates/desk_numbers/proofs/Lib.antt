mod Numbers
mod Example
