mod OneAnswer
mod OneBuilt
mod OneDemo
mod OneDump
mod OneRun
