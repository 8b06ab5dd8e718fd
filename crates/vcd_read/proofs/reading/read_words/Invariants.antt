use Rattle.std.proofs.Common.{◌≡◌, ◌≤◌, ◌+◌, length}
use Rattle.vcd_read.specs.Reading.{run, start, state_of}
use Rattle.vcd_read.specs.Words.{words}
use Rattle.vcd_read.proofs.reading.read_words.Given as goal

abbrev pub invariant-loop-found : goal.invariant-loop-found
invariant-loop-found l =
    (run (state_of l.reader) (words l.at l.rest) ≡ run start (words 0 l.text)) × (l.at + length l.rest ≤ 1048576)

abbrev pub decreases-loop-found : goal.decreases-loop-found
decreases-loop-found l = length l.rest
