-- It serves inner contracts and proofs; no answer of the program is stated by it.
-- What a process reads as data.
use Rattle.std.specs.Prelude.{ℕ, ◌==◌, Bool, not, ◌&&◌, List, ◌++◌}
use Rattle.std.specs.List.{slice_get}
use Rattle.rtl_flat.specs.Expression.{Tree}
use Rattle.rtl_flat.specs.Process.{Doing, Piece}
use Rattle.rtl_rule.specs.Parts.{labels, read_trees}
use Rattle.rtl_flat.specs.Flats.{Flat, widths}
use Rattle.check_gates.specs.check_chains.Chains.{chain_of}
use Rattle.check_clocks.specs.Clocks.{but_tests, in_instance, is_whole}

-- the expressions of a process outside its list, but for the tests of its chain
abbrev pub but_tests_of : Flat → Doing → List Tree
but_tests_of d does = but_tests (chain_of d does) (read_trees does ++ labels does)

-- a signal of one bit goes to one part, a signal of one bit that isn't in the instance
abbrev pub passes_to : Flat → ℕ → ℕ → Piece → Bool
passes_to d n i piece =
    (widths d i == 1) && (widths d piece.signal == 1) && is_whole piece.selection && not (in_instance n (slice_get d.signals piece.signal))
