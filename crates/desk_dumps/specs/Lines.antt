-- The lines that tell of a dump. Every line ends with a line feed.
-- Worked examples: crates/tests_rows/stdin.
use Rattle.std.specs.Prelude.{ℕ, List, ◌++◌, Option, None, Some, codes, slice_get}
use Rattle.std.specs.Fmt.{decimal}
use Rattle.rtl_bits.specs.declared.Bit.{Bit}
use Rattle.rtl_flat.specs.declared.signal.Signal.{Signal}
use Rattle.desk_report.specs.Tellings.{signal_path}
use Rattle.desk_report.specs.Values.{value_text}
use Rattle.vcd_check.specs.vcd_signals.vcd_read.declared.fault.VcdFault.{VcdFault}
use Rattle.vcd_check.specs.vcd_signals.vcd_read.declared.fault.VcdFault.TheVariants as text
use Rattle.vcd_check.specs.declared.verdict.CompareFault.{CompareFault}
use Rattle.vcd_check.specs.declared.verdict.CompareFault.TheVariants.{MissingInput, MissingRegister, NoNetlist, NeverKnown, Unlawful, Memory}
use Rattle.vcd_check.specs.declared.verdict.Verdict.{Verdict}
use Rattle.vcd_check.specs.declared.verdict.Verdict.TheVariants.{Agrees, Departs}

-- words, and a number
abbrev pub number_line : List ℕ → ℕ → List ℕ
number_line words number = words ++ (decimal number ++ codes "\n")

-- ---- verdicts

-- the two values, up to the end of the line
abbrev pub values_text : List Bit → List Bit → List ℕ
values_text recorded synthesised =
    codes " recorded "
    ++ (value_text recorded ++ (codes " synthesised " ++ (value_text synthesised ++ codes "\n")))

-- a departure: `departs time T signal PATH recorded V synthesised W`
abbrev pub departed_line : ℕ → List ℕ → List Bit → List Bit → List ℕ
departed_line time path recorded synthesised =
    codes "departs time "
    ++ (decimal time ++ (codes " signal " ++ (path ++ values_text recorded synthesised)))

-- a verdict, of a design with these signals; that a dump agrees is `agrees frames N`
abbrev pub verdict_line : List Signal → Verdict → List ℕ
verdict_line signals (Agrees frames) = number_line (codes "agrees frames ") frames
verdict_line signals (Departs time signal recorded synthesised) =
    departed_line time (signal_path (slice_get signals signal.0)) recorded synthesised

-- ---- refusals

-- a signal that isn't recorded: `missing PATH`
abbrev pub missing_line : List ℕ → List ℕ
missing_line path = codes "missing " ++ (path ++ codes "\n")

-- why a text is none that can be read, with the first place that keeps it from that, in bytes from 0; nothing is told
-- where memory ran out
abbrev pub read_line : VcdFault → Option (List ℕ)
read_line (text.Malformed at) = Some (number_line (codes "malformed byte ") at)
read_line (text.TooLarge at) = Some (number_line (codes "too large byte ") at)
read_line text.Memory = None

-- why nothing is told of a dump beside a design with these signals
abbrev pub compare_line : List Signal → CompareFault → Option (List ℕ)
compare_line signals (MissingInput signal) = Some (missing_line (signal_path (slice_get signals signal.0)))
compare_line signals (MissingRegister signal) = Some (missing_line (signal_path (slice_get signals signal.0)))
compare_line signals NoNetlist = Some (codes "no netlist\n")
compare_line signals NeverKnown = Some (codes "never known\n")
compare_line signals (Unlawful time) = Some (number_line (codes "unlawful time ") time)
compare_line signals Memory = None
