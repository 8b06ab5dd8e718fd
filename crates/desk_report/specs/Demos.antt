-- The lines that show a demonstration. Every line ends with a line feed.
-- Worked examples: crates/tests_rows/stdin.
use Rattle.std.specs.Prelude.{ℕ, List, ◌++◌, codes}
use Rattle.std.specs.Fmt.{decimal}
use Rattle.demo_told.specs.declared.demo.Demo.{Demo}
use Rattle.demo_told.specs.declared.demo.Shown.{Shown}
use Rattle.desk_report.specs.Values.{value_text}

-- the two values, up to the end of the line
abbrev pub values_text : Shown → List ℕ
values_text shown =
    codes " simulated "
    ++ (value_text shown.simulated
    ++ (codes " synthesised " ++ (value_text shown.synthesised ++ codes "\n")))

-- what a demonstration shows that is run again: `step K signal PATH simulated V synthesised W`
abbrev pub replay_line : Demo → List ℕ → Shown → List ℕ
replay_line demo path shown =
    codes "step " ++ (decimal demo.step ++ (codes " signal " ++ (path ++ values_text shown)))

-- what stands below a finding in a report: `  trial T step K signal PATH simulated V synthesised W`
abbrev pub demo_line : Demo → List ℕ → Shown → List ℕ
demo_line demo path shown =
    codes "  trial " ++ (decimal demo.trial ++ (codes " " ++ replay_line demo path shown))
