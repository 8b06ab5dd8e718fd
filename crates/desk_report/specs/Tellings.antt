-- What is told of findings: what each is about, and where it shows.
-- Worked examples: crates/tests_rows/stdin.
use Rattle.std.specs.Prelude.{ℕ, List, [], ◌∷◌, Option, None, Some, drop, slice_get}
use Rattle.rtl_flat.specs.declared.expr.SigId.{SigId}
use Rattle.rtl_flat.specs.declared.instance.Instance.{Instance}
use Rattle.rtl_flat.specs.declared.signal.Signal.{Signal}
use Rattle.rtl_rule.specs.declared.finding.Finding.{Finding}
use Rattle.demo_told.specs.declared.demo.Demo.{Demo}
use Rattle.demo_told.specs.declared.demo.Shown.{Shown}
use Rattle.demo_told.specs.declared.told.Told.{Told}
use Rattle.desk_rows.specs.declared.Row.{Row}

abbrev pub signal_path : Option Signal → List ℕ
signal_path None = []
signal_path (Some signal) = signal.path

abbrev pub instance_path : Option Instance → List ℕ
instance_path None = []
instance_path (Some instance) = instance.path

-- the path of a signal, or of an instance where no signal is named; empty where there is none with the number
abbrev pub path_in : List Signal → List Instance → ℕ → Option SigId → List ℕ
path_in signals instances instance None = instance_path (slice_get instances instance)
path_in signals instances instance (Some signal) = signal_path (slice_get signals signal.0)

-- what a finding is about
abbrev pub target_in : List Signal → List Instance → Finding → List ℕ
target_in signals instances finding = path_in signals instances finding.instance finding.signal

-- where a finding shows, with the path of the signal there
abbrev pub demo_in : List Signal → Option (Demo × Shown) → Option (Demo × List ℕ × Shown)
demo_in signals None = None
demo_in signals (Some (demo, shown)) =
    Some (demo, signal_path (slice_get signals demo.signal.0), shown)

abbrev pub telling : List Signal → List Instance → Finding → Option (Demo × Shown) → Told
telling signals instances finding shown =
    record { target = target_in signals instances finding; demo = demo_in signals shown }

-- a finding with what is told of it
abbrev pub row_in : List Signal → List Instance → Finding → Option (Demo × Shown) → Row
row_in signals instances finding shown =
    record { finding = finding; told = telling signals instances finding shown }

-- where the first of some shows
abbrev pub first_shown : List (Option (Demo × Shown)) → Option (Demo × Shown)
first_shown [] = None
first_shown (one ∷ others) = one

-- findings, of which the first ones show, each with what is told of it
abbrev pub tellings : List Signal → List Instance → List Finding → List (Option (Demo × Shown)) → List Row
tellings signals instances [] shown = []
tellings signals instances (finding ∷ others) shown =
    row_in signals instances finding (first_shown shown)
    ∷ tellings signals instances others (drop 1 shown)
