-- Without findings doubtful signals are marks, the design is clean, and steps from known values come to rest.
use Rattle.std.proofs.Common.{ℕ, true, [], refl}
use Rattle.rtl_flat.specs.Flats.{Flat, Parts}
use Rattle.net_model.specs.declared.fill.Fill.{Fill}
use Rattle.net_model.specs.Cycle.{AreChains, Chain}
use Rattle.check_clean.specs.check_all.Findings.{AreAllFindings}
use Rattle.check_clean.specs.check_laws.Expressions.{AreMarked}
use Rattle.check_clean.specs.check_unknown.Unknowns.{IsDoubtful, Latched}
use Rattle.check_clean.specs.event_laws.Steady.{AreLawful}
use Rattle.check_clean.specs.Ending.{FulfilledByRules, IsFulfilled}
use Rattle.check_clean.proofs.Clean.{clean}
use Rattle.unknown_starts.specs.sign_unknown.Laws.{AreStartMarks, StepsRest}
use Rattle.unknown_starts.proofs.sign_unknown_proofs.Sound.{sound_by}
use Rattle.unknown_starts.proofs.Starts.{completed}
use Rattle.unknown_laws.specs.Doubt.{TellsNoUnknown}
use Rattle.unknown_laws.proofs.Marks.{doubtful_marks}
use Rattle.unknown_laws.proofs.Registers.{registers_reset}
use Rattle.unknown_laws.proofs.Told.{free_tells_none}
use Rattle.sign_firm.specs.Firm.{CompleteByRules, SoundByRules}

-- doubtful signals are marks, and begin with latches and with registers that have no reset
start_marks :
    (d : Flat) → AreLawful d → AreMarked d → TellsNoUnknown d →
    (chains : ℕ → Chain) → AreChains d chains → AreStartMarks d chains (IsDoubtful d)
start_marks d lawful marked told chains chained =
    record {
      marks = doubtful_marks d lawful marked told;
      registers = λ i k register sure k' register'. registers_reset d lawful chains chained i k' register' sure;
      latches = λ i k bit. Latched i k bit;
    }

-- where promises are fulfilled, steps come to rest
steps_rest : (d : Flat) (chains : ℕ → Chain) (fill : Fill) → IsFulfilled d chains fill → StepsRest d chains fill
steps_rest d chains fill fulfilled s n settled steps lawful =
    let it = fulfilled.shown s n settled steps lawful in (it.states, it.runs)

-- those of a design without findings
marks_by_rules :
    (d : Parts) → AreLawful d.flat → AreMarked d.flat → AreAllFindings d [] →
    (chains : ℕ → Chain) → AreChains d.flat chains → AreStartMarks d.flat chains (IsDoubtful d.flat)
marks_by_rules d lawful marked are chains chained =
    start_marks d.flat lawful marked (free_tells_none d (λ rule. true) refl refl refl [] are refl) chains chained

pub sound_by_rules : (d : Parts) → FulfilledByRules d → SoundByRules d
sound_by_rules d fulfilled lawful marked are chains chained fill =
    let design = clean d lawful marked [] are refl in
    let marks = marks_by_rules d lawful marked are chains chained in
    let rest = steps_rest d.flat chains fill (fulfilled lawful marked [] are refl chains chained fill) in
    sound_by d.flat chains design.level (design.clean chains chained) (IsDoubtful d.flat) marks fill rest

pub complete_by_rules : (d : Parts) → CompleteByRules d
complete_by_rules d lawful marked are chains chained fill s settled r choice =
    let design = clean d lawful marked [] are refl in
    completed d.flat chains design.level (design.clean chains chained) (IsDoubtful d.flat) (marks_by_rules d lawful marked are chains chained) fill s settled r choice
