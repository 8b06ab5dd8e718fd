-- What a design without a finding of either grade is.
-- Worked examples: crates/tests_rows/stdin.
use Rattle.std.specs.Prelude.{ℕ, []}
use Rattle.rtl_flat.specs.Flats.{Flat, Parts}
use Rattle.net_model.specs.declared.fill.Fill.{Fill}
use Rattle.net_model.specs.Cycle.{AreChains, Chain}
use Rattle.check_clean.specs.check_all.Findings.{AreAllFindings}
use Rattle.check_clean.specs.check_laws.Expressions.{AreMarked}
use Rattle.check_clean.specs.event_laws.Steady.{AreLawful}
use Rattle.unknown_starts.specs.Starts.{Completes}
use Rattle.unknown_starts.specs.sign_unknown.Unknown.{IsSound}

-- what is promised of a design without a finding of either grade. Whichever tests are taken for those of resets, and for either
-- fill: from every settled state whose inputs and whose registers with a reset are known, all others holding anything, each bit
-- that is known after lawful steps is the synthesised number's, whatever the unknown bits are taken for; and each choice of digits
-- for these has numbers
pub record IsFirm (d : Flat) : Type 0 where
  pub sound : (chains : ℕ → Chain) → AreChains d chains → (fill : Fill) → IsSound d chains fill
  pub complete : (chains : ℕ → Chain) → AreChains d chains → (fill : Fill) → Completes d chains fill

-- where no rule has a finding in a lawful design, simulation from unknown values is sound for its synthesis, whichever tests
-- are taken for those of resets, and for either fill
abbrev pub SoundByRules : Parts → Type 0
SoundByRules d =
    AreLawful d.flat → AreMarked d.flat → AreAllFindings d [] →
    (chains : ℕ → Chain) → AreChains d.flat chains → (fill : Fill) → IsSound d.flat chains fill

-- and each settled state has numbers of which that speaks, whatever its unknown registers and closed latches are taken for
abbrev pub CompleteByRules : Parts → Type 0
CompleteByRules d =
    AreLawful d.flat → AreMarked d.flat → AreAllFindings d [] →
    (chains : ℕ → Chain) → AreChains d.flat chains → (fill : Fill) → Completes d.flat chains fill
