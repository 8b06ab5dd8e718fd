-- What the targets of assignments are in a design in which a rule has no finding.
use Rattle.std.specs.Prelude.{ℕ, []}
use Rattle.rtl_flat.specs.Process.{Actions}
use Rattle.net_laws.specs.event_laws.Steady.{AreLawful}
use Rattle.event_settling.specs.Conditions.{AllSelectIn}
use Rattle.rtl_flat.specs.Flats.{Flat, widths}
use Rattle.check_unknown.specs.Unknowns.{AreSelectRange}
use Rattle.check_laws.specs.Cases.{IsBodyOf}

-- X2: each nonblocking assignment of a body may write some bit
abbrev pub SelectTargets : Flat → Type 0
SelectTargets d =
    AreLawful d → AreSelectRange d [] →
    (p : ℕ) (body : Actions) → IsBodyOf d p body → AllSelectIn (widths d) body
