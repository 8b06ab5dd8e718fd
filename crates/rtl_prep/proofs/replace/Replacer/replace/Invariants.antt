use Rattle.std.proofs.Common.{◌≡◌, map, [], Ok}
use Rattle.rtl_prep.specs.Stops.{and_then}
use Rattle.rtl_prep.specs.Macros as spec
use Rattle.rtl_prep.specs.Tables as table
use Rattle.rtl_prep.specs.declared.replace.TheConstants.{MAX_REPLACEMENTS}
use Rattle.rtl_prep.specs.Tables.{held, gained, seen_frame}
use Rattle.rtl_prep.proofs.Resumes.{resumed, spare, without, weight, IsWithin}
use Rattle.rtl_prep.proofs.replace.Replacer.replace.Given as goal

abbrev pub invariant-loop-frame : goal.invariant-loop-frame
invariant-loop-frame l =
    (l.self.text.now ≡ l.fn.self.text.now) × IsWithin (held l.self l.frames)
    × (resumed (spare (map seen_frame l.frames)) l.fn.self.text.now l.fn.at (table.table l.self.macros) (map seen_frame l.frames) (gained l.self)
    ≡ and_then (spec.used MAX_REPLACEMENTS l.fn.self.text.now (table.table l.fn.self.macros) l.fn.at l.fn.name (gained l.fn.self)) (λ g. Ok (without (table.table l.fn.self.macros) [] g)))

abbrev pub decreases-loop-frame : goal.decreases-loop-frame
decreases-loop-frame l = weight (held l.self l.frames)
