use Rattle.std.proofs.Common.{◌≡◌, ◌<◌, ℕ, Some, map}
use Rattle.std.specs.List.{slice_get}
use Rattle.rtl_flat.specs.Process.{Doing}
use Rattle.net_model.specs.Cycle as cycle
use Rattle.rtl_rule.specs.Parts.{all_of}
use Rattle.rtl_flat.specs.Flats.{flat}
use Rattle.check_chains.specs.Branches.{AreRegisters}
use Rattle.check_chains.specs.Chains.{IsResetBranch}
use Rattle.check_chains.specs.Views.{guard_view}
use Rattle.check_chains.proofs.branches.has_bad.Given as goal

abbrev pub invariant-loop-guard : goal.invariant-loop-guard
invariant-loop-guard l =
    (does : Doing) → AreRegisters (flat l.design) does l.registers → (k : ℕ) (guard : cycle.Guard) → k < l.guard-index → slice_get (map guard_view l.resets) k ≡ Some guard → IsResetBranch (flat l.design) does (all_of guard.branch)
