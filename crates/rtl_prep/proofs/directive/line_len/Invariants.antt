use Rattle.std.proofs.Common.{◌≡◌, ◌+◌, drop}
use Rattle.rtl_prep.specs.Directives as spec
use Rattle.rtl_prep.proofs.directive.line_len.Given as goal

abbrev pub invariant-loop-count : goal.invariant-loop-count
invariant-loop-count l = l.count + spec.line_len l.text l.last (drop l.count l.rest) ≡ spec.line_len l.text l.fn.token l.rest
