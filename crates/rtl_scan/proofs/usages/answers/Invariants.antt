use Rattle.rtl_scan.specs.Usage.{AreAnswers}
use Rattle.rtl_scan.proofs.usages.answers.Given as goal

abbrev pub invariant-loop-place : goal.invariant-loop-place
invariant-loop-place l = AreAnswers l.signals l.usages l.place l.answers.items
