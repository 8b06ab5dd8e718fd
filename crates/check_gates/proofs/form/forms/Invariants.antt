use Rattle.rtl_flat.specs.Flats.{flat}
use Rattle.check_gates.specs.Forms.{AreForms}
use Rattle.check_gates.proofs.form.forms.Given as goal

abbrev pub invariant-loop-number : goal.invariant-loop-number
invariant-loop-number l = AreForms (flat l.scans.design.now) l.number l.forms.items
