use Rattle.std.specs.List.{list_any}
use Rattle.std.proofs.Common.{◌∙◌, sym, ap}
use Rattle.rtl_prep.specs.Initials.{is_initial}
use Rattle.rtl_prep.proofs.Kept.{no_initials}
use Rattle.rtl_prep.proofs.initial.initials.Goals as goal

pub returns : goal.returns
returns c =
    no_initials c.args.text.now c.args.dropped.items c.args.tokens.items
    (ap (list_any (is_initial c.args.text.now)) (sym c.as_slice.ensures.value) ∙ sym c.has_initials.ensures ∙ c.if-has_initials.false)
