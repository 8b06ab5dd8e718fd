use Rattle.std.specs.Prelude.{None, Ok}
use Rattle.std.specs.List.{list_any}
use Rattle.std.proofs.Common.{◌∙◌, sym, ap}
use Rattle.rtl_prep.specs.Regions.{bounds_region}
use Rattle.rtl_prep.proofs.Kept.{no_regions}
use Rattle.rtl_prep.proofs.region.regions.Goals as goal

pub returns : goal.returns
returns c =
    no_regions c.args.tokens.items (ap (list_any bounds_region) (sym c.as_slice.ensures.value) ∙ sym c.has_regions.ensures ∙ c.if-has_regions.false)
    ∙ ap (λ dropped. Ok (record { opened = None; kept = c.args.tokens.items; dropped = dropped })) (sym c.new.ensures.items)
