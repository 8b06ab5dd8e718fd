use Rattle.std.proofs.Common.{◌∙◌, [], ◌∷◌, ap, eqb}
use Rattle.std.proofs.lemmas.List.Elements.{filter_map-append}
use Rattle.rtl_rule.specs.Parts.{spot_if}
use Rattle.check_clocks.specs.Uses.{places_of}
use Rattle.check_clocks.specs.declared.uses.Use.{Use}
use Rattle.check_clocks.proofs.uses.push_use.Goals as goal

pub returns-in_ok-push : goal.returns-in_ok-push
returns-in_ok-push c =
    let one : Use = record { signal = c.in-Some.signal; spot = c.args.spot } in
    λ s. rw c.in-Some.is (ap (places_of s) c.in_ok-push.ensures.items ∙ filter_map-append (λ (x : Use). spot_if (eqb x.signal.0 s) x.spot) c.args.found.now.items (one ∷ []))
