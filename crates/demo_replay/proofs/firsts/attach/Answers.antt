use Rattle.std.proofs.Common.{◌∙◌, length, refl, sym, ap, arith}
use Rattle.std.specs.Option.{option_map}
use Rattle.std.proofs.lemmas.List.{length-map}
use Rattle.std.proofs.lemmas.Option.{slice_get-map, slice_get_read}
use Rattle.demo_replay.specs.Firsts.{told}
use Rattle.demo_replay.proofs.firsts.attach.Goals as goal

pub returns : goal.returns
returns c =
    let found = c.in_ok-found.found.items in
    let count = sym (length-map found told) ∙ c.in_ok-found.ensures.count in
    let one = c.index.result.now in
    let there = slice_get_read found (length found) 0 one refl (omega (arith, count)) c.index.ensures in
    c.in_ok-found.ensures.each 0 c.args.finding.now (told one) refl (slice_get-map told found 0 ∙ ap (option_map told) there)
