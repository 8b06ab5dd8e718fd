use Rattle.std.proofs.Common.{◌≡◌, ◌∙◌, ◌<◌, List, [], length, set, ap, sym, arith}
use Rattle.std.proofs.lemmas.List.{get_or_default}
use Rattle.rtl_bits.specs.declared.Bit.{Bit}
use Rattle.rtl_bits.specs.Bits.{replaced}
use Rattle.rtl_flat.specs.Value.{store}
use Rattle.net_body.proofs.Seen.{store_set, stored_number}
use Rattle.net_body.proofs.drives.store_bits.Goals as goal

pub replace-requires : goal.replace-requires
replace-requires c =
    let there = c.requires.there in
    let stored = c.requires.stored.stored in
    let here : c.args.signal.0 < length c.args.numbers.now = omega (arith, there, stored) in
    let wide = ap length (c.index-numbers-place.is ∙ get_or_default c.args.numbers.now c.args.signal.0 c.index-numbers-place.result [] here) in
    let same = c.requires.stored.each c.args.signal.0 in
    let inside = c.requires.inside in
    omega (arith, wide, same, inside)

pub returns-clause-numbers : goal.returns-clause-numbers
returns-clause-numbers c =
    let numbers = c.args.numbers.now in
    let i = c.args.signal.0 in
    let there = c.requires.there in
    let stored = c.requires.stored.stored in
    let here : i < length numbers = omega (arith, there, stored) in
    let number_is : c.index-numbers-place.result ≡ store numbers i = c.index-numbers-place.is ∙ get_or_default numbers i c.index-numbers-place.result [] here in
    ap (λ (bits : List Bit). store (set numbers i bits)) (c.replace.ensures.bits ∙ ap (replaced c.args.at c.args.bits) number_is)
    ∙ store_set numbers i (replaced c.args.at c.args.bits (store numbers i)) here

pub returns-clause-stored : goal.returns-clause-stored
returns-clause-stored c =
    let numbers = c.args.numbers.now in
    let i = c.args.signal.0 in
    let there = c.requires.there in
    let stored = c.requires.stored.stored in
    let here : i < length numbers = omega (arith, there, stored) in
    let number_is : c.index-numbers-place.result ≡ store numbers i = c.index-numbers-place.is ∙ get_or_default numbers i c.index-numbers-place.result [] here in
    stored_number c.args.signals.now numbers i c.replace.result c.requires.stored there (c.replace.ensures.width ∙ ap length number_is ∙ sym (c.requires.stored.each i))
