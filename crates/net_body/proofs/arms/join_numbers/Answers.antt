use Rattle.std.proofs.Common.{◌≡◌, ◌∙◌, ◌<◌, [], length, set, inl, inr, sym, arith}
use Rattle.std.proofs.lemmas.Bool.{cases_lt}
use Rattle.std.proofs.lemmas.List.{get_or-set_other, get_or-set_same}
use Rattle.rtl_flat.specs.Value.{store}
use Rattle.net_model.specs.Block.{joined_arms}
use Rattle.net_body.proofs.Ending.{set_more, store_past}
use Rattle.net_body.proofs.Seen.{seen_read}
use Rattle.net_body.proofs.Siding.{joined_number_is, joined_past, one_aside}
use Rattle.net_body.proofs.arms.join_numbers.Goals as goal

pub joined_number-requires : goal.joined_number-requires
joined_number-requires c =
    let asides = c.args.asides.now in
    let place = c.loop-place.place in
    let a = c.index-asides-place.result in
    let inside = c.loop-place-test.true in
    let one = seen_read (λ aside. length aside.sum) 0 asides place a inside c.index-asides-place.is in
    let two = seen_read (λ aside. length aside.number) 0 asides place a inside c.index-asides-place.is in
    let sums = c.requires.same.sum place in
    let numbers = c.requires.same.number place in
    omega (arith, one, two, sums, numbers)

pub loop-place-preserved : goal.loop-place-preserved
loop-place-preserved c = λ m arms are.
    let asides = c.args.asides.now in
    let numbers = c.loop-place.numbers in
    let place = c.loop-place.place in
    let a = c.index-asides-place.result in
    let rep = c.joined_number.result in
    let test = c.loop-place-test.true in
    let all = c.requires.asides in
    let same = c.loop-place.auto.numbers in
    let there : place < length numbers = omega (arith, test, all, same) in
    set_more (λ i bits. bits ≡ (joined_arms m arms).now i) (store numbers) (store (set numbers place rep)) place rep (c.loop-place.invariant m arms are)
    (get_or-set_same numbers place rep [] there)
    (joined_number_is m arms place a rep (one_aside m arms asides are place a test c.index-asides-place.is) c.joined_number.ensures.bits)
    (λ i apart. get_or-set_other numbers place i rep [] apart)

pub returns : goal.returns
returns c = λ m arms are i.
    let asides = c.args.asides.now in
    let numbers = c.loop-place.numbers in
    let test = c.loop-place-test.false in
    let all = c.requires.asides in
    let same = c.loop-place.auto.numbers in
    elim (cases_lt i (length asides)) as (λ _. store numbers i ≡ (joined_arms m arms).now i) [
      | inl below ↦ c.loop-place.invariant m arms are i (omega (arith, below, test))
      | inr past ↦ store_past numbers i (omega (arith, past, all, same)) ∙ sym (joined_past m arms asides are i past)
    ]
