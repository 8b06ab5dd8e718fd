use Rattle.std.proofs.Common.{◌≡◌, ◌∙◌, ◌<◌, [], length, set, inl, inr, sym, arith}
use Rattle.std.proofs.lemmas.Bool.{cases_lt}
use Rattle.std.proofs.lemmas.List.{get_or-set_other, get_or-set_same}
use Rattle.rtl_flat.specs.Value.{store}
use Rattle.net_body.specs.Marks.{view_at}
use Rattle.net_body.proofs.Ending.{seen_past, set_more, store_past}
use Rattle.net_body.proofs.Seen.{seen_read}
use Rattle.net_body.proofs.arms.restore_numbers.Goals as goal

pub loop-place-preserved : goal.loop-place-preserved
loop-place-preserved c =
    let asides = c.args.asides.now in
    let numbers = c.loop-place.numbers in
    let place = c.loop-place.place in
    let a = c.index-asides-place.result in
    let test = c.loop-place-test.true in
    let all = c.requires in
    let same = c.loop-place.auto.numbers in
    let there : place < length numbers = omega (arith, test, all, same) in
    let inside : place < length asides = omega (arith, test) in
    set_more (λ i bits. bits ≡ view_at (λ aside. aside.number) [] asides i) (store numbers) (store (set numbers place a.number)) place a.number c.loop-place.invariant
    (get_or-set_same numbers place a.number [] there)
    (seen_read (λ aside. aside.number) [] asides place a inside c.index-asides-place.is)
    (λ i apart. get_or-set_other numbers place i a.number [] apart)

pub returns : goal.returns
returns c = λ i.
    let asides = c.args.asides.now in
    let numbers = c.loop-place.numbers in
    let test = c.loop-place-test.false in
    let all = c.requires in
    let same = c.loop-place.auto.numbers in
    elim (cases_lt i (length asides)) as (λ _. store numbers i ≡ view_at (λ aside. aside.number) [] asides i) [
      | inl below ↦ c.loop-place.invariant i (omega (arith, below, test))
      | inr past ↦ store_past numbers i (omega (arith, past, all, same)) ∙ sym (seen_past (λ aside. aside.number) [] asides i past)
    ]
