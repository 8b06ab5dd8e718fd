use Rattle.std.proofs.Common.{◌≡◌, ◌∙◌, ◌<◌, ◌++◌, List, drop, length, take, sym, ap, subst}
use Rattle.std.specs.List.{All}
use Rattle.std.proofs.lemmas.List.{length-map}
use Rattle.rtl_bits.specs.declared.Bit.{Bit}
use Rattle.rtl_flat.specs.declared.expr.SigId.{SigId}
use Rattle.rtl_flat.specs.Value.{store}
use Rattle.check_found.proofs.rtl_scan_proofs.Users.{written_back}
use Rattle.rtl_flat.specs.Flats.{flat}
use Rattle.net_start.specs.Listing.{AreGiven, AreMasked}
use Rattle.net_start.specs.Start.{IsStart}
use Rattle.net_start.specs.Stored.{places}
use Rattle.net_start.proofs.Masking.{fills_length}
use Rattle.net_start.proofs.Started.{all_inside, is_start, stored_there, top_there}
use Rattle.net_start.proofs.start.start.Goals as goal

pub give-requires-clause-inside : goal.give-requires-clause-inside
give-requires-clause-inside c =
    let d = flat c.args.design.now in
    let size : length c.deref_mut.result.now ≡ length d.signals
    = ap (λ (l : List (List Bit)). length l) (c.deref_mut.ensures.value ∙ c.in_ok-numbers.ensures) ∙ fills_length c.args.fill d.signals in
    subst (λ m. All (λ (signal : SigId). signal.0 < m) c.args.stored.now) (sym size)
    (all_inside (length d.signals) c.args.stored.now (λ s among. stored_there d s ((c.requires.stored.each s).0 among)))

pub give-requires-2-clause-inside : goal.give-requires-2-clause-inside
give-requires-2-clause-inside c =
    let d = flat c.args.design.now in
    let items = c.in_ok-numbers.numbers.items in
    let mid = c.give.new.numbers in
    let long : length mid ≡ length items = c.give.auto.numbers ∙ ap (λ (l : List (List Bit)). length l) c.deref_mut.ensures.value in
    let same : c.deref_mut-2.result.now ≡ mid
    = c.deref_mut-2.ensures.value ∙ written_back items mid c.in_ok-numbers.numbers.len long c.in_ok-numbers.numbers.ok.0 in
    let size : length c.deref_mut-2.result.now ≡ length d.signals
    = ap (λ (l : List (List Bit)). length l) same
    ∙ (long ∙ (ap (λ (l : List (List Bit)). length l) c.in_ok-numbers.ensures ∙ fills_length c.args.fill d.signals)) in
    subst (λ m. All (λ (signal : SigId). signal.0 < m) c.args.tops.now) (sym size)
    (all_inside (length d.signals) c.args.tops.now (λ s among. top_there d s ((c.requires.tops.each s).0 among)))

pub returns-clause-start : goal.returns-clause-start
returns-clause-start c =
    let d = flat c.args.design.now in
    let f = c.args.fill in
    let stored = c.args.stored.now in
    let tops = c.args.tops.now in
    let registers = c.args.registers.now in
    let inputs = c.args.inputs.now in
    let items = c.in_ok-numbers.numbers.items in
    let n = c.in_ok-numbers.numbers.len in
    let first = c.deref_mut.result.now in
    let made = c.deref.result.now in
    let mid = c.give.new.numbers in
    let second = c.deref_mut-2.result.now in
    let last = c.give-2.new.numbers in
    let held = take n (mid ++ drop (length mid) items) in
    let long : length mid ≡ length items = c.give.auto.numbers ∙ ap (λ (l : List (List Bit)). length l) c.deref_mut.ensures.value in
    let ok = c.in_ok-numbers.numbers.ok.0 in
    let whole : held ≡ mid = written_back items mid n long ok in
    let same : second ≡ mid = c.deref_mut-2.ensures.value ∙ whole in
    let held_long : length held ≡ length items = ap (λ (l : List (List Bit)). length l) whole ∙ long in
    let last_long : length last ≡ length held
    = c.give-2.auto.numbers ∙ ap (λ (l : List (List Bit)). length l) (same ∙ sym whole) in
    let back : take n (last ++ drop (length last) held) ≡ last
    = written_back held last n last_long (ok ∙ sym held_long) in
    let masked : AreMasked c.args.kept.now.masks f (places stored) registers (length registers) made
    = subst (λ (l : List (List Bit)). AreMasked c.args.kept.now.masks f (places stored) registers (length registers) l) (sym c.deref.ensures.value) c.in_ok-begun.ensures in
    let one : AreGiven (places stored) made (length (places stored)) (store first) (store mid)
    = subst (λ m. AreGiven (places stored) made m (store first) (store mid)) (sym (length-map stored (λ (signal : SigId). signal.0))) c.give.ensures in
    let other : AreGiven (places tops) inputs (length (places tops)) (store mid) (store last)
    = subst (λ m. AreGiven (places tops) inputs m (store mid) (store last)) (sym (length-map tops (λ (signal : SigId). signal.0)))
    (subst (λ (l : List (List Bit)). AreGiven (places tops) inputs (length tops) (store l) (store last)) same c.give-2.ensures) in
    subst (λ (l : List (List Bit)). IsStart d f (places stored) registers (places tops) inputs (store l)) (sym back)
    (is_start d f c.args.kept.now.masks c.requires.kept (places stored) registers (places tops) inputs c.requires.stored c.requires.tops c.requires.registers c.requires.inputs c.requires.inputs_known
    made first mid last masked (c.deref_mut.ensures.value ∙ c.in_ok-numbers.ensures) one other)
