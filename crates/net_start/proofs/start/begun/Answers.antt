use Rattle.std.proofs.Common.{◌≡◌, ◌∙◌, ◌<◌, cond, get_or, length, sym, ap, arith}
use Rattle.std.proofs.lemmas.List.{get_or-map}
use Rattle.rtl_bits.specs.declared.Bit.TheVariants.{X}
use Rattle.rtl_bits.specs.Bits.{is_one_at}
use Rattle.rtl_flat.specs.declared.expr.SigId.{SigId}
use Rattle.rtl_flat.specs.Value.{store}
use Rattle.net_model.specs.Numbers.{fill_bit}
use Rattle.check_found.specs.rtl_scan.Sets.{has, mask_of}
use Rattle.net_start.specs.Stored.{places}
use Rattle.net_start.proofs.Given.{read_is}
use Rattle.net_start.proofs.Masking.{masked_more}
use Rattle.net_start.proofs.start.begun.Goals as goal

pub loop-place-preserved : goal.loop-place-preserved
loop-place-preserved c =
    let masks = c.args.kept.now.masks in
    let stored = c.args.stored.now in
    let registers = c.args.registers.now in
    let n = c.loop-place.place in
    let value = c.index-registers-place.result in
    let below : n < length registers = omega arith in
    let many = c.requires.many in
    let is : value ≡ store registers n = read_is registers n value below c.index-registers-place.is in
    let name : get_or (places stored) n 0 ≡ (get_or stored n (record { 0 = 0 })).0
    = get_or-map (λ (signal : SigId). signal.0) stored n (record { 0 = 0 }) 0 (omega (arith, below, many)) in
    let mask : c.mask.result ≡ mask_of masks (get_or (places stored) n 0)
    = c.mask.ensures ∙ ap (mask_of masks) (sym name) in
    masked_more masks c.args.fill (places stored) registers c.loop-place.made.items c.push.new.self.items n c.masked.result c.loop-place.invariant c.in_ok-push.ensures.items
    (c.masked.ensures.width ∙ ap length is) c.masked.ensures.known
    (λ k inside.
    let wide = ap length is in
    c.masked.ensures.bits k (omega (arith, inside, wide))
    ∙ (ap (λ m. cond (is_one_at m k) (get_or value k X) (fill_bit c.args.fill)) mask
    ∙ ap (λ bits. cond (has masks (get_or (places stored) n 0) k) (get_or bits k X) (fill_bit c.args.fill)) is))
