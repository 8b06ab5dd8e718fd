use Rattle.std.proofs.Common.{◌∙◌, ◌||◌, ap, sym, get_or, set}
use Rattle.std.specs.Prelude.{bit_or}
use Rattle.std.proofs.lemmas.List.{get_or_default}
use Rattle.rtl_scan.proofs.Masks.{or_nothing, put_or}
use Rattle.check_found.specs.Masks.{has_in, mask_in}
use Rattle.check_found.proofs.Filled.{filled, no_row}
use Rattle.check_found.proofs.masks.SignalMasks.insert.Goals as goal

pub returns-then-row-eq0 : goal.returns-then-row-eq0
returns-then-row-eq0 c = λ s k.
    or_nothing (has_in c.args.self.now s k) ∙ ap (λ b. has_in c.args.self.now s k || b) (sym (no_row c.args.row c.if-row-eq0.true s k))

pub returns : goal.returns
returns c =
    let grown = c.reach.new.masks.items in
    let place = c.args.row.signal.0 in
    let mask = c.index_mut.result.now in
    let told = c.in_ok-reach.ensures in
    put_or (mask_in c.args.self.now) (λ s. get_or (set grown place (bit_or mask c.args.row.mask)) s 0) c.args.row mask
    (c.index_mut.ensures.value ∙ get_or_default grown place mask 0 told.there ∙ told.same place)
    (filled grown (mask_in c.args.self.now) place (bit_or mask c.args.row.mask) told.there told.same)
