use Rattle.std.proofs.Common.{◌∙◌, ◌&&◌, cond, length, get_or, not, ap}
use Rattle.std.specs.Prelude.{bit_and, bit_xor}
use Rattle.rtl_bits.specs.declared.Bit.TheVariants.{X}
use Rattle.rtl_bits.specs.Bits.{is_one_at}
use Rattle.rtl_bits.proofs.Lists.{tabulate-congr}
use Rattle.rtl_scan.proofs.Masks.{without_is}
use Rattle.net_body.proofs.arms.Aside.joined_number.Goals as goal

pub returns-clause-bits : goal.returns-clause-bits
returns-clause-bits c =
    let wrote = c.args.self.wrote in
    let late = c.args.self.late in
    let sum = c.args.self.sum in
    let number = c.args.self.number in
    c.merged.ensures.bits
    ∙ tabulate-congr (length number) (λ k. cond (is_one_at (bit_and wrote (bit_xor wrote late)) k) (get_or sum k X) (get_or number k X)) (λ k. cond (is_one_at wrote k && not (is_one_at late k)) (get_or sum k X) (get_or number k X))
    (λ k below. ap (λ b. cond b (get_or sum k X) (get_or number k X)) (without_is wrote late k))
