use Rattle.net_body.proofs.Merging.{picked_digit}
use Rattle.net_body.proofs.bits.merged_digits.Goals as goal

pub returns : goal.returns
returns c = λ k. picked_digit c.args.mask c.args.new c.args.old k
