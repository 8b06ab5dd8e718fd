use Rattle.std.proofs.Common.{refl}
use Rattle.rtl_bits.specs.declared.Bit.TheVariants.{Zero, One}
use Rattle.demo_trials.proofs.Known.{known_filled}
use Rattle.demo_trials.proofs.trial.Trial.start.Goals as goal
use Rattle.demo_trials.proofs.trial.Trial.start.Goals.{then-self-eq0, else-self-eq0}

pub returns-after-self-eq0-clause-known : goal.returns-after-self-eq0-clause-known
returns-after-self-eq0-clause-known c =
    elim c.if-self-eq0.branch [
      | then-self-eq0 w ↦ known_filled c.args.width _ Zero _ c.filled.ensures.bits w.bit-is refl
      | else-self-eq0 w ↦ known_filled c.args.width _ One _ c.filled.ensures.bits w.bit-is refl
    ]
