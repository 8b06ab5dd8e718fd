use Rattle.std.proofs.Common.{refl}
use Rattle.rtl_front.proofs.law.limits.Goals as goal

pub returns : goal.returns
returns c =
    record { bytes = refl; tokens = refl; word = refl; replacements = refl; nesting = refl }
