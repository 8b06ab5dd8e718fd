-- The numbers after a step.
use Rattle.std.proofs.Common.{◌∙◌, refl}
use Rattle.rtl_flat.specs.Flats.{Flat}
use Rattle.net_settle.specs.Laws.{MakeCycles}

pub cycle : (d : Flat) → MakeCycles d
cycle d chains f old step given new taken solution = record {
  inputs = λ i is. solution.inputs i is ∙ taken.inputs i is;
  registers = λ p events body here i k may lasts.
      solution.kept i k (record { process = p; events = events; body = body; does = here; may = may; lasting = lasts })
      ∙ taken.registers p events body here i k may lasts;
  rest = record {
    numbers = solution.numbers;
    inputs = λ i is. refl;
    kept = λ i k is. refl;
    assigns = solution.assigns;
    blocks = solution.blocks;
    others = solution.others;
  };
}
