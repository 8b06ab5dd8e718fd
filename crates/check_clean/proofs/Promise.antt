-- A design without findings of the first grade keeps its promise.
use Rattle.sign_cycles.proofs.BringUp.{brings_up, known_settles}
use Rattle.sign_cycles.proofs.Lacking.{bring_ups}
use Rattle.sign_cycles.proofs.Steps.{agreement}
use Rattle.rtl_flat.specs.Flats.{Parts}
use Rattle.check_laws.proofs.Gates.{gate_input_decided}
use Rattle.check_clean.specs.Promise.{PromisedByRules}
use Rattle.check_clean.proofs.Benches.{benches}
use Rattle.check_clean.proofs.Clean.{clean}
use Rattle.check_clean.proofs.Runs.{ends, levelled}

pub promised : (d : Parts) → PromisedByRules d
promised d lawful marked findings are is =
    let design = clean d lawful marked findings are is in
    record {
      chains = design.chains;
      chained = design.chained;
      agrees = λ choice chained fill. agreement d.flat choice design.level (design.clean choice chained) fill;
      ends = ends d lawful findings are is;
      levelled = levelled d lawful findings are is;
      benches = benches d lawful marked findings are is;
      bring_ups = λ choice chained.
          bring_ups d.flat choice design.level (design.clean choice chained) (gate_input_decided d.flat are.gates are.are_gates);
      known = λ choice chained fill.
          known_settles d.flat choice design.level (design.clean choice chained) design.wakes fill;
      brought_up = λ choice chained resets fill. brings_up d.flat choice design.level (design.clean choice chained) design.wakes resets fill;
    }
