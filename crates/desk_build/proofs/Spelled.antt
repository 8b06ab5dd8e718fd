-- What modules that texts spell make of a top.
use Rattle.std.proofs.Common.{◌≡◌, ℕ, List, Result, Ok, Err}
use Rattle.std.specs.Prelude.{IfOk}
use Rattle.rtl_tree.specs.TreeModule.{Circuit}
use Rattle.text_ground.specs.declared.memory.Memory.{Memory}
use Rattle.rtl_prep.specs.Conditions.{FileConditions}
use Rattle.rtl_front.specs.declared.fault.FileFault.{FileFault}
use Rattle.rtl_front.specs.declared.fault.SourceFault.TheVariants as source
use Rattle.source_file.specs.declared.SourceFile.{SourceFile}
use Rattle.desk_build.specs.declared.front.Built.{Built as Made}
use Rattle.rtl_front.specs.Fronts.{AreAsked, AreSpelled, IsFirstFaulty}
use Rattle.desk_refusals.specs.Refusals.{source_line}
use Rattle.desk_build.specs.Building.{Faulty, Modules, IsBuilt, Refused, built, built_of}

pub built_ok : (top : List ℕ) (sources : List SourceFile) (texts : List (List ℕ)) (circuits : List (List Circuit)) (conditions : List FileConditions) (r : Result Made Memory) → AreSpelled texts circuits → AreAsked texts conditions
    → IfOk r (λ made. built made ≡ built_of top sources (Modules circuits conditions)) → IfOk r (λ made. IsBuilt top sources texts (built made))
built_ok top sources texts circuits conditions (Ok made) read asked is =
    record { front = Modules circuits conditions; is_front = (read, asked); is = is }
built_ok top sources texts circuits conditions (Err fault) read asked is = tt

pub faulty_ok : (top : List ℕ) (sources : List SourceFile) (texts : List (List ℕ)) (file : ℕ) (fault : FileFault) (r : Result Made Memory) → IsFirstFaulty texts (source.Refused file fault)
    → IfOk r (λ made. built made ≡ Refused (source_line sources file fault)) → IfOk r (λ made. IsBuilt top sources texts (built made))
faulty_ok top sources texts file fault (Ok made) faulty is = record { front = Faulty file fault; is_front = faulty; is = is }
faulty_ok top sources texts file fault (Err memory) faulty is = tt
