-- What texts make of a top, and the answer that follows.
use Rattle.std.proofs.Common.{◌≡◌, ℕ, List, codes, Result, subst}
use Rattle.source_file.specs.SourceFiles.{texts_in}
use Rattle.source_file.specs.declared.SourceFile.{SourceFile}
use Rattle.vcd_check.specs.vcd_signals.vcd_read.Reading.{Dump}
use Rattle.desk_top.specs.declared.deliver.Stop.{Stop}
use Rattle.desk_top.specs.declared.deliver.Work.{Work}
use Rattle.desk_top.specs.declared.simulate.Plan.{Plan}
use Rattle.desk_build.specs.Building.{Built, IsBuilt}
use Rattle.desk_top.specs.Delivery.{IsWork}
use Rattle.desk_top.specs.Outcome.{IsAnswer, IsBeside, IsComparedWith, IsGenerated, IsJudged, IsReplayIn, IsShownIn, IsStaged, IsStepped, IsTried, generated_sources}
use Rattle.desk_top.specs.Plans.{IsPlan}
use Rattle.desk_top.proofs.Answered.{plan_map, work_map}

-- the answer for what texts make
pub judged_of : (top : List ℕ) (sources : List SourceFile) (texts : List (List ℕ)) (b : Built) (work : Result Work Stop) → IsBuilt top sources texts b
    → IsWork (IsAnswer top sources b) work → IsWork (IsJudged top sources texts) work
judged_of top sources texts b work made is =
    work_map {P = IsAnswer top sources b} {Q = IsJudged top sources texts} work is
    (λ outcome it. record { built = b; is_built = made; is = it })

-- the answer for a generated text over what it makes
pub generated_of : (stages : ℕ) (files : List SourceFile) (b : Built) (work : Result Work Stop) → files ≡ generated_sources stages → IsBuilt (codes "top") files (texts_in files) b
    → IsWork (IsStaged stages b) work → IsWork (IsGenerated stages) work
generated_of stages files b work are made is =
    work_map {P = IsStaged stages b} {Q = IsGenerated stages} work is
    (λ outcome it. record {
      built = b;
      is_built = subst (λ (all : List SourceFile). IsBuilt (codes "top") all (texts_in all) b) are made;
      is = it;
    })

-- the answer for steps over what texts make
pub stepped_of : (top : List ℕ) (sources : List SourceFile) (texts : List (List ℕ)) (steps : List ℕ) (b : Built) (plan : Result Plan Stop) → IsBuilt top sources texts b
    → IsPlan (IsTried steps b) plan → IsPlan (IsStepped top sources texts steps) plan
stepped_of top sources texts steps b plan made is =
    plan_map {P = IsTried steps b} {Q = IsStepped top sources texts steps} plan is
    (λ outcome it. record { built = b; is_built = made; is = it })

-- the answer for a demonstration over what texts make
pub replayed_of : (top : List ℕ) (sources : List SourceFile) (texts : List (List ℕ)) (demo : List ℕ) (b : Built) (work : Result Work Stop) → IsBuilt top sources texts b
    → IsWork (IsShownIn demo b) work → IsWork (IsReplayIn top sources texts demo) work
replayed_of top sources texts demo b work made is =
    work_map {P = IsShownIn demo b} {Q = IsReplayIn top sources texts demo} work is
    (λ outcome it. record { built = b; is_built = made; is = it })

-- the answer for a dump over what texts make
pub compared_of : (top : List ℕ) (sources : List SourceFile) (texts : List (List ℕ)) (scope : List ℕ) (dump : Dump) (b : Built) (work : Result Work Stop) → IsBuilt top sources texts b
    → IsWork (IsComparedWith scope dump b) work → IsWork (IsBeside top sources texts scope dump) work
compared_of top sources texts scope dump b work made is =
    work_map {P = IsComparedWith scope dump b} {Q = IsBeside top sources texts scope dump} work is
    (λ outcome it. record { built = b; is_built = made; is = it })
