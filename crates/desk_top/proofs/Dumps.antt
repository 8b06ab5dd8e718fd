-- A text that is read as a dump, or as none.
use Rattle.std.proofs.Common.{◌≡◌, ℕ, List, Some, Result, Ok, Err, sym, subst}
use Rattle.std.proofs.lemmas.Option.{none-some}
use Rattle.source_file.specs.declared.SourceFile.{SourceFile}
use Rattle.vcd_check.specs.vcd_signals.vcd_read.Reading.{Dump}
use Rattle.vcd_check.specs.vcd_signals.vcd_read.Told.{IsTold}
use Rattle.vcd_check.specs.vcd_signals.vcd_read.declared.fault.VcdFault.{VcdFault}
use Rattle.vcd_check.specs.vcd_signals.vcd_read.declared.fault.VcdFault.TheVariants as text
use Rattle.desk_top.specs.declared.deliver.Stop.{Stop}
use Rattle.desk_top.specs.declared.deliver.Work.{Work}
use Rattle.desk_top.specs.Delivery.{Outcome, IsWork}
use Rattle.desk_top.specs.Outcome.{IsBeside, IsReadBeside, read_outcome}
use Rattle.desk_top.proofs.Answered.{work_map}

-- why a text is none
abbrev IsNone : VcdFault → Outcome → Type 0
IsNone fault outcome = read_outcome fault ≡ Some outcome

module _ (top : List ℕ) (sources : List SourceFile) (texts : List (List ℕ)) (scope : List ℕ) where
  pub read_of : (dump : Dump) (r : Result Dump VcdFault) (work : Result Work Stop) → r ≡ Ok dump → IsWork (IsBeside top sources texts scope dump) work → IsWork (IsReadBeside top sources texts scope r) work
  read_of dump r work same is =
      subst (λ (x : Result Dump VcdFault). IsWork (IsReadBeside top sources texts scope x) work) (sym same) is

  unread_by : (fault : VcdFault) (r : Result Dump VcdFault) (work : Result Work Stop) → r ≡ Err fault → IsWork (IsNone fault) work → IsWork (IsReadBeside top sources texts scope r) work
  unread_by fault r work same is =
      subst (λ (x : Result Dump VcdFault). IsWork (IsReadBeside top sources texts scope x) work) (sym same) is

  pub unread_of : (fault : VcdFault) (r : Result Dump VcdFault) (work : Result Work Stop) → IsTold fault r → IsWork (λ outcome. read_outcome fault ≡ Some outcome) work → IsWork (IsReadBeside top sources texts scope r) work
  unread_of (text.Malformed at) r work told is = unread_by (text.Malformed at) r work told is
  unread_of (text.TooLarge at) r work told is = unread_by (text.TooLarge at) r work told is
  unread_of text.Memory r work told is =
      work_map {P = IsNone text.Memory} {Q = IsReadBeside top sources texts scope r} work is
      (λ outcome it. absurd (none-some outcome it))
