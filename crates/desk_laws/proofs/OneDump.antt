-- What is told of a dump is settled by the design, the scope and the text of the dump.
use Rattle.std.proofs.Common.{◌≡◌, ◌∙◌, ◌⊎◌, ℕ, List, Option, Some, None, Result, Ok, Err, refl, sym, ap, subst, inl, inr}
use Rattle.std.proofs.lemmas.Option.{none-some, same_Some}
use Rattle.desk_io.specs.declared.shelf.ShelfFault.{ShelfFault}
use Rattle.rtl_flat.specs.Flats.{DesignParts}
use Rattle.source_file.specs.declared.SourceFile.{SourceFile}
use Rattle.vcd_check.specs.vcd_signals.vcd_read.Reading.{Dump, read}
use Rattle.vcd_check.specs.vcd_signals.vcd_read.declared.fault.VcdFault.{VcdFault}
use Rattle.vcd_check.specs.declared.verdict.CompareFault.{CompareFault}
use Rattle.vcd_check.specs.declared.verdict.CompareFault.TheVariants.{Memory}
use Rattle.vcd_check.specs.declared.verdict.Verdict.{Verdict}
use Rattle.vcd_check.specs.Verdicts.{IsCompareFault, IsVerdict}
use Rattle.vcd_laws.proofs.Verdicts.{no_fault, one_fault, one_verdict}
use Rattle.demo_laws.specs.Laws.{AreProcesses}
use Rattle.desk_top.specs.desk_build.Building.{Built, Designed, IsBuilt, Refused}
use Rattle.desk_top.specs.Delivery.{Outcome}
use Rattle.desk_top.specs.Outcome.{IsBeside, IsCompared, IsComparedWith, IsComparing, IsReadBeside, Told, Untold, compare_outcome, verdict_outcome}
use Rattle.desk_top.specs.Texts.{named}
use Rattle.desk_laws.proofs.OneBuilt.{OneLine, one_built}
use Rattle.desk_laws.proofs.OneDemo.{processes_of}

-- ---- a design and a dump

module _ (design : DesignParts) (lawful : AreProcesses design.parts.flat) (scope : List ℕ) (dump : Dump) where
  -- what is written of a reason why nothing is told
  abbrev says : CompareFault → Option Outcome
  says fault = compare_outcome design fault

  -- want of memory has none
  memory_says : (fault : CompareFault) (outcome : Outcome) → fault ≡ Memory → says fault ≡ Some outcome → ⊥
  memory_says fault outcome memory is = none-some outcome (sym (ap says memory) ∙ is)

  told_or_not : (verdict : Verdict) (fault : CompareFault) (outcome : Outcome) → IsVerdict design.parts.flat scope dump verdict → IsCompareFault design.parts.flat scope dump fault → says fault ≡ Some outcome → ⊥
  told_or_not verdict fault outcome told untold is =
      memory_says fault outcome (no_fault design.parts.flat lawful scope dump verdict fault told untold) is

  untold_once :
      (fault fault' : CompareFault) (one other : Outcome) → IsCompareFault design.parts.flat scope dump fault → says fault ≡ Some one →
      IsCompareFault design.parts.flat scope dump fault' → says fault' ≡ Some other → one ≡ other
  untold_once fault fault' one other first is second is' =
      by (one_fault design.parts.flat lawful scope dump fault fault' first second)
    where
      by : (fault ≡ fault') ⊎ ((fault ≡ Memory) ⊎ (fault' ≡ Memory)) → one ≡ other
      by (inl same) = same_Some one other (sym is ∙ ap says same ∙ is')
      by (inr (inl memory)) = absurd (memory_says fault one memory is)
      by (inr (inr memory)) = absurd (memory_says fault' other memory is')

  compared_once : (one other : Outcome) → IsCompared design scope dump one → IsCompared design scope dump other → one ≡ other
  compared_once one other (Told verdict is) (Told verdict' is') =
      ap (verdict_outcome design) (one_verdict design.parts.flat lawful scope dump verdict verdict' is is')
  compared_once one other (Told verdict is) (Untold fault outcome untold is') = absurd (told_or_not verdict fault outcome is untold is')
  compared_once one other (Untold fault outcome untold is) (Told verdict is') = absurd (told_or_not verdict fault outcome is' untold is)
  compared_once one other (Untold fault outcome untold is) (Untold fault' outcome' untold' is') =
      untold_once fault fault' outcome outcome' untold is untold' is'

-- ---- texts and a text of a dump

with_once : (top : List ℕ) (sources : List SourceFile) (texts : List (List ℕ)) (scope : List ℕ) (dump : Dump) (built : Built) (one other : Outcome) → IsBuilt top sources texts built → IsComparedWith scope dump built one → IsComparedWith scope dump built other → one ≡ other
with_once top sources texts scope dump (Designed design) one other made first second = compared_once design (processes_of top sources texts design made) scope dump one other first second
with_once top sources texts scope dump (Refused line) one other made first second = first ∙ sym second

beside_once : OneLine → (top : List ℕ) (sources : List SourceFile) (texts : List (List ℕ)) (scope : List ℕ) (dump : Dump) (one other : Outcome) → IsBeside top sources texts scope dump one → IsBeside top sources texts scope dump other → one ≡ other
beside_once line top sources texts scope dump one other first second =
    let same : first.built ≡ second.built = one_built line top sources texts first.built second.built first.is_built second.is_built in
    with_once top sources texts scope dump second.built one other second.is_built (subst (λ (built : Built). IsComparedWith scope dump built one) same first.is) second.is

read_once : OneLine → (top : List ℕ) (sources : List SourceFile) (texts : List (List ℕ)) (scope : List ℕ) (dump : Result Dump VcdFault) (one other : Outcome) → IsReadBeside top sources texts scope dump one → IsReadBeside top sources texts scope dump other → one ≡ other
read_once line top sources texts scope (Ok dump) one other first second = beside_once line top sources texts scope dump one other first second
read_once line top sources texts scope (Err fault) one other first second =
    same_Some one other (sym first ∙ second)

pub comparing_once : OneLine → (top scope : List ℕ) (files : List (List ℕ)) (dump : Result (List ℕ) ShelfFault) (texts : Option (List (List ℕ))) (one other : Outcome)
    → IsComparing top scope files dump texts one → IsComparing top scope files dump texts other → one ≡ other
comparing_once line top scope files (Err fault) texts one other first second = first ∙ sym second
comparing_once line top scope files (Ok text) None one other first second = first ∙ sym second
comparing_once line top scope files (Ok text) (Some texts) one other first second = read_once line top (named files texts) texts scope (read text) one other first second
