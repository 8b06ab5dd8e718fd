use Rattle.std.proofs.Common.{List, ℕ, ap, subst}
use Rattle.rtl_front.specs.Fronts.{AreAsked, AreSpelled, IsFirstFaulty}
use Rattle.source_file.specs.SourceFiles.{texts_in}
use Rattle.rtl_front.specs.declared.fault.SourceFault.{SourceFault}
use Rattle.rtl_front.specs.declared.fault.SourceFault.TheVariants as source
use Rattle.elab_lookups.specs.elab_links.Modules.{circuits_of}
use Rattle.desk_memo.proofs.Read.{lone_fault}
use Rattle.desk_memo.proofs.reading.read.Goals as goal

pub spelled-requires-clause-spelled : goal.spelled-requires-clause-spelled
spelled-requires-clause-spelled g c =
    subst (λ (it : List (List ℕ)). AreSpelled it (circuits_of c.in-Ok.files.modules.items)) (ap texts_in c.from_ref.ensures.value)
    (record { read = c.in-Ok.ensures.read; only = c.in-Ok.ensures.only })

pub spelled-requires-clause-asked : goal.spelled-requires-clause-asked
spelled-requires-clause-asked g c =
    subst (λ (it : List (List ℕ)). AreAsked it c.in-Ok.files.conditions.items) (ap texts_in c.from_ref.ensures.value) c.in-Ok.ensures.asked

pub refused-requires-clause-faulty : goal.refused-requires-clause-faulty
refused-requires-clause-faulty g c =
    lone_fault c.args.file.now.text c.in-Err-Refused.field-0-0 c.in-Err-Refused.fault
    (subst (λ (it : List (List ℕ)). IsFirstFaulty it (source.Refused c.in-Err-Refused.field-0-0 c.in-Err-Refused.fault)) (ap texts_in c.from_ref.ensures.value)
    (subst (λ (it : SourceFault). IsFirstFaulty (texts_in c.from_ref.result.now) it) c.in-Err-Refused.field-0-is c.in-Err-Refused.ensures.fault))
