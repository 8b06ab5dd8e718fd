use Rattle.std.proofs.Common.{subst}
use Rattle.source_file.specs.SourceFiles.{texts_in}
use Rattle.rtl_front.specs.declared.fault.SourceFault.{SourceFault}
use Rattle.rtl_front.specs.Fronts.{IsFirstFaulty}
use Rattle.rtl_elab.specs.elab_links.Modules.{circuits_of}
use Rattle.desk_build.proofs.Spelled.{built_ok, faulty_ok}
use Rattle.desk_build.proofs.front.build.Goals as goal

pub returns-in-Ok : goal.returns-in-Ok
returns-in-Ok c =
    built_ok c.args.top.now c.args.files.now (texts_in c.args.files.now) (circuits_of c.in-Ok.read.modules.items) c.in-Ok.read.conditions.items c.build_modules.result (record { read = c.in-Ok.ensures.read; only = c.in-Ok.ensures.only })
    c.in-Ok.ensures.asked c.build_modules.ensures

pub returns-in-Err-Refused : goal.returns-in-Err-Refused
returns-in-Err-Refused c =
    faulty_ok c.args.top.now c.args.files.now (texts_in c.args.files.now) c.in-Err-Refused.file c.in-Err-Refused.fault c.refuse_file.result
    (subst (λ (f : SourceFault). IsFirstFaulty (texts_in c.args.files.now) f) c.in-Err-Refused.field-0-is c.in-Err-Refused.ensures.fault)
    c.refuse_file.ensures
