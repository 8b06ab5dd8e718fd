use Rattle.std.proofs.Common.{refl, sym, subst}
use Rattle.rtl_front.specs.Fronts.{IsAsked}
use Rattle.source_file.specs.declared.SourceFile.{SourceFile}
use Rattle.desk_memo.proofs.Known.{lone_asked}
use Rattle.desk_memo.proofs.Read.{lone}
use Rattle.desk_memo.proofs.reading.spelled.Goals as goal

pub returns-clause-new : goal.returns-clause-new
returns-clause-new g c = record {
  file_is = c.in_ok-copied.ensures;
  current = refl;
  found = lone c.args.file.now.text c.args.files.modules.items c.remove.result c.requires.spelled c.remove.ensures.value;
}

pub returns-clause-known : goal.returns-clause-known
returns-clause-known g c =
    subst (λ (it : SourceFile). IsAsked it.text c.remove-2.result) (sym c.in_ok-copied.ensures)
    (lone_asked c.args.file.now.text c.args.files.conditions.items c.remove-2.result c.requires.asked c.remove-2.ensures.value)
