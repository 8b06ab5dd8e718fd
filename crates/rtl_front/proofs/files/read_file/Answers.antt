use Rattle.std.proofs.Common.{map}
use Rattle.rtl_tree.specs.TreeModule.{circuit}
use Rattle.rtl_front.proofs.Once.{text_once}
use Rattle.rtl_front.proofs.files.read_file.Goals as goal

pub returns-in-Ok-clause-only : goal.returns-in-Ok-clause-only
returns-in-Ok-clause-only g c =
    λ circuits reads. text_once c.one_list.ensures c.args.text.now c.in_ok-made.made.prepared (map circuit c.in-Ok.modules.items) circuits c.in_ok-made.ensures.only c.in-Ok.ensures.parsed reads
