use Rattle.std.proofs.Common.{arith}
use Rattle.std.proofs.Math.Path.{fun_ext}
use Rattle.std.proofs.lemmas.Map.Text.{text_keys}
use Rattle.desk_io.proofs.shelf.memory.MemoryShelf.add.Goals as goal

pub returns-clause-ok : goal.returns-clause-ok
returns-clause-ok c = fun_ext (λ wanted. grind (arith, text_keys))
