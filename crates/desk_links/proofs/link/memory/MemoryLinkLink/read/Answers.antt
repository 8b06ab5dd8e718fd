use Rattle.std.proofs.Common.{◌∙◌, ap, take}
use Rattle.desk_links.proofs.Moves.{reads_more}
use Rattle.desk_links.proofs.link.memory.MemoryLinkLink.read.Goals as goal

pub returns-clause-told : goal.returns-clause-told
returns-clause-told c =
    let count = c.copy_front-count.result in
    reads_more c.args.self.now.past count (take count c.copy_front-count.new.to)
    (c.copy_front-count.ensures.copied ∙ ap (take count) c.left.ensures)
