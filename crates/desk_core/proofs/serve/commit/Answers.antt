use Rattle.std.proofs.Common.{◌∙◌}
use Rattle.desk_requests.specs.Replies.{said}
use Rattle.desk_core.proofs.Accepted.{replies_made}
use Rattle.desk_core.proofs.Files.{files_made}
use Rattle.desk_core.proofs.Made.{is_made, is_unkept, is_unmade}
use Rattle.desk_core.proofs.Same.{never_left}
use Rattle.desk_core.proofs.serve.commit.Goals as goal

pub returns-in-Ok-clause-made : goal.returns-in-Ok-clause-made
returns-in-Ok-clause-made g c =
    is_made c.args.change (g.K.Keeper.count c.args.keeper.now) (g.K.Keeper.count c.make.new.keeper) c.args.records.now c.make.new.self (said c.in-Ok.reply)
    c.in-Ok.ensures.done c.in-Ok.ensures.ok c.in-Ok.ensures.calm

pub returns-in-Ok-clause-files : goal.returns-in-Ok-clause-files
returns-in-Ok-clause-files g c =
    files_made c.args.change c.args.records.now c.make.new.self c.args.db.now.files c.follow.new.db.files
    c.requires.short c.requires.files c.in-Ok.ensures.done (c.follow.ensures.files ∙ c.requires.next c.args.db.now.files)

pub returns-in-Ok-clause-replies : goal.returns-in-Ok-clause-replies
returns-in-Ok-clause-replies g c =
    replies_made c.args.change c.args.records.now c.make.new.self c.requires.replies c.requires.accepted c.in-Ok.ensures.done

pub returns-in-Err-Unkept-clause-made : goal.returns-in-Err-Unkept-clause-made
returns-in-Err-Unkept-clause-made g c =
    is_unkept c.args.change (g.K.Keeper.count c.args.keeper.now) (g.K.Keeper.count c.make.new.keeper) c.args.records.now c.make.new.self (said c.args.plan.unkept)
    c.in-Err-Unkept.ensures.same c.requires.unkept (c.in-Err-Unkept.ensures.unkept (cc))

pub returns-clause-made : goal.returns-clause-made
returns-clause-made g c =
    is_unmade c.args.change (g.K.Keeper.count c.args.keeper.now) (g.K.Keeper.count c.make.new.keeper) c.args.records.now c.make.new.self (said c.no_memory.result)
    c.in-Err-Memory.ensures.same c.no_memory.ensures (c.in-Err-Memory.ensures.no_memory (cc))

pub returns-in-Ok-clause-left : goal.returns-in-Ok-clause-left
returns-in-Ok-clause-left g c =
    λ leaves. absurd (never_left c.args.change (said c.in-Ok.reply) c.in-Ok.ensures.ok c.requires.accepted leaves)
