use Rattle.std.proofs.Common.{◌≡◌, map, take}
use Rattle.desk_rulings.specs.Rulings.{digest_of}
use Rattle.desk_rulings.proofs.site.digests_of.Given as goal

abbrev pub invariant-loop-file : goal.invariant-loop-file
invariant-loop-file l =
    l.digests.items ≡ map (λ file. digest_of l.rows file.now.name) (take l.file-index l.files)
