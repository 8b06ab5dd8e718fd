use Rattle.std.proofs.Common.{rules}
use Rattle.std.proofs.lemmas.Fn.{filter_same}
use Rattle.desk_files.proofs.files.Files.drop_file.Goals as goal

pub returns-clause-files : goal.returns-clause-files
returns-clause-files c = filter_same _ _ _ (λ x b f' k. search rules) _ _ c.retain.ensures.filtered
