use Rattle.source_file.specs.SourceFiles.{AreShort}
use Rattle.tests_parts.proofs.places.sources_of.Given as goal

abbrev pub invariant-loop-file : goal.invariant-loop-file
invariant-loop-file l = AreShort l.sources.items
