use Rattle.std.proofs.Common.{◌≡◌, take, drop}
use Rattle.std.specs.Prelude.{IfSome}
use Rattle.source_file.specs.SourceFiles.{AreShort, names_in, texts_in}
use Rattle.desk_top.specs.Texts.{joined, texts_of}
use Rattle.desk_top.specs.Words.{texts}
use Rattle.desk_top.proofs.files.read_sources.Given as goal

abbrev pub invariant-loop-name : goal.invariant-loop-name
invariant-loop-name g l =
    record {
      told : IfSome (g.F.Shelf.files l.fn.shelf) (λ held. texts_of held (texts l.names) ≡ joined (texts_in l.made.items) (texts_of held (texts (drop l.name-index l.names))));
      called : names_in l.made.items ≡ texts (take l.name-index l.names);
      short : AreShort l.made.items;
      same : g.F.Shelf.files l.shelf ≡ g.F.Shelf.files l.fn.shelf;
      still : g.F.Shelf.faults l.shelf ≡ g.F.Shelf.faults l.fn.shelf;
    }
