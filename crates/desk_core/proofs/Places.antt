-- Files as places are written of them, one more at a time.
use Rattle.std.proofs.Common.{◌≡◌, ◌∙◌, Bor, ℕ, ◌<◌, ◌+◌, List, [], ◌∷◌, ◌++◌, length, take, get_or, ap, sym}
use Rattle.std.proofs.lemmas.List.{map-append, take_more}
use Rattle.source_file.specs.declared.SourceFile.{SourceFile}
use Rattle.desk_core.proofs.Named.{seen}

-- one file more
pub sources_on : (files : List (Bor SourceFile)) (place : ℕ) (file : Bor SourceFile) (olds news : List SourceFile) → place < length files → file ≡ get_or files place file → olds ≡ seen (take place files) → news ≡ olds ++ file.now ∷ [] → news ≡ seen (take (place + 1) files)
sources_on files place file olds news inside read before made =
    made
    ∙ ap (λ it. it ++ file.now ∷ []) before
    ∙ ap (λ it. seen (take place files) ++ it.now ∷ []) read
    ∙ sym (ap seen (take_more files place file inside) ∙ map-append (λ it. it.now) (take place files) (get_or files place file ∷ []))
