-- It serves inner contracts and proofs; no answer of the program is stated by it.
-- What is kept, with what was made beside it in its place.
-- Worked examples: proofs/ReadingsExample.antt.
use Rattle.std.specs.Prelude.{List, ◌∷◌, Option, None, Some}

abbrev pub or_old : {X : Type 0} → Option X → X → X
or_old (Some new) old = new
or_old None old = old

-- what is kept, where nothing was made beside it; else what was made
abbrev pub put_in : {X : Type 0} → List (Option X) → List X → List X
put_in (new ∷ news) (old ∷ olds) = or_old new old ∷ put_in news olds
put_in _ olds = olds
