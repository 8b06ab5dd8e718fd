-- Rows whose elements are spelled if they are proper.
use Rattle.std.proofs.Common.{List, [], ◌∷◌}
use Rattle.rtl_tree.specs.Symbols.{Terminal}
use Rattle.text_grammar.specs.Grammar.{Spelling, AreAll, AreMore, AreListed}
use Rattle.text_build.specs.ProperModule.{Each}

-- spelled so, if it is proper
abbrev pub If : {A : Type 0} → (A → Type 0) → (A → Spelling) → A → Spelling
If P S x ts rest = P x → S x ts rest

module _ {A : Type 0} (P : A → Type 0) (S : A → Spelling) where
  pub each_all : (xs : List A) (ts rest : List Terminal) → AreAll (If P S) xs ts rest → Each P xs → AreAll S xs ts rest
  each_all [] ts rest w p = w
  each_all (x ∷ xs) ts rest w p = (w.0, w.1 p.0, each_all xs w.0 rest w.2 p.1)

  pub each_more : (xs : List A) (ts rest : List Terminal) → AreMore (If P S) xs ts rest → Each P xs → AreMore S xs ts rest
  each_more [] ts rest w p = w
  each_more (x ∷ xs) ts rest w p = (w.0, w.1, (w.2.0, w.2.1 p.0, each_more xs w.2.0 rest w.2.2 p.1))

  pub each_listed : (xs : List A) (ts rest : List Terminal) → AreListed (If P S) xs ts rest → Each P xs → AreListed S xs ts rest
  each_listed [] ts rest w p = w
  each_listed (x ∷ xs) ts rest w p = (w.0, w.1 p.0, each_more xs w.0 rest w.2 p.1)
