-- What the conditions of files ask is settled by their texts, and is found file by file.
use Rattle.std.specs.Prelude.{ℕ, ◌+◌, ◌<◌, ◌≤◌, List, [], ◌∷◌, ◌++◌, drop, length, Result, Ok}
use Rattle.std.proofs.Common.{◌≡◌, ◌∙◌, ap, ap₂, sym, refl, subst, get_or, append_assoc, append-nil}
use Rattle.std.proofs.lemmas.List.{drop_more, drop_all}
use Rattle.rtl_tree.specs.declared.token.Token.{Token}
use Rattle.rtl_text.specs.declared.fault.LexFault.{LexFault}
use Rattle.rtl_text.proofs.Unique.{one_answer}
use Rattle.rtl_prep.specs.Conditions.{FileConditions, asked}
use Rattle.source_file.specs.SourceFiles.{texts_in}
use Rattle.source_file.specs.declared.SourceFile.{SourceFile}
use Rattle.rtl_front.specs.Fronts.{AreAsked, IsAsked}

-- where what the files that are left ask is known, what all ask is
pub record SoAsked (sources : List SourceFile) (number : ℕ) (made : List FileConditions) : Type 0 where
  pub asked : (later : List FileConditions) → AreAsked (texts_in (drop number sources)) later → AreAsked (texts_in sources) (made ++ later)

pub none_asked : (sources : List SourceFile) (made : List FileConditions) → made ≡ [] → SoAsked sources 0 made
none_asked sources [] is = record { asked = λ later all. all }
none_asked sources (conditions ∷ made) is = absurd (cc)

pub one_more : (sources : List SourceFile) (number : ℕ) (source : SourceFile) (made next : List FileConditions) (conditions : FileConditions) → number < length sources → source ≡ get_or sources number source → IsAsked source.text conditions → next ≡ made ++ conditions ∷ [] → SoAsked sources number made → SoAsked sources (number + 1) next
one_more sources number source made next conditions below is asks grown so_far = record {
  asked = λ later all.
      subst
      (λ (some : List FileConditions). AreAsked (texts_in sources) (some ++ later))
      (sym grown)
      (subst
      (λ (some : List FileConditions). AreAsked (texts_in sources) some)
      (sym (append_assoc made (conditions ∷ []) later))
      (so_far.asked
      (conditions ∷ later)
      (subst
      (λ (left : List SourceFile). AreAsked (texts_in left) (conditions ∷ later))
      (sym (drop_more sources number source below ∙ ap (λ first. first ∷ drop (number + 1) sources) (sym is)))
      (asks, all))));
}

pub all_asked : (sources : List SourceFile) (number : ℕ) (made : List FileConditions) → length sources ≤ number → SoAsked sources number made → AreAsked (texts_in sources) made
all_asked sources number made end so_far =
    subst
    (λ (some : List FileConditions). AreAsked (texts_in sources) some)
    (append-nil made)
    (so_far.asked [] (subst (λ (left : List SourceFile). AreAsked (texts_in left) []) (sym (drop_all number sources end)) tt))

same : (text : List ℕ) (a b : FileConditions) → IsAsked text a → IsAsked text b → a ≡ b
same text a b asks again =
    let both : ◌≡◌ {A = Result (List Token) LexFault} (Ok asks.tokens) (Ok again.tokens) = one_answer text (Ok asks.tokens) (Ok again.tokens) asks.split again.split in
    let tokens : asks.tokens ≡ again.tokens = cc in
    asks.is ∙ ap (asked text) tokens ∙ sym again.is

pub one_asked : (texts : List (List ℕ)) (a b : List FileConditions) → AreAsked texts a → AreAsked texts b → a ≡ b
one_asked [] [] [] asks again = refl
one_asked [] [] (d ∷ ds) asks again = absurd again
one_asked [] (c ∷ cs) b asks again = absurd asks
one_asked (text ∷ texts) [] b asks again = absurd asks
one_asked (text ∷ texts) (c ∷ cs) [] asks again = absurd again
one_asked (text ∷ texts) (c ∷ cs) (d ∷ ds) asks again = ap₂ (λ one others. one ∷ others) (same text c d asks.0 again.0) (one_asked texts cs ds asks.1 again.1)
