-- The fault of a file is settled by its text.
use Rattle.std.specs.Prelude.{ℕ, zero, suc, false, List, [], ◌∷◌, Some, Result, Ok, Err}
use Rattle.std.proofs.Common.{◌≡◌, ◌∙◌, ap, sym, subst, refl}
use Rattle.rtl_tree.specs.declared.token.Token.{Token}
use Rattle.rtl_tree.specs.Prepared.{Ready}
use Rattle.rtl_text.specs.declared.fault.LexFault.{LexFault}
use Rattle.rtl_text.specs.Faults.{Answers, Refuses}
use Rattle.rtl_text.proofs.Unique.{one_answer}
use Rattle.rtl_prep.specs.declared.fault.PrepFault.{PrepFault}
use Rattle.rtl_prep.specs.declared.fault.PrepFault.TheVariants as preparing
use Rattle.rtl_prep.specs.Stops.{Stop, Refused, Alone, Loops, Full, Tells}
use Rattle.rtl_prep.specs.Prepares.{prepared}
use Rattle.rtl_parse.specs.declared.fault.ParseFault.{ParseFault}
use Rattle.rtl_parse.specs.declared.fault.ParseFault.TheVariants as parsing
use Rattle.rtl_parse.specs.Parses.{IsCause, IsOfText}
use Rattle.rtl_parse.proofs.OneCause.{one_cause}
use Rattle.rtl_front.specs.declared.fault.FileFault.{FileFault}
use Rattle.rtl_front.specs.declared.fault.FileFault.TheVariants.{Lex, Prepare, Parse}
use Rattle.rtl_front.specs.Fronts.{IsFaulty, IsFirst, is_memory}
use Rattle.rtl_front.specs.Reasons.{stop_of, Unsplit, Unprepared, Unparsed, reason}
use Rattle.rtl_front.proofs.Apart.{refusal_answers, split_unrefused, prepared_untold, one_ready, read_or_faulty}

same_lex : (text : List ℕ) (a b : LexFault) → is_memory (Lex a) ≡ false → is_memory (Lex b) ≡ false → Refuses text a → Refuses text b → a ≡ b
same_lex text a b known sure refuses again =
    let both : ◌≡◌ {A = Result (List Token) LexFault} (Err a) (Err b) =
    one_answer text (Err a) (Err b) (refusal_answers text a known refuses) (refusal_answers text b sure again) in
    cc

-- what is told is what stopped it
stopped : (outcome : Result Ready Stop) (fault : PrepFault) → is_memory (Prepare fault) ≡ false → Tells (λ (same : Ready). same) outcome (Err fault)
    → (stop : Stop) × (stop_of fault ≡ Some stop) × (outcome ≡ Err stop)
stopped outcome (preparing.Directive name at) known tells = (Refused name.items at, refl, tells)
stopped outcome (preparing.Unbalanced at) known tells = (Alone at, refl, tells)
stopped outcome (preparing.MacroLoop name at) known tells = (Loops name.items at, refl, tells)
stopped outcome (preparing.TooManyTokens at) known tells = (Full at, refl, tells)
stopped outcome preparing.Memory known tells = absurd (cc)

same_prepare : (text : List ℕ) (all others : List Token) (a b : PrepFault) → is_memory (Prepare a) ≡ false → is_memory (Prepare b) ≡ false → Answers text (Ok all) → Answers text (Ok others)
    → Tells (λ (same : Ready). same) (prepared text all) (Err a) → Tells (λ (same : Ready). same) (prepared text others) (Err b) → stop_of a ≡ stop_of b
same_prepare text all others a b known sure split again tells too =
    let tokens : ◌≡◌ {A = Result (List Token) LexFault} (Ok all) (Ok others) = one_answer text (Ok all) (Ok others) split again in
    let same : all ≡ others = cc in
    let s = stopped (prepared text all) a known tells in
    let t = stopped (prepared text others) b sure too in
    let both : ◌≡◌ {A = Result Ready Stop} (Err s.0) (Err t.0) = sym s.2 ∙ ap (prepared text) same ∙ t.2 in
    let one : s.0 ≡ t.0 = cc in
    s.1 ∙ ap (λ x. Some x) one ∙ sym t.1

of_text : (fault : ParseFault) → is_memory (Parse fault) ≡ false → IsOfText fault
of_text (parsing.Refused name place) known = tt
of_text (parsing.Syntax name place) known = tt
of_text (parsing.TooDeep place) known = tt
of_text parsing.Memory known = cc

same_fault : (text : List ℕ) (a b : FileFault) → is_memory a ≡ false → is_memory b ≡ false → IsFaulty text a → IsFaulty text b → reason a ≡ reason b
same_fault text (Lex a) (Lex b) known sure faulty again = ap Unsplit (same_lex text a b known sure faulty again)
same_fault text (Lex a) (Prepare b) known sure faulty again = absurd (split_unrefused text again.0 a known again.1 faulty)
same_fault text (Lex a) (Parse b) known sure faulty again = absurd (split_unrefused text again.1.tokens a known again.1.split faulty)
same_fault text (Prepare a) (Lex b) known sure faulty again = absurd (split_unrefused text faulty.0 b sure faulty.1 again)
same_fault text (Prepare a) (Prepare b) known sure faulty again =
    ap Unprepared (same_prepare text faulty.0 again.0 a b known sure faulty.1 again.1 faulty.2 again.2)
same_fault text (Prepare a) (Parse b) known sure faulty again = absurd (prepared_untold text again.0 faulty.0 a known again.1 faulty.1 faulty.2)
same_fault text (Parse a) (Lex b) known sure faulty again = absurd (split_unrefused text faulty.1.tokens b sure faulty.1.split again)
same_fault text (Parse a) (Prepare b) known sure faulty again = absurd (prepared_untold text faulty.0 again.0 b sure faulty.1 again.1 again.2)
same_fault text (Parse a) (Parse b) known sure faulty again =
    ap Unparsed (one_cause faulty.0 a b (of_text a known) (of_text b sure) faulty.2 (subst (λ ready. IsCause ready b) (one_ready text faulty.0 again.0 faulty.1 again.1) again.2))

pub one_fault : (texts : List (List ℕ)) (m n : ℕ) (a b : FileFault) → is_memory a ≡ false → is_memory b ≡ false → IsFirst texts m a → IsFirst texts n b → reason a ≡ reason b
one_fault [] m n a b known sure first other = absurd first
one_fault (text ∷ texts) zero zero a b known sure first other = same_fault text a b known sure first other
one_fault (text ∷ texts) zero (suc n) a b known sure first other = absurd (read_or_faulty text other.0 a known other.1 first)
one_fault (text ∷ texts) (suc m) zero a b known sure first other = absurd (read_or_faulty text first.0 b sure first.1 other)
one_fault (text ∷ texts) (suc m) (suc n) a b known sure first other = one_fault texts m n a b known sure first.2 other.2
