-- No text both has modules and is faulty.
use Rattle.std.specs.Prelude.{ℕ, zero, suc, false, List, [], ◌∷◌, Option, Some, None, Result, Ok, Err}
use Rattle.std.proofs.Common.{◌≡◌, ◌∙◌, inl, inr, ap, sym, subst, refl}
use Rattle.rtl_tree.specs.declared.token.Token.{Token}
use Rattle.rtl_tree.specs.Prepared.{Ready}
use Rattle.rtl_tree.specs.Symbols.{terminals}
use Rattle.rtl_tree.specs.TreeModule.{Circuit}
use Rattle.text_grammar.specs.Deeper.{too_deep}
use Rattle.rtl_text.specs.declared.fault.LexFault.{LexFault}
use Rattle.rtl_text.specs.declared.fault.LexFault.TheVariants as lexing
use Rattle.rtl_text.specs.Faults.{Answers, Refuses}
use Rattle.rtl_text.proofs.Unique.{one_answer}
use Rattle.rtl_prep.specs.declared.fault.PrepFault.{PrepFault}
use Rattle.rtl_prep.specs.declared.fault.PrepFault.TheVariants as preparing
use Rattle.rtl_prep.specs.Stops.{Stop, Tells}
use Rattle.rtl_prep.specs.Prepares.{prepared}
use Rattle.text_build.proofs.Laws.Modules.{spelled_once}
use Rattle.rtl_parse.specs.declared.fault.ParseFault.{ParseFault}
use Rattle.rtl_parse.specs.declared.fault.ParseFault.TheVariants as parsing
use Rattle.rtl_parse.specs.Parses.{IsCause, IsParsed, first_outside, tokens}
use Rattle.rtl_parse.proofs.OneCause.{nothing_there, parsed_followed}
use Rattle.rtl_front.specs.declared.fault.FileFault.{FileFault}
use Rattle.rtl_front.specs.declared.fault.FileFault.TheVariants.{Lex, Prepare, Parse}
use Rattle.rtl_front.specs.Fronts.{AreRead, IsFaulty, IsFirst, IsPrepared, IsRead, is_memory}
use Rattle.rtl_front.proofs.Once.{prepared_once}

-- ---- tokens

-- a refusal is an answer, but for want of memory
pub refusal_answers : (text : List ℕ) (fault : LexFault) → is_memory (Lex fault) ≡ false → Refuses text fault → Answers text (Err fault)
refusal_answers text (lexing.NotAscii place) known refuses = refuses
refusal_answers text (lexing.BadNumber place) known refuses = refuses
refusal_answers text (lexing.BadCharacter place) known refuses = refuses
refusal_answers text (lexing.OpenComment place) known refuses = refuses
refusal_answers text (lexing.TooManyTokens place) known refuses = refuses
refusal_answers text lexing.Memory known refuses = absurd (cc)

pub split_unrefused : (text : List ℕ) (all : List Token) (fault : LexFault) → is_memory (Lex fault) ≡ false → Answers text (Ok all) → Refuses text fault → ⊥
split_unrefused text all fault known split refuses =
    let answers : Answers text (Err fault) = refusal_answers text fault known refuses in
    let both : ◌≡◌ {A = Result (List Token) LexFault} (Ok all) (Err fault) = one_answer text (Ok all) (Err fault) split answers in
    cc

-- ---- preparation

ok_tells_none : (outcome : Result Ready Stop) (ready : Ready) (fault : PrepFault) → is_memory (Prepare fault) ≡ false → outcome ≡ Ok ready
    → Tells (λ (same : Ready). same) outcome (Err fault) → ⊥
ok_tells_none outcome ready (preparing.Directive name place) known is tells = cc
ok_tells_none outcome ready (preparing.Unbalanced place) known is tells = cc
ok_tells_none outcome ready (preparing.MacroLoop name place) known is tells = cc
ok_tells_none outcome ready (preparing.TooManyTokens place) known is tells = cc
ok_tells_none outcome ready preparing.Memory known is tells = cc

pub prepared_untold : (text : List ℕ) (ready : Ready) (all : List Token) (fault : PrepFault) → is_memory (Prepare fault) ≡ false
    → IsPrepared text ready → Answers text (Ok all) → Tells (λ (same : Ready). same) (prepared text all) (Err fault) → ⊥
prepared_untold text ready all fault known prepares split tells =
    let both : ◌≡◌ {A = Result (List Token) LexFault} (Ok prepares.tokens) (Ok all) = one_answer text (Ok prepares.tokens) (Ok all) prepares.split split in
    let same : prepares.tokens ≡ all = cc in
    ok_tells_none (prepared text all) ready fault known (ap (prepared text) (sym same) ∙ prepares.prepares) tells

pub one_ready : (text : List ℕ) (ready other : Ready) → IsPrepared text ready → IsPrepared text other → other ≡ ready
one_ready text ready other prepares again =
    prepared_once text prepares.tokens ready other (λ answer. one_answer text (Ok prepares.tokens) answer prepares.split) prepares.prepares again

-- ---- modules

parsed_uncaused : (ready : Ready) (circuits : List Circuit) (fault : ParseFault) → is_memory (Parse fault) ≡ false
    → first_outside ready ≡ None → IsParsed ready circuits → IsCause ready fault → ⊥
parsed_uncaused ready circuits (parsing.Refused name place) known inside parsed (inl cause) =
    let both : ◌≡◌ {A = Option ℕ} (Some cause.0) None = sym cause.1 ∙ inside in
    cc
parsed_uncaused ready circuits (parsing.Refused name place) known inside parsed (inr cause) = parsed_followed ready circuits name.items place parsed cause
parsed_uncaused ready circuits (parsing.Syntax name place) known inside parsed cause =
    cause.2.dead (tokens ready) refl refl ready.dropped parsed.written parsed.spelled
parsed_uncaused ready circuits (parsing.TooDeep place) known inside parsed cause =
    let same : cause.0 ≡ parsed.written = spelled_once ready.dropped (terminals ready.text ready.tokens) cause.0 parsed.written cause.2 parsed.spelled in
    nothing_there (too_deep cause.0) place (ap too_deep same ∙ parsed.shallow) cause.3.there
parsed_uncaused ready circuits parsing.Memory known inside parsed cause = cc

-- ---- texts

pub read_or_faulty : (text : List ℕ) (circuits : List Circuit) (fault : FileFault) → is_memory fault ≡ false → IsRead text circuits → IsFaulty text fault → ⊥
read_or_faulty text circuits (Lex fault) known reads faulty = split_unrefused text reads.is_prepared.tokens fault known reads.is_prepared.split faulty
read_or_faulty text circuits (Prepare fault) known reads faulty = prepared_untold text reads.ready faulty.0 fault known reads.is_prepared faulty.1 faulty.2
read_or_faulty text circuits (Parse fault) known reads faulty =
    parsed_uncaused reads.ready circuits fault known reads.inside reads.parsed
    (subst (λ (ready : Ready). IsCause ready fault) (one_ready text reads.ready faulty.0 reads.is_prepared faulty.1) faulty.2)

pub never_both : (texts : List (List ℕ)) (circuits : List (List Circuit)) (number : ℕ) (fault : FileFault) → is_memory fault ≡ false
    → AreRead texts circuits → IsFirst texts number fault → ⊥
never_both [] circuits number fault known all first = first
never_both (text ∷ texts) [] number fault known all first = all
never_both (text ∷ texts) (some ∷ others) zero fault known all first = read_or_faulty text some fault known all.0 first
never_both (text ∷ texts) (some ∷ others) (suc number) fault known all first = never_both texts others number fault known all.1 first.2

pub one_first : (texts : List (List ℕ)) (m n : ℕ) (a b : FileFault) → IsFirst texts m a → IsFirst texts n b → is_memory a ≡ false → is_memory b ≡ false → m ≡ n
one_first [] m n a b first other known sure = absurd first
one_first (text ∷ texts) zero zero a b first other known sure = refl
one_first (text ∷ texts) zero (suc n) a b first other known sure = absurd (read_or_faulty text other.0 a known other.1 first)
one_first (text ∷ texts) (suc m) zero a b first other known sure = absurd (read_or_faulty text first.0 b sure first.1 other)
one_first (text ∷ texts) (suc m) (suc n) a b first other known sure = ap suc (one_first texts m n a b first.2 other.2 known sure)
