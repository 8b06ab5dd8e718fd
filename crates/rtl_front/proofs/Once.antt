-- A text has one list of modules: it splits in one way, and tokens spell one list.
use Rattle.std.specs.Prelude.{ℕ, List, Result, Ok}
use Rattle.std.proofs.Common.{◌≡◌, ◌∙◌, ap, sym, subst}
use Rattle.rtl_tree.specs.declared.token.Token.{Token}
use Rattle.rtl_tree.specs.Prepared.{Ready}
use Rattle.rtl_tree.specs.TreeModule.{Circuit}
use Rattle.rtl_text.specs.declared.fault.LexFault.{LexFault}
use Rattle.rtl_text.specs.Faults.{Answers}
use Rattle.rtl_prep.specs.Stops.{Stop}
use Rattle.rtl_prep.specs.Prepares.{prepared}
use Rattle.rtl_parse.specs.Parses.{IsParsed}
use Rattle.rtl_front.specs.Fronts.{IsPrepared, IsRead}

-- what is prepared of the tokens that the lexer finds
pub prepared_once : (text : List ℕ) (tokens : List Token) (ready other : Ready) → ((answer : Result (List Token) LexFault) → Answers text answer → Ok tokens ≡ answer) → prepared text tokens ≡ Ok ready → IsPrepared text other → other ≡ ready
prepared_once text tokens ready other only is prepares =
    let whole : ◌≡◌ {A = Result (List Token) LexFault} (Ok tokens) (Ok prepares.tokens) = only (Ok prepares.tokens) prepares.split in
    let same : tokens ≡ prepares.tokens = cc in
    let both : ◌≡◌ {A = Result Ready Stop} (Ok other) (Ok ready) = sym prepares.prepares ∙ ap (prepared text) (sym same) ∙ is in
    cc

-- a text is read as one list of modules
abbrev pub OneList : Type 0
OneList = (ready : Ready) (a b : List Circuit) → IsParsed ready a → IsParsed ready b → a ≡ b

pub text_once : OneList → (text : List ℕ) (ready : Ready) (circuits others : List Circuit) → ((other : Ready) → IsPrepared text other → other ≡ ready) → IsParsed ready circuits → IsRead text others → others ≡ circuits
text_once one_list text ready circuits others only parsed reads =
    one_list ready others circuits (subst (λ (other : Ready). IsParsed other others) (only reads.ready reads.is_prepared) reads.parsed) parsed
