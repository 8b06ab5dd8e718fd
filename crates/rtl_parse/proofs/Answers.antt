-- What follows from the answers of the survey and the builder.
use Rattle.std.proofs.Common.{◌≡◌, ℕ, ◌+◌, ◌≤◌, cond, not, nat_lt, List, [], ◌∷◌, length, map, position, Option, Some, None, Result, Ok, Err, Vec, Global, inl, inr, refl, sym, ap, subst, ◌∙◌}
use Rattle.std.specs.List.{All, slice_get, position_or_len}
use Rattle.std.specs.Option.{IfSome}
use Rattle.std.specs.Result.{IfOk, IfErr}
use Rattle.std.proofs.lemmas.List.{length-map}
use Rattle.rtl_tree.specs.declared.symbol.Terminal as code
use Rattle.rtl_tree.specs.declared.tree.modules.Module.{Module}
use Rattle.rtl_tree.specs.declared.tree.modules.WrittenModule.{WrittenModule}
use Rattle.rtl_tree.specs.Symbols.{terminal, terminals}
use Rattle.rtl_tree.specs.Prepared.{Ready}
use Rattle.rtl_tree.specs.TreeModule.{circuit, WrittenCircuit, written_circuit}
use Rattle.text_grammar.specs.GrammarModule.{AreSpelled, Spells}
use Rattle.text_grammar.specs.Deeper.{too_deep}
use Rattle.text_grammar.specs.Depth.{depth}
use Rattle.text_ground.specs.declared.dropped.Dropped.{Dropped}
use Rattle.rtl_tree.specs.declared.token.Token.{Token}
use Rattle.text_grammar.specs.declared.nesting.TheConstants.{MAX_NESTING}
use Rattle.rtl_unroll.specs.Plain.{plain_circuit}
use Rattle.text_survey.specs.Terminals.{is_refused}
use Rattle.text_survey.specs.Surveys.{AreNumbered, AreClosed, IsSurvey}
use Rattle.text_survey.specs.declared.machine.Surveyed.{Surveyed}
use Rattle.text_survey.specs.declared.machine.Surveyed.TheVariants as surveyed
use Rattle.text_survey.specs.Least.{IsLeast}
use Rattle.text_survey.proofs.Least.{goes_on}
use Rattle.text_build.specs.declared.fault.BuildFault.{BuildFault}
use Rattle.text_build.specs.Built.{IsBuilt}
use Rattle.rtl_parse.specs.declared.fault.ParseFault.{ParseFault}
use Rattle.rtl_parse.specs.declared.fault.ParseFault.TheVariants.{Refused, Syntax, TooDeep, Memory}
use Rattle.rtl_parse.specs.Parses.{tokens, is_outside, first_outside, IsThere, IsParsed, IsCause, IsHeld, first_construct}
use Rattle.rtl_parse.proofs.Shallow.{shallow}

-- the first token that is outside, by number
length_or : (xs : List code.Terminal) → position_or_len is_outside (map terminal xs) ≡ position_or_len (λ t. is_refused t.symbol) xs
length_or [] = refl
length_or (x ∷ xs) = ap (λ n. cond (not (is_refused x.symbol)) (1 + n) 0) (length_or xs)

outside : (xs : List code.Terminal) → position is_outside (map terminal xs) ≡ position (λ t. is_refused t.symbol) xs
outside xs =
    ap (λ n. cond (nat_lt n (length (map terminal xs))) (Some n) None) (length_or xs)
    ∙ ap (λ m. cond (nat_lt (position_or_len (λ (t : code.Terminal). is_refused t.symbol) xs) m) (Some (position_or_len (λ (t : code.Terminal). is_refused t.symbol) xs)) None) (length-map xs terminal)

pub first_of : (ready : Ready) (xs : List code.Terminal) (o : Option ℕ) → map terminal xs ≡ tokens ready → o ≡ position (λ t. is_refused t.symbol) xs → first_outside ready ≡ o
first_of ready xs o e f = ap (position is_outside) (sym e) ∙ outside xs ∙ sym f

-- the tokens that are read are those of the text, and its numbers have values
pub record AreRead (ready : Ready) (xs : List code.Terminal) : Type 0 where
  pub same : map terminal xs ≡ tokens ready
  pub numbered : AreNumbered (map terminal xs)

pub are_read : (ready : Ready) (text : List ℕ) (all : List Token) (items xs : List code.Terminal) → text ≡ ready.text → all ≡ ready.tokens
    → map terminal items ≡ terminals text all → AreNumbered (map terminal items) → xs ≡ items → AreRead ready xs
are_read ready text all items xs e f same numbered g = record {
  same = ap (map terminal) g ∙ same ∙ ap (λ t. terminals t all) e ∙ ap (λ ts. terminals ready.text ts) f;
  numbered = subst (λ ys. AreNumbered (map terminal ys)) (sym g) numbered;
}

-- the place of a token of the text
pub there : (ready : Ready) (xs : List code.Terminal) (text : List ℕ) (n : ℕ) (word : List ℕ) (at : ℕ) → AreRead ready xs → text ≡ ready.text
    → IsThere text (slice_get (map terminal xs) n) word at → IsThere ready.text (slice_get (tokens ready) n) word at
there ready xs text n word at read e found =
    subst (λ ts. IsThere ready.text (slice_get ts n) word at) read.same (subst (λ t. IsThere t (slice_get (map terminal xs) n) word at) e found)

-- a word that is outside
pub outside_cause : (ready : Ready) (xs : List code.Terminal) (text : List ℕ) (o : Option ℕ) (n : ℕ) (word : Vec ℕ Global) (at : ℕ) → AreRead ready xs
    → o ≡ position (λ t. is_refused t.symbol) xs → o ≡ Some n → text ≡ ready.text → IsThere text (slice_get (map terminal xs) n) word.items at
    → IsCause ready (Refused word at)
outside_cause ready xs text o n word at read first some e found =
    inl (n, first_of ready xs o read.same first ∙ some, there ready xs text n word.items at read e found)

-- no word is
pub all_inside : (ready : Ready) (xs : List code.Terminal) (o : Option ℕ) → AreRead ready xs → o ≡ position (λ t. is_refused t.symbol) xs → o ≡ None
    → first_outside ready ≡ None
all_inside ready xs o read first none = first_of ready xs o read.same first ∙ none

-- where the survey stopped
pub stop_cause : (ready : Ready) (xs : List code.Terminal) (text : List ℕ) (s : Surveyed) (n : ℕ) (word : Vec ℕ Global) (at : ℕ) → AreRead ready xs
    → first_outside ready ≡ None → IsSurvey (map terminal xs) s → s ≡ surveyed.Stopped n → text ≡ ready.text
    → IsThere text (slice_get (map terminal xs) n) word.items at → IsCause ready (Syntax word at)
stop_cause ready xs text s n word at read inside survey stopped e found =
    let v : IsSurvey (map terminal xs) (surveyed.Stopped n) = subst (λ x. IsSurvey (map terminal xs) x) stopped survey in
    let least : IsLeast (map terminal xs) n = record { within = v.0; goes_on = goes_on (map terminal xs) n read.numbered v.3; dead = v.1 } in
    (n, inside, subst (λ ts. IsLeast ts n) read.same least, subst (λ ts. AreClosed ts n) read.same v.2, there ready xs text n word.items at read e found)

-- what is spelled and somewhere too deep
pub depth_cause : (ready : Ready) (xs : List code.Terminal) (s : Surveyed) (at : ℕ) → AreRead ready xs → first_outside ready ≡ None
    → IsSurvey (map terminal xs) s → s ≡ surveyed.TooDeep at → IsCause ready (TooDeep at)
depth_cause ready xs s at read inside survey deep =
    let some : IsSurvey (map terminal xs) (surveyed.TooDeep at) = subst (λ x. IsSurvey (map terminal xs) x) deep survey in
    let v = some read.numbered ready.dropped in
    (v.0, inside, subst (λ ts. AreSpelled ready.dropped ts v.0) read.same v.1, v.2)

-- what a text spells, and nothing in it is nested too deep
pub record AreShown (ready : Ready) (circuits : List WrittenCircuit) : Type 0 where
  pub spelled : Spells ready circuits
  pub shallow : too_deep circuits ≡ []

-- what is spelled and nowhere too deep is built
pub built : (ready : Ready) (xs : List code.Terminal) (s : Surveyed) (regions : List Dropped) (result : Result (Vec WrittenModule Global) BuildFault)
    (written : Vec WrittenModule Global) → AreRead ready xs → IsSurvey (map terminal xs) s → s ≡ surveyed.Spelled → regions ≡ ready.dropped
    → ((cs : List WrittenCircuit) → AreSpelled regions (map terminal xs) cs → All (λ c. depth c ≤ MAX_NESTING) cs → IsBuilt cs result) → result ≡ Ok written
    → AreShown ready (map written_circuit written.items)
built ready xs s regions result written read survey spelled e each ok =
    let some : IsSurvey (map terminal xs) surveyed.Spelled = subst (λ x. IsSurvey (map terminal xs) x) spelled survey in
    let v = some read.numbered regions in
    let same : map written_circuit written.items ≡ v.0 = subst (λ r. IsBuilt v.0 r) ok (each v.0 v.1 (shallow v.0 v.2)) in
    let here = subst (λ ds. AreSpelled ds (map terminal xs) v.0) e v.1 in
    let shown : AreShown ready v.0 = record { spelled = subst (λ ts. AreSpelled ready.dropped ts v.0) read.same here; shallow = v.2 } in
    subst (λ cs. AreShown ready cs) (sym same) shown

-- what an ordinary text spells for certain
pub certain : (ready : Ready) (xs : List code.Terminal) (regions : List Dropped) (found : Option (Vec WrittenModule Global)) (written : Vec WrittenModule Global) → AreRead ready xs
    → regions ≡ ready.dropped → IfSome found (λ (w : Vec WrittenModule Global). AreSpelled regions (map terminal xs) (map written_circuit w.items)) → IfSome found (λ (w : Vec WrittenModule Global). too_deep (map written_circuit w.items) ≡ [])
    → found ≡ Some written → AreShown ready (map written_circuit written.items)
certain ready xs regions found written read e spelled shallow some =
    let cs = map written_circuit written.items in
    let here = subst (λ o. IfSome o (λ (w : Vec WrittenModule Global). AreSpelled regions (map terminal xs) (map written_circuit w.items))) some spelled in
    let there' = subst (λ ds. AreSpelled ds (map terminal xs) cs) e here in
    record {
      spelled = subst (λ ts. AreSpelled ready.dropped ts cs) read.same there';
      shallow = subst (λ o. IfSome o (λ (w : Vec WrittenModule Global). too_deep (map written_circuit w.items) ≡ [])) some shallow;
    }

-- what is shown is parsed, where no construct is in it
pub parsed : (ready : Ready) (circuits : List WrittenCircuit) (result : Result (Vec Module Global) ParseFault) → AreShown ready circuits
    → IfOk result (λ (made : Vec Module Global). map circuit made.items ≡ map plain_circuit circuits)
    → IfOk result (λ (made : Vec Module Global). first_construct (map circuit made.items) ≡ None)
    → IfOk result (λ (made : Vec Module Global). IsParsed ready (map circuit made.items))
parsed ready circuits (Ok made) shown plain followed =
    record { written = circuits; spelled = shown.spelled; shallow = shown.shallow; plain = plain; followed = followed }
parsed ready circuits (Err fault) shown plain followed = tt

-- else the first construct is told
pub held_cause : (ready : Ready) (circuits : List WrittenCircuit) (result : Result (Vec Module Global) ParseFault) → AreShown ready circuits → first_outside ready ≡ None
    → IfErr result (λ fault. IsHeld (map plain_circuit circuits) fault) → IfErr result (λ fault. IsCause ready fault)
held_cause ready circuits (Ok made) shown inside held = tt
held_cause ready circuits (Err (Refused word at)) shown inside held =
    inr (record { inside = inside; written = circuits; spelled = shown.spelled; shallow = shown.shallow; first = held })
held_cause ready circuits (Err (Syntax word at)) shown inside held = absurd held
held_cause ready circuits (Err (TooDeep at)) shown inside held = absurd held
held_cause ready circuits (Err Memory) shown inside held = tt

-- what holds anyway
pub inside_of : (ready : Ready) (result : Result (Vec Module Global) ParseFault) → first_outside ready ≡ None → IfOk result (λ made. first_outside ready ≡ None)
inside_of ready (Ok made) inside = inside
inside_of ready (Err fault) inside = tt
