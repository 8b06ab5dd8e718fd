-- A text has one cause at most for not being parsed.
use Rattle.std.proofs.Common.{◌≡◌, ℕ, ◌<◌, ◌≤◌, List, [], length, map, Option, Some, None, ◌⊎◌, inl, inr, refl, sym, ap, subst, ◌∙◌, arith}
use Rattle.std.proofs.lemmas.List.Elements.{All-contains}
use Rattle.std.specs.List.{Contains, slice_get}
use Rattle.std.specs.Option.{IsSomeAnd}
use Rattle.rtl_tree.specs.Prepared.{Ready}
use Rattle.rtl_tree.specs.Symbols.{Terminal}
use Rattle.rtl_tree.specs.TreeModule.{Circuit, Construct, WrittenCircuit}
use Rattle.text_grammar.specs.GrammarModule.{Spells}
use Rattle.text_grammar.specs.Deeper.{too_deep, IsLeastPlace}
use Rattle.rtl_unroll.specs.Plain.{plain_circuit}
use Rattle.text_survey.specs.Least.{IsLeast}
use Rattle.text_survey.proofs.Least.{one_least}
use Rattle.text_build.proofs.Laws.Modules.{spelled_once}
use Rattle.rtl_parse.specs.declared.fault.ParseFault.{ParseFault}
use Rattle.rtl_parse.specs.declared.fault.ParseFault.TheVariants.{Refused, Syntax, TooDeep, Memory}
use Rattle.rtl_parse.specs.Parses.{tokens, first_outside, IsThere, construct_word, construct_place, first_construct, IsFirstWord, IsParsed, IsUnfollowed, IsCause, Outside, Unspelled, Nested, reason, IsOfText}

-- one token has one text and one place
one_there : (all : List ℕ) (o : Option Terminal) (s t : List ℕ) (i j : ℕ) → IsThere all o s i → IsThere all o t j → (s ≡ t) × (i ≡ j)
one_there all None s t i j a b = (a.0 ∙ sym b.0, a.1 ∙ sym b.1)
one_there all (Some x) s t i j a b = (sym a.0 ∙ b.0, sym a.1 ∙ b.1)

one_place : (ready : Ready) (m n : ℕ) (s t : List ℕ) (i j : ℕ) → m ≡ n → IsThere ready.text (slice_get (tokens ready) m) s i → IsThere ready.text (slice_get (tokens ready) n) t j → (s ≡ t) × (i ≡ j)
one_place ready m n s t i j e a b =
    one_there ready.text (slice_get (tokens ready) n) s t i j (subst (λ k. IsThere ready.text (slice_get (tokens ready) k) s i) e a) b

same_number : (m n : ℕ) → Some m ≡ Some n → m ≡ n
same_number m n e = cc

no_number : (n : ℕ) → Some n ≡ None → ⊥
no_number n e = cc

-- the least of some places
one_least_place : (places : List ℕ) (i j : ℕ) → IsLeastPlace places i → IsLeastPlace places j → i ≡ j
one_least_place places i j a b =
    let below = All-contains (λ other. i ≤ other) places j a.least b.there in
    let above = All-contains (λ other. j ≤ other) places i b.least a.there in
    omega (arith, below, above)

-- what is spelled stops nowhere
spelled_on : (ready : Ready) (n : ℕ) (circuits : List WrittenCircuit) → IsLeast (tokens ready) n → Spells ready circuits → ⊥
spelled_on ready n circuits least spells = least.dead (tokens ready) refl refl ready.dropped circuits spells

-- a list without places has no least one
pub nothing_there : (places : List ℕ) (place : ℕ) → places ≡ [] → Contains places place → ⊥
nothing_there places place none there =
    let below : there.0 < length places = there.1 in
    let empty : length places ≡ 0 = ap length none in
    omega arith

-- the first construct of modules has one word and one place
one_word : (found : Option Construct) (s t : List ℕ) (i j : ℕ) → IsSomeAnd found (λ (c : Construct). (construct_word c.written ≡ s) × (construct_place c.written ≡ i))
    → IsSomeAnd found (λ (c : Construct). (construct_word c.written ≡ t) × (construct_place c.written ≡ j)) → (s ≡ t) × (i ≡ j)
one_word None s t i j a b = absurd a
one_word (Some c) s t i j a b = (sym a.0 ∙ b.0, sym a.1 ∙ b.1)

-- what a text spells, it spells alone
unfollowed_once : (ready : Ready) (s t : List ℕ) (i j : ℕ) → IsUnfollowed ready s i → IsUnfollowed ready t j → (s ≡ t) × (i ≡ j)
unfollowed_once ready s t i j a b =
    let same = spelled_once ready.dropped (tokens ready) a.written b.written a.spelled b.spelled in
    one_word (first_construct (map plain_circuit b.written)) s t i j (subst (λ cs. IsFirstWord (map plain_circuit cs) s i) same a.first) b.first

-- what is read has no construct
pub parsed_followed : (ready : Ready) (circuits : List Circuit) (s : List ℕ) (i : ℕ) → IsParsed ready circuits → IsUnfollowed ready s i → ⊥
parsed_followed ready circuits s i parsed a =
    let same = spelled_once ready.dropped (tokens ready) a.written parsed.written a.spelled parsed.spelled in
    let first : IsFirstWord circuits s i = subst (λ (cs : List Circuit). IsFirstWord cs s i) (ap (map plain_circuit) same ∙ sym parsed.plain) a.first in
    subst (λ (found : Option Construct). IsSomeAnd found (λ (c : Construct). (construct_word c.written ≡ s) × (construct_place c.written ≡ i))) parsed.followed first

-- modules that are nowhere too deep are read, or their first construct is told
unfollowed_shallow : (ready : Ready) (s : List ℕ) (i j : ℕ) (circuits : List WrittenCircuit) → IsUnfollowed ready s i → Spells ready circuits → IsLeastPlace (too_deep circuits) j → ⊥
unfollowed_shallow ready s i j circuits a spells least =
    let same = spelled_once ready.dropped (tokens ready) circuits a.written spells a.spelled in
    nothing_there (too_deep circuits) j (ap too_deep same ∙ a.shallow) least.there

-- no word is told beside another
abbrev OutsideAt : Ready → List ℕ → ℕ → Type 0
OutsideAt ready s i = (n : ℕ) × (first_outside ready ≡ Some n) × IsThere ready.text (slice_get (tokens ready) n) s i

one_refused : (ready : Ready) (s t : List ℕ) (i j : ℕ) → OutsideAt ready s i ⊎ IsUnfollowed ready s i → OutsideAt ready t j ⊎ IsUnfollowed ready t j → (s ≡ t) × (i ≡ j)
one_refused ready s t i j (inl c) (inl d) = one_place ready c.0 d.0 s t i j (same_number c.0 d.0 (sym c.1 ∙ d.1)) c.2 d.2
one_refused ready s t i j (inl c) (inr d) = absurd (no_number c.0 (sym c.1 ∙ d.inside))
one_refused ready s t i j (inr c) (inl d) = absurd (no_number d.0 (sym d.1 ∙ c.inside))
one_refused ready s t i j (inr c) (inr d) = unfollowed_once ready s t i j c d

-- and no word where the tokens stop, or where something is too deep
refused_on : (ready : Ready) (s : List ℕ) (i n : ℕ) → OutsideAt ready s i ⊎ IsUnfollowed ready s i → first_outside ready ≡ None → IsLeast (tokens ready) n → ⊥
refused_on ready s i n (inl c) inside least = no_number c.0 (sym c.1 ∙ inside)
refused_on ready s i n (inr c) inside least = spelled_on ready n c.written least c.spelled

refused_shallow : (ready : Ready) (s : List ℕ) (i j : ℕ) (circuits : List WrittenCircuit) → OutsideAt ready s i ⊎ IsUnfollowed ready s i → first_outside ready ≡ None → Spells ready circuits
    → IsLeastPlace (too_deep circuits) j → ⊥
refused_shallow ready s i j circuits (inl c) inside spells least = no_number c.0 (sym c.1 ∙ inside)
refused_shallow ready s i j circuits (inr c) inside spells least = unfollowed_shallow ready s i j circuits c spells least

pub one_cause : (ready : Ready) (a b : ParseFault) → IsOfText a → IsOfText b → IsCause ready a → IsCause ready b → reason a ≡ reason b
one_cause ready Memory b x y c d = absurd x
one_cause ready (Refused s i) Memory x y c d = absurd y
one_cause ready (Syntax s i) Memory x y c d = absurd y
one_cause ready (TooDeep i) Memory x y c d = absurd y
one_cause ready (Refused s i) (Refused t j) x y c d =
    let v = one_refused ready s.items t.items i j c d in
    ap (λ z. Outside z i) v.0 ∙ ap (λ z. Outside t.items z) v.1
one_cause ready (Refused s i) (Syntax t j) x y c d = absurd (refused_on ready s.items i d.0 c d.1 d.2)
one_cause ready (Refused s i) (TooDeep j) x y c d = absurd (refused_shallow ready s.items i j d.0 c d.1 d.2 d.3)
one_cause ready (Syntax s i) (Refused t j) x y c d = absurd (refused_on ready t.items j c.0 d c.1 c.2)
one_cause ready (TooDeep i) (Refused t j) x y c d = absurd (refused_shallow ready t.items j i c.0 d c.1 c.2 c.3)
one_cause ready (Syntax s i) (Syntax t j) x y c d =
    let v = one_place ready c.0 d.0 s.items t.items i j (one_least (tokens ready) c.0 d.0 c.2 d.2) c.4 d.4 in
    ap (λ z. Unspelled z i) v.0 ∙ ap (λ z. Unspelled t.items z) v.1
one_cause ready (Syntax s i) (TooDeep j) x y c d = absurd (spelled_on ready c.0 d.0 c.2 d.2)
one_cause ready (TooDeep i) (Syntax t j) x y c d = absurd (spelled_on ready d.0 c.0 d.2 c.2)
one_cause ready (TooDeep i) (TooDeep j) x y c d =
    let same = spelled_once ready.dropped (tokens ready) c.0 d.0 c.2 d.2 in
    ap Nested (one_least_place (too_deep d.0) i j (subst (λ cs. IsLeastPlace (too_deep cs) i) same c.3) d.3)
