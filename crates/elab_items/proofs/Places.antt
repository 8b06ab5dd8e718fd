-- Each number of a scope is the place of its signal in the list of the module's signals.
use Rattle.std.specs.Prelude.{ℕ, zero, suc, ◌-◌, ◌≤◌, ◌<◌, min, true, if◌then◌else◌, List, [], ◌∷◌, ◌++◌, length, Option, None, Some}
use Rattle.std.specs.Cmp.Lexicographic.{bytes_decides}
use Rattle.std.specs.List.{slice_get}
use Rattle.std.specs.Option.{is_some}
use Rattle.std.specs.Str.{bytes_eq}
use Rattle.std.proofs.Common.{◌≡◌, refl, arith, inl, inr}
use Rattle.std.proofs.lemmas.Bool.{cases_Bool}
use Rattle.rtl_tree.specs.TreeExpr.{Identifier}
use Rattle.elab_scope.specs.declared.known.Known.{Known}
use Rattle.elab_scope.specs.declared.known.Known.TheVariants as known
use Rattle.elab_scope.specs.declared.known.Role.{Role}
use Rattle.elab_scope.specs.declared.known.Shape.{Shape}
use Rattle.elab_scope.specs.Names.{Meanings}
use Rattle.elab_scope.proofs.Fitting.{no_cons}
use Rattle.elab_items.specs.declared.claims.Line.{Line}
use Rattle.elab_items.specs.declared.claims.Sense.{Sense}
use Rattle.elab_items.specs.declared.claims.Sense.TheVariants as sense
use Rattle.elab_items.specs.Claims.{Claims}
use Rattle.elab_items.specs.Declarations.{Declaration, ParameterRange, Parameter, SignalRange, Listed, Signal, Integer, Instance}
use Rattle.elab_items.specs.Reaches.{shape_of}
use Rattle.elab_items.specs.Rosters.{Listing, Roster, all_enrolled, enrolled, limit_faults, role_of, signal_known, too_many, with_known, with_name, with_sense, with_signal}
use Rattle.elab_items.proofs.Lawful.{AreLawful, IsKnownLawful, IsLawful, IsScopeLawful, IsSenseLawful}

-- a signal of the list, at a place that is its number
pub record IsAt (signals : List Listing) (name : List ℕ) (number : ℕ) (role : Role) (shape : Option Shape) : Type 0 where
  pub place : ℕ
  pub one : Listing
  pub is : slice_get signals place ≡ Some one
  pub named : one.name ≡ name
  pub number_is : number ≡ min place 20000
  pub role_is : role ≡ role_of one.line.direction one.line.kind
  pub shape_is : shape ≡ shape_of one.line.signed one.line.reach
  pub lawful : IsLawful 128 one.line.reach

abbrev pub IsListed : List Listing → List ℕ → Option Known → Type 0
IsListed signals name None = Unit {0}
IsListed signals name (Some (known.Signal number role shape)) = IsAt signals name number role shape
IsListed signals name (Some (known.Parameter number width signed)) = (1 ≤ width) × (width ≤ 128)
IsListed signals name (Some (known.Integer number)) = Unit {0}

-- all signals of a list have ranges that fit
abbrev pub AreWide : List Listing → Type 0
AreWide [] = Unit {0}
AreWide (one ∷ others) = IsLawful 128 one.line.reach × AreWide others

pub record Stands (roster : Roster) : Type 0 where
  pub names : (name : List ℕ) → IsListed roster.signals name (roster.scope name)
  pub wide : AreWide roster.signals

get_more : (xs ys : List Listing) (i : ℕ) (x : Listing) → slice_get xs i ≡ Some x → slice_get (xs ++ ys) i ≡ Some x
get_more [] ys i x h = cc
get_more (z ∷ xs) ys zero x h = h
get_more (z ∷ xs) ys (suc i) x h = get_more xs ys i x h

get_last : (xs : List Listing) (x : Listing) → slice_get (xs ++ x ∷ []) (length xs) ≡ Some x
get_last [] x = refl
get_last (z ∷ xs) x = get_last xs x

wide_more : (xs : List Listing) (x : Listing) → AreWide xs → IsLawful 128 x.line.reach → AreWide (xs ++ x ∷ [])
wide_more [] x all one = (one, tt)
wide_more (z ∷ xs) x all one = (all.0, wide_more xs x all.1 one)

listed_more : (signals : List Listing) (x : Listing) (name : List ℕ) (k : Option Known) → IsListed signals name k → IsListed (signals ++ x ∷ []) name k
listed_more signals x name None h = tt
listed_more signals x name (Some (known.Signal number role shape)) h =
    record {
      place = h.place;
      one = h.one;
      is = get_more signals (x ∷ []) h.place h.one h.is;
      named = h.named;
      number_is = h.number_is;
      role_is = h.role_is;
      shape_is = h.shape_is;
      lawful = h.lawful;
    }
listed_more signals x name (Some (known.Parameter number width signed)) h = h
listed_more signals x name (Some (known.Integer number)) h = tt

last_listed : (signals : List Listing) (name other : List ℕ) (line : Line) → bytes_eq name other ≡ true → IsLawful 128 line.reach → IsListed (signals ++ record { name = name; line = line } ∷ []) other (Some (signal_known (length signals) line))
last_listed signals name other line same own =
    record {
      place = length signals;
      one = record { name = name; line = line };
      is = get_last signals (record { name = name; line = line });
      named = (bytes_decides name other).0 same;
      number_is = refl;
      role_is = refl;
      shape_is = refl;
      lawful = own;
    }

signal_names : (roster : Roster) (name : List ℕ) (line : Line) → Stands roster → IsLawful 128 line.reach → (other : List ℕ) → IsListed (with_signal roster name line).signals other ((with_signal roster name line).scope other)
signal_names roster name line h own other =
    elim (cases_Bool (is_some (roster.scope name))) [
      | inl there ↦ rw there (listed_more roster.signals _ other (roster.scope other) (h.names other))
      | inr new ↦ rw new (elim (cases_Bool (bytes_eq name other)) [
        | inl same ↦ rw same (last_listed roster.signals name other line same own)
        | inr differ ↦ rw differ (listed_more roster.signals _ other (roster.scope other) (h.names other))
      ])
    ]

signal_stands : (roster : Roster) (name : List ℕ) (line : Line) → Stands roster → IsLawful 128 line.reach → Stands (with_signal roster name line)
signal_stands roster name line h own =
    record {
      names = signal_names roster name line h own;
      wide = wide_more roster.signals (record { name = name; line = line }) h.wide own;
    }

plain_names : (roster : Roster) (name : List ℕ) (k : Known) → Stands roster → ((other : List ℕ) → IsListed roster.signals other (Some k)) → (other : List ℕ) → IsListed roster.signals other ((if is_some (roster.scope name) then roster.scope else λ other. if bytes_eq name other then Some k else roster.scope other) other)
plain_names roster name k h one other =
    elim (cases_Bool (is_some (roster.scope name))) [
      | inl there ↦ rw there (h.names other)
      | inr new ↦ rw new (elim (cases_Bool (bytes_eq name other)) [
        | inl same ↦ rw same (one other)
        | inr differ ↦ rw differ (h.names other)
      ])
    ]

known_stands : (roster : Roster) (name : List ℕ) (k : Option Known) → Stands roster → IsKnownLawful k → Stands (with_known roster name k)
known_stands roster name None h own = h
known_stands roster name (Some (known.Signal number role shape)) h own = h
known_stands roster name (Some (known.Parameter number width signed)) h own =
    record { names = plain_names roster name (known.Parameter number width signed) h (λ other. own); wide = h.wide }
known_stands roster name (Some (known.Integer number)) h own =
    record { names = plain_names roster name (known.Integer number) h (λ other. tt); wide = h.wide }

sense_stands : (draft : Meanings) (roster : Roster) (name : List ℕ) (s : Option Sense) → Stands roster → IsKnownLawful (draft name) → IsSenseLawful s → Stands (with_sense draft roster name s)
sense_stands draft roster name None h own lawful = h
sense_stands draft roster name (Some (sense.Signal line)) h own lawful = signal_stands roster name line h lawful
sense_stands draft roster name (Some sense.Number) h own lawful = known_stands roster name (draft name) h own
sense_stands draft roster name (Some sense.Instance) h own lawful = h

name_stands : (draft : Meanings) (claims : Claims) (roster : Roster) (name : Identifier) → IsScopeLawful draft → AreLawful claims → Stands roster → Stands (with_name draft claims roster name)
name_stands draft claims roster name numbers lawful h =
    elim (cases_Bool (is_some (roster.scope name.text))) [
      | inl there ↦ rw there h
      | inr new ↦ rw new (sense_stands draft roster name.text (claims name.text).sense h (numbers name.text) (lawful name.text))
    ]

one_stands : (draft : Meanings) (claims : Claims) (roster : Roster) (d : Declaration) → IsScopeLawful draft → AreLawful claims → Stands roster → Stands (enrolled draft claims roster d)
one_stands draft claims roster (ParameterRange bounds) numbers lawful h = h
one_stands draft claims roster (SignalRange bounds) numbers lawful h = h
one_stands draft claims roster (Listed name) numbers lawful h = name_stands draft claims roster name numbers lawful h
one_stands draft claims roster (Signal form signed name) numbers lawful h =
    name_stands draft claims roster name numbers lawful h
one_stands draft claims roster (Parameter kind name value) numbers lawful h =
    name_stands draft claims roster name numbers lawful h
one_stands draft claims roster (Integer name) numbers lawful h = name_stands draft claims roster name numbers lawful h
one_stands draft claims roster (Instance name) numbers lawful h = name_stands draft claims roster name numbers lawful h

pub all_stand : (draft : Meanings) (claims : Claims) (roster : Roster) (ds : List Declaration) → IsScopeLawful draft → AreLawful claims → Stands roster → Stands (all_enrolled draft claims roster ds)
all_stand draft claims roster [] numbers lawful h = h
all_stand draft claims roster (d ∷ ds) numbers lawful h =
    all_stand draft claims (enrolled draft claims roster d) ds numbers lawful (one_stands draft claims roster d numbers lawful h)

few : (signals : List Listing) (k : ℕ) → too_many (slice_get signals k) ≡ [] → length signals ≤ k
few [] k h = omega arith
few (one ∷ others) zero h = absurd (no_cons _ _ h)
few (one ∷ others) (suc k) h =
    let rest : length others ≤ k = few others k h in
    omega arith

-- where no limit is passed, the list is short enough for all its numbers
pub few_signals : (base : ℕ) (signals : List Listing) → limit_faults base signals ≡ [] → length signals ≤ 20000 - base
few_signals base signals h = few signals (20000 - base) h

pub within : (signals : List Listing) (i : ℕ) (x : Listing) → slice_get signals i ≡ Some x → i < length signals
within [] i x h = cc
within (z ∷ xs) zero x h = omega arith
within (z ∷ xs) (suc i) x h =
    let rest : i < length xs = within xs i x h in
    omega arith
