-- Declarations without faults have ranges that fit.
use Rattle.std.specs.Prelude.{ℕ, ◌+◌, ◌≤◌, ℤ, ◌-ℤ◌, nat_lt, unsigned_abs, true, List, [], ◌∷◌, Option, None, Some, Ok, Err}
use Rattle.std.specs.Option.{is_some}
use Rattle.std.specs.Str.{bytes_eq}
use Rattle.std.proofs.Common.{◌≡◌, arith, inl, inr}
use Rattle.std.proofs.lemmas.Bool.{cases_Bool}
use Rattle.std.proofs.lemmas.Bool.Decides.{nat_tests}
use Rattle.rtl_const.specs.Constant.{Outcome, constant}
use Rattle.rtl_const.specs.Numbers.{Numbers}
use Rattle.rtl_tree.specs.TreeExpr.{Bounds}
use Rattle.elab_scope.specs.declared.known.Known.{Known}
use Rattle.elab_scope.specs.declared.known.Known.TheVariants as known
use Rattle.elab_scope.specs.declared.widths.Breadth.{Breadth}
use Rattle.elab_scope.specs.declared.widths.Breadth.TheVariants as breadth
use Rattle.elab_scope.specs.Names.{Meanings, entered, numbers_in, with_meaning}
use Rattle.elab_scope.specs.Widths.{bits, fitted}
use Rattle.elab_scope.proofs.Fitting.{no_cons}
use Rattle.elab_scope.proofs.Sound.{nil_left, nil_right}
use Rattle.elab_items.specs.declared.claims.Claim.{Claim}
use Rattle.elab_items.specs.declared.claims.Line.{Line}
use Rattle.elab_items.specs.declared.claims.Sense.{Sense}
use Rattle.elab_items.specs.declared.claims.Sense.TheVariants as sense
use Rattle.elab_items.specs.declared.overrides.Format.{Format}
use Rattle.elab_items.specs.declared.overrides.Override.{Override}
use Rattle.elab_items.specs.declared.reach.Reach.{Reach}
use Rattle.elab_items.specs.declared.reach.Reach.TheVariants.{Scalar, Bits, Hidden}
use Rattle.elab_items.specs.Claims as claim
use Rattle.elab_items.specs.Claims.{Claims, Course, with_claim, all_claim_faults, all_claimed, claims_after, claim_faults, claimed, joins, met, signal_sense, first_sense}
use Rattle.elab_items.specs.Declarations.{Declaration, ParameterRange, Parameter, SignalRange, Listed, Signal, Integer, Instance}
use Rattle.elab_items.specs.Drafts as draft
use Rattle.elab_items.specs.Drafts.{Draft, all_draft_faults, all_drafted, draft_faults, drafted, numberless, scope_after}
use Rattle.elab_items.specs.Reaches.{descends, end_faults, fits, range_faults, reach_of, span_faults, spanned}
use Rattle.elab_items.specs.Settings.{Settings, given_to, parameter_of, set_or, unranged, value_of}

-- bits that are there, at most so many
abbrev pub IsLawful : ℕ → Reach → Type 0
IsLawful most Scalar = Unit {0}
IsLawful most (Bits width low) = (1 ≤ width) × (width ≤ most)
IsLawful most Hidden = ⊥

few_bits : (n most : ℕ) → nat_lt n most ≡ true → n + 1 ≤ most
few_bits n most few = grind (arith, nat_tests)

span_lawful : (most at : ℕ) (m l : ℤ) → span_faults most at (Ok m) (Ok l) ≡ [] → IsLawful most (spanned most (Ok m) (Ok l))
span_lawful most at m l h =
    elim (cases_Bool (fits most m l)) [
      | inl few ↦ elim (cases_Bool (descends m l)) [
        | inl down ↦ rw (down, few) (omega arith, few_bits (unsigned_abs (m -ℤ l)) most few)
        | inr up ↦ absurd (no_cons _ _ (rw (few, up) at h))
      ]
      | inr many ↦ absurd (no_cons _ _ (rw many at h))
    ]

ends_lawful : (most at : ℕ) (m l : Outcome) → end_faults most at m l ≡ [] → IsLawful most (spanned most m l)
ends_lawful most at (Ok m) (Ok l) h = span_lawful most at m l h
ends_lawful most at (Ok m) (Err cause) h = absurd (no_cons _ _ h)
ends_lawful most at (Err cause) l h = absurd (no_cons _ _ h)

range_lawful : (most : ℕ) (numbers : Numbers) (bounds : Option Bounds) → range_faults most numbers bounds ≡ [] → IsLawful most (reach_of most numbers bounds)
range_lawful most numbers None h = tt
range_lawful most numbers (Some bounds) h =
    ends_lawful most bounds.at (constant numbers bounds.msb) (constant numbers bounds.lsb) h

-- signals whose ranges fit
abbrev pub IsSenseLawful : Option Sense → Type 0
IsSenseLawful None = Unit {0}
IsSenseLawful (Some (sense.Signal line)) = IsLawful 128 line.reach
IsSenseLawful (Some sense.Number) = Unit {0}
IsSenseLawful (Some sense.Instance) = Unit {0}

abbrev pub AreLawful : Claims → Type 0
AreLawful claims = (name : List ℕ) → IsSenseLawful (claims name).sense

put_lawful : (claims : Claims) (name : List ℕ) (c : Claim) → AreLawful claims → IsSenseLawful c.sense → AreLawful (with_claim claims name c)
put_lawful claims name c all one other =
    elim (cases_Bool (bytes_eq name other)) [
      | inl same ↦ rw same one
      | inr differ ↦ rw differ (all other)
    ]

met_lawful : (old line : Line) → IsLawful 128 old.reach → IsLawful 128 (met old line).reach
met_lawful old line h =
    elim (cases_Bool (joins old line)) [
      | inl both ↦ rw both h
      | inr apart ↦ rw apart h
    ]

signal_lawful : (former : Option Sense) (line : Line) → IsSenseLawful former → IsLawful 128 line.reach → IsSenseLawful (Some (signal_sense former line))
signal_lawful None line before own = own
signal_lawful (Some (sense.Signal old)) line before own = met_lawful old line before
signal_lawful (Some sense.Number) line before own = tt
signal_lawful (Some sense.Instance) line before own = tt

plain_lawful : (former : Option Sense) (own : Sense) → IsSenseLawful former → IsSenseLawful (Some own) → IsSenseLawful (Some (first_sense former own))
plain_lawful None own before h = h
plain_lawful (Some former) own before h = before

claims_lawful : (claims : Claims) (reach : Reach) (d : Declaration) → AreLawful claims → IsLawful 128 reach → AreLawful (claims_after claims reach d)
claims_lawful claims reach (ParameterRange bounds) all own = all
claims_lawful claims reach (SignalRange bounds) all own = all
claims_lawful claims reach (Listed name) all own = put_lawful claims name.text _ all (all name.text)
claims_lawful claims reach (Signal form signed name) all own =
    put_lawful claims name.text _ all (signal_lawful (claims name.text).sense (claim.line_of form signed name.at reach) (all name.text) own)
claims_lawful claims reach (Parameter kind name value) all own =
    put_lawful claims name.text _ all (plain_lawful (claims name.text).sense sense.Number (all name.text) tt)
claims_lawful claims reach (Integer name) all own =
    put_lawful claims name.text _ all (plain_lawful (claims name.text).sense sense.Number (all name.text) tt)
claims_lawful claims reach (Instance name) all own =
    put_lawful claims name.text _ all (plain_lawful (claims name.text).sense sense.Instance (all name.text) tt)

signal_reach : (numbers : Numbers) (claims : Claims) (reach : Reach) (d : Declaration) → claim_faults numbers claims reach d ≡ [] → IsLawful 128 reach → IsLawful 128 (claim.reach_after numbers reach d)
signal_reach numbers claims reach (ParameterRange bounds) h own = own
signal_reach numbers claims reach (SignalRange bounds) h own = range_lawful 128 numbers bounds h
signal_reach numbers claims reach (Listed name) h own = own
signal_reach numbers claims reach (Signal form signed name) h own = own
signal_reach numbers claims reach (Parameter kind name value) h own = own
signal_reach numbers claims reach (Integer name) h own = own
signal_reach numbers claims reach (Instance name) h own = own

pub all_lawful : (numbers : Numbers) (course : Course) (ds : List Declaration) → all_claim_faults numbers course ds ≡ [] → AreLawful course.claims → IsLawful 128 course.reach → AreLawful (all_claimed numbers course ds).claims
all_lawful numbers course [] h all own = all
all_lawful numbers course (d ∷ ds) h all own =
    all_lawful numbers (claimed numbers course d) ds (nil_right (claim_faults numbers course.claims course.reach d) _ h) (claims_lawful course.claims course.reach d all own) (signal_reach numbers course.claims course.reach d (nil_left (claim_faults numbers course.claims course.reach d) _ h) own)

-- parameters whose widths fit
abbrev pub IsKnownLawful : Option Known → Type 0
IsKnownLawful None = Unit {0}
IsKnownLawful (Some (known.Signal number role shape)) = Unit {0}
IsKnownLawful (Some (known.Parameter number width signed)) = (1 ≤ width) × (width ≤ 128)
IsKnownLawful (Some (known.Integer number)) = Unit {0}

abbrev pub IsScopeLawful : Meanings → Type 0
IsScopeLawful scope = (name : List ℕ) → IsKnownLawful (scope name)

with_lawful : (scope : Meanings) (name : List ℕ) (k : Known) → IsScopeLawful scope → IsKnownLawful (Some k) → IsScopeLawful (with_meaning scope name k)
with_lawful scope name k all one other =
    elim (cases_Bool (bytes_eq name other)) [
      | inl same ↦ rw same one
      | inr differ ↦ rw differ (all other)
    ]

entered_lawful : (scope : Meanings) (name : List ℕ) (k : Known) → IsScopeLawful scope → IsKnownLawful (Some k) → IsScopeLawful (entered scope name k)
entered_lawful scope name k all one other =
    elim (cases_Bool (is_some (scope name))) [
      | inl there ↦ rw there (all other)
      | inr new ↦ rw new (with_lawful scope name k all one other)
    ]

bits_fit : (b : Breadth) → (1 ≤ bits b) × (bits b ≤ 128)
bits_fit (breadth.Bits n) = (omega arith, omega arith)
bits_fit breadth.Unfit = (omega arith, omega arith)
bits_fit breadth.Hidden = (omega arith, omega arith)

unranged_lawful : (format : Option Format) (number : Option ℤ) → IsKnownLawful (Some (unranged format number))
unranged_lawful None number = (omega arith, omega arith)
unranged_lawful (Some format) number = bits_fit (fitted format.width)

parameter_lawful : (reach : Reach) (value : Override) → IsLawful 32 reach → IsKnownLawful (Some (parameter_of reach value))
parameter_lawful Scalar value own = unranged_lawful value.literal value.number
parameter_lawful (Bits width low) value own =
    let some = own.0 in
    (omega arith, omega arith)
parameter_lawful Hidden value own = absurd own

scope_lawful : (settings : Settings) (scope : Meanings) (reach : Reach) (d : Declaration) → IsScopeLawful scope → IsLawful 32 reach → IsScopeLawful (scope_after settings scope reach d)
scope_lawful settings scope reach (ParameterRange bounds) all own = all
scope_lawful settings scope reach (SignalRange bounds) all own = all
scope_lawful settings scope reach (Listed name) all own = all
scope_lawful settings scope reach (Signal form signed name) all own =
    entered_lawful scope name.text numberless all tt
scope_lawful settings scope reach (Parameter kind name value) all own =
    entered_lawful scope name.text _ all (parameter_lawful reach (set_or (given_to settings kind name.text) (value_of (numbers_in scope) value)) own)
scope_lawful settings scope reach (Integer name) all own = entered_lawful scope name.text (known.Integer None) all tt
scope_lawful settings scope reach (Instance name) all own = entered_lawful scope name.text numberless all tt

parameter_reach : (settings : Settings) (scope : Meanings) (reach : Reach) (d : Declaration) → draft_faults settings scope d ≡ [] → IsLawful 32 reach → IsLawful 32 (draft.reach_after scope reach d)
parameter_reach settings scope reach (ParameterRange bounds) h own = range_lawful 32 (numbers_in scope) bounds h
parameter_reach settings scope reach (SignalRange bounds) h own = own
parameter_reach settings scope reach (Listed name) h own = own
parameter_reach settings scope reach (Signal form signed name) h own = own
parameter_reach settings scope reach (Parameter kind name value) h own = own
parameter_reach settings scope reach (Integer name) h own = own
parameter_reach settings scope reach (Instance name) h own = own

pub draft_lawful : (settings : Settings) (so_far : Draft) (ds : List Declaration) → all_draft_faults settings so_far ds ≡ [] → IsScopeLawful so_far.scope → IsLawful 32 so_far.reach → IsScopeLawful (all_drafted settings so_far ds).scope
draft_lawful settings so_far [] h all own = all
draft_lawful settings so_far (d ∷ ds) h all own =
    draft_lawful settings (drafted settings so_far d) ds (nil_right (draft_faults settings so_far.scope d) _ h) (scope_lawful settings so_far.scope so_far.reach d all own) (parameter_reach settings so_far.scope so_far.reach d (nil_left (draft_faults settings so_far.scope d) _ h) own)
